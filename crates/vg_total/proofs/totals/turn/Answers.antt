use Rattle.std.proofs.Common.{rules, ◌≡◌, ℕ, ℤ, List, length, sym, subst, to_z, of_z}
use Rattle.std.proofs.lemmas.Bool.{false≢true}
use Rattle.std.proofs.lemmas.Int.{to_z-of_z}
use Rattle.std.specs.Int.{w128}
use mir.Val.{SFits}
use Rattle.std.specs.List.{sum_by}
use Rattle.elmore.specs.Path.{nodes as numbers}
use Rattle.vg_total.specs.Totals.{IsLeastOf}
use Rattle.vg_total.specs.Picks.{picked_by}
use Rattle.vg_total.specs.Turns.{IsSweepTo, IsMove}
use Rattle.vg_total.proofs.TurnLemmas.{turn_over, turned, nearer}
use Rattle.vg_total.proofs.totals.turn.Goals as goal

pub returns-then-not-is_within-clause-sweep : goal.returns-then-not-is_within-clause-sweep
returns-then-not-is_within-clause-sweep c =
    let fronts = c.args.fronts.now in
    let cost = subst (λ (picks : List ℕ). c.cost_of-cost.result ≡ sum_by (λ k. (picked_by fronts picks k).cost) (numbers (length fronts))) c.deref.ensures.value c.cost_of-cost.ensures in
    turn_over fronts c.args.cap c.args.picks.items c.args.points.now.items c.cost_of-cost.result c.requires.fronts c.requires.sweep cost
    (λ within. false≢true (c.if-not-is_within.ensures.1 within))

pub returns-clause-sweep : goal.returns-clause-sweep
returns-clause-sweep c =
    let fronts = c.args.fronts.now in
    let slack = c.least_of-slack.result in
    let next = c.in_ok-next.next in
    let fits : SFits w128 slack = search rules in
    let cost = subst (λ (picks : List ℕ). c.cost_of-cost.result ≡ sum_by (λ k. (picked_by fronts picks k).cost) (numbers (length fronts))) c.deref.ensures.value c.cost_of-cost.ensures in
    let least = subst (λ (picks : List ℕ). IsLeastOf (length fronts) (picked_by fronts picks) slack) c.deref-2.ensures.value c.least_of-slack.ensures in
    let move = subst (λ (picks : List ℕ). IsMove fronts (to_z w128 (of_z w128 slack)) picks next) c.deref-3.ensures.value c.in_ok-next.ensures in
    subst (IsSweepTo fronts c.args.cap next) (sym c.in_ok-push.ensures.items)
    (turned fronts c.args.cap c.args.points.now.items (record { cost = c.cost_of-cost.result; slack = to_z w128 (of_z w128 slack); picks = c.args.picks }) next
    c.requires.fronts c.requires.sweep
    (record {
      cost = cost;
      least = subst (λ (x : ℤ). IsLeastOf (length fronts) (picked_by fronts c.args.picks.items) x) (sym (to_z-of_z w128 slack fits)) least;
    })
    (c.if-not-is_within.ensures.0 (search rules)) move)

pub returns-clause-nearer : goal.returns-clause-nearer
returns-clause-nearer c =
    let fronts = c.args.fronts.now in
    let slack = c.least_of-slack.result in
    let next = c.in_ok-next.next in
    let fits : SFits w128 slack = search rules in
    let least = subst (λ (picks : List ℕ). IsLeastOf (length fronts) (picked_by fronts picks) slack) c.deref-2.ensures.value c.least_of-slack.ensures in
    let move = subst (λ (picks : List ℕ). IsMove fronts (to_z w128 (of_z w128 slack)) picks next) c.deref-3.ensures.value c.in_ok-next.ensures in
    nearer fronts c.args.cap c.args.points.now.items c.args.picks slack next c.requires.sweep least
    (subst (λ (x : ℤ). IsMove fronts x c.args.picks.items next) (to_z-of_z w128 slack fits) move)
