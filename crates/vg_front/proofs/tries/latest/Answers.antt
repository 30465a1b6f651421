use Rattle.std.proofs.Common.{◌≡◌, ℕ, length, get_or, rules, arith, ap, ◌∙◌, sym, subst, ◌≤ℤ◌}
use Rattle.std.proofs.lemmas.Int.{to_z-of_z}
use Rattle.std.proofs.lemmas.List.Elements.{Contains-get_or}
use Rattle.std.specs.Int.{w128}
use mir.Val.{SFits}
use Rattle.vg_front.specs.Tries.{before, IsLatest}
use Rattle.vg_front.specs.declared.offer.Candidate.{Candidate}
use Rattle.vg_front.proofs.ListLemmas.{any_default}
use Rattle.vg_front.proofs.TryLemmas.{latest_begins, latest_stays, latest_moves}
use Rattle.vg_front.proofs.tries.latest.Goals as goal

pub before-best-requires-clause-bounded : goal.before-best-requires-clause-bounded
before-best-requires-clause-bounded c = c.requires.bounded (get_or c.args.xs.now 0 _) (Contains-get_or c.args.xs.now 0 _ c.requires.some)

pub candidates-init : goal.candidates-init
candidates-init c =
    let fits : SFits w128 c.before-best.result = search rules in
    record {
      latest = latest_begins c.args.xs.now c.args.r;
      best = λ d.
          to_z-of_z w128 c.before-best.result fits ∙ c.before-best.ensures
          ∙ ap (λ (x : Candidate). before c.args.r x.offer) (any_default c.args.xs.now 0 _ d c.requires.some);
    }

pub before-q-requires-clause-bounded : goal.before-q-requires-clause-bounded
before-q-requires-clause-bounded c =
    c.requires.bounded (get_or c.args.xs.now c.candidates.i _) (Contains-get_or c.args.xs.now c.candidates.i _ c.candidates-test.true)

pub candidates-preserved-then-q-best : goal.candidates-preserved-then-q-best
candidates-preserved-then-q-best c =
    let less : c.before-q.result ≤ℤ c.candidates.best = search rules in
    record {
      latest =
          latest_stays c.args.xs.now c.candidates.i c.args.r c.candidates.at c.before-q.result c.candidates.best _ c.candidates-test.true
          c.candidates.invariant.latest (λ d. sym c.candidates.best-is ∙ c.candidates.invariant.best d) c.before-q.ensures less;
      best = c.candidates.invariant.best;
    }

pub candidates-preserved : goal.candidates-preserved
candidates-preserved c =
    let fits : SFits w128 c.before-q.result = search rules in
    let more : c.candidates.best ≤ℤ c.before-q.result = search rules in
    record {
      latest =
          latest_moves c.args.xs.now c.candidates.i c.args.r c.candidates.at c.before-q.result c.candidates.best _ c.candidates-test.true
          c.candidates.invariant.latest (λ d. sym c.candidates.best-is ∙ c.candidates.invariant.best d) c.before-q.ensures more;
      best = λ d.
          to_z-of_z w128 c.before-q.result fits ∙ c.before-q.ensures
          ∙ ap (λ (x : Candidate). before c.args.r x.offer) (any_default c.args.xs.now c.candidates.i _ d c.candidates-test.true);
    }

pub returns : goal.returns
returns c =
    let all : c.candidates.i ≡ length c.args.xs.now = omega (arith, c.requires.some) in
    subst (λ (n : ℕ). IsLatest c.args.xs.now n c.args.r c.candidates.at) all c.candidates.invariant.latest
