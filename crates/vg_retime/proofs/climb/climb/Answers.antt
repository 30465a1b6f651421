use Rattle.std.proofs.Common.{◌≡◌, ℕ, List, [], ◌∷◌, ◌++◌, sym, ap, ◌∙◌, length, refl, arith, subst}
use Rattle.std.proofs.lemmas.List.{length-append}
use Rattle.std.proofs.lemmas.Result.{err_from_is_err_and}
use Rattle.elmore.specs.Problems.{IsDriverWithin}
use Rattle.vg_retime.specs.Steps.{IsAboveWithin}
use Rattle.vg_retime.proofs.ClimbLemmas.{begin_climb, climb_first, climb_ends, climb_lost, climb_next, climb_refused, climbs_again, was_new, was_there}
use Rattle.vg_retime.proofs.climb.climb.Goals as goal

pub up-init : goal.up-init
up-init c = begin_climb c.args.design.now c.args.prefix.now c.args.id _ c.none-come.ensures c.requires

pub returns-in_err-net-clause-refused : goal.returns-in_err-net-clause-refused
returns-in_err-net-clause-refused c =
    let p = err_from_is_err_and c.from_residual-in_err-net.result c.from_residual-in_err-net.ensures.1 in
    rw (p.1, p.2) (climb_refused c.args.design.now c.args.prefix.now c.args.id c.up.at c.up.come c.up.invariant (was_new _ _ c.in_ok-note.ensures.first c.if-branch.true) c.in_err-net.field-0.0 c.in_err-net.ensures.refused)

pub returns-in-Open-clause-refused : goal.returns-in-Open-clause-refused
returns-in-Open-clause-refused c = climb_lost c.args.design.now c.args.prefix.now c.args.id c.up.at c.up.come c.up.invariant (was_new _ _ c.in_ok-note.ensures.first c.if-branch.true) c.in_ok-net.net c.in_ok-net.ensures.net (sym (ap (λ n. n.above) c.net.view_is) ∙ c.in-Open.is)

pub returns-in-First-clause-first : goal.returns-in-First-clause-first
returns-in-First-clause-first c = climb_first c.args.design.now c.args.prefix.now c.args.id c.up.at c.up.come c.up.invariant (was_new _ _ c.in_ok-note.ensures.first c.if-branch.true) c.in_ok-net.net c.in_ok-net.ensures.net _ refl (ap (λ n. n.driver) c.net.view_is) (sym (ap (λ n. n.above) c.net.view_is) ∙ c.in-First.is)

pub returns-in-First-clause-within : goal.returns-in-First-clause-within
returns-in-First-clause-within c = record { net = c.up.invariant.within; driver = subst IsDriverWithin (sym (ap (λ n. n.driver) c.net.view_is)) c.in_ok-net.ensures.sized.driver }

pub returns-clause-refused : goal.returns-clause-refused
returns-clause-refused c = climbs_again c.args.design.now c.args.prefix.now c.args.id c.up.at c.up.come c.up.invariant (was_there _ _ c.in_ok-note.ensures.first c.if-branch.false)

pub up-smaller : goal.up-smaller
up-smaller c =
    let is = c.in_ok-note.ensures.last c.if-branch.true in
    let low = climb_ends c.args.design.now c.args.prefix.now c.args.id c.up.at c.up.come c.note.new.self c.up.invariant is c.note.ensures.once in
    let size = length-append c.up.come (c.up.at ∷ []) in
    let more : length c.note.new.self ≡ length (c.up.come ++ c.up.at ∷ []) = ap (λ (ids : List ℕ). length ids) is in omega (arith, low, size, more)

pub up-preserved : goal.up-preserved
up-preserved c =
    climb_next c.args.design.now c.args.prefix.now c.args.id c.up.at c.up.come c.up.invariant (was_new _ _ c.in_ok-note.ensures.first c.if-branch.true) c.in_ok-net.net c.in_ok-net.ensures.net c.in-Net.next c.note.new.self (sym (ap (λ n. n.above) c.net.view_is) ∙ c.in-Net.is)
    (subst (IsAboveWithin (length c.args.design.now.netlist.nets)) (sym (ap (λ n. n.above) c.net.view_is) ∙ c.in-Net.is) c.in_ok-net.ensures.sized.above) (c.in_ok-note.ensures.last c.if-branch.true)
