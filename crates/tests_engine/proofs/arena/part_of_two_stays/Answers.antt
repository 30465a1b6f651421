use Rattle.std.proofs.Common.{refl, arith}
use Rattle.sol_arena.proofs.OneLemmas.{one_same}
use Rattle.sol_arena.proofs.ReachLemmas.{held_live}
use Rattle.tests_engine.proofs.arena.part_of_two_stays.Goals as goal

pub release-requires-clause-held : goal.release-requires-clause-held
release-requires-clause-held g c = λ some.
    let p = c.in_ok-part.part.0 in
    omega (arith, c.in_ok-part.ensures.new.held p some, c.in_ok-first.ensures.new.held p some, c.in_ok-second.ensures.new.held p some, one_same p p refl)

pub release-requires-clause-live : goal.release-requires-clause-live
release-requires-clause-live g c = λ some.
    let p = c.in_ok-part.part.0 in
    let now = c.cell-3.new.self in
    held_live now p some
    (omega (arith, c.in_ok-part.ensures.new.held p some, c.in_ok-first.ensures.new.held p some, c.in_ok-second.ensures.new.held p some, one_same p p refl))

pub release-requires-2-clause-held : goal.release-requires-2-clause-held
release-requires-2-clause-held g c = λ some.
    let f = c.in_ok-first.first.0 in
    omega (arith, c.in_ok-part.ensures.new.held f some, c.in_ok-first.ensures.new.held f some, c.in_ok-second.ensures.new.held f some, c.release.ensures.held f some, one_same f f refl)

pub release-requires-2-clause-live : goal.release-requires-2-clause-live
release-requires-2-clause-live g c = λ some.
    let f = c.in_ok-first.first.0 in
    let now = c.release.new.self in
    held_live now f some
    (omega (arith, c.in_ok-part.ensures.new.held f some, c.in_ok-first.ensures.new.held f some, c.in_ok-second.ensures.new.held f some, c.release.ensures.held f some, one_same f f refl))

pub release-requires-3-clause-held : goal.release-requires-3-clause-held
release-requires-3-clause-held g c = λ some.
    let s = c.in_ok-second.second.0 in
    omega (arith, c.in_ok-part.ensures.new.held s some, c.in_ok-first.ensures.new.held s some, c.in_ok-second.ensures.new.held s some, c.release.ensures.held s some, c.release-2.ensures.held s some, one_same s s refl)

pub release-requires-3-clause-live : goal.release-requires-3-clause-live
release-requires-3-clause-live g c = λ some.
    let s = c.in_ok-second.second.0 in
    let now = c.release-2.new.self in
    held_live now s some
    (omega (arith, c.in_ok-part.ensures.new.held s some, c.in_ok-first.ensures.new.held s some, c.in_ok-second.ensures.new.held s some, c.release.ensures.held s some, c.release-2.ensures.held s some, one_same s s refl))
