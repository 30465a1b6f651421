use Rattle.std.proofs.Common.{subst, List, arith}
use Rattle.sol_arena.specs.Arenas.{slots_of}
use Rattle.vg_front.specs.Held.{IsGiven}
use Rattle.vg_front.specs.declared.offer.Candidate.{Candidate}
use Rattle.vg_front.proofs.HeldLemmas.{is_empty, given_none, giving_up_one, last_in, one_live, one_held}
use Rattle.vg_front.proofs.list.give_up.Goals as goal

pub candidates-init : goal.candidates-init
candidates-init c = record { held = c.requires; given = given_none (slots_of c.args.arena.now) c.args.list.items }

pub release-requires-clause-live : goal.release-requires-clause-live
release-requires-clause-live c =
    one_live c.candidates.arena c.candidates.list.items c.in-Some.x c.candidates.invariant.held
    (last_in c.candidates.list.items c.pop.new.self.items c.in-Some.x c.in-Some.ensures.items)

pub release-requires-clause-held : goal.release-requires-clause-held
release-requires-clause-held c =
    one_held (slots_of c.candidates.arena) c.candidates.list.items c.in-Some.x c.candidates.invariant.held
    (last_in c.candidates.list.items c.pop.new.self.items c.in-Some.x c.in-Some.ensures.items)

pub candidates-preserved : goal.candidates-preserved
candidates-preserved c =
    giving_up_one c.args.arena.now c.candidates.arena c.release.new.self c.args.list.items c.candidates.list.items c.pop.new.self.items c.in-Some.x
    c.candidates.invariant c.in-Some.ensures.items c.release.ensures

pub returns : goal.returns
returns c =
    subst (λ (xs : List Candidate). IsGiven (slots_of c.args.arena.now) c.args.list.items (slots_of c.candidates.arena) xs)
    (is_empty c.candidates.list.items (omega (arith, c.in_default.ensures.cases.0))) c.candidates.invariant.given
