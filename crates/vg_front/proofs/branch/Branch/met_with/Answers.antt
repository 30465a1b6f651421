use Rattle.std.proofs.Common.{true, false, [], ◌++◌, sym, subst, List}
use Rattle.sol_arena.specs.Arenas.{slots_of, made_of}
use Rattle.vg_front.specs.declared.offer.Candidate.{Candidate}
use Rattle.vg_front.specs.Branches.{list_of, all_of}
use Rattle.vg_front.specs.Held.{AreBounded, AreHeld, MeanTheSame}
use Rattle.vg_front.specs.Joining.{AreAllApart, AreMet}
use Rattle.vg_front.proofs.GoneLemmas.{class_held, upper_same, lower_same}
use Rattle.vg_front.proofs.HeldLemmas.{given_then}
use Rattle.vg_front.proofs.JoinLemmas.{met_later, met_sooner, apart_later}
use Rattle.vg_front.proofs.PlaceLemmas.{first_held, first_same, given_both, given_none_more, alone_held, by_class}
use Rattle.vg_front.proofs.branch.Branch.met_with.Goals as goal

pub meet_all-requires-clause-bounded_first : goal.meet_all-requires-clause-bounded_first
meet_all-requires-clause-bounded_first c = subst (λ (xs : List Candidate). AreBounded xs) (sym c.deref.ensures.value) (c.requires.bounded_upper false)

pub meet_all-requires-clause-bounded_second : goal.meet_all-requires-clause-bounded_second
meet_all-requires-clause-bounded_second c = subst (λ (xs : List Candidate). AreBounded xs) (sym c.deref-2.ensures.value) (c.requires.bounded_lower false)

pub meet_all-requires-clause-held : goal.meet_all-requires-clause-held
meet_all-requires-clause-held c =
    subst (λ (xs : List Candidate). AreHeld (slots_of c.args.arena.now) (xs ++ c.deref-2.result.now)) (sym c.deref.ensures.value)
    (subst (λ (ys : List Candidate). AreHeld (slots_of c.args.arena.now) (c.args.self.now.even.items ++ ys)) (sym c.deref-2.ensures.value)
    (class_held (slots_of c.args.arena.now) c.args.self.now c.args.lower.now false c.requires.held))

pub meet_all-requires-clause-apart : goal.meet_all-requires-clause-apart
meet_all-requires-clause-apart c =
    subst (λ (xs : List Candidate). AreAllApart (made_of c.args.arena.now) xs c.deref-2.result.now) (sym c.deref.ensures.value)
    (subst (λ (ys : List Candidate). AreAllApart (made_of c.args.arena.now) c.args.self.now.even.items ys) (sym c.deref-2.ensures.value)
    (c.requires.apart false))

pub meet_all-requires-2-clause-bounded_first : goal.meet_all-requires-2-clause-bounded_first
meet_all-requires-2-clause-bounded_first c = subst (λ (xs : List Candidate). AreBounded xs) (sym c.deref-3.ensures.value) (c.requires.bounded_upper true)

pub meet_all-requires-2-clause-bounded_second : goal.meet_all-requires-2-clause-bounded_second
meet_all-requires-2-clause-bounded_second c = subst (λ (xs : List Candidate). AreBounded xs) (sym c.deref-4.ensures.value) (c.requires.bounded_lower true)

pub meet_all-requires-2-clause-held : goal.meet_all-requires-2-clause-held
meet_all-requires-2-clause-held c =
    subst (λ (xs : List Candidate). AreHeld (slots_of c.meet_all.new.arena) (xs ++ c.deref-4.result.now)) (sym c.deref-3.ensures.value)
    (subst (λ (ys : List Candidate). AreHeld (slots_of c.meet_all.new.arena) (c.args.self.now.odd.items ++ ys)) (sym c.deref-4.ensures.value)
    (class_held (slots_of c.meet_all.new.arena) c.args.self.now c.args.lower.now true
    (first_held c.args.arena.now c.meet_all.new.arena (all_of c.args.self.now ++ all_of c.args.lower.now) c.in_ok-even.even.items c.requires.held
    c.in_ok-even.ensures.given)))

pub meet_all-requires-2-clause-apart : goal.meet_all-requires-2-clause-apart
meet_all-requires-2-clause-apart c =
    let same : MeanTheSame (made_of c.args.arena.now) (made_of c.meet_all.new.arena) (all_of c.args.self.now ++ all_of c.args.lower.now)
    = first_same c.args.arena.now c.meet_all.new.arena
    (all_of c.args.self.now ++ all_of c.args.lower.now) c.in_ok-even.even.items c.requires.held c.in_ok-even.ensures.given in
    subst (λ (xs : List Candidate). AreAllApart (made_of c.meet_all.new.arena) xs c.deref-4.result.now) (sym c.deref-3.ensures.value)
    (subst (λ (ys : List Candidate). AreAllApart (made_of c.meet_all.new.arena) c.args.self.now.odd.items ys) (sym c.deref-4.ensures.value)
    (apart_later (made_of c.args.arena.now) (made_of c.meet_all.new.arena) c.args.self.now.odd.items c.args.lower.now.odd.items
    (upper_same (made_of c.args.arena.now) (made_of c.meet_all.new.arena) c.args.self.now c.args.lower.now true same)
    (lower_same (made_of c.args.arena.now) (made_of c.meet_all.new.arena) c.args.self.now c.args.lower.now true same) (c.requires.apart true)))

pub give_up-requires : goal.give_up-requires
give_up-requires c =
    alone_held (slots_of c.args.arena.now) (slots_of c.meet_all-2.new.arena) c.in_ok-even.even.items
    (given_none_more (slots_of c.args.arena.now) (slots_of c.meet_all.new.arena) (slots_of c.meet_all-2.new.arena) c.in_ok-even.even.items
    c.in_ok-even.ensures.given
    c.in-Err.ensures.given)

pub returns-in-Err-clause-given : goal.returns-in-Err-clause-given
returns-in-Err-clause-given c =
    given_then (slots_of c.args.arena.now) (slots_of c.meet_all-2.new.arena) (slots_of c.give_up.new.arena) [] c.in_ok-even.even.items []
    (given_none_more (slots_of c.args.arena.now) (slots_of c.meet_all.new.arena) (slots_of c.meet_all-2.new.arena) c.in_ok-even.even.items
    c.in_ok-even.ensures.given
    c.in-Err.ensures.given) c.give_up.ensures

pub returns-in-Ok-clause-given : goal.returns-in-Ok-clause-given
returns-in-Ok-clause-given c =
    given_both (slots_of c.args.arena.now) (slots_of c.meet_all.new.arena) (slots_of c.meet_all-2.new.arena) c.in_ok-even.even.items c.in-Ok.odd.items
    c.in_ok-even.ensures.given
    c.in-Ok.ensures.given

pub returns-in-Ok-clause-met : goal.returns-in-Ok-clause-met
returns-in-Ok-clause-met c =
    let same : MeanTheSame (made_of c.args.arena.now) (made_of c.meet_all.new.arena) (all_of c.args.self.now ++ all_of c.args.lower.now)
    = first_same c.args.arena.now c.meet_all.new.arena
    (all_of c.args.self.now ++ all_of c.args.lower.now) c.in_ok-even.even.items c.requires.held c.in_ok-even.ensures.given in
    by_class (λ o zs. AreMet c.args.cap (made_of c.args.arena.now) (made_of c.meet_all-2.new.arena) (list_of c.args.self.now o)
    (list_of c.args.lower.now o) zs)
    (record { even = c.in_ok-even.even; odd = c.in-Ok.odd })
    (met_later c.args.cap (made_of c.args.arena.now) (made_of c.meet_all.new.arena) (made_of c.meet_all-2.new.arena) c.args.self.now.even.items
    c.args.lower.now.even.items
    c.in_ok-even.even.items
    (first_same c.meet_all.new.arena c.meet_all-2.new.arena c.in_ok-even.even.items c.in-Ok.odd.items
    (alone_held (slots_of c.args.arena.now) (slots_of c.meet_all.new.arena) c.in_ok-even.even.items c.in_ok-even.ensures.given) c.in-Ok.ensures.given)
    (subst (λ (xs : List Candidate). AreMet c.args.cap (made_of c.args.arena.now) (made_of c.meet_all.new.arena) xs c.args.lower.now.even.items
    c.in_ok-even.even.items) c.deref.ensures.value
    (subst (λ (ys : List Candidate). AreMet c.args.cap (made_of c.args.arena.now) (made_of c.meet_all.new.arena) c.deref.result.now ys
    c.in_ok-even.even.items) c.deref-2.ensures.value
    c.in_ok-even.ensures.met)))
    (met_sooner c.args.cap (made_of c.args.arena.now) (made_of c.meet_all.new.arena) (made_of c.meet_all-2.new.arena) c.args.self.now.odd.items
    c.args.lower.now.odd.items
    c.in-Ok.odd.items (upper_same (made_of c.args.arena.now) (made_of c.meet_all.new.arena) c.args.self.now c.args.lower.now true same)
    (lower_same (made_of c.args.arena.now) (made_of c.meet_all.new.arena) c.args.self.now c.args.lower.now true same)
    (subst (λ (xs : List Candidate). AreMet c.args.cap (made_of c.meet_all.new.arena) (made_of c.meet_all-2.new.arena) xs c.args.lower.now.odd.items
    c.in-Ok.odd.items) c.deref-3.ensures.value
    (subst (λ (ys : List Candidate). AreMet c.args.cap (made_of c.meet_all.new.arena) (made_of c.meet_all-2.new.arena) c.deref-3.result.now ys
    c.in-Ok.odd.items) c.deref-4.ensures.value
    c.in-Ok.ensures.met)))
