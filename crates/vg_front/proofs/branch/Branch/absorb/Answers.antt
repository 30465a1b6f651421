use Rattle.std.proofs.Common.{List, [], ◌++◌, sym, subst}
use Rattle.sol_arena.specs.Arenas.{slots_of, made_of}
use Rattle.vg_front.specs.declared.branch.Branch.{Branch}
use Rattle.vg_front.specs.declared.offer.Candidate.{Candidate}
use Rattle.vg_front.specs.Branches.{all_of}
use Rattle.vg_front.specs.Held.{IsGiven, MeanTheSame, IsBlend}
use Rattle.vg_front.proofs.HeldLemmas.{given_then}
use Rattle.vg_front.proofs.TwoLemmas.{second_held, mid_given, both_given, both_same, given_named, crossed_held, crossed_given, blend_part, held_named}
use Rattle.vg_front.proofs.branch.Branch.absorb.Goals as goal

pub give_up-requires-then-is_err : goal.give_up-requires-then-is_err
give_up-requires-then-is_err c = record {
  held = second_held c.args.arena.now c.give_up.new.arena (all_of c.args.self) [] (all_of c.args.other) c.requires.held c.give_up.ensures.given;
}

pub returns-then-is_err-clause-given : goal.returns-then-is_err-clause-given
returns-then-is_err-clause-given c =
    given_then (slots_of c.args.arena.now) (slots_of c.give_up.new.arena) (slots_of c.give_up-then-is_err.new.arena)
    (all_of c.args.self ++ all_of c.args.other)
    (all_of c.args.other) []
    (mid_given c.args.arena.now c.give_up.new.arena (all_of c.args.self) [] (all_of c.args.other) c.requires.held c.give_up.ensures.given)
    c.give_up-then-is_err.ensures.given

pub blend-requires-2-clause-held : goal.blend-requires-2-clause-held
blend-requires-2-clause-held c =
    held_named (slots_of c.blend.new.arena) c.deref-3.result.now c.args.self.odd.items c.deref-4.result.now c.args.other.odd.items
    c.deref-3.ensures.value c.deref-4.ensures.value
    (second_held c.args.arena.now c.blend.new.arena (c.args.self.even.items ++ c.args.other.even.items) c.blend.new.all.items
    (c.args.self.odd.items ++ c.args.other.odd.items)
    (crossed_held (slots_of c.args.arena.now) c.args.self.even.items c.args.self.odd.items c.args.other.even.items c.args.other.odd.items
    c.requires.held) (given_named (slots_of c.args.arena.now) (slots_of c.blend.new.arena) c.deref.result.now c.args.self.even.items
    c.deref-2.result.now c.args.other.even.items
    c.blend.new.all.items c.deref.ensures.value c.deref-2.ensures.value c.blend.ensures.given))

pub returns-clause-given : goal.returns-clause-given
returns-clause-given c =
    crossed_given (slots_of c.args.arena.now) (slots_of c.blend-2.new.arena) c.args.self.even.items c.args.self.odd.items c.args.other.even.items
    c.args.other.odd.items
    (all_of c.replace.result)
    (subst (λ (b : Branch). IsGiven (slots_of c.args.arena.now)
    ((c.args.self.even.items ++ c.args.other.even.items) ++ (c.args.self.odd.items ++ c.args.other.odd.items)) (slots_of c.blend-2.new.arena)
    (all_of b)) (sym c.replace.ensures.value)
    (both_given c.args.arena.now c.blend.new.arena (c.args.self.even.items ++ c.args.other.even.items) c.blend.new.all.items
    (c.args.self.odd.items ++ c.args.other.odd.items)
    (crossed_held (slots_of c.args.arena.now) c.args.self.even.items c.args.self.odd.items c.args.other.even.items c.args.other.odd.items
    c.requires.held) (given_named (slots_of c.args.arena.now) (slots_of c.blend.new.arena) c.deref.result.now c.args.self.even.items
    c.deref-2.result.now c.args.other.even.items
    c.blend.new.all.items c.deref.ensures.value c.deref-2.ensures.value c.blend.ensures.given)
    c.blend-2.new.arena c.blend-2.new.all.items (given_named (slots_of c.blend.new.arena) (slots_of c.blend-2.new.arena) c.deref-3.result.now
    c.args.self.odd.items c.deref-4.result.now c.args.other.odd.items
    c.blend-2.new.all.items c.deref-3.ensures.value c.deref-4.ensures.value c.blend-2.ensures.given)))

pub returns-clause-same : goal.returns-clause-same
returns-clause-same c =
    subst (λ (b : Branch). MeanTheSame (made_of c.args.arena.now) (made_of c.blend-2.new.arena) (all_of b)) (sym c.replace.ensures.value)
    (both_same c.args.arena.now c.blend.new.arena (c.args.self.even.items ++ c.args.other.even.items) c.blend.new.all.items
    (c.args.self.odd.items ++ c.args.other.odd.items)
    (crossed_held (slots_of c.args.arena.now) c.args.self.even.items c.args.self.odd.items c.args.other.even.items c.args.other.odd.items
    c.requires.held) (given_named (slots_of c.args.arena.now) (slots_of c.blend.new.arena) c.deref.result.now c.args.self.even.items
    c.deref-2.result.now c.args.other.even.items
    c.blend.new.all.items c.deref.ensures.value c.deref-2.ensures.value c.blend.ensures.given)
    c.blend-2.new.arena c.blend-2.new.all.items (given_named (slots_of c.blend.new.arena) (slots_of c.blend-2.new.arena) c.deref-3.result.now
    c.args.self.odd.items c.deref-4.result.now c.args.other.odd.items
    c.blend-2.new.all.items c.deref-3.ensures.value c.deref-4.ensures.value c.blend-2.ensures.given) c.blend.ensures.same c.blend-2.ensures.same
    (blend_part c.args.self.odd.items c.args.other.odd.items c.blend-2.new.all.items
    (subst (λ (l : List Candidate). IsBlend l c.args.other.odd.items c.blend-2.new.all.items) c.deref-3.ensures.value
    (subst (λ (l : List Candidate). IsBlend c.deref-3.result.now l c.blend-2.new.all.items) c.deref-4.ensures.value c.blend-2.ensures.blend))))
