use Rattle.std.proofs.Common.{rules}
use Rattle.sol_arena.specs.Arenas.{slots_of, made_of}
use Rattle.vg_front.proofs.ClimbLemmas.{turning, two_held, turn_lost, upper_part, turn_given, turn_parts}
use Rattle.vg_front.proofs.climb.turn.Goals as goal

pub take_in-requires-clause-held : goal.take_in-requires-clause-held
take_in-requires-clause-held c =
    let at = turning c.args.p.now _ c.in-Some.ensures.items (search rules) c.requires.more c.requires.within c.as_slice.ensures
    c.replace-upper.ensures.value
    c.index_mut.ensures.value c.replace-upper.ensures.after in
    two_held at (slots_of c.args.arena.now) c.requires.held

pub take_in-requires-clause-upper : goal.take_in-requires-clause-upper
take_in-requires-clause-upper c =
    let at = turning c.args.p.now _ c.in-Some.ensures.items (search rules) c.requires.more c.requires.within c.as_slice.ensures
    c.replace-upper.ensures.value
    c.index_mut.ensures.value c.replace-upper.ensures.after in
    upper_part at c.args.cap (made_of c.args.arena.now) c.requires.parts

pub returns-in_err-parts-clause-given : goal.returns-in_err-parts-clause-given
returns-in_err-parts-clause-given c =
    let at = turning c.args.p.now _ c.in-Some.ensures.items (search rules) c.requires.more c.requires.within c.as_slice.ensures
    c.replace-upper.ensures.value
    c.index_mut.ensures.value c.replace-upper.ensures.after in
    turn_lost at (slots_of c.args.arena.now) (slots_of c.take_in.new.arena) c.in_err-parts.ensures.given

pub returns-clause-given : goal.returns-clause-given
returns-clause-given c =
    let at = turning c.args.p.now _ c.in-Some.ensures.items (search rules) c.requires.more c.requires.within c.as_slice.ensures
    c.replace-upper.ensures.value
    c.index_mut.ensures.value c.replace-upper.ensures.after in
    turn_given at c.in_ok-parts.field-0 (slots_of c.args.arena.now) (slots_of c.take_in.new.arena) c.in_ok-parts.ensures.given

pub returns-clause-parts : goal.returns-clause-parts
returns-clause-parts c =
    let at = turning c.args.p.now _ c.in-Some.ensures.items (search rules) c.requires.more c.requires.within c.as_slice.ensures
    c.replace-upper.ensures.value
    c.index_mut.ensures.value c.replace-upper.ensures.after in
    turn_parts at c.in_ok-parts.field-0 c.args.cap c.args.arena.now c.take_in.new.arena c.requires.held c.in_ok-parts.ensures.given c.requires.parts
    c.in_ok-parts.ensures.part
