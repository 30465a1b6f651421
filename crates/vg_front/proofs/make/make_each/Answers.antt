use Rattle.std.proofs.Common.{rules, ◌<◌, ◌+◌, List, [], length, get_or, sym, subst}
use Rattle.std.proofs.lemmas.List.Elements.{Contains-get_or}
use Rattle.sol_arena.specs.Arenas.{slots_of}
use Rattle.vg_front.specs.declared.offer.Candidate.{Candidate}
use Rattle.vg_front.specs.Held.{AreHeld, IsGiven}
use Rattle.vg_front.proofs.ListLemmas.{any_default}
use Rattle.vg_front.proofs.MakeLemmas.{AreMaking, making_begins, making_may, making_on, making_lost, making_ends, making_held}
use Rattle.vg_front.proofs.make.make_each.Goals as goal

pub proposals-init : goal.proposals-init
proposals-init c =
    let (xs, held, from) = c.requires.from in
    record { xs = xs; from = from; at = making_begins c.args.arena.now xs c.args.proposals.now c.args.made.now.items held c.requires.none }

pub add-requires : goal.add-requires
add-requires c =
    let inside : c.proposals.x-index < length c.args.proposals.now = search rules in
    let some = c.proposals.invariant in
    let p = get_or c.args.proposals.now c.proposals.x-index _ in
    making_may c.args.arena.now c.proposals.arena c.proposals.arena some.xs c.args.proposals.now c.proposals.x-index c.proposals.made.items p some.at inside
    (any_default c.args.proposals.now c.proposals.x-index _ p inside) (some.from p (Contains-get_or c.args.proposals.now c.proposals.x-index _ inside))

pub proposals-preserved : goal.proposals-preserved
proposals-preserved c =
    let inside : c.proposals.x-index < length c.args.proposals.now = search rules in
    let some = c.proposals.invariant in
    let p = get_or c.args.proposals.now c.proposals.x-index _ in
    let (z, made_is, is) = c.in_ok-add.ensures.added in
    record {
      xs = some.xs;
      from = some.from;
      at =
          subst (λ (zs : List Candidate). AreMaking c.args.arena.now some.xs c.args.proposals.now (c.proposals.x-index + 1) zs c.add.new.arena)
          (sym made_is)
          (making_on c.args.arena.now c.proposals.arena c.add.new.arena some.xs c.args.proposals.now c.proposals.x-index c.proposals.made.items p some.at
          inside
          (any_default c.args.proposals.now c.proposals.x-index _ p inside)
          (some.from p (Contains-get_or c.args.proposals.now c.proposals.x-index _ inside)) z is);
    }

pub returns-in_err-add-clause-held : goal.returns-in_err-add-clause-held
returns-in_err-add-clause-held c =
    let some = c.proposals.invariant in
    subst (AreHeld (slots_of c.add.new.arena)) (sym c.in_err-add.ensures.unchanged)
    (making_lost c.args.arena.now c.proposals.arena c.add.new.arena some.xs c.args.proposals.now c.proposals.x-index c.proposals.made.items some.at
    c.in_err-add.ensures.gone).0

pub returns-in_err-add-clause-given : goal.returns-in_err-add-clause-given
returns-in_err-add-clause-given c =
    let some = c.proposals.invariant in
    subst (IsGiven (slots_of c.args.arena.now) [] (slots_of c.add.new.arena)) (sym c.in_err-add.ensures.unchanged)
    (making_lost c.args.arena.now c.proposals.arena c.add.new.arena some.xs c.args.proposals.now c.proposals.x-index c.proposals.made.items some.at
    c.in_err-add.ensures.gone).1

pub returns-clause-held : goal.returns-clause-held
returns-clause-held c =
    let some = c.proposals.invariant in
    making_held c.args.arena.now c.proposals.arena some.xs c.args.proposals.now c.proposals.x-index c.proposals.made.items some.at

pub returns-clause-all : goal.returns-clause-all
returns-clause-all c =
    let some = c.proposals.invariant in
    making_ends c.args.arena.now c.proposals.arena some.xs c.args.proposals.now c.proposals.x-index c.proposals.made.items some.at (search rules)
