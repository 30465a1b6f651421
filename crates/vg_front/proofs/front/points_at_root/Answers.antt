use Rattle.std.proofs.Common.{◌≡◌, true, false, List, sym, ◌∙◌, subst}
use Rattle.sol_arena.specs.Arenas.{slots_of, made_of}
use Rattle.cand_pairs.specs.Priced.{IsPricedPart, IsPricedAt}
use Rattle.cand_pairs.specs.Solutions.{IsSolutionOf}
use Rattle.cand_pairs.proofs.CoverLemmas.{root_live}
use Rattle.cand_pairs.proofs.TurnLemmas.{part_is_dead}
use Rattle.vg_front.specs.Branches.{list_of}
use Rattle.vg_front.specs.Fronts.{In, AreSolved, IsOpenAt, IsClosedAt}
use Rattle.vg_front.specs.Held.{AreHeld, AreBounded}
use Rattle.vg_front.specs.Parts.{held_in, IsPart}
use Rattle.vg_front.specs.declared.offer.Candidate.{Candidate}
use Rattle.vg_front.specs.declared.part.Part.{Part}
use Rattle.vg_front.proofs.BoundLemmas.{open_bounded}
use Rattle.vg_front.proofs.CloseLemmas.{bare_closed}
use Rattle.vg_front.proofs.TwoLemmas.{front_held}
use Rattle.vg_front.proofs.front.points_at_root.Goals as goal

pub unreachable-requires : goal.unreachable-requires
unreachable-requires c =
    let p = c.args.p.now in
    let part = subst (IsPart p c.args.cap 1 0 (made_of c.args.arena.now)) c.in_default.is c.requires.part in
    absurd (let clash : true ≡ false = sym (root_live p) ∙ part_is_dead p 0 c.in_default.field-0 p.tree.a_tree.some_node part in cc)

pub points-found-requires : goal.points-found-requires
points-found-requires c =
    let p = c.args.p.now in
    let ms = made_of c.args.arena.now in
    let branch = c.in-Live.branch in
    let opens : IsOpenAt p c.args.cap 1 0 ms (list_of branch) = subst (IsPart p c.args.cap 1 0 ms) c.in-Live.is c.requires.part in
    let closed : IsClosedAt p c.args.cap 0 ms (list_of branch)
    = bare_closed p c.args.cap 0 p.tree.a_tree.some_node ms (list_of branch) opens p.places_are.root in
    let held = subst (λ (part : Part). AreHeld (slots_of c.args.arena.now) (held_in part)) c.in-Live.is c.requires.held in
    let here = sym c.deref.ensures.value in
    record {
      bounded = subst AreBounded here (open_bounded p c.args.cap 1 0 ms (list_of branch) p.tree.a_tree.some_node opens false);
      held = subst (AreHeld (slots_of c.args.arena.now)) here (front_held (slots_of c.args.arena.now) branch.even.items branch.odd.items held);
      part = subst (λ (xs : List Candidate). IsPricedPart c.args.cap (In xs) (IsPricedAt p 0 false)) here (closed.part false);
      solved = subst (AreSolved p (IsSolutionOf p 0 false) ms) here (closed.solved false);
    }
