use Rattle.std.proofs.Common.{take, map, ◌≡◌}
use Rattle.std.proofs.lemmas.List.{take_all, length-map}
use Rattle.cand_pairs.specs.Candidates.{wired}
use Rattle.std.proofs.Common.{ap, ◌∙◌, arith, pos, Vec, Global}
use Rattle.elmore.specs.declared.pair.Pair.{Pair}
use Rattle.cand_pairs.proofs.SweepLemmas.{wire_later, wire_not_later, wires_exact}
use Rattle.cand_pairs.proofs.lists.through_wire.Goals as goal
use Rattle.cand_pairs.proofs.lists.through_wire.Goals.{then-is_later+in_ok-push, else-is_later}

pub is_later-requires : goal.is_later-requires
is_later-requires c = rw c.deref.ensures.value c.wire.invariant.rising

pub wire-preserved : goal.wire-preserved
wire-preserved c =
    elim c.if-is_later.branch [
      | then-is_later+in_ok-push w ↦
          wire_later c.args.r c.args.pairs.now c.wire.kept.items c.if-is_later.kept.items c.wire.pair-index c.seen_through-seen.result (record { q = pos 0; c = 0 })
          c.wire-test.true c.requires.rise c.seen_through-seen.ensures c.wire.invariant (rw c.deref.ensures.value at w.if-is_later.ensures)
          (ap (λ (v : Vec Pair Global). v.items) w.kept-is ∙ w.in_ok-push.ensures.items)
      | else-is_later w ↦
          rw w.kept-is
          (wire_not_later c.args.r c.args.pairs.now c.wire.kept.items c.wire.pair-index c.seen_through-seen.result (record { q = pos 0; c = 0 })
          c.wire-test.true c.requires.rise c.seen_through-seen.ensures c.wire.invariant (rw c.deref.ensures.value at w.if-is_later.ensures))
    ]

pub returns : goal.returns
returns c =
    let all : take c.wire.pair-index (map (wired c.args.r) c.args.pairs.now) ≡ map (wired c.args.r) c.args.pairs.now =
    take_all c.wire.pair-index (map (wired c.args.r) c.args.pairs.now) (simp length-map (omega arith)) in
    wires_exact c.args.r c.args.pairs.now c.wire.kept.items (rw all at c.wire.invariant)
