use Rattle.std.proofs.Common.{ap, ◌∙◌, pos, Vec, Global}
use Rattle.elmore.specs.declared.pair.Pair.{Pair}
use Rattle.cand_pairs.proofs.SweepLemmas.{more_later, more_not_later}
use Rattle.cand_pairs.proofs.lists.sweep.Goals as goal
use Rattle.cand_pairs.proofs.lists.sweep.Goals.{then-is_later+in_ok-push, else-is_later}

pub is_later-requires : goal.is_later-requires
is_later-requires c = rw c.deref.ensures.value c.sweep.invariant.rising

pub sweep-preserved : goal.sweep-preserved
sweep-preserved c =
    elim c.if-is_later.branch [
      | then-is_later+in_ok-push w ↦
          more_later c.args.sorted.now c.sweep.kept.items c.if-is_later.kept.items c.sweep.pair-index (record { q = pos 0; c = 0 }) c.sweep-test.true c.requires
          c.sweep.invariant (rw c.deref.ensures.value at w.if-is_later.ensures)
          (ap (λ (v : Vec Pair Global). v.items) w.kept-is ∙ w.in_ok-push.ensures.items)
      | else-is_later w ↦
          rw w.kept-is
          (more_not_later c.args.sorted.now c.sweep.kept.items c.sweep.pair-index (record { q = pos 0; c = 0 }) c.sweep-test.true c.requires
          c.sweep.invariant (rw c.deref.ensures.value at w.if-is_later.ensures))
    ]
