use Rattle.std.proofs.Common.{ap, ◌∙◌, arith, ◌∷◌, [], ◌++◌, length, inl, inr, ◌+◌, ◌≤◌, ◌⊎◌}
use Rattle.std.proofs.lemmas.Int.{ints}
use Rattle.elmore.specs.declared.pair.Pair.{Pair}
use Rattle.cand_pairs.proofs.MeetLemmas.{Moved, merging_more, merging_all}
use Rattle.cand_pairs.proofs.lists.meet_all.Goals as goal
use Rattle.cand_pairs.proofs.lists.meet_all.Goals.{then-x-y, else-x-y, then-merge-test+else-j-ys, else-merge-test}

pub merge-preserved-then-y-x : goal.merge-preserved-then-y-x
merge-preserved-then-y-x c =
    merging_more c.args.xs.now c.args.ys.now c.merge.merged.items c.push.new.self.items c.merge.i c.merge.j c.if-x-y.i (c.merge.j + 1)
    c.requires.xs_rise c.requires.ys_rise (omega arith) (omega arith) c.merge.invariant
    (c.in_ok-push.ensures.items ∙ ap (λ (m : Pair). c.merge.merged.items ++ m ∷ []) c.both.ensures)
    (elim c.if-x-y.branch as (λ _. Moved c.args.xs.now c.args.ys.now c.merge.i c.merge.j c.if-x-y.i (c.merge.j + 1)) [
      | then-x-y w ↦ record {
        x_near = (omega arith, omega arith);
        y_near = (omega arith, omega arith);
        x_left = λ on. omega (arith, ints);
        y_left = λ on. omega (arith, ints);
        x_stays = λ same. absurd (omega arith);
        y_stays = λ same. absurd (omega arith);
      }
      | else-x-y w ↦ record {
        x_near = (omega arith, omega arith);
        y_near = (omega arith, omega arith);
        x_left = λ on. absurd (omega arith);
        y_left = λ on. omega (arith, ints);
        x_stays = λ same. omega (arith, ints);
        y_stays = λ same. absurd (omega arith);
      }
    ])

pub merge-preserved : goal.merge-preserved
merge-preserved c =
    merging_more c.args.xs.now c.args.ys.now c.merge.merged.items c.push.new.self.items c.merge.i c.merge.j c.if-x-y.i c.merge.j
    c.requires.xs_rise c.requires.ys_rise (omega arith) (omega arith) c.merge.invariant
    (c.in_ok-push.ensures.items ∙ ap (λ (m : Pair). c.merge.merged.items ++ m ∷ []) c.both.ensures)
    (elim c.if-x-y.branch as (λ _. Moved c.args.xs.now c.args.ys.now c.merge.i c.merge.j c.if-x-y.i c.merge.j) [
      | then-x-y w ↦ record {
        x_near = (omega arith, omega arith);
        y_near = (omega arith, omega arith);
        x_left = λ on. omega (arith, ints);
        y_left = λ on. absurd (omega arith);
        x_stays = λ same. absurd (omega arith);
        y_stays = λ same. omega (arith, ints);
      }
      | else-x-y w ↦ absurd (omega (arith, ints))
    ])

pub returns : goal.returns
returns c =
    merging_all c.args.xs.now c.args.ys.now c.merge.merged.items c.merge.i c.merge.j c.merge.invariant
    (elim c.merge-test.branch as (λ _. (length c.args.xs.now ≤ c.merge.i) ⊎ (length c.args.ys.now ≤ c.merge.j)) [
      | then-merge-test+else-j-ys w ↦ inr (omega arith)
      | else-merge-test w ↦ inl (omega arith)
    ])
