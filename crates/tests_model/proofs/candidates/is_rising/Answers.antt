use Rattle.std.proofs.Common.{pos, rules, false, ℤ, ◌<ℤ◌, ℕ, ◌+◌, ◌-◌, ◌<◌, List, arith, inl, inr, ◌≡◌, length, slice_index_or}
use Rattle.std.proofs.lemmas.Bool.{cases_eq}
use Rattle.std.proofs.lemmas.Int.{ints, to_z-of_z}
use Rattle.std.specs.Int.Signed.{le_z}
use mir.Val.{SFits}
use mir.Syntax.{w128}
use Rattle.std.proofs.lemmas.List.{get_or_default}
use Rattle.elmore.specs.Pairs.{IsBelow}
use Rattle.elmore.specs.declared.pair.Pair.{Pair}
use Rattle.tests_model.proofs.candidates.is_rising.Goals as goal

not_le : (a b : ℤ) → le_z a b ≡ false → b <ℤ a
not_le a b e = search rules

below_trans : (x y z : Pair) → IsBelow x y → IsBelow y z → IsBelow x z
below_trans x y z x_y y_z = record { time = omega (arith, ints, x_y.time, y_z.time); room = omega (arith, x_y.room, y_z.room) }

below_read : (xs : List Pair) (i j : ℕ) (d e : Pair) → i < length xs → j < length xs → IsBelow (slice_index_or xs i e) (slice_index_or xs j e)
    → IsBelow (slice_index_or xs i d) (slice_index_or xs j d)
below_read xs i j d e i_n j_n below = rw (get_or_default xs i d e i_n, get_or_default xs j d e j_n) below

rising_more : (xs : List Pair) (i : ℕ) → 0 < i → i < length xs → ((e : Pair) → IsBelow (slice_index_or xs (i - 1) e) (slice_index_or xs i e))
    → ((k j : ℕ) (d : Pair) → k < j → j < i → IsBelow (slice_index_or xs k d) (slice_index_or xs j d))
    → (k j : ℕ) (d : Pair) → k < j → j < i + 1 → IsBelow (slice_index_or xs k d) (slice_index_or xs j d)
rising_more xs i i_0 i_n next before k j d k_j j_i =
    elim (cases_eq j i) [
      | inr j_low ↦ before k j d k_j (omega arith)
      | inl e_j ↦
          rw e_j
          (elim (cases_eq k (i - 1)) [
            | inl e_k ↦ rw e_k (next d)
            | inr k_low ↦ below_trans _ _ _ (before k (i - 1) d (omega arith) (omega arith)) (next d)
          ])
    ]

pub pairs-preserved : goal.pairs-preserved
pairs-preserved c =
    let zero : Pair = record { q = pos 0; c = 0 } in
    let f : SFits w128 (slice_index_or c.args.pairs.now c.pairs.i (record { q = pos 0; c = 0 })).q = search rules in
    let g : SFits w128 (slice_index_or c.args.pairs.now (c.pairs.i - 1) (record { q = pos 0; c = 0 })).q = search rules in
    let later : (slice_index_or c.args.pairs.now (c.pairs.i - 1) (record { q = pos 0; c = 0 })).q <ℤ (slice_index_or c.args.pairs.now c.pairs.i (record { q = pos 0; c = 0 })).q =
    not_le _ _ (rw (
      to_z-of_z w128 (slice_index_or c.args.pairs.now c.pairs.i (record { q = pos 0; c = 0 })).q f,
      to_z-of_z w128 (slice_index_or c.args.pairs.now (c.pairs.i - 1) (record { q = pos 0; c = 0 })).q g,
    ) at c.if-pairs-i.false) in
    rising_more c.args.pairs.now c.pairs.i (omega arith) (omega arith)
    (λ e. below_read c.args.pairs.now (c.pairs.i - 1) c.pairs.i e zero (omega arith) (omega arith) (record { time = omega (arith, ints, later); room = c.if-pairs-i-2.false }))
    c.pairs.invariant

pub returns : goal.returns
returns c = λ _ i j d i_j j_n. c.pairs.invariant i j d i_j (omega arith)
