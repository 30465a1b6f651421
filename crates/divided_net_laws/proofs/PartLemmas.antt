-- The parts of a divided resistor add up to it.
use Rattle.std.proofs.Common.{◌≡◌, ◌⊎◌, ℕ, zero, suc, ◌+◌, ◌-◌, ◌*◌, ◌/◌, ◌%◌, ◌<◌, ◌≤◌, true, refl, ap, ◌∙◌, cond, ltb, arith, inl, inr, div-add-mod', lt-ltb, le-ltb}
use Rattle.std.proofs.lemmas.Bool.{cases_lt}
use Rattle.std.proofs.lemmas.Nat.{mod_below}
use Rattle.std.specs.List.{sum_by}
use Rattle.elmore.specs.Path.{nodes}
use Rattle.elmore.proofs.SumLemmas.{sum_of_more}
use Rattle.cut_laws.proofs.EmbeddingLemmas.{sum_map}
use Rattle.divided_net_laws.specs.DividedNets.{part_of}

-- the first k parts of a resistor: s of them have one more
first_parts : (parts r k : ℕ)
    → sum_by (part_of parts r) (nodes k) ≡ k * (r / parts) + cond (ltb k (r % parts)) k (r % parts)
first_parts parts r zero = low (cases_lt 0 (r % parts))
  where
    low : (0 < r % parts) ⊎ (r % parts ≤ 0) → 0 ≡ 0 * (r / parts) + cond (ltb 0 (r % parts)) 0 (r % parts)
    low (inl h) = rw (lt-ltb 0 (r % parts) h) (omega arith)
    low (inr h) = rw (le-ltb 0 (r % parts) h) (omega arith)
first_parts parts r (suc k) =
    ap (λ (n : ℕ). sum_by (part_of parts r) (nodes n)) more
    ∙ sum_of_more (part_of parts r) k
    ∙ ap (λ (n : ℕ). n + part_of parts r k) (first_parts parts r k)
    ∙ step (cases_lt k (r % parts)) (cases_lt (suc k) (r % parts))
  where
    more : suc k ≡ k + 1
    more = omega arith

    step : (k < r % parts) ⊎ (r % parts ≤ k) → (suc k < r % parts) ⊎ (r % parts ≤ suc k)
        → k * (r / parts) + cond (ltb k (r % parts)) k (r % parts) + part_of parts r k
        ≡ suc k * (r / parts) + cond (ltb (suc k) (r % parts)) (suc k) (r % parts)
    step (inl a) (inl b) = rw (lt-ltb k (r % parts) a, lt-ltb (suc k) (r % parts) b) (omega arith)
    step (inl a) (inr b) = rw (lt-ltb k (r % parts) a, le-ltb (suc k) (r % parts) b) (omega arith)
    step (inr a) (inl b) = absurd (omega arith)
    step (inr a) (inr b) = rw (le-ltb k (r % parts) a, le-ltb (suc k) (r % parts) b) (omega arith)

-- all parts together are the resistor
pub whole : (parts r : ℕ) → 0 < parts → sum_by (part_of parts r) (nodes parts) ≡ r
whole parts r some =
    first_parts parts r parts
    ∙ rw (le-ltb parts (r % parts) (omega (arith, mod_below r parts some))) (omega (arith, div-add-mod' r parts))

-- a sum taken from its end
pub turned : (f : ℕ → ℕ) (m : ℕ) → sum_by (λ d. f (m - (d + 1))) (nodes m) ≡ sum_by f (nodes m)
turned f m =
    sum_map (λ d. m - (d + 1)) m m (λ _. true)
    (record {
      within = λ i i_m. omega arith;
      inside = λ i i_m. refl;
      once = λ i k i_m k_m e. omega (arith, e);
      each = λ w w_m _. (m - (w + 1), omega arith, omega arith);
    })
    f
