-- What is kept of a list in order is its undominated pairs.
use Rattle.std.proofs.Common.{◌≡◌, ℕ, ◌*◌, ◌^◌, ◌<◌, ◌≤◌, ◌⊎◌, List, [], ◌∷◌, map, get_or, length, refl, sym, ap, ◌∙◌, subst, arith, inl, inr, pos, zero, suc, mul-le-mul}
use Rattle.std.specs.Prelude.{◌<ℤ◌, ◌-ℤ◌}
use Rattle.std.specs.List.{Contains}
use Rattle.std.proofs.lemmas.Int.{ints}
use Rattle.std.proofs.lemmas.List.Elements.{All-map, Contains-get_or}
use Rattle.elmore.specs.Pairs.{IsUndominated, IsBelow, Dominates}
use Rattle.elmore.specs.declared.pair.Pair.{Pair}
use Rattle.cand_pairs.specs.Merging.{Wires, Raises, raised}
use Rattle.cand_pairs.proofs.RaiseLemmas.{all_raised}
use Rattle.cand_pool.specs.Candidates.{Candidate, Candidates, IsModest, AreModest, wired, loaded, wired_to}
use Rattle.cand_pool.specs.Sequences.{lowest, undominated, union}
use Rattle.cand_pool.specs.Laws.{IsCandidateOf, IsOfEither, HeaviesFrom, InOrderAfter, IsInOrder}
use Rattle.cand_pool.proofs.KeptLaws.{kept_rises, kept_taken, kept_covers}
use Rattle.cand_pool.proofs.WireLaws.{loaded_undominated}
use Rattle.cand_pool.proofs.UnionOrder.{union_heavies, union_taken, union_all, union_ordered, rises_kept}
use Rattle.cand_uses.specs.Pairs.{pair_of, pairs_of}
use Rattle.cand_lists.specs.ListLaws.{AreRising, Either, through_wire, above_wire, both}
use Rattle.cand_lists.proofs.RisingLemmas.{in_list, at_place, rising_tail, rising_next, rising_order, rising_heavies, both_rise}

-- the pair of a candidate of a list is one of its pairs, and the other way round
pub pair_in : (xs : Candidates) (z : Candidate) → Contains xs z → Contains (pairs_of xs) (pair_of z)
pair_in [] z (k, k_n, e) = absurd (omega arith)
pair_in (x ∷ xs) z (zero, k_n, e) = (0, omega arith, ap pair_of e)
pair_in (x ∷ xs) z (suc k, k_n, e) = let (j, j_n, f) = pair_in xs z (k, omega arith, e) in (suc j, omega arith, f)

pub of_pair : (xs : Candidates) (p : Pair) → Contains (pairs_of xs) p → (x : Candidate) × Contains xs x × (pair_of x ≡ p)
of_pair [] p (k, k_n, e) = absurd (omega arith)
of_pair (x ∷ xs) p (zero, k_n, e) = (x, (0, omega arith, refl), e)
of_pair (x ∷ xs) p (suc k, k_n, e) = let (y, (j, j_n, f), y_is) = of_pair xs p (k, omega arith, e) in (y, (suc j, omega arith, f), y_is)

pub kept_exact : (In : Pair → Type 0) (xs : Candidates) → IsInOrder xs → HeaviesFrom 0 xs → ((x : Candidate) → IsCandidateOf xs x → lowest <ℤ x.q)
    → ((x : Candidate) → IsCandidateOf xs x → In (pair_of x)) → ((y : Pair) → In y → (x : Candidate) × IsCandidateOf xs x × (pair_of x ≡ y))
    → IsUndominated In (pairs_of (undominated xs))
kept_exact In xs order heavies over taken all = record {
  rising = both_rise lowest (undominated xs) (kept_rises lowest xs) (rises_kept lowest xs order);
  taken = All-map In pair_of (undominated xs)
      (λ k d k_n. taken (get_or (undominated xs) k d) (kept_taken lowest xs _ (in_list (undominated xs) _ (Contains-get_or (undominated xs) k d k_n))));
  covers = λ y y_in.
      let (x, x_in, x_is) = all y y_in in
      elim (kept_covers 0 xs heavies lowest x x_in) [
        | inl low ↦ let high : lowest <ℤ x.q = over x x_in in absurd (omega (arith, ints))
        | inr found ↦
            let (z, z_in, dom) = found in
            (pair_of z, pair_in (undominated xs) z (at_place (undominated xs) z z_in), subst (λ (p : Pair). Dominates (pair_of z) p) x_is (record { time = dom.slower; room = dom.lighter }))
      ];
}

-- modest candidates are over the lowest
pub modest_in : (xs : Candidates) (x : Candidate) → AreModest xs → IsCandidateOf xs x → IsModest x
modest_in [] x modest m = absurd m
modest_in (y ∷ ys) x modest (inl e) = subst (λ (k : Candidate). IsModest k) (sym e) modest.0
modest_in (y ∷ ys) x modest (inr m) = modest_in ys x modest.1 m

-- above a wire
wired_from : (r : ℕ) (xs : Candidates) (z : Candidate) → IsCandidateOf (map (wired r) xs) z → (x : Candidate) × IsCandidateOf xs x × (z ≡ wired r x)
wired_from r [] z m = absurd m
wired_from r (x ∷ xs) z (inl e) = (x, inl refl, e)
wired_from r (x ∷ xs) z (inr m) = let (y, y_in, e) = wired_from r xs z m in (y, inr y_in, e)

wired_in : (r : ℕ) (xs : Candidates) (x : Candidate) → IsCandidateOf xs x → IsCandidateOf (map (wired r) xs) (wired r x)
wired_in r [] x m = absurd m
wired_in r (y ∷ ys) x (inl e) = inl (ap (wired r) e)
wired_in r (y ∷ ys) x (inr m) = inr (wired_in r ys x m)

wired_order : (r : ℕ) (xs : Candidates) → AreRising xs → IsInOrder (map (wired r) xs)
wired_order r [] rise = tt
wired_order r (x ∷ xs) rise = after x xs rise where
  after : (x : Candidate) (xs : Candidates) → AreRising (x ∷ xs) → InOrderAfter (wired r x) (map (wired r) xs)
  after x [] rise = tt
  after x (y ∷ ys) rise =
      let below : IsBelow (pair_of x) (pair_of y) = rising_next x y ys rise in
      (omega (arith, below.room), λ e. absurd (omega (arith, below.room, e)), after y ys (rising_tail x (y ∷ ys) rise))

wired_heavies : (r least : ℕ) (xs : Candidates) → HeaviesFrom least xs → HeaviesFrom least (map (wired r) xs)
wired_heavies r least [] heavies = tt
wired_heavies r least (x ∷ xs) heavies = (heavies.0, wired_heavies r x.c xs heavies.1)

wired_high : (r : ℕ) (x : Candidate) → r < 2 ^ 64 → IsModest x → lowest <ℤ (wired r x).q
wired_high r x r_n modest =
    let most : r * x.c ≤ 2 ^ 64 * 10 ^ 11 = mul-le-mul {n₂ = 2 ^ 64} (omega arith) modest.load in
    omega (arith, ints, modest.low)

-- the same of a pair
abbrev pair_wired : ℕ → Pair → Pair
pair_wired r x = record { q = x.q -ℤ pos (r * x.c); c = x.c }

pub wire_exact : (r : ℕ) (xs : Candidates) → r < 2 ^ 64 → AreRising xs → AreModest xs → IsUndominated (Wires r (pairs_of xs)) (pairs_of (through_wire r xs))
wire_exact r xs r_n rise modest =
    kept_exact (Wires r (pairs_of xs)) (map (wired r) xs) (wired_order r xs rise)
    (wired_heavies r 0 xs (rising_heavies 0 xs (λ x m. omega arith) rise))
    (λ z m. let (x, x_in, e) = wired_from r xs z m in subst (λ (k : Candidate). lowest <ℤ k.q) (sym e) (wired_high r x r_n (modest_in xs x modest x_in)))
    (λ z m. let (x, x_in, e) = wired_from r xs z m in (pair_of x, pair_in xs x (at_place xs x x_in), ap pair_of e))
    (λ y (p, p_in, e). let (x, x_in, x_is) = of_pair xs p p_in in (wired r x, wired_in r xs x (in_list xs x x_in), ap (pair_wired r) x_is ∙ sym e))

pub wire_takes : (r : ℕ) (xs : Candidates) (z : Candidate) → Contains (through_wire r xs) z → (x : Candidate) × Contains xs x × (z ≡ wired r x)
wire_takes r xs z z_in =
    let (x, x_in, e) = wired_from r xs z (kept_taken lowest (map (wired r) xs) z (in_list (through_wire r xs) z z_in)) in
    (x, at_place xs x x_in, e)

wired_to_from : (r c : ℕ) (xs : Candidates) (z : Candidate) → IsCandidateOf (map (wired_to r c) xs) z → (x : Candidate) × IsCandidateOf xs x × (z ≡ wired_to r c x)
wired_to_from r c [] z m = absurd m
wired_to_from r c (x ∷ xs) z (inl e) = (x, inl refl, e)
wired_to_from r c (x ∷ xs) z (inr m) = let (y, y_in, e) = wired_to_from r c xs z m in (y, inr y_in, e)

pub above_takes : (r c : ℕ) (xs : Candidates) (z : Candidate) → Contains (above_wire r c xs) z → (x : Candidate) × Contains xs x × (z ≡ wired_to r c x)
above_takes r c xs z z_in =
    let (x, x_in, e) = wired_to_from r c xs z (kept_taken lowest (map (wired_to r c) xs) z (in_list (above_wire r c xs) z z_in)) in
    (x, at_place xs x x_in, e)

pub wire_loads : (r c : ℕ) (xs : Candidates) → above_wire r c xs ≡ map (loaded c) (through_wire r xs)
wire_loads r c xs = loaded_undominated r c xs

-- of two lists
either_pair : (xs ys : Candidates) (z : Candidate) → IsOfEither xs ys z → Either (pairs_of xs) (pairs_of ys) (pair_of z)
either_pair xs ys z (inl m) = inl (pair_in xs z (at_place xs z m))
either_pair xs ys z (inr m) = inr (pair_in ys z (at_place ys z m))

either_from : (xs ys : Candidates) (p : Pair) → Either (pairs_of xs) (pairs_of ys) p → (z : Candidate) × IsOfEither xs ys z × (pair_of z ≡ p)
either_from xs ys p (inl p_in) = let (x, x_in, e) = of_pair xs p p_in in (x, inl (in_list xs x x_in), e)
either_from xs ys p (inr p_in) = let (y, y_in, e) = of_pair ys p p_in in (y, inr (in_list ys y y_in), e)

pub both_over : (xs ys : Candidates) → AreRising xs → AreRising ys → ((x : Candidate) → Contains xs x → lowest <ℤ x.q) → ((y : Candidate) → Contains ys y → lowest <ℤ y.q)
    → IsUndominated (Either (pairs_of xs) (pairs_of ys)) (pairs_of (both xs ys))
both_over xs ys rise_x rise_y over_x over_y =
    kept_exact (Either (pairs_of xs) (pairs_of ys)) (union xs ys) (union_ordered xs ys (rising_order xs rise_x) (rising_order ys rise_y))
    (union_heavies 0 xs ys (rising_heavies 0 xs (λ x m. omega arith) rise_x) (rising_heavies 0 ys (λ y m. omega arith) rise_y))
    (λ z m. over z (union_taken xs ys z m))
    (λ z m. either_pair xs ys z (union_taken xs ys z m))
    (λ p p_in. let (z, z_in, e) = either_from xs ys p p_in in (z, union_all xs ys z z_in, e))
  where
    over : (z : Candidate) → IsOfEither xs ys z → lowest <ℤ z.q
    over z (inl m) = over_x z (at_place xs z m)
    over z (inr m) = over_y z (at_place ys z m)

pub both_exact : (xs ys : Candidates) → AreRising xs → AreRising ys → AreModest xs → AreModest ys
    → IsUndominated (Either (pairs_of xs) (pairs_of ys)) (pairs_of (both xs ys))
both_exact xs ys rise_x rise_y modest_x modest_y =
    both_over xs ys rise_x rise_y
    (λ x x_in. let modest : IsModest x = modest_in xs x modest_x (in_list xs x x_in) in omega (arith, ints, modest.low))
    (λ y y_in. let modest : IsModest y = modest_in ys y modest_y (in_list ys y y_in) in omega (arith, ints, modest.low))

pub both_take : (xs ys : Candidates) (z : Candidate) → Contains (both xs ys) z → Contains xs z ⊎ Contains ys z
both_take xs ys z z_in = elim (union_taken xs ys z (kept_taken lowest (union xs ys) z (in_list (both xs ys) z z_in))) [
  | inl m ↦ inl (at_place xs z m)
  | inr m ↦ inr (at_place ys z m)
]

-- with a load beside it
loaded_at : (c : ℕ) (xs : Candidates) (k : ℕ) (d : Pair) → k < length xs → get_or (pairs_of (map (loaded c) xs)) k d ≡ raised c (get_or (pairs_of xs) k d)
loaded_at c [] k d k_n = absurd (omega arith)
loaded_at c (x ∷ xs) zero d k_n = refl
loaded_at c (x ∷ xs) (suc k) d k_n = loaded_at c xs k d (omega arith)

loaded_length : (c : ℕ) (xs : Candidates) → length (pairs_of (map (loaded c) xs)) ≡ length (pairs_of xs)
loaded_length c [] = refl
loaded_length c (x ∷ xs) = ap suc (loaded_length c xs)

pairs_length : (xs : Candidates) → length (pairs_of xs) ≡ length xs
pairs_length [] = refl
pairs_length (x ∷ xs) = ap suc (pairs_length xs)

past_end : (A : Type 0) (xs : List A) (k : ℕ) (d : A) → length xs ≤ k → get_or xs k d ≡ d
past_end A [] k d high = refl
past_end A (x ∷ xs) zero d high = absurd (omega arith)
past_end A (x ∷ xs) (suc k) d high = past_end A xs k d (omega arith)

pub load_exact : (c : ℕ) (xs : Candidates) → AreRising xs → IsUndominated (Raises c (pairs_of xs)) (pairs_of (map (loaded c) xs))
load_exact c xs rise = all_raised c (pairs_of xs) (pairs_of (map (loaded c) xs)) (length (pairs_of xs)) (omega arith) rise (record {
  each = loaded_length c xs;
  done = λ k d low k_n. loaded_at c xs k d (omega (arith, pairs_length xs));
  rest = λ k d high. past_end Pair (pairs_of (map (loaded c) xs)) k d (omega (arith, loaded_length c xs)) ∙ sym (past_end Pair (pairs_of xs) k d (omega arith));
})
