-- One more pair of a sorted list.
use Rattle.std.proofs.Common.{◌≡◌, ℕ, ◌+◌, ◌<◌, List, [], ◌∷◌, ◌++◌, map, pos, length, take, get_or, ◌-◌, Bool, true, false, refl, sym, ap, ◌∙◌, subst, arith, inl, inr, ◌≤ℤ◌, ◌<ℤ◌}
use Rattle.std.proofs.lemmas.Int.{ints}
use lib.Signed.{lt_z}
use Rattle.std.specs.Bool.{MatchBool}
use Rattle.std.proofs.lemmas.Bool.{cases_lt}
use Rattle.std.proofs.lemmas.List.Elements.{Contains-push_cases, Contains-push, Contains-append_left, All-push, All-weaker, All-contains, Contains-get_or}
use Rattle.std.proofs.lemmas.List.Quantifiers.{all_pairs_push}
use Rattle.std.proofs.lemmas.List.{take_more, get_or-take, length-take, get_or_default, get_or-map, length-map}
use Rattle.std.specs.List.{All, AllPairs, Contains}
use Rattle.elmore.specs.Pairs.{IsUndominated, IsBelow}
use Rattle.cand_pairs.specs.Candidates.{wired}
use Rattle.cand_pairs.specs.Merging.{Precedes, Wires, raised, Raises}
use Rattle.elmore.specs.declared.pair.Pair.{Pair}
use Rattle.cand_pairs.proofs.MergeLemmas.{rising_exact}

-- x, which all pairs so far precede, rises over them all
pub rises : (seen kept : List Pair) (x : Pair) → IsUndominated (Contains seen) kept → All (λ y. Precedes y x) seen → All (λ y. y.q <ℤ x.q) kept
    → IsUndominated (Contains (seen ++ x ∷ [])) (kept ++ x ∷ [])
rises seen kept x u before above = record {
  rising = all_pairs_push IsBelow kept x u.rising (λ k d k_n.
      let y_in : Contains seen (get_or kept k d) = u.taken k d k_n in
      let p : Precedes (get_or kept k d) x = All-contains (λ y. Precedes y x) seen (get_or kept k d) before y_in in
      record { time = above k d k_n; room = elim p [ inl less ↦ less | inr same ↦ absurd (omega (arith, ints, same.1, above k d k_n)) ] });
  taken = All-push (Contains (seen ++ x ∷ [])) kept x
      (All-weaker (Contains seen) (Contains (seen ++ x ∷ [])) (λ y. Contains-append_left seen (x ∷ []) y) kept u.taken)
      (Contains-push seen x);
  covers = λ y y_in.
      elim (Contains-push_cases seen x y y_in) [
        | inl old ↦ let (z, z_in, z_y) = u.covers y old in (z, Contains-append_left kept (x ∷ []) z z_in, z_y)
        | inr new ↦ (x, Contains-push kept x, record { time = omega (arith, ints, ap (λ (t : Pair). t.q) new); room = omega (arith, ap (λ (t : Pair). t.c) new) })
      ];
}

-- some pair that is kept has no less time
pub falls_short : (seen kept : List Pair) (x last : Pair) → IsUndominated (Contains seen) kept → All (λ y. Precedes y x) seen → Contains kept last → x.q ≤ℤ last.q
    → IsUndominated (Contains (seen ++ x ∷ [])) kept
falls_short seen kept x last u before last_in no_less = record {
  rising = u.rising;
  taken = All-weaker (Contains seen) (Contains (seen ++ x ∷ [])) (λ y. Contains-append_left seen (x ∷ []) y) kept u.taken;
  covers = λ y y_in.
      elim (Contains-push_cases seen x y y_in) [
        | inl old ↦ u.covers y old
        | inr new ↦
            let p : Precedes last x = All-contains (λ z. Precedes z x) seen last before (All-contains (Contains seen) kept last u.taken last_in) in (
              last,
              last_in,
              record {
                time = omega (arith, ints, ap (λ (t : Pair). t.q) new, no_less);
                room = elim p [ inl less ↦ omega (arith, ap (λ (t : Pair). t.c) new) | inr same ↦ omega (arith, same.0, ap (λ (t : Pair). t.c) new) ];
              },
            )
      ];
}

before_more : (sorted : List Pair) (i : ℕ) (d : Pair) → i < length sorted → AllPairs Precedes sorted → All (λ y. Precedes y (get_or sorted i d)) (take i sorted)
before_more sorted i d i_n order = λ k e k_i.
    let k_less : k < i = omega (arith, k_i, length-take i sorted) in
    rw (get_or-take i sorted k e k_less)
    (rw (get_or_default sorted i d e i_n) (order k i e k_less i_n))

pub more_later : (sorted kept after : List Pair) (i : ℕ) (d : Pair) → i < length sorted → AllPairs Precedes sorted
    → IsUndominated (Contains (take i sorted)) kept → All (λ y. y.q <ℤ (get_or sorted i d).q) kept → after ≡ kept ++ get_or sorted i d ∷ []
    → IsUndominated (Contains (take (i + 1) sorted)) after
more_later sorted kept after i d i_n order u above e =
    rw (e, take_more sorted i d i_n) (rises (take i sorted) kept (get_or sorted i d) u (before_more sorted i d i_n order) above)

pub more_not_later : (sorted kept : List Pair) (i : ℕ) (d : Pair) → i < length sorted → AllPairs Precedes sorted
    → IsUndominated (Contains (take i sorted)) kept → (y : Pair) × Contains kept y × (get_or sorted i d).q ≤ℤ y.q
    → IsUndominated (Contains (take (i + 1) sorted)) kept
more_not_later sorted kept i d i_n order u (y, y_in, no_less) =
    rw (take_more sorted i d i_n) (falls_short (take i sorted) kept (get_or sorted i d) y u (before_more sorted i d i_n order) y_in no_less)

-- the last of a rising list has the most time
pub later_is : (kept : List Pair) (x d : Pair) → AllPairs IsBelow kept → 0 < length kept
    → MatchBool (lt_z (get_or kept (length kept - 1) d).q x.q) (All (λ y. y.q <ℤ x.q) kept) ((y : Pair) × Contains kept y × (x.q ≤ℤ y.q))
later_is kept x d rising some = go (lt_z (get_or kept (length kept - 1) d).q x.q) refl
  where
    go : (b : Bool) → lt_z (get_or kept (length kept - 1) d).q x.q ≡ b
        → MatchBool b (All (λ y. y.q <ℤ x.q) kept) ((y : Pair) × Contains kept y × (x.q ≤ℤ y.q))
    go true later = λ k e k_n.
        elim (cases_lt k (length kept - 1)) [
          | inl low ↦
              let below : IsBelow (get_or kept k e) (get_or kept (length kept - 1) e) = rising k (length kept - 1) e low (omega arith) in
              let same : get_or kept (length kept - 1) e ≡ get_or kept (length kept - 1) d = get_or_default kept (length kept - 1) e d (omega arith) in
              omega (arith, ints, below.time, ap (λ (t : Pair). t.q) same, later)
          | inr high ↦
              let at : k ≡ length kept - 1 = omega arith in
              let same : get_or kept k e ≡ get_or kept (length kept - 1) d = ap (λ (j : ℕ). get_or kept j e) at ∙ get_or_default kept (length kept - 1) e d (omega arith) in
              omega (arith, ints, ap (λ (t : Pair). t.q) same, later)
        ]
    go false not_later =
        (get_or kept (length kept - 1) d, Contains-get_or kept (length kept - 1) d (omega arith), omega (arith, ints, not_later))

-- the pairs of a rising list through a resistor, in the order of their loads
pub wired_precede : (r : ℕ) (xs : List Pair) → AllPairs IsBelow xs → AllPairs Precedes (map (wired r) xs)
wired_precede r xs rise i j d i_j j_n =
    let j_m : j < length xs = simp length-map at j_n in
    let nil : Pair = record { q = pos 0; c = 0 } in
    rw (get_or-map (wired r) xs i (record { q = pos 0; c = 0 }) d (omega arith), get_or-map (wired r) xs j (record { q = pos 0; c = 0 }) d j_m)
    (inl (rise i j (record { q = pos 0; c = 0 }) i_j j_m).room)

pub wire_later : (r : ℕ) (xs kept after : List Pair) (i : ℕ) (x d : Pair) → i < length xs → AllPairs IsBelow xs → x ≡ wired r (get_or xs i d)
    → IsUndominated (Contains (take i (map (wired r) xs))) kept → All (λ y. y.q <ℤ x.q) kept → after ≡ kept ++ x ∷ []
    → IsUndominated (Contains (take (i + 1) (map (wired r) xs))) after
wire_later r xs kept after i x d i_n rise x_is u above e =
    let at : x ≡ get_or (map (wired r) xs) i d = x_is ∙ sym (get_or-map (wired r) xs i d d i_n) in
    more_later (map (wired r) xs) kept after i d (simp length-map i_n) (wired_precede r xs rise) u
    (subst (λ (t : Pair). All (λ y. y.q <ℤ t.q) kept) at above) (e ∙ ap (λ (t : Pair). kept ++ t ∷ []) at)

pub wire_not_later : (r : ℕ) (xs kept : List Pair) (i : ℕ) (x d : Pair) → i < length xs → AllPairs IsBelow xs → x ≡ wired r (get_or xs i d)
    → IsUndominated (Contains (take i (map (wired r) xs))) kept → (y : Pair) × Contains kept y × (x.q ≤ℤ y.q)
    → IsUndominated (Contains (take (i + 1) (map (wired r) xs))) kept
wire_not_later r xs kept i x d i_n rise x_is u low =
    let at : x ≡ get_or (map (wired r) xs) i d = x_is ∙ sym (get_or-map (wired r) xs i d d i_n) in
    more_not_later (map (wired r) xs) kept i d (simp length-map i_n) (wired_precede r xs rise) u
    (subst (λ (t : Pair). (y : Pair) × Contains kept y × (t.q ≤ℤ y.q)) at low)

from_map : (f : Pair → Pair) (ys : List Pair) (z : Pair) → Contains (map f ys) z → (y : Pair) × Contains ys y × (z ≡ f y)
from_map f ys z (k, k_n, e) =
    let k_m : k < length ys = simp length-map at k_n in
    (get_or ys k z, Contains-get_or ys k z k_m, sym e ∙ get_or-map f ys k z z k_m)

to_map : (f : Pair → Pair) (ys : List Pair) (y : Pair) → Contains ys y → Contains (map f ys) (f y)
to_map f ys y (k, k_n, e) = (k, simp length-map k_n, get_or-map f ys k y (f y) k_n ∙ ap f e)

-- an undominated list of the pairs that a function makes of a list
pub mapped_exact : (f : Pair → Pair) (ys zs : List Pair) → IsUndominated (Contains (map f ys)) zs
    → IsUndominated (λ z. (y : Pair) × Contains ys y × (z ≡ f y)) zs
mapped_exact f ys zs are = record {
  rising = are.rising;
  taken = λ k d k_n. from_map f ys (get_or zs k d) (are.taken k d k_n);
  covers = λ z (y, y_in, z_is). are.covers z (subst (Contains (map f ys)) (sym z_is) (to_map f ys y y_in));
}

pub wires_exact : (r : ℕ) (ys zs : List Pair) → IsUndominated (Contains (map (wired r) ys)) zs → IsUndominated (Wires r ys) zs
wires_exact r ys zs = mapped_exact (wired r) ys zs

-- a rising list with more load stays so
pub raises_exact : (c : ℕ) (xs : List Pair) → AllPairs IsBelow xs → IsUndominated (Raises c xs) (map (raised c) xs)
raises_exact c xs rise =
    mapped_exact (raised c) xs (map (raised c) xs) (rising_exact (map (raised c) xs) (λ i j d i_j j_n.
    let j_m : j < length xs = simp length-map at j_n in
    let below : IsBelow (get_or xs i (record { q = pos 0; c = 0 })) (get_or xs j (record { q = pos 0; c = 0 })) = rise i j (record { q = pos 0; c = 0 }) i_j j_m in
    rw (get_or-map (raised c) xs i (record { q = pos 0; c = 0 }) d (omega arith), get_or-map (raised c) xs j (record { q = pos 0; c = 0 }) d j_m)
    (record { time = below.time; room = omega (arith, below.room) })))
