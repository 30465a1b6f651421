-- The order of repeaters by their limits, and the pairs within a limit.
use Rattle.std.proofs.Common.{◌≡◌, ℕ, ◌+◌, ◌<◌, ◌≤◌, ◌^◌, List, [], ◌∷◌, ◌++◌, length, get_or, Option, Some, None, refl, sym, ap, ◌∙◌, subst, arith, inl, inr, pos}
use Rattle.std.proofs.lemmas.Bool.{cases_lt, cases_eq}
use Rattle.std.proofs.lemmas.Int.{ints}
use Rattle.std.proofs.lemmas.List.{get_or_default, get_or_push, get_or_append_left, length-append}
use Rattle.std.proofs.lemmas.List.Elements.{Contains-get_or}
use Rattle.std.proofs.lemmas.List.Sorted.{All-permutation, Contains-permutation}
use Rattle.std.specs.List.{All, AllPairs, Contains}
use Rattle.std.specs.List.Sorted.{IsNonDecreasingBy, IsPermutation}
use Rattle.elmore.specs.Cells.{rep_at}
use Rattle.elmore.specs.Legal.{IsWithin}
use Rattle.elmore.specs.Pairs.{IsBelow}
use Rattle.elmore.specs.declared.pair.Pair.{Pair}
use Rattle.elmore.specs.declared.rep.Rep.{Rep}
use Rattle.cand_pairs.specs.Candidates.{with_cell}
use Rattle.cand_pairs.specs.Merging.{IsGreatestOf, NoneFits}
use Rattle.vg_check.specs.Hulls.{AreAllWithin, IsHull, IsPlace, pair_at, point_at, value}
use Rattle.vg_check.specs.Orders.{HasRep, IsKeyOf, IsOrder, IsRank, rank_at}
use Rattle.vg_check.specs.declared.hull.Point.{Point}
use Rattle.vg_check.specs.declared.order.Rank.{Rank}

-- THE ORDER
keyed : (a b : Option ℕ) (m n load : ℕ) → IsKeyOf a m → IsKeyOf b n → m ≤ n → IsWithin a load → IsWithin b load
keyed None None m n load a_is b_is le is = is
keyed (Some least) None m n load a_is b_is le is = tt
keyed None (Some most) m n load a_is b_is le is = absurd (omega (arith, a_is, b_is.0, b_is.1, le))
keyed (Some least) (Some most) m n load a_is b_is le is = omega (arith, a_is.0, b_is.0, le, is)

-- one repeater more
pub ranks_more : (ranks : List Rank) (rank : Rank) (n : ℕ) → ((b : ℕ) → b < n → HasRep ranks b) → rank.rep ≡ n
    → (b : ℕ) → b < n + 1 → HasRep (ranks ++ rank ∷ []) b
ranks_more ranks rank n has is b b_n = elim (cases_eq b n) [
  | inl e ↦ (
    length ranks,
    omega (arith, length-append ranks (rank ∷ [])),
    ap (λ (x : Rank). x.rep) (get_or_push ranks rank (record { key = 0; rep = 0 }) (length ranks) refl) ∙ is ∙ sym e,
  )
  | inr ne ↦
      let (k, k_n, at) = has b (omega (arith, b_n, ne)) in (
        k,
        omega (arith, k_n, length-append ranks (rank ∷ [])),
        ap (λ (x : Rank). x.rep) (get_or_append_left ranks (rank ∷ []) (record { key = 0; rep = 0 }) k k_n) ∙ at,
      )
]

pub order_from : (reps : List Rep) (ranks sorted : List Rank) → All (IsRank reps) ranks → ((b : ℕ) → b < length reps → HasRep ranks b)
    → IsPermutation ranks sorted → IsNonDecreasingBy (λ (rank : Rank). rank.key) sorted → IsOrder reps sorted
order_from reps ranks sorted each all same rise = record {
  each = λ k k_n. (are k (record { key = 0; rep = 0 }) k_n).named;
  all = λ b b_n.
      let (k, k_n, e) = all b b_n in
      let (i, i_n, at) = Contains-permutation ranks sorted (rank_at ranks k) same (Contains-get_or ranks k (record { key = 0; rep = 0 }) k_n) in
      (i, i_n, ap (λ (x : Rank). x.rep) (get_or_default sorted i (record { key = 0; rep = 0 }) (rank_at ranks k) i_n ∙ at) ∙ e);
  rising = λ i k load i_k k_n.
      keyed (rep_at reps (rank_at sorted i).rep).limit (rep_at reps (rank_at sorted k).rep).limit (rank_at sorted i).key (rank_at sorted k).key load
      (are i (record { key = 0; rep = 0 }) (omega (arith, i_k, k_n))).key (are k (record { key = 0; rep = 0 }) k_n).key
      (rise i k (record { key = 0; rep = 0 }) (omega (arith, i_k)) k_n);
}
  where
    are : All (IsRank reps) sorted
    are = All-permutation (IsRank reps) ranks sorted same each

-- PAIRS WITHIN A LIMIT
within_less : (limit : Option ℕ) (a b : ℕ) → a ≤ b → IsWithin limit b → IsWithin limit a
within_less None a b less is = is
within_less (Some most) a b less is = omega (arith, less, is)

-- a pair within the limit is one of the first n
early : (limit : Option ℕ) (xs : List Pair) (n i : ℕ) → AllPairs IsBelow xs → AreAllWithin limit xs n → i < length xs → IsWithin limit (pair_at xs i).c → i < n
early limit xs n i rise all i_n is = elim (cases_lt i n) [
  | inl low ↦ low
  | inr high ↦ absurd (all.past (omega (arith, high, i_n)) (elim (cases_eq i n) [
    | inl e ↦ subst (λ (k : ℕ). IsWithin limit (pair_at xs k).c) e is
    | inr ne ↦ within_less limit (pair_at xs n).c (pair_at xs i).c (omega (arith, (rise n i (record { q = pos 0; c = 0 }) (omega (arith, high, ne)) i_n).room)) is
  ]))
]

numbered : (limit : Option ℕ) (xs : List Pair) (n : ℕ) (y : Pair) → AllPairs IsBelow xs → AreAllWithin limit xs n → Contains xs y → IsWithin limit y.c
    → (i : ℕ) × (i < n) × (i < length xs) × (pair_at xs i ≡ y)
numbered limit xs n y rise all (i, i_n, e) is =
    let at : pair_at xs i ≡ y = get_or_default xs i (record { q = pos 0; c = 0 }) y i_n ∙ e in
    (i, early limit xs n i rise all i_n (subst (λ (x : Pair). IsWithin limit x.c) (sym at) is), i_n, at)

-- where no pair is on the hull, none is within the limit
pub none_fits : (rep : Rep) (xs : List Pair) (n : ℕ) (points : List Point) → AllPairs IsBelow xs → IsHull xs n points → AreAllWithin rep.limit xs n
    → length points ≡ 0 → NoneFits rep xs
none_fits rep xs n points rise hull all empty y y_in fits =
    let (i, i_n, _, _) = numbered rep.limit xs n y rise all y_in fits in
    absurd (omega (arith, hull.some (omega (arith, i_n)), empty))

-- else what the repeater makes of the point at its place is the greatest
only : (x y : Pair) → Contains (x ∷ []) y → x ≡ y
only x y (k, k_n, e) =
    let first : 0 ≡ k = omega (arith, k_n) in
    ap (λ j. get_or (x ∷ []) j y) first ∙ e

pub found_greatest : (rep : Rep) (xs : List Pair) (n : ℕ) (points : List Point) (j : ℕ) (x : Pair) (found : Option Pair) → AllPairs IsBelow xs
    → IsHull xs n points → AreAllWithin rep.limit xs n → rep.r ≤ 10 ^ 9 → IsPlace points (length points) rep.r j
    → x ≡ pair_at xs (point_at points j).at → IsGreatestOf rep (x ∷ []) found → IsGreatestOf rep xs found
found_greatest rep xs n points j x None rise hull all low place x_is is =
    absurd (is x (0, omega arith, refl) (subst (λ (y : Pair). IsWithin rep.limit y.c) (sym x_is) (all.within (point_at points j).at (hull.named j place.inside))))
found_greatest rep xs n points j x (Some z) rise hull all low place x_is is =
    let (y, y_in, y_fits, made) = is.made in
    let at_n : (point_at points j).at < n = hull.named j place.inside in
    let z_is : z ≡ with_cell (Some rep) x = made ∙ ap (with_cell (Some rep)) (sym (only x y y_in)) in
    record {
      made = (
        x,
        subst (Contains xs) (sym x_is) (Contains-get_or xs (point_at points j).at (record { q = pos 0; c = 0 }) (omega (arith, at_n, hull.inside))),
        subst (λ (t : Pair). IsWithin rep.limit t.c) (sym x_is) (all.within (point_at points j).at at_n),
        z_is,
      );
      most = λ t t_in t_fits.
          let (i, i_n, _, t_is) = numbered rep.limit xs n t rise all t_in t_fits in
          omega (
            arith,
            ints,
            hull.most rep.r j low place i i_n,
            ap (value rep.r) t_is,
            ap (value rep.r) x_is,
            ap (λ (a : Pair). a.q) z_is,
          );
    }
