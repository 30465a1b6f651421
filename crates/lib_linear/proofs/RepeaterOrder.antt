-- The order of repeaters, and that it leaves one list.
use Rattle.std.proofs.Common.{◌≡◌, ◌≢◌, ℕ, zero, suc, ◌<◌, Bool, true, false, ◌⊎◌, inl, inr, List, [], ◌∷◌, length, map, refl, sym, ap, ◌∙◌, arith, get_or, Less, Equal, Greater}
use Rattle.std.specs.Prelude.{AllPairs}
use Rattle.std.specs.declared.cmp.Ordering.{Ordering}
use Rattle.std.specs.Cmp.{IsStrictWeakOrder, IsTotalOrder}
use Rattle.std.specs.Cmp.Lexicographic.{slice_cmp}
use Rattle.std.specs.List.{All, Contains}
use Rattle.std.specs.List.Sorted.{IsSortedBy}
use Rattle.std.specs.Ordering.{is_eq, is_lt, nat_cmp, ordering_reverse, ordering_then}
use Rattle.std.specs.Str.{bytes_eq}
use Rattle.std.proofs.lemmas.Cmp.{nat_cmp_total, nat_list_cmp_total, nat_list_eq_equiv, on_total, then_total}
use Rattle.std.proofs.Math.ListN.{get_or-map}
use Rattle.std.proofs.lemmas.List.{length-map}
use Rattle.std.proofs.lemmas.List.Elements.{All-cons, All-head, All-tail, Contains-get_or}
use Rattle.std.proofs.lemmas.List.Kept.{AllPairs-cons}
use Rattle.std.proofs.lemmas.List.MinMax.{ranks_by}
use Rattle.std.proofs.lemmas.List.Sorted.{Contains-permutation, IsPermutation-map, IsPermutation-sym, IsPermutation-trans, sorted_far}
use Rattle.std.proofs.lemmas.Map.Keys.{IsDistinct-IsPermutation}
use Rattle.std.proofs.lemmas.Map.Made.{AllPairs-from_IsDistinct, IsDistinct-from_AllPairs}
use Rattle.std.proofs.lemmas.Map.Text.{is_eq-slice_cmp}
use Rattle.std.proofs.lemmas.Slice.Eq.{bytes_eq-Decides}
use Rattle.lib_text.specs.Groups.{Group}
use Rattle.lib_linear.specs.declared.repeater.Repeater.{Repeater}
use Rattle.lib_cells.specs.declared.units.Units.{Units}
use Rattle.lib_cells.specs.Cells.{name_of}
use Rattle.lib_linear.specs.Repeaters.{AreRepeaters, IsInOrder, comes_before, rank_cmp}
use Rattle.lib_linear.specs.Repeaters.AreRepeaters.{no_cell, taken, passed}
use Rattle.lib_linear.specs.RepeaterLaws.{AreDistinct}

total : IsTotalOrder rank_cmp
total = then_total (on_total (λ (r : Repeater). r.rep.r) nat_cmp_total) (on_total (λ (r : Repeater). r.cell) nat_list_cmp_total)

pub ranks : IsStrictWeakOrder comes_before
ranks = ranks_by total (λ r. r)

pub rises : (reps : List Repeater) → IsSortedBy comes_before reps → AllPairs (λ a b. comes_before b a ≡ false) reps
rises reps sorted i j d i_j j_n = sorted_far comes_before ranks reps sorted i j d (omega arith) j_n

-- of two repeaters whose cells' names differ, the one that does not come after comes before
then_equal : (o p : Ordering) → ordering_then o p ≡ Equal → p ≡ Equal
then_equal Less p e = absurd (cc)
then_equal Equal p e = e
then_equal Greater p e = absurd (cc)

same_name : (a b : Repeater) → rank_cmp a b ≡ Equal → a.cell ≡ b.cell
same_name a b e =
    let n : slice_cmp nat_cmp a.cell b.cell ≡ Equal = then_equal (nat_cmp a.rep.r b.rep.r) (slice_cmp nat_cmp a.cell b.cell) e in
    let s : bytes_eq a.cell b.cell ≡ true = sym (is_eq-slice_cmp a.cell b.cell) ∙ ap is_eq n in
    (bytes_eq-Decides a.cell b.cell).0 s

comes_first : (a b : Repeater) → a.cell ≢ b.cell → comes_before b a ≡ false → comes_before a b ≡ true
comes_first a b differ e = by_rank (rank_cmp a b) refl
  where
    by_rank : (o : Ordering) → rank_cmp a b ≡ o → comes_before a b ≡ true
    by_rank Less f = ap is_lt f
    by_rank Equal f = absurd (differ (same_name a b f))
    by_rank Greater f = let g : comes_before b a ≡ true = ap is_lt (total.antisymm b a ∙ ap ordering_reverse f) in absurd (cc)

-- lists that rise in an order are one where they have the same elements
module _ {X : Type 0} (lt : X → X → Bool) (one_way : (x y : X) → lt x y ≡ true → lt y x ≡ true → ⊥) where
  abbrev Rises : List X → Type 0
  Rises xs = AllPairs (λ a b. lt a b ≡ true) xs

  least : (x : X) (xs : List X) → Rises (x ∷ xs) → (z : X) → Contains (x ∷ xs) z → (z ≡ x) ⊎ (Contains xs z × (lt x z ≡ true))
  least x xs rising z (zero, k_n, is) = inl (sym is)
  least x xs rising z (suc k, k_n, is) = inr ((k, omega arith, is), sym (ap (lt x) is) ∙ rising 0 (suc k) z (omega arith) k_n)

  rest : (a : X) (later : List X) (b : X) (bs : List X) → a ≡ b → Rises (a ∷ later) → Rises (b ∷ bs)
      → All (Contains (b ∷ bs)) (a ∷ later) → All (Contains bs) later
  rest a later b bs a_b rising_a rising_b in_b k d k_n =
      elim (least b bs rising_b (get_or later k d) (in_b (suc k) d (omega arith))) [
        | inl e ↦
            let above : lt a (get_or later k d) ≡ true = rising_a 0 (suc k) d (omega arith) (omega arith) in
            let loop : lt a a ≡ true = ap (lt a) (a_b ∙ sym e) ∙ above in
            absurd (one_way a a loop loop)
        | inr below ↦ below.0
      ]

  one_rising : (xs ys : List X) → Rises xs → Rises ys → All (Contains ys) xs → All (Contains xs) ys → xs ≡ ys
  one_rising [] [] rising_x rising_y in_y in_x = refl
  one_rising [] (y ∷ ys) rising_x rising_y in_y in_x = let (k, k_n, is) = in_x 0 y (omega arith) in absurd (omega arith)
  one_rising (x ∷ xs) [] rising_x rising_y in_y in_x = let (k, k_n, is) = in_y 0 x (omega arith) in absurd (omega arith)
  one_rising (x ∷ xs) (y ∷ ys) rising_x rising_y in_y in_x =
      ap (λ (z : X). z ∷ xs) same
      ∙ ap (λ (zs : List X). y ∷ zs)
      (one_rising xs ys
      (λ i j d i_j j_n. rising_x (suc i) (suc j) d (omega arith) (omega arith))
      (λ i j d i_j j_n. rising_y (suc i) (suc j) d (omega arith) (omega arith))
      (rest x xs y ys same rising_x rising_y in_y)
      (rest y ys x xs (sym same) rising_y rising_x in_x))
    where
      same : x ≡ y
      same =
          elim (least y ys rising_y x (in_y 0 x (omega arith))) [
            | inl e ↦ e
            | inr below ↦ elim (least x xs rising_x y (in_x 0 y (omega arith))) [
              | inl e ↦ sym e
              | inr above ↦ absurd (one_way x y above.1 below.1)
            ]
          ]

-- the names of the repeaters' cells
abbrev pub names : List Repeater → List (List ℕ)
names reps = map (λ r. r.cell) reps

abbrev Distinct : List (List ℕ) → Type 0
Distinct ns = AllPairs (λ a b. a ≢ b) ns

all_names : (P : List ℕ → Type 0) (units : Units) {cells : List Group} {found : List Repeater} → AreRepeaters units cells found
    → All P (map name_of cells) → All P (names found)
all_names P units no_cell all = all
all_names P units (taken {cell} {cells} {r} {reps} is f) all =
    All-cons P r.cell (names reps) (rw (sym is.cell_name) at (All-head P (name_of cell) (map name_of cells) all)) (all_names P units f (All-tail P (name_of cell) (map name_of cells) all))
all_names P units (passed {cell} {cells} out f) all = all_names P units f (All-tail P (name_of cell) (map name_of cells) all)

tail_distinct : (n : List ℕ) (ns : List (List ℕ)) → Distinct (n ∷ ns) → Distinct ns
tail_distinct n ns h i j d i_j j_n = h (suc i) (suc j) d (omega arith) (omega arith)

head_distinct : (n : List ℕ) (ns : List (List ℕ)) → Distinct (n ∷ ns) → All (λ m. n ≢ m) ns
head_distinct n ns h k d k_n = h 0 (suc k) d (omega arith) (omega arith)

pub found_distinct : (units : Units) {cells : List Group} {found : List Repeater} → AreRepeaters units cells found → AreDistinct cells → Distinct (names found)
found_distinct units no_cell h = h
found_distinct units (taken {cell} {cells} {r} {reps} is f) h =
    AllPairs-cons (λ a b. a ≢ b) r.cell (names reps)
    (all_names (λ m. r.cell ≢ m) units f (rw (sym is.cell_name) at (head_distinct (name_of cell) (map name_of cells) h)))
    (found_distinct units f (tail_distinct (name_of cell) (map name_of cells) h))
found_distinct units (passed {cell} {cells} out f) h = found_distinct units f (tail_distinct (name_of cell) (map name_of cells) h)

one_way : (x y : Repeater) → comes_before x y ≡ true → comes_before y x ≡ true → ⊥
one_way x y e f = let g = ranks.one_way x y e in absurd (cc)

-- repeaters in order whose cells' names differ rise, each above those before it
module _ (found ordered : List Repeater) (order : IsInOrder found ordered) (distinct : Distinct (names found)) where
  pub ordered_distinct : Distinct (names ordered)
  ordered_distinct =
      AllPairs-from_IsDistinct bytes_eq-Decides (names ordered)
      (IsDistinct-IsPermutation bytes_eq nat_list_eq_equiv.symm (names found) (names ordered) (IsPermutation-map (λ (r : Repeater). r.cell) found ordered order.same)
      (IsDistinct-from_AllPairs bytes_eq-Decides (names found) distinct))

  differ : (i j : ℕ) (d : Repeater) → i < j → j < length ordered → (get_or ordered i d).cell ≢ (get_or ordered j d).cell
  differ i j d i_j j_n e =
      ordered_distinct i j d.cell i_j (rw (length-map ordered (λ (r : Repeater). r.cell)) j_n)
      (get_or-map (λ (r : Repeater). r.cell) ordered i d ∙ e ∙ sym (get_or-map (λ (r : Repeater). r.cell) ordered j d))

  strictly : Rises comes_before one_way ordered
  strictly i j d i_j j_n = comes_first (get_or ordered i d) (get_or ordered j d) (differ i j d i_j j_n) (order.rising i j d i_j j_n)

pub one_in_order : (found a b : List Repeater) → Distinct (names found) → IsInOrder found a → IsInOrder found b → a ≡ b
one_in_order found a b distinct f g =
    one_rising comes_before one_way a b (strictly found a f distinct) (strictly found b g distinct)
    (λ k d k_n. Contains-permutation a b (get_or a k d) (IsPermutation-trans a found b (IsPermutation-sym found a f.same) g.same) (Contains-get_or a k d k_n))
    (λ k d k_n. Contains-permutation b a (get_or b k d) (IsPermutation-trans b found a (IsPermutation-sym found b g.same) f.same) (Contains-get_or b k d k_n))
