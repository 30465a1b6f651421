-- Numbers, each once, where it comes first; and so the nodes that capacitors name.
use Rattle.std.proofs.Common.{◌≡◌, ◌≢◌, ℕ, zero, suc, ◌+◌, ◌<◌, ◌≤◌, ◌==◌, ◌||◌, not, Bool, true, false, cond, List, [], ◌∷◌, ◌++◌, map, filter, refl, sym, ap, ◌∙◌, arith, length, take, set, replicate, get_or, inl, inr}
use Rattle.std.specs.List.{All, AllPairs, Contains, IsDistinct, list_any}
use Rattle.std.proofs.lemmas.Bool.{cases_Bool, cases_eq, eq-eqb, ne_eqb}
use Rattle.std.proofs.lemmas.Bool.Decides.{nat_tests}
use Rattle.std.proofs.lemmas.List.{append-nil, get_or-replicate, get_or-set_other, get_or-set_same, length-replicate, length-set, map_more}
use Rattle.std.proofs.lemmas.List.Elements.{All-cons, All-contains, All-filter, All-from_recursion, All-head, All-nil, All-tail, filter-append, recursion_from_All}
use Rattle.std.proofs.lemmas.List.Folds.{list_any-append}
use Rattle.std.proofs.lemmas.Map.Keys.{IsDistinct-cons}
use Rattle.std.proofs.lemmas.Map.Steps.{length-le_from_distinct_below}
use Rattle.std.proofs.lemmas.Map.Views.{Contains-from_any, exact_unsigned_eq}
use Rattle.spef_write.specs.Sections.{cap_nodes, each_once, total_at}

-- ---- lists

pub contains_later : {X : Type 0} (y : X) (xs : List X) (x : X) → Contains xs x → Contains (y ∷ xs) x
contains_later y xs x (k, l, e) = (suc k, omega (arith, l), e)

pub contains_filter : {X : Type 0} (p : X → Bool) (xs : List X) (x : X) → Contains xs x → p x ≡ true → Contains (filter p xs) x
contains_filter p [] x (k, l, e) t = absurd (omega (arith, l))
contains_filter p (y ∷ ys) x (zero, l, e) t = first (p y) (ap p e ∙ t)
  where
    first : (b : Bool) → b ≡ true → Contains (cond b (y ∷ filter p ys) (filter p ys)) x
    first true h = (0, omega arith, e)
    first false h = absurd (cc)
contains_filter p (y ∷ ys) x (suc k, l, e) t = later (p y) (contains_filter p ys x (k, omega (arith, l), e) t)
  where
    later : (b : Bool) → Contains (filter p ys) x → Contains (cond b (y ∷ filter p ys) (filter p ys)) x
    later true h = contains_later y (filter p ys) x h
    later false h = h

distinct_filter : (p : ℕ → Bool) (ks : List ℕ) → IsDistinct ◌==◌ ks → IsDistinct ◌==◌ (filter p ks)
unfolding IsDistinct
distinct_filter p [] d = d
distinct_filter p (k ∷ ks) d = either (p k) (distinct_filter p ks d.1)
  where
    either : (t : Bool) → IsDistinct ◌==◌ (filter p ks) → IsDistinct ◌==◌ (cond t (k ∷ filter p ks) (filter p ks))
    either true rest =
        IsDistinct-cons ◌==◌ k (filter p ks)
        (recursion_from_All (λ j. (k == j) ≡ false) (filter p ks) (All-filter p (λ j. (k == j) ≡ false) ks (All-from_recursion (λ j. (k == j) ≡ false) ks d.0))) rest
    either false rest = rest

others_differ : (k : ℕ) (ks : List ℕ) → All (λ j. (k == j) ≡ false) (filter (λ j. not (k == j)) ks)
others_differ k [] = All-nil (λ j. (k == j) ≡ false)
others_differ k (j ∷ ks) = either (k == j) refl (others_differ k ks)
  where
    either : (t : Bool) → (k == j) ≡ t → All (λ i. (k == i) ≡ false) (filter (λ i. not (k == i)) ks)
        → All (λ i. (k == i) ≡ false) (cond (not t) (j ∷ filter (λ i. not (k == i)) ks) (filter (λ i. not (k == i)) ks))
    either true e rest = rest
    either false e rest = All-cons (λ i. (k == i) ≡ false) j (filter (λ i. not (k == i)) ks) e rest

-- ---- each number once

-- one number more
pub once_push : (ks : List ℕ) (k : ℕ) → each_once (ks ++ k ∷ []) ≡ each_once ks ++ cond (list_any (λ j. j == k) ks) [] (k ∷ [])
once_push [] k = refl
once_push (j ∷ ks) k =
    let p : ℕ → Bool = λ i. not (j == i) in
    ap (λ l. j ∷ filter p l) (once_push ks k)
    ∙ ap (λ l. j ∷ l) (filter-append p (each_once ks) (cond (list_any (λ i. i == k) ks) [] (k ∷ [])))
    ∙ ap (λ l. j ∷ (filter p (each_once ks) ++ l)) (last (list_any (λ i. i == k) ks) (j == k) refl)
  where
    last : (b t : Bool) → (j == k) ≡ t → filter (λ i. not (j == i)) (cond b [] (k ∷ [])) ≡ cond (t || b) [] (k ∷ [])
    last true true e = refl
    last true false e = refl
    last false true e = ap (λ s. cond (not s) (k ∷ []) []) e
    last false false e = ap (λ s. cond (not s) (k ∷ []) []) e

pub once_all : (P : ℕ → Type 0) (ks : List ℕ) → All P ks → All P (each_once ks)
once_all P [] all = all
once_all P (k ∷ ks) all =
    All-cons P k (filter (λ j. not (k == j)) (each_once ks)) (All-head P k ks all)
    (All-filter (λ j. not (k == j)) P (each_once ks) (once_all P ks (All-tail P k ks all)))

pub once_has : (ks : List ℕ) (k : ℕ) → list_any (λ j. j == k) ks ≡ true → Contains (each_once ks) k
once_has [] k e = absurd (cc)
once_has (j ∷ ks) k e = step (j == k) refl (once_has ks k) e
  where
    step : (t : Bool) → (j == k) ≡ t → (list_any (λ i. i == k) ks ≡ true → Contains (each_once ks) k) → (t || list_any (λ i. i == k) ks) ≡ true
        → Contains (j ∷ filter (λ i. not (j == i)) (each_once ks)) k
    step true s later h = (0, omega arith, grind (arith, nat_tests))
    step false s later h =
        contains_later j (filter (λ i. not (j == i)) (each_once ks)) k
        (contains_filter (λ i. not (j == i)) (each_once ks) k (later h) (ap not s))

once_distinct : (ks : List ℕ) → IsDistinct ◌==◌ (each_once ks)
unfolding IsDistinct
once_distinct [] = tt
once_distinct (k ∷ ks) =
    IsDistinct-cons ◌==◌ k (filter (λ j. not (k == j)) (each_once ks))
    (recursion_from_All (λ j. (k == j) ≡ false) (filter (λ j. not (k == j)) (each_once ks)) (others_differ k (each_once ks)))
    (distinct_filter (λ j. not (k == j)) (each_once ks) (once_distinct ks))

-- numbers below n are n at most
pub once_few : (n : ℕ) (ks : List ℕ) → All (λ k. k < n) ks → length (each_once ks) ≤ n
once_few n ks all =
    length-le_from_distinct_below (each_once ks) n (once_distinct ks)
    (λ q h. All-contains (λ k. k < n) (each_once ks) q (once_all (λ k. k < n) ks all) (Contains-from_any exact_unsigned_eq q (each_once ks) h))

-- numbers of which no two are the same stay as they are
pub once_same : (ks : List ℕ) → AllPairs (λ a b. a ≢ b) ks → each_once ks ≡ ks
once_same [] apart = refl
once_same (k ∷ ks) apart =
    ap (λ l. k ∷ filter (λ j. not (k == j)) l) (once_same ks (λ i j d less low. apart (suc i) (suc j) d (omega (arith, less)) (omega (arith, low))))
    ∙ ap (λ l. k ∷ l) (none_out ks (λ j d low. apart 0 (suc j) d (omega arith) (omega (arith, low))))
  where
    none_out : (js : List ℕ) → All (λ j. k ≢ j) js → filter (λ j. not (k == j)) js ≡ js
    none_out [] all = refl
    none_out (j ∷ js) all =
        ap (λ t. cond (not t) (j ∷ filter (λ i. not (k == i)) js) (filter (λ i. not (k == i)) js)) (ne_eqb k j (All-head (λ i. k ≢ i) j js all))
        ∙ ap (λ l. j ∷ l) (none_out js (All-tail (λ i. k ≢ i) j js all))

-- ---- the nodes that capacitors name

abbrev pub names : ℕ → List (ℕ × ℕ) → Bool
names k caps = list_any (λ j. j == k) (map (λ (cap : ℕ × ℕ). cap.0) caps)

-- where none names a node, there is nothing at it
pub total_none : (caps : List (ℕ × ℕ)) (k : ℕ) → names k caps ≡ false → total_at caps k ≡ 0
total_none [] k e = refl
total_none (cap ∷ caps) k e = step (cap.0 == k) (total_none caps k) e
  where
    step : (t : Bool) → (names k caps ≡ false → total_at caps k ≡ 0) → (t || names k caps) ≡ false
        → Rattle.spef_write.specs.Sections.total (cond t (cap ∷ filter (λ c. c.0 == k) caps) (filter (λ c. c.0 == k) caps)) ≡ 0
    step true later h = absurd (cc)
    step false later h = later h

pub cap_nodes_all : (P : ℕ → Type 0) (caps : List (ℕ × ℕ)) → All (λ cap. P cap.0) caps → All P (cap_nodes caps)
cap_nodes_all P caps all = once_all P (map (λ (cap : ℕ × ℕ). cap.0) caps) (Rattle.std.proofs.lemmas.List.Elements.All-map P (λ (cap : ℕ × ℕ). cap.0) caps all)

-- each node at which there is something is among them
pub cap_nodes_have : (caps : List (ℕ × ℕ)) (k : ℕ) → not (total_at caps k == 0) ≡ true → Contains (cap_nodes caps) k
cap_nodes_have caps k some =
    elim (cases_Bool (names k caps)) as (λ _. Contains (cap_nodes caps) k) [
      | inl named ↦ once_has (map (λ (cap : ℕ × ℕ). cap.0) caps) k named
      | inr none ↦ absurd (let e = ap (λ n. not (n == 0)) (total_none caps k none) in cc)
    ]

-- ---- the same, one capacitor after another

-- these nodes are named, and those that are named are noted, of so many
pub record AreNamed (count : ℕ) (caps : List (ℕ × ℕ)) (named : List Bool) (nodes : List ℕ) : Type 0 where
  pub nodes_are : nodes ≡ cap_nodes caps
  pub even : length named ≡ count
  pub each : (k : ℕ) → k < count → get_or named k false ≡ names k caps

pub none_named : (count : ℕ) (named : List Bool) (nodes : List ℕ) → named ≡ replicate count false → nodes ≡ [] → AreNamed count [] named nodes
none_named count named nodes e none = record {
  nodes_are = none;
  even = ap length e ∙ length-replicate count false;
  each = λ k l. ap (λ xs. get_or xs k false) e ∙ get_or-replicate count k false false l;
}

module _ (count : ℕ) (caps : List (ℕ × ℕ)) (named : List Bool) (nodes : List ℕ) (i : ℕ) (d : ℕ × ℕ) (low : i < length caps) (is : AreNamed count (take i caps) named nodes) where
  abbrev at : ℕ
  at = (get_or caps i d).0

  abbrev before : List ℕ
  before = map (λ (cap : ℕ × ℕ). cap.0) (take i caps)

  more : map (λ (cap : ℕ × ℕ). cap.0) (take (i + 1) caps) ≡ before ++ at ∷ []
  more = map_more (λ (cap : ℕ × ℕ). cap.0) caps i d low

  names_more : (k : ℕ) → names k (take (i + 1) caps) ≡ (names k (take i caps) || ((at == k) || false))
  names_more k = ap (list_any (λ j. j == k)) more ∙ list_any-append (λ j. j == k) before (at ∷ [])

  nodes_more : (b : Bool) → names at (take i caps) ≡ b → nodes ++ cond b [] (at ∷ []) ≡ cap_nodes (take (i + 1) caps)
  nodes_more b e =
      ap (λ l. l ++ cond b [] (at ∷ [])) is.nodes_are
      ∙ ap (λ t. cap_nodes (take i caps) ++ cond t [] (at ∷ [])) (sym e)
      ∙ sym (ap each_once more ∙ once_push before at)

  same : (k : ℕ) → names k (take i caps) ≡ (names k (take i caps) || (false || false))
  same k = either (names k (take i caps))
    where
      either : (b : Bool) → b ≡ (b || (false || false))
      either true = refl
      either false = refl

  -- of a node that was named
  pub again_named : at < count → get_or named at false ≡ true → AreNamed count (take (i + 1) caps) named nodes
  again_named in_range was = record {
    nodes_are = sym (append-nil nodes) ∙ nodes_more true (sym (is.each at in_range) ∙ was);
    even = is.even;
    each = λ k h. is.each k h ∙ elim (cases_eq k at) as (λ _. names k (take i caps) ≡ names k (take (i + 1) caps)) [
      | inl here ↦
          let had : names k (take i caps) ≡ true = ap (λ j. names j (take i caps)) here ∙ sym (is.each at in_range) ∙ was in
          had ∙ sym (names_more k ∙ ap (λ b. b || ((at == k) || false)) had)
      | inr other ↦ same k ∙ sym (names_more k ∙ ap (λ b. names k (take i caps) || (b || false)) (ne_eqb at k (λ e. other (sym e))))
    ];
  }

  -- of one that was not
  pub first_named : at < count → get_or named at false ≡ false → AreNamed count (take (i + 1) caps) (set named at true) (nodes ++ at ∷ [])
  first_named in_range was = record {
    nodes_are = nodes_more false (sym (is.each at in_range) ∙ was);
    even = length-set named at true ∙ is.even;
    each = λ k h. elim (cases_eq k at) as (λ _. get_or (set named at true) k false ≡ names k (take (i + 1) caps)) [
      | inl here ↦
          ap (λ j. get_or (set named at true) j false) here ∙ get_or-set_same named at true false (omega (arith, is.even, in_range))
          ∙ sym (names_more k ∙ ap (λ b. names k (take i caps) || (b || false)) (eq-eqb at k (sym here)) ∙ ends (names k (take i caps)))
      | inr other ↦
          get_or-set_other named at k true false other ∙ is.each k h
          ∙ same k ∙ sym (names_more k ∙ ap (λ b. names k (take i caps) || (b || false)) (ne_eqb at k (λ e. other (sym e))))
    ];
  }
    where
      ends : (b : Bool) → (b || (true || false)) ≡ true
      ends true = refl
      ends false = refl
