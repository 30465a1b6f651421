-- A walk along a list, whose candidates within a limit come on the hull.
use Rattle.std.specs.Prelude.{MatchOption}
use Rattle.std.proofs.lemmas.Bool.{cases_lt}
use Rattle.std.proofs.lemmas.List.{drop_more}
use Rattle.std.proofs.Common.{◌≡◌, ℕ, ◌+◌, ◌*◌, ◌^◌, ◌<◌, ◌≤◌, List, [], ◌∷◌, length, get_or, slice_index, drop, refl, sym, ap, ◌∙◌, subst, arith, inl, inr, Option, Some, None, pos}
use Rattle.elmore.specs.Cells.{rep_at}
use Rattle.elmore.specs.Legal.{IsWithin}
use Rattle.elmore.specs.declared.rep.Rep.{Rep}
use Rattle.cand_pool.specs.Candidates.{Candidate, Candidates, AreModest}
use Rattle.cand_pool.specs.Pools.{Block, items, IsPlace}
use Rattle.cand_pool.proofs.PlaceLaws.{from_items}
use Rattle.cand_pool.specs.declared.ends.Cand.{Cand}
use Rattle.vg_convex.specs.Places.{candidate_at, row, IsNumber, IsHullOf, IsWalk, IsFurther, IsOver}
use Rattle.vg_convex.specs.Hulls.{Rise}
use Rattle.vg_convex.specs.Orders.{AreByLimit}
use Rattle.vg_convex.specs.declared.work.Point.{Point}
use Rattle.vg_convex.proofs.Numbers.{at_place}

-- how many candidates are left from a place on
abbrev pub left_from : Block → Option Cand → ℕ
left_from s None = 0
left_from s (Some place) = length (items s place.slot)

-- from candidate n on, those that were seen are within the limit and have come on; `before` is what the steps and the
-- stack were
pub record IsGrowing (s : Block) (xs : Candidates) (limit : Option ℕ) (n : ℕ) (stack : List Point) (next : Option Cand) (before steps : ℕ) : Type 0 where
  pub far : IsFurther s xs limit n stack next
  pub cost : steps + length stack + 3 * n ≤ before + 3 * far.seen

-- the first i repeaters of an order are done
pub record IsFinding (s : Block) (xs : Candidates) (reps : List Rep) (order : List ℕ) (i : ℕ) (stack : List Point) (next : Option Cand) (before steps : ℕ) : Type 0 where
  pub seen : ℕ
  pub walk : IsWalk s xs seen stack next
  pub within : (j k : ℕ) → i ≤ j → j < length order → k < seen → IsWithin (rep_at reps (slice_index order j)).limit (row xs k).c
  pub cost : (d : ℕ) → length xs < 2 ^ d → steps + length stack ≤ before + 3 * seen + i * (d + 2)

-- what the pool tells of the candidate after a place
abbrev pub IsAfter : Block → Cand → Option Cand → Type 0
IsAfter s place next = (x : Candidate) (xs : Candidates) → IsPlace s place (x ∷ xs) → MatchOption next (xs ≡ []) (λ (p : Cand). IsPlace s p xs)

-- there are fewer after it
pub fewer_left : (s : Block) (xs : Candidates) (n : ℕ) (place : Cand) (next : Option Cand) → IsNumber s xs place n → IsAfter s place next
    → left_from s next < left_from s (Some place)
fewer_left s xs n place next at after =
    let here : items s place.slot ≡ candidate_at xs n ∷ drop (n + 1) xs = from_items s place.slot (candidate_at xs n ∷ drop (n + 1) xs) (at_place s xs place n at).from in
    let long : length (items s place.slot) ≡ length (drop (n + 1) xs) + 1 = omega (arith, ap (λ (l : List Candidate). length l) here) in
    go next (after (candidate_at xs n) (drop (n + 1) xs) (at_place s xs place n at)) long
  where
    go : (next : Option Cand) → MatchOption next (drop (n + 1) xs ≡ []) (λ (p : Cand). IsPlace s p (drop (n + 1) xs))
        → length (items s place.slot) ≡ length (drop (n + 1) xs) + 1 → left_from s next < left_from s (Some place)
    go None is long = omega (arith, long)
    go (Some p) is long = omega (arith, long, ap (λ (l : List Candidate). length l) (from_items s p.slot (drop (n + 1) xs) is.from))

-- one candidate more comes on
pub grown_one : (s : Block) (xs : Candidates) (limit : Option ℕ) (n : ℕ) (stack : List Point) (place : Cand) (before steps : ℕ)
    (stack' : List Point) (next : Option Cand) (steps' c : ℕ) → (g : IsGrowing s xs limit n stack (Some place) before steps)
    → c ≡ (candidate_at xs g.far.seen).c → IsWithin limit c → IsHullOf xs (g.far.seen + 1) stack' → IsAfter s place next
    → steps' + length stack' ≤ steps + 1 + length stack + 2 → IsGrowing s xs limit n stack' next before steps'
grown_one s xs limit n stack place before steps stack' next steps' c g c_is within hull after cost = record {
  far = record {
    seen = g.far.seen + 1;
    more = omega (arith, g.far.more);
    within = λ i low high. elim (cases_lt i g.far.seen) [
      | inl old ↦ g.far.within i low old
      | inr new ↦ let e : i ≡ g.far.seen = omega arith in subst (λ k. IsWithin limit (row xs k).c) (sym e) (subst (λ k. IsWithin limit k) c_is within)
    ];
    walk = record { hull = hull; more = after (candidate_at xs g.far.seen) (drop (g.far.seen + 1) xs) (at_place s xs place g.far.seen g.far.walk.more) };
  };
  cost = omega (arith, g.cost, cost);
}

-- what a walk has come to
abbrev pub AreGrown : Block → Candidates → Option ℕ → ℕ → List Point → Option Cand → ℕ → ℕ → Type 0
AreGrown s xs limit n stack next before steps =
    (f : IsFurther s xs limit n stack next) × IsOver limit xs f.seen × (steps + length stack + 3 * n ≤ before + 3 * f.seen + 1)

-- the candidate that comes next is over the limit
pub grown_to : (s : Block) (xs : Candidates) (limit : Option ℕ) (n : ℕ) (stack : List Point) (place : Cand) (before steps steps' c : ℕ)
    → (g : IsGrowing s xs limit n stack (Some place) before steps) → c ≡ (candidate_at xs g.far.seen).c → (IsWithin limit c → ⊥) → steps' ≡ steps + 1
    → AreGrown s xs limit n stack (Some place) before steps'
grown_to s xs limit n stack place before steps steps' c g c_is over step =
    (g.far, λ low within. over (subst (λ k. IsWithin limit k) (sym c_is) within), omega (arith, g.cost, step))

-- there is no more candidate
pub grown_all : (s : Block) (xs : Candidates) (limit : Option ℕ) (n : ℕ) (stack : List Point) (next : Option Cand) (before steps : ℕ)
    → next ≡ None → (g : IsGrowing s xs limit n stack next before steps) → AreGrown s xs limit n stack next before steps
grown_all s xs limit n stack next before steps e g = (g.far, λ low within. absurd (none_left low), omega (arith, g.cost))
  where
    none_left : g.far.seen < length xs → ⊥
    none_left low =
        let end : drop g.far.seen xs ≡ [] = subst (λ (o : Option Cand). MatchOption o (drop g.far.seen xs ≡ []) (λ place. IsNumber s xs place g.far.seen)) e g.far.walk.more in
        let e : [] ≡ get_or xs g.far.seen (record { q = pos 0; c = 0; tag = 0 }) ∷ drop (g.far.seen + 1) xs
        = sym end ∙ drop_more xs g.far.seen (record { q = pos 0; c = 0; tag = 0 }) low in
        absurd (cc)

pub grown_begins : (s : Block) (xs : Candidates) (limit : Option ℕ) (n : ℕ) (stack : List Point) (next : Option Cand) (steps : ℕ) → IsWalk s xs n stack next
    → IsGrowing s xs limit n stack next (steps + length stack) steps
grown_begins s xs limit n stack next steps w = record {
  far = record { seen = n; more = omega arith; within = λ i low high. absurd (omega (arith, low, high)); walk = w };
  cost = omega arith;
}

-- a walk on a list begins
pub walk_begins : (s : Block) (xs : Candidates) (stack : List Point) (next : Option Cand) → Rise (row xs) (length xs) → AreModest xs → stack ≡ []
    → MatchOption next (xs ≡ []) (λ (p : Cand). IsPlace s p xs) → IsWalk s xs 0 stack next
walk_begins s xs stack next rise modest empty first = record {
  hull = record {
    rise = rise;
    modest = modest;
    few = omega arith;
    numbers = λ j. 0;
    points = λ j d low. absurd (omega (arith, low, none));
    hull = record { none = λ _. none; some = λ on. absurd (omega (arith, on)) };
  };
  more = first;
}
  where
    none : length stack ≡ 0
    none = ap (λ (l : List Point). length l) empty

-- with no limit the walk goes to the end of the list
pub whole_hull : (s : Block) (xs : Candidates) (n : ℕ) (stack : List Point) (next : Option Cand) → (f : IsFurther s xs None n stack next) → IsOver None xs f.seen
    → IsHullOf xs (length xs) stack
whole_hull s xs n stack next f over =
    let all : f.seen ≡ length xs = elim (cases_lt f.seen (length xs)) [
      | inl low ↦ absurd (over low tt)
      | inr end ↦ omega (arith, end, f.walk.hull.few)
    ] in
    subst (λ m. IsHullOf xs m stack) all f.walk.hull

-- nothing came on
abbrev pub no_further : (s : Block) (xs : Candidates) (limit : Option ℕ) (n : ℕ) (stack : List Point) (next : Option Cand) → IsWalk s xs n stack next
    → IsFurther s xs limit n stack next
no_further s xs limit n stack next w = record { seen = n; more = omega arith; within = λ i low high. absurd (omega (arith, low, high)); walk = w }

pub find_begins : (s : Block) (xs : Candidates) (reps : List Rep) (order : List ℕ) (stack : List Point) (next : Option Cand) (before : ℕ)
    → IsWalk s xs 0 stack next → IsFinding s xs reps order 0 stack next before before
find_begins s xs reps order stack next before w = record {
  seen = 0;
  walk = w;
  within = λ j k first low high. absurd (omega (arith, high));
  cost = λ d less. omega (arith, w.hull.hull.none refl);
}

-- one repeater more is done
pub find_more : (s : Block) (xs : Candidates) (reps : List Rep) (order : List ℕ) (i b : ℕ) (stack stack' : List Point) (next next' : Option Cand) (before steps steps' : ℕ)
    → AreByLimit reps order → i < length order → slice_index order i ≡ b → (g : IsFinding s xs reps order i stack next before steps)
    → (f : IsFurther s xs (rep_at reps b).limit g.seen stack' next')
    → ((d : ℕ) → length xs < 2 ^ d → steps' + length stack' + 3 * g.seen ≤ steps + length stack + 3 * f.seen + d + 2)
    → IsFinding s xs reps order (i + 1) stack' next' before steps'
find_more s xs reps order i b stack stack' next next' before steps steps' by_limit low b_is g f cost = record {
  seen = f.seen;
  walk = f.walk;
  within = λ j k later j_low seen. elim (cases_lt k g.seen) [
    | inl old ↦ g.within j k (omega (arith, later)) j_low old
    | inr new ↦
        by_limit i j 0 (omega (arith, later)) j_low (row xs k).c
        (subst (λ m. IsWithin (rep_at reps m).limit (row xs k).c) (sym b_is) (f.within k new seen))
  ];
  cost = λ d less. omega (arith, g.cost d less, cost d less);
}
