-- What a caller needs of several calls in turn: lists beside those that a call names, and walks along a list.
use Rattle.std.proofs.Common.{◌≡◌, ◌≢◌, ℕ, ◌<◌, List, [], ◌∷◌, length, refl, sym, ap, ◌∙◌, subst, arith, inl, inr, Option, None, Some}
use Rattle.std.specs.Prelude.{MatchOption}
use Rattle.cand_pool.specs.Links.{none, IsIn}
use Rattle.cand_pool.specs.Candidates.{Candidate, Candidates}
use Rattle.cand_pool.specs.Pools.{Block, items, IsHeld, KeepsOthers, IsPlace, Differ}
use Rattle.cand_pool.specs.declared.ends.Cand.{Cand}
use Rattle.cand_pool.proofs.PlaceLaws.{from_items}
use Rattle.cand_pool.proofs.PublicLaws.{stays_any, differ_from}

-- an empty list is no other's
pub keeps_none : (s : Block) (k : ℕ) → k ≡ none → KeepsOthers s [] s (k ∷ [])
keeps_none s k e = record {
  few = λ k. k;
  stays = λ first last xs h some out. h;
  fresh = λ first last xs h some out is_new. elim is_new [ inl m ↦ some (m ∙ e) | inr z ↦ z ];
}

-- a list that differs from the only one that is named
pub apart_one : (a k : ℕ) → Differ k a → a ≢ none → IsIn a (k ∷ []) → ⊥
apart_one a k differ some m = elim m [ inl e ↦ some (e ∙ differ (sym e)) | inr z ↦ z ]

pub apart_two : (a k l : ℕ) → Differ a k → Differ a l → a ≢ none → IsIn a (k ∷ l ∷ []) → ⊥
apart_two a k l first second some m = elim m [ inl e ↦ some (first e) | inr n ↦ elim n [ inl e ↦ some (second e) | inr z ↦ z ] ]

-- what a call makes differs from a list that it does not name
pub fresh_differs : (s t : Block) (old new : List ℕ) (first last : ℕ) (xs : Candidates) → KeepsOthers s old t new → IsHeld s first last xs → (first ≢ none → IsIn first old → ⊥)
    → (k : ℕ) → IsIn k new → Differ first k
fresh_differs s t old new first last xs keeps h out k m = differ_from first k (λ some e. keeps.fresh first last xs h some (out some) (subst (λ (n : ℕ). IsIn n new) (sym e) m))

pub turned_round : (a b : ℕ) → Differ a b → Differ b a
turned_round a b differ e = e ∙ differ (sym e)

-- a list that was beside another one, when a call has split that one
pub record IsBeside (t : Block) (list bag first last : ℕ) (xs : Candidates) : Type 0 where
  pub held : IsHeld t first last xs
  pub of_list : Differ list first
  pub of_bag : Differ bag first

pub beside : (s t : Block) (list list' list_last' bag first last : ℕ) (xs ks : Candidates) → KeepsOthers s (list ∷ []) t (list' ∷ bag ∷ []) → Differ list first → IsHeld s first last xs → IsHeld t list' list_last' ks
    → IsBeside t list' bag first last xs
beside s t list list' list_last' bag first last xs ks keeps differ h other =
    let out : first ≢ none → IsIn first (list ∷ []) → ⊥ = apart_one first list differ in record {
      held = stays_any s t (list ∷ []) (list' ∷ bag ∷ []) first last xs keeps other.few out h;
      of_list = turned_round first list' (fresh_differs s t (list ∷ []) (list' ∷ bag ∷ []) first last xs keeps h out list' (inl refl));
      of_bag = turned_round first bag (fresh_differs s t (list ∷ []) (list' ∷ bag ∷ []) first last xs keeps h out bag (inr (inl refl)));
    }

-- how many candidates there are from a place on
abbrev pub left_from : Block → Option Cand → ℕ
left_from s None = 0
left_from s (Some place) = length (items s place.slot)

-- a place, if there is one, is one of a list
abbrev pub IsPlaced : Block → Option Cand → Type 0
IsPlaced s None = Unit {0}
IsPlaced s (Some place) = (xs : Candidates) × IsPlace s place xs

pub placed_first : (s : Block) (answer : Option Cand) (xs : Candidates) → MatchOption answer (xs ≡ []) (λ place. IsPlace s place xs) → IsPlaced s answer
placed_first s None xs m = tt
placed_first s (Some place) xs m = (xs, m)

-- the place after a place has fewer candidates from it on
pub record IsNext (s : Block) (place : Cand) (answer : Option Cand) : Type 0 where
  pub placed : IsPlaced s answer
  pub fewer : left_from s answer < length (items s place.slot)

next_at : (s : Block) (place : Cand) (answer : Option Cand) (x : Candidate) (xs : Candidates) → IsPlace s place (x ∷ xs) → MatchOption answer (xs ≡ []) (λ after. IsPlace s after xs) → IsNext s place answer
next_at s place None x xs h m = let e : items s place.slot ≡ x ∷ xs = from_items s place.slot (x ∷ xs) h.from in record { placed = tt; fewer = let k = ap length e in omega (arith, k) }
next_at s place (Some after) x xs h m =
    let e : items s place.slot ≡ x ∷ xs = from_items s place.slot (x ∷ xs) h.from in
    let f : items s after.slot ≡ xs = from_items s after.slot xs m.from in
    let k = ap length e in let l = ap length f in
    record { placed = (xs, m); fewer = omega (arith, k, l) }

pub next_from : (s : Block) (place : Cand) (answer : Option Cand) (xs : Candidates) → IsPlace s place xs
    → ((y : Candidate) (ys : Candidates) → IsPlace s place (y ∷ ys) → MatchOption answer (ys ≡ []) (λ after. IsPlace s after ys)) → IsNext s place answer
next_from s place answer [] h m = absurd (h.some refl)
next_from s place answer (x ∷ xs) h m = next_at s place answer x xs h (m x xs h)

pub step_on : (s : Block) (before answer : Option Cand) (place : Cand) → before ≡ Some place → IsPlaced s before
    → ((y : Candidate) (ys : Candidates) → IsPlace s place (y ∷ ys) → MatchOption answer (ys ≡ []) (λ after. IsPlace s after ys)) → (left_from s answer < left_from s before) × IsPlaced s answer
step_on s None answer place e placed m = absurd (cc)
step_on s (Some here) answer place e (xs, h) m =
    let k : here ≡ place = cc in
    let n : IsNext s place answer = next_from s place answer xs (subst (λ (p : Cand). IsPlace s p xs) k h) m in
    (subst (λ (p : Cand). left_from s answer < length (items s p.slot)) (sym k) n.fewer, n.placed)
