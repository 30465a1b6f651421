-- Lists as they are made, emptied and walked.
use Rattle.std.proofs.Common.{◌≡◌, ℕ, suc, ◌+◌, ◌*◌, ◌<◌, [], ◌∷◌, ◌++◌, length, refl, sym, ap, ◌∙◌, subst, arith, inl, length-append, Option, None, Some, pos}
use Rattle.std.specs.Prelude.{IsNone, IsSome, ◌≤ℤ◌, ◌<ℤ◌}
use Rattle.std.proofs.lemmas.Int.{ints}
use Rattle.cand_pool.specs.Links.{none}
use Rattle.cand_pool.specs.Candidates.{Candidate, Candidates}
use Rattle.cand_pool.specs.Pools.{Block, items, items_of, spare, Holds, HoldsBag, KeepsOthers, name}
use Rattle.cand_pool.specs.declared.ends.List.{List as NamedList}
use Rattle.cand_pool.specs.declared.ends.Bag.{Bag}
use Rattle.cand_pool.specs.Laws.{RisesInTime}
use Rattle.cand_pool.proofs.RisingLaws.{AreBefore, before_later, before_append, rises_append}
use Rattle.cand_pool.proofs.PublicLaws.{held_items, held_named, nothing_held}
use Rattle.cand_pool.proofs.PoolMoves.{keeps_then}
use Rattle.bench_lists.specs.Turns.{IsSmall, AreSmall, IsMade, IsFull}
use Rattle.bench_lists.proofs.Lengths.{small_append}
use Rattle.cand_pool.proofs.CallLaws.{keeps_none}

-- how far a list is made: it has these n candidates
pub record IsFilling (s t : Block) (list : NamedList) (n : ℕ) (xs : Candidates) : Type 0 where
  pub held : Holds t list xs
  pub small : AreSmall xs
  pub long : length xs ≡ n
  pub others : KeepsOthers s [] t (name list ∷ [])
  pub free : spare s ≡ spare t + n

pub filling_start : (s t : Block) (list : NamedList) → t ≡ s → Holds t list [] → IsFilling s t list 0 []
filling_start s t list same h = record {
  held = h;
  small = tt;
  long = refl;
  others = subst (λ (b : Block). KeepsOthers b [] t (name list ∷ [])) same (keeps_none t (name list) (nothing_held t list.ends.first list.ends.last h));
  free = let e : spare t ≡ spare s = ap spare same in omega (arith, e);
}

pub filling_more : (s t u : Block) (list list' : NamedList) (n : ℕ) (xs : Candidates) (x : Candidate) → IsFilling s t list n xs → IsSmall x → ((ys : Candidates) → Holds t list ys → Holds u list' (ys ++ x ∷ []))
    → KeepsOthers t (name list ∷ []) u (name list' ∷ []) → spare t ≡ suc (spare u) → IsFilling s u list' (n + 1) (xs ++ x ∷ [])
filling_more s t u list list' n xs x f small pushed others free = record {
  held = pushed xs f.held;
  small = small_append xs x f.small small;
  long = let long = f.long in omega (arith, long, length-append xs (x ∷ []));
  others = keeps_then s t u [] (name list ∷ []) (name list ∷ []) (name list' ∷ []) (name list' ∷ []) f.others others (λ k m. m) (λ k m. inl m);
  free = let before = f.free in omega (arith, before, free);
}

-- and how its times rise
pub record AreRising (n : ℕ) (xs : Candidates) : Type 0 where
  pub rises : RisesInTime xs
  pub before : AreBefore (pos (16384 * n)) xs

pub rising_more : (n : ℕ) (xs : Candidates) (x : Candidate) → AreRising n xs → pos (16384 * n) ≤ℤ x.q → x.q <ℤ pos (16384 * n + 16384) → AreRising (n + 1) (xs ++ x ∷ [])
rising_more n xs x are from to = record {
  rises = rises_append xs x are.rises (before_later (pos (16384 * n)) x.q xs from are.before);
  before =
      before_append (pos (16384 * (n + 1))) xs x (before_later (pos (16384 * n)) (pos (16384 * (n + 1))) xs (omega (arith, ints)) are.before)
      (omega (arith, ints, to));
}

pub filled_rises : (s t : Block) (list : NamedList) (n : ℕ) (xs : Candidates) → IsFilling s t list n xs → AreRising n xs → RisesInTime (items_of t list)
filled_rises s t list n xs f are = subst RisesInTime (sym (held_items t list.ends.first list.ends.last xs f.held)) are.rises

pub filled_made : (s t : Block) (list : NamedList) (n : ℕ) (xs : Candidates) → IsFilling s t list n xs → IsMade t list
filled_made s t list n xs f = (held_named t list.ends.first list.ends.last xs f.held, subst AreSmall (sym (held_items t list.ends.first list.ends.last xs f.held)) f.small)

pub filled_long : (s t : Block) (list : NamedList) (n : ℕ) (xs : Candidates) → IsFilling s t list n xs → length (items_of t list) ≡ n
filled_long s t list n xs f = ap length (held_items t list.ends.first list.ends.last xs f.held) ∙ f.long

-- how far a bag is emptied: n tags were taken
pub record IsEmptying (s t : Block) (bag : Bag) (size n : ℕ) : Type 0 where
  pub ys : Candidates
  pub held : HoldsBag t bag ys
  pub long : length ys + n ≡ size
  pub free : spare t ≡ spare s + n

pub emptying_start : (s : Block) (bag : Bag) (ys : Candidates) (size : ℕ) → HoldsBag s bag ys → length ys ≡ size → IsEmptying s s bag size 0
emptying_start s bag ys size h long = record { ys = ys; held = h; long = omega (arith, long); free = omega arith }

-- one more candidate of which its tag is taken
emptying_from : (s t u : Block) (bag bag' : Bag) (size n : ℕ) (ys : Candidates) → n < size → length ys + n ≡ size → HoldsBag t bag ys → spare t ≡ spare s + n
    → ((x : Candidate) (xs : Candidates) → HoldsBag t bag (x ∷ xs) → HoldsBag u bag' xs) → spare u ≡ suc (spare t) → IsEmptying s u bag' size (n + 1)
emptying_from s t u bag bag' size n [] low long h free taken more = let e : 0 + n ≡ size = long in absurd (omega (arith, e, low))
emptying_from s t u bag bag' size n (y ∷ ys) low long h free taken more = record {
  ys = ys;
  held = taken y ys h;
  long = omega (arith, long);
  free = omega (arith, free, more);
}

pub emptying_more : (s t u : Block) (bag bag' : Bag) (size n : ℕ) → n < size → IsEmptying s t bag size n → ((x : Candidate) (xs : Candidates) → HoldsBag t bag (x ∷ xs) → HoldsBag u bag' xs) → spare u ≡ suc (spare t)
    → IsEmptying s u bag' size (n + 1)
emptying_more s t u bag bag' size n low e taken more = emptying_from s t u bag bag' size n e.ys low e.long e.held e.free taken more

some_from : (s : Block) (bag : Bag) (size n : ℕ) (ys : Candidates) → n < size → length ys + n ≡ size → HoldsBag s bag ys → IsFull s bag
some_from s bag size n [] low long h = let e : 0 + n ≡ size = long in absurd (omega (arith, e, low))
some_from s bag size n (y ∷ ys) low long h = (y, ys, h)

pub emptying_some : (s t : Block) (bag : Bag) (size n : ℕ) → n < size → IsEmptying s t bag size n → IsFull t bag
emptying_some s t bag size n low e = some_from t bag size n e.ys low e.long e.held

nothing_left : (s : Block) (bag : Bag) (ys : Candidates) (n size : ℕ) → n ≡ size → length ys + n ≡ size → HoldsBag s bag ys → HoldsBag s bag []
nothing_left s bag [] n size e long h = h
nothing_left s bag (y ∷ ys) n size e long h = absurd (omega (arith, e, long))

pub emptying_end : (s t : Block) (bag : Bag) (size n : ℕ) → n ≡ size → IsEmptying s t bag size n → HoldsBag t bag []
emptying_end s t bag size n e h = nothing_left t bag h.ys n size e h.long h.held

-- a bag with a candidate has a tag
pub tag_there : (s u : Block) (bag bag' : Bag) (answer : Option ℕ) → IsFull s bag → (IsNone answer → HoldsBag s bag [] × (u ≡ s) × (bag' ≡ bag)) → IsSome answer
tag_there s u bag bag' None (x, xs, h) none =
    let some : items s bag.ends.first ≡ x ∷ xs = held_items s bag.ends.first bag.ends.last (x ∷ xs) h in
    let no : items s bag.ends.first ≡ [] = held_items s bag.ends.first bag.ends.last [] ((none refl).0) in
    absurd (cc)
tag_there s u bag bag' (Some tag) full none = refl
