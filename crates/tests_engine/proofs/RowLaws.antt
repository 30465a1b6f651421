-- Lists as they are made of rows, and bags as they are emptied.
use Rattle.std.proofs.Common.{◌≡◌, ℕ, suc, ◌+◌, ◌-◌, ◌<◌, ◌≤◌, List, get_or, ℤ, [], ◌∷◌, ◌++◌, length, map, refl, sym, ap, ◌∙◌, subst, arith, inl, inr, length-append, Option, None, Some}
use Rattle.std.specs.Prelude.{IsNone, ◌<ℤ◌}
use Rattle.std.proofs.lemmas.Bool.{cases_eq}
use Rattle.std.proofs.lemmas.Int.{ints}
use Rattle.std.proofs.lemmas.List.{get_or_default}
use Rattle.cand_pool.specs.Links.{none}
use Rattle.cand_pool.specs.Candidates.{Candidate, Candidates, IsModest, AreModest, wired_to}
use Rattle.cand_pool.specs.Sequences.{lowest, undominated, dominated, union}
use Rattle.cand_pool.specs.Pools.{Block, items_of, bag_of, spare, Holds, HoldsBag, IsLive, IsLiveBag, KeepsOthers, Differ, name, bag_name}
use Rattle.cand_pool.specs.declared.ends.List.{List as NamedList}
use Rattle.cand_pool.specs.declared.ends.Bag.{Bag}
use Rattle.cand_pool.proofs.PublicLaws.{held_items, held_named, nothing_held, stays}
use Rattle.cand_pool.proofs.PoolMoves.{keeps_then, keeps_itself}
use Rattle.cand_pool.proofs.SieveLaws.{keeps_like}
use Rattle.cand_pool.proofs.CallLaws.{keeps_none, fresh_differs}
use Rattle.cand_pool.proofs.LengthLaws.{parts_long, union_long, map_long}
use Rattle.cand_pool.specs.Laws.{RisesInTime}
use Rattle.cand_pool.proofs.RisingLaws.{AreBefore, before_append, rises_append}
use Rattle.tests_engine.specs.Rows.{IsMade, AreRising}

modest_append : (xs : List Candidate) (x : Candidate) → AreModest xs → IsModest x → AreModest (xs ++ x ∷ [])
modest_append [] x all one = (one, tt)
modest_append (y ∷ ys) x all one = (all.0, modest_append ys x all.1 one)

-- rows of which each has a time
module _ {R : Type 0} (time : R → ℤ) where
  -- how the times of candidates that were made of the first n rows rise
  pub record AreRisingTo (rows : List R) (n : ℕ) (xs : Candidates) : Type 0 where
    pub rises : RisesInTime xs
    pub before : (k : ℕ) (d : R) → n ≤ k → k < length rows → AreBefore (time (get_or rows k d)) xs

  rising_more : (rows : List R) (n : ℕ) (xs : Candidates) (x : Candidate) (e : R) → AreRising time rows → n < length rows → x.q ≡ time (get_or rows n e) → AreRisingTo rows n xs
      → AreRisingTo rows (n + 1) (xs ++ x ∷ [])
  rising_more rows n xs x e all low is_time are = record {
    rises = rises_append xs x are.rises (subst (λ (q : ℤ). AreBefore q xs) (sym is_time) (are.before n e (omega arith) low));
    before = λ k d n_k k_n.
        let later : time (get_or rows n d) <ℤ time (get_or rows k d) = all n k d (omega arith) k_n in
        let same : time (get_or rows n e) ≡ time (get_or rows n d) = ap time (get_or_default rows n e d low) in
        let early : x.q <ℤ time (get_or rows k d) = subst (λ (q : ℤ). q <ℤ time (get_or rows k d)) (sym (is_time ∙ same)) later in
        before_append (time (get_or rows k d)) xs x (are.before k d (omega arith) k_n) early;
  }

  -- rows of which one more was looked at
  pub rows_more : (rows : List R) (i : ℕ) (e : R) → 0 < i → i < length rows → time (get_or rows (i - 1) e) <ℤ time (get_or rows i e)
      → ((k j : ℕ) (d : R) → k < j → j < i → time (get_or rows k d) <ℤ time (get_or rows j d))
      → (k j : ℕ) (d : R) → k < j → j < i + 1 → time (get_or rows k d) <ℤ time (get_or rows j d)
  rows_more rows i e some low next before k j d k_j j_i = elim (cases_eq j i) [
    | inr less ↦ before k j d k_j (omega arith)
    | inl is ↦
        let one : time (get_or rows (i - 1) e) ≡ time (get_or rows (i - 1) d) = ap time (get_or_default rows (i - 1) e d (omega arith)) in
        let two : time (get_or rows i e) ≡ time (get_or rows i d) = ap time (get_or_default rows i e d low) in
        let last : time (get_or rows (i - 1) d) <ℤ time (get_or rows i d) = omega (arith, ints, next, one, two) in
        rw is
        (elim (cases_eq k (i - 1)) [
          | inl first ↦ rw first last
          | inr less ↦ let more : time (get_or rows k d) <ℤ time (get_or rows (i - 1) d) = before k (i - 1) d (omega arith) (omega arith) in omega (arith, ints, more, last)
        ])
  ]

  -- how far a list is made of rows: it has n candidates
  pub record IsMaking (rows : List R) (s t : Block) (list : NamedList) (n : ℕ) : Type 0 where
    pub xs : Candidates
    pub held : Holds t list xs
    pub modest : AreModest xs
    pub long : length xs ≡ n
    pub rises : AreRising time rows → AreRisingTo rows n xs
    pub others : KeepsOthers s [] t (name list ∷ [])
    pub free : spare s ≡ spare t + n

  pub making_start : (rows : List R) (s t : Block) (list : NamedList) → t ≡ s → Holds t list [] → IsMaking rows s t list 0
  making_start rows s t list same h = record {
    xs = [];
    rises = λ all. record { rises = tt; before = λ k d n_k k_n. tt };
    held = h;
    modest = tt;
    long = refl;
    others = subst (λ (b : Block). KeepsOthers b [] t (name list ∷ [])) same (keeps_none t (name list) (nothing_held t list.ends.first list.ends.last h));
    free = let e : spare t ≡ spare s = ap spare same in omega (arith, e);
  }

  pub making_more : (rows : List R) (s t u : Block) (list list' : NamedList) (n : ℕ) (x : Candidate) (e : R) → n < length rows → x.q ≡ time (get_or rows n e)
      → IsMaking rows s t list n → IsModest x → ((xs : Candidates) → Holds t list xs → Holds u list' (xs ++ x ∷ []))
      → KeepsOthers t (name list ∷ []) u (name list' ∷ []) → spare t ≡ suc (spare u) → IsMaking rows s u list' (n + 1)
  making_more rows s t u list list' n x e low is_time f modest pushed others free = record {
    xs = f.xs ++ x ∷ [];
    rises = λ all. rising_more rows n f.xs x e all low is_time (f.rises all);
    held = pushed f.xs f.held;
    modest = modest_append f.xs x f.modest modest;
    long = let long = f.long in omega (arith, long, length-append f.xs (x ∷ []));
    others = keeps_then s t u [] (name list ∷ []) (name list ∷ []) (name list' ∷ []) (name list' ∷ []) f.others others (λ k m. m) (λ k m. inl m);
    free = let before = f.free in omega (arith, before, free);
  }

  pub making_rises : (rows : List R) (s t : Block) (list : NamedList) (n : ℕ) → IsMaking rows s t list n → AreRising time rows → RisesInTime (items_of t list)
  making_rises rows s t list n f all = subst RisesInTime (sym (held_items t list.ends.first list.ends.last f.xs f.held)) (f.rises all).rises

  pub making_end : (rows : List R) (s t : Block) (list : NamedList) (m n : ℕ) → IsMaking rows s t list m → m ≡ n → IsMade t list n
  making_end rows s t list m n f e =
      let is : items_of t list ≡ f.xs = held_items t list.ends.first list.ends.last f.xs f.held in
      (held_named t list.ends.first list.ends.last f.xs f.held, subst AreModest (sym is) f.modest, ap length is ∙ f.long ∙ e)

-- how far a bag is emptied
pub record IsEmptying (s t : Block) (bag bag' : Bag) : Type 0 where
  pub ys : Candidates
  pub held : HoldsBag t bag' ys
  pub others : KeepsOthers s (bag_name bag ∷ []) t (bag_name bag' ∷ [])
  pub free : spare t + length ys ≡ spare s + length (bag_of s bag)

pub emptying_start : (s : Block) (bag : Bag) → HoldsBag s bag (bag_of s bag) → IsEmptying s s bag bag
emptying_start s bag h = record { ys = bag_of s bag; held = h; others = keeps_itself s (bag_name bag ∷ []); free = refl }

some_not_none : (answer : Option ℕ) (tag : ℕ) → answer ≡ Some tag → IsNone answer → ⊥
some_not_none None tag e none = cc
some_not_none (Some k) tag e none = cc

some_taken : (s t u : Block) (bag bag' bag'' : Bag) (answer : Option ℕ) (tag : ℕ) (ys : Candidates) → HoldsBag t bag' ys → answer ≡ Some tag → (HoldsBag t bag' [] → IsNone answer)
    → ((k : ℕ) → answer ≡ Some k → (x : Candidate) (xs : Candidates) → HoldsBag t bag' (x ∷ xs) → (k ≡ x.tag) × HoldsBag u bag'' xs)
    → KeepsOthers s (bag_name bag ∷ []) t (bag_name bag' ∷ []) → KeepsOthers t (bag_name bag' ∷ []) u (bag_name bag'' ∷ [])
    → spare t + length ys ≡ spare s + length (bag_of s bag) → spare u ≡ suc (spare t) → IsEmptying s u bag bag''
some_taken s t u bag bag' bag'' answer tag [] h e empty some before others free more = absurd (some_not_none answer tag e (empty h))
some_taken s t u bag bag' bag'' answer tag (y ∷ ys) h e empty some before others free more = record {
  ys = ys;
  held = (some tag e y ys h).1;
  others = keeps_then s t u (bag_name bag ∷ []) (bag_name bag' ∷ []) (bag_name bag' ∷ []) (bag_name bag'' ∷ []) (bag_name bag'' ∷ []) before others (λ k m. m) (λ k m. inl m);
  free = omega (arith, free, more);
}

pub emptying_more : (s t u : Block) (bag bag' bag'' : Bag) (answer : Option ℕ) (tag : ℕ) → IsEmptying s t bag bag' → answer ≡ Some tag → (HoldsBag t bag' [] → IsNone answer)
    → ((k : ℕ) → answer ≡ Some k → (x : Candidate) (xs : Candidates) → HoldsBag t bag' (x ∷ xs) → (k ≡ x.tag) × HoldsBag u bag'' xs)
    → KeepsOthers t (bag_name bag' ∷ []) u (bag_name bag'' ∷ []) → spare u ≡ suc (spare t) → IsEmptying s u bag bag''
emptying_more s t u bag bag' bag'' answer tag at e empty some others more =
    some_taken s t u bag bag' bag'' answer tag at.ys at.held e empty some at.others others at.free more

-- each tag that is taken leaves fewer
pub emptying_fewer : (s t u : Block) (bag bag' bag'' : Bag) → IsEmptying s t bag bag' → IsEmptying s u bag bag'' → spare u ≡ suc (spare t) → length (bag_of u bag'') < length (bag_of t bag')
emptying_fewer s t u bag bag' bag'' one two more =
    let e = ap length (held_items t bag'.ends.first bag'.ends.last one.ys one.held) in
    let f = ap length (held_items u bag''.ends.first bag''.ends.last two.ys two.held) in
    let a = one.free in let b = two.free in omega (arith, e, f, a, b, more)

-- an emptied bag
pub emptied_others : (s t u : Block) (bag bag' : Bag) → KeepsOthers s (bag_name bag ∷ []) t (bag_name bag' ∷ []) → u ≡ t → KeepsOthers s (bag_name bag ∷ []) u []
emptied_others s t u bag bag' others same =
    let few : KeepsOthers s (bag_name bag ∷ []) t [] = keeps_like s t (bag_name bag ∷ []) (bag_name bag' ∷ []) (bag_name bag ∷ []) [] others (λ k m. m) (λ k m. absurd m) in
    subst (λ (b : Block). KeepsOthers s (bag_name bag ∷ []) b []) (sym same) few

pub emptied_spare : (s t u : Block) (bag bag' : Bag) → IsEmptying s t bag bag' → HoldsBag t bag' [] → u ≡ t → spare u ≡ spare s + length (bag_of s bag)
emptied_spare s t u bag bag' at h same =
    let e = ap length (sym (held_items t bag'.ends.first bag'.ends.last at.ys at.held) ∙ held_items t bag'.ends.first bag'.ends.last [] h) in
    let f = ap spare same in let free = at.free in omega (arith, e, f, free)

-- what became of lists: so many candidates in a list and a bag
pub record IsParted (t : Block) (list : NamedList) (bag : Bag) (n : ℕ) : Type 0 where
  pub left : IsLive t list
  pub gone : IsLiveBag t bag
  pub all : length (items_of t list) + length (bag_of t bag) ≡ n

parted : (t : Block) (list : NamedList) (bag : Bag) (ks ds : Candidates) (n : ℕ) → Holds t list ks → HoldsBag t bag ds → length ks + length ds ≡ n → IsParted t list bag n
parted t list bag ks ds n left gone all = record {
  left = held_named t list.ends.first list.ends.last ks left;
  gone = held_named t bag.ends.first bag.ends.last ds gone;
  all = let e = ap length (held_items t list.ends.first list.ends.last ks left) in let f = ap length (held_items t bag.ends.first bag.ends.last ds gone) in omega (arith, e, f, all);
}

pub wired_parted : (r c : ℕ) (s t : Block) (list list' : NamedList) (bag : Bag) (n : ℕ) → IsMade s list n → ((xs : Candidates) → Holds s list xs → Holds t list' (undominated (map (wired_to r c) xs)))
    → ((xs : Candidates) → Holds s list xs → HoldsBag t bag (dominated (map (wired_to r c) xs))) → IsParted t list' bag n
wired_parted r c s t list list' bag n made left gone =
    let xs : Candidates = items_of s list in
    parted t list' bag (undominated (map (wired_to r c) xs)) (dominated (map (wired_to r c) xs)) n (left xs made.0) (gone xs made.0) (parts_long lowest (map (wired_to r c) xs) ∙ map_long (wired_to r c) xs ∙ made.2)

pub absorbed_parted : (s t : Block) (list other list' : NamedList) (bag : Bag) (m n : ℕ) → IsMade s list m → IsMade s other n → ((xs ys : Candidates) → Holds s list xs → Holds s other ys → Holds t list' (undominated (union xs ys)))
    → ((xs ys : Candidates) → Holds s list xs → Holds s other ys → HoldsBag t bag (dominated (union xs ys))) → IsParted t list' bag (m + n)
absorbed_parted s t list other list' bag m n made beside left gone =
    let xs : Candidates = items_of s list in
    let ys : Candidates = items_of s other in
    let a = made.2 in let b = beside.2 in let c = union_long xs ys in let d = parts_long lowest (union xs ys) in
    parted t list' bag (undominated (union xs ys)) (dominated (union xs ys)) (m + n) (left xs ys made.0 beside.0) (gone xs ys made.0 beside.0) (omega (arith, a, b, c, d))

-- so do its times rise
pub second_rises : (s t : Block) (list other : NamedList) (n : ℕ) → IsMade s list n → KeepsOthers s [] t (name other ∷ []) → RisesInTime (items_of s list) → RisesInTime (items_of t list)
second_rises s t list other n made keeps rises =
    let there : Holds t list (items_of s list) = stays s t [] (name other ∷ []) list.ends.first list.ends.last (items_of s list) keeps (λ some m. m) made.0 in
    subst RisesInTime (sym (held_items t list.ends.first list.ends.last (items_of s list) there)) rises

-- a list that was made stays while another one is made
pub second : (s t : Block) (list other : NamedList) (n : ℕ) → IsMade s list n → KeepsOthers s [] t (name other ∷ []) → IsMade t list n × Differ (name list) (name other)
second s t list other n made keeps =
    let there : Holds t list (items_of s list) = stays s t [] (name other ∷ []) list.ends.first list.ends.last (items_of s list) keeps (λ some m. m) made.0 in
    let e : items_of t list ≡ items_of s list = held_items t list.ends.first list.ends.last (items_of s list) there in (
      (held_named t list.ends.first list.ends.last (items_of s list) there, subst AreModest (sym e) made.1, ap length e ∙ made.2),
      fresh_differs s t [] (name other ∷ []) list.ends.first list.ends.last (items_of s list) keeps made.0 (λ some m. m) (name other) (inl refl),
    )

-- a bag stays while a list that differs from it is given up
pub beside_given : (s p t : Block) (list : NamedList) (rest bag : Bag) → IsLiveBag s bag → Differ (name list) (bag_name bag) → p ≡ s → bag_name rest ≡ name list → KeepsOthers p (bag_name rest ∷ []) t [] → HoldsBag t bag (bag_of s bag)
beside_given s p t list rest bag live differ same named keeps =
    stays p t (bag_name rest ∷ []) [] bag.ends.first bag.ends.last (bag_of s bag) keeps
    (λ some m. elim m [ inl e ↦ some (e ∙ named ∙ differ (sym (e ∙ named))) | inr z ↦ z ])
    (subst (λ (b : Block). HoldsBag b bag (bag_of s bag)) (sym same) live)

pub given_spare : (s p t u : Block) (list : NamedList) (rest bag : Bag) → IsLive s list → HoldsBag t bag (bag_of s bag) → p ≡ s → ((xs : Candidates) → Holds s list xs → HoldsBag p rest xs)
    → spare t ≡ spare p + length (bag_of p rest) → spare u ≡ spare t + length (bag_of t bag) → spare u ≡ spare s + length (items_of s list) + length (bag_of s bag)
given_spare s p t u list rest bag live beside same disc first then =
    let a = ap length (held_items p rest.ends.first rest.ends.last (items_of s list) (disc (items_of s list) live)) in
    let b = ap length (held_items t bag.ends.first bag.ends.last (bag_of s bag) beside) in
    let c = ap spare same in
    omega (arith, a, b, c, first, then)
