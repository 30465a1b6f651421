-- What the operations leave, as their clauses say it.
use Rattle.std.proofs.Common.{◌≡◌, ℕ, ◌+◌, ◌≤◌, [], ◌∷◌, ◌++◌, length, map, refl, sym, ap, ◌∙◌, subst, arith, inl, length-append}
use Rattle.cand_pool.specs.Links.{none}
use Rattle.cand_pool.specs.Candidates.{Candidates, loaded, wired_to}
use Rattle.cand_pool.specs.Pools.{Block, items_of, spare, Holds, HoldsBag, IsLive, bag_of, KeepsOthers, Differ, name, bag_name}
use Rattle.cand_pool.specs.Sequences.{lowest, undominated, dominated, union}
use Rattle.cand_pool.specs.declared.ends.List.{List as NamedList}
use Rattle.cand_pool.specs.declared.ends.Bag.{Bag}
use Rattle.cand_pool.proofs.PublicLaws.{held_items, held_named, stays_any}
use Rattle.bench_lists.specs.Turns.{AreSmall, IsMade, size, IsApplied}
use Rattle.cand_pool.proofs.LengthLaws.{parts_long, union_long, map_long}
use Rattle.cand_pool.proofs.CallLaws.{apart_one, apart_two, fresh_differs, IsBeside, beside}

-- a list was split into a list and a bag
pub record IsSplitOff (s t : Block) (list list' : NamedList) (bag : Bag) : Type 0 where
  pub ks : Candidates
  pub ds : Candidates
  pub left : Holds t list' ks
  pub gone : HoldsBag t bag ds
  pub differ : Differ (name list') (bag_name bag)
  pub others : KeepsOthers s (name list ∷ []) t (name list' ∷ bag_name bag ∷ [])
  pub free : spare t ≡ spare s
  pub all : length ks + length ds ≡ size s list

pub wired_off : (r c : ℕ) (s t : Block) (list list' : NamedList) (bag : Bag) → IsLive s list → ((xs : Candidates) → Holds s list xs → Holds t list' (undominated (map (wired_to r c) xs)))
    → ((xs : Candidates) → Holds s list xs → HoldsBag t bag (dominated (map (wired_to r c) xs))) → Differ (name list') (bag_name bag)
    → KeepsOthers s (name list ∷ []) t (name list' ∷ bag_name bag ∷ []) → spare t ≡ spare s → IsSplitOff s t list list' bag
wired_off r c s t list list' bag live left gone differ others free = record {
  ks = undominated (map (wired_to r c) (items_of s list));
  ds = dominated (map (wired_to r c) (items_of s list));
  left = left (items_of s list) live;
  gone = gone (items_of s list) live;
  differ = differ;
  others = others;
  free = free;
  all = parts_long lowest (map (wired_to r c) (items_of s list)) ∙ map_long (wired_to r c) (items_of s list);
}

pub other_beside : (s t : Block) (list list' other : NamedList) (bag : Bag) → IsSplitOff s t list list' bag → IsLive s other → Differ (name list) (name other)
    → IsBeside t (name list') (bag_name bag) other.ends.first other.ends.last (items_of s other)
other_beside s t list list' other bag off live differ =
    beside s t list.ends.first list'.ends.first list'.ends.last bag.ends.first other.ends.first other.ends.last (items_of s other) off.ks off.others differ live off.left

-- the list beside it was given up, and its bag put to the other one
pub split_applied : (s t u v : Block) (list list' other : NamedList) (bag rest bag' : Bag) → IsSplitOff s t list list' bag → IsLive s other → Differ (name list) (name other) → u ≡ t → bag_name rest ≡ name other
    → ((zs : Candidates) → Holds t other zs → HoldsBag u rest zs) → ((xs ys : Candidates) → HoldsBag u bag xs → HoldsBag u rest ys → HoldsBag v bag' (xs ++ ys))
    → KeepsOthers u (bag_name bag ∷ bag_name rest ∷ []) v (bag_name bag' ∷ []) → spare v ≡ spare u → IsApplied (size s list + size s other) s v list' bag'
split_applied s t u v list list' other bag rest bag' off live differ same named disc app keeps free =
    let ys : Candidates = items_of s other in
    let by : IsBeside t (name list') (bag_name bag) other.ends.first other.ends.last ys = other_beside s t list list' other bag off live differ in
    let left : Holds u list' off.ks = subst (λ (b : Block). Holds b list' off.ks) (sym same) off.left in
    let gone : HoldsBag u bag off.ds = subst (λ (b : Block). HoldsBag b bag off.ds) (sym same) off.gone in
    let both : HoldsBag v bag' (off.ds ++ ys) = app off.ds ys gone (disc ys by.held) in
    let out = apart_two (name list') (bag_name bag) (bag_name rest) off.differ (λ e. by.of_list (e ∙ named)) in
    let before : spare u ≡ spare t = ap spare same in
    record {
      xs = off.ks;
      ys = off.ds ++ ys;
      left = stays_any u v (bag_name bag ∷ bag_name rest ∷ []) (bag_name bag' ∷ []) list'.ends.first list'.ends.last off.ks keeps both.few out left;
      gone = both;
      differ = fresh_differs u v (bag_name bag ∷ bag_name rest ∷ []) (bag_name bag' ∷ []) list'.ends.first list'.ends.last off.ks keeps left out (bag_name bag') (inl refl);
      all = let all = off.all in omega (arith, all, length-append off.ds ys);
      free = free ∙ before ∙ off.free;
    }

-- a load was put beside the list, and the list beside it was given up
pub loaded_applied : (c : ℕ) (s t u : Block) (list list' other : NamedList) (bag : Bag) → IsLive s list → IsLive s other → Differ (name list) (name other)
    → ((xs : Candidates) → Holds s list xs → Holds t list' (map (loaded c) xs)) → list' ≡ list → KeepsOthers s (name list ∷ []) t (name list' ∷ []) → spare t ≡ spare s
    → u ≡ t → bag_name bag ≡ name other → ((zs : Candidates) → Holds t other zs → HoldsBag u bag zs) → IsApplied (size s list + size s other) s u list' bag
loaded_applied c s t u list list' other bag live beside differ left is_list keeps free same named disc =
    let xs : Candidates = items_of s list in
    let ys : Candidates = items_of s other in
    let there : Holds t list' (map (loaded c) xs) = left xs live in
    let kept : Holds t other ys = stays_any s t (name list ∷ []) (name list' ∷ []) other.ends.first other.ends.last ys keeps there.few (apart_one (name other) (name list) differ) beside in
    let e : name list' ≡ name list = ap name is_list in
    let before : spare u ≡ spare t = ap spare same in
    record {
      xs = map (loaded c) xs;
      ys = ys;
      left = subst (λ (b : Block). Holds b list' (map (loaded c) xs)) (sym same) there;
      gone = disc ys kept;
      differ = λ k. e ∙ differ (sym e ∙ k ∙ named);
      all = ap (λ (n : ℕ). n + length ys) (map_long (loaded c) xs);
      free = before ∙ free;
    }

-- the other list was taken in
pub united_applied : (s t : Block) (list list' other : NamedList) (bag : Bag) → IsLive s list → IsLive s other → ((xs ys : Candidates) → Holds s list xs → Holds s other ys → Holds t list' (undominated (union xs ys)))
    → ((xs ys : Candidates) → Holds s list xs → Holds s other ys → HoldsBag t bag (dominated (union xs ys))) → Differ (name list') (bag_name bag) → spare t ≡ spare s
    → IsApplied (size s list + size s other) s t list' bag
united_applied s t list list' other bag live beside left gone differ free =
    let xs : Candidates = items_of s list in
    let ys : Candidates = items_of s other in
    record {
      xs = undominated (union xs ys);
      ys = dominated (union xs ys);
      left = left xs ys live beside;
      gone = gone xs ys live beside;
      differ = differ;
      all = parts_long lowest (union xs ys) ∙ union_long xs ys;
      free = free;
    }

-- the other list was given up
pub nothing_applied : (s t : Block) (list other : NamedList) (bag : Bag) → IsLive s list → IsLive s other → Differ (name list) (name other) → t ≡ s → bag_name bag ≡ name other
    → ((zs : Candidates) → Holds s other zs → HoldsBag t bag zs) → IsApplied (size s list + size s other) s t list bag
nothing_applied s t list other bag live beside differ same named disc = record {
  xs = items_of s list;
  ys = items_of s other;
  left = subst (λ (b : Block). Holds b list (items_of s list)) (sym same) live;
  gone = disc (items_of s other) beside;
  differ = λ k. differ (k ∙ named);
  all = refl;
  free = ap spare same;
}

pub applied_sized : (m n : ℕ) (s t : Block) (list : NamedList) (bag : Bag) → m ≡ n → IsApplied m s t list bag → IsApplied n s t list bag
applied_sized m n s t list bag e h = subst (λ (k : ℕ). IsApplied k s t list bag) e h

-- a list that was made stays while another one is made
pub record IsSecond (s t : Block) (list other : NamedList) : Type 0 where
  pub made : IsMade t list
  pub items : items_of t list ≡ items_of s list
  pub differ : Differ (name list) (name other)

pub second : (s t : Block) (list other : NamedList) → IsMade s list → length t.links ≤ none → KeepsOthers s [] t (name other ∷ []) → IsSecond s t list other
second s t list other made few keeps =
    let there : Holds t list (items_of s list) = stays_any s t [] (name other ∷ []) list.ends.first list.ends.last (items_of s list) keeps few (λ some m. m) made.0 in
    let e : items_of t list ≡ items_of s list = held_items t list.ends.first list.ends.last (items_of s list) there in
    record {
      made = (held_named t list.ends.first list.ends.last (items_of s list) there, subst AreSmall (sym e) made.1);
      items = e;
      differ = fresh_differs s t [] (name other ∷ []) list.ends.first list.ends.last (items_of s list) keeps made.0 (λ some m. m) (name other) (inl refl);
    }

-- a list and a bag that were given up together
pub record IsGathered (n : ℕ) (t : Block) (all bag : Bag) : Type 0 where
  pub xs : Candidates
  pub ys : Candidates
  pub one : HoldsBag t all xs
  pub two : HoldsBag t bag ys
  pub long : length (xs ++ ys) ≡ n

pub gathered : (n : ℕ) (r s t : Block) (list : NamedList) (all bag : Bag) → IsApplied n r s list bag → t ≡ s → ((xs : Candidates) → Holds s list xs → HoldsBag t all xs) → IsGathered n t all bag
gathered n r s t list all bag applied same disc = record {
  xs = applied.xs;
  ys = applied.ys;
  one = disc applied.xs applied.left;
  two = subst (λ (b : Block). HoldsBag b bag applied.ys) (sym same) applied.gone;
  long = let all = applied.all in omega (arith, all, length-append applied.xs applied.ys);
}

pub gathered_long : (n : ℕ) (u : Block) (all' : Bag) (xs ys : Candidates) → HoldsBag u all' (xs ++ ys) → length (xs ++ ys) ≡ n → length (bag_of u all') ≡ n
gathered_long n u all' xs ys h long = ap length (held_items u all'.ends.first all'.ends.last (xs ++ ys) h) ∙ long
