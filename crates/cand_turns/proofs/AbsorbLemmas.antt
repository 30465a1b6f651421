-- A branch is taken into another one.
use Rattle.std.proofs.Common.{◌≡◌, ◌+◌, Bool, true, false, [], ◌∷◌, ◌++◌, length, refl, sym, ap, ◌∙◌, subst, arith, inl, inr}
use Rattle.std.specs.List.{Contains}
use Rattle.std.proofs.lemmas.List.Sorted.{IsPermutation-refl, IsPermutation-sym, IsPermutation-append_comm}
use Rattle.sol_arena.specs.declared.arena.Arena.{Arena}
use Rattle.sol_arena.specs.Arenas.{made_of, slots_of}
use Rattle.sol_arena.specs.Meanings.{cells_of}
use Rattle.cand_pool.specs.Candidates.{Candidates}
use Rattle.cand_pool.specs.Pools.{Block, Holds, items_of, spare, name, KeepsOthers}
use Rattle.cand_pool.specs.declared.ends.List.{List as NamedList}
use Rattle.cand_pool.proofs.PublicLaws.{held_items, held_named}
use Rattle.cand_uses.specs.Uses.{IsExchange, MeanTheSame}
use Rattle.cand_uses.proofs.ExchangeLemmas.{exchange_as}
use Rattle.cand_lists.specs.ListLaws.{AreRising, both}
use Rattle.cand_lists.proofs.ExactLemmas.{both_take}
use Rattle.cand_turns.specs.Swaps.{Search, search, AreHeld, IsTurn}
use Rattle.cand_turns.specs.Branches.{classes_in, lists_of}
use Rattle.cand_turns.specs.declared.branch.Branch.{Branch}
use Rattle.cand_turns.proofs.SwapLemmas.{turn_then, turn_among, order_held, other_items, list_meant}
use Rattle.cand_turns.proofs.BranchLemmas.{AreTwo, two_held}
use Rattle.cand_turns.proofs.MeetLemmas.{merge_turn, evens_first, evens_two, later_first, pair_held}

-- what is told of a list into which another one is taken
pub record IsTaken (before after : Arena) (r s : Block) (a b list : NamedList) : Type 0 where
  pub list_is : (xs ys : Candidates) → Holds r a xs → Holds r b ys → Holds s list (both xs ys)
  pub uses : (xs ys : Candidates) → Holds r a xs → Holds r b ys → IsExchange (slots_of before) (xs ++ ys) (slots_of after) (both xs ys)
  pub same : (xs ys : Candidates) → Holds r a xs → Holds r b ys → MeanTheSame (made_of before) (made_of after) (both xs ys)
  pub others : KeepsOthers r (name a ∷ name b ∷ []) s (name list ∷ [])
  pub free : (xs ys : Candidates) → Holds r a xs → Holds r b ys → spare s + length (both xs ys) ≡ spare r + length xs + length ys

-- both are held before
module _ (before after : Arena) (r s : Block) (a b list : NamedList) (two : AreTwo (search r before) a b) (told : IsTaken before after r s a b list) where
  there : Holds s list (both (items_of r a) (items_of r b))
  there = told.list_is (items_of r a) (items_of r b) two.one two.two

  meant : MeanTheSame (made_of before) (made_of after) (both (items_of r a) (items_of r b))
  meant = told.same (items_of r a) (items_of r b) two.one two.two

  taken_turn : IsTurn (search r before) (a ∷ b ∷ []) (search s after) (list ∷ [])
  taken_turn =
      let is : items_of s list ≡ both (items_of r a) (items_of r b) = held_items _ _ _ _ there in
      merge_turn (search r before) (search s after) a b list two.both
      (exchange_as _ _ _ _ _ (sym is) (told.uses (items_of r a) (items_of r b) two.one two.two)) told.others
      (omega (arith, told.free (items_of r a) (items_of r b) two.one two.two, ap (λ (l : Candidates). length l) is)) (held_named _ _ _ _ there)

-- the even lists of two branches, then the odd ones
module _ (a b : Search) (e o e' o' x : NamedList) (held : AreHeld a (e ∷ o ∷ e' ∷ o' ∷ [])) (one : IsTurn a (e ∷ e' ∷ []) b (x ∷ [])) where
  evens_before : AreHeld a (e ∷ e' ∷ o ∷ o' ∷ [])
  evens_before = order_held a (e ∷ o ∷ e' ∷ o' ∷ []) (e ∷ e' ∷ o ∷ o' ∷ []) (IsPermutation-sym (e ∷ e' ∷ o ∷ o' ∷ []) (e ∷ o ∷ e' ∷ o' ∷ []) (evens_first e o e' o')) held

  evens_whole : IsTurn a (e ∷ o ∷ e' ∷ o' ∷ []) b (x ∷ o ∷ o' ∷ [])
  evens_whole = turn_among a b (e ∷ e' ∷ []) (x ∷ []) (o ∷ o' ∷ []) (e ∷ o ∷ e' ∷ o' ∷ []) (x ∷ o ∷ o' ∷ []) held (evens_first e o e' o') (IsPermutation-refl (x ∷ o ∷ o' ∷ [])) one

  odds_held : AreHeld b (o ∷ o' ∷ [])
  odds_held = pair_held b o o' (x ∷ []) (x ∷ o ∷ o' ∷ []) (later_first x o o') evens_whole.held

  pub odd_items : items_of b.pool o ≡ items_of a.pool o
  odd_items = other_items a b (e ∷ e' ∷ []) (x ∷ []) (o ∷ o' ∷ []) evens_before one o (0, omega arith, refl)

  pub odd_items' : items_of b.pool o' ≡ items_of a.pool o'
  odd_items' = other_items a b (e ∷ e' ∷ []) (x ∷ []) (o ∷ o' ∷ []) evens_before one o' (1, omega arith, refl)

  odds_before : AreHeld b (o ∷ o' ∷ x ∷ [])
  odds_before = order_held b (x ∷ o ∷ o' ∷ []) (o ∷ o' ∷ x ∷ []) (IsPermutation-sym (o ∷ o' ∷ x ∷ []) (x ∷ o ∷ o' ∷ []) (later_first x o o')) evens_whole.held

  both_whole : (c : Search) (y : NamedList) → IsTurn b (o ∷ o' ∷ []) c (y ∷ []) → IsTurn a (e ∷ o ∷ e' ∷ o' ∷ []) c (x ∷ y ∷ [])
  both_whole c y two =
      turn_then a b c _ _ _ evens_whole
      (turn_among b c (o ∷ o' ∷ []) (y ∷ []) (x ∷ []) (x ∷ o ∷ o' ∷ []) (x ∷ y ∷ []) evens_whole.held (later_first x o o') (IsPermutation-append_comm (y ∷ []) (x ∷ [])) two)

  pub even_items : (c : Search) (y : NamedList) → IsTurn b (o ∷ o' ∷ []) c (y ∷ []) → items_of c.pool x ≡ items_of b.pool x
  even_items c y two = other_items b c (o ∷ o' ∷ []) (y ∷ []) (x ∷ []) odds_before two x (0, omega arith, refl)

-- of both classes
module _ (before middle after : Arena) (r s t : Block) (self other made : Branch) (held : AreHeld (search r before) (lists_of self ++ lists_of other))
    (one : IsTurn (search r before) (self.even ∷ other.even ∷ []) (search s middle) (made.even ∷ []))
    (two : IsTurn (search s middle) (self.odd ∷ other.odd ∷ []) (search t after) (made.odd ∷ []))
    (evens : Holds s made.even (both (items_of r self.even) (items_of r other.even)))
    (odds : Holds t made.odd (both (items_of s self.odd) (items_of s other.odd))) where
  evens_are : items_of t made.even ≡ both (items_of r self.even) (items_of r other.even)
  evens_are = even_items (search r before) (search s middle) self.even self.odd other.even other.odd made.even held one (search t after) made.odd two ∙ held_items _ _ _ _ evens

  self_odd : items_of s self.odd ≡ items_of r self.odd
  self_odd = odd_items (search r before) (search s middle) self.even self.odd other.even other.odd made.even held one

  other_odd : items_of s other.odd ≡ items_of r other.odd
  other_odd = odd_items' (search r before) (search s middle) self.even self.odd other.even other.odd made.even held one

  odds_are : items_of t made.odd ≡ both (items_of r self.odd) (items_of r other.odd)
  odds_are = held_items _ _ _ _ odds ∙ ap (λ (l : Candidates). both l (items_of s other.odd)) self_odd ∙ ap (λ (l : Candidates). both (items_of r self.odd) l) other_odd

  classes_are : (odd : Bool) → classes_in t made odd ≡ both (classes_in r self odd) (classes_in r other odd)
  classes_are true = odds_are
  classes_are false = evens_are

  evens_mean : MeanTheSame (made_of before) (made_of middle) (both (items_of r self.even) (items_of r other.even)) → MeanTheSame (made_of before) (made_of after) (items_of t made.even)
  evens_mean same z found =
      let z_in : Contains (both (items_of r self.even) (items_of r other.even)) z = subst (λ (l : Candidates). Contains l z) evens_are found in
      list_meant middle after s t (self.odd ∷ other.odd ∷ []) (made.odd ∷ []) (made.even ∷ [])
      (odds_before (search r before) (search s middle) self.even self.odd other.even other.odd made.even held one) two made.even (0, omega arith, refl) z
      (subst (λ (l : Candidates). Contains l z) (sym (held_items _ _ _ _ evens)) z_in)
      ∙ same z z_in

  odds_mean : MeanTheSame (made_of middle) (made_of after) (both (items_of s self.odd) (items_of s other.odd)) → MeanTheSame (made_of before) (made_of after) (items_of t made.odd)
  odds_mean same z found =
      let z_in : Contains (both (items_of s self.odd) (items_of s other.odd)) z = subst (λ (l : Candidates). Contains l z) (held_items _ _ _ _ odds) found in
      let start : AreHeld (search r before) (self.even ∷ other.even ∷ self.odd ∷ other.odd ∷ [])
      = evens_before (search r before) (search s middle) self.even self.odd other.even other.odd made.even held one in
      same z z_in
      ∙ elim (both_take (items_of s self.odd) (items_of s other.odd) z z_in) as (λ _. cells_of (made_of middle) z.tag ≡ cells_of (made_of before) z.tag) [
        | inl a ↦ list_meant before middle r s (self.even ∷ other.even ∷ []) (made.even ∷ []) (self.odd ∷ other.odd ∷ []) start one self.odd (0, omega arith, refl) z
            (subst (λ (l : Candidates). Contains l z) self_odd a)
        | inr b ↦ list_meant before middle r s (self.even ∷ other.even ∷ []) (made.even ∷ []) (self.odd ∷ other.odd ∷ []) start one other.odd (1, omega arith, refl) z
            (subst (λ (l : Candidates). Contains l z) other_odd b)
      ]

  classes_mean : MeanTheSame (made_of before) (made_of middle) (both (items_of r self.even) (items_of r other.even))
      → MeanTheSame (made_of middle) (made_of after) (both (items_of s self.odd) (items_of s other.odd))
      → (odd : Bool) → MeanTheSame (made_of before) (made_of after) (classes_in t made odd)
  classes_mean one_same two_same true = odds_mean two_same
  classes_mean one_same two_same false = evens_mean one_same

-- one branch is taken into another one, class by class
module _ (before middle : Arena) (r s : Block) (self other : Branch) (even : NamedList) (held : AreHeld (search r before) (lists_of self ++ lists_of other))
    (first : IsTaken before middle r s self.even other.even even) where
  evens : AreTwo (search r before) self.even other.even
  evens = evens_two (search r before) self.even self.odd other.even other.odd held

  one : IsTurn (search r before) (self.even ∷ other.even ∷ []) (search s middle) (even ∷ [])
  one = taken_turn before middle r s self.even other.even even evens first

  pub odds_two : AreTwo (search s middle) self.odd other.odd
  odds_two =
      two_held (search s middle) self.odd other.odd
      (odds_held (search r before) (search s middle) self.even self.odd other.even other.odd even held one)

  -- the odd lists rise as they did
  pub odd_rises : AreRising (items_of r self.odd) → AreRising (items_of s self.odd)
  odd_rises rise =
      subst (λ (l : Candidates). AreRising l)
      (sym (odd_items (search r before) (search s middle) self.even self.odd other.even other.odd even held one)) rise

  pub other_rises : AreRising (items_of r other.odd) → AreRising (items_of s other.odd)
  other_rises rise =
      subst (λ (l : Candidates). AreRising l)
      (sym (odd_items' (search r before) (search s middle) self.even self.odd other.even other.odd even held one)) rise

  module _ (after : Arena) (t : Block) (odd : NamedList) (second : IsTaken middle after s t self.odd other.odd odd) where
    abbrev made : Branch
    made = record { even = even; odd = odd }

    two : IsTurn (search s middle) (self.odd ∷ other.odd ∷ []) (search t after) (odd ∷ [])
    two = taken_turn middle after s t self.odd other.odd odd odds_two second

    pub branches_turn : IsTurn (search r before) (lists_of self ++ lists_of other) (search t after) (lists_of made)
    branches_turn = both_whole (search r before) (search s middle) self.even self.odd other.even other.odd even held one (search t after) odd two

    pub branches_are : (c : Bool) → classes_in t made c ≡ both (classes_in r self c) (classes_in r other c)
    branches_are =
        classes_are before middle after r s t self other made held one two (there before middle r s self.even other.even even evens first)
        (there middle after s t self.odd other.odd odd odds_two second)

    pub branches_mean : (c : Bool) → MeanTheSame (made_of before) (made_of after) (classes_in t made c)
    branches_mean =
        classes_mean before middle after r s t self other made held one two (there before middle r s self.even other.even even evens first)
        (there middle after s t self.odd other.odd odd odds_two second) (meant before middle r s self.even other.even even evens first)
        (meant middle after s t self.odd other.odd odd odds_two second)
