-- The lists of a merge and their sequences.
use Rattle.std.proofs.Common.{◌≡◌, ℕ, ◌+◌, ◌*◌, ◌<◌, ◌≤◌, List, [], ◌∷◌, ◌++◌, length, sym, ap, ◌∙◌, subst, inl, inr, arith}
use Rattle.std.proofs.lemmas.List.{append-nil, length-append}
use Rattle.sol_arena.specs.declared.slot.Slot.{Slot}
use Rattle.cand_pool.specs.Candidates.{Candidates}
use Rattle.cand_pool.specs.Links.{none}
use Rattle.cand_pool.specs.Pools.{Block, Holds, items_of, spare, name, Differ, KeepsOthers}
use Rattle.cand_pool.specs.declared.ends.List.{List as NamedList}
use Rattle.cand_pool.proofs.CallLaws.{apart_one, turned_round}
use Rattle.cand_pool.proofs.PoolMoves.{keeps_then}
use Rattle.cand_pool.proofs.PublicLaws.{held_items, held_named, nothing_held, stays}
use Rattle.cand_uses.proofs.ExchangeLemmas.{exchange_as, exchange_beside, exchange_of, exchanged_held}
use Rattle.cand_uses.specs.Uses.{HoldsFor, IsExchange}
use Rattle.vg_merge.specs.Branches.{AreAt, AreLive, names, all_of}
use Rattle.vg_merge.specs.declared.branches.Branches.{Branches}

-- lists whose sequences are known
pub are_as : (s : Block) (at : Branches) (xs ys : Candidates) → items_of s at.a ≡ xs → items_of s at.b ≡ ys → AreLive s at → AreAt s at
    (items_of s at.list) xs ys
are_as s at xs ys a_is b_is live = subst (λ (l : Candidates). AreAt s at (items_of s at.list) l ys) a_is
    (subst (λ (l : Candidates). AreAt s at (items_of s at.list) (items_of s at.a) l) b_is live)

pub are_held : (slots : List Slot) (xs xs' ys ys' : Candidates) → xs ≡ xs' → ys ≡ ys' → HoldsFor slots (xs ++ ys) → HoldsFor slots (xs' ++ ys')
are_held slots xs xs' ys ys' e f held = subst (λ (l : Candidates). HoldsFor slots (l ++ ys')) e
    (subst (λ (l : Candidates). HoldsFor slots (xs ++ l)) f held)

pub list_is : (s : Block) (at : Branches) (zs xs ys : Candidates) → AreAt s at zs xs ys → items_of s at.list ≡ zs
list_is s at zs xs ys are = held_items s at.list.ends.first at.list.ends.last zs are.list

pub a_is : (s : Block) (at : Branches) (zs xs ys : Candidates) → AreAt s at zs xs ys → items_of s at.a ≡ xs
a_is s at zs xs ys are = held_items s at.a.ends.first at.a.ends.last xs are.a

pub b_is : (s : Block) (at : Branches) (zs xs ys : Candidates) → AreAt s at zs xs ys → items_of s at.b ≡ ys
b_is s at zs xs ys are = held_items s at.b.ends.first at.b.ends.last ys are.b

pub all_is : (s : Block) (at : Branches) (zs xs ys : Candidates) → AreAt s at zs xs ys → all_of s at ≡ zs ++ (xs ++ ys)
all_is s at zs xs ys are = λ i. list_is s at zs xs ys are i ++ (a_is s at zs xs ys are i ++ b_is s at zs xs ys are i)

pub all_long : (s : Block) (at : Branches) (zs xs ys : Candidates) → AreAt s at zs xs ys → length (all_of s at) ≡ length zs + (length xs + length ys)
all_long s at zs xs ys are =
    omega (arith, ap (λ (l : Candidates). length l) (all_is s at zs xs ys are), length-append zs (xs ++ ys), length-append xs ys)

-- live lists are those of their sequences
pub are_live : (s : Block) (at : Branches) (zs xs ys : Candidates) → AreAt s at zs xs ys → AreLive s at
are_live s at zs xs ys are =
    subst (λ (l : Candidates). AreAt s at l (items_of s at.a) (items_of s at.b)) (sym (list_is s at zs xs ys are))
    (subst (λ (l : Candidates). AreAt s at zs l (items_of s at.b)) (sym (a_is s at zs xs ys are))
    (subst (λ (l : Candidates). AreAt s at zs xs l) (sym (b_is s at zs xs ys are)) are))

-- the same lists, said of equal sequences, and of an equal block
pub are_of : (s : Block) (at : Branches) (zs zs' xs xs' ys ys' : Candidates) → zs ≡ zs' → xs ≡ xs' → ys ≡ ys' → AreAt s at zs xs ys → AreAt s at zs' xs' ys'
are_of s at zs zs' xs xs' ys ys' z_is x_is y_is are =
    subst (λ (l : Candidates). AreAt s at l xs' ys') z_is
    (subst (λ (l : Candidates). AreAt s at zs l ys') x_is
    (subst (λ (l : Candidates). AreAt s at zs xs l) y_is are))

pub are_still : (s s' : Block) (at at' : Branches) (zs xs ys : Candidates) → s' ≡ s → at' ≡ at → AreAt s at zs xs ys → AreAt s' at' zs xs ys
are_still s s' at at' zs xs ys s_is at_is are =
    subst (λ (t : Block). AreAt t at' zs xs ys) (sym s_is) (subst (λ (k : Branches). AreAt s k zs xs ys) (sym at_is) are)

pub fewer_items : (s s' : Block) (at at' : Branches) (zs zs' xs xs' ys ys' : Candidates) → AreAt s at zs xs ys → AreAt s' at' zs' xs' ys'
    → length xs' + length ys' + 1 ≤ length xs + length ys
    → length (items_of s' at'.a) + length (items_of s' at'.b) < length (items_of s at.a) + length (items_of s at.b)
fewer_items s s' at at' zs zs' xs xs' ys ys' are are' fewer =
    omega (
      arith,
      fewer,
      ap (λ (l : Candidates). length l) (a_is s at zs xs ys are),
      ap (λ (l : Candidates). length l) (b_is s at zs xs ys are),
      ap (λ (l : Candidates). length l) (a_is s' at' zs' xs' ys' are'),
      ap (λ (l : Candidates). length l) (b_is s' at' zs' xs' ys' are'),
    )

-- from lists of which nothing is made yet to these
pub uses_on : (start now : List Slot) (s t : Block) (from at : Branches) (zs xs ys : Candidates) → items_of s from.list ≡ [] → AreAt t at zs xs ys
    → IsExchange start (items_of s from.a ++ items_of s from.b) now (zs ++ (xs ++ ys)) → IsExchange start (all_of s from) now (all_of t at)
uses_on start now s t from at zs xs ys none are one =
    exchange_of start now (items_of s from.a ++ items_of s from.b) (all_of s from) (all_of t at)
    (sym (ap (λ (l : Candidates). l ++ (items_of s from.a ++ items_of s from.b)) none))
    (exchange_as start now (items_of s from.a ++ items_of s from.b) (zs ++ (xs ++ ys)) (all_of t at) (sym (all_is t at zs xs ys are)) one)

pub spare_on : (s t : Block) (from at : Branches) (zs xs ys : Candidates) → items_of s from.list ≡ [] → AreAt t at zs xs ys
    → spare t + (length zs + (length xs + length ys)) ≡ spare s + (length (items_of s from.a) + length (items_of s from.b))
    → spare t + length (all_of t at) ≡ spare s + length (all_of s from)
spare_on s t from at zs xs ys none are one =
    omega (
      arith,
      one,
      all_long t at zs xs ys are,
      length-append (items_of s from.list) (items_of s from.a ++ items_of s from.b),
      length-append (items_of s from.a) (items_of s from.b),
      ap (λ (l : Candidates). length l) none,
    )

-- THE START AND THE END
-- an empty list beside two others
pub start_live : (s : Block) (list a b : NamedList) → Holds s list [] → Holds s a (items_of s a) → Holds s b (items_of s b) → Differ (name a) (name b)
    → AreLive s (record { list = list; a = a; b = b })
start_live s list a b empty h k differ =
    let no_name : name list ≡ none = nothing_held s list.ends.first list.ends.last empty in
    record {
      list = held_named s list.ends.first list.ends.last [] empty;
      a = h;
      b = k;
      a_list = λ e. e ∙ no_name;
      a_b = differ;
      list_b = λ e. no_name;
    }

-- a list in an equal block
pub same_items : (s s' : Block) (list : NamedList) (xs : Candidates) → s' ≡ s → Holds s list xs → items_of s' list ≡ xs
same_items s s' list xs same h = ap (λ (t : Block). items_of t list) same ∙ held_items s list.ends.first list.ends.last xs h

-- these two lists, in an equal block, and an empty one
pub start_all : (s s' : Block) (list a b : NamedList) (xs ys : Candidates) → s' ≡ s → Holds s' list [] → Holds s a xs → Holds s b ys
    → all_of s' (record { list = list; a = a; b = b }) ≡ xs ++ ys
start_all s s' list a b xs ys same empty h k =
    let list_e : items_of s' list ≡ [] = held_items s' list.ends.first list.ends.last [] empty in
    let a_e : items_of s' a ≡ xs = same_items s s' a xs same h in
    let b_e : items_of s' b ≡ ys = same_items s s' b ys same k in
    λ i. list_e i ++ (a_e i ++ b_e i)

-- while they are merged, callers hold the uses of what is there
pub start_held : (start now : List Slot) (s s' : Block) (list a b : NamedList) (there : Candidates) → s' ≡ s → Holds s' list []
    → Holds s a (items_of s a) → Holds s b (items_of s b) → HoldsFor start (items_of s a ++ items_of s b)
    → IsExchange start (all_of s' (record { list = list; a = a; b = b })) now there → HoldsFor now there
start_held start now s s' list a b there same empty h k held uses =
    exchanged_held start now (all_of s' (record { list = list; a = a; b = b })) there
    (subst (λ (l : Candidates). HoldsFor start l) (sym (start_all s s' list a b (items_of s a) (items_of s b) same empty h k)) held) uses

-- the uses of what is left are given up beside the list that is made
pub left_ended : (old new : List Slot) (t : Block) (list : NamedList) (zs left : Candidates) → Holds t list zs → IsExchange old left new []
    → IsExchange old (zs ++ left) new (items_of t list)
left_ended old new t list zs left there ended =
    exchange_as old new (zs ++ left) (zs ++ []) (items_of t list) (append-nil zs ∙ sym (held_items t list.ends.first list.ends.last zs there))
    (exchange_beside old new zs left [] ended)

-- what is spare at the end
pub spare_end : (s s' t u : Block) (list a b made : NamedList) (at : Branches) (xs ys : Candidates) → s' ≡ s → Holds s' list [] → Holds s a xs → Holds s b ys
    → AreLive t at → spare t + length (all_of t at) ≡ spare s' + length (all_of s' (record { list = list; a = a; b = b }))
    → Holds u made (items_of t at.list) → spare u ≡ spare t + length (items_of t at.a) + length (items_of t at.b)
    → spare u + length (items_of u made) ≡ spare s + length xs + length ys
spare_end s s' t u list a b made at xs ys same empty h k live joined there ended =
    omega (
      arith,
      joined,
      ended,
      ap spare same,
      ap (λ (l : Candidates). length l) (start_all s s' list a b xs ys same empty h k),
      length-append xs ys,
      ap (λ (l : Candidates). length l) (held_items u made.ends.first made.ends.last (items_of t at.list) there),
      all_long t at (items_of t at.list) (items_of t at.a) (items_of t at.b) live,
    )

-- the steps of a merge, by the sequences of both lists
pub few_steps : (s s' : Block) (a b : NamedList) (xs ys : Candidates) (steps start : ℕ) → s' ≡ s → Holds s a xs → Holds s b ys
    → steps ≤ start + 4 * (length (items_of s' a) + length (items_of s' b)) → steps ≤ start + 4 * (length xs + length ys)
few_steps s s' a b xs ys steps start same h k few =
    omega (arith, few, ap (λ (l : Candidates). length l) (same_items s s' a xs same h), ap (λ (l : Candidates). length l) (same_items s s' b ys same k))

-- a name of no list counts for nothing
pub keeps_none : (s t : Block) (k : ℕ) (old new : List ℕ) → k ≡ none → KeepsOthers s (k ∷ old) t new → KeepsOthers s old t new
keeps_none s t k old new none keeps = record {
  few = keeps.few;
  stays = λ first last xs h some out. keeps.stays first last xs h some (λ m. elim m [ inl e ↦ some (e ∙ none) | inr more ↦ out more ]);
  fresh = λ first last xs h some out. keeps.fresh first last xs h some (λ m. elim m [ inl e ↦ some (e ∙ none) | inr more ↦ out more ]);
}

-- from the two lists to what is there at the end
pub keeps_all : (s s' t u : Block) (list a b : NamedList) (at : Branches) (new : List ℕ) → s' ≡ s → Holds s' list []
    → KeepsOthers s' (names (record { list = list; a = a; b = b })) t (names at) → KeepsOthers t (names at) u new → KeepsOthers s
    (name a ∷ name b ∷ []) u new
keeps_all s s' t u list a b at new same empty one two =
    subst (λ (r : Block). KeepsOthers r (name a ∷ name b ∷ []) u new) same
    (keeps_none s' u (name list) (name a ∷ name b ∷ []) new (nothing_held s' list.ends.first list.ends.last empty)
    (keeps_then s' t u (names (record { list = list; a = a; b = b })) (names at) (names at) new new one two (λ k m. m) (λ k m. inl m)))

-- where the first branch ends, and then the second one, the other lists stay
pub second_stays : (s t : Block) (at : Branches) (zs xs ys : Candidates) → AreAt s at zs xs ys → KeepsOthers s (name at.a ∷ []) t [] → Holds t at.b ys
second_stays s t at zs xs ys are one =
    stays s t (name at.a ∷ []) [] at.b.ends.first at.b.ends.last ys one (apart_one (name at.b) (name at.a) are.a_b) are.b

pub list_stays : (s t u : Block) (at : Branches) (zs xs ys : Candidates) → AreAt s at zs xs ys
    → KeepsOthers s (name at.a ∷ []) t [] → KeepsOthers t (name at.b ∷ []) u [] → Holds u at.list zs
list_stays s t u at zs xs ys are one two =
    stays t u (name at.b ∷ []) [] at.list.ends.first at.list.ends.last zs two
    (apart_one (name at.list) (name at.b) (turned_round (name at.list) (name at.b) are.list_b))
    (stays s t (name at.a ∷ []) [] at.list.ends.first at.list.ends.last zs one (apart_one (name at.list) (name at.a) are.a_list) are.list)
