-- One list that is given for one other, and the two lists of a branch.
use Rattle.std.proofs.Common.{◌≡◌, ℕ, ◌+◌, ◌≤◌, ◌==◌, [], ◌∷◌, ◌++◌, length, refl, sym, ap, ◌∙◌, subst, arith, inl, inr}
use Rattle.std.proofs.lemmas.List.{append-nil}
use Rattle.std.proofs.lemmas.List.Sums.{sum_by-cons}
use Rattle.std.proofs.lemmas.List.Sorted.{IsPermutation-refl, IsPermutation-append_comm}
use Rattle.std.proofs.lemmas.List.Elements.{All-cons, All-nil}
use Rattle.std.proofs.lemmas.Bool.{cases_eq}
use Rattle.sol_arena.specs.Uses.{one_if}
use Rattle.sol_arena.proofs.OneLemmas.{one_same, one_other}
use Rattle.cand_pool.specs.Links.{none}
use Rattle.cand_pool.specs.Candidates.{Candidates}
use Rattle.cand_pool.specs.Pools.{Block, Holds, IsLive, items_of, spare, name, Differ, KeepsOthers}
use Rattle.cand_pool.specs.declared.ends.List.{List as NamedList}
use Rattle.cand_pool.proofs.PublicLaws.{held_items, held_named}
use Rattle.cand_uses.specs.Uses.{uses_by, HoldsFor, IsExchange}
use Rattle.cand_uses.proofs.ExchangeLemmas.{uses_of_both, exchange_of, exchange_same, exchanged_held}
use Rattle.cand_turns.specs.Swaps.{Search, named, all_of, AreHeld, IsTurn, AreOf}
use Rattle.cand_turns.specs.Branches.{lists_of}
use Rattle.cand_turns.specs.declared.branch.Branch.{Branch}
use Rattle.cand_turns.proofs.SwapLemmas.{beside, turn_among, other_stays, order_held}

pub one_all : (s : Block) (list : NamedList) → all_of s (list ∷ []) ≡ items_of s list
one_all s list = append-nil (items_of s list)

pub two_all : (s : Block) (a b : NamedList) → all_of s (a ∷ b ∷ []) ≡ items_of s a ++ items_of s b
two_all s a b = ap (λ (l : Candidates). items_of s a ++ l) (append-nil (items_of s b))

pub one_named : (k : ℕ) (l : NamedList) → named k (l ∷ []) ≤ 1
one_named k l = elim (cases_eq (name l) k) [
  | inl e ↦ omega (arith, sum_by-cons (λ (x : NamedList). one_if (name x == k)) l [], one_same (name l) k e)
  | inr d ↦ omega (arith, sum_by-cons (λ (x : NamedList). one_if (name x == k)) l [], one_other (name l) k d)
]

-- a name is that of one of two, where it is not that of the second
pub named_two : (k : ℕ) (a b : NamedList) → (name b ≡ k → ⊥) → named k (a ∷ b ∷ []) ≤ 1
named_two k a b other =
    omega (
      arith,
      one_named k a,
      sum_by-cons (λ (x : NamedList). one_if (name x == k)) a [],
      sum_by-cons (λ (x : NamedList). one_if (name x == k)) a (b ∷ []),
      sum_by-cons (λ (x : NamedList). one_if (name x == k)) b [],
      one_other (name b) k other,
    )

-- one list is held
pub one_made : (at : Search) (list : NamedList) → IsLive at.pool list → HoldsFor at.slots (all_of at.pool (list ∷ [])) → AreHeld at (list ∷ [])
one_made at list live uses = record {
  live = All-cons (IsLive at.pool) list [] live (All-nil (IsLive at.pool));
  apart = λ k some. one_named k list;
  uses = uses;
}

-- one list is given for another one
pub one_turn : (old new : Search) (list list' : NamedList) (xs : Candidates) → HoldsFor old.slots (items_of old.pool list)
    → IsExchange old.slots (items_of old.pool list) new.slots xs → KeepsOthers old.pool (name list ∷ []) new.pool (name list' ∷ [])
    → spare new.pool + length xs ≡ spare old.pool + length (items_of old.pool list) → Holds new.pool list' xs → IsTurn old (list ∷ []) new (list' ∷ [])
one_turn old new list list' xs held uses others free live =
    let xs_is : items_of new.pool list' ≡ xs = held_items _ _ _ _ live in
    let uses' : IsExchange old.slots (all_of old.pool (list ∷ [])) new.slots (all_of new.pool (list' ∷ []))
    = exchange_same old.slots new.slots _ _ _ _ (λ s. ap (λ (l : Candidates). uses_by l s) (one_all old.pool list)) (λ s. ap (λ (l : Candidates). uses_by l s) (sym (one_all new.pool list' ∙ xs_is))) uses in
    record {
      held = one_made new list' (held_named _ _ _ _ live)
          (exchanged_held old.slots new.slots (all_of old.pool (list ∷ [])) (all_of new.pool (list' ∷ [])) (subst (λ (l : Candidates). HoldsFor old.slots l) (sym (one_all old.pool list)) held) uses');
      swap = record {
        uses = uses';
        others = others;
        spare = omega (arith, free, ap (λ (l : Candidates). length l) (one_all old.pool list), ap (λ (l : Candidates). length l) (one_all new.pool list' ∙ xs_is));
      };
    }

-- the lists of a branch, the one first or the other
pub even_first : (branch : Branch) → AreOf (branch.even ∷ []) (branch.odd ∷ []) (lists_of branch)
even_first branch = IsPermutation-refl (lists_of branch)

pub odd_first : (branch : Branch) → AreOf (branch.odd ∷ []) (branch.even ∷ []) (lists_of branch)
odd_first branch = IsPermutation-append_comm (branch.odd ∷ []) (branch.even ∷ [])

-- what is known of two lists that are held
pub record AreTwo (at : Search) (a b : NamedList) : Type 0 where
  pub one : IsLive at.pool a
  pub two : IsLive at.pool b
  pub apart : Differ (name a) (name b)
  pub first : HoldsFor at.slots (items_of at.pool a)
  pub second : HoldsFor at.slots (items_of at.pool b)
  pub both : HoldsFor at.slots (items_of at.pool a ++ items_of at.pool b)

pub two_held : (at : Search) (a b : NamedList) → AreHeld at (a ∷ b ∷ []) → AreTwo at a b
two_held at a b held = record {
  one = held.live 0 a (omega arith);
  two = held.live 1 a (omega arith);
  apart = λ e. elim (cases_eq (name a) none) [
    | inl z ↦ z
    | inr some ↦
        absurd (omega (
          arith,
          held.apart (name a) some,
          sum_by-cons (λ (x : NamedList). one_if (name x == name a)) a (b ∷ []),
          sum_by-cons (λ (x : NamedList). one_if (name x == name a)) b [],
          one_same (name a) (name a) refl,
          one_same (name b) (name a) (sym e),
        ))
  ];
  first = λ s some. omega (arith, held.uses s some, uses_of_both (items_of at.pool a) (items_of at.pool b ++ []) s, uses_of_both (items_of at.pool b) [] s);
  second = λ s some. omega (arith, held.uses s some, uses_of_both (items_of at.pool a) (items_of at.pool b ++ []) s, uses_of_both (items_of at.pool b) [] s);
  both = subst (λ (l : Candidates). HoldsFor at.slots l) (two_all at.pool a b) held.uses;
}

-- the first list of a branch was given for another one, and the second was
pub even_turn : (old new : Search) (branch : Branch) (list : NamedList) → AreHeld old (lists_of branch) → IsTurn old (branch.even ∷ []) new (list ∷ [])
    → IsTurn old (lists_of branch) new (list ∷ branch.odd ∷ [])
even_turn old new branch list held turn = beside old new (branch.even ∷ []) (list ∷ []) (branch.odd ∷ []) held turn

pub odd_turn : (old new : Search) (branch : Branch) (list : NamedList) → AreHeld old (lists_of branch) → IsTurn old (branch.odd ∷ []) new (list ∷ [])
    → IsTurn old (lists_of branch) new (branch.even ∷ list ∷ [])
odd_turn old new branch list held turn =
    turn_among old new (branch.odd ∷ []) (list ∷ []) (branch.even ∷ []) (lists_of branch) (branch.even ∷ list ∷ []) held (odd_first branch)
    (IsPermutation-append_comm (list ∷ []) (branch.even ∷ [])) turn

-- the other list stays as it is
pub odd_stays : (old new : Search) (branch : Branch) (list : NamedList) → AreHeld old (lists_of branch) → IsTurn old (branch.even ∷ []) new (list ∷ [])
    → Holds new.pool branch.odd (items_of old.pool branch.odd)
odd_stays old new branch list held turn =
    other_stays old new (branch.even ∷ []) (list ∷ []) (branch.odd ∷ []) held turn branch.odd (0, omega arith, refl)

pub even_stays : (old new : Search) (branch : Branch) (list : NamedList) → AreHeld old (lists_of branch) → IsTurn old (branch.odd ∷ []) new (list ∷ [])
    → Holds new.pool branch.even (items_of old.pool branch.even)
even_stays old new branch list held turn =
    other_stays old new (branch.odd ∷ []) (list ∷ []) (branch.even ∷ [])
    (order_held old (lists_of branch) (branch.odd ∷ branch.even ∷ []) (IsPermutation-append_comm (branch.even ∷ []) (branch.odd ∷ [])) held) turn branch.even (0, omega arith, refl)

-- a list ends
pub end_turn : (old new : Search) (list : NamedList) → IsExchange old.slots (items_of old.pool list) new.slots [] → KeepsOthers old.pool (name list ∷ []) new.pool []
    → spare new.pool ≡ spare old.pool + length (items_of old.pool list) → IsTurn old (list ∷ []) new []
end_turn old new list uses others free = record {
  held = record {
    live = All-nil (IsLive new.pool);
    apart = λ k some. omega arith;
    uses = λ s some. omega arith;
  };
  swap = record {
    uses = exchange_of _ _ _ _ _ (sym (one_all old.pool list)) uses;
    others = others;
    spare = omega (arith, free, ap (λ (l : Candidates). length l) (one_all old.pool list));
  };
}

pub one_held : (at : Search) (list : NamedList) → AreHeld at (list ∷ []) → IsLive at.pool list × HoldsFor at.slots (items_of at.pool list)
one_held at list held = (held.live 0 list (omega arith), λ s some. omega (arith, held.uses s some, uses_of_both (items_of at.pool list) [] s))
