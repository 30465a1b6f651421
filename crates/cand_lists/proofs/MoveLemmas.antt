-- The moves, with the uses of what they leave.
use Rattle.std.proofs.Common.{◌≡◌, ◌≢◌, ℕ, List, [], ◌∷◌, ◌++◌, sym, subst, arith, inl, inr}
use Rattle.sol_arena.specs.declared.arena.Arena.{Arena}
use Rattle.sol_arena.specs.declared.slot.Slot.{Slot}
use Rattle.sol_arena.specs.Arenas.{slots_of, made_of}
use Rattle.cand_pool.specs.Links.{none, IsIn}
use Rattle.cand_pool.specs.Pools.{Differ}
use Rattle.cand_pool.specs.Candidates.{Candidates}
use Rattle.cand_pool.specs.Sequences.{lowest, undominated, dominated, union}
use Rattle.cand_uses.specs.Uses.{uses_by, HoldsFor, IsExchange, MeanTheSame}
use Rattle.cand_uses.proofs.ExchangeLemmas.{exchange_same, exchange_beside, uses_of_both, stays_same}
use Rattle.cand_lists.proofs.KeptLemmas.{kept_uses, union_uses}

-- what is dominated is given up, of candidates that have the uses of others
pub given_up : (old new : List Slot) (xs from : Candidates) → ((s : ℕ) → uses_by xs s ≡ uses_by from s) → IsExchange old (dominated xs) new [] → IsExchange old from new (undominated xs)
given_up old new xs from same one =
    exchange_same old new (undominated xs ++ dominated xs) from (undominated xs ++ []) (undominated xs)
    (λ s. omega (arith, same s, kept_uses lowest xs s, uses_of_both (undominated xs) (dominated xs) s))
    (λ s. omega (arith, uses_of_both (undominated xs) [] s))
    (exchange_beside old new (undominated xs) (dominated xs) [] one)

-- and what stays means what it did
pub stays_meant : (old new : Arena) (xs from : Candidates) → ((s : ℕ) → uses_by xs s ≡ uses_by from s) → HoldsFor (slots_of old) from
    → IsExchange (slots_of old) (dominated xs) (slots_of new) [] → MeanTheSame (made_of old) (made_of new) (undominated xs)
stays_meant old new xs from same held one =
    stays_same old new (undominated xs) (dominated xs) []
    (λ s some. omega (arith, held s some, same s, kept_uses lowest xs s, uses_of_both (undominated xs) (dominated xs) s)) one

-- callers hold the uses of what is dominated
pub dominated_held : (slots : List Slot) (xs from : Candidates) → ((s : ℕ) → uses_by xs s ≡ uses_by from s) → HoldsFor slots from → HoldsFor slots (dominated xs)
dominated_held slots xs from same held = λ s some. omega (arith, held s some, same s, kept_uses lowest xs s)

pub both_uses : (xs ys : Candidates) (s : ℕ) → uses_by (union xs ys) s ≡ uses_by (xs ++ ys) s
both_uses xs ys s = omega (arith, union_uses xs ys s, uses_of_both xs ys s)

-- of candidates that are the same
pub held_as : (slots : List Slot) (xs ys : Candidates) → xs ≡ ys → HoldsFor slots ys → HoldsFor slots xs
held_as slots xs ys e held = subst (λ (l : Candidates). HoldsFor slots l) (sym e) held

-- a list that is not the bag is not named by it
pub differ_in : (a b : ℕ) → Differ a b → a ≢ none → IsIn a (b ∷ []) → ⊥
differ_in a b differ some (inl e) = some (differ e)
differ_in a b differ some (inr o) = o

pub first_in : (k a b : ℕ) → IsIn k (a ∷ []) → IsIn k (a ∷ b ∷ [])
first_in k a b (inl e) = inl e
first_in k a b (inr o) = absurd o
