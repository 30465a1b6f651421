-- Chains of slots: each slot has one link, to the slot after it or to none.
use Rattle.std.specs.Prelude.{◌≡◌, ◌≢◌, ℕ, zero, suc, ◌<◌, ◌≤◌, ◌⊎◌, cond, ltb, List, [], ◌∷◌, get_or}

-- the link that leads nowhere; each slot is below it
abbrev pub none : ℕ
none = 4294967295

-- the link of slot i of a block; past the block there is none
abbrev pub link : List ℕ → ℕ → ℕ
link links i = get_or links i none

-- from slot `first` the links lead through these slots of a block of n, and then to none
abbrev pub IsChain : (ℕ → ℕ) → ℕ → ℕ → List ℕ → Type 0
IsChain next n first [] = first ≡ none
IsChain next n first (slot ∷ slots) = (first ≡ slot) × (slot < n) × IsChain next n (next slot) slots

abbrev pub IsIn : ℕ → List ℕ → Type 0
IsIn x [] = ⊥
IsIn x (y ∷ ys) = (x ≡ y) ⊎ IsIn x ys

-- the last of these slots, or what stands before them
abbrev pub last_of : ℕ → List ℕ → ℕ
last_of before [] = before
last_of before (slot ∷ slots) = last_of slot slots

-- links lead to slots or to none, no two slots link to one, and what is no slot of the block links to none
pub record AreLinks (next : ℕ → ℕ) (n : ℕ) : Type 0 where
  pub few : n ≤ none
  pub single : (i j : ℕ) → next i ≡ next j → next i ≢ none → i ≡ j
  pub inside : (i : ℕ) → next i ≢ none → next i < n
  pub outside : (i : ℕ) → n ≤ i → next i ≡ none

-- these slots are a whole chain: no slot links to its first
pub record IsWhole (next : ℕ → ℕ) (n first : ℕ) (slots : List ℕ) : Type 0 where
  pub chain : IsChain next n first slots
  pub top : first ≢ none → (i : ℕ) → next i ≢ first

-- one slot got another link
pub record IsRelinked (next : ℕ → ℕ) (at to : ℕ) (next' : ℕ → ℕ) : Type 0 where
  pub here : next' at ≡ to
  pub others : (i : ℕ) → i ≢ at → next' i ≡ next i

-- each other whole chain stays whole and keeps its slots, and gets none of the new firsts
pub record Keeps (next : ℕ → ℕ) (n : ℕ) (old : List ℕ) (next' : ℕ → ℕ) (n' : ℕ) (new : List ℕ) : Type 0 where
  pub stays : (k : ℕ) (slots : List ℕ) → IsWhole next n k slots → k ≢ none → (IsIn k old → ⊥) → IsWhole next' n' k slots
  pub fresh : (k : ℕ) (slots : List ℕ) → IsWhole next n k slots → k ≢ none → (IsIn k old → ⊥) → IsIn k new → ⊥

-- the slots that the links lead through, at most so many
abbrev pub trail : (ℕ → ℕ) → ℕ → ℕ → ℕ → List ℕ
trail next n zero first = []
trail next n (suc most) first = cond (ltb first n) (first ∷ trail next n most (next first)) []
