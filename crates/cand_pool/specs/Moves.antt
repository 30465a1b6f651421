-- The moves of lists in a pool, of which the calls are made.
use Rattle.std.specs.Prelude.{◌≡◌, ◌≢◌, ℕ, suc, ◌+◌, ◌≤◌, List, [], ◌∷◌, ◌++◌, length, get_or, set}
use Rattle.cand_pool.specs.Links.{none, link, IsChain, IsIn, IsWhole}
use Rattle.cand_pool.specs.Candidates.{Candidate, loaded}
use Rattle.cand_pool.specs.declared.numbers.Numbers.{Numbers}
use Rattle.cand_pool.specs.Pools.{Block, blank, candidate_at, candidate, slots_of, items, spare, IsPool, IsHeld, KeepsOthers}

-- the block with another link at one slot, and with this first free slot
abbrev pub relinked : Block → ℕ → ℕ → ℕ → Block
relinked s at to free = record { links = set s.links at to; candidates = s.candidates; free = free }

-- a first slot is cut off: it is a list of its own
pub record IsTaken (s : Block) (first last : ℕ) (x : Candidate) (xs : List Candidate) (s' : Block)
    (rest : ℕ) : Type 0 where
  pub pool : IsPool s'
  pub one : IsHeld s' first first (x ∷ [])
  pub more : IsHeld s' rest last xs
  pub differ : first ≢ rest
  pub others : KeepsOthers s (first ∷ []) s' (first ∷ rest ∷ [])
  pub free : spare s' ≡ spare s

-- list b is put after the end of list a
pub record IsPut (s : Block) (a b b_last : ℕ) (xs ys : List Candidate) (s' : Block) : Type 0 where
  pub pool : IsPool s'
  pub whole : IsHeld s' a b_last (xs ++ ys)
  pub others : KeepsOthers s (a ∷ b ∷ []) s' (a ∷ [])
  pub free : spare s' ≡ spare s

-- the first free slot is a list of its own
pub record IsDrawn (s : Block) (s' : Block) : Type 0 where
  pub pool : IsPool s'
  pub one : IsHeld s' s.free s.free (candidate s s.free ∷ [])
  pub others : KeepsOthers s [] s' (s.free ∷ [])
  pub free : spare s ≡ suc (spare s')

-- a list of one slot is free
pub record IsFreed (s : Block) (first : ℕ) (s' : Block) : Type 0 where
  pub pool : IsPool s'
  pub others : KeepsOthers s (first ∷ []) s' []
  pub free : spare s' ≡ suc (spare s)

-- the block with other candidates in its slots
abbrev pub rewritten : Block → List Numbers → Block
rewritten s candidates = record { links = s.links; candidates = candidates; free = s.free }

-- a list of one slot has another candidate
pub record IsWritten (s : Block) (first : ℕ) (s' : Block) : Type 0 where
  pub pool : IsPool s'
  pub one : IsHeld s' first first (candidate s' first ∷ [])
  pub others : KeepsOthers s (first ∷ []) s' (first ∷ [])
  pub free : spare s' ≡ spare s

-- the block with one slot more, which is a list of its own
abbrev pub grown : Block → Block
grown s = record { links = s.links ++ none ∷ []; candidates = s.candidates ++ blank ∷ []; free = s.free }

pub record IsGrown (s : Block) (s' : Block) : Type 0 where
  pub pool : IsPool s'
  pub one : IsHeld s' (length s.links) (length s.links) (candidate s' (length s.links) ∷ [])
  pub others : KeepsOthers s [] s' (length s.links ∷ [])
  pub free : spare s' ≡ spare s

-- slot `first` is the first of a live list or bag, or it is none
pub record IsFirst (s : Block) (first : ℕ) : Type 0 where
  pub whole : IsWhole (link s.links) (length s.links) first (slots_of s first)
  pub kept : first ≡ s.free → first ≡ none

-- the list or bag with these ends is live
abbrev pub IsNamed : Block → ℕ → ℕ → Type 0
IsNamed s first last = IsHeld s first last (items s first)

-- list b was put after list a; either may be empty
pub record IsAppended (s : Block) (a a_last b b_last : ℕ) (s' : Block) (first last : ℕ) : Type 0 where
  pub joined : (xs ys : List Candidate) → IsHeld s a a_last xs → IsHeld s b b_last ys → IsHeld s' first last (xs ++ ys)
  pub others : KeepsOthers s (a ∷ b ∷ []) s' (first ∷ [])
  pub free : spare s' ≡ spare s

-- the first tag of a bag was taken out
pub record IsTagTaken (s : Block) (first last : ℕ) (x : Candidate) (xs : List Candidate) (s' : Block)
    (rest rest_last : ℕ) : Type 0 where
  pub bag : IsHeld s' rest rest_last xs
  pub others : KeepsOthers s (first ∷ []) s' (rest ∷ [])
  pub free : spare s' ≡ suc (spare s)

-- what a slot holds, with a load more
abbrev pub heavier : ℕ → Numbers → Numbers
heavier c x = record { q = x.q; c = x.c + c; tag = x.tag }

-- the block with a load more at one slot
abbrev pub loaded_at : ℕ → Block → ℕ → Block
loaded_at c s slot = rewritten s (set s.candidates slot (heavier c (get_or s.candidates slot blank)))

-- how far a load has come along these slots: from `slot` on they are left
pub record IsLoading (c : ℕ) (s : Block) (slots : List ℕ) (t : Block) (slot : ℕ) : Type 0 where
  pub candidates : List Numbers
  pub same : t ≡ rewritten s candidates
  pub long : length s.links ≤ length candidates
  pub left : List ℕ
  pub chain : IsChain (link s.links) (length s.links) slot left
  pub inside : (i : ℕ) → IsIn i left → IsIn i slots
  pub ahead : (i : ℕ) → IsIn i left → candidate_at candidates i ≡ candidate s i
  pub behind : (i : ℕ) → IsIn i slots → (IsIn i left → ⊥) → candidate_at candidates i ≡ loaded c (candidate s i)
  pub others : (i : ℕ) → (IsIn i slots → ⊥) → candidate_at candidates i ≡ candidate s i
