-- Lists that are made at random, and what an operation leaves of them.
use Rattle.std.specs.Prelude.{◌≡◌, ℕ, ◌+◌, ◌^◌, ◌≤◌, List, [], ◌∷◌, length, pos, ◌≤ℤ◌}
use Rattle.cand_pool.specs.Candidates.{Candidate, Candidates}
use Rattle.cand_pool.specs.Pools.{Block, spare, Holds, HoldsBag, items_of, IsLive, Differ, name, bag_name}
use Rattle.cand_pool.specs.declared.ends.List.{List as NamedList}
use Rattle.cand_pool.specs.declared.ends.Bag.{Bag}

-- the numbers of a candidate leave room for a wire and for a load
pub record IsSmall (x : Candidate) : Type 0 where
  pub low : pos 0 ≤ℤ x.q
  pub high : x.q ≤ℤ pos (10 ^ 12)
  pub load : x.c ≤ 10 ^ 10

abbrev pub AreSmall : List Candidate → Type 0
AreSmall [] = Unit {0}
AreSmall (x ∷ xs) = IsSmall x × AreSmall xs

-- a live list of small candidates
abbrev pub IsMade : Block → NamedList → Type 0
IsMade s list = IsLive s list × AreSmall (items_of s list)

abbrev pub size : Block → NamedList → ℕ
size s list = length (items_of s list)

-- a bag with a candidate
abbrev pub IsFull : Block → Bag → Type 0
IsFull s bag = (x : Candidate) × (xs : Candidates) × HoldsBag s bag (x ∷ xs)

-- of so many candidates each is in the list or in the bag, or its slot is free
pub record IsApplied (n : ℕ) (s s' : Block) (list : NamedList) (bag : Bag) : Type 0 where
  pub xs : Candidates
  pub ys : Candidates
  pub left : Holds s' list xs
  pub gone : HoldsBag s' bag ys
  pub differ : Differ (name list) (bag_name bag)
  pub all : length xs + length ys ≡ n
  pub free : spare s' ≡ spare s
