-- What contracts see of a pool: its block of slots, and the lists and bags that are linked in it.
use Rattle.std.specs.Prelude.{◌≡◌, ◌≢◌, ℕ, ◌≤◌, List, [], length, map, get_or, pos}
use Rattle.cand_pool.specs.Links.{none, link, IsChain, IsIn, last_of, AreLinks, IsWhole, trail}
use Rattle.cand_pool.specs.Candidates.{Candidate, Candidates}
use Rattle.cand_pool.specs.declared.numbers.Numbers.{Numbers}
use Rattle.cand_pool.specs.declared.ends.List.{List as NamedList}
use Rattle.cand_pool.specs.declared.ends.Bag.{Bag}
use Rattle.cand_pool.specs.declared.ends.Cand.{Cand}

-- the block: of each slot its link and its candidate, and the first of the free slots
pub record Block : Type 0 where
  pub links : List ℕ
  pub candidates : List Numbers
  pub free : ℕ

-- what a slot holds, and what it holds before a candidate is written there
abbrev pub seen : Numbers → Candidate
seen x = record { q = x.q; c = x.c; tag = x.tag }

abbrev pub blank : Numbers
blank = record { q = pos 0; c = 0; tag = 0 }

abbrev pub candidate_at : List Numbers → ℕ → Candidate
candidate_at candidates i = seen (get_or candidates i blank)

abbrev pub candidate : Block → ℕ → Candidate
candidate s i = candidate_at s.candidates i

-- the slots from this one on
abbrev pub slots_of : Block → ℕ → List ℕ
slots_of s first = trail (link s.links) (length s.links) (length s.links) first

-- the finite map from the first slot of a list or bag to its sequence
abbrev pub items : Block → ℕ → Candidates
items s first = map (candidate s) (slots_of s first)

-- how many slots are free
abbrev pub spare : Block → ℕ
spare s = length (slots_of s s.free)

-- what is true of each pool
pub record IsPool (s : Block) : Type 0 where
  pub block : AreLinks (link s.links) (length s.links)
  pub all : length s.links ≤ length s.candidates
  pub free : IsWhole (link s.links) (length s.links) s.free (slots_of s s.free)

-- and so many of its slots are known to be free
pub record IsSurePool (s : Block) (sure : ℕ) : Type 0 where
  pub pool : IsPool s
  pub free : sure ≤ spare s

-- the list or bag with these ends is live, and is this sequence
pub record IsHeld (s : Block) (first last : ℕ) (xs : Candidates) : Type 0 where
  pub few : length s.links ≤ none
  pub slots : List ℕ
  pub whole : IsWhole (link s.links) (length s.links) first slots
  pub ends : first ≢ none → last_of none slots ≡ last
  pub kept : first ≡ s.free → first ≡ none
  pub shows : map (candidate s) slots ≡ xs

abbrev pub Holds : Block → NamedList → Candidates → Type 0
Holds s list xs = IsHeld s list.ends.first list.ends.last xs

abbrev pub HoldsBag : Block → Bag → Candidates → Type 0
HoldsBag s bag xs = IsHeld s bag.ends.first bag.ends.last xs

-- what these names stand for
abbrev pub items_of : Block → NamedList → Candidates
items_of s list = items s list.ends.first

abbrev pub bag_of : Block → Bag → Candidates
bag_of s bag = items s bag.ends.first

abbrev pub IsLive : Block → NamedList → Type 0
IsLive s list = Holds s list (items_of s list)

abbrev pub IsLiveBag : Block → Bag → Type 0
IsLiveBag s bag = HoldsBag s bag (bag_of s bag)

-- each live list and bag but the old ones stays as it is, and has none of the new names; the empty ones, which have no
-- name, stay as long as the slots are few enough for links
pub record KeepsOthers (s : Block) (old : List ℕ) (s' : Block) (new : List ℕ) : Type 0 where
  pub few : length s.links ≤ none → length s'.links ≤ none
  pub stays : (first last : ℕ) (xs : List Candidate) → IsHeld s first last xs → first ≢ none → (IsIn first old → ⊥)
      → IsHeld s' first last xs
  pub fresh : (first last : ℕ) (xs : List Candidate) → IsHeld s first last xs → first ≢ none
      → (IsIn first old → ⊥) → IsIn first new → ⊥

-- from this slot on its list or bag is this sequence
pub record IsFrom (s : Block) (slot : ℕ) (xs : Candidates) : Type 0 where
  pub few : length s.links ≤ none
  pub slots : List ℕ
  pub chain : IsChain (link s.links) (length s.links) slot slots
  pub shows : map (candidate s) slots ≡ xs

-- from here on the list is this sequence, which is not empty
pub record IsPlaceAt (s : Block) (slot : ℕ) (xs : Candidates) : Type 0 where
  pub from : IsFrom s slot xs
  pub some : xs ≢ []

-- a live place of a list
abbrev pub IsPlace : Block → Cand → Candidates → Type 0
IsPlace s place xs = IsPlaceAt s place.slot xs

-- the slot that names a list, or a bag, in its pool
abbrev pub name : NamedList → ℕ
name list = list.ends.first

abbrev pub bag_name : Bag → ℕ
bag_name bag = bag.ends.first

-- two lists or bags are not one, unless they are empty
abbrev pub Differ : ℕ → ℕ → Type 0
Differ a b = a ≡ b → a ≡ none
