-- A sieve: the first of what is left of a list is put after what was kept or after what was dropped.
use Rattle.std.specs.Prelude.{◌≡◌, ◌≢◌, ℕ, List, [], ◌∷◌, ◌++◌, map, ℤ}
use Rattle.cand_pool.specs.Links.{none}
use Rattle.cand_pool.specs.Candidates.{Candidate, Candidates, AreModest, wired_to}
use Rattle.cand_pool.specs.Pools.{Block, spare, IsHeld, KeepsOthers}
use Rattle.cand_pool.specs.Sequences.{kept, dropped, undominated, dominated}
use Rattle.cand_pool.specs.declared.ends.Ends.{Ends}
use Rattle.cand_pool.specs.declared.sieve.Sieve.{Sieve}

abbrev pub IsAt : Block → Ends → Candidates → Type 0
IsAt s ends xs = IsHeld s ends.first ends.last xs

-- of all candidates, in order, these were kept and these dropped, `best` is the greatest q that was kept, and `more`
-- are to come
pub record IsSplit (all ks ds more : Candidates) (best : ℤ) : Type 0 where
  pub kept_is : ks ++ kept best more ≡ undominated all
  pub dropped_is : ds ++ dropped best more ≡ dominated all

-- three lists of which no two are one, unless they are empty
pub record IsSieve (s : Block) (rest a b : Ends) (xs as_a as_b : Candidates) : Type 0 where
  pub more : IsAt s rest xs
  pub one : IsAt s a as_a
  pub two : IsAt s b as_b
  pub rest_one : rest.first ≢ none → rest.first ≢ a.first
  pub rest_two : rest.first ≢ none → rest.first ≢ b.first
  pub one_two : a.first ≢ none → a.first ≢ b.first

-- the first of the rest, as y, was put after list a
pub record IsSifted (s s' : Block) (rest a b rest' a' : Ends) (xs as_a as_b : Candidates) (y : Candidate) : Type 0 where
  pub sieve : IsSieve s' rest' a' b xs (as_a ++ y ∷ []) as_b
  pub others : KeepsOthers s (rest.first ∷ a.first ∷ b.first ∷ []) s' (rest'.first ∷ a'.first ∷ b.first ∷ [])
  pub free : spare s' ≡ spare s

-- the names of the lists of a sieve
abbrev pub names : Sieve → List ℕ
names at = at.rest.first ∷ at.kept.first ∷ at.dropped.first ∷ []

abbrev pub Sifts : Block → Sieve → Candidates → Candidates → Candidates → Type 0
Sifts s at xs ks ds = IsSieve s at.rest at.kept at.dropped xs ks ds

-- the first of the rest, as y, was kept if its q is over the best one, else dropped
pub record IsTurned (s s' : Block) (at at' : Sieve) (xs ks ds : Candidates) (y : Candidate) : Type 0 where
  pub ks' : Candidates
  pub ds' : Candidates
  pub sieve : Sifts s' at' xs ks' ds'
  pub split : (all more : Candidates) → IsSplit all ks ds (y ∷ more) at.best → IsSplit all ks' ds' more at'.best
  pub others : KeepsOthers s (names at) s' (names at')
  pub free : spare s' ≡ spare s

-- some of the first of the rest were kept or dropped, so that these are left
pub record IsSiftedTo (s s' : Block) (at at' : Sieve) (left : Candidates) : Type 0 where
  pub ks : Candidates
  pub ds : Candidates
  pub sieve : Sifts s' at' left ks ds
  pub split : (all xs ps rs : Candidates) → Sifts s at xs ps rs → IsSplit all ps rs xs at.best
      → IsSplit all ks ds left at'.best
  pub others : KeepsOthers s (names at) s' (names at')
  pub free : spare s' ≡ spare s

-- how far a wire with a load at its upper end has come: of `all`, the candidates xs are left
pub record IsWiring (r c : ℕ) (s : Block) (list : Ends) (all : Candidates) (t : Block) (at : Sieve) : Type 0 where
  pub xs : Candidates
  pub ks : Candidates
  pub ds : Candidates
  pub sieve : Sifts t at xs ks ds
  pub split : IsSplit (map (wired_to r c) all) ks ds (map (wired_to r c) xs) at.best
  pub modest : AreModest xs
  pub others : KeepsOthers s (list.first ∷ []) t (names at)
  pub free : spare t ≡ spare s
