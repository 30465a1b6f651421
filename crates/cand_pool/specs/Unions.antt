-- Two lists become one: a sieve whose rest is the first of them, beside the second.
use Rattle.std.specs.Prelude.{◌≡◌, ◌≢◌, ℕ, [], ◌∷◌}
use Rattle.cand_pool.specs.Links.{none, IsIn}
use Rattle.cand_pool.specs.Candidates.{Candidates}
use Rattle.cand_pool.specs.Pools.{Block, spare, KeepsOthers}
use Rattle.cand_pool.specs.Sequences.{union}
use Rattle.cand_pool.specs.Laws.{RisesInTime}
use Rattle.cand_pool.specs.Sieves.{IsAt, IsSplit, Sifts, names}
use Rattle.cand_pool.specs.declared.ends.Ends.{Ends}
use Rattle.cand_pool.specs.declared.sieve.Sieve.{Sieve}
use Rattle.cand_pool.specs.declared.absorb.Union.{Union}

-- a fourth list is none of the three of a sieve, unless it is empty
pub record IsBeside (s : Block) (other : Ends) (at : Sieve) (ys : Candidates) : Type 0 where
  pub held : IsAt s other ys
  pub apart : other.first ≢ none → IsIn other.first (names at) → ⊥

-- what is left of both lists
pub record AreLeft (s : Block) (at : Union) (xs ys : Candidates) : Type 0 where
  pub ks : Candidates
  pub ds : Candidates
  pub sieve : Sifts s at.sieve xs ks ds
  pub other : IsBeside s at.other at.sieve ys

-- how far a union of two lists that rise in q has come: of both together, xs and ys are left
pub record IsUniting (s : Block) (one two : ℕ) (all : Candidates) (t : Block) (at : Union) : Type 0 where
  pub xs : Candidates
  pub ys : Candidates
  pub ks : Candidates
  pub ds : Candidates
  pub sieve : Sifts t at.sieve xs ks ds
  pub other : IsBeside t at.other at.sieve ys
  pub rises_xs : RisesInTime xs
  pub rises_ys : RisesInTime ys
  pub split : IsSplit all ks ds (union xs ys) at.sieve.best
  pub others : KeepsOthers s (one ∷ two ∷ []) t (at.other.first ∷ names at.sieve)
  pub free : spare t ≡ spare s

-- one of both lists is used up, and xs are left of the other one
pub record IsEnding (s : Block) (one two : ℕ) (all : Candidates) (t : Block) (at : Sieve) : Type 0 where
  pub xs : Candidates
  pub ks : Candidates
  pub ds : Candidates
  pub sieve : Sifts t at xs ks ds
  pub rises : RisesInTime xs
  pub split : IsSplit all ks ds xs at.best
  pub others : KeepsOthers s (one ∷ two ∷ []) t (names at)
  pub free : spare t ≡ spare s
