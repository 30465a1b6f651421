use Rattle.std.proofs.Common.{◌≡◌, ℕ, List, [], ◌∷◌, refl, sym, inl, inr}
use Rattle.std.proofs.lemmas.Option.{MatchOption-at_none, MatchOption-at_some}
use Rattle.cand_pool.specs.Candidates.{Candidate, Candidates}
use Rattle.cand_pool.specs.Pools.{Block, IsPlace}
use Rattle.cand_pool.specs.declared.ends.Cand.{Cand}
use Rattle.vg_merge.specs.Branches.{IsFirst}
use Rattle.vg_merge.proofs.branches.first_solutions.Goals as goal

pub returns-in_err-a-clause-firsts : goal.returns-in_err-a-clause-firsts
returns-in_err-a-clause-firsts g c =
    rw c.from_residual.ensures (inl (MatchOption-at_none _ _ c.in_err-a.was (c.first.ensures _ c.requires.a)))

pub returns-in_err-b-clause-firsts : goal.returns-in_err-b-clause-firsts
returns-in_err-b-clause-firsts g c =
    rw c.from_residual-in_err-b.ensures (inr (MatchOption-at_none _ _ c.in_err-b.was (c.first-2.ensures _ c.requires.b)))

pub tell-x-requires : goal.tell-x-requires
tell-x-requires g c = (_, MatchOption-at_some _ _ c.in_ok-a.a c.in_ok-a.was (c.first.ensures _ c.requires.a))

pub tell-y-requires : goal.tell-y-requires
tell-y-requires g c = (_, MatchOption-at_some _ _ c.in_ok-b.b c.in_ok-b.was (c.first-2.ensures _ c.requires.b))

-- the tag that was told of the first place of a list
first_told : (s : Block) (place : Cand) (xs : List Candidate) (tag : ℕ) → IsPlace s place xs →
    ((y : Candidate) (ys : Candidates) → IsPlace s place (y ∷ ys) → tag ≡ y.tag) → IsFirst xs tag
first_told s place [] tag at told = absurd (at.some refl)
first_told s place (x ∷ xs) tag at told = sym (told x xs at)

pub returns-clause-firsts : goal.returns-clause-firsts
returns-clause-firsts g c =
    let a = MatchOption-at_some _ _ c.in_ok-a.a c.in_ok-a.was (c.first.ensures _ c.requires.a) in
    let b = MatchOption-at_some _ _ c.in_ok-b.b c.in_ok-b.was (c.first-2.ensures _ c.requires.b) in (
      first_told _ c.in_ok-a.a _ _ a (λ y ys at. (c.tell-x.ensures.told y ys at).2),
      first_told _ c.in_ok-b.b _ _ b
          (λ y ys at. (c.tell-y.ensures.told y ys at).2),
    )
