-- Candidates, and what is done to one.
use Rattle.std.specs.Prelude.{ℕ, ◌+◌, ◌*◌, ◌^◌, ◌≤◌, cond, List, [], ◌∷◌, ℤ, pos, negsuc, ◌-ℤ◌, ◌≤ℤ◌, int_lt}

-- the latest time at which the signal may reach a node, the load that the node is seen as, and a mark of its owner's
pub record Candidate : Type 0 where
  pub q : ℤ
  pub c : ℕ
  pub tag : ℕ

abbrev pub Candidates : Type 0
Candidates = List Candidate

-- the numbers of a candidate are within the limits of a pool
pub record IsModest (x : Candidate) : Type 0 where
  pub low : negsuc (10 ^ 25) ≤ℤ x.q
  pub high : x.q ≤ℤ pos (10 ^ 25)
  pub load : x.c ≤ 10 ^ 11

abbrev pub AreModest : List Candidate → Type 0
AreModest [] = Unit {0}
AreModest (x ∷ xs) = IsModest x × AreModest xs

-- above a wire of resistance r
abbrev pub wired : ℕ → Candidate → Candidate
wired r x = record { q = x.q -ℤ pos (r * x.c); c = x.c; tag = x.tag }

-- with this load beside it
abbrev pub loaded : ℕ → Candidate → Candidate
loaded c x = record { q = x.q; c = x.c + c; tag = x.tag }

-- above a wire, with this load beside its upper end
abbrev pub wired_to : ℕ → ℕ → Candidate → Candidate
wired_to r c x = loaded c (wired r x)

-- where two branches meet
abbrev pub formed : Candidate → Candidate → ℕ → Candidate
formed x y tag = record { q = cond (int_lt y.q x.q) y.q x.q; c = x.c + y.c; tag = tag }
