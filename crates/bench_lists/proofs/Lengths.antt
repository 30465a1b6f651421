-- Small candidates are within the limits of a pool.
use Rattle.std.proofs.Common.{ℕ, ◌^◌, ◌≤◌, List, [], ◌∷◌, ◌++◌, map, arith, ℤ, pos}
use Rattle.std.specs.Prelude.{◌≤ℤ◌, negsuc}
use Rattle.std.proofs.lemmas.Int.{ints}
use Rattle.cand_pool.specs.Candidates.{Candidate, AreModest, loaded}
use Rattle.bench_lists.specs.Turns.{IsSmall, AreSmall}

small_low : (q : ℤ) → pos 0 ≤ℤ q → negsuc (10 ^ 25) ≤ℤ q
small_low q h = omega (arith, ints)

small_high : (q : ℤ) → q ≤ℤ pos (10 ^ 12) → q ≤ℤ pos (10 ^ 25)
small_high q h = omega (arith, ints)

-- small candidates are within the limits of a pool, also with a load beside them
pub small_modest : (xs : List Candidate) → AreSmall xs → AreModest xs
small_modest [] h = tt
small_modest (x ∷ xs) h = (record { low = small_low x.q h.0.low; high = small_high x.q h.0.high; load = let k = h.0.load in omega (arith, k) }, small_modest xs h.1)

pub small_loaded : (c : ℕ) (xs : List Candidate) → c ≤ 10 ^ 10 → AreSmall xs → AreModest (map (loaded c) xs)
small_loaded c [] few h = tt
small_loaded c (x ∷ xs) few h = (record { low = small_low x.q h.0.low; high = small_high x.q h.0.high; load = let k = h.0.load in omega (arith, k) }, small_loaded c xs few h.1)

pub small_append : (xs : List Candidate) (x : Candidate) → AreSmall xs → IsSmall x → AreSmall (xs ++ x ∷ [])
small_append [] x all one = (one, tt)
small_append (y ∷ ys) x all one = (all.0, small_append ys x all.1 one)
