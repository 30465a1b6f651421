-- Pieces that are written or read one after another.
use Rattle.std.proofs.Common.{◌≡◌, ◌+◌, ◌-◌, ◌≤◌, ℕ, List, ◌++◌, length, take, drop, Option, Some, None, ap, arith, append_assoc, length-drop}
use Rattle.std.proofs.Math.Seq.{take-add}
use Rattle.std.proofs.lemmas.Grind.{common_steps}
use Rattle.vg_store.specs.Writing.{OutState, Appends, Gains, GainsPrefix}

-- the rest of the bytes, as a slice
abbrev pub rest_of : ℕ → List ℕ → List ℕ
rest_of n bytes = take (length bytes - n) (drop n bytes)

pub rest_of-drop : (n : ℕ) (bytes : List ℕ) → rest_of n bytes ≡ drop n bytes
rest_of-drop n bytes = grind (arith, common_steps)

-- what two pieces in a row gain
appends_two : (old mid new : Option (List ℕ)) (n k : ℕ) (bytes : List ℕ) → Appends old mid (take n bytes) → Appends mid new (take k (drop n bytes)) → Appends old new (take (n + k) bytes)
appends_two None mid new n k bytes first second = tt
appends_two (Some old) None new n k bytes first second = absurd (cc)
appends_two (Some old) (Some mid) new n k bytes first second =
    let split : take (n + k) bytes ≡ take n bytes ++ take k (drop n bytes) = take-add n k bytes in
    let regroup = append_assoc old (take n bytes) (take k (drop n bytes)) in
    cc

pub gains_next : (old mid new : OutState) (n k : ℕ) (bytes : List ℕ) → Gains old mid (take n bytes) → Gains mid new (take k (rest_of n bytes)) → Gains old new (take (n + k) bytes)
gains_next old mid new n k bytes first second = appends_two old.written mid.written new.written n k bytes first (rw (rest_of-drop n bytes) at second)

-- a prefix of the second piece
pub gains_then_prefix : (old mid new : OutState) (n : ℕ) (bytes : List ℕ) → n ≤ length bytes → Gains old mid (take n bytes) → GainsPrefix mid new (rest_of n bytes) → GainsPrefix old new bytes
gains_then_prefix old mid new n bytes within first (k, short, second) =
    let same = ap length (rest_of-drop n bytes) in
    (n + k, omega (arith, length-drop n bytes), gains_next old mid new n k bytes first second)
