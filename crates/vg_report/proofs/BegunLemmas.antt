-- What was appended to in two steps begins as it did at first.
use Rattle.std.proofs.Common.{◌≡◌, ℕ, List, ◌++◌, length, take, ◌≤◌, sym, ap, ◌∙◌, arith}
use Rattle.std.proofs.lemmas.List.{length-append, take-take}
use Rattle.std.proofs.Math.Seq.{take-append_seam}

-- what begins as the text in the middle, begins as the one before it
pub begun_after : (old more mid new : List ℕ) → mid ≡ old ++ more → take (length mid) new ≡ mid → take (length old) new ≡ old
begun_after old more mid new is begun =
    let longer : length old ≤ length mid = omega (arith, ap length is, length-append old more) in
    sym (take-take (length old) (length mid) new longer) ∙ ap (take (length old)) begun ∙ ap (take (length old)) is ∙ take-append_seam old more
