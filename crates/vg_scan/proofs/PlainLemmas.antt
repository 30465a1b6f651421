-- Bytes that begin no comment, string or escape.
use Rattle.std.proofs.Common.{Bool, ◌≡◌, ℕ, ◌+◌, ◌-◌, ◌<◌, ◌≤◌, true, false, not, List, length, get_or, arith, sym, ap, ◌∙◌, length-take, length-drop}
use Rattle.std.proofs.lemmas.Bool.Decides.{nat_tests}
use Rattle.std.proofs.lemmas.List.Sums.{fails_before_first, prefix_len-le-length}
use Rattle.std.specs.List.{position_or_len}
use Rattle.vg_scan.specs.Lines.{part}
use Rattle.vg_scan.specs.Pieces.{is_mark}
use Rattle.vg_scan.proofs.CutLemmas.{get_part}

-- none passes before the first that does
pub none_before : (test : ℕ → Bool) (bytes : List ℕ) (at m : ℕ) → m ≤ position_or_len test (part bytes at (length bytes)) → (k : ℕ) → at ≤ k → k < at + m → test (get_or bytes k 0) ≡ false
none_before test bytes at m l k low high =
    let rest = part bytes at (length bytes) in
    let len : length rest ≡ length bytes - at = simp (length-take, length-drop) (omega arith) in
    let most = prefix_len-le-length (λ b. not (test b)) rest in
    ap (λ j. test (get_or bytes j 0)) (let x : k ≡ at + (k - at) = omega arith in x)
    ∙ ap test (sym (get_part bytes at (length bytes) (k - at) (omega (arith, len, most))))
    ∙ fails_before_first test rest (k - at) 0 (omega arith)

-- a byte that is no mark is none of the marks
pub no_mark : (b m : ℕ) → is_mark b ≡ false → is_mark m ≡ true → b ≡ m → ⊥
no_mark b m e f g = grind (arith, nat_tests)
