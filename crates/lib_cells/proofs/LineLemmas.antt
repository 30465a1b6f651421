-- Lines and the newlines between two places.
use Rattle.std.proofs.Common.{◌≡◌, ℕ, ◌+◌, ◌-◌, ◌<◌, ◌≤◌, nat_lt, Bool, true, false, ◌||◌, cond, List, [], ◌∷◌, take, drop, refl, sym, ◌∙◌, arith}
use Rattle.std.specs.List.{count_by, list_any}
use Rattle.std.proofs.lemmas.Bool.Decides.{nat_tests}
use Rattle.std.proofs.lemmas.List.Sums.{sum_by-cons, sum_by-take-drop}
use Rattle.std.proofs.lemmas.List.{drop-take, take-take}
use Rattle.vg_scan.specs.Lines.{is_newline, line_number}

counts : (test : ℕ → Bool) (xs : List ℕ) (i m : ℕ) → count_by test (take (i + m) xs) ≡ count_by test (take i xs) + count_by test (take m (drop i xs))
counts test xs i m = sym (sum_by-take-drop (λ x. cond (test x) 1 0) (take (i + m) xs) i) ∙ rw (take-take i (i + m) xs (omega arith), drop-take i m xs) refl

any_counts : (test : ℕ → Bool) (xs : List ℕ) → list_any test xs ≡ nat_lt 0 (count_by test xs)
any_counts test [] = refl
any_counts test (x ∷ xs) = rw (sum_by-cons (λ x. cond (test x) 1 0) x xs, any_counts test xs) (by_test (test x) (count_by test xs))
  where
    by_test : (t : Bool) (n : ℕ) → (t || nat_lt 0 n) ≡ nat_lt 0 (cond t 1 0 + n)
    by_test true n = grind (arith, nat_tests)
    by_test false n = grind (arith, nat_tests)

more : (n m : ℕ) → nat_lt 0 m ≡ nat_lt (n + 1) (n + m + 1)
more n m = grind (arith, nat_tests)

less : (n m : ℕ) → nat_lt (n + m + 1) (n + 1) ≡ false
less n m = grind (arith, nat_tests)

low : (from to : ℕ) → to ≤ from → nat_lt from to ≡ false
low from to h = grind (arith, nat_tests)

-- a place stands on an earlier line where a newline stands before the other one
pub lines_between : (bytes : List ℕ) (from to : ℕ) → from < to
    → list_any is_newline (take (to - from) (drop from bytes)) ≡ nat_lt (line_number bytes from) (line_number bytes to)
lines_between bytes from to h =
    let k : to ≡ from + (to - from) = omega arith in
    let c = counts is_newline bytes from (to - from) in
    any_counts is_newline (take (to - from) (drop from bytes))
    ∙ more (count_by is_newline (take from bytes)) (count_by is_newline (take (to - from) (drop from bytes)))
    ∙ rw (sym c, sym k) refl

pub no_line_between : (bytes : List ℕ) (from to : ℕ) → to ≤ from → nat_lt from to ≡ nat_lt (line_number bytes from) (line_number bytes to)
no_line_between bytes from to h =
    let k : from ≡ to + (from - to) = omega arith in
    let c = counts is_newline bytes to (from - to) in
    low from to h
    ∙ sym (less (count_by is_newline (take to bytes)) (count_by is_newline (take (from - to) (drop to bytes)))) ∙ rw (sym c, sym k) refl
