-- Where a byte stands first, and the parts that it makes.
use Rattle.std.proofs.Common.{◌≡◌, ℕ, ◌+◌, ◌-◌, ◌<◌, Bool, List, [], ◌∷◌, length, take, drop, arith, refl, sym, ap, ◌∙◌, Some, None, take_all, length-drop, Err}
use Rattle.std.specs.Prelude.{ℤ}
use Rattle.std.specs.List.{slice_split, position, position_or_len}
use Rattle.std.proofs.lemmas.List.Splits.{slice_split_first, length-slice_split}
use Rattle.vg_num.specs.declared.fault.NumFault.TheVariants.{Form}
use Rattle.vg_scan.proofs.LineLemmas as scan
use Rattle.spef_net.specs.Statements.{value_of_parts}

pub first_at : (p : ℕ → Bool) (xs : List ℕ) (i : ℕ) → position p xs ≡ Some i → (position_or_len p xs ≡ i) × (i < length xs)
first_at p xs i e = scan.first_at p xs i e

pub first_none : (p : ℕ → Bool) (xs : List ℕ) → position p xs ≡ None → position_or_len p xs ≡ length xs
first_none p xs e = scan.first_none p xs e

-- a text without such a byte is one part
pub one_part : (p : ℕ → Bool) (xs : List ℕ) → position p xs ≡ None → slice_split p xs ≡ xs ∷ []
one_part p xs e = scan.split_whole p xs (first_none p xs e)

-- the part before the first such byte, and the parts after it
pub first_part : (p : ℕ → Bool) (xs : List ℕ) (i : ℕ) → position p xs ≡ Some i → slice_split p xs ≡ take i xs ∷ slice_split p (drop (i + 1) xs)
first_part p xs i e =
    let h = first_at p xs i e in
    let l : position_or_len p xs < length xs = omega (arith, h.0) in
    let s = slice_split_first p xs 0 l in
    rw h.0 at s

-- the parts of a text with one such byte, with two, and with more
pub two_parts : (p : ℕ → Bool) (xs rest : List ℕ) (i : ℕ) → position p xs ≡ Some i → rest ≡ drop (i + 1) xs → position p rest ≡ None → slice_split p xs ≡ take i xs ∷ rest ∷ []
two_parts p xs rest i e r f = first_part p xs i e ∙ ap (λ ys. take i xs ∷ slice_split p ys) (sym r) ∙ ap (λ parts. take i xs ∷ parts) (one_part p rest f)

pub three_parts : (p : ℕ → Bool) (xs rest high : List ℕ) (i j : ℕ) → position p xs ≡ Some i → rest ≡ drop (i + 1) xs → position p rest ≡ Some j → high ≡ drop (j + 1) rest → position p high ≡ None
    → slice_split p xs ≡ take i xs ∷ take j rest ∷ high ∷ []
three_parts p xs rest high i j e r f h g = first_part p xs i e ∙ ap (λ ys. take i xs ∷ slice_split p ys) (sym r) ∙ ap (λ parts. take i xs ∷ parts) (two_parts p rest high j f h g)

-- a list of four parts or more is no value
four_parts : (places : ℤ) (a b c : List ℕ) (more : List (List ℕ)) → 0 < length more → value_of_parts places (a ∷ b ∷ c ∷ more) ≡ Err Form
four_parts places a b c [] h = absurd (omega arith)
four_parts places a b c (d ∷ more) h = refl

pub many_parts : (places : ℤ) (p : ℕ → Bool) (xs rest high : List ℕ) (i j k : ℕ) → position p xs ≡ Some i → rest ≡ drop (i + 1) xs → position p rest ≡ Some j → high ≡ drop (j + 1) rest → position p high ≡ Some k
    → value_of_parts places (slice_split p xs) ≡ Err Form
many_parts places p xs rest high i j k e r f h g =
    let last = drop (k + 1) high in
    let all : slice_split p xs ≡ take i xs ∷ take j rest ∷ take k high ∷ slice_split p last =
    first_part p xs i e
    ∙ ap (λ ys. take i xs ∷ slice_split p ys) (sym r)
    ∙ ap (λ parts. take i xs ∷ parts) (first_part p rest j f)
    ∙ ap (λ ys. take i xs ∷ take j rest ∷ slice_split p ys) (sym h)
    ∙ ap (λ parts. take i xs ∷ take j rest ∷ parts) (first_part p high k g) in
    ap (value_of_parts places) all ∙ four_parts places (take i xs) (take j rest) (take k high) (slice_split p last) (omega (arith, length-slice_split p last))

pub no_value : (places : ℤ) (p : ℕ → Bool) (xs rest : List ℕ) (i : ℕ) → position p xs ≡ Some i → rest ≡ drop (i + 1) xs → position p rest ≡ None → value_of_parts places (slice_split p xs) ≡ Err Form
no_value places p xs rest i e r f = ap (value_of_parts places) (two_parts p xs rest i e r f)

-- a slice to a list's end
pub to_end : (i : ℕ) (xs : List ℕ) → take (length xs - i) (drop i xs) ≡ drop i xs
to_end i xs = take_all (length xs - i) (drop i xs) (omega (arith, length-drop i xs))
