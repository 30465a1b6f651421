-- How many lines a text has.
use Rattle.std.proofs.Common.{◌≡◌, ℕ, suc, ◌+◌, ◌≤◌, Bool, true, false, cond, List, [], ◌∷◌, length, arith, eqb, subst, sym, refl}
use Rattle.std.proofs.lemmas.Bool.Decides.{nat_tests}
use Rattle.std.specs.List.{slice_split, onto_first}
use Rattle.std.specs.Str.Lines.{lines, lines_of_parts}
use Rattle.vg_scan.specs.Lines.{is_newline}
use Rattle.vg_scan.proofs.LineLemmas.{parts_cons}

-- the bytes of some parts, with a newline after each
abbrev size : List (List ℕ) → ℕ
size [] = 0
size (part ∷ parts) = length part + 1 + size parts

first_more : (x : ℕ) (part : List ℕ) (parts : List (List ℕ)) → size (onto_first x (part ∷ parts)) ≤ size (part ∷ parts) + 1
first_more x part parts = omega arith

split_more : (t : Bool) (x n : ℕ) (part : List ℕ) (parts : List (List ℕ)) → size (part ∷ parts) ≤ n + 1 → size (cond t ([] ∷ (part ∷ parts)) (onto_first x (part ∷ parts))) ≤ suc n + 1
split_more true x n part parts l = omega (arith, l)
split_more false x n part parts l = omega (arith, l, first_more x part parts)

split_size : (p : ℕ → Bool) (text : List ℕ) → size (slice_split p text) ≤ length text + 1
split_size p [] = omega arith
split_size p (b ∷ text) =
    let (part, more, e) = parts_cons p text in
    let h : size (part ∷ more) ≤ length text + 1 = subst (λ (ps : List (List ℕ)). size ps ≤ length text + 1) e (split_size p text) in
    subst (λ (ps : List (List ℕ)). size (cond (p b) ([] ∷ ps) (onto_first b ps)) ≤ suc (length text) + 1) (sym e) (split_more (p b) b (length text) part more h)

last_size : (t : Bool) (x : List ℕ) → eqb (length x) 0 ≡ t → length (cond t [] (x ∷ [])) + 1 ≤ length x + 1
last_size true x e = omega arith
last_size false x e = (let some : 1 ≤ length x = grind (arith, nat_tests) in omega (arith, some))

parts_size : (part : List ℕ) (parts : List (List ℕ)) → length (lines_of_parts (part ∷ parts)) + 1 ≤ size (part ∷ parts)
parts_size x [] = (let h = last_size (eqb (length x) 0) x refl in omega (arith, h))
parts_size x (y ∷ more) = (let h = parts_size y more in omega (arith, h))

-- each line has a byte or more
pub lines_few : (text : List ℕ) → length (lines text) ≤ length text
lines_few text =
    let (part, more, e) = parts_cons is_newline text in
    let h : length (lines text) + 1 ≤ size (slice_split is_newline text) = subst (λ (ps : List (List ℕ)). length (lines_of_parts ps) + 1 ≤ size ps) (sym e) (parts_size part more) in
    omega (arith, h, split_size is_newline text)
