-- The end of a net.
use Rattle.std.proofs.Common.{◌≡◌, ℕ, suc, ◌+◌, true, false, List, [], ◌∷◌, drop, refl, sym, ap, ◌∙◌, arith, add-one, ◌<◌, length, length-drop, drop-cons, get_or, take, ◌++◌, Option, Some, None}
use Rattle.std.proofs.lemmas.List.{take_more}
use Rattle.std.specs.Prelude.{option_map}
use Rattle.vg_scan.specs.Lines.{Line}
use Rattle.spef_file.specs.Nets.{end_at, is_end, is_head}

-- so many lines more
abbrev pub later_by : ℕ → Option ℕ → Option ℕ
later_by n o = option_map (λ m. n + m) o

pub ends_here : (line : Line) (later : List Line) → is_end line ≡ true → end_at (line ∷ later) ≡ Some 0
ends_here line later e = rw e refl

pub ends_never : (line : Line) (later : List Line) → is_end line ≡ false → is_head line ≡ true → end_at (line ∷ later) ≡ None
ends_never line later e f = rw e (rw f refl)

pub ends_later : (line : Line) (later : List Line) → is_end line ≡ false → is_head line ≡ false → end_at (line ∷ later) ≡ option_map (λ n. n + 1) (end_at later)
ends_later line later e f = rw e (rw f refl)

pub later_more : (n : ℕ) (o : Option ℕ) → later_by n (option_map (λ m. m + 1) o) ≡ later_by (n + 1) o
later_more n None = refl
later_more n (Some m) = ap Some (omega arith)

pub drop_more : (n : ℕ) (all : List Line) (line : Line) (rest : List Line) → line ∷ rest ≡ drop n all → rest ≡ drop (n + 1) all
drop_more n all line rest e =
    let l : n < length all = omega (arith, length-drop n all, ap length e) in
    let d : line ∷ rest ≡ get_or all n [] ∷ drop (suc n) all = e ∙ drop-cons all n [] l in
    let r : rest ≡ drop (suc n) all = cc in
    r ∙ ap (λ m. drop m all) (sym (add-one n))

pub take_next : (n : ℕ) (all : List Line) (line : Line) (rest : List Line) → line ∷ rest ≡ drop n all → take (n + 1) all ≡ take n all ++ line ∷ []
take_next n all line rest e =
    let l : n < length all = omega (arith, length-drop n all, ap length e) in
    let d : line ∷ rest ≡ get_or all n [] ∷ drop (suc n) all = e ∙ drop-cons all n [] l in
    let g : get_or all n [] ≡ line = (let h : line ≡ get_or all n [] = cc in sym h) in
    take_more all n [] l ∙ ap (λ x. take n all ++ x ∷ []) g
