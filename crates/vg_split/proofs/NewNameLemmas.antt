-- New names: they are words, differ by their numbers, and are none that the net has.
use Rattle.std.proofs.Common.{◌≡◌, ◌≢◌, ℕ, ◌<◌, ◌^◌, ◌==◌, ◌&&◌, true, List, [], ◌∷◌, ◌++◌, get_or, codes, refl, sym, ap, ◌∙◌, subst, arith, append_assoc}
use Rattle.std.specs.Fmt.{decimal}
use Rattle.std.specs.List.{AllPass, starts_with}
use Rattle.std.specs.Cmp.Lexicographic.{pointwise}
use Rattle.std.proofs.Math.Seq.{take-append_seam}
use Rattle.std.proofs.lemmas.Bool.{eq-eqb, false≢true}
use Rattle.std.proofs.lemmas.Fmt.{decimal_injective}
use Rattle.std.proofs.lemmas.List.{append_cancel_left, length-append}
use Rattle.std.proofs.lemmas.List.Elements.{All-append, All-cons}
use Rattle.vg_scan.specs.Printed.{is_solid, IsPrintable}
use Rattle.spef_write.proofs.NumberLemmas.{decimal_number, number_word}
use Rattle.vg_split.specs.Conditions.{IsOld}
use Rattle.vg_split.specs.NewNames.{cell_name, net_name}

same_bytes : (bytes : List ℕ) → pointwise ◌==◌ bytes bytes ≡ true
same_bytes [] = refl
same_bytes (b ∷ bytes) = ap (λ t. t && pointwise ◌==◌ bytes bytes) (eq-eqb b b refl) ∙ same_bytes bytes

begins_so : (prefix rest : List ℕ) → starts_with ◌==◌ (prefix ++ rest) prefix ≡ true
begins_so prefix rest = ap (λ front. pointwise ◌==◌ prefix front) (take-append_seam prefix rest) ∙ same_bytes prefix

-- an old name is no new one
old_differs : (prefix rest name : List ℕ) → IsOld prefix name → name ≢ prefix ++ rest
old_differs prefix rest name old e =
    false≢true (sym old ∙ ap (λ n. starts_with ◌==◌ n prefix) e ∙ begins_so prefix rest)

cell_is : (prefix : List ℕ) (m : ℕ) → cell_name prefix m ≡ prefix ++ (117 ∷ decimal m)
cell_is prefix m = append_assoc prefix (codes "u") (decimal m)

net_is : (prefix : List ℕ) (m : ℕ) → net_name prefix m ≡ prefix ++ (110 ∷ decimal m)
net_is prefix m = append_assoc prefix (codes "n") (decimal m)

pub old_cell : (prefix name : List ℕ) (m : ℕ) → IsOld prefix name → name ≢ cell_name prefix m
old_cell prefix name m old e = old_differs prefix (117 ∷ decimal m) name old (e ∙ cell_is prefix m)

pub old_net : (prefix name : List ℕ) (m : ℕ) → IsOld prefix name → name ≢ net_name prefix m
old_net prefix name m old e = old_differs prefix (110 ∷ decimal m) name old (e ∙ net_is prefix m)

pub cell_net : (prefix : List ℕ) (m n : ℕ) → cell_name prefix m ≢ net_name prefix n
cell_net prefix m n e =
    let behind : 117 ∷ decimal m ≡ 110 ∷ decimal n
    = append_cancel_left prefix (117 ∷ decimal m) (110 ∷ decimal n) (sym (cell_is prefix m) ∙ e ∙ net_is prefix n) in
    let first : 117 ≡ 110 = ap (λ (l : List ℕ). get_or l 0 0) behind in
    omega (arith, first)

pub one_cell : (prefix : List ℕ) (m n : ℕ) → m < 2 ^ 64 → n < 2 ^ 64 → cell_name prefix m ≡ cell_name prefix n → m ≡ n
one_cell prefix m n m_fits n_fits e =
    decimal_injective m n m_fits n_fits (append_cancel_left (prefix ++ codes "u") (decimal m) (decimal n) e)

-- a new name can be a word
word : (prefix : List ℕ) (b m : ℕ) → AllPass is_solid prefix → is_solid b ≡ true → m < 2 ^ 64 → IsPrintable (prefix ++ (b ∷ decimal m))
word prefix b m solid b_solid fits = record {
  some = omega (arith, length-append prefix (b ∷ decimal m));
  solid =
      All-append (λ c. is_solid c ≡ true) prefix (b ∷ decimal m) solid
      (All-cons (λ c. is_solid c ≡ true) b (decimal m) b_solid (number_word (decimal m) (decimal_number m (omega (arith, fits)))).solid);
}

pub cell_word : (prefix : List ℕ) (m : ℕ) → AllPass is_solid prefix → m < 2 ^ 64 → IsPrintable (cell_name prefix m)
cell_word prefix m solid fits = subst IsPrintable (sym (cell_is prefix m)) (word prefix 117 m solid refl fits)

pub net_word : (prefix : List ℕ) (m : ℕ) → AllPass is_solid prefix → m < 2 ^ 64 → IsPrintable (net_name prefix m)
net_word prefix m solid fits = subst IsPrintable (sym (net_is prefix m)) (word prefix 110 m solid refl fits)
