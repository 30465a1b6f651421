-- The node of a text by the place of its delimiter.
use Rattle.std.proofs.Common.{◌≡◌, ℕ, zero, suc, ◌+◌, ◌-◌, ◌<◌, ◌≤◌, Bool, true, false, ◌&&◌, eqb, nat_lt, List, [], ◌∷◌, ◌++◌, length, get_or, take, drop, refl, sym, ap, ◌∙◌, arith, Some, None, inl, inr, length-append, length-take}
use Rattle.std.specs.List.{list_all}
use Rattle.std.proofs.lemmas.Bool.{cases_eq}
use Rattle.std.proofs.lemmas.Int.{clamps}
use Rattle.std.proofs.lemmas.Bool.Decides.{nat_tests}
use Rattle.std.proofs.lemmas.List.{take-append-le, get_or_append_left, get_or-append_right}
use Rattle.std.proofs.Math.Seq.{drop-append_seam}
use Rattle.std.proofs.lemmas.List.Folds.{list_all-append}
use Rattle.vg_num.specs.Number.{is_digit, are_digits}
use Rattle.vg_scan.specs.declared.chars.Chars.{Chars}
use Rattle.vg_scan.proofs.BareLemmas.{some_bare}
use Rattle.spef_nodes.specs.Spellings.{is_itself}
use Rattle.spef_nodes.specs.NodeReaders.{ArePlainDigits}
use Rattle.spef_nodes.proofs.SpellLemmas.{unescaped, all_take, canonical_plain, bare_is, last_here, last_before}
use Rattle.vg_scan.specs.Names.{canonical, is_backslash, last_bare}
use Rattle.vg_scan.specs.Nodes.{leaf_at}
use Rattle.spef_file.specs.Files.{File}
use Rattle.vg_scan.specs.Nodes.{node_of_parts}
use Rattle.spef_nodes.specs.Names.{owner_in, node_split, node_in}

pub node_in-None : (file : File) (text : List ℕ) → leaf_at file.chars text ≡ None → node_in file text ≡ node_of_parts (owner_in file text) (Some [])
unfolding node_in
node_in-None file text e = ap (node_split file text) e

pub node_in-parts : (file : File) (text owner leaf : List ℕ) (at : ℕ) → leaf_at file.chars text ≡ Some at → owner ≡ take at text → leaf ≡ drop (at + 1) text
    → node_in file text ≡ node_of_parts (owner_in file owner) (canonical file.chars leaf)
unfolding node_in
node_in-parts file text owner leaf at e f g = ap (node_split file text) e ∙ rw (f, g)

both : (a b : Bool) → (a && b) ≡ true → (a ≡ true) × (b ≡ true)
both true b e = (refl, e)
both false b e = absurd (cc)

-- the last of a byte, where it stands at a place and not after it
last_from : (byte : ℕ) (text : List ℕ) (at end : ℕ) → ((i : ℕ) → is_backslash (get_or text i 0) ≡ false) → at < end → eqb (get_or text at 0) byte ≡ true
    → ((i : ℕ) → at < i → i < end → eqb (get_or text i 0) byte ≡ false) → last_bare byte text end ≡ Some at
last_from byte text at zero h low here later = absurd (omega (arith, low))
last_from byte text at (suc end) h low here later = elim (cases_eq end at) as (λ _. last_bare byte text (suc end) ≡ Some at) [
  | inl same ↦ last_here byte text at (suc end) h (ap suc same) here
  | inr differ ↦
      last_before byte text end (suc end) h refl (later end (omega (arith, low, differ)) (omega arith))
      ∙ last_from byte text at end h (omega (arith, low, differ)) here (λ i more less. later i more (omega (arith, less)))
]

digit_there : (ds : List ℕ) (i : ℕ) → list_all is_digit ds ≡ true → i < length ds → is_digit (get_or ds i 0) ≡ true
digit_there [] i h l = absurd (omega (arith, l))
digit_there (d ∷ ds) zero h l = (both (is_digit d) (list_all is_digit ds) h).0
digit_there (d ∷ ds) (suc i) h l = digit_there ds i (both (is_digit d) (list_all is_digit ds) h).1 (omega (arith, l))

plain_digits : (chars : Chars) (ds : List ℕ) → ArePlainDigits chars → list_all is_digit ds ≡ true → list_all (is_itself chars) ds ≡ true
plain_digits chars [] p h = refl
plain_digits chars (d ∷ ds) p h =
    let k = both (is_digit d) (list_all is_digit ds) h in
    ap (λ b. b && list_all (is_itself chars) ds) (p d k.0).0 ∙ plain_digits chars ds p k.1

-- the byte that stands last in a text
last_is : (byte : ℕ) (text : List ℕ) (at : ℕ) → ((i : ℕ) → is_backslash (get_or text i 0) ≡ false) → last_bare byte text (length text) ≡ Some at → eqb (get_or text at 0) byte ≡ true
last_is byte text at h e = sym (bare_is byte text at h) ∙ (some_bare byte text (length text) at e).here

-- an owner, the delimiter and digits
pub prefix_names : (file : File) (net text leaf : List ℕ) (at : ℕ) → list_all (is_itself file.chars) text ≡ true → ArePlainDigits file.chars
    → last_bare file.chars.delimiter text (length text) ≡ Some at → at < length text → owner_in file (take at text) ≡ Some net → are_digits leaf ≡ true
    → node_in file (take (at + 1) text ++ leaf) ≡ Some (record { owner = net; leaf = leaf })
prefix_names file net text leaf at plain p last low owner digits =
    let front = take (at + 1) text in
    let whole = front ++ leaf in
    let ds = both (nat_lt 0 (length leaf)) (list_all is_digit leaf) digits in
    let count : length front ≡ at + 1 = omega (arith, length-take (at + 1) text, low, clamps) in
    let all : length whole ≡ at + 1 + length leaf = length-append front leaf ∙ ap (λ n. n + length leaf) count in
    let itself : list_all (is_itself file.chars) whole ≡ true =
    list_all-append (is_itself file.chars) front leaf ∙ (rw (all_take (is_itself file.chars) (at + 1) text plain) (plain_digits file.chars leaf p ds.1)) in
    let bare = unescaped file.chars whole itself in
    let here : eqb (get_or whole at 0) file.chars.delimiter ≡ true =
    ap (λ b. eqb b file.chars.delimiter) (get_or_append_left front leaf 0 at (omega (arith, count)) ∙ get_or-take text (at + 1) at 0 (omega arith))
    ∙ last_is file.chars.delimiter text at (unescaped file.chars text plain) last in
    let later : (i : ℕ) → at < i → i < length whole → eqb (get_or whole i 0) file.chars.delimiter ≡ false =
    λ i more less.
    ap (λ b. eqb b file.chars.delimiter) (get_or-append_right front leaf (at + 1) i 0 count (omega (arith, more)))
    ∙ (p (get_or leaf (i - (at + 1)) 0) (digit_there leaf (i - (at + 1)) ds.1 (omega (arith, more, less, all)))).1 in
    let split : leaf_at file.chars whole ≡ Some at = last_from file.chars.delimiter whole at (length whole) bare (omega (arith, all)) here later in
    let first : take at text ≡ take at whole = sym (take-append-le at front leaf (omega (arith, count)) ∙ take-take text at (at + 1) (omega arith)) in
    let rest : leaf ≡ drop (at + 1) whole = sym (ap (λ n. drop n whole) (sym count) ∙ drop-append_seam front leaf) in
    node_in-parts file whole (take at text) leaf at split first rest
    ∙ (rw (owner, canonical_plain file.chars leaf (plain_digits file.chars leaf p ds.1) (some leaf ds.0)) refl)
  where
    some : (xs : List ℕ) → nat_lt 0 (length xs) ≡ true → eqb (length xs) 0 ≡ false
    some xs e = grind (arith, nat_tests)

    take-take : (xs : List ℕ) (n m : ℕ) → n ≤ m → take n (take m xs) ≡ take n xs
    take-take xs zero m h = refl
    take-take xs (suc n) zero h = absurd (omega (arith, h))
    take-take [] (suc n) (suc m) h = refl
    take-take (x ∷ xs) (suc n) (suc m) h = ap (λ ys. x ∷ ys) (take-take xs n m (omega (arith, h)))

    get_or-take : (xs : List ℕ) (n i d : ℕ) → i < n → get_or (take n xs) i d ≡ get_or xs i d
    get_or-take xs zero i d h = absurd (omega (arith, h))
    get_or-take [] (suc n) i d h = refl
    get_or-take (x ∷ xs) (suc n) zero d h = refl
    get_or-take (x ∷ xs) (suc n) (suc i) d h = get_or-take xs n i d (omega (arith, h))
