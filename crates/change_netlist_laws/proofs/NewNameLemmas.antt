-- New names are simple identifiers, differ by their numbers, and are none that begins otherwise.
use Rattle.std.proofs.Common.{◌≡◌, ℕ, ◌<◌, ◌^◌, ◌==◌, ◌&&◌, ◌||◌, Bool, true, false, List, [], ◌∷◌, ◌++◌, codes, refl, sym, ap, ◌∙◌, arith, append_assoc, inl, inr}
use Rattle.std.specs.Fmt.{decimal}
use Rattle.std.specs.List.{list_all, starts_with}
use Rattle.std.specs.Cmp.Lexicographic.{pointwise}
use Rattle.std.specs.Str.{bytes_eq}
use Rattle.std.proofs.Math.Seq.{take-append_seam}
use Rattle.std.proofs.lemmas.Bool.{and_parts, cases_Bool, eq-eqb, false≢true}
use Rattle.std.proofs.lemmas.Bool.Decides.{nat_tests}
use Rattle.std.proofs.lemmas.Fmt.{decimal_injective}
use Rattle.std.proofs.lemmas.List.{append_cancel_left}
use Rattle.std.proofs.lemmas.List.Folds.{list_all-append}
use Rattle.vg_num.specs.Number.{are_digits, is_digit}
use Rattle.vg_num.proofs.ReadingLemmas.{are_some, decimal_writes}
use Rattle.ver_text.specs.Bytes.{is_word_byte}
use Rattle.ver_text.specs.Kinds.{word_kind}
use Rattle.ver_text.specs.declared.kind.Kind.TheVariants.{Identifier}
use Rattle.ver_text.specs.Names.{is_identifier, is_simple, is_word}
use Rattle.ver_file.proofs.ListLemmas.{bytes_are}
use Rattle.vg_split.specs.NewNames.{cell_name, net_name}

-- ---- no keyword ends as a new name does

-- a `u` or an `n`, and then digits, which end it
abbrev is_end : ℕ → List ℕ → Bool
is_end b bs = ((b == 117) || (b == 110)) && are_digits bs

unfoldable ends_new : List ℕ → Bool
ends_new [] = false
ends_new (b ∷ bs) = is_end b bs || ends_new bs

or_last : (a : Bool) → (a || true) ≡ true
or_last true = refl
or_last false = refl

new_ends : (prefix : List ℕ) (b : ℕ) (digits : List ℕ) → ((b == 117) || (b == 110)) ≡ true → are_digits digits ≡ true → ends_new (prefix ++ (b ∷ digits)) ≡ true
unfolding ends_new
new_ends [] b digits m e = rw (m, e) refl
new_ends (c ∷ prefix) b digits m e = ap (λ t. is_end c (prefix ++ (b ∷ digits)) || t) (new_ends prefix b digits m e) ∙ or_last (is_end c (prefix ++ (b ∷ digits)))

no_word : (name word : List ℕ) → ends_new name ≡ true → ends_new word ≡ false → bytes_eq name word ≡ false
no_word name word e f = elim (cases_Bool (bytes_eq name word)) [
  | inl same ↦ absurd (false≢true (sym f ∙ ap ends_new (sym (bytes_are name word same)) ∙ e))
  | inr other ↦ other
]

no_keyword : (name : List ℕ) → ends_new name ≡ true → word_kind name ≡ Identifier
unfolding ends_new
no_keyword name e =
    let a = no_word name (codes "input") e refl in
    let b = no_word name (codes "output") e refl in
    let c = no_word name (codes "inout") e refl in
    let d = no_word name (codes "wire") e refl in
    let f = no_word name (codes "tri") e refl in
    let g = no_word name (codes "supply0") e refl in
    let h = no_word name (codes "supply1") e refl in
    let i = no_word name (codes "assign") e refl in
    let j = no_word name (codes "module") e refl in
    let k = no_word name (codes "endmodule") e refl in
    let l = no_word name (codes "parameter") e refl in
    let m = no_word name (codes "defparam") e refl in
    rw (a, b, c, d, f, g, h, i, j, k, l, m) refl

-- ---- new names are simple identifiers

digit_word : (b : ℕ) → is_digit b ≡ true → is_word_byte b ≡ true
digit_word b e = grind (arith, nat_tests)

digits_word : (bs : List ℕ) → list_all is_digit bs ≡ true → list_all is_word_byte bs ≡ true
digits_word [] e = refl
digits_word (b ∷ bs) e =
    let (first, rest) = and_parts (is_digit b) (list_all is_digit bs) e in
    rw (digit_word b first, digits_word bs rest) refl

word_more : (prefix rest : List ℕ) → is_word prefix ≡ true → list_all is_word_byte rest ≡ true → is_word (prefix ++ rest) ≡ true
word_more [] rest e f = absurd (cc)
word_more (b ∷ bs) rest e f =
    let (first, more) = and_parts _ (list_all is_word_byte bs) e in
    (λ i. first i && list_all-append is_word_byte bs rest i) ∙ rw (more, f) refl

new_simple : (prefix : List ℕ) (b n : ℕ) → is_word prefix ≡ true → ((b == 117) || (b == 110)) ≡ true → is_word_byte b ≡ true → n < 2 ^ 64
    → is_simple (prefix ++ (b ∷ decimal n)) ≡ true
new_simple prefix b n word mark byte few =
    let w = decimal_writes n (omega (arith, few)) in
    let kind = no_keyword (prefix ++ (b ∷ decimal n)) (new_ends prefix b (decimal n) mark (are_some (decimal n) w.some w.all)) in
    let all : list_all is_word_byte (b ∷ decimal n) ≡ true = rw (byte, digits_word (decimal n) w.all) refl in
    (λ i. word_more prefix (b ∷ decimal n) word all i && is_identifier (kind i))

cell_is : (prefix : List ℕ) (n : ℕ) → cell_name prefix n ≡ prefix ++ (117 ∷ decimal n)
cell_is prefix n = append_assoc prefix (codes "u") (decimal n)

net_is : (prefix : List ℕ) (n : ℕ) → net_name prefix n ≡ prefix ++ (110 ∷ decimal n)
net_is prefix n = append_assoc prefix (codes "n") (decimal n)

pub cell_simple : (prefix : List ℕ) (n : ℕ) → is_word prefix ≡ true → n < 2 ^ 64 → is_simple (cell_name prefix n) ≡ true
cell_simple prefix n word few = ap is_simple (cell_is prefix n) ∙ new_simple prefix 117 n word refl refl few

pub net_simple : (prefix : List ℕ) (n : ℕ) → is_word prefix ≡ true → n < 2 ^ 64 → is_simple (net_name prefix n) ≡ true
net_simple prefix n word few = ap is_simple (net_is prefix n) ∙ new_simple prefix 110 n word refl refl few

-- ---- they differ

pub one_net : (prefix : List ℕ) (m n : ℕ) → m < 2 ^ 64 → n < 2 ^ 64 → net_name prefix m ≡ net_name prefix n → m ≡ n
one_net prefix m n m_fits n_fits e = decimal_injective m n m_fits n_fits (append_cancel_left (prefix ++ codes "n") (decimal m) (decimal n) e)

same_bytes : (bytes : List ℕ) → pointwise ◌==◌ bytes bytes ≡ true
same_bytes [] = refl
same_bytes (b ∷ bytes) = ap (λ t. t && pointwise ◌==◌ bytes bytes) (eq-eqb b b refl) ∙ same_bytes bytes

begins_so : (prefix rest : List ℕ) → starts_with ◌==◌ (prefix ++ rest) prefix ≡ true
begins_so prefix rest = ap (λ front. pointwise ◌==◌ prefix front) (take-append_seam prefix rest) ∙ same_bytes prefix

-- a new net's name with more behind it begins so too
pub net_begins : (prefix : List ℕ) (n : ℕ) (more : List ℕ) → starts_with ◌==◌ (net_name prefix n ++ more) prefix ≡ true
net_begins prefix n more =
    ap (λ name. starts_with ◌==◌ (name ++ more) prefix) (net_is prefix n)
    ∙ ap (λ name. starts_with ◌==◌ name prefix) (append_assoc prefix (110 ∷ decimal n) more) ∙ begins_so prefix ((110 ∷ decimal n) ++ more)
