-- Each line that is written has words alone.
use Rattle.std.proofs.Common.{◌≡◌, ℕ, suc, ◌<◌, ◌≤◌, ◌^◌, Bool, true, false, List, [], ◌∷◌, ◌++◌, length, get_or, refl, sym, ap, ◌∙◌, subst, arith, ℤ, pos, negsuc, unsigned_abs, Ok, append_assoc}
use Rattle.std.specs.Fmt.{decimal, signed_decimal}
use Rattle.std.specs.List.{All, list_any, list_all}
use Rattle.std.proofs.lemmas.Bool.{and_parts}
use Rattle.std.proofs.lemmas.Int.{ints}
use Rattle.std.proofs.lemmas.List.{get_or-map}
use Rattle.std.proofs.lemmas.List.Folds.{list_any-append}
use Rattle.vg_num.specs.Number.{is_digit, whole_of}
use Rattle.vg_num.proofs.ReadingLemmas.{decimal_writes, no_sign, whole_reads}
use Rattle.vg_scan.specs.declared.name.NodeName.{NodeName}
use Rattle.vg_cert.specs.Fits.{IsTime}
use Rattle.vg_cert.specs.Lines.{is_empty}
use Rattle.vg_cert.specs.Names.{IsWord, IsNodeWord, is_gap, is_marked, marks, escaped, leaf_text, node_text, text_of_node}
use Rattle.vg_cert.proofs.TextLemmas.{or_both, or_parts}
use Rattle.vg_cert.proofs.WordLemmas.{not_empty}
use Rattle.vg_cert.proofs.FoundLemmas.{no_node}

-- numbers

digit_solid : (b : ℕ) → is_digit b ≡ true → is_gap b ≡ false
digit_solid b e =
    let space = no_sign b 32 e (omega arith) in
    let tab = no_sign b 9 e (omega arith) in
    let end = no_sign b 10 e (omega arith) in
    rw (space, tab, end) refl

digits_solid : (ds : List ℕ) → list_all is_digit ds ≡ true → list_any is_gap ds ≡ false
digits_solid [] e = refl
digits_solid (d ∷ ds) e =
    let k = and_parts (is_digit d) (list_all is_digit ds) e in
    or_both (is_gap d) (list_any is_gap ds) (digit_solid d k.0) (digits_solid ds k.1)

pub decimal_word : (n : ℕ) → n ≤ 10 ^ 26 → IsWord (decimal n)
decimal_word n l =
    let w = decimal_writes n (omega (arith, l)) in
    record { some = not_empty (decimal n) w.some; solid = digits_solid (decimal n) w.all }

pub size_of : (z : ℤ) → IsTime z → unsigned_abs z ≤ 10 ^ 26
size_of (pos n) t = omega (arith, ints, t.high)
size_of (negsuc n) t = omega (arith, ints, t.low)

pub signed_word : (z : ℤ) → IsTime z → IsWord (signed_decimal z)
signed_word (pos n) t = decimal_word n (size_of (pos n) t)
signed_word (negsuc n) t =
    let w = decimal_word (suc n) (size_of (negsuc n) t) in
    record { some = not_empty (45 ∷ decimal (suc n)) (omega arith); solid = w.solid }

pub signed_reads : (z : ℤ) → IsTime z → whole_of (signed_decimal z) ≡ Ok z
signed_reads z t = whole_reads z (size_of z t)

pub decimal_reads : (n : ℕ) → n ≤ 10 ^ 26 → whole_of (decimal n) ≡ Ok (pos n)
decimal_reads n l = whole_reads (pos n) l

-- names

marks_solid : (b : ℕ) (t : Bool) → is_marked b ≡ t → is_gap b ≡ false → list_any is_gap (marks b) ≡ false
marks_solid b true m e = rw (m, e) refl
marks_solid b false m e = rw (m, e) refl

escaped_solid : (name : List ℕ) → list_any is_gap name ≡ false → list_any is_gap (escaped name) ≡ false
unfolding escaped
escaped_solid [] e = refl
escaped_solid (b ∷ bs) e =
    let k = or_parts (is_gap b) (list_any is_gap bs) e in
    list_any-append is_gap (marks b) (escaped bs) ∙ or_both (list_any is_gap (marks b)) (list_any is_gap (escaped bs)) (marks_solid b (is_marked b) refl k.0) (escaped_solid bs k.1)

leaf_solid : (leaf : List ℕ) (none : Bool) → is_empty leaf ≡ none → list_any is_gap leaf ≡ false → list_any is_gap (leaf_text leaf) ≡ false
leaf_solid leaf true n e = rw n refl
leaf_solid leaf false n e = rw n (escaped_solid leaf e)

marks_some : (b : ℕ) (t : Bool) (rest : List ℕ) → is_marked b ≡ t → is_empty (marks b ++ rest) ≡ false
marks_some b true rest m = rw m (not_empty (92 ∷ b ∷ rest) (omega arith))
marks_some b false rest m = rw m (not_empty (b ∷ rest) (omega arith))

node_some : (owner rest : List ℕ) → is_empty owner ≡ false → is_empty (escaped owner ++ rest) ≡ false
unfolding escaped
node_some [] rest e = absurd (cc)
node_some (b ∷ bs) rest e =
    ap is_empty (append_assoc (marks b) (escaped bs) rest) ∙ marks_some b (is_marked b) (escaped bs ++ rest) refl

pub node_word : (node : NodeName) → IsNodeWord node → IsWord (node_text node)
unfolding node_text
node_word node w = record {
  some = node_some node.owner (leaf_text node.leaf) w.owner.some;
  solid = list_any-append is_gap (escaped node.owner) (leaf_text node.leaf)
      ∙ or_both (list_any is_gap (escaped node.owner)) (list_any is_gap (leaf_text node.leaf)) (escaped_solid node.owner w.owner.solid) (leaf_solid node.leaf (is_empty node.leaf) refl w.leaf);
}

pub node_at_word : (nodes : List NodeName) (v : ℕ) → All IsNodeWord nodes → v < length nodes → IsWord (text_of_node nodes v)
node_at_word nodes v all l = subst IsWord (sym (get_or-map node_text nodes v no_node [] l)) (node_word (get_or nodes v no_node) (all v no_node l))
