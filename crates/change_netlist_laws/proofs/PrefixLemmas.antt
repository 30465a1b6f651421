-- What callers know: a prefix is a word, and each net that is put is split.
use Rattle.std.proofs.Common.{◌≡◌, ℕ, ◌&&◌, true, List, [], ◌∷◌, ◌++◌, sym, ap, subst, refl, inl, inr, arith}
use Rattle.std.specs.Prelude.{nat_le}
use Rattle.std.specs.List.{list_all}
use Rattle.std.proofs.lemmas.Bool.{and_parts}
use Rattle.std.proofs.lemmas.Bool.Decides.{nat_tests}
use Rattle.ver_patch_laws.proofs.RelinkedLemmas.{In}
use Rattle.ver_patch_laws.proofs.SetLemmas.{contains_in}
use Rattle.ver_text.specs.Bytes.{is_letter, is_word_byte}
use Rattle.vg_change.specs.Changes.{Changes, HasPut, HavePut, nothing, split_behind}
use Rattle.vg_change.specs.Placed.{PlacedNet}
use Rattle.vg_scan.specs.Prefixes.{is_letter as is_prefix_letter, is_name_byte}
use Rattle.change_netlist_laws.specs.Laws.{NetsAreSplit, PrefixesAreWords}

letter : (b : ℕ) → is_prefix_letter b ≡ true → is_letter b ≡ true
letter b e = grind (arith, nat_tests)

name_byte : (b : ℕ) → is_name_byte b ≡ true → is_word_byte b ≡ true
name_byte b e = grind (arith, nat_tests)

name_bytes : (bs : List ℕ) → list_all is_name_byte bs ≡ true → list_all is_word_byte bs ≡ true
name_bytes [] e = refl
name_bytes (b ∷ bs) e = let (first, rest) = and_parts (is_name_byte b) (list_all is_name_byte bs) e in λ i. name_byte b first i && name_bytes bs rest i

pub prefixes_are_words : PrefixesAreWords
prefixes_are_words [] e = absurd (cc)
prefixes_are_words (b ∷ bs) e =
    let (few, rest) = and_parts (nat_le _ 31) (is_prefix_letter b && list_all is_name_byte bs) e in
    let (first, more) = and_parts (is_prefix_letter b) (list_all is_name_byte bs) rest in
    λ i. letter b first i && name_bytes bs more i

-- how one of several nets is put
record IsPutFrom (old : Changes) (nets : List PlacedNet) (c : Changes) (p : PlacedNet) : Type 0 where
  before : List PlacedNet
  after : List PlacedNet
  all : nets ≡ before ++ p ∷ after
  mid : Changes
  next : Changes
  were : HavePut old before mid
  has : HasPut mid p next
  more : HavePut next after c

put_from : (nets : List PlacedNet) (old c : Changes) (p : PlacedNet) → HavePut old nets c → In p nets → IsPutFrom old nets c p
put_from [] old c p h i = absurd i
put_from (q ∷ nets) old c p (mid, has, more) (inl e) = record {
  before = [];
  after = nets;
  all = ap (λ r. r ∷ nets) (sym e);
  mid = old;
  next = mid;
  were = refl;
  has = subst (λ r. HasPut old r mid) (sym e) has;
  more = more;
}
put_from (q ∷ nets) old c p (mid, has, more) (inr i) =
    let f = put_from nets mid c p more i in
    record { before = q ∷ f.before; after = f.after; all = ap (λ rs. q ∷ rs) f.all; mid = f.mid; next = f.next; were = (mid, has, f.were); has = f.has; more = f.more }

pub nets_are_split : NetsAreSplit
nets_are_split d prefix nets c p put there =
    let f = put_from nets (nothing d prefix) c p put (contains_in nets p there) in (
      split_behind f.mid p,
      record { before = f.before; after = f.after; all = f.all; mid = f.mid; next = f.next; were = f.were; has = f.has; more = f.more; is = refl },
    )
