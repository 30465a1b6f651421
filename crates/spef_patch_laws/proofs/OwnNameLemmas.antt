-- Written nets that have the names of their sections, or new ones.
use Rattle.std.proofs.Common.{◌≡◌, ℕ, zero, suc, ◌+◌, ◌<◌, ◌≤◌, inl, inr, Bool, true, false, List, [], ◌∷◌, get_or, refl, sym, ap, ◌∙◌, arith, subst, Some, All}
use Rattle.std.proofs.lemmas.List.{map-append}
use Rattle.std.proofs.lemmas.List.Elements.{All-head, All-tail, All-contains, Contains-get_or}
use Rattle.std.proofs.lemmas.Option.{same_Some, slice_get-map}
use Rattle.std.specs.Prelude.{option_map}
use Rattle.std.specs.List.{AllPairs, Contains, slice_get}
use Rattle.name_tables.specs.Distinct.{AreNew}
use Rattle.spef_file.specs.declared.spef_index.SpefIndex.{SpefIndex}
use Rattle.spef_file.specs.Indexes.{IsIndexOf}
use Rattle.spef_file.specs.IndexFiles.{file_of}
use Rattle.spef_file.specs.Tables.{NetRow, is_section, names_of as row_names}
use Rattle.spef_net.specs.declared.net.ParNet.{ParNet}
use Rattle.spef_patch_laws.specs.Replacements.{Replacement, IsReplacement, NumbersRise}
use Rattle.spef_patch_laws.specs.ReplacementLaws.{names_in, written_nets, written_names, replaced_names, OwnNamesAreFree}
use Rattle.spef_patch_laws.proofs.ApartLemmas.{In, Apart, in_one, in_map, from_map, in_contains, contains_in, apart_both, new_apart, apart_new}
use Rattle.spef_patch_laws.proofs.NamedLemmas.{names_apart}
use Rattle.spef_patch_laws.proofs.ReplacedLemmas.{names_rows}

-- ---- rows

at_in : {A : Type 0} (xs : List A) (k : ℕ) (x : A) → slice_get xs k ≡ Some x → In x xs
at_in [] k x e = absurd (cc)
at_in (y ∷ xs) zero x e = inl (sym (same_Some y x e))
at_in (y ∷ xs) (suc k) x e = inr (at_in xs k x e)

-- an item stands at one place
never_both : {A : Type 0} (xs : List A) (j k : ℕ) (x : A) → Apart xs → slice_get xs j ≡ Some x → slice_get xs k ≡ Some x → j < k → ⊥
never_both [] j k x h e f l = absurd (cc)
never_both (y ∷ xs) j zero x h e f l = absurd (omega arith)
never_both (y ∷ xs) zero (suc k) x h e f l = h.0 (subst (λ z. In z xs) (sym (same_Some y x e)) (at_in xs k x f))
never_both (y ∷ xs) (suc j) (suc k) x h e f l = never_both xs j k x h.1 e f (omega arith)

rows_apart : (text : List ℕ) (index : SpefIndex) → IsIndexOf text index → Apart (row_names index.sections)
rows_apart text index is = subst Apart (names_rows index.sections) (names_apart text (file_of index) is.said)

name_at : (rows : List NetRow) (k : ℕ) (row : NetRow) → slice_get rows k ≡ Some row → slice_get (row_names rows) k ≡ Some row.0
name_at rows k row e = slice_get-map (λ (r : NetRow). r.0) rows k ∙ ap (option_map (λ (r : NetRow). r.0)) e

-- ---- replacements

behind : (low : ℕ) (rs : List Replacement) (r : Replacement) → NumbersRise low rs → In r rs → low ≤ r.number
behind low (x ∷ rs) r rise (inl e) = (let n = ap (λ (y : Replacement). y.number) e in omega (arith, n, rise.0))
behind low (x ∷ rs) r rise (inr h) = (let n = behind (x.number + 1) rs r rise.1 h in omega (arith, n, rise.0))
behind low [] r rise h = absurd h

all_in : {A : Type 0} (P : A → Type 0) (xs : List A) (x : A) → All P xs → In x xs → P x
all_in P xs x h there = All-contains P xs x h (in_contains x xs there)

-- the net of a name in place of a section
net_of : (r : Replacement) (name : List ℕ) → In name (names_in r) → (net : ParNet) × In net r.nets × (net.name ≡ name)
net_of r name h = from_map (λ (net : ParNet). net.name) name r.nets h

-- a written name is that of a net in place of some section
from_written : (rs : List Replacement) (name : List ℕ) → In name (written_names rs) → (r : Replacement) × In r rs × In name (names_in r)
from_written [] name h = absurd h
from_written (r ∷ rs) name h =
    elim (in_one name (names_in r) (written_names rs) (subst (In name) (map-append (λ (net : ParNet). net.name) r.nets (written_nets rs)) h)) as (λ _. (s : Replacement) × In s (r ∷ rs) × In name (names_in s)) [
      | inl here ↦ (r, inl refl, here)
      | inr later ↦ (let (s, there, named) = from_written rs name later in (s, inr there, named))
    ]

pairs_head : (R : Replacement → Replacement → Type 0) (r : Replacement) (rs : List Replacement) (s : Replacement) → AllPairs R (r ∷ rs) → In s rs → R r s
pairs_head R r rs s h there =
    let (k, l, e) = in_contains s rs there in
    subst (R r) e (h 0 (suc k) s (omega arith) (omega (arith, l)))

pairs_tail : (R : Replacement → Replacement → Type 0) (r : Replacement) (rs : List Replacement) → AllPairs R (r ∷ rs) → AllPairs R rs
pairs_tail R r rs h = λ j k d l m. h (suc j) (suc k) d (omega (arith, l)) (omega (arith, m))

-- what is asked of one section, and of two
abbrev IsOwn : SpefIndex → List ℕ → ParNet → Type 0
IsOwn index name net = is_section index.sections net.name ≡ true → net.name ≡ name

abbrev AreOwn : SpefIndex → Replacement → Type 0
AreOwn index r = All (IsOwn index r.row.0) r.nets

abbrev AreInside : Replacement → Type 0
AreInside r = AreNew [] (names_in r)

abbrev IsBetween : SpefIndex → Replacement → List ℕ → Type 0
IsBetween index other name = is_section index.sections name ≡ false → Contains (names_in other) name → ⊥

abbrev AreBetween : SpefIndex → Replacement → Replacement → Type 0
AreBetween index r other = All (IsBetween index other) (names_in r)

module _ (text : List ℕ) (index : SpefIndex) (is : IsIndexOf text index) where
  -- two sections have different names
  other_row : (r s : Replacement) → IsReplacement index r → IsReplacement index s → r.number < s.number → r.row.0 ≡ s.row.0 → ⊥
  other_row r s p q l e =
      never_both (row_names index.sections) r.number s.number r.row.0 (rows_apart text index is)
      (name_at index.sections r.number r.row p.at) (name_at index.sections s.number s.row q.at ∙ ap (λ n. Some n) (sym e)) l

  -- and so have the nets in place of one and those in place of a later one
  never_same : (r s : Replacement) → IsReplacement index r → IsReplacement index s → r.number < s.number → AreOwn index r → AreOwn index s → AreBetween index r s
      → (name : List ℕ) (t : Bool) → is_section index.sections name ≡ t → In name (names_in r) → In name (names_in s) → ⊥
  never_same r s p q l own_r own_s between name true e a b =
      let (net, in_r, f) = net_of r name a in
      let (other, in_s, g) = net_of s name b in
      let one = all_in (IsOwn index r.row.0) r.nets net own_r in_r (ap (is_section index.sections) f ∙ e) in
      let two = all_in (IsOwn index s.row.0) s.nets other own_s in_s (ap (is_section index.sections) g ∙ e) in
      other_row r s p q l (sym one ∙ f ∙ sym g ∙ two)
  never_same r s p q l own_r own_s between name false e a b = all_in (IsBetween index s) (names_in r) name between a e (in_contains name (names_in s) b)

  all_names_apart : (low : ℕ) (rs : List Replacement) → NumbersRise low rs → All (IsReplacement index) rs → All (AreOwn index) rs → All AreInside rs → AllPairs (AreBetween index) rs
      → Apart (written_names rs)
  all_names_apart low [] rise each own inside between = tt
  all_names_apart low (r ∷ rs) rise each own inside between =
      subst Apart (sym (map-append (λ (net : ParNet). net.name) r.nets (written_nets rs)))
      (apart_both (names_in r) (written_names rs) (new_apart [] (names_in r) (All-head AreInside r rs inside)).0
      (all_names_apart (r.number + 1) rs rise.1 (All-tail (IsReplacement index) r rs each) (All-tail (AreOwn index) r rs own) (All-tail AreInside r rs inside) (pairs_tail (AreBetween index) r rs between))
      (λ name a b.
      let (s, there, named) = from_written rs name b in
      let low = behind (r.number + 1) rs s rise.1 there in
      never_same r s (All-head (IsReplacement index) r rs each) (all_in (IsReplacement index) (r ∷ rs) s each (inr there)) (omega (arith, low))
      (All-head (AreOwn index) r rs own) (all_in (AreOwn index) (r ∷ rs) s own (inr there)) (pairs_head (AreBetween index) r rs s between there)
      name (is_section index.sections name) refl a named))

pub own_names : OwnNamesAreFree
own_names text index rs is are names = record {
  apart = apart_new [] (written_names rs) (all_names_apart text index is 0 rs are.rise are.each names.own names.inside names.between) (λ x a b. a);
  free = λ k d l section.
      let name = get_or (written_names rs) k d in
      let (r, there, named) = from_written rs name (contains_in name (written_names rs) (Contains-get_or (written_names rs) k d l)) in
      let (net, in_r, e) = net_of r name named in
      let own = all_in (IsOwn index r.row.0) r.nets net (all_in (AreOwn index) rs r names.own there) in_r (ap (is_section index.sections) e ∙ section) in
      in_contains name (replaced_names rs) (subst (λ n. In n (replaced_names rs)) (sym own ∙ e) (in_map (λ (x : Replacement). x.row.0) r rs there));
}
