-- Names that are given twice.
use Rattle.std.proofs.Common.{◌≡◌, ℕ, ◌<◌, nat_eq, Bool, true, false, not, List, [], ◌∷◌, ◌++◌, length, Option, refl, sym, ap, ◌∙◌, arith, map}
use Rattle.std.specs.List.{list_any}
use Rattle.std.specs.Str.{bytes_eq}
use Rattle.std.proofs.lemmas.Bool.Decides.{nat_tests}
use Rattle.std.proofs.lemmas.List.{append-nil}
use Rattle.std.proofs.lemmas.List.Sums.{fold-append}
use Rattle.name_tables.specs.Distinct.{number_in, with_name}
use Rattle.ver_module.proofs.NameLemmas.{past, there, with_new, with_old}
use Rattle.ver_file.specs.Firsts.{earlier, first_of, named_at}
use Rattle.ver_file.specs.Flaws.{Named, named, repeated, unless}
use Rattle.ver_items.specs.Sections.{Section, name_at}

pub one_repeated : (names : List (List ℕ)) (n : Named) → repeated names (n ∷ []) ≡ unless (not (list_any (bytes_eq n.name) names)) n.place
unfolding repeated
one_repeated names n = append-nil (unless (not (list_any (bytes_eq n.name) names)) n.place)

pub first_append : (first : Option ℕ) (xs ys : List ℕ) → first_of first (xs ++ ys) ≡ first_of (first_of first xs) ys
first_append first xs ys = fold-append earlier first xs ys

pub none_repeated : (names : List (List ℕ)) → repeated names [] ≡ []
unfolding repeated
none_repeated names = refl

pub next_repeated : (names : List (List ℕ)) (n : Named) (ns : List Named)
    → repeated names (n ∷ ns) ≡ unless (not (list_any (bytes_eq n.name) names)) n.place ++ repeated (with_name names n.name) ns
unfolding repeated
next_repeated names n ns = refl

module _ (text : List ℕ) (first : Option ℕ) (names : List (List ℕ)) where
  -- the first of the repeated names of some sections, one after another
  pub next_section : (s : Section) (all rest : List Section) → all ≡ s ∷ rest
      → first_of first (repeated names (map (named text) all))
      ≡ first_of (first_of first (repeated names (named_at text s.head ∷ []))) (repeated (with_name names (name_at text s.head)) (map (named text) rest))
  next_section s all rest e =
      ap (λ ss. first_of first (repeated names (map (named text) ss))) e
      ∙ ap (first_of first) (next_repeated names (named text s) (map (named text) rest))
      ∙ first_append first (unless (not (list_any (bytes_eq (name_at text s.head)) names)) s.head.from) (repeated (with_name names (name_at text s.head)) (map (named text) rest))
      ∙ ap (λ xs. first_of (first_of first xs) (repeated (with_name names (name_at text s.head)) (map (named text) rest))) (sym (one_repeated names (named_at text s.head)))

  pub no_section : (all : List Section) → all ≡ [] → first_of first (repeated names (map (named text) all)) ≡ first
  no_section all e = ap (λ ss. first_of first (repeated names (map (named text) ss))) e ∙ ap (first_of first) (none_repeated names)

-- ---- names by their numbers

-- the number of a name is the next one where it is none of them
pub is_next : (names : List (List ℕ)) (name : List ℕ) → nat_eq (number_in names name) (length names) ≡ not (list_any (bytes_eq name) names)
is_next names name = by_test (list_any (bytes_eq name) names) refl
  where
    by_test : (b : Bool) → list_any (bytes_eq name) names ≡ b → nat_eq (number_in names name) (length names) ≡ not b
    by_test true t = let h = there names name t in let low : number_in names name < length names = h.0 in grind (arith, nat_tests, low)
    by_test false t = let e : number_in names name ≡ length names = past names name t in grind (arith, nat_tests, e)

not_any : (b : Bool) → not b ≡ true → b ≡ false
not_any true t = absurd (cc)
not_any false t = refl

any : (b : Bool) → not b ≡ false → b ≡ true
any true t = refl
any false t = absurd (cc)

-- a name that is new, and one that is known
pub put_new : (names : List (List ℕ)) (name : List ℕ) → not (list_any (bytes_eq name) names) ≡ true → with_name names name ≡ names ++ name ∷ []
put_new names name t = with_new names name (not_any (list_any (bytes_eq name) names) t)

pub put_old : (names : List (List ℕ)) (name : List ℕ) → not (list_any (bytes_eq name) names) ≡ false → with_name names name ≡ names
put_old names name t = with_old names name (any (list_any (bytes_eq name) names) t)
