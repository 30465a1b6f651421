-- Each identifier of nets is among those of its text.
use Rattle.std.proofs.Common.{◌≡◌, ℕ, Bool, true, false, not, cond, ◌||◌, ◌&&◌, List, [], ◌∷◌, ◌++◌, map, refl, sym, ap, ◌∙◌, subst, append_assoc}
use Rattle.std.specs.List.{All, list_any, position_or_len}
use Rattle.std.specs.Str.{bytes_eq}
use Rattle.std.proofs.lemmas.List.Elements.{All-cons, All-head, All-nil, All-tail, All-take}
use Rattle.std.proofs.lemmas.List.Folds.{list_any-append}
use Rattle.ver_syntax.specs.declared.row.Row.{Row}
use Rattle.ver_syntax.specs.Rows.{rows_of}
use Rattle.ver_syntax.specs.declared.row.Place.TheVariants.{Start}
use Rattle.ver_file.specs.Nets.{first_tokens, is_first}
use Rattle.ver_file.specs.Said.{identifiers_of}
use Rattle.ver_items.specs.Sections.{Section, is_net_name, items, name_at, sections, section_before, stands_in}
use Rattle.ver_file.proofs.ListLemmas.{bytes_same}
use Rattle.ver_file.proofs.TableLemmas.{new_token, old_token}

-- a name of nets is one of these
abbrev pub IsKnown : List ℕ → List (List ℕ) → Row → Type 0
IsKnown text names r = is_net_name r ≡ true → list_any (bytes_eq (name_at text r)) names ≡ true

in_last : (names : List (List ℕ)) (name : List ℕ) (more : List (List ℕ)) → list_any (bytes_eq name) (names ++ name ∷ more) ≡ true
in_last names name more =
    list_any-append (bytes_eq name) names (name ∷ more) ∙ ap (λ b. list_any (bytes_eq name) names || (b || list_any (bytes_eq name) more)) (bytes_same name)
    ∙ or_true (list_any (bytes_eq name) names)
  where
    or_true : (b : Bool) → (b || true) ≡ true
    or_true true = refl
    or_true false = refl

in_front : (names more : List (List ℕ)) (name : List ℕ) → list_any (bytes_eq name) names ≡ true → list_any (bytes_eq name) (names ++ more) ≡ true
in_front names more name t = list_any-append (bytes_eq name) names more ∙ rw t refl

known_after : (text : List ℕ) (names : List (List ℕ)) (rows : List Row)
    → All (IsKnown text (names ++ map (name_at text) (first_tokens text names rows))) rows
known_after text names [] = All-nil (IsKnown text (names ++ map (name_at text) (first_tokens text names [])))
known_after text names (r ∷ rows) =
    by_test (is_first text names r) refl (known_after text (names ++ name_at text r ∷ []) rows) (known_after text names rows)
  where
    old : (a b : Bool) → (a && not b) ≡ false → a ≡ true → b ≡ true
    old true true t s = refl
    old true false t s = absurd (cc)
    old false b t s = absurd (cc)

    by_test : (b : Bool) → is_first text names r ≡ b
        → All (IsKnown text ((names ++ name_at text r ∷ []) ++ map (name_at text) (first_tokens text (names ++ name_at text r ∷ []) rows))) rows
        → All (IsKnown text (names ++ map (name_at text) (first_tokens text names rows))) rows
        → All (IsKnown text (names ++ map (name_at text) (first_tokens text names (r ∷ rows)))) (r ∷ rows)
    by_test true t new same =
        let rest = first_tokens text (names ++ name_at text r ∷ []) rows in
        let e : (names ++ name_at text r ∷ []) ++ map (name_at text) rest ≡ names ++ map (name_at text) (first_tokens text names (r ∷ rows)) =
        append_assoc names (name_at text r ∷ []) (map (name_at text) rest) ∙ ap (λ ts. names ++ map (name_at text) ts) (sym (new_token text names r rows t)) in
        subst (λ (ns : List (List ℕ)). All (IsKnown text ns) (r ∷ rows)) e
        (All-cons (IsKnown text ((names ++ name_at text r ∷ []) ++ map (name_at text) rest)) r rows
        (λ s. in_front (names ++ name_at text r ∷ []) (map (name_at text) rest) (name_at text r) (in_last names (name_at text r) []))
        new)
    by_test false t new same =
        let e : names ++ map (name_at text) (first_tokens text names rows) ≡ names ++ map (name_at text) (first_tokens text names (r ∷ rows)) =
        ap (λ ts. names ++ map (name_at text) ts) (sym (old_token text names r rows t)) in
        subst (λ (ns : List (List ℕ)). All (IsKnown text ns) (r ∷ rows)) e
        (All-cons (IsKnown text (names ++ map (name_at text) (first_tokens text names rows))) r rows
        (λ s. in_front names (map (name_at text) (first_tokens text names rows)) (name_at text r) (old (is_net_name r) (list_any (bytes_eq (name_at text r)) names) t s))
        same)

pub known_rows : (text : List ℕ) → All (IsKnown text (identifiers_of text)) (rows_of text)
known_rows text = known_after text [] (rows_of text)

-- what holds of tokens holds of those of their sections
pub record Each (P : Row → Type 0) (s : Section) : Type 0 where
  pub head : P s.head
  pub body : All P s.body

pub each_section : (P : Row → Type 0) (begins : Row → Bool) (rows : List Row) → All P rows → All (Each P) (sections begins rows)
unfolding sections
each_section P begins [] a = All-nil (Each P)
each_section P begins (r ∷ rows) a = by_test (begins r) (each_section P begins rows (All-tail P r rows a))
  where
    by_test : (b : Bool) → All (Each P) (sections begins rows) → All (Each P) (cond b (section_before begins r rows ∷ sections begins rows) (sections begins rows))
    by_test true rest =
        All-cons (Each P) (section_before begins r rows) (sections begins rows)
        (record { head = All-head P r rows a; body = All-take P (position_or_len begins rows) rows (All-tail P r rows a) }) rest
    by_test false rest = rest

pub each_item : (P : Row → Type 0) (text : List ℕ) → All P (rows_of text) → All (Each P) (items text)
each_item P text a = each_section P (stands_in Start) (rows_of text) a
