-- Each token of a text stands in an item, and each identifier of nets is that of a token.
use Rattle.std.proofs.Common.{◌≡◌, ℕ, Bool, true, false, not, List, [], ◌∷◌, ◌++◌, refl, sym, ap, ◌∙◌, subst, ◌⊎◌, inl, inr}
use Rattle.std.specs.List.{before_first, list_any}
use Rattle.std.specs.Str.{bytes_eq}
use Rattle.std.proofs.lemmas.Bool.{and_parts}
use Rattle.ver_text.specs.declared.token.Token.{Token}
use Rattle.ver_text.specs.Tokens.{tokens_of}
use Rattle.ver_syntax.specs.declared.row.Place.TheVariants.{Start}
use Rattle.ver_syntax.specs.declared.row.Row.{Row}
use Rattle.ver_syntax.specs.Rows.{rows_from, rows_of}
use Rattle.ver_items.specs.Sections.{Section, is_net_name, items, name_at, section_before, sections, stands_in}
use Rattle.ver_file.specs.Nets.{first_tokens, is_first, tokens_of_nets}
use Rattle.ver_file.specs.Said.{identifiers_of}
use Rattle.ver_file.proofs.TableLemmas.{new_token, no_token, old_token}
use Rattle.ver_patch.proofs.StandLemmas.{before_others, sections_by}
use Rattle.ver_patch_text_laws.proofs.SectionLemmas.{Next}
use Rattle.ver_patch_laws.proofs.RelinkedLemmas.{In}
use Rattle.ver_patch_laws.proofs.SetLemmas.{in_mapped}

-- ---- tokens

-- a section has this token
pub record HasRow (ss : List Section) (q : Row) : Type 0 where
  pub section : Section
  pub among : In section ss
  pub own : (q ≡ section.head) ⊎ In q section.body

cover : (test : Row → Bool) (rows : List Row) (q : Row) → In q rows → In q (before_first test rows) ⊎ HasRow (sections test rows) q
cover test [] q i = absurd i
cover test (r ∷ rows) q i = by_test (test r) refl i (cover test rows q)
  where
    by_test : (b : Bool) → test r ≡ b → In q (r ∷ rows) → (In q rows → In q (before_first test rows) ⊎ HasRow (sections test rows) q)
        → In q (before_first test (r ∷ rows)) ⊎ HasRow (sections test (r ∷ rows)) q
    by_test true t (inl e) more =
        inr (record { section = section_before test r rows; among = subst (In (section_before test r rows)) (sym (sections_by test r rows true t)) (inl refl); own = inl e })
    by_test true t (inr j) more =
        elim (more j) [
          | inl k ↦ inr (record {
            section = section_before test r rows;
            among = subst (In (section_before test r rows)) (sym (sections_by test r rows true t)) (inl refl);
            own = inr k;
          })
          | inr h ↦ inr (record { section = h.section; among = subst (In h.section) (sym (sections_by test r rows true t)) (inr h.among); own = h.own })
        ]
    by_test false t (inl e) more = inl (subst (In q) (sym (before_others test r rows false t)) (inl e))
    by_test false t (inr j) more =
        elim (more j) [
          | inl k ↦ inl (subst (In q) (sym (before_others test r rows false t)) (inr k))
          | inr h ↦ inr (record { section = h.section; among = subst (In h.section) (sym (sections_by test r rows false t)) h.among; own = h.own })
        ]

first_starts : (text : List ℕ) (ts : List Token) → Next (stands_in Start) (rows_from text Start ts)
unfolding rows_from
first_starts text [] = tt
first_starts text (t ∷ ts) = refl

none_before : (test : Row → Bool) (rows : List Row) → Next test rows → before_first test rows ≡ []
none_before test [] h = refl
none_before test (r ∷ rows) h = before_others test r rows true h

pub row_in : (text : List ℕ) (q : Row) → In q (rows_of text) → HasRow (items text) q
row_in text q i =
    elim (cover (stands_in Start) (rows_of text) q i) [
      | inl j ↦ absurd (subst (In q) (none_before (stands_in Start) (rows_of text) (first_starts text (tokens_of text))) j)
      | inr h ↦ h
    ]

-- ---- identifiers

pub first_row : (text : List ℕ) (names : List (List ℕ)) (rows : List Row) (q : Row) → In q (first_tokens text names rows) → In q rows × (is_net_name q ≡ true)
first_row text names [] q i = absurd (subst (In q) (no_token text names) i)
first_row text names (r ∷ rows) q i = by_test (is_first text names r) refl (first_row text (names ++ name_at text r ∷ []) rows q) (first_row text names rows q)
  where
    more : In q rows × (is_net_name q ≡ true) → In q (r ∷ rows) × (is_net_name q ≡ true)
    more h = (inr h.0, h.1)

    by_test : (b : Bool) → is_first text names r ≡ b
        → (In q (first_tokens text (names ++ name_at text r ∷ []) rows) → In q rows × (is_net_name q ≡ true))
        → (In q (first_tokens text names rows) → In q rows × (is_net_name q ≡ true)) → In q (r ∷ rows) × (is_net_name q ≡ true)
    by_test true t new old =
        elim (subst (In q) (new_token text names r rows t) i) [
          | inl e ↦ (inl e, ap is_net_name e ∙ (and_parts (is_net_name r) (not (list_any (bytes_eq (name_at text r)) names)) t).0)
          | inr j ↦ more (new j)
        ]
    by_test false t new old = more (old (subst (In q) (old_token text names r rows t) i))

-- an identifier of nets stands somewhere
pub record IsSomewhere (text : List ℕ) (name : List ℕ) : Type 0 where
  pub row : Row
  pub among : In row (rows_of text)
  pub net : is_net_name row ≡ true
  pub named : name ≡ name_at text row

pub identifier_row : (text : List ℕ) (name : List ℕ) → In name (identifiers_of text) → IsSomewhere text name
identifier_row text name i =
    let (r, j, e) = in_mapped (name_at text) (tokens_of_nets text) name i in
    let (k, net) = first_row text [] (rows_of text) r j in
    record { row = r; among = k; net = net; named = e }
