-- The links of a text by names, and those of its netlist.
use Rattle.std.proofs.Common.{◌≡◌, ℕ, Bool, true, false, cond, List, [], ◌∷◌, ◌++◌, map, Option, Some, None, refl, sym, ap, ◌∙◌, subst, inl}
use Rattle.std.specs.List.{flat_map}
use Rattle.std.proofs.lemmas.Bool.{and_parts}
use Rattle.std.proofs.lemmas.List.{map-append}
use Rattle.std.proofs.lemmas.Option.{get_or_from_slice_get}
use Rattle.ver_syntax.specs.declared.row.Row.{Row}
use Rattle.ver_module.specs.declared.range.Range.{Range}
use Rattle.ver_items.specs.declared.bits.Select.{Select}
use Rattle.ver_items.specs.declared.bits.Select.TheVariants.{Whole, Bit, Part}
use Rattle.ver_module.specs.Ranges.{bits_of}
use Rattle.ver_items.specs.Bits.{fits, is_single, select_before, selected}
use Rattle.ver_items.specs.Sections.{Section, is_identifier, name_at, section_before, sections}
use Rattle.ver_module.specs.declared.link.Link.TheVariants.{One, Many}
use Rattle.ver_file.specs.Modules.{Denotes}
use Rattle.ver_file.specs.Netlists.{bit_in, is_one, link_of, net_number, nets_in, nets_named as numbers_named, netlist_of, one_named, range_at}
use Rattle.ver_file.specs.Said.{identifiers_of}
use Rattle.ver_patch.proofs.StandLemmas.{sections_by}
use Rattle.ver_patch_text_laws.proofs.TextLemmas.{Each}
use Rattle.ver_patch_laws.specs.Links.{NamedLink, named, named_link, names_in, names_named}
use Rattle.ver_patch_laws.proofs.RelinkedLemmas.{In}
use Rattle.ver_patch_laws.specs.Names.{NO_NET, named_link_of, name_at as net_name_at}
use Rattle.ver_patch_laws.proofs.NetLemmas.{bit_numbered, nets_named}
use Rattle.ver_patch_laws.proofs.SelectLemmas.{all_selected}

-- an identifier that is among those of its text, and of which nothing is selected that it has not
pub record IsRight (text : List ℕ) (s : Section) : Type 0 where
  pub known : In (name_at text s.head) (identifiers_of text)
  pub fit : fits (select_before text s.body) (range_at text s.head) ≡ true

-- one net that is selected of an identifier is one of its bits
single_has : (select : Select) (range : Option Range) → is_single select range ≡ true → fits select range ≡ true → In (bit_in select) (bits_of range)
single_has Whole None t f = inl refl
single_has Whole (Some r) t f = absurd (cc)
single_has (Bit k) range t f = (all_selected (Bit k) range f).0
single_has (Part p) range t f = absurd (cc)

module _ (text : List ℕ) (d : Denotes text (netlist_of text)) where
  pub bit_named : (r : Row) (bit : Option ℕ) → In (name_at text r) (identifiers_of text) → In bit (bits_of (range_at text r))
      → net_name_at (netlist_of text) (net_number text r bit) ≡ named text r bit
  bit_named r bit known has =
      get_or_from_slice_get (nets_named text) (net_number text r bit) (named text r bit) NO_NET (bit_numbered text d (name_at text r) bit known has)

  bits_named : (r : Row) → In (name_at text r) (identifiers_of text) → (bits : List (Option ℕ)) → Each (λ b. In b (bits_of (range_at text r))) bits
      → map (net_name_at (netlist_of text)) (map (net_number text r) bits) ≡ map (named text r) bits
  bits_named r known [] h = refl
  bits_named r known (b ∷ bits) h = λ i. bit_named r b known h.0 i ∷ bits_named r known bits h.1 i

  -- the nets that an identifier stands for
  pub nets_right : (s : Section) → IsRight text s → map (net_name_at (netlist_of text)) (numbers_named text s) ≡ names_named text s
  nets_right s h =
      bits_named s.head h.known (selected (select_before text s.body) (range_at text s.head)) (all_selected (select_before text s.body) (range_at text s.head) h.fit)

  pub all_right : (ss : List Section) → Each (IsRight text) ss → map (net_name_at (netlist_of text)) (flat_map (numbers_named text) ss) ≡ flat_map (names_named text) ss
  all_right [] h = refl
  all_right (s ∷ ss) h =
      map-append (net_name_at (netlist_of text)) (numbers_named text s) (flat_map (numbers_named text) ss) ∙ (λ i. nets_right s h.0 i ++ all_right ss h.1 i)

  -- an expression
  pub link_right : (rows : List Row) → Each (IsRight text) (sections is_identifier rows) → named_link text rows ≡ named_link_of (netlist_of text) (link_of text rows)
  link_right [] h = refl
  link_right (r ∷ rows) h = by_test (is_one text s) refl
    where
      s : Section
      s = section_before is_identifier r rows

      first : is_identifier r ≡ true → IsRight text s
      first t = (subst (Each (IsRight text)) (sections_by is_identifier r rows true t) h).0

      by_test : (b : Bool) → is_one text s ≡ b
          → cond b (NamedLink.one (named text r (bit_in (select_before text s.body)))) (NamedLink.several (names_in text (r ∷ rows)))
          ≡ named_link_of (netlist_of text) (cond b (One (one_named text s)) (Many (nets_in text (r ∷ rows))))
      by_test true t =
          let parts = and_parts (is_identifier r) (is_single (select_before text s.body) (range_at text r)) t in
          ap NamedLink.one (sym (bit_named r (bit_in (select_before text s.body)) (first parts.0).known
          (single_has (select_before text s.body) (range_at text r) parts.1 (first parts.0).fit)))
      by_test false t = ap NamedLink.several (sym (all_right (sections is_identifier (r ∷ rows)) h))
