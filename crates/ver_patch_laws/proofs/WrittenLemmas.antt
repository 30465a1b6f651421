-- What is written into a connection lies in the range of its identifier.
use Rattle.std.proofs.Common.{◌≡◌, ℕ, Bool, true, false, cond, List, [], ◌∷◌, ◌++◌, map, Option, Some, None, refl, sym, ap, ◌∙◌, subst, inl, inr}
use Rattle.std.specs.Fmt.{decimal}
use Rattle.std.specs.List.{flat_map}
use Rattle.std.proofs.lemmas.Bool.{and_parts}
use Rattle.std.proofs.lemmas.List.Sorted.{All-permutation}
use Rattle.ver_text.specs.declared.kind.Kind.TheVariants.{Identifier}
use Rattle.ver_syntax.specs.declared.row.Row.{Row}
use Rattle.ver_syntax.specs.Grammar.{is}
use Rattle.ver_module.specs.declared.range.Range.{Range}
use Rattle.ver_items.specs.declared.bits.Select.{Select}
use Rattle.ver_items.specs.declared.bits.Select.TheVariants.{Whole, Bit, Part}
use Rattle.ver_module.specs.Ranges.{bits_of}
use Rattle.ver_items.specs.Bits.{fits, is_single, select_before}
use Rattle.ver_items.specs.Declarations.{declared_of, range_in}
use Rattle.ver_items.specs.Sections.{is_identifier, section_before, sections}
use Rattle.ver_file.specs.Flaws.{select_flaws}
use Rattle.ver_file.specs.Netlists.{bit_in, is_one, netlist_of, range_at}
use Rattle.ver_patch.proofs.StandLemmas.{no_sections, sections_by}
use Rattle.ver_patch.specs.NewCells.{NewCell}
use Rattle.ver_patch.specs.Rewires.{Rewire}
use Rattle.ver_patch_text_laws.specs.NewWords.{identifier_bytes, net_words, select_words, word}
use Rattle.ver_patch_text_laws.specs.Texts.{IsNetText}
use Rattle.ver_patch_text_laws.specs.Words.{Word, words_of}
use Rattle.ver_patch_text_laws.proofs.TextLemmas.{Each, net_named}
use Rattle.ver_patch_text_laws.specs.Laws.{IsChanged}
use Rattle.ver_patch_text_laws.proofs.KindLemmas.{no_number}
use Rattle.ver_patch_text_laws.proofs.LawLemmas.{each_of}
use Rattle.ver_patch_text_laws.proofs.RunLemmas.{EachRow}
use Rattle.ver_patch_laws.specs.Links.{IsOneNet, NamedLink, NetName, name_of_net, named, named_link, names_in}
use Rattle.ver_patch_laws.proofs.NameLemmas.{link_is}
use Rattle.ver_patch_laws.proofs.RelinkedLemmas.{In, each_in}
use Rattle.ver_patch_laws.proofs.WalkLemmas.{word_at}
use Rattle.ver_patch_laws.specs.Consistent.{IsConsistent, IsThere, WritesOne, wire_name}
use Rattle.ver_patch_laws.proofs.AssignedLemmas.{sections_none}
use Rattle.ver_patch_laws.proofs.NameFlawLemmas.{ranges, wires_scalar}
use Rattle.ver_patch_laws.proofs.NetLemmas.{HasBit, nets_named, there_known}
use Rattle.ver_patch_laws.proofs.SelectLemmas.{bit_fits, none_fits}
use Rattle.ver_patch_laws.proofs.SetLemmas.{contains_in, each_mapped, in_mapped, unless_not}

-- ---- the words of a net

select_plain : (bit : Option ℕ) → Each (λ (w : Word). is Identifier w.kind ≡ false) (select_words bit)
select_plain None = tt
select_plain (Some k) = (refl, (no_number (is Identifier) refl refl refl refl (decimal k), (refl, tt)))

each_row : (P : Row → Type 0) (rows : List Row) → Each P rows → EachRow P rows
each_row P [] h = tt
each_row P (r ∷ rows) h = (h.0, each_row P rows h.1)

-- one net that is selected fits where its bit does
single_fits : (select : Select) (range : Option Range) → is_single select range ≡ true → ((k : ℕ) → bit_in select ≡ Some k → fits (Bit k) range ≡ true)
    → fits select range ≡ true
single_fits Whole None t h = refl
single_fits Whole (Some r) t h = absurd (cc)
single_fits (Bit k) range t h = h k refl
single_fits (Part p) range t h = absurd (cc)

module _ (new net : List ℕ) (t : IsNetText net) (one : IsOneNet new t.net)
    (fit : (k : ℕ) → t.net.bit ≡ Some k → fits (Bit k) (range_in (declared_of new) t.net.base) ≡ true) where
  first_fits : (r : Row) (rows : List Row) → named_link new (r ∷ rows) ≡ NamedLink.one (name_of_net t.net)
      → fits (select_before new (section_before is_identifier r rows).body) (range_at new r) ≡ true
  first_fits r rows e = by_test (is_one new (section_before is_identifier r rows)) refl e
    where
      select : Select
      select = select_before new (section_before is_identifier r rows).body

      by_test : (b : Bool) → is_one new (section_before is_identifier r rows) ≡ b
          → cond b (NamedLink.one (named new r (bit_in (select_before new (section_before is_identifier r rows).body)))) (NamedLink.several (names_in new (r ∷ rows)))
          ≡ NamedLink.one (name_of_net t.net)
          → fits (select_before new (section_before is_identifier r rows).body) (range_at new r) ≡ true
      by_test true u f =
          let s = select_before new (section_before is_identifier r rows).body in
          let same : named new r (bit_in s) ≡ name_of_net t.net = cc in
          let single = (and_parts (is_identifier r) (is_single s (range_at new r)) u).1 in
          single_fits s (range_at new r) single
          (λ k g. ap (λ (a : NetName). fits (Bit k) (range_in (declared_of new) a.base)) same ∙ fit k (sym (ap (λ (a : NetName). a.bit) same) ∙ g))
      by_test false u f = absurd (cc)

  pub net_flaws : (rows : List Row) → map (word_at new) rows ≡ words_of net → flat_map (select_flaws new) (sections is_identifier rows) ≡ []
  net_flaws [] e = ap (flat_map (select_flaws new)) (no_sections is_identifier)
  net_flaws (r ∷ rows) e =
      let words : map (word_at new) (r ∷ rows) ≡ net_words t.net = e ∙ net_named net t in
      let first : word_at new r ≡ word Identifier (identifier_bytes t.net.escaped t.net.base) = cc in
      let rest : map (word_at new) rows ≡ select_words t.net.bit = cc in
      let plain = each_mapped (λ (w : Word). is Identifier w.kind ≡ false) (word_at new) rows
      (subst (Each (λ (w : Word). is Identifier w.kind ≡ false)) (sym rest) (select_plain t.net.bit)) in
      let parts : sections is_identifier (r ∷ rows) ≡ section_before is_identifier r rows ∷ []
      = sections_by is_identifier r rows true (ap (λ (w : Word). is Identifier w.kind) first)
      ∙ ap (λ ss. section_before is_identifier r rows ∷ ss) (sections_none is_identifier rows (each_row (λ q. is_identifier q ≡ false) rows plain)) in
      ap (flat_map (select_flaws new)) parts
      ∙ ap (λ xs. xs ++ []) (unless_not (fits (select_before new (section_before is_identifier r rows).body) (range_at new r)) r.from
      (first_fits r rows (link_is new net t (r ∷ rows) one e)))

-- ---- a changed text

module _ (text : List ℕ) (rewires : List Rewire) (cells : List NewCell) (wires : List (List ℕ)) (new : List ℕ)
    (c : IsChanged text (netlist_of text) rewires cells wires new) (h : IsConsistent (netlist_of text) rewires cells wires) where
  -- a net that is there has its bit
  has_there : (name : NetName) → IsThere (netlist_of text) wires name → HasBit text name.base name.bit
  has_there name (inl old) = (there_known text name (contains_in (nets_named text) name old)).1
  has_there name (inr put) =
      let (w, i, e) = in_mapped wire_name wires name (contains_in (map wire_name wires) name put) in
      let none : range_in (declared_of text) w ≡ None = each_in (λ x. range_in (declared_of text) x ≡ None) wires w (wires_scalar text rewires cells wires new c h) i in
      subst (λ (a : NetName). HasBit text a.base a.bit) (sym e) (subst (λ r. In None (bits_of r)) (sym none) (inl refl))

  own_bit : (net : List ℕ) (w : WritesOne (netlist_of text) wires net) → HasBit text w.writes.net.net.base w.writes.net.net.bit
  own_bit net w = subst (λ (a : NetName). HasBit text a.base a.bit) (sym w.writes.is) (has_there w.name w.there)

  now_bit : (net : List ℕ) (w : WritesOne (netlist_of text) wires net) → HasBit new w.writes.net.net.base w.writes.net.net.bit
  now_bit net w =
      subst (λ r. In w.writes.net.net.bit (bits_of r)) (ranges text rewires cells wires new c h w.writes.net.net.base) (own_bit net w)

  pub one_net : (net : List ℕ) (w : WritesOne (netlist_of text) wires net) → IsOneNet text w.writes.net.net
  one_net net w e =
      none_fits (range_in (declared_of text) w.writes.net.net.base) (subst (λ b. HasBit text w.writes.net.net.base b) e (own_bit net w))

  pub one_now : (net : List ℕ) (w : WritesOne (netlist_of text) wires net) → IsOneNet new w.writes.net.net
  one_now net w e =
      none_fits (range_in (declared_of new) w.writes.net.net.base) (subst (λ b. HasBit new w.writes.net.net.base b) e (now_bit net w))

  pub written_flaws : (net : List ℕ) → WritesOne (netlist_of text) wires net → (rows : List Row) → map (word_at new) rows ≡ words_of net
      → flat_map (select_flaws new) (sections is_identifier rows) ≡ []
  written_flaws net w rows e =
      net_flaws new net w.writes.net (one_now net w)
      (λ k f. bit_fits k (range_in (declared_of new) w.writes.net.net.base) (subst (λ b. HasBit new w.writes.net.net.base b) f (now_bit net w))) rows e

  pub written_rewires : Each (λ r. WritesOne (netlist_of text) wires r.net) c.patched.ordered
  written_rewires =
      each_of (λ r. WritesOne (netlist_of text) wires r.net) c.patched.ordered
      (All-permutation (λ (r : Rewire). WritesOne (netlist_of text) wires r.net) rewires c.patched.ordered c.patched.same h.linked)
