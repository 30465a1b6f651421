-- The row of a net among the sections of an index.
use Rattle.std.proofs.Common.{◌≡◌, ℕ, ◌<◌, ◌≤◌, true, List, [], length, map, get_or, refl, sym, ap, ◌∙◌, subst, arith, Option, Some, None, is_some}
use Rattle.std.specs.Prelude.{option_map}
use Rattle.std.specs.List.{Contains, position, slice_get}
use Rattle.std.specs.Str.{bytes_eq}
use Rattle.std.proofs.lemmas.List.{get_or-map, length-map}
use Rattle.std.proofs.lemmas.List.Quantifiers.{position-Some}
use Rattle.std.proofs.lemmas.Option.{slice_get-get_or}
use Rattle.std.proofs.lemmas.Slice.Eq.{bytes_eq-Decides}
use Rattle.spef_file.specs.Files.{File, file_lines}
use Rattle.spef_file.specs.Indexes.{IsIndexOf}
use Rattle.spef_file.specs.NetSpans.{IsSpan}
use Rattle.spef_file.specs.Nets.{NetHead}
use Rattle.spef_file.specs.Tables.{NetRow, is_section, names_of}
use Rattle.spef_file.specs.declared.spef_index.SpefIndex.{SpefIndex}
use Rattle.spef_file.proofs.TableLemmas.{position_any}
use Rattle.spef_net.specs.declared.net.ParNet.{ParNet}
use Rattle.ver_module.specs.Netlists.{Net}
use Rattle.vg_design.specs.Designs.{Design, Joined}
use Rattle.vg_design.specs.Refusals.{IsJoined}
use Rattle.vg_scan.proofs.PieceLemmas.{length-without}
use Rattle.vg_scan.specs.Comments.{without_comments}
use Rattle.vg_scan.specs.declared.comments.Comments.TheVariants.{Spef}
use Rattle.spef_wire.proofs.NamedLemmas.{none_named}
use Rattle.spef_wire.specs.Nets.{head_named, IsNetNamed}
use Rattle.vg_change.proofs.NameLemmas.{found_in}
use Rattle.vg_change.proofs.PairLemmas.{of_all}
use Rattle.spef_file.specs.declared.section.Section.{Section}

pub row_named : (rows : List NetRow) (name : List ℕ) (at : ℕ) (section : Section) → position (bytes_eq name) (names_of rows) ≡ Some at
    → option_map (λ (row : NetRow). row.1) (slice_get rows at) ≡ Some section → Contains rows (name, section)
row_named rows name at section found got =
    let place = position-Some (bytes_eq name) (names_of rows) at [] found in
    let low : at < length rows = (let l = place.0 in omega (arith, l, length-map rows (λ (row : NetRow). row.0))) in
    let row : NetRow = get_or rows at (name, section) in
    let name_is : name ≡ row.0 = (bytes_eq-Decides name (get_or (names_of rows) at [])).0 place.1 ∙ get_or-map (λ (r : NetRow). r.0) rows at (name, section) [] low in
    let here : Some row.1 ≡ Some section = sym (ap (option_map (λ (r : NetRow). r.1)) (slice_get-get_or rows at (name, section) low)) ∙ got in
    (at, low, pair row (sym name_is) here)
  where
    pair : (row : NetRow) → row.0 ≡ name → Some row.1 ≡ Some section → row ≡ (name, section)
    pair (a, b) e f = cc

-- ---- a net that has a section

-- the name by which a net is sought is its own
pub name_is : (text name : List ℕ) (par : ParNet) → IsNetNamed text name par → name ≡ par.name
name_is text name par named =
    (bytes_eq-Decides name named.head.name).0 (found_in (λ (h : NetHead). bytes_eq name h.name) named.file.nets named.head named.head_of.named).1
    ∙ sym named.read.denoted.named

pub section_here : (d : Design) (name : List ℕ) (n : Joined) → IsJoined d name n → (index : SpefIndex) → IsIndexOf d.spef index → is_section index.sections n.par.name ≡ true
section_here d name n joined index of =
    subst (λ (m : List ℕ). is_section index.sections m ≡ true) (name_is d.spef name n.par joined.named)
    (sym (position_any (bytes_eq name) (names_of index.sections)) ∙ found (position (bytes_eq name) (names_of index.sections)) refl)
  where
    some_none : (h : NetHead) → Some h ≡ None → ⊥
    some_none h e = cc

    found : (o : Option ℕ) → position (bytes_eq name) (names_of index.sections) ≡ o → is_some (position (bytes_eq name) (names_of index.sections)) ≡ true
    found (Some at) e = ap is_some e
    found None e =
        let missing = none_named d.spef index name of (sym e) in
        let named = joined.named in
        let one : named.file ≡ missing.file = named.head_of.said.says ∙ sym missing.said.says in
        absurd (some_none named.head (sym named.head_of.named ∙ ap (λ (f : File). head_named f name) one ∙ missing.none))

pub id_within : (d : Design) (name : List ℕ) (n : Joined) → IsJoined d name n → n.id < length d.netlist.nets
id_within d name n joined =
    let place = position-Some (bytes_eq name) (map (λ (m : Net). m.name) d.netlist.nets) n.id [] joined.number in
    let low = place.0 in
    omega (arith, low, length-map d.netlist.nets (λ (m : Net). m.name))

-- a section stands in the text
pub section_within : (d : Design) (index : SpefIndex) (name : List ℕ) (s : Section) → IsIndexOf d.spef index → Contains index.sections (name, s)
    → (s.from < s.to) × (s.to ≤ length d.spef)
section_within d index name s of there =
    let span = of_all (λ (row : NetRow). IsSpan (without_comments Spef d.spef) (file_lines d.spef) row.1) index.sections (name, s) of.spans there in
    let order = span.order in
    (order.0, omega (arith, order.1, length-without Spef d.spef))
