use Rattle.std.proofs.Common.{◌≡◌, ℕ, List, [], ◌∷◌, ◌++◌, Option, Some, is_some, refl, sym, ap, ◌∙◌}
use Rattle.std.proofs.lemmas.Bool.{false≢true}
use Rattle.std.specs.List.{position}
use Rattle.std.specs.Str.{bytes_eq}
use Rattle.spef_file.proofs.TableLemmas.{position_any}
use Rattle.spef_file.specs.Tables.{names_of}
use Rattle.spef_write.specs.Sections.{section_text}
use Rattle.vg_segment.proofs.SectionLemmas.{found_there, none_left}
use Rattle.vg_segment.proofs.TotalLemmas.{small_total}
use Rattle.vg_segment.proofs.text.segment_text.Goals as goal

pub unreachable-requires : goal.unreachable-requires
unreachable-requires c =
    let rows = c.args.index.now.sections in
    let none = sym (ap (λ (o : Option ℕ). is_some o) c.find.ensures.place) ∙ none_left c.find.result c.in_default.not-Some in
    false≢true
    (sym none ∙ ap (λ (name : List ℕ). is_some (position (bytes_eq name) (names_of rows))) c.as_bytes.ensures
    ∙ position_any (bytes_eq c.args.net.now.name) (names_of rows) ∙ c.requires.section)

pub write_net-requires-clause-charge : goal.write_net-requires-clause-charge
write_net-requires-clause-charge c = small_total c.args.net.now c.in_ok-cut.cut c.args.parts c.in_ok-cut.ensures c.requires.charge

pub replace_by-requires-clause-behind : goal.replace_by-requires-clause-behind
replace_by-requires-clause-behind c =
    let rows = c.args.index.now.sections in
    let name = c.args.net.now.name in
    let place : position (bytes_eq name) (names_of rows) ≡ Some c.in-Some.at =
    ap (λ (n : List ℕ). position (bytes_eq n) (names_of rows)) (sym c.as_bytes.ensures) ∙ sym (rw c.in-Some.is at c.find.ensures.place) in
    (c.requires.behind c.get-section.result (found_there rows name c.in-Some.at c.get-section.result place c.get-section.ensures).0).0

pub replace_by-requires-clause-part : goal.replace_by-requires-clause-part
replace_by-requires-clause-part c =
    let rows = c.args.index.now.sections in
    let name = c.args.net.now.name in
    let place : position (bytes_eq name) (names_of rows) ≡ Some c.in-Some.at =
    ap (λ (n : List ℕ). position (bytes_eq n) (names_of rows)) (sym c.as_bytes.ensures) ∙ sym (rw c.in-Some.is at c.find.ensures.place) in
    (c.requires.behind c.get-section.result (found_there rows name c.in-Some.at c.get-section.result place c.get-section.ensures).0).1

pub returns-clause-replaced : goal.returns-clause-replaced
returns-clause-replaced c =
    let rows = c.args.index.now.sections in
    let net = c.args.net.now in
    let place : position (bytes_eq net.name) (names_of rows) ≡ Some c.in-Some.at =
    ap (λ (n : List ℕ). position (bytes_eq n) (names_of rows)) (sym c.as_bytes.ensures) ∙ sym (rw c.in-Some.is at c.find.ensures.place) in
    record {
      r = record { number = c.in-Some.at; row = (net.name, c.get-section.result); nets = c.in_ok-cut.cut ∷ [] };
      at = (found_there rows net.name c.in-Some.at c.get-section.result place c.get-section.ensures).1;
      named = refl;
      cut = c.in_ok-cut.cut;
      cut_of = c.in_ok-cut.ensures;
      is = refl;
      last =
          c.in_ok-replace_by.ensures.last
          ∙ ap (λ (text : List ℕ). c.args.patch.now ++ record { from = c.get-section.result.from; to = c.get-section.result.to; text = text } ∷ [])
          (c.in_ok-write_net.ensures.written
          ∙ ap (λ (front : List ℕ). front ++ section_text c.args.index.now.header c.in_ok-cut.cut) c.new-text.ensures.items);
    }
