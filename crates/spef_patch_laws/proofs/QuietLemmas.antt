-- Written sections begin no comment.
use Rattle.std.proofs.Common.{[], ◌∷◌, arith, All}
use Rattle.std.proofs.lemmas.List.Elements.{All-head, All-tail}
use Rattle.spef_nodes.specs.Nodes.{ParNode}
use Rattle.spef_net.specs.declared.net.ParNet.{ParNet}
use Rattle.spef_write.specs.Sections.{section_text, IsWritable}
use Rattle.spef_write.specs.Texts.{IsQuiet, IsQuietLine}
use Rattle.spef_write.proofs.QuietLemmas.{quiet_none, quiet_both, quiet_byte}
use Rattle.spef_write.proofs.ShapeLemmas.{sections_are_quiet}
use Rattle.spef_patch_laws.specs.Sections.{sections_text}
use Rattle.spef_patch_laws.specs.SectionLaws.{WrittenSectionsAreQuiet}

newline_quiet : IsQuiet (10 ∷ [])
newline_quiet = quiet_byte 10 (λ e. omega (arith, e)) (λ e. omega (arith, e)) (λ e. omega (arith, e))

abbrev HasQuietNotes : ParNet → Type 0
HasQuietNotes net = All (λ (node : ParNode). IsQuietLine node.note) net.nodes

pub sections_quiet : WrittenSectionsAreQuiet
sections_quiet header [] writable notes = quiet_none
sections_quiet header (net ∷ []) writable notes = sections_are_quiet header net (All-head IsWritable net [] writable) (All-head HasQuietNotes net [] notes)
sections_quiet header (net ∷ next ∷ nets) writable notes =
    let rest = sections_text header (next ∷ nets) in
    quiet_both (section_text header net) (10 ∷ rest) (sections_are_quiet header net (All-head IsWritable net (next ∷ nets) writable) (All-head HasQuietNotes net (next ∷ nets) notes))
    (quiet_both (10 ∷ []) rest newline_quiet
    (sections_quiet header (next ∷ nets) (All-tail IsWritable net (next ∷ nets) writable) (All-tail HasQuietNotes net (next ∷ nets) notes)))
