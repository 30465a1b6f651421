use Rattle.std.proofs.Common.{◌++◌, ◌∷◌, [], ap, ◌∙◌, codes, append_assoc}
use Rattle.spef_write.specs.Printed.{printed_at}
use Rattle.spef_write.specs.Texts.{spaced, ended, noted}
use Rattle.spef_write.proofs.PrintLemmas.{noted_after}
use Rattle.spef_write.proofs.line.print_star.Goals as goal

pub returns : goal.returns
returns c =
    let old = c.args.to.now.items in
    let node = printed_at c.args.nodes.now c.args.at in
    c.in_ok-end_line.ensures
    ∙ ap (λ xs. ended (noted xs c.note.result.now))
    (c.in_ok-extend_from_slice-2.ensures.items
    ∙ ap (λ xs. c.extend_from_slice.new.self.items ++ xs) c.name.ensures
    ∙ ap (λ xs. xs ++ node.name) c.in_ok-extend_from_slice.ensures.items ∙ append_assoc old (codes "*N ") node.name)
    ∙ ap (λ note. ended (noted (old ++ spaced (codes "*N" ∷ node.name ∷ [])) note)) c.note.ensures
    ∙ noted_after old (spaced (codes "*N" ∷ node.name ∷ [])) node.note
