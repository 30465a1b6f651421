use Rattle.std.proofs.Common.{◌≡◌, ◌∷◌, length, drop, sym, ap, ◌∙◌}
use Rattle.ver_items.specs.Begins.{begins}
use Rattle.ver_items.specs.Sections.{sections}
use Rattle.ver_items.proofs.SectionLemmas.{sections_past, sections_yes}
use Rattle.ver_items.proofs.section.first_section.Goals as goal

pub returns-then-begins : goal.returns-then-begins
returns-then-begins g c =
    let p = begins c.args.begin in
    let before = g.T.Stretch.tokens c.row.rows in
    let after = g.T.Stretch.tokens c.next.new.self in
    let t = sym c.begins.ensures ∙ c.if-begins.true in
    let rest : sections p (g.T.Stretch.tokens c.split-body.result.1) ≡ sections p after =
    ap (sections p) (c.split-body.ensures.rest ∙ ap (λ rows. drop (length rows) after) c.split-body.ensures.before) ∙ sections_past p after in
    c.row.invariant.left ∙ sections_yes p before c.in-Some.head after c.in-Some.ensures t
    ∙ (λ i. record { head = c.in-Some.head; body = sym c.split-body.ensures.before i } ∷ sym rest i)
