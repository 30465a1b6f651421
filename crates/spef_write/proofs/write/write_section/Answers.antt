use Rattle.std.proofs.Common.{◌++◌, ap, ◌∙◌}
use Rattle.spef_write.specs.Sections.{section_text}
use Rattle.spef_write.proofs.write.write_section.Goals as goal

pub returns-clause-written : goal.returns-clause-written
returns-clause-written c = λ net is.
    c.in_ok-extend_from_slice.ensures.items
    ∙ ap (λ xs. c.args.to.now.items ++ xs)
    (c.deref.ensures.value ∙ c.in_ok-print_section.ensures net is ∙ ap (λ xs. xs ++ section_text c.args.header.now net) c.clear.ensures.items)
