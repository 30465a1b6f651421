use Rattle.std.proofs.Common.{ap, ◌∙◌}
use Rattle.ver_items.specs.Sections.{Section}
use Rattle.ver_file.specs.Netlists.{bit_in, number_of_bit, one_named}
use Rattle.ver_file.proofs.scope.Scope.one.Goals as goal

pub returns-clause-number : goal.returns-clause-number
returns-clause-number g c =
    let text = c.args.self.now.text.now in
    c.in_ok-number.ensures
    ∙ (λ i. number_of_bit text (c.look_up-found.ensures.name i) ((c.bit_in.ensures ∙ ap bit_in c.select_before-select.ensures) i))
    ∙ ap (λ (s : Section). one_named text s) c.named.view_is
