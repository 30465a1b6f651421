use Rattle.std.proofs.Common.{sym, ap, ◌∙◌}
use Rattle.ver_items.specs.Declarations.{declared_of, direction_in, range_in}
use Rattle.ver_file.specs.Firsts.{first_of}
use Rattle.ver_file.specs.Flaws.{agrees, is_range, unless}
use Rattle.ver_file.proofs.FirstLemmas.{one_direction, one_range}
use Rattle.ver_file.proofs.check.check_declared.Goals as goal

pub returns-clause-clash : goal.returns-clause-clash
returns-clause-clash c =
    let text = c.args.scope.now.text.now in
    let r = c.look_up-found.ensures.found.bounds ∙ ap (range_in (declared_of text)) c.look_up-found.ensures.name in
    c.unless.ensures
    ∙ ap (λ b. first_of c.args.firsts.clash (unless b c.args.row.from)) (c.is_range-is_range.ensures ∙ ap (λ o. is_range o c.args.heading.range) r)
    ∙ sym (ap (first_of c.args.firsts.clash) (one_range text c.args.heading c.args.row (sym c.is_net_name.ensures ∙ c.if-not-is_net_name.false)))

pub returns-clause-grammar : goal.returns-clause-grammar
returns-clause-grammar c =
    let text = c.args.scope.now.text.now in
    let r = c.look_up-found.ensures.found.direction ∙ ap (direction_in (declared_of text)) c.look_up-found.ensures.name in
    c.unless-2.ensures
    ∙ ap (λ b. first_of c.args.firsts.grammar (unless b c.args.row.from)) (c.agrees-agrees.ensures ∙ ap (λ o. agrees o c.args.heading.direction) r)
    ∙ sym (ap (first_of c.args.firsts.grammar) (one_direction text c.args.heading c.args.row (sym c.is_net_name.ensures ∙ c.if-not-is_net_name.false)))
