use Rattle.std.proofs.Common.{nat_eq, sym, ap, ◌∙◌}
use Rattle.name_tables.specs.Distinct.{number_in}
use Rattle.ver_file.specs.Firsts.{first_of, named_at}
use Rattle.ver_file.specs.Flaws.{unless}
use Rattle.ver_items.specs.Sections.{name_at}
use Rattle.ver_file.proofs.FlawLemmas.{is_next, one_repeated}
use Rattle.ver_file.proofs.check.repeated.Goals as goal

pub returns-clause-first : goal.returns-clause-first
returns-clause-first c =
    c.unless.ensures
    ∙ (λ i. first_of c.args.first (unless (nat_eq ((c.in_ok-id.ensures.number ∙ ap (number_in c.args.names.now) c.name_at.ensures) i) (c.len-count.ensures i)) c.args.token.from))
    ∙ ap (λ b. first_of c.args.first (unless b c.args.token.from)) (is_next c.args.names.now (name_at c.args.text.now c.args.token))
    ∙ ap (first_of c.args.first) (sym (one_repeated c.args.names.now (named_at c.args.text.now c.args.token)))
