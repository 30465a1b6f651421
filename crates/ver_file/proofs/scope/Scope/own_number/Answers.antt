use Rattle.std.proofs.Common.{◌+◌, sym, ap, ◌∙◌}
use Rattle.ver_file.proofs.NumberLemmas.{in_table, own_numbered}
use Rattle.ver_file.proofs.scope.Scope.own_number.Goals as goal

pub first_of-requires : goal.first_of-requires
first_of-requires c =
    in_table c.args.self.now.text.now c.args.self.now.nets.now c.args.found.now.name.now c.in_ok-id.field-0 c.requires.scope.table.table
    (sym c.in_ok-id.was ∙ c.requires.found.number)

pub returns : goal.returns
returns c =
    c.in_ok-number.ensures.1 ∙ ap (λ n. n + c.in_ok-at.at) c.first_of.ensures
    ∙ own_numbered c.args.self.now.text.now c.args.self.now.nets.now c.args.found.now.name.now c.args.bit c.in_ok-id.field-0 c.in_ok-at.at c.args.found.now.range
    c.requires.scope.table.table c.requires.scope.distinct (sym c.in_ok-id.was ∙ c.requires.found.number) c.requires.found.bounds c.in_ok-at.ensures
