use Rattle.std.proofs.Common.{Some, sym, ◌∙◌, arith}
use Rattle.ver_module.proofs.RangeLemmas.{bit_inside_range, place_of_bit}
use Rattle.ver_file.specs.Netlists.{number_of_bit}
use Rattle.ver_file.proofs.NumberLemmas.{in_table, own_numbered}
use Rattle.ver_file.proofs.RunLemmas.{run_is}
use Rattle.ver_file.proofs.scope.Scope.own_run.Goals as goal

pub first_of-first-requires : goal.first_of-first-requires
first_of-first-requires c =
    in_table c.args.self.now.text.now c.args.self.now.nets.now c.args.found.now.name.now c.in_ok-id.field-0 c.requires.scope.table.table
    (sym c.in_ok-id.was ∙ c.requires.found.number)

pub returns : goal.returns
returns c =
    let self = c.args.self.now in
    let whole = c.in_ok-whole.whole in
    let part = c.args.range in
    let id = c.in_ok-id.field-0 in
    let left = place_of_bit whole c.in_ok-left.left part.left c.in_ok-left.ensures.within c.in_ok-left.ensures.bit in
    let right = place_of_bit whole c.in_ok-right.right part.right c.in_ok-right.ensures.within c.in_ok-right.ensures.bit in
    run_is whole part (record { left = c.in_ok-checked_add.field-0; right = c.in_ok-checked_add-2.field-0 }) _
    (omega (arith, c.in_ok-checked_add.ensures.1, left)) (omega (arith, c.in_ok-checked_add-2.ensures.1, right))
    (bit_inside_range whole c.in_ok-left.left part.left c.in_ok-left.ensures.within c.in_ok-left.ensures.bit)
    (bit_inside_range whole c.in_ok-right.right part.right c.in_ok-right.ensures.within c.in_ok-right.ensures.bit)
    (number_of_bit self.text.now c.args.found.now.name.now)
    (λ bit at there.
    own_numbered self.text.now self.nets.now c.args.found.now.name.now (Some bit) id at (Some whole)
    c.requires.scope.table.table c.requires.scope.distinct (sym c.in_ok-id.was ∙ c.requires.found.number) (sym c.in_ok-whole.was ∙ c.requires.found.bounds) there)
