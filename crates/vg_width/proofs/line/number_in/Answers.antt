use Rattle.std.proofs.Common.{rules, ◌≤◌, ◌∙◌, sym, arith, SFits}
use Rattle.std.proofs.lemmas.Int.{ints, to_z-of_z}
use mir.Syntax.{w128}
use Rattle.vg_num.specs.Number.{value_of}
use Rattle.vg_width.proofs.NumberLemmas.{value_read, number_is, number_over, number_refused}
use Rattle.vg_width.proofs.line.number_in.Goals as goal

pub returns-in_default : goal.returns-in_default
returns-in_default c =
    number_refused c.args.digits c.args.most c.args.word.now c.in_default.field-0 (search rules) (search rules)
    (sym c.in_default.is ∙ c.read_whole.ensures)

pub returns-then-number-from : goal.returns-then-number-from
returns-then-number-from c =
    let fits : SFits w128 c.in-Ok.number = search rules in
    number_over c.args.digits c.args.most c.args.word.now (search rules) (omega (arith, ints, value_read c.args.word.now c.in-Ok.number (search rules) (sym c.in-Ok.is ∙ c.read_whole.ensures), to_z-of_z w128 c.in-Ok.number fits))

pub overflow_cast-result : goal.overflow_cast-result
overflow_cast-result c =
    let fits : SFits w128 c.in-Ok.number = search rules in
    let low : value_of c.args.word.now ≤ c.args.most = omega (arith, ints, value_read c.args.word.now c.in-Ok.number (search rules) (sym c.in-Ok.is ∙ c.read_whole.ensures), to_z-of_z w128 c.in-Ok.number fits) in
    rw (to_z-of_z w128 c.in-Ok.number fits, value_read c.args.word.now c.in-Ok.number (search rules) (sym c.in-Ok.is ∙ c.read_whole.ensures)) (search rules)

pub returns : goal.returns
returns c =
    let fits : SFits w128 c.in-Ok.number = search rules in
    let low : value_of c.args.word.now ≤ c.args.most = omega (arith, ints, value_read c.args.word.now c.in-Ok.number (search rules) (sym c.in-Ok.is ∙ c.read_whole.ensures), to_z-of_z w128 c.in-Ok.number fits) in
    rw (to_z-of_z w128 c.in-Ok.number fits, value_read c.args.word.now c.in-Ok.number (search rules) (sym c.in-Ok.is ∙ c.read_whole.ensures)) (number_is c.args.digits c.args.most c.args.word.now (search rules) (search rules) low)
