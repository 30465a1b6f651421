use Rattle.std.proofs.Common.{◌<◌, length, sym, ◌∙◌, arith}
use Rattle.tests_pages.proofs.ManualLemmas.{differ, same_more}
use Rattle.tests_pages.proofs.manual.are_names.Goals as goal

pub returns-then-not-branch : goal.returns-then-not-branch
returns-then-not-branch c =
    let low : c.option.at < length c.args.options.now = omega (arith, c.option-test.true) in
    let low_too : c.option.at < length c.args.found.now = omega (arith, c.option-test.true, c.if-found-options.false) in
    differ c.args.found.now c.args.options.now c.option.at _ _ low_too low (sym c.if-not-branch.true ∙ c.in_ok-is_name.ensures)

pub option-preserved : goal.option-preserved
option-preserved c =
    let low : c.option.at < length c.args.options.now = omega (arith, c.option-test.true) in
    let low_too : c.option.at < length c.args.found.now = omega (arith, c.option-test.true, c.if-found-options.false) in
    same_more c.args.found.now c.args.options.now c.option.at _ _ low_too low c.option.invariant (sym c.if-not-branch.false ∙ c.in_ok-is_name.ensures)
