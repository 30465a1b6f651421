use Rattle.std.proofs.Common.{◌+◌, drop, sym, ◌∙◌, arith}
use Rattle.lib_text.specs.declared.quoting.Quoting.TheVariants.{Outside}
use Rattle.lib_text.specs.Arguments.{is_comma}
use Rattle.lib_text.specs.Strings.{until}
use Rattle.lib_text.proofs.RunLemmas.{until_more, until_over, until_end}
use Rattle.lib_text.proofs.arguments.argument_end.Goals as goal

pub argument-preserved : goal.argument-preserved
argument-preserved c = record {
  within = omega arith;
  place =
      rw c.after-quoting.ensures
      (until_more is_comma c.argument.quoting c.args.list.now c.argument.end (c.args.at + until is_comma Outside (drop c.args.at c.args.list.now)) (omega arith)
      (sym c.is_comma.ensures ∙ c.if-not-is_comma.true) c.argument.invariant.place);
}

pub returns-else-not-is_comma-clause-place : goal.returns-else-not-is_comma-clause-place
returns-else-not-is_comma-clause-place c =
    until_over is_comma c.argument.quoting c.args.list.now c.argument.end (c.args.at + until is_comma Outside (drop c.args.at c.args.list.now)) (omega arith)
    (sym c.is_comma.ensures ∙ c.if-not-is_comma.false) c.argument.invariant.place

pub returns-after-argument-clause-place : goal.returns-after-argument-clause-place
returns-after-argument-clause-place c =
    until_end is_comma c.argument.quoting c.args.list.now c.argument.end (c.args.at + until is_comma Outside (drop c.args.at c.args.list.now)) (omega arith) c.argument.invariant.place
