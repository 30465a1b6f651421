use Rattle.std.proofs.Common.{arith}
use Rattle.lib_text.proofs.ArgumentLemmas.{one_argument, more_arguments}
use Rattle.lib_text.proofs.arguments.first_argument.Goals as goal

pub returns-then-end-list : goal.returns-then-end-list
returns-then-end-list c =
    rw (c.unquote-argument.ensures, c.trim.ensures) (one_argument c.args.list.now c.argument_end-end.result c.argument_end-end.ensures.place c.argument_end-end.ensures.within c.if-end-list.true)

pub returns : goal.returns
returns c =
    rw (c.new.ensures, c.unquote-argument.ensures, c.trim.ensures, c.text_from.ensures) (more_arguments c.args.list.now c.argument_end-end.result c.argument_end-end.ensures.place c.argument_end-end.ensures.within (omega arith))
