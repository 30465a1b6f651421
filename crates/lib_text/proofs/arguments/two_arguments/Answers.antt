use Rattle.std.proofs.Common.{arith}
use Rattle.lib_text.proofs.ArgumentLemmas.{not_two, are_two, are_more}
use Rattle.lib_text.proofs.arguments.two_arguments.Goals as goal

pub returns-then-end-list : goal.returns-then-end-list
returns-then-end-list c = not_two c.args.list.now c.argument_end-end.result c.argument_end-end.ensures.place c.argument_end-end.ensures.within c.if-end-list.true

pub returns-then-last-list : goal.returns-then-last-list
returns-then-last-list c =
    are_more c.args.list.now c.argument_end-end.result c.argument_end-end.ensures.place c.argument_end-end.ensures.within c.argument_end-last.result (omega arith) c.argument_end-last.ensures.place c.argument_end-last.ensures.within c.if-last-list.true

pub returns : goal.returns
returns c =
    rw (c.unquote.ensures, c.unquote-2.ensures, c.trim.ensures, c.trim-2.ensures, c.text_from.ensures)
    (are_two c.args.list.now c.argument_end-end.result c.argument_end-end.ensures.place c.argument_end-end.ensures.within c.argument_end-last.result (omega arith) c.argument_end-last.ensures.place c.argument_end-last.ensures.within (omega arith))
