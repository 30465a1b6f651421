use Rattle.std.proofs.Common.{sym, ◌∙◌}
use Rattle.lib_text.proofs.ArgumentLemmas.{ends_name, no_name}
use Rattle.lib_text.proofs.arguments.name_end.Goals as goal

pub returns-then-is_name : goal.returns-then-is_name
returns-then-is_name c =
    ends_name c.args.list.now c.args.at c.argument_end-end.result c.requires c.argument_end-end.ensures.place c.argument_end-end.ensures.within (rw (c.unquote.ensures, c.trim.ensures) at (sym c.is_name.ensures ∙ c.if-is_name.true))

pub returns-else-is_name : goal.returns-else-is_name
returns-else-is_name c =
    no_name c.args.list.now c.args.at c.argument_end-end.result c.requires c.argument_end-end.ensures.place c.argument_end-end.ensures.within (rw (c.unquote.ensures, c.trim.ensures) at (sym c.is_name.ensures ∙ c.if-is_name.false))
