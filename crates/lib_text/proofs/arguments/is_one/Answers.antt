use Rattle.std.proofs.Common.{arith}
use Rattle.lib_text.proofs.ArgumentLemmas.{is_one}
use Rattle.lib_text.proofs.arguments.is_one.Goals as goal

pub returns : goal.returns
returns c = is_one c.args.list.now c.argument_end.result (omega (arith, c.argument_end.ensures.place)) c.argument_end.ensures.within
