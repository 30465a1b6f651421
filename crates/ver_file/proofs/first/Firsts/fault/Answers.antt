use Rattle.std.proofs.Common.{Some, None}
use Rattle.ver_file.specs.Flaws.{flaws_of}
use Rattle.ver_file.proofs.FaultLemmas.{soonest, told_first}
use Rattle.ver_file.proofs.first.Firsts.fault.Goals as goal

pub returns-in-None : goal.returns-in-None
returns-in-None c = soonest c.args.text.now c.args.self None c.requires c.in-None.ensures

pub returns-in-Some : goal.returns-in-Some
returns-in-Some c = told_first c.args.text.now (flaws_of c.args.text.now) c.in-Some.flaw c.told.result (soonest c.args.text.now c.args.self (Some c.in-Some.flaw) c.requires c.in-Some.ensures) c.told.ensures
