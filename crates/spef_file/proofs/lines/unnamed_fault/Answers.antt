use Rattle.std.proofs.Common.{sym, None}
use Rattle.spef_file.proofs.TableLemmas.{given_new, given_again}
use Rattle.spef_file.proofs.lines.unnamed_fault.Goals as goal

pub returns-in-None : goal.returns-in-None
returns-in-None c = given_new c.args.map.now c.args.index.now (sym c.in-None.ensures)

pub returns-in-Some : goal.returns-in-Some
returns-in-Some c = given_again c.args.map.now c.args.index.now _ None (sym c.in-Some.ensures)
