use Rattle.std.proofs.Common.{sym}
use Rattle.ver_module.proofs.NameLemmas.{found, kept}
use Rattle.ver_module.proofs.name.number_by_guess.Goals as goal

pub returns-then-is_number-clause-names : goal.returns-then-is_number-clause-names
returns-then-is_number-clause-names c = sym (kept c.args.names.now c.args.name.now _ (c.is_number.ensures.0 c.if-is_number.true))

pub returns-clause-number : goal.returns-clause-number
returns-clause-number c = found c.args.names.now c.name_number.new.names c.args.name.now c.in_ok-id.id c.in_ok-id.ensures.number c.in_ok-id.ensures.names
