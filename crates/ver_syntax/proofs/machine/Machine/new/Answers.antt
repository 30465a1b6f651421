use Rattle.std.proofs.Common.{refl}
use Rattle.grammar_laws.proofs.WayLemmas.{left_start}
use Rattle.ver_syntax.specs.Grammar.{rules, module_declaration}
use Rattle.ver_syntax.proofs.MoveLemmas.{machine}
use Rattle.ver_syntax.proofs.machine.Machine.new.Goals as goal

pub returns : goal.returns
returns c = record { ways = left_start rules machine.proper module_declaration; tokens = λ some. refl }
