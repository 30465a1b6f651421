use Rattle.std.proofs.Common.{[], is_some, sym, ap, ◌∙◌}
use Rattle.std.proofs.lemmas.List.{append-nil}
use Rattle.ver_text.specs.Kinds.{kinds_of}
use Rattle.ver_syntax.proofs.KindLemmas.{module_read, no_module_read, stuck_nowhere}
use Rattle.ver_syntax.proofs.machine.Machine.is_module.Goals as goal

pub returns-in-Some-clause-module : goal.returns-in-Some-clause-module
returns-in-Some-clause-module c = λ text h is. module_read text c.args.self.now c.in-Some.at h c.in-Some.is (sym c.is_done.ensures ∙ is)

pub returns-in-Some-clause-none : goal.returns-in-Some-clause-none
returns-in-Some-clause-none c = λ text h isnt. no_module_read text c.args.self.now c.in-Some.at h c.in-Some.is (sym c.is_done.ensures ∙ isnt)

pub returns-in-None-clause-none : goal.returns-in-None-clause-none
returns-in-None-clause-none c = λ text h isnt d. stuck_nowhere (kinds_of text) c.args.self.now h (ap is_some c.in-None.is) [] (rw append-nil d)
