use Rattle.std.proofs.Common.{[], ◌∷◌, ◌++◌, is_some, sym, ap, ◌∙◌}
use Rattle.ver_syntax.proofs.KindLemmas.{kinds_more, kinds_stuck, stuck_nowhere}
use Rattle.ver_syntax.specs.declared.machine.Machine.{Machine}
use Rattle.ver_syntax.proofs.machine.Machine.read.Goals as goal

pub returns-clause-kinds : goal.returns-clause-kinds
returns-clause-kinds c = λ kinds h.
    kinds_more kinds c.args.kind c.args.self.now (record { at = c.in_ok-self.field-0; braces = c.step.new.braces }) c.in-Some.at h c.in-Some.is c.in_ok-self.ensures

pub returns-clause-refused : goal.returns-clause-refused
returns-clause-refused c = λ kinds h refused.
    let new : Machine = record { at = c.in_ok-self.field-0; braces = c.step.new.braces } in
    stuck_nowhere (kinds ++ c.args.kind ∷ []) new (kinds_more kinds c.args.kind c.args.self.now new c.in-Some.at h c.in-Some.is c.in_ok-self.ensures)
    (sym c.is_some.ensures ∙ refused)

pub returns-in_default-clause-kinds : goal.returns-in_default-clause-kinds
returns-in_default-clause-kinds c = λ kinds h. kinds_stuck kinds c.args.kind c.args.self.now h c.in_default.is

pub returns-in_default-clause-refused : goal.returns-in_default-clause-refused
returns-in_default-clause-refused c = λ kinds h refused.
    stuck_nowhere (kinds ++ c.args.kind ∷ []) c.args.self.now (kinds_stuck kinds c.args.kind c.args.self.now h c.in_default.is) (ap is_some c.in_default.is)
