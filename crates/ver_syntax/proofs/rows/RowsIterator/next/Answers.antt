use Rattle.std.proofs.Common.{rules, length, sym, ap, ◌∙◌, arith}
use Rattle.ver_syntax.proofs.RowLemmas.{next_low, next_row, no_row}
use Rattle.ver_syntax.proofs.rows.RowsIterator.next.Goals as goal

pub invariant_of-self-2 : goal.invariant_of-self-2
invariant_of-self-2 c = (next_low c.self.inside.tokens c.next.new.self c.in-Some.token c.in-Some.ensures.steps c.self.invariant).2

pub returns-in_default-clause-steps : goal.returns-in_default-clause-steps
returns-in_default-clause-steps c = (
  sym c.self.view_is ∙ no_row c.self.inside.text.now c.self.inside.place c.self.inside.tokens c.in_default.ensures.steps.0,
  no_row c.self.inside.text.now c.self.inside.place c.next.new.self c.in_default.ensures.steps.1,
)

pub returns-clause-steps : goal.returns-clause-steps
returns-clause-steps c =
    sym c.self.view_is
    ∙ rw (c.place_after-self-inside.ensures, c.kind_in-kind.ensures)
    (next_row c.self.inside.text.now c.self.inside.place c.self.inside.tokens c.next.new.self c.in-Some.token c.in-Some.ensures.steps)

pub returns-clause-goes : goal.returns-clause-goes
returns-clause-goes c =
    let e = returns-clause-steps c in
    let l = ap length e in
    record {
      on = λ h. (search rules, search rules, omega (arith, l));
      keeps = search rules;
      rests = search rules;
    }
