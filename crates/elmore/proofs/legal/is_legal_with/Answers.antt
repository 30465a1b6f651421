use Rattle.std.proofs.Common.{not, ap}
use Rattle.std.proofs.lemmas.Bool.{ne_eqb}
use Rattle.elmore.proofs.legal.is_legal_with.Goals as goal

pub returns-then-v-ne0 : goal.returns-then-v-ne0
returns-then-v-ne0 c = (
  λ _. record { cell = c.may_have.ensures.0 c.if-may_have.true; driver = λ e. absurd (c.if-v-ne0.true e) },
  λ _. ap not (ne_eqb c.args.v 0 c.if-v-ne0.true),
)

pub returns-else-v-ne0 : goal.returns-else-v-ne0
returns-else-v-ne0 c = (
  λ within. record { cell = c.may_have.ensures.0 c.if-may_have.true; driver = λ _. c.is_within_limit.ensures.0 within },
  λ legal. c.is_within_limit.ensures.1 (legal.driver c.if-v-ne0.false),
)
