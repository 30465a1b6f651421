use Rattle.spef_wire.proofs.AnswerLemmas.{nets_are, trees_are, passed_is}
use Rattle.spef_wire.proofs.OneRefusalLemmas.{one_refusal}
use Rattle.spef_wire.proofs.laws.one_answer.Goals as goal

pub returns-clause-net : goal.returns-clause-net
returns-clause-net c = nets_are

pub returns-clause-tree : goal.returns-clause-tree
returns-clause-tree c = trees_are

pub returns-clause-refusal : goal.returns-clause-refusal
returns-clause-refusal c = one_refusal

pub returns-clause-passed : goal.returns-clause-passed
returns-clause-passed c = passed_is
