use Rattle.ver_net.proofs.TextLemmas.{nets_are_tokens, nets_are_named}
use Rattle.ver_net.proofs.laws.nets_are_read_again.Goals as goal

pub returns-clause-tokens : goal.returns-clause-tokens
returns-clause-tokens c = nets_are_tokens

pub returns-clause-names : goal.returns-clause-names
returns-clause-names c = nets_are_named
