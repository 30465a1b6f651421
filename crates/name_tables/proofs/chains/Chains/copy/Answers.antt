use Rattle.std.proofs.Common.{◌∙◌}
use Rattle.name_tables.proofs.ChainLemmas.{chains_same}
use Rattle.name_tables.proofs.chains.Chains.copy.Goals as goal

pub returns-clause-chains : goal.returns-clause-chains
returns-clause-chains c = chains_same c.args.self.now _ c.requires (c.in_ok-lasts.ensures.items ∙ c.deref.ensures.value) (c.in_ok-links.ensures.items ∙ c.deref-2.ensures.value)
