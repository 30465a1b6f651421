use Rattle.std.proofs.Common.{refl}
use Rattle.name_tables.proofs.ChainLemmas.{chains_same}
use Rattle.name_tables.proofs.chains.Chains.reserve.Goals as goal

pub returns-in_default-clause-chains : goal.returns-in_default-clause-chains
returns-in_default-clause-chains c = chains_same c.args.self.now _ c.requires refl c.reserve.ensures.items

pub returns-clause-chains : goal.returns-clause-chains
returns-clause-chains c = chains_same c.args.self.now _ c.requires refl c.reserve.ensures.items
