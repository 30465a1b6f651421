use Rattle.std.proofs.Common.{◌<◌, length, sym, ap, ◌∙◌, subst}
use Rattle.cand_pool.specs.Pools.{Block, candidate}
use Rattle.cand_pool.proofs.PoolSlots.{read}
use Rattle.cand_pool.proofs.pool.Pool.candidate.Goals as goal

pub returns : goal.returns
returns c =
    let there = subst (λ (s : Block). c.args.slot < length s.links) (sym c.self.view_is) c.requires.there in
    read _ c.args.slot c.index.result.now c.self.invariant.pool there c.index.ensures ∙ ap (λ (s : Block). candidate s c.args.slot) c.self.view_is
