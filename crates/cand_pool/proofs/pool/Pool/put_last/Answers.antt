use Rattle.std.proofs.Common.{◌≡◌, ◌≢◌, sym, subst, arith}
use Rattle.cand_pool.specs.Links.{none}
use Rattle.cand_pool.specs.Pools.{Block}
use Rattle.cand_pool.specs.Moves.{IsNamed}
use Rattle.cand_pool.proofs.PublicLaws.{append_to_none, append_both, append_sure, append_low}
use Rattle.cand_pool.proofs.pool.Pool.put_last.Goals as goal

pub returns-then-list : goal.returns-then-list
returns-then-list c =
    let e : c.args.list.now.first ≡ none = omega (arith, c.if-list.true) in
    append_to_none c.args.self.now c.args.list.now.first c.args.list.now.last c.args.slot c.args.slot e

pub index_mut-requires : goal.index_mut-requires
index_mut-requires c =
    let one = subst (λ (s : Block). IsNamed s c.args.list.now.first c.args.list.now.last) (sym c.self.view_is) c.requires.one in
    let some : c.args.list.now.first ≢ none = omega (arith, c.if-list.false) in
    let low = append_low _ c.args.list.now.first c.args.list.now.last c.self.invariant.pool one some in
    omega arith

pub invariant_of-self : goal.invariant_of-self
invariant_of-self c =
    let one = subst (λ (s : Block). IsNamed s c.args.list.now.first c.args.list.now.last) (sym c.self.view_is) c.requires.one in
    let two = subst (λ (s : Block). IsNamed s c.args.slot c.args.slot) (sym c.self.view_is) c.requires.two in
    let some : c.args.list.now.first ≢ none = omega (arith, c.if-list.false) in
    append_sure _ c.self.inside.sure c.args.list.now.first c.args.list.now.last c.args.slot c.args.slot c.self.invariant one two some c.requires.some c.requires.differ

pub returns : goal.returns
returns c =
    let one = subst (λ (s : Block). IsNamed s c.args.list.now.first c.args.list.now.last) (sym c.self.view_is) c.requires.one in
    let two = subst (λ (s : Block). IsNamed s c.args.slot c.args.slot) (sym c.self.view_is) c.requires.two in
    let some : c.args.list.now.first ≢ none = omega (arith, c.if-list.false) in
    rw (← c.self.view_is) (append_both _ c.args.list.now.first c.args.list.now.last c.args.slot c.args.slot c.self.invariant.pool one two some c.requires.some c.requires.differ)
