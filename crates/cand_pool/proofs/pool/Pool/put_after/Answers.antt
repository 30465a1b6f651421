use Rattle.std.proofs.Common.{◌≡◌, ◌≢◌, sym, subst, arith}
use Rattle.cand_pool.specs.Links.{none}
use Rattle.cand_pool.specs.Pools.{Block}
use Rattle.cand_pool.specs.Moves.{IsNamed}
use Rattle.cand_pool.proofs.PublicLaws.{append_none, append_to_none, append_both, append_sure, append_low}
use Rattle.cand_pool.proofs.pool.Pool.put_after.Goals as goal

pub returns-then-b-eq-NONE : goal.returns-then-b-eq-NONE
returns-then-b-eq-NONE c =
    let e : c.args.b.first ≡ none = omega (arith, c.if-b-eq-NONE) in
    append_none c.args.self.now c.args.a.first c.args.a.last c.args.b.first c.args.b.last e

pub returns-then-a-eq-NONE : goal.returns-then-a-eq-NONE
returns-then-a-eq-NONE c =
    let e : c.args.a.first ≡ none = omega (arith, c.if-a-eq-NONE) in
    append_to_none c.args.self.now c.args.a.first c.args.a.last c.args.b.first c.args.b.last e

pub index_mut-requires : goal.index_mut-requires
index_mut-requires c =
    let one = subst (λ (s : Block). IsNamed s c.args.a.first c.args.a.last) (sym c.self.view_is) c.requires.one in
    let some : c.args.a.first ≢ none = omega (arith, c.if-a-eq-NONE) in
    let low = append_low _ c.args.a.first c.args.a.last c.self.invariant.pool one some in
    omega arith

pub invariant_of-self : goal.invariant_of-self
invariant_of-self c =
    let one = subst (λ (s : Block). IsNamed s c.args.a.first c.args.a.last) (sym c.self.view_is) c.requires.one in
    let two = subst (λ (s : Block). IsNamed s c.args.b.first c.args.b.last) (sym c.self.view_is) c.requires.two in
    let some_a : c.args.a.first ≢ none = omega (arith, c.if-a-eq-NONE) in
    let some_b : c.args.b.first ≢ none = omega (arith, c.if-b-eq-NONE) in
    append_sure _ c.self.inside.sure c.args.a.first c.args.a.last c.args.b.first c.args.b.last c.self.invariant one two some_a some_b (λ e. some_b (c.requires.differ e))

pub returns : goal.returns
returns c =
    let one = subst (λ (s : Block). IsNamed s c.args.a.first c.args.a.last) (sym c.self.view_is) c.requires.one in
    let two = subst (λ (s : Block). IsNamed s c.args.b.first c.args.b.last) (sym c.self.view_is) c.requires.two in
    let some_a : c.args.a.first ≢ none = omega (arith, c.if-a-eq-NONE) in
    let some_b : c.args.b.first ≢ none = omega (arith, c.if-b-eq-NONE) in
    rw (← c.self.view_is) (append_both _ c.args.a.first c.args.a.last c.args.b.first c.args.b.last c.self.invariant.pool one two some_a some_b (λ e. some_b (c.requires.differ e)))
