use Rattle.std.proofs.Common.{◌≢◌, List, subst, arith}
use Rattle.cand_pool.specs.Links.{none}
use Rattle.cand_pool.specs.Candidates.{Candidate}
use Rattle.cand_pool.specs.Pools.{IsHeld}
use Rattle.cand_pool.proofs.PublicLaws.{first_held}
use Rattle.cand_pool.proofs.pool.Pool.take.Goals as goal

pub returns-clause-some : goal.returns-clause-some
returns-clause-some c = λ tag is x xs h.
    let (tag_is, t) = c.free_first-tag.ensures.taken x xs h in
    (cc, t.bag)

pub returns-clause-others : goal.returns-clause-others
returns-clause-others c =
    let some : c.args.bag.now.ends.first ≢ none = omega (arith, c.if-bag) in
    let (ys, e) = first_held c.args.self.now c.args.bag.now.ends.first c.args.bag.now.ends.last _ some c.requires in
    let held = subst (λ (l : List Candidate). IsHeld c.args.self.now c.args.bag.now.ends.first c.args.bag.now.ends.last l) e c.requires in
    (c.free_first-tag.ensures.taken _ ys held).1.others

pub returns-clause-spare : goal.returns-clause-spare
returns-clause-spare c =
    let some : c.args.bag.now.ends.first ≢ none = omega (arith, c.if-bag) in
    let (ys, e) = first_held c.args.self.now c.args.bag.now.ends.first c.args.bag.now.ends.last _ some c.requires in
    let held = subst (λ (l : List Candidate). IsHeld c.args.self.now c.args.bag.now.ends.first c.args.bag.now.ends.last l) e c.requires in
    (c.free_first-tag.ensures.taken _ ys held).1.free
