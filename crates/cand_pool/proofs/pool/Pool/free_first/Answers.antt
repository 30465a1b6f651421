use Rattle.std.proofs.Common.{List, ap, ◌∙◌, subst}
use Rattle.cand_pool.specs.Candidates.{Candidate}
use Rattle.cand_pool.specs.Pools.{IsHeld}
use Rattle.cand_pool.proofs.PoolMoves.{held_live}
use Rattle.cand_pool.proofs.PoolSlots.{one_slot}
use Rattle.cand_pool.proofs.PublicLaws.{one_held, first_held, bag_taken}
use Rattle.cand_pool.proofs.pool.Pool.free_first.Goals as goal

pub take_first-rest-requires-clause-live : goal.take_first-rest-requires-clause-live
take_first-rest-requires-clause-live c = held_live c.args.self.now c.args.ends.first c.args.ends.last _ c.requires.live

pub candidate-requires : goal.candidate-requires
candidate-requires c =
    let (ys, e) = first_held c.args.self.now c.args.ends.first c.args.ends.last _ c.requires.some c.requires.live in
    let t = c.take_first-rest.ensures.taken c.args.ends.last _ ys (subst (λ (l : List Candidate). IsHeld c.args.self.now c.args.ends.first c.args.ends.last l) e c.requires.live) in
    record { there = (one_slot _ _ _ _ t.one).low }

pub give-requires : goal.give-requires
give-requires c =
    let (ys, e) = first_held c.args.self.now c.args.ends.first c.args.ends.last _ c.requires.some c.requires.live in
    let t = c.take_first-rest.ensures.taken c.args.ends.last _ ys (subst (λ (l : List Candidate). IsHeld c.args.self.now c.args.ends.first c.args.ends.last l) e c.requires.live) in
    one_held _ _ _ _ t.one

pub returns : goal.returns
returns c = record {
  taken = λ x xs h.
      let t = c.take_first-rest.ensures.taken c.args.ends.last x xs h in (
        ap (λ (y : Candidate). y.tag) (c.candidate.ensures ∙ (one_slot _ _ _ _ t.one).shows),
        bag_taken _ _ _ c.args.ends.first c.args.ends.last c.take_first-rest.result x xs t c.give.ensures,
      );
}
