use Rattle.std.proofs.Common.{◌≡◌, ◌≢◌, List, [], length, map, refl, ap, subst, arith}
use Rattle.cand_pool.specs.Links.{none}
use Rattle.cand_pool.specs.Candidates.{Candidate, wired_to}
use Rattle.cand_pool.specs.Pools.{items, items_of, Holds, IsHeld}
use Rattle.cand_pool.specs.Sequences.{undominated, dominated}
use Rattle.cand_pool.proofs.PublicLaws.{held_items, none_items, differ_from}
use Rattle.cand_pool.proofs.WireLaws.{wire_start, wire_end, wire_others, ready}
use Rattle.cand_pool.proofs.pool.Pool.wire.Goals as goal

pub turns-init : goal.turns-init
turns-init g c = record {
  wiring = wire_start c.args.r c.args.c c.args.self.now c.args.list.now.ends (record { first = none; last = none }) (items_of c.args.self.now c.args.list.now) refl c.requires.live c.requires.modest;
  steps = refl;
}

pub wire_turn-requires-clause-three : goal.wire_turn-requires-clause-three
wire_turn-requires-clause-three g c =
    let some : c.turns.at.rest.first ≢ none = omega (arith, c.turns-test) in
    (ready _ _ _ _ _ c.turns.self c.turns.at c.turns.invariant.wiring some).sieve

pub wire_turn-requires-clause-modest : goal.wire_turn-requires-clause-modest
wire_turn-requires-clause-modest g c =
    let some : c.turns.at.rest.first ≢ none = omega (arith, c.turns-test) in
    (ready _ _ _ _ _ c.turns.self c.turns.at c.turns.invariant.wiring some).modest

pub returns : goal.returns
returns g c =
    let e : c.turns.at.rest.first ≡ none = omega (arith, c.turns-test) in
    let w = c.turns.invariant.wiring in
    let (list, bag) = wire_end _ _ _ _ _ c.turns.self c.turns.at w e in
    let same : (xs : List Candidate) → Holds c.args.self.now c.args.list.now xs → items_of c.args.self.now c.args.list.now ≡ xs
    = λ xs h. held_items c.args.self.now c.args.list.now.ends.first c.args.list.now.ends.last xs h in
    let left : items c.turns.self c.turns.at.rest.first ≡ [] = none_items c.turns.self c.turns.at.rest.first e list.few in
    record {
      list = λ xs h. subst (λ (l : List Candidate). IsHeld c.turns.self c.turns.at.kept.first c.turns.at.kept.last (undominated (map (wired_to c.args.r c.args.c) l))) (same xs h) list;
      bag = λ xs h. subst (λ (l : List Candidate). IsHeld c.turns.self c.turns.at.dropped.first c.turns.at.dropped.last (dominated (map (wired_to c.args.r c.args.c) l))) (same xs h) bag;
      differ = differ_from c.turns.at.kept.first c.turns.at.dropped.first w.sieve.one_two;
      others = wire_others _ _ _ _ _ _ w.others;
      spare = w.free;
      steps = λ xs h.
          let n : length (items_of c.args.self.now c.args.list.now) ≡ length xs = ap (λ (l : List Candidate). length l) (same xs h) in
          let z : length (items c.turns.self c.turns.at.rest.first) ≡ 0 = ap (λ (l : List Candidate). length l) left in
          let total = c.turns.invariant.steps in
          omega arith;
    }
