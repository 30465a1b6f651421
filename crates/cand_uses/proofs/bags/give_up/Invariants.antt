use Rattle.std.proofs.Common.{◌≡◌, ◌+◌, ◌∷◌, [], length}
use Rattle.sol_arena.specs.Arenas.{slots_of}
use Rattle.cand_pool.specs.Candidates.{Candidates}
use Rattle.cand_pool.specs.Pools.{spare, HoldsBag, bag_of, bag_name, KeepsOthers}
use Rattle.cand_uses.specs.Uses.{HoldsFor, IsExchange}
use Rattle.cand_uses.proofs.bags.give_up.Given as goal

-- `rest` is still in the bag
abbrev pub invariant-tags : goal.invariant-tags
invariant-tags l = record {
  rest : Candidates;
  bag : HoldsBag l.pool l.bag rest;
  held : HoldsFor (slots_of l.arena) rest;
  uses : IsExchange (slots_of l.initial.arena) (bag_of l.initial.pool l.fn.bag) (slots_of l.arena) rest;
  spare : spare l.pool + length rest ≡ spare l.initial.pool + length (bag_of l.initial.pool l.fn.bag);
  others : KeepsOthers l.initial.pool (bag_name l.fn.bag ∷ []) l.pool (bag_name l.bag ∷ []);
}

abbrev pub decreases-tags : goal.decreases-tags
decreases-tags l = length (bag_of l.pool l.bag)
