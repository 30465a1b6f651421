use Rattle.std.proofs.Common.{[], false, slice_index_or, sym, ap, ◌∙◌}
use Rattle.sol_arena.specs.Arenas.{made_of}
use Rattle.cand_turns.specs.Swaps.{search}
use Rattle.cand_turns.specs.Branches.{classes_in, lists_of}
use Rattle.cand_turns.proofs.SwapLemmas.{turn_then}
use Rattle.cand_turns.proofs.AddLemmas.{none_turn}
use Rattle.cand_turns.proofs.SwapLemmas.{beside, swap_then}
use Rattle.cand_turns.proofs.CellLemmas.{bare_closed}
use Rattle.cand_turns.proofs.ClassLemmas.{branch_rises}
use Rattle.cand_turns.proofs.CloseLemmas.{beside_cells, cells_closed, cells_few}
use Rattle.cand_turns.proofs.branch.Branch.close.Goals as goal

pub returns-then-not-as_slice-node-clause-closed : goal.returns-then-not-as_slice-node-clause-closed
returns-then-not-as_slice-node-clause-closed g c =
    bare_closed c.args.p.now c.args.widths.now c.args.node (made_of c.args.arena.now) (classes_in c.args.pool.now c.args.self) c.requires.widths.are c.requires.node
    (ap (λ l. slice_index_or l c.args.node false) (sym c.as_slice.ensures) ∙ c.if-not-as_slice-node.true) c.requires.«open»

pub absorb-requires : goal.absorb-requires
absorb-requires g c = record {
  held = (beside_cells (search c.args.pool.now c.args.arena.now) (search c.with_cells.new.pool c.with_cells.new.arena) c.args.self c.in-Ok.cells c.requires.held c.in-Ok.ensures.turn).held;
  rising =
      branch_rises (search c.args.pool.now c.args.arena.now) (search c.with_cells.new.pool c.with_cells.new.arena) c.args.self (lists_of c.in-Ok.cells) c.requires.held c.in-Ok.ensures.turn
      (λ odd. (c.requires.«open».part.exact odd).rising);
  rising_other = λ odd. (c.in-Ok.ensures.best odd).exact.rising;
}

pub give_up-requires : goal.give_up-requires
give_up-requires g c =
    record { held = (beside (search c.args.pool.now c.args.arena.now) (search c.with_cells.new.pool c.with_cells.new.arena) [] [] (lists_of c.args.self) c.requires.held (none_turn (search c.args.pool.now c.args.arena.now) (search c.with_cells.new.pool c.with_cells.new.arena) [] c.in-Err.ensures.turn)).held }

pub returns-in-Ok-clause-turn : goal.returns-in-Ok-clause-turn
returns-in-Ok-clause-turn g c =
    turn_then (search c.args.pool.now c.args.arena.now) (search c.with_cells.new.pool c.with_cells.new.arena) (search c.absorb.new.pool c.absorb.new.arena) _ _ _ (beside_cells (search c.args.pool.now c.args.arena.now) (search c.with_cells.new.pool c.with_cells.new.arena) c.args.self c.in-Ok.cells c.requires.held c.in-Ok.ensures.turn) c.absorb.ensures.turn

pub returns-in-Ok-clause-closed : goal.returns-in-Ok-clause-closed
returns-in-Ok-clause-closed g c =
    cells_closed c.args.p.now c.args.widths.now c.args.node c.args.arena.now c.with_cells.new.arena c.absorb.new.arena c.args.pool.now c.with_cells.new.pool c.absorb.new.pool c.args.self c.in-Ok.cells c.absorb.new.self c.requires.widths c.requires.node c.requires.held c.in-Ok.ensures.turn c.requires.«open» c.in-Ok.ensures.best c.absorb.ensures.classes c.absorb.ensures.same

pub returns-in-Ok-clause-few : goal.returns-in-Ok-clause-few
returns-in-Ok-clause-few g c =
    cells_few c.args.p.now c.args.node (search c.args.pool.now c.args.arena.now) (search c.with_cells.new.pool c.with_cells.new.arena) c.absorb.new.pool c.args.self c.in-Ok.cells c.absorb.new.self
    (ap (λ l. slice_index_or l c.args.node false) (sym c.as_slice.ensures) ∙ c.if-not-as_slice-node.false) c.requires.held c.in-Ok.ensures.turn c.absorb.ensures.classes c.in-Ok.ensures.few

pub returns-in-Err-clause-turn : goal.returns-in-Err-clause-turn
returns-in-Err-clause-turn g c =
    swap_then (search c.args.pool.now c.args.arena.now) (search c.with_cells.new.pool c.with_cells.new.arena) (search c.give_up.new.pool c.give_up.new.arena) _ _ _ (beside (search c.args.pool.now c.args.arena.now) (search c.with_cells.new.pool c.with_cells.new.arena) [] [] (lists_of c.args.self) c.requires.held (none_turn (search c.args.pool.now c.args.arena.now) (search c.with_cells.new.pool c.with_cells.new.arena) [] c.in-Err.ensures.turn)).swap c.give_up.ensures.swap
