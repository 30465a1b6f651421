use Rattle.std.proofs.Common.{false, []}
use Rattle.sol_arena.specs.Arenas.{slots_of, made_of}
use Rattle.cand_pairs.specs.Merging.{fork_from}
use Rattle.cand_pairs.specs.Solutions.{IsOpenSolutionOf, IsSolutionOf}
use Rattle.vg_front.specs.Branches.{list_of, all_of}
use Rattle.vg_front.specs.Fronts.{In, AreCells, AreSolved}
use Rattle.vg_front.proofs.HeldLemmas.{given_then}
use Rattle.vg_front.proofs.PlaceLemmas.{still_solved, first_held, first_same, branch_same, given_both, given_none_more, alone_held, by_class}
use Rattle.vg_front.proofs.branch.Branch.with_cells.Goals as goal

pub cells-requires-2-clause-held : goal.cells-requires-2-clause-held
cells-requires-2-clause-held c =
    first_held c.args.arena.now c.cells.new.arena (all_of c.args.self.now) c.in_ok-even.even.items c.requires.held c.in_ok-even.ensures.given

pub cells-requires-2-clause-solved : goal.cells-requires-2-clause-solved
cells-requires-2-clause-solved c = λ o.
    still_solved c.args.p.now (IsOpenSolutionOf c.args.p.now o (fork_from c.args.p.now c.args.node _)) (made_of c.args.arena.now)
    (made_of c.cells.new.arena) (list_of c.args.self.now o)
    (branch_same (made_of c.args.arena.now) (made_of c.cells.new.arena) c.args.self.now
    (first_same c.args.arena.now c.cells.new.arena (all_of c.args.self.now) c.in_ok-even.even.items c.requires.held c.in_ok-even.ensures.given) o)
    (c.requires.solved o)

pub give_up-requires : goal.give_up-requires
give_up-requires c =
    alone_held (slots_of c.args.arena.now) (slots_of c.cells-2.new.arena) c.in_ok-even.even.items
    (given_none_more (slots_of c.args.arena.now) (slots_of c.cells.new.arena) (slots_of c.cells-2.new.arena) c.in_ok-even.even.items
    c.in_ok-even.ensures.given
    c.in-Err.ensures.given)

pub returns-in-Err-clause-given : goal.returns-in-Err-clause-given
returns-in-Err-clause-given c =
    given_then (slots_of c.args.arena.now) (slots_of c.cells-2.new.arena) (slots_of c.give_up.new.arena) [] c.in_ok-even.even.items []
    (given_none_more (slots_of c.args.arena.now) (slots_of c.cells.new.arena) (slots_of c.cells-2.new.arena) c.in_ok-even.even.items
    c.in_ok-even.ensures.given
    c.in-Err.ensures.given) c.give_up.ensures

pub returns-in-Ok-clause-given : goal.returns-in-Ok-clause-given
returns-in-Ok-clause-given c =
    given_both (slots_of c.args.arena.now) (slots_of c.cells.new.arena) (slots_of c.cells-2.new.arena) c.in_ok-even.even.items c.in-Ok.odd.items
    c.in_ok-even.ensures.given
    c.in-Ok.ensures.given

pub returns-in-Ok-clause-cells : goal.returns-in-Ok-clause-cells
returns-in-Ok-clause-cells c =
    by_class (λ o xs. AreCells c.args.p.now c.args.cap c.args.node o (λ u. In (list_of c.args.self.now u)) xs)
    (record { even = c.in_ok-even.even; odd = c.in-Ok.odd }) c.in_ok-even.ensures.cells c.in-Ok.ensures.cells

pub returns-in-Ok-clause-solved : goal.returns-in-Ok-clause-solved
returns-in-Ok-clause-solved c =
    by_class (λ o xs. AreSolved c.args.p.now (IsSolutionOf c.args.p.now c.args.node o) (made_of c.cells-2.new.arena) xs)
    (record { even = c.in_ok-even.even; odd = c.in-Ok.odd })
    (still_solved c.args.p.now (IsSolutionOf c.args.p.now c.args.node false) (made_of c.cells.new.arena) (made_of c.cells-2.new.arena)
    c.in_ok-even.even.items
    (first_same c.cells.new.arena c.cells-2.new.arena c.in_ok-even.even.items c.in-Ok.odd.items
    (alone_held (slots_of c.args.arena.now) (slots_of c.cells.new.arena) c.in_ok-even.even.items c.in_ok-even.ensures.given) c.in-Ok.ensures.given)
    c.in_ok-even.ensures.solved)
    c.in-Ok.ensures.solved
