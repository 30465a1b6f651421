use Rattle.std.proofs.Common.{◌≤◌, length, sym, subst, arith}
use Rattle.elmore.specs.Allowances.{allowed_at}
use Rattle.sol_arena.specs.Arenas.{made_of}
use Rattle.cand_pool.specs.Pools.{items_of, spare}
use Rattle.vg_convex.specs.Answers.{HaveFound}
use Rattle.cand_turns.specs.Celled.{behind}
use Rattle.cand_turns.specs.Swaps.{search}
use Rattle.cand_turns.proofs.PartLemmas.{err_answers}
use Rattle.cand_turns.proofs.AddLemmas.{add_turn}
use Rattle.cand_turns.proofs.RestoredLemmas.{restored_exchange}
use Rattle.cand_turns.proofs.CellLemmas.{bare_at, made_best}
use Rattle.cand_turns.proofs.close.add_at.Goals as goal

pub add_cells-requires-clause-room : goal.add_cells-requires-clause-room
add_cells-requires-clause-room c = subst (λ reps. length reps ≤ spare c.args.pool.now) (sym c.as_slice.ensures) c.requires.room

pub add_cells-requires-clause-found : goal.add_cells-requires-clause-found
add_cells-requires-clause-found c =
    let (odd, classes, found, are) = c.requires.found in (
      allowed_at c.args.p.now.allowed c.args.node,
      λ inverts. classes (behind inverts odd),
      subst (λ reps. HaveFound (allowed_at c.args.p.now.allowed c.args.node) reps (λ inverts. classes (behind inverts odd)) c.args.own.now c.args.other.now) (sym c.as_slice.ensures) found,
      λ inverts. bare_at c.args.p.now c.args.widths.now c.args.node (behind inverts odd) c.args.arena.now (classes (behind inverts odd)) (are (behind inverts odd)).0 (are (behind inverts odd)).1,
    )

pub returns-in_err-list-clause-turn : goal.returns-in_err-list-clause-turn
returns-in_err-list-clause-turn c =
    err_answers c.from_residual.result _ _ c.from_residual.ensures.0 (record {
      uses = restored_exchange c.args.arena.now c.add_cells.new.arena c.in_err-list.ensures.restored;
      others = c.in_err-list.ensures.others;
      spare = omega (arith, c.in_err-list.ensures.spare);
    })

pub returns-clause-turn : goal.returns-clause-turn
returns-clause-turn c =
    add_turn (search c.args.pool.now c.args.arena.now) (search c.add_cells.new.pool c.add_cells.new.arena) c.in_ok-list.list c.in_ok-list.ensures.uses c.in_ok-list.ensures.others
    c.in_ok-list.ensures.spare c.in_ok-list.ensures.list

pub returns-clause-best : goal.returns-clause-best
returns-clause-best c = λ odd classes found are.
    let allowed = allowed_at c.args.p.now.allowed c.args.node in
    let for_reps = subst (λ reps. HaveFound allowed reps (λ inverts. classes (behind inverts odd)) c.args.own.now c.args.other.now) (sym c.as_slice.ensures) found in
    made_best c.args.p.now c.args.widths.now c.requires.widths.are c.args.node odd c.requires.place classes (made_of c.args.arena.now) (made_of c.add_cells.new.arena)
    (items_of c.add_cells.new.pool c.in_ok-list.list) c.as_slice.result.now c.requires.node are c.as_slice.ensures
    (c.in_ok-list.ensures.undominated allowed (λ inverts. classes (behind inverts odd)) for_reps) (c.in_ok-list.ensures.attained allowed (λ inverts. classes (behind inverts odd)) for_reps)

pub returns-clause-few : goal.returns-clause-few
returns-clause-few c = subst (λ reps. length (items_of c.add_cells.new.pool c.in_ok-list.list) ≤ length reps) c.as_slice.ensures c.in_ok-list.ensures.few
