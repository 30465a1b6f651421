use Rattle.std.proofs.Common.{[], ◌∷◌, sym, subst, List}
use Rattle.sol_arena.specs.Arenas.{slots_of}
use Rattle.sol_arena.specs.declared.slot.Slot.{Slot}
use Rattle.vg_front.specs.declared.offer.Candidate.{Candidate}
use Rattle.vg_front.specs.Making.{IsMade}
use Rattle.vg_front.proofs.HeldLemmas.{given_then}
use Rattle.vg_front.proofs.MakeLemmas.{solution_made, made_held, on_err}
use Rattle.vg_front.proofs.make.add.Goals as goal

pub put-requires : goal.put-requires
put-requires c =
    record {
      held = made_held (slots_of c.args.arena.now) (slots_of c.solution.new.arena) (record { offer = c.args.x.offer; sol = c.in_ok-sol.sol })
          (solution_made (slots_of c.args.arena.now) (slots_of c.solution.new.arena) c.args.x c.in_ok-sol.sol c.in_ok-sol.ensures.made).given;
    }

pub returns-clause-added : goal.returns-clause-added
returns-clause-added c =
    let z : Candidate = record { offer = c.args.x.offer; sol = c.in_ok-sol.sol } in (
      z,
      c.in_ok-put.ensures.put,
      subst (λ (slots : List Slot). IsMade (slots_of c.args.arena.now) slots c.args.x z) (sym c.in_ok-put.ensures.same)
          (solution_made (slots_of c.args.arena.now) (slots_of c.solution.new.arena) c.args.x c.in_ok-sol.sol c.in_ok-sol.ensures.made),
    )

pub returns-in_err-put-clause-gone : goal.returns-in_err-put-clause-gone
returns-in_err-put-clause-gone c =
    let z : Candidate = record { offer = c.args.x.offer; sol = c.in_ok-sol.sol } in
    on_err c.from_residual-in_err-put.result _ (
    given_then (slots_of c.args.arena.now) (slots_of c.solution.new.arena) (slots_of c.put.new.arena) [] (z ∷ []) []
    (solution_made (slots_of c.args.arena.now) (slots_of c.solution.new.arena) c.args.x c.in_ok-sol.sol c.in_ok-sol.ensures.made).given
    c.in_err-put.ensures.gone)
