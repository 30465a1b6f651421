use Rattle.std.proofs.Common.{sym, subst}
use Rattle.sol_arena.specs.Arenas.{slots_of}
use Rattle.vg_front.specs.declared.offer.Origin.{Origin}
use Rattle.vg_front.specs.Making.{IsSolutionOf}
use Rattle.vg_front.proofs.MakeLemmas.{cell_made, join_made}
use Rattle.vg_front.proofs.make.solution.Goals as goal

pub returns-in_ok-sol-in-Cell-clause-made : goal.returns-in_ok-sol-in-Cell-clause-made
returns-in_ok-sol-in-Cell-clause-made c =
    subst (λ (o : Origin). IsSolutionOf (slots_of c.args.arena.now) (slots_of c.cell.new.self) o c.in_ok-sol-in-Cell.sol) (sym c.in-Cell.is)
    (cell_made c.args.arena.now c.cell.new.self c.in-Cell.node c.in-Cell.rep c.in-Cell.below c.in_ok-sol-in-Cell.sol c.in_ok-sol-in-Cell.ensures.new)

pub returns-in_ok-sol-in-Join-clause-made : goal.returns-in_ok-sol-in-Join-clause-made
returns-in_ok-sol-in-Join-clause-made c =
    subst (λ (o : Origin). IsSolutionOf (slots_of c.args.arena.now) (slots_of c.join.new.self) o c.in_ok-sol-in-Join.sol) (sym c.in-Join.is)
    (join_made c.args.arena.now c.join.new.self c.in-Join.a c.in-Join.b c.in_ok-sol-in-Join.sol c.in_ok-sol-in-Join.ensures.empty
    c.in_ok-sol-in-Join.ensures.same c.in_ok-sol-in-Join.ensures.new)
