use Rattle.std.proofs.Common.{◌+◌, subst, ap, ℕ}
use Rattle.elmore.specs.Trees.{parent_of}
use Rattle.sol_arena.specs.Arenas.{made_of}
use Rattle.cand_turns.specs.Branches.{classes_in}
use Rattle.cand_turns.specs.Parts.{IsPart, load_beside}
use Rattle.cand_turns.specs.Solved.{IsCarriedAt}
use Rattle.cand_turns.proofs.PartLemmas.{live_dead}
use Rattle.cand_turns.proofs.part.Part.meet.Goals as goal

pub meet-requires-clause-lower : goal.meet-requires-clause-lower
meet-requires-clause-lower g c =
    subst (λ (k : ℕ). IsCarriedAt c.args.p.now c.args.widths.now c.args.node k (made_of c.args.arena.now) (classes_in c.args.pool.now c.args.branch))
    (ap load_beside c.in-Live.is) c.requires.carried

pub returns-in-Dead-clause-part : goal.returns-in-Dead-clause-part
returns-in-Dead-clause-part g c =
    live_dead c.args.p.now c.args.widths.now c.requires.widths.are c.args.node c.in-Dead.field-0 c.requires.below_root c.requires.node c.requires.live
    (subst (λ part. IsPart c.args.p.now c.args.widths.now (c.args.node + 1) (parent_of c.args.p.now.tree.nodes c.args.node) (made_of c.args.arena.now) c.args.pool.now part) c.in-Dead.is c.requires.part)
    (made_of c.args.arena.now) (classes_in c.args.pool.now c.args.branch)
    (subst (λ (k : ℕ). IsCarriedAt c.args.p.now c.args.widths.now c.args.node k (made_of c.args.arena.now) (classes_in c.args.pool.now c.args.branch))
    (ap load_beside c.in-Dead.is) c.requires.carried)
