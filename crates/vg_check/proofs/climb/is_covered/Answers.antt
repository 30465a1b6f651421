use Rattle.std.proofs.Common.{◌+◌, Bool, List, arith, refl, subst}
use Rattle.std.specs.List.{AllPairs}
use Rattle.elmore.specs.Pairs.{IsBelow}
use Rattle.elmore.specs.declared.pair.Pair.{Pair}
use Rattle.cand_pairs.specs.Parts.{list_of}
use Rattle.vg_cert.specs.Fits.{list_of as entries_of, lists_in}
use Rattle.vg_check.specs.Parts.{IsPart}
use Rattle.vg_check.proofs.ClimbLemmas.{dead_covered, live_covered}
use Rattle.vg_check.proofs.PartLemmas.{lists_here, part_worked}
use Rattle.vg_check.proofs.climb.is_covered.Goals as goal

pub returns-in-Dead : goal.returns-in-Dead
returns-in-Dead c = (
  λ _. dead_covered c.args.p.now (lists_in c.args.lists.now) c.args.node _ c.requires.node
      (subst (IsPart c.args.p.now (lists_in c.args.lists.now) (c.args.node + 1) c.args.node) c.in-Dead.is c.requires.whole),
  λ _. refl,
)

pub covers_owns-requires-clause-lists : goal.covers_owns-requires-clause-lists
covers_owns-requires-clause-lists c =
    subst (λ (lists : Bool → List Pair). (odd : Bool) → AllPairs IsBelow (lists odd))
    (lists_here c.args.lists.now c.args.node c.index-lists-node.result (omega (arith, c.requires.node, c.requires.one_each)) c.index-lists-node.is)
    (λ odd. (c.requires.lists c.args.node odd).rising)

pub covers_owns-requires-clause-joins : goal.covers_owns-requires-clause-joins
covers_owns-requires-clause-joins c =
    part_worked c.args.p.now (lists_in c.args.lists.now) c.requires.lists c.args.node (c.args.node + 1) c.requires.node (list_of c.in-Live.joins)
    (subst (IsPart c.args.p.now (lists_in c.args.lists.now) (c.args.node + 1) c.args.node) c.in-Live.is c.requires.whole)

pub returns-in_ok-covered-in-Live : goal.returns-in_ok-covered-in-Live
returns-in_ok-covered-in-Live c =
    live_covered c.args.p.now (lists_in c.args.lists.now) c.args.node (list_of c.in-Live.joins) (entries_of c.index-lists-node.result)
    c.in_ok-covered-in-Live.covered c.requires.node
    (subst (IsPart c.args.p.now (lists_in c.args.lists.now) (c.args.node + 1) c.args.node) c.in-Live.is c.requires.whole)
    (lists_here c.args.lists.now c.args.node c.index-lists-node.result (omega (arith, c.requires.node, c.requires.one_each)) c.index-lists-node.is)
    c.in_ok-covered-in-Live.ensures
