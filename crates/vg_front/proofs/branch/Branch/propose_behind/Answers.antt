use Rattle.std.proofs.Common.{List, sym, subst}
use Rattle.vg_front.specs.Branches.{list_of}
use Rattle.vg_front.specs.Held.{AreBounded}
use Rattle.vg_front.specs.declared.offer.Candidate.{Candidate}
use Rattle.vg_front.proofs.CellLemmas.{usable_tried}
use Rattle.vg_front.proofs.branch.Branch.propose_behind.Goals as goal

pub try_all-requires-clause-bounded : goal.try_all-requires-clause-bounded
try_all-requires-clause-bounded c = subst (λ (xs : List Candidate). AreBounded xs) (sym c.list.ensures) c.requires.bounded

pub returns : goal.returns
returns c =
    usable_tried c.args.p.now c.args.node c.args.odd c.args.below c.args.cap (list_of c.args.self.now c.args.below) c.list.result.now c.as_slice.result.now
    c.in_ok-numbers.numbers.items c.deref.result.now c.args.fresh.now.items c.try_all.new.made.items c.as_slice.ensures c.deref.ensures.value c.list.ensures
    c.in_ok-numbers.ensures c.in_ok-try_all.ensures
