use Rattle.std.proofs.Common.{◌∙◌, sym, true, false}
use Rattle.std.proofs.lemmas.Bool.{false≢true}
use Rattle.cand_pairs.specs.Parts.{list_of}
use Rattle.vg_cert.specs.Fits.{list_of as entries_of}
use Rattle.vg_check.proofs.CoverLemmas.{cells_from, from_cells}
use Rattle.vg_check.proofs.cover.covers_cells.Goals as goal

pub covers_from-requires-clause-pairs : goal.covers_from-requires-clause-pairs
covers_from-requires-clause-pairs c = rw c.deref.ensures.value (c.requires.joins false)

pub returns-then-not-branch : goal.returns-then-not-branch
returns-then-not-branch c =
    let e = rw c.deref.ensures.value at c.in_ok-covers_from.ensures in (
      λ is. absurd (false≢true is),
      λ covers. absurd (false≢true (sym c.if-not-branch.true ∙ e.1 (from_cells c.args.p.now c.args.node (list_of c.args.joins.now) (entries_of c.args.lists.now) false covers))),
    )

pub covers_from-requires-2-clause-pairs : goal.covers_from-requires-2-clause-pairs
covers_from-requires-2-clause-pairs c = rw c.deref-2.ensures.value (c.requires.joins true)

pub returns : goal.returns
returns c =
    let even = rw c.deref.ensures.value at c.in_ok-covers_from.ensures in
    let odds = rw c.deref-2.ensures.value at c.in_ok-covers.ensures in (
      λ is. cells_from c.args.p.now c.args.node (list_of c.args.joins.now) (entries_of c.args.lists.now) (even.0 c.if-not-branch.false) (odds.0 is),
      λ covers. odds.1 (from_cells c.args.p.now c.args.node (list_of c.args.joins.now) (entries_of c.args.lists.now) true covers),
    )
