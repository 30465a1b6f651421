use Rattle.std.proofs.Common.{refl}
use Rattle.std.proofs.lemmas.Bool.{false≢true}
use Rattle.cand_pairs.specs.Parts.{list_of}
use Rattle.vg_cert.specs.Fits.{list_of as entries_of}
use Rattle.vg_check.proofs.CoverLemmas.{owns_bare, owns_cells, owns_from}
use Rattle.vg_check.proofs.cover.covers_owns.Goals as goal

pub returns-then-not-covers_joins : goal.returns-then-not-covers_joins
returns-then-not-covers_joins c = (
  λ is. absurd (false≢true is),
  λ covers. absurd (false≢true (c.if-not-covers_joins.ensures.1
      (owns_bare c.args.p.now c.args.node (list_of c.args.joins.now) (entries_of c.args.lists.now) covers))),
)

pub returns : goal.returns
returns c = (
  λ is. owns_from c.args.p.now c.args.node (list_of c.args.joins.now) (entries_of c.args.lists.now) (c.if-not-covers_joins.ensures.0 refl)
      (c.in_ok-covers.ensures.0 is),
  λ covers. c.in_ok-covers.ensures.1 (owns_cells c.args.p.now c.args.node (list_of c.args.joins.now) (entries_of c.args.lists.now) covers),
)
