use Rattle.std.proofs.Common.{sym, ◌∙◌}
use Rattle.vg_place.proofs.CellLemmas.{good_is_placed}
use Rattle.vg_place.proofs.PutLemmas.{put_bare, put_celled}
use Rattle.vg_place.proofs.judging.put_cells.Goals as goal

pub returns-then-count_cells-eq0 : goal.returns-then-count_cells-eq0
returns-then-count_cells-eq0 c =
    put_bare c.args.changes c.args.net.now c.args.placement.now.cells (sym c.count_cells.ensures ∙ c.if-count_cells-eq0.true)

pub put-requires-clause-placed : goal.put-requires-clause-placed
put-requires-clause-placed c = good_is_placed c.args.net.now.problem c.args.placement.now.cells c.requires.good

pub returns : goal.returns
returns c =
    put_celled c.args.changes c.in_ok-changes.changes c.args.net.now c.args.placement.now.cells
    (λ none. c.if-count_cells-eq0.false (c.count_cells.ensures ∙ none)) c.in_ok-changes.ensures
