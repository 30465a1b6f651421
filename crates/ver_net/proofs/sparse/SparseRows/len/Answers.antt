use Rattle.std.proofs.Common.{◌∙◌, sym, ap, length}
use Rattle.std.proofs.lemmas.List.FromFn.{length-map-range_with_len}
use Rattle.ver_net.specs.Tables.{row_kept}
use Rattle.ver_net.proofs.sparse.SparseRows.len.Goals as goal

pub returns : goal.returns
returns c = sym (length-map-range_with_len (row_kept c.self.inside.rows) 0 c.self.inside.count) ∙ ap length c.self.view_is
