use Rattle.std.proofs.Common.{◌∙◌, length, None, slice_index_or, rules}
use Rattle.std.specs.Prelude.{flat_map}
use Rattle.vg_cert.specs.Written.{line_text, cell_lines, text_in}
use Rattle.vg_cert.proofs.WriteLemmas.{grown, turn_more, turns_done}
use Rattle.vg_cert.proofs.write.write_cells.Goals as goal

pub node-preserved : goal.node-preserved
node-preserved c =
    turn_more (λ v. flat_map line_text (cell_lines c.args.names.now v (slice_index_or c.args.cells.now v None))) (length c.args.cells.now) c.node.v (text_in c.args.to.now) (text_in c.node.to) (text_in c.close_full.new.self) (search rules) c.node.invariant
    (c.in_ok-close_full.ensures ∙ grown c.node.to.closed.items c.node.to.last.items c.write_cell.new.to.items _ c.in_ok-write_cell.ensures)

pub returns : goal.returns
returns c = turns_done (λ v. flat_map line_text (cell_lines c.args.names.now v (slice_index_or c.args.cells.now v None))) (length c.args.cells.now) c.node.v (text_in c.args.to.now) (text_in c.node.to) (search rules) c.node.invariant
