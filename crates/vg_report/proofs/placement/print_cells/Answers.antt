use Rattle.std.proofs.Common.{ℕ, List, [], sym, ap, ◌∙◌, Option, None, slice_index_or}
use Rattle.std.proofs.lemmas.List.{get_or-map}
use Rattle.std.proofs.lemmas.Result.{err_from_is_err_and}
use Rattle.lib_linear.specs.declared.repeater.Repeater.{Repeater}
use Rattle.vg_design.specs.Parts.{cells_of}
use Rattle.vg_report.proofs.BegunLemmas.{begun_after}
use Rattle.vg_report.proofs.ReportLemmas.{cell_more, none_more}
use Rattle.vg_report.proofs.placement.print_cells.Goals.{in-Some+in_ok-print_at, in_default}
use Rattle.vg_report.proofs.placement.print_cells.Goals as goal

pub node-preserved : goal.node-preserved
node-preserved c =
    let cells = cells_of c.args.repeaters.now in
    let names = c.args.names.now in
    let placed = c.args.placement.now.cells in
    let read = ap (λ (some : List (Option ℕ)). slice_index_or some c.node.at None) (sym c.as_slice-cells.ensures) in
    let before = c.args.to.now.items in
    let text = c.node.to.items in
    let at = c.node.at in
    elim c.match-cells-at.branch [
      | in-Some+in_ok-print_at w ↦
          let has = read ∙ w.in-Some.is in
          let rep = w.index-repeaters-b.result in
          let named = get_or-map (λ (r : Repeater). r.cell) c.args.repeaters.now w.in-Some.b rep [] (c.requires.named at w.in-Some.b has) in
          ap (λ to. to.items) w.to-is ∙ w.in_ok-print_at.ensures.printed
          ∙ cell_more cells names placed before text at w.in-Some.b w.owner.result.now w.leaf.result.now w.as_bytes-cell.result.now has w.owner.ensures w.leaf.ensures
          (w.as_bytes-cell.ensures ∙ sym named) c.node.invariant
      | in_default w ↦ ap (λ to. to.items) w.to-is ∙ none_more cells names placed before text at (read ∙ w.in_default.is) c.node.invariant
    ]

pub returns-in_err-print_at-clause-begun : goal.returns-in_err-print_at-clause-begun
returns-in_err-print_at-clause-begun c =
    let p = err_from_is_err_and c.from_residual.result c.from_residual.ensures.1 in
    rw p.1 (begun_after c.args.to.now.items _ c.node.to.items c.print_at.new.to.items c.node.invariant c.in_err-print_at.ensures.begun)
