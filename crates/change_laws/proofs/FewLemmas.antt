-- Cells that are put into nets of a file are few enough to be numbered.
use Rattle.std.proofs.Common.{ℕ, ◌+◌, ◌-◌, ◌*◌, ◌<◌, ◌≤◌, ◌^◌, List, [], ◌∷◌, length, refl, ap, arith}
use Rattle.std.proofs.lemmas.List.{length-append, length-map}
use Rattle.std.proofs.lemmas.List.FromFn.{length-range_with_len}
use Rattle.std.proofs.lemmas.Slice.Zip.{AllZip-long}
use Rattle.spef_file.specs.Indexes.{IsIndexOf}
use Rattle.spef_file.specs.declared.spef_index.SpefIndex.{SpefIndex}
use Rattle.vg_change.specs.Changes.{Changes, HavePut, nothing, split_behind}
use Rattle.vg_change.specs.Placed.{PlacedNet, cell_stages, cells_of, new_cell}
use Rattle.change_spef_laws.proofs.EditLemmas.{rising_edits}
use Rattle.change_spef_laws.proofs.FewLemmas.{few_sections, split_count}
use Rattle.change_spef_laws.specs.Nets.{IsChangeBy, splits}
use Rattle.change_spef_laws.specs.Replaced.{IsReplacedBy}
use Rattle.vg_design.specs.Designs.{Design}
use Rattle.vg_split.specs.Splits.{Split, forest}
use Rattle.vg_split.specs.Stages.{heads}
use Rattle.vg_split.proofs.StageLists.{few_heads}

-- the cells of a net are no more than the nodes of a tree
few_cells : (x : Split) → length (cell_stages x) ≤ 65536
few_cells x =
    omega (arith, length-range_with_len 1 (length (heads (forest x)) - 1), few_heads (forest x) (length x.problem.tree.nodes), x.problem.within.nodes)

cells_by : (old new : Changes) (nets : List PlacedNet) → HavePut old nets new → length new.cells ≤ length old.cells + 65536 * length nets
cells_by old new [] put = omega (arith, ap (λ (c : Changes). length c.cells) put)
cells_by old new (p ∷ nets) (mid, one, more) =
    let x = split_behind old p in
    omega (
      arith,
      cells_by mid new nets more,
      ap (λ (c : Changes). length c.cells) one.is,
      length-append old.cells (cells_of old.design.netlist p.net.id x),
      length-map (cell_stages x) (new_cell old.design.netlist p.net.id x),
      few_cells x,
    )

-- there are no more nets than sections
few_by : (d : Design) (prefix : List ℕ) (nets : List PlacedNet) (c : Changes) (index : SpefIndex) → IsChangeBy d prefix nets c → IsIndexOf d.spef index → length nets ≤ 2 ^ 28
few_by d prefix nets c index by of =
    let (are, rise) = rising_edits d.spef index (nothing d prefix) c nets (length c.design.spef) of by.put refl refl by.keeps.rise in
    omega (
      arith,
      few_sections d.spef index of are.rs rise are.rows,
      AllZip-long (IsReplacedBy index.header.chars) (splits d prefix 0 nets) are.rs are.each,
      split_count d prefix 0 nets,
    )

few_nets : (d : Design) (prefix : List ℕ) (nets : List PlacedNet) (c : Changes) → IsChangeBy d prefix nets c → length nets ≤ 2 ^ 28
few_nets d prefix [] c by = omega arith
few_nets d prefix (p ∷ nets) c by = few_by d prefix (p ∷ nets) c by.put.1.is_section.index by by.put.1.is_section.named.index_of

pub few : (d : Design) (prefix : List ℕ) (nets : List PlacedNet) (c : Changes) → IsChangeBy d prefix nets c → length c.cells < 2 ^ 63
few d prefix nets c by = omega (arith, few_nets d prefix nets c by, cells_by (nothing d prefix) c nets by.put)
