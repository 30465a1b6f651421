-- What a change keeps while cells are put into the nets of a design in the order of its parasitics.
use Rattle.std.proofs.Common.{◌≡◌, ℕ, zero, suc, ◌+◌, ◌*◌, ◌<◌, ◌≤◌, ◌^◌, List, [], ◌∷◌, ◌++◌, length, refl, sym, ap, ◌∙◌, subst, arith, Option, Some, None}
use Rattle.std.specs.List.{slice_get}
use Rattle.std.proofs.lemmas.Option.{same_Some, slice_get-get_or, slice_get_within}
use Rattle.elmore.specs.Legal.{IsPlaced}
use Rattle.elmore.specs.Placements.{IsPlacement}
use Rattle.spef_file.specs.Indexes.{IsIndexOf}
use Rattle.spef_file.specs.Tables.{NetRow}
use Rattle.spef_file.specs.declared.spef_index.SpefIndex.{SpefIndex}
use Rattle.vg_change.specs.Changes.{Changes, HasPut, IsBehind, IsChange, IsFresh, split_behind}
use Rattle.vg_change.specs.Placed.{PlacedNet}
use Rattle.vg_change.specs.Steps.{placed_net}
use Rattle.vg_change.proofs.PutLemmas.{rise_last}
use Rattle.vg_change.proofs.RewirableLemmas.{rewirable_more}
use Rattle.vg_change.proofs.RowLemmas.{name_is, section_within}
use Rattle.vg_design.specs.Designs.{Design, net_names}
use Rattle.vg_design.specs.Nets.{IsPosedNet}
use Rattle.vg_design.specs.declared.net_problem.PosedNet.{PosedNet}
use Rattle.vg_patch.specs.Edits.{Edit, Rise}
use Rattle.vg_split.specs.Conditions.{IsSplit}
use Rattle.vg_split.specs.Splits.{Split}
use Rattle.spef_patch_laws.proofs.IndexLemmas.{span_at}
use Rattle.change_spef_laws.proofs.EditLemmas.{cell_count}
use Rattle.change_spef_laws.proofs.FewLemmas.{few_cells, lines_rise}
use Rattle.change_spef_laws.proofs.OrderLemmas.{net_place, open_later, open_put, row_name}
use Rattle.change_spef_laws.proofs.SplitLemmas.{split_is}
use Rattle.change_spef_laws.specs.Nets.{IsPlacedNet}
use Rattle.change_spef_laws.specs.Order.{AreOpenFrom}

-- ---- one net more

module _ (c new : Changes) (keeps : IsChange c) (p : PlacedNet) (is : IsPlacedNet c.design p) (behind : IsBehind c p.net.par.name) (fresh : IsFresh c p.net.id)
    (few : length c.cells < 2 ^ 63) (put : HasPut c p new) where
  abbrev x : Split
  x = split_behind c p

  split : IsSplit x
  split = split_is c keeps p is (length c.cells) few

  rises : Rise 0 (length c.design.spef) (c.sections ++ put.section ∷ [])
  rises =
      let edit = put.is_section in
      let within = section_within c.design edit.index x.par.name edit.section edit.named.index_of edit.named.row in
      let past = behind edit.index edit.section edit.named in
      let from = ap (λ (f : Edit). f.from) edit.is in
      let to = ap (λ (f : Edit). f.to) edit.is in
      rise_last 0 c.sections put.section (length c.design.spef) keeps.rise (omega arith) (omega (arith, past, from)) (omega (arith, within.0, from, to))
      (omega (arith, within.1, to))

  pub keeps_put : IsChange new
  keeps_put = subst IsChange (sym put.is) (record {
    prefix = keeps.prefix;
    free = keeps.free;
    repeaters = keeps.repeaters;
    rise = rises;
    rewirable = rewirable_more c.design.netlist p.net x split refl c.rewires keeps.rewirable fresh;
  })

  pub cells_put : length new.cells ≤ length c.cells + 65536
  cells_put =
      let count = ap (λ (s : Changes). length s.cells) put.is in
      omega (arith, count, cell_count c p x, few_cells x)

-- ---- a net stands behind as many others as its place tells

module _ (text : List ℕ) (index : SpefIndex) (of : IsIndexOf text index) where
  place_few : (k : ℕ) (row : NetRow) → slice_get index.sections k ≡ Some row → k < row.1.line
  place_few zero row here = (let number = (span_at text index of 0 row here).number in omega (arith, number))
  place_few (suc k) row here =
      let low = slice_get_within index.sections (suc k) row here in
      let before = slice_get-get_or index.sections k row (omega (arith, low)) in
      let rise = lines_rise text index of k (suc k) (Rattle.std.proofs.Common.get_or index.sections k row) row before here (omega arith) in
      omega (arith, rise, place_few k (Rattle.std.proofs.Common.get_or index.sections k row) before)

  pub place_low : (k : ℕ) (row : NetRow) → slice_get index.sections k ≡ Some row → k < 2 ^ 28
  place_low k row here = (let number = (span_at text index of k row here).number in omega (arith, number, place_few k row here))

-- ---- all nets

-- cells were put into nets before this place
pub record IsUnderWay (c : Changes) (at : ℕ) : Type 0 where
  pub keeps : IsChange c
  pub free : AreOpenFrom c at
  pub few : length c.cells ≤ 65536 * at

pub way_later : (c : Changes) (at : ℕ) → IsUnderWay c at → IsUnderWay c (at + 1)
way_later c at way = record { keeps = way.keeps; free = open_later c at way.free; few = (let few = way.few in omega (arith, few)) }

pub way_put : (c new : Changes) (at : ℕ) (name : List ℕ) (posed : PosedNet) (cells : List (Option ℕ)) → IsUnderWay c at
    → slice_get (net_names c.design.spef) at ≡ Some name → IsPosedNet c.design name posed → IsPlacement posed.problem cells → IsPlaced posed.problem cells
    → HasPut c (placed_net posed cells) new → IsUnderWay new (at + 1)
way_put c new at name posed cells way here is placement placed put =
    let p = placed_net posed cells in
    let edit = put.is_section in
    let index = edit.index in
    let of = edit.named.index_of in
    let (i, i_low, own) = edit.named.row in
    let row : NetRow = (p.net.par.name, edit.section) in
    let at_i : slice_get index.sections i ≡ Some row = slice_get-get_or index.sections i row i_low ∙ ap Some own in
    let named : p.net.par.name ≡ name = sym (name_is c.design.spef name p.net.par is.joined.named) in
    let same : i ≡ at = net_place c.design.spef is.joined.named.file i at name is.joined.named.head_of.said (row_name c.design.spef index of i row at_i ∙ ap Some named) here in
    let low = place_low c.design.spef index of i row at_i in
    let few = way.few in
    let small : length c.cells < 2 ^ 63 = omega (arith, few, same, low) in
    let placed_is : IsPlacedNet c.design p = record { name = name; posed = posed; net = is; placement = placement; placed = placed; is = refl } in
    let both = way.free at name (omega arith) here posed.ready.pinned.net is.joined in
    record {
      keeps = keeps_put c new way.keeps p placed_is both.0 both.1 small put;
      free = open_put c new at name way.free here posed is cells put;
      few = (let more = cells_put c new way.keeps p placed_is both.0 both.1 small put in omega (arith, few, more));
    }
