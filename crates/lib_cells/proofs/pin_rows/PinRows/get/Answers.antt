use Rattle.std.proofs.Common.{◌∙◌, List, length, slice_get, sym, ap, arith}
use Rattle.lib_cells.specs.PinInfos.{PinInfo}
use Rattle.lib_cells.proofs.PinTableLemmas.{length-pins_in, number_within, pin_read}
use Rattle.lib_cells.proofs.pin_rows.PinRows.get.Goals as goal

pub index-requires : goal.index-requires
index-requires c =
    let table = c.self.inside.table in
    let size = length-pins_in table.groups.items table.names table.numbers.items c.self.invariant.0.one_each in
    let all = ap length c.self.view_is in
    omega (arith, size, all, c.self.invariant.0.one_each)

pub get-requires : goal.get-requires
get-requires c =
    let table = c.self.inside.table in
    let size = length-pins_in table.groups.items table.names table.numbers.items c.self.invariant.0.one_each in
    let all = ap length c.self.view_is in
    omega (arith, size, all)

pub index-requires-2 : goal.index-requires-2
index-requires-2 c =
    let table = c.self.inside.table in
    let size = length-pins_in table.groups.items table.names table.numbers.items c.self.invariant.0.one_each in
    let all = ap length c.self.view_is in
    let within =
    number_within (length table.groups.items) table.numbers.items c.args.at c.index.result.now c.self.invariant.0.within
    (omega (arith, size, all, c.self.invariant.0.one_each)) c.index.ensures in
    omega (arith, within)

pub returns : goal.returns
returns c =
    let table = c.self.inside.table in
    let size = length-pins_in table.groups.items table.names table.numbers.items c.self.invariant.0.one_each in
    let all = ap length c.self.view_is in
    ap (λ (ps : List PinInfo). slice_get ps c.args.at) (sym c.self.view_is)
    ∙ pin_read table.groups.items table.names table.numbers.items c.args.at c.index.result.now c.get.result.now c.index-2.result.now
    c.self.invariant.0.one_each c.self.invariant.0.within (omega (arith, size, all)) c.index.ensures c.get.ensures c.index-2.ensures
