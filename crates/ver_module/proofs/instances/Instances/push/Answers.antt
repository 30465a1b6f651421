use Rattle.std.proofs.Common.{◌≡◌, ◌<◌, ◌^◌, ◌++◌, ◌∷◌, [], suc, length, arith, rules}
use Rattle.ver_module.proofs.PushLemmas.{Shows, pushed, shows_same, tables, with_cell}
use Rattle.ver_module.proofs.instances.Instances.push.Goals as goal

-- where there is no room for the instance
still : (c : goal.In_default)
    → Shows (tables c.cell_number.new.names c.self.inside.pin_names c.self.inside.many.items c.self.inside.pins.items) c.push_row.new.names c.push_row.new.rows.items c.args.self.now
still c =
    shows_same (tables c.cell_number.new.names c.self.inside.pin_names c.self.inside.many.items c.self.inside.pins.items) c.push_row.new.names c.self.inside.names
    c.push_row.new.rows.items c.self.inside.rows.items c.args.self.now c.in_default.ensures.same_names c.in_default.ensures.same_rows
    (with_cell c.self.inside.cells c.self.inside.pin_names c.self.inside.many.items c.self.inside.names c.self.inside.rows.items c.self.inside.pins.items c.args.self.now
    (record { are = c.self.invariant; is = c.self.view_is }) c.cell_number.new.names c.args.cell.now c.in_ok-cell.ensures.names)

pub invariant_of-self-in_default : goal.invariant_of-self-in_default
invariant_of-self-in_default c = let h = still c in h.are

pub returns-in_default-clause-unchanged : goal.returns-in_default-clause-unchanged
returns-in_default-clause-unchanged c = let h = still c in h.is

-- where it is put last
more : (c : goal.In-Ok)
    → Shows (tables c.cell_number.new.names c.self.inside.pin_names c.self.inside.many.items c.self.inside.pins.items) c.push_row.new.names c.push_row.new.rows.items
    (c.args.self.now ++ (record { name = c.args.name.now; cell = c.args.cell.now; pins = [] }) ∷ [])
more c =
    let h = with_cell c.self.inside.cells c.self.inside.pin_names c.self.inside.many.items c.self.inside.names c.self.inside.rows.items c.self.inside.pins.items c.args.self.now
    (record { are = c.self.invariant; is = c.self.view_is }) c.cell_number.new.names c.args.cell.now c.in_ok-cell.ensures.names in
    let from : c.len-pins.result ≡ length c.self.inside.pins.items = search rules in
    let count : c.len.result ≡ length c.self.inside.rows.items = search rules in
    let few : suc (length c.self.inside.rows.items) < 2 ^ 32 = omega (arith, count, c.if-len-ge-MOST.false) in
    let p = pushed (tables c.cell_number.new.names c.self.inside.pin_names c.self.inside.many.items c.self.inside.pins.items) c.self.inside.names c.self.inside.rows.items c.args.self.now
    c.args.name.now c.args.cell.now c.in_ok-cell.cell c.len-pins.result h c.in_ok-cell.ensures.number from few in
    shows_same (tables c.cell_number.new.names c.self.inside.pin_names c.self.inside.many.items c.self.inside.pins.items) c.push_row.new.names _
    c.push_row.new.rows.items _ _ c.in-Ok.ensures.name c.in-Ok.ensures.row p

pub invariant_of-self-2 : goal.invariant_of-self-2
invariant_of-self-2 c = let h = more c in h.are

pub returns-clause-last : goal.returns-clause-last
returns-clause-last c = let h = more c in h.is
