use Rattle.std.proofs.Common.{◌≡◌, ◌<◌, ◌^◌, [], suc, List, length, sym, ◌∙◌, subst, append-nil, arith, rules}
use Rattle.ver_module.specs.declared.instances.PinRow.{PinRow}
use Rattle.ver_module.specs.Flat.{several}
use Rattle.ver_module.specs.Netlists.{Pin, with_pin}
use Rattle.ver_module.proofs.PushLemmas.{Shows, pin_pushed, tables, with_parts}
use Rattle.ver_module.proofs.instances.Instances.push_pin.Goals as goal

-- where there is no room for the nets of its link
unlinked : (c : goal.After-from_residual-in_err-link)
    → Shows (tables c.self.inside.cells c.pin_number.new.names c.keep.new.many.items c.self.inside.pins.items) c.self.inside.names c.self.inside.rows.items c.args.self.now
unlinked c =
    with_parts c.self.inside.cells c.self.inside.pin_names c.self.inside.many.items c.self.inside.names c.self.inside.rows.items c.self.inside.pins.items c.args.self.now
    (record { are = c.self.invariant; is = c.self.view_is }) c.pin_number.new.names c.keep.new.many.items c.args.name.now [] c.in_ok-name.ensures.names
    (c.in_err-link.ensures.unchanged ∙ sym (append-nil c.self.inside.many.items))

pub invariant_of-self-in_err-link : goal.invariant_of-self-in_err-link
invariant_of-self-in_err-link c = let h = unlinked c in h.are

pub returns-in_err-link-clause-unchanged : goal.returns-in_err-link-clause-unchanged
returns-in_err-link-clause-unchanged c = let h = unlinked c in let is = h.is in search rules

-- where there is no room for the pin
still : (c : goal.In_default)
    → Shows (tables c.self.inside.cells c.pin_number.new.names c.keep.new.many.items c.push.new.self.items) c.self.inside.names c.self.inside.rows.items c.args.self.now
still c =
    subst (λ (ps : List PinRow). Shows (tables c.self.inside.cells c.pin_number.new.names c.keep.new.many.items ps) c.self.inside.names c.self.inside.rows.items c.args.self.now)
    (sym c.in_default.ensures.items)
    (with_parts c.self.inside.cells c.self.inside.pin_names c.self.inside.many.items c.self.inside.names c.self.inside.rows.items c.self.inside.pins.items c.args.self.now
    (record { are = c.self.invariant; is = c.self.view_is }) c.pin_number.new.names c.keep.new.many.items c.args.name.now (several c.args.link) c.in_ok-name.ensures.names
    c.in_ok-link.ensures.nets)

pub invariant_of-self-in_default : goal.invariant_of-self-in_default
invariant_of-self-in_default c = let h = still c in h.are

pub returns-in_default-clause-unchanged : goal.returns-in_default-clause-unchanged
returns-in_default-clause-unchanged c = let h = still c in h.is

-- where the pin is put last
more : (c : goal.In-Ok)
    → Shows (tables c.self.inside.cells c.pin_number.new.names c.keep.new.many.items c.push.new.self.items) c.self.inside.names c.self.inside.rows.items (with_pin c.args.self.now (record { name = c.args.name.now; span = c.args.span; link = c.args.link }))
more c =
    let h = with_parts c.self.inside.cells c.self.inside.pin_names c.self.inside.many.items c.self.inside.names c.self.inside.rows.items c.self.inside.pins.items c.args.self.now
    (record { are = c.self.invariant; is = c.self.view_is }) c.pin_number.new.names c.keep.new.many.items c.args.name.now (several c.args.link) c.in_ok-name.ensures.names
    c.in_ok-link.ensures.nets in
    let count : c.len.result ≡ length c.self.inside.pins.items = search rules in
    let few : suc (length c.self.inside.pins.items) < 2 ^ 32 = omega (arith, count, c.if-len-ge-MOST.false) in
    let row : PinRow = record { name = c.in_ok-name.name; from = c.in_ok-from.from; to = c.in_ok-to.to; link = c.in_ok-link.link } in
    let pin : Pin = record { name = c.args.name.now; span = c.args.span; link = c.args.link } in
    pin_pushed c.self.inside.cells c.pin_number.new.names c.keep.new.many.items c.self.inside.names c.self.inside.rows.items c.self.inside.pins.items
    c.push.new.self.items c.args.self.now row pin h c.in_ok-name.ensures.number c.in_ok-from.ensures c.in_ok-to.ensures
    c.in_ok-link.ensures.kept c.in_ok-link.ensures.link few c.in-Ok.ensures.items

pub invariant_of-self-2 : goal.invariant_of-self-2
invariant_of-self-2 c = let h = more c in h.are

pub returns-clause-last : goal.returns-clause-last
returns-clause-last c = let h = more c in h.is
