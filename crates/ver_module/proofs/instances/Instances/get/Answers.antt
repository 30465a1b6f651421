use Rattle.std.proofs.Common.{◌≡◌, ◌<◌, ◌+◌, ℕ, List, length, get_or, drop, sym, ap, ◌∙◌, subst, arith, rules}
use Rattle.std.specs.Prelude.{slice_get, vec_len}
use Rattle.ver_module.specs.Flat.{Tables, pins_end}
use Rattle.ver_module.specs.declared.instances.InstanceRow.{InstanceRow}
use Rattle.std.specs.List.{between}
use Rattle.ver_module.specs.Netlists.{Instance}
use Rattle.ver_module.proofs.InstanceLemmas.{count_instances, get_instance, instance_seen, stands_at}
use Rattle.ver_module.proofs.instances.Instances.get.Goals as goal

pub index-row-requires : goal.index-row-requires
index-row-requires c =
    let e : vec_len c.self.inside.rows ≡ length c.self.inside.rows.items = search rules in
    let tables : Tables = record { cells = c.self.inside.cells; pin_names = c.self.inside.pin_names; many = c.self.inside.many.items; pins = c.self.inside.pins.items } in
    omega (arith, e, c.requires, count_instances tables c.self.inside.names c.self.inside.rows.items c.self.invariant.count, ap length c.self.view_is)

pub end_of-end-requires : goal.end_of-end-requires
end_of-end-requires c =
    let tables : Tables = record { cells = c.self.inside.cells; pin_names = c.self.inside.pin_names; many = c.self.inside.many.items; pins = c.self.inside.pins.items } in
    omega (arith, c.requires, ap length c.deref.ensures.value, count_instances tables c.self.inside.names c.self.inside.rows.items c.self.invariant.count, ap length c.self.view_is)

pub get-requires : goal.get-requires
get-requires c =
    let tables : Tables = record { cells = c.self.inside.cells; pin_names = c.self.inside.pin_names; many = c.self.inside.many.items; pins = c.self.inside.pins.items } in
    omega (arith, c.requires, c.self.invariant.count, count_instances tables c.self.inside.names c.self.inside.rows.items c.self.invariant.count, ap length c.self.view_is)

pub name-requires : goal.name-requires
name-requires c =
    let tables : Tables = record { cells = c.self.inside.cells; pin_names = c.self.inside.pin_names; many = c.self.inside.many.items; pins = c.self.inside.pins.items } in
    let low : c.args.at < length c.self.inside.rows.items =
    omega (arith, c.requires, count_instances tables c.self.inside.names c.self.inside.rows.items c.self.invariant.count, ap length c.self.view_is) in
    let s = stands_at tables c.self.inside.rows.items c.args.at c.index-row.result.now c.self.invariant.stand low in
    subst (λ (row : InstanceRow). row.cell < length c.self.inside.cells) (sym c.index-row.ensures) s.cell

pub part-requires-clause-few : goal.part-requires-clause-few
part-requires-clause-few c = omega (arith, c.self.invariant.few_pins, ap length c.deref-3.ensures.value)

-- where the pins end
ends_at : (rows its : List InstanceRow) (all end pins : ℕ) (at : ℕ) → rows ≡ its → all ≡ pins → end ≡ pins_end all (drop (at + 1) rows) → end ≡ pins_end pins (drop (at + 1) its)
ends_at rows its all end pins at e f g = g ∙ (λ i. pins_end (f i) (drop (at + 1) (e i)))

pub part-requires-clause-from : goal.part-requires-clause-from
part-requires-clause-from c =
    let tables : Tables = record { cells = c.self.inside.cells; pin_names = c.self.inside.pin_names; many = c.self.inside.many.items; pins = c.self.inside.pins.items } in
    let low : c.args.at < length c.self.inside.rows.items =
    omega (arith, c.requires, count_instances tables c.self.inside.names c.self.inside.rows.items c.self.invariant.count, ap length c.self.view_is) in
    let s = stands_at tables c.self.inside.rows.items c.args.at c.index-row.result.now c.self.invariant.stand low in
    let all : c.len.result ≡ length c.self.inside.pins.items = search rules in
    let e = ends_at c.deref.result.now c.self.inside.rows.items c.len.result c.end_of-end.result (length c.self.inside.pins.items) c.args.at c.deref.ensures.value all c.end_of-end.ensures in
    let row : (get_or c.self.inside.rows.items c.args.at c.index-row.result.now).pins ≡ c.index-row.result.now.pins = ap (λ (r : InstanceRow). r.pins) (sym c.index-row.ensures) in
    let from = s.from in
    omega (arith, from, e, row)

pub part-requires-clause-to : goal.part-requires-clause-to
part-requires-clause-to c =
    let tables : Tables = record { cells = c.self.inside.cells; pin_names = c.self.inside.pin_names; many = c.self.inside.many.items; pins = c.self.inside.pins.items } in
    let low : c.args.at < length c.self.inside.rows.items =
    omega (arith, c.requires, count_instances tables c.self.inside.names c.self.inside.rows.items c.self.invariant.count, ap length c.self.view_is) in
    let s = stands_at tables c.self.inside.rows.items c.args.at c.index-row.result.now c.self.invariant.stand low in
    let all : c.len.result ≡ length c.self.inside.pins.items = search rules in
    let e = ends_at c.deref.result.now c.self.inside.rows.items c.len.result c.end_of-end.result (length c.self.inside.pins.items) c.args.at c.deref.ensures.value all c.end_of-end.ensures in
    let to = s.to in
    omega (arith, to, e, ap length c.deref-3.ensures.value)

pub returns : goal.returns
returns c =
    let tables : Tables = record { cells = c.self.inside.cells; pin_names = c.self.inside.pin_names; many = c.self.inside.many.items; pins = c.self.inside.pins.items } in
    let low : c.args.at < length c.self.inside.rows.items =
    omega (arith, c.requires, count_instances tables c.self.inside.names c.self.inside.rows.items c.self.invariant.count, ap length c.self.view_is) in
    let all : c.len.result ≡ length c.self.inside.pins.items = search rules in
    let e = ends_at c.deref.result.now c.self.inside.rows.items c.len.result c.end_of-end.result (length c.self.inside.pins.items) c.args.at c.deref.ensures.value all c.end_of-end.ensures in
    let end = pins_end (length tables.pins) (drop (c.args.at + 1) c.self.inside.rows.items) in
    let pins : c.part.result.now ≡ between c.index-row.result.now.pins end tables.pins =
    c.part.ensures ∙ (λ i. between c.index-row.result.now.pins (e i) (c.deref-3.ensures.value i)) in
    ap (λ (is : List Instance). slice_get is c.args.at) (sym c.self.view_is)
    ∙ get_instance tables c.self.inside.names c.self.inside.rows.items c.args.at c.index-row.result.now c.self.invariant.count low
    ∙ instance_seen tables end c.index-row.result.now _ c.get.result.now _ c.name.result.now c.deref-2.result.now c.part.result.now c.index-row.ensures c.get.ensures c.name.ensures c.deref-2.ensures.value pins
