-- The connections of pins stand where the tokens of their instances do.
use Rattle.std.proofs.Common.{◌≡◌, ℕ, ◌≤◌, List, [], ◌∷◌, drop, arith}
use Rattle.std.specs.List.{flat_map, prefix_len}
use Rattle.ver_syntax.specs.declared.row.Place.TheVariants.{Connection, Instances, Pins}
use Rattle.ver_syntax.specs.declared.row.Row.{Row}
use Rattle.ver_module.specs.declared.link.Link.TheVariants.{One}
use Rattle.ver_module.specs.Netlists.{Instance, Pin}
use Rattle.ver_items.specs.Connections.{connection_of, end_of, expression_in, span_of}
use Rattle.ver_items.specs.Sections.{Section, is_name_in, instances_in, pins_in, stands_in}
use Rattle.ver_file.specs.Netlists.{instance_of, instances_by, link_of, pin_of}
use Rattle.ver_patch.specs.Laws.{StandsBetween}
use Rattle.ver_patch.proofs.StandLemmas.{Chain, Falls, SectionStands, Stand, chain_flat, chain_from, chain_map, sections_stand, stand_drop_one, stand_rest, stand_take}

-- the connection of a pin, where it is one net, stands between two places
abbrev pub PinStands : ℕ → ℕ → Pin → Type 0
PinStands from to pin = (net : ℕ) → pin.link ≡ One net → StandsBetween from to pin.span

-- so do those of an instance, one after another
abbrev pub InstanceStands : ℕ → ℕ → Instance → Type 0
InstanceStands from to instance = Chain PinStands from to instance.pins

pins_fall : Falls PinStands
pins_fall pin before from to low h net e = let s = h net e in record { behind = omega (arith, low, s.behind); some = s.some; before = s.before }

instances_fall : Falls InstanceStands
instances_fall instance before from to low h = chain_from PinStands pins_fall instance.pins before from to low h

-- ---- spans

end_stands : (rows : List Row) (from to : ℕ) → Stand from to rows → (from ≤ end_of from rows) × (end_of from rows ≤ to)
end_stands [] from to h = (omega arith, h)
end_stands (r ∷ []) from to h = (omega arith, omega (arith, h.0, h.1, h.2))
end_stands (r ∷ q ∷ rows) from to h = let (low, high) = end_stands (q ∷ rows) r.to to h.2 in (omega (arith, h.0, h.1, low), high)

span_stands : (text : List ℕ) (rows : List Row) (from to net : ℕ) → Stand from to rows → link_of text (expression_in rows) ≡ One net
    → StandsBetween from to (span_of rows)
span_stands text [] from to net h e = absurd (cc)
span_stands text (r ∷ []) from to net h e = absurd (cc)
span_stands text (r ∷ q ∷ rows) from to net h e =
    let (low, high) = end_stands (q ∷ rows) r.to to h.2 in
    record { behind = h.0; some = omega (arith, h.1, low); before = high }

-- ---- pins, instances and items

pin_stands : (text : List ℕ) (p : Section) (from to : ℕ) → SectionStands from to p → PinStands from to (pin_of text p)
pin_stands text p from to h net e =
    let rows = drop 1 p.body in
    span_stands text (connection_of p) from to net
    (stand_take rows (prefix_len (stands_in Connection) rows) from to (stand_drop_one p.body from to (stand_rest p.head p.body from to h))) e

instance_stands : (text : List ℕ) (cell : Row) (i : Section) (from to : ℕ) → SectionStands from to i → InstanceStands from to (instance_of text cell i)
instance_stands text cell i from to h =
    chain_map SectionStands PinStands (pin_of text) (pin_stands text) (pins_in i) from to
    (sections_stand (is_name_in Pins) i.body from to (stand_rest i.head i.body from to h))

item_stands : (text : List ℕ) (item : Section) (from to : ℕ) → SectionStands from to item → Chain InstanceStands from to (instances_by text item)
item_stands text item from to h =
    chain_map SectionStands InstanceStands (instance_of text item.head) (instance_stands text item.head) (instances_in item) from to
    (sections_stand (is_name_in Instances) item.body from to (stand_rest item.head item.body from to h))

-- the connections in items
pub items_stand : (text : List ℕ) (items : List Section) (from to : ℕ) → Chain SectionStands from to items
    → Chain InstanceStands from to (flat_map (instances_by text) items)
items_stand text items from to h = chain_flat SectionStands InstanceStands instances_fall (instances_by text) (item_stands text) items from to h
