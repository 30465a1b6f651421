-- Instances where further names and pins are put last.
use Rattle.std.proofs.Common.{◌≡◌, ℕ, ◌-◌, ◌<◌, ◌≤◌, List, [], ◌∷◌, ◌++◌, length, map, take, drop, get_or, refl, sym, ap, ◌∙◌, subst, arith, length-append, length-drop}
use Rattle.std.specs.List.{All, between}
use Rattle.std.proofs.lemmas.List.Edits.{between_none}
use Rattle.std.proofs.lemmas.List.Elements.{All-weaker, All-take, All-drop, All-head, All-tail}
use Rattle.std.proofs.lemmas.List.{map_push, take-append-le, drop-append-le}
use Rattle.std.proofs.lemmas.Slice.{between_to_end}
use Rattle.ver_module.specs.declared.instances.InstanceRow.{InstanceRow}
use Rattle.ver_module.specs.declared.instances.PinRow.{PinRow}
use Rattle.ver_module.specs.declared.link.Link.TheVariants.{Many as Nets}
use Rattle.ver_module.specs.declared.link.LinkRow.{LinkRow}
use Rattle.ver_module.specs.declared.link.LinkRow.TheVariants.{Open, One, Many}
use Rattle.ver_module.specs.Netlists.{with_pin}
use Rattle.ver_module.specs.Flat.{Tables, IsKept, IsPinRow, StandIn, instance_with, instances_with, link_with, pin_with, pins_end}
use Rattle.ver_module.proofs.NameLemmas.{Grow}
use Rattle.ver_module.proofs.InstanceLemmas.{end_within}

-- these pins have their names and the nets of their links
abbrev AreKept : List (List ℕ) → List (List ℕ) → List PinRow → Type 0
AreKept names many pins = All (IsPinRow names many) pins

link_still : (many after : List (List ℕ)) → Grow many after → (link : LinkRow) → IsKept many link → link_with after link ≡ link_with many link
link_still many after g Open h = refl
link_still many after g (One net) h = refl
link_still many after g (Many at) h = ap Nets (g.stay at h)

still_linked : (many after : List (List ℕ)) → Grow many after → (link : LinkRow) → IsKept many link → IsKept after link
still_linked many after g Open h = tt
still_linked many after g (One net) h = tt
still_linked many after g (Many at) h = let m = g.more in omega (arith, h, m)

module _ (names after many after_many : List (List ℕ)) (n : Grow names after) (m : Grow many after_many) where
  pub pins_still : (pins : List PinRow) → AreKept names many pins → map (pin_with after after_many) pins ≡ map (pin_with names many) pins
  pins_still [] h = refl
  pins_still (p ∷ ps) h =
      let (low, kept) = All-head (IsPinRow names many) p ps h in
      let name : get_or after p.name [] ≡ get_or names p.name [] = n.stay p.name low in
      let link = link_still many after_many m p.link kept in
      (λ i. record { name = name i; span = record { from = p.from; to = p.to }; link = link i } ∷ map (pin_with after after_many) ps)
      ∙ ap (λ more. pin_with names many p ∷ more) (pins_still ps (All-tail (IsPinRow names many) p ps h))

  pub still_kept : (pins : List PinRow) → AreKept names many pins → AreKept after after_many pins
  still_kept pins h =
      All-weaker (IsPinRow names many) (IsPinRow after after_many)
      (λ pin k. let more = n.more in (omega (arith, k.0, more), still_linked many after_many m pin.link k.1)) pins h

-- a part of some pins
pub part_kept : (names many : List (List ℕ)) (pins : List PinRow) (from to : ℕ) → AreKept names many pins → AreKept names many (between from to pins)
part_kept names many pins from to h = All-take (IsPinRow names many) (to - from) (drop from pins) (All-drop (IsPinRow names many) from pins h)

module _ (cells after_cells pin_names after_names many after_many : List (List ℕ)) (pins : List PinRow)
    (c : Grow cells after_cells) (n : Grow pin_names after_names) (m : Grow many after_many) (kept : AreKept pin_names many pins) where
  abbrev old : Tables
  old = record { cells = cells; pin_names = pin_names; many = many; pins = pins }

  abbrev new : Tables
  new = record { cells = after_cells; pin_names = after_names; many = after_many; pins = pins }

  pub stand_still : (rows : List InstanceRow) → StandIn old rows → StandIn new rows
  unfolding StandIn
  stand_still [] h = tt
  stand_still (r ∷ rs) h = let more = c.more in (omega (arith, more, h.0), h.1, stand_still rs h.2)

  pub instances_still : (names : List (List ℕ)) (rows : List InstanceRow) → StandIn old rows → instances_with new names rows ≡ instances_with old names rows
  unfolding instances_with StandIn
  instances_still [] rows h = refl
  instances_still (name ∷ names) [] h = refl
  instances_still (name ∷ names) (r ∷ rs) h =
      let cell : get_or after_cells r.cell [] ≡ get_or cells r.cell [] = c.stay r.cell h.0 in
      let end = pins_end (length pins) rs in
      let its = pins_still pin_names after_names many after_many n m (between r.pins end pins) (part_kept pin_names many pins r.pins end kept) in
      (λ i. record { name = name; cell = cell i; pins = its i } ∷ instances_with new names rs)
      ∙ ap (λ more. instance_with old end name r ∷ more) (instances_still names rs h.2)

-- ---- an instance without pins is put last

module _ (tables : Tables) (name : List ℕ) (cell : ℕ) (low : cell < length tables.cells) where
  abbrev row : InstanceRow
  row = record { cell = cell; pins = length tables.pins }

  ends : (rows : List InstanceRow) → pins_end (length tables.pins) (rows ++ row ∷ []) ≡ pins_end (length tables.pins) rows
  ends [] = refl
  ends (r ∷ rs) = refl

  pub one_more_stands : (rows : List InstanceRow) → StandIn tables rows → StandIn tables (rows ++ row ∷ [])
  unfolding StandIn
  one_more_stands [] h = (low, omega arith, tt)
  one_more_stands (r ∷ rs) h = (h.0, subst (λ end. r.pins ≤ end) (sym (ends rs)) h.1, one_more_stands rs h.2)

  pub one_more : (names : List (List ℕ)) (rows : List InstanceRow) → length names ≡ length rows
      → instances_with tables (names ++ name ∷ []) (rows ++ row ∷ [])
      ≡ instances_with tables names rows ++ (record { name = name; cell = get_or tables.cells cell []; pins = [] }) ∷ []
  unfolding instances_with
  one_more [] [] e =
      ap (λ pins. (record { name = name; cell = get_or tables.cells cell []; pins = map (pin_with tables.pin_names tables.many) pins }) ∷ [])
      (between_none tables.pins (length tables.pins))
  one_more [] (r ∷ rs) e = absurd (omega arith)
  one_more (n ∷ ns) [] e = absurd (omega arith)
  one_more (n ∷ ns) (r ∷ rs) e =
      ap (λ end. instance_with tables end n r ∷ instances_with tables (ns ++ name ∷ []) (rs ++ row ∷ [])) (ends rs)
      ∙ ap (λ more. instance_with tables (pins_end (length tables.pins) rs) n r ∷ more) (one_more ns rs (omega arith))

-- ---- a pin is put last

-- a part stays where a pin is put after it
pub part_still : (pins : List PinRow) (pin : PinRow) (from to : ℕ) → from ≤ to → to ≤ length pins → between from to (pins ++ pin ∷ []) ≡ between from to pins
part_still pins pin from to low high =
    ap (take (to - from)) (drop-append-le from pins (pin ∷ []) (omega arith))
    ∙ take-append-le (to - from) (drop from pins) (pin ∷ []) (omega (arith, length-drop from pins))

-- the part up to the end has it last
pub part_more : (pins : List PinRow) (pin : PinRow) (from : ℕ) → from ≤ length pins
    → between from (length (pins ++ pin ∷ [])) (pins ++ pin ∷ []) ≡ between from (length pins) pins ++ pin ∷ []
part_more pins pin from low =
    between_to_end (pins ++ pin ∷ []) from (length (pins ++ pin ∷ [])) (omega arith)
    ∙ drop-append-le from pins (pin ∷ []) low
    ∙ ap (λ ps. ps ++ pin ∷ []) (sym (between_to_end pins from (length pins) (omega arith)))

module _ (cells pin_names many : List (List ℕ)) (pins : List PinRow) (pin : PinRow) where
  abbrev before : Tables
  before = record { cells = cells; pin_names = pin_names; many = many; pins = pins }

  abbrev after : Tables
  after = record { cells = cells; pin_names = pin_names; many = many; pins = pins ++ pin ∷ [] }

  ends_later : (rows : List InstanceRow) → pins_end (length pins) rows ≤ pins_end (length (pins ++ pin ∷ [])) rows
  ends_later [] = omega (arith, length-append pins (pin ∷ []))
  ends_later (r ∷ rs) = omega arith

  pub pin_stands : (rows : List InstanceRow) → StandIn before rows → StandIn after rows
  unfolding StandIn
  pin_stands [] h = tt
  pin_stands (r ∷ rs) h = let l = ends_later rs in (h.0, omega (arith, l, h.1), pin_stands rs h.2)

  pub pin_more : (names : List (List ℕ)) (rows : List InstanceRow) → length names ≡ length rows → StandIn before rows
      → instances_with after names rows ≡ with_pin (instances_with before names rows) (pin_with pin_names many pin)
  unfolding instances_with StandIn
  pin_more [] rows e h = refl
  pin_more (n ∷ ns) [] e h = absurd (omega arith)
  pin_more (n ∷ []) (r ∷ []) e h =
      ap (λ ps. (record { name = n; cell = get_or cells r.cell []; pins = ps }) ∷ [])
      (ap (map (pin_with pin_names many)) (part_more pins pin r.pins h.1) ∙ map_push (pin_with pin_names many) (between r.pins (length pins) pins) pin)
  pin_more (n ∷ m ∷ ns) (r ∷ []) e h = absurd (omega arith)
  pin_more (n ∷ []) (r ∷ q ∷ rs) e h = absurd (omega arith)
  pin_more (n ∷ m ∷ ns) (r ∷ q ∷ rs) e h =
      let within : q.pins ≤ length pins = end_within before (q ∷ rs) h.2 in
      ap (λ ps. (record { name = n; cell = get_or cells r.cell []; pins = map (pin_with pin_names many) ps }) ∷ instances_with after (m ∷ ns) (q ∷ rs))
      (part_still pins pin r.pins q.pins h.1 within)
      ∙ ap (λ more. instance_with before q.pins n r ∷ more) (pin_more (m ∷ ns) (q ∷ rs) (omega arith) h.2)
