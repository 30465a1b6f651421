-- Instances, as a module keeps them.
use Rattle.std.proofs.Common.{◌≡◌, ℕ, suc, zero, ◌+◌, ◌-◌, ◌<◌, ◌≤◌, ◌^◌, List, [], ◌∷◌, length, map, drop, get_or, Some, refl, sym, ap, ◌∙◌, subst, arith}
use Rattle.std.specs.List.{All, between}
use Rattle.std.specs.Prelude.{slice_get}
use Rattle.std.proofs.lemmas.List.Edits.{length-between}
use Rattle.std.proofs.lemmas.List.Elements.{All-nil, All-cons}
use Rattle.std.proofs.lemmas.List.{length-map}
use Rattle.ver_module.specs.declared.instances.InstanceRow.{InstanceRow}
use Rattle.ver_module.specs.declared.instances.PinRow.{PinRow}
use Rattle.ver_module.specs.Netlists.{Instance}
use Rattle.ver_module.specs.Flat.{Tables, AreInstances, IsPinRow, StandIn, instance_with, instances_with, pin_with, pins_end}

pub no_instances : (tables : Tables) → instances_with tables [] [] ≡ []
unfolding instances_with
no_instances tables = refl

pub none_stand : (tables : Tables) → StandIn tables []
unfolding StandIn
none_stand tables = tt

pub count_instances : (tables : Tables) (names : List (List ℕ)) (rows : List InstanceRow) → length names ≡ length rows
    → length (instances_with tables names rows) ≡ length rows
unfolding instances_with
count_instances tables [] [] e = refl
count_instances tables [] (r ∷ rs) e = absurd (omega arith)
count_instances tables (n ∷ ns) [] e = absurd (omega arith)
count_instances tables (n ∷ ns) (r ∷ rs) e = ap suc (count_instances tables ns rs (omega arith))

pub get_instance : (tables : Tables) (names : List (List ℕ)) (rows : List InstanceRow) (at : ℕ) (d : InstanceRow) → length names ≡ length rows
    → at < length rows
    → slice_get (instances_with tables names rows) at
    ≡ Some (instance_with tables (pins_end (length tables.pins) (drop (at + 1) rows)) (get_or names at []) (get_or rows at d))
unfolding instances_with
get_instance tables [] [] at d e l = absurd (omega (arith, l))
get_instance tables [] (r ∷ rs) at d e l = absurd (omega arith)
get_instance tables (n ∷ ns) [] at d e l = absurd (omega arith)
get_instance tables (n ∷ ns) (r ∷ rs) zero d e l = refl
get_instance tables (n ∷ ns) (r ∷ rs) (suc at) d e l =
    get_instance tables ns rs at d (omega arith) (omega (arith, l))
    ∙ ap (λ k. Some (instance_with tables (pins_end (length tables.pins) (drop k (r ∷ rs))) (get_or ns at []) (get_or rs at d)))
    (let k : suc (at + 1) ≡ suc at + 1 = omega arith in k)

-- where the pins of an instance stand
pub record Stands (tables : Tables) (row : InstanceRow) (end : ℕ) : Type 0 where
  pub cell : row.cell < length tables.cells
  pub from : row.pins ≤ end
  pub to : end ≤ length tables.pins

-- the pins before some instances end within all
pub end_within : (tables : Tables) (rows : List InstanceRow) → StandIn tables rows → pins_end (length tables.pins) rows ≤ length tables.pins
unfolding StandIn
end_within tables [] h = omega arith
end_within tables (r ∷ rs) h = let more = end_within tables rs h.2 in omega (arith, more, h.1)

pub stands_at : (tables : Tables) (rows : List InstanceRow) (at : ℕ) (d : InstanceRow) → StandIn tables rows → at < length rows
    → Stands tables (get_or rows at d) (pins_end (length tables.pins) (drop (at + 1) rows))
unfolding StandIn
stands_at tables [] at d h l = absurd (omega (arith, l))
stands_at tables (r ∷ rs) zero d h l = record { cell = h.0; from = h.1; to = end_within tables rs h.2 }
stands_at tables (r ∷ rs) (suc at) d h l =
    let k : suc (at + 1) ≡ suc at + 1 = omega arith in
    subst (λ n. Stands tables (get_or rs at d) (pins_end (length tables.pins) (drop n (r ∷ rs)))) k (stands_at tables rs at d h.2 (omega (arith, l)))

pub none_are : (cells pin_names names many : List (List ℕ)) (rows : List InstanceRow) (pins : List PinRow) → names ≡ [] → rows ≡ [] → pins ≡ []
    → AreInstances (record { cells = cells; pin_names = pin_names; many = many; pins = pins }) names rows
    × (instances_with (record { cells = cells; pin_names = pin_names; many = many; pins = pins }) names rows ≡ [])
none_are cells pin_names names many rows pins e f g =
    let tables : Tables = record { cells = cells; pin_names = pin_names; many = many; pins = pins } in (
      record {
        count = ap length e ∙ ap length (sym f);
        stand = subst (StandIn tables) (sym f) (none_stand tables);
        kept = subst (All (IsPinRow pin_names many)) (sym g) (All-nil (IsPinRow pin_names many));
        few = omega (arith, ap length f);
        few_pins = omega (arith, ap length g);
      },
      (λ i. instances_with tables (e i) (f i)) ∙ no_instances tables,
    )

pub few_each : (tables : Tables) (names : List (List ℕ)) (rows : List InstanceRow) → StandIn tables rows → length tables.pins < 2 ^ 32
    → All (λ (i : Instance). length i.pins < 2 ^ 32) (instances_with tables names rows)
unfolding instances_with StandIn
few_each tables [] rows h f = All-nil (λ (i : Instance). length i.pins < 2 ^ 32)
few_each tables (n ∷ ns) [] h f = All-nil (λ (i : Instance). length i.pins < 2 ^ 32)
few_each tables (n ∷ ns) (r ∷ rs) h f =
    let end = pins_end (length tables.pins) rs in
    let e = length-map (between r.pins end tables.pins) (pin_with tables.pin_names tables.many) in
    let within = end_within tables rs h.2 in
    let m : length (between r.pins end tables.pins) ≡ end - r.pins = length-between tables.pins r.pins end within in
    All-cons (λ (i : Instance). length i.pins < 2 ^ 32) (instance_with tables end n r) (instances_with tables ns rs)
    (omega (arith, e, m, within, f)) (few_each tables ns rs h.2 f)

-- an instance as it is found
pub instance_seen : (tables : Tables) (end : ℕ) (row its : InstanceRow) (name own cell : List ℕ) (many : List (List ℕ)) (pins : List PinRow)
    → row ≡ its → name ≡ own → cell ≡ get_or tables.cells row.cell [] → many ≡ tables.many → pins ≡ between row.pins end tables.pins
    → Some (instance_with tables end own its) ≡ Some (record { name = name; cell = cell; pins = map (pin_with tables.pin_names many) pins })
instance_seen tables end row its name own cell many pins e f g m h =
    (λ i. Some (instance_with tables end (sym f i) (sym e i)))
    ∙ (λ i. Some (record { name = name; cell = sym g i; pins = map (pin_with tables.pin_names (sym m i)) (sym h i) }))
