-- Instances and pins that are put last.
use Rattle.std.proofs.Common.{◌≡◌, ℕ, suc, ◌<◌, ◌^◌, List, [], ◌∷◌, ◌++◌, Some, length, slice_get, sym, ◌∙◌, subst, arith, length-append}
use Rattle.std.proofs.lemmas.List.Elements.{All-push}
use Rattle.std.proofs.lemmas.Option.{get_or_from_slice_get, slice_get_within}
use Rattle.name_tables.specs.Distinct.{with_name}
use Rattle.ver_module.specs.declared.instances.InstanceRow.{InstanceRow}
use Rattle.ver_module.specs.declared.instances.PinRow.{PinRow}
use Rattle.ver_module.specs.Netlists.{Instance, Pin, with_pin}
use Rattle.ver_module.specs.Flat.{Tables, AreInstances, IsKept, IsPinRow, instances_with, link_with, pin_with}
use Rattle.ver_module.proofs.NameLemmas.{Grow, numbered, put_last, same}
use Rattle.ver_module.proofs.GrowthLemmas.{instances_still, one_more, one_more_stands, pin_more, pin_stands, stand_still, still_kept}

abbrev pub tables : List (List ℕ) → List (List ℕ) → List (List ℕ) → List PinRow → Tables
tables cells pin_names many pins = record { cells = cells; pin_names = pin_names; many = many; pins = pins }

-- these are instances, and contracts see this list of them
pub record Shows (t : Tables) (names : List (List ℕ)) (rows : List InstanceRow) (all : List Instance) : Type 0 where
  pub are : AreInstances t names rows
  pub is : instances_with t names rows ≡ all

pub shows_same : (t : Tables) (names its_names : List (List ℕ)) (rows its_rows : List InstanceRow) (all : List Instance)
    → names ≡ its_names → rows ≡ its_rows → Shows t its_names its_rows all → Shows t names rows all
shows_same t names its_names rows its_rows all e f h = subst (λ (ns : List (List ℕ)). Shows t ns rows all) (sym e) (subst (λ (rs : List InstanceRow). Shows t its_names rs all) (sym f) h)

module _ (cells pin_names many names : List (List ℕ)) (rows : List InstanceRow) (pins : List PinRow) (all : List Instance)
    (h : Shows (tables cells pin_names many pins) names rows all) where
  -- the names of cells and of pins and the nets of links grow
  grown : (after_cells after_names after_many : List (List ℕ)) → Grow cells after_cells → Grow pin_names after_names → Grow many after_many
      → Shows (tables after_cells after_names after_many pins) names rows all
  grown after_cells after_names after_many c n m = record {
    are = record {
      count = h.are.count;
      stand = stand_still cells after_cells pin_names after_names many after_many pins c n m h.are.kept rows h.are.stand;
      kept = still_kept pin_names after_names many after_many n m pins h.are.kept;
      few = h.are.few;
      few_pins = h.are.few_pins;
    };
    is = instances_still cells after_cells pin_names after_names many after_many pins c n m h.are.kept names rows h.are.stand ∙ h.is;
  }

  -- a cell's name is put last where it is new
  pub with_cell : (after : List (List ℕ)) (cell : List ℕ) → after ≡ with_name cells cell → Shows (tables after pin_names many pins) names rows all
  with_cell after cell e =
      subst (λ (cs : List (List ℕ)). Shows (tables cs pin_names many pins) names rows all) (sym e)
      (grown (with_name cells cell) pin_names many (let n = numbered cells cell in n.grow) (same pin_names) (same many))

  -- a pin's name is put last where it is new, and the nets of its link
  pub with_parts : (after many_after : List (List ℕ)) (name : List ℕ) (nets : List (List ℕ)) → after ≡ with_name pin_names name → many_after ≡ many ++ nets
      → Shows (tables cells after many_after pins) names rows all
  with_parts after many_after name nets e f =
      subst (λ (ns : List (List ℕ)). Shows (tables cells ns many_after pins) names rows all) (sym e)
      (subst (λ (ms : List (List ℕ)). Shows (tables cells (with_name pin_names name) ms pins) names rows all) (sym f)
      (grown cells (with_name pin_names name) (many ++ nets) (same cells) (let n = numbered pin_names name in n.grow) (put_last many nets)))

-- an instance without pins is put last
pub pushed : (t : Tables) (names : List (List ℕ)) (rows : List InstanceRow) (all : List Instance) (name cell : List ℕ) (id from : ℕ)
    → Shows t names rows all → slice_get t.cells id ≡ Some cell → from ≡ length t.pins → suc (length rows) < 2 ^ 32
    → Shows t (names ++ name ∷ []) (rows ++ (record { cell = id; pins = from }) ∷ []) (all ++ (record { name = name; cell = cell; pins = [] }) ∷ [])
pushed t names rows all name cell id from h found f few =
    let low = slice_get_within t.cells id cell found in
    let e = get_or_from_slice_get t.cells id cell [] found in
    subst (λ (n : ℕ). Shows t (names ++ name ∷ []) (rows ++ (record { cell = id; pins = n }) ∷ []) (all ++ (record { name = name; cell = cell; pins = [] }) ∷ [])) (sym f)
    (record {
      are = record {
        count = omega (arith, length-append names (name ∷ []), length-append rows ((record { cell = id; pins = length t.pins }) ∷ []), h.are.count);
        stand = one_more_stands t name id low rows h.are.stand;
        kept = h.are.kept;
        few = omega (arith, length-append rows ((record { cell = id; pins = length t.pins }) ∷ []), few);
        few_pins = h.are.few_pins;
      };
      is = one_more t name id low names rows h.are.count
          ∙ (λ i. h.is i ++ (record { name = name; cell = e i; pins = [] }) ∷ []);
    })

-- a pin is put last
pub pin_pushed : (cells pin_names many names : List (List ℕ)) (rows : List InstanceRow) (pins after : List PinRow) (all : List Instance) (row : PinRow) (pin : Pin)
    → Shows (tables cells pin_names many pins) names rows all → slice_get pin_names row.name ≡ Some pin.name → row.from ≡ pin.span.from → row.to ≡ pin.span.to
    → IsKept many row.link → link_with many row.link ≡ pin.link → suc (length pins) < 2 ^ 32 → after ≡ pins ++ row ∷ []
    → Shows (tables cells pin_names many after) names rows (with_pin all pin)
pin_pushed cells pin_names many names rows pins after all row pin h found from to kept link few e =
    let low = slice_get_within pin_names row.name pin.name found in
    let name = get_or_from_slice_get pin_names row.name pin.name [] found in
    let is : pin_with pin_names many row ≡ pin = λ i. record { name = name i; span = record { from = from i; to = to i }; link = link i } in
    subst (λ (ps : List PinRow). Shows (tables cells pin_names many ps) names rows (with_pin all pin)) (sym e)
    (record {
      are = record {
        count = h.are.count;
        stand = pin_stands cells pin_names many pins row rows h.are.stand;
        kept = All-push (IsPinRow pin_names many) pins row h.are.kept (low, kept);
        few = h.are.few;
        few_pins = omega (arith, length-append pins (row ∷ []), few);
      };
      is = pin_more cells pin_names many pins row names rows h.are.count h.are.stand ∙ (λ i. with_pin (h.is i) (is i));
    })
