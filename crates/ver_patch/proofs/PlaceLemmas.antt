-- Lists whose items' texts stand in one buffer.
use Rattle.std.proofs.Common.{◌≡◌, ℕ, ◌+◌, ◌-◌, ◌<◌, List, [], ◌∷◌, ◌++◌, length, take, drop, map, get_or, arith, refl, sym, ap, ◌∙◌, append-nil, append_assoc, length-append}
use Rattle.std.specs.List.{All}
use Rattle.std.proofs.Math.Seq.{drop-append_seam, take-append_seam}
use Rattle.std.proofs.lemmas.List.{drop_more, get_or-map, length-map, map-append}
use Rattle.std.proofs.lemmas.List.Elements.{All-head, All-tail}
use Rattle.vg_scan.specs.Lines.{part}
use Rattle.vg_patch.proofs.EditLemmas.{part_stays}
use Rattle.ver_patch.specs.declared.cells.Place.{Place}
use Rattle.ver_patch.specs.declared.rewires.Place.{Place as NetPlace}
use Rattle.ver_patch.specs.CellPlaces.{IsPlace, IsPlaced, all_texts, cell_in}
use Rattle.ver_patch.specs.NewCells.{NewCell}
use Rattle.ver_patch.specs.RewirePlaces.{IsPlace as IsNetPlace, rewire_in}
use Rattle.ver_patch.specs.Rewires.{Rewire}

-- ---- parts of a buffer

-- bytes in the middle
part_middle : (whole text middle more : List ℕ) (from to : ℕ) → whole ≡ text ++ (middle ++ more) → from ≡ length text → to ≡ from + length middle
    → part whole from to ≡ middle
part_middle whole text middle more from to is begin end =
    let count : to - from ≡ length middle = omega arith in
    (λ i. take (count i) (drop (begin i) (is i))) ∙ ap (take (length middle)) (drop-append_seam text (middle ++ more)) ∙ take-append_seam middle more

-- ---- items

-- items of which each is the same seen in another way
same_items : {X Y : Type 0} (P : X → Type 0) (f g : X → Y) → ((x : X) → P x → f x ≡ g x) → (xs : List X) → All P xs → map f xs ≡ map g xs
same_items P f g same [] all = refl
same_items P f g same (x ∷ xs) all = λ i. same x (All-head P x xs all) i ∷ same_items P f g same xs (All-tail P x xs all) i

-- one item more
one_more : {X Y : Type 0} (P : X → Type 0) (f g : X → Y) (xs new : List X) (x : X) (ys : List Y) (y : Y) → ((x : X) → P x → f x ≡ g x) → All P xs
    → map g xs ≡ ys → new ≡ xs ++ x ∷ [] → f x ≡ y → map f new ≡ ys ++ y ∷ []
one_more P f g xs new x ys y same all seen is last =
    ap (map f) is ∙ map-append f xs (x ∷ []) ∙ (λ i. (same_items P f g same xs all ∙ seen) i ++ last i ∷ [])

-- an item and those behind it
pub item_at : {X Y : Type 0} (f : X → Y) (xs : List X) (ys : List Y) (n : ℕ) (d : X) (y : Y) → map f xs ≡ ys → n < length ys → f (get_or xs n d) ≡ y
    → drop n ys ≡ y ∷ drop (n + 1) ys
item_at f xs ys n d y seen low is =
    let within : n < length xs = omega (arith, ap length seen, length-map xs f) in
    drop_more ys n y low ∙ ap (λ x. x ∷ drop (n + 1) ys) (ap (λ zs. get_or zs n y) (sym seen) ∙ get_or-map f xs n d y within ∙ is)

-- ---- new cells

cell_stays : (text more : List ℕ) (p : Place) → IsPlace (length text) p → cell_in (text ++ more) p ≡ cell_in text p
cell_stays text more p is =
    let name = is.name in
    let input = is.input in
    let output = is.output in
    let from = is.from in
    let to = is.to in
    let end = is.end in
    let within = is.within in
    λ i. record {
      cell = part_stays text more p.cell p.name (omega arith) (omega arith) i;
      name = part_stays text more p.name p.input (omega arith) (omega arith) i;
      input = part_stays text more p.input p.output (omega arith) (omega arith) i;
      output = part_stays text more p.output p.from (omega arith) (omega arith) i;
      from = part_stays text more p.from p.to (omega arith) (omega arith) i;
      to = part_stays text more p.to p.end (omega arith) (omega arith) i;
    }

-- one cell more
pub cells_more : (text new : List ℕ) (places more : List Place) (place : Place) (cells : List NewCell) (c : NewCell) → All (IsPlace (length text)) places
    → map (cell_in text) places ≡ cells → new ≡ text ++ all_texts c → IsPlaced text c place → more ≡ places ++ place ∷ []
    → map (cell_in new) more ≡ cells ++ c ∷ []
cells_more text new places more place cells c all seen is placed more_is =
    ap (λ bytes. map (cell_in bytes) more) is
    ∙ one_more (IsPlace (length text)) (cell_in (text ++ all_texts c)) (cell_in text) places more place cells c (cell_stays text (all_texts c)) all seen more_is placed.is

-- the texts of a cell, one behind the other
pub is_placed : (text : List ℕ) (c : NewCell) (p : Place) → p.cell ≡ length text → p.name ≡ p.cell + length c.cell → p.input ≡ p.name + length c.name
    → p.output ≡ p.input + length c.input → p.from ≡ p.output + length c.output → p.to ≡ p.from + length c.from → p.end ≡ p.to + length c.to → IsPlaced text c p
is_placed text c p cell name input output from to end =
    let whole = text ++ all_texts c in
    let rest3 = c.output ++ (c.from ++ c.to) in
    record {
      is = λ i. record {
        cell = part_middle whole text c.cell (c.name ++ (c.input ++ rest3)) p.cell p.name refl cell name i;
        name = part_middle whole (text ++ c.cell) c.name (c.input ++ rest3) p.name p.input (simp append_assoc) (omega (arith, length-append {A = ℕ})) input i;
        input = part_middle whole (text ++ c.cell ++ c.name) c.input rest3 p.input p.output (simp append_assoc) (omega (arith, length-append {A = ℕ})) output i;
        output = part_middle whole (text ++ c.cell ++ c.name ++ c.input) c.output (c.from ++ c.to) p.output p.from (simp append_assoc) (omega (arith, length-append {A = ℕ})) from i;
        from = part_middle whole (text ++ c.cell ++ c.name ++ c.input ++ c.output) c.from c.to p.from p.to (simp append_assoc) (omega (arith, length-append {A = ℕ})) to i;
        to = part_middle whole (text ++ c.cell ++ c.name ++ c.input ++ c.output ++ c.from) c.to [] p.to p.end (simp (append_assoc, append-nil)) (omega (arith, length-append {A = ℕ})) end i;
      };
      place = record {
        name = omega arith;
        input = omega arith;
        output = omega arith;
        from = omega arith;
        to = omega arith;
        end = omega arith;
        within = omega (arith, length-append {A = ℕ});
      };
    }

-- ---- rewires

-- one rewire more
pub rewires_more : (text new : List ℕ) (places more : List NetPlace) (place : NetPlace) (rewires : List Rewire) (net : List ℕ)
    → All (IsNetPlace (length text)) places → map (rewire_in text) places ≡ rewires → new ≡ text ++ net → place.from ≡ length text
    → place.to ≡ place.from + length net → more ≡ places ++ place ∷ [] → map (rewire_in new) more ≡ rewires ++ record { at = place.at; net = net } ∷ []
rewires_more text new places more place rewires net all seen is begin end more_is =
    one_more (IsNetPlace (length text)) (rewire_in new) (rewire_in text) places more place rewires (record { at = place.at; net = net })
    (λ p within.
    let rise = within.rise in
    let low = within.within in
    (λ i. record { at = p.at; net = (ap (λ bytes. part bytes p.from p.to) is ∙ part_stays text net p.from p.to (omega arith) (omega arith)) i }))
    all seen more_is (λ i. record { at = place.at; net = part_middle new text net [] place.from place.to (is ∙ simp append-nil) begin end i })

-- a cell by the parts of a text, which is shown as a slice
pub cell_by : (shown text : List ℕ) (p : Place) (c : NewCell) → shown ≡ text → c.cell ≡ part shown p.cell p.name → c.name ≡ part shown p.name p.input
    → c.input ≡ part shown p.input p.output → c.output ≡ part shown p.output p.from → c.from ≡ part shown p.from p.to → c.to ≡ part shown p.to p.end
    → cell_in text p ≡ c
cell_by shown text p c is cell name input output from to =
    ap (λ bytes. cell_in bytes p) (sym is)
    ∙ sym (λ i. record { cell = cell i; name = name i; input = input i; output = output i; from = from i; to = to i })
