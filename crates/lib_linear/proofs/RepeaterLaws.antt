-- What the repeaters are is determined.
use Rattle.std.proofs.Common.{◌≡◌, ℕ, ◌<◌, Bool, List, [], ◌∷◌, ◌++◌, length, Option, Some, filter, map, ◌||◌, get_or, refl, sym, ap, ◌∙◌, arith, true, false, ◌≢◌}
use Rattle.std.specs.List.{All, flat_map, list_any}
use Rattle.std.specs.Option.{is_none}
use Rattle.name_tables.specs.Distinct.{number_of as place_of, with_name}
use Rattle.std.specs.Str.{bytes_eq}
use Rattle.std.proofs.lemmas.List.Elements.{All-cons, All-nil}
use Rattle.std.proofs.lemmas.List.Folds.{list_any-append}
use Rattle.std.proofs.lemmas.List.Kept.{AllPairs-cons}
use Rattle.std.proofs.lemmas.Slice.Eq.{bytes_eq-Decides}
use Rattle.vg_scan.specs.Lines.{is_ink}
use Rattle.elmore.specs.declared.rep.Rep.{Rep}
use Rattle.lib_text.specs.Groups.{Group}
use Rattle.lib_cells.specs.declared.fault.LibKind.TheVariants.{CellTwice}
use Rattle.lib_cells.specs.PinInfos.{PinInfo}
use Rattle.lib_linear.specs.declared.repeater.Repeater.{Repeater}
use Rattle.lib_cells.specs.declared.units.Units.{Units}
use Rattle.lib_cells.specs.Cells.{cell_groups, name_of, pins_of}
use Rattle.lib_cells.specs.Flaws.{cell_flaws, twice_flaws}
use Rattle.lib_linear.specs.Libraries.{library_in_bytes}
use Rattle.lib_cells.specs.Reducing.{inverts}
use Rattle.lib_cells.proofs.NameLemmas.{is_new, no_flaw, no_part}
use Rattle.lib_linear.specs.Repeaters.{AreRepeaters, Follows, IsFunction, IsRep, IsRepeater}
use Rattle.lib_linear.specs.Repeaters.AreRepeaters.{no_cell, taken, passed}
use Rattle.lib_linear.specs.RepeaterLaws.{AreDistinct, NoneTwice, NotOver, OneLibrary, OneList, OneOrder, OnePlace, OneRepeater}
use Rattle.lib_cells.specs.Units.{units_of}
use Rattle.lib_cells.proofs.ReduceLemmas.{inverts_where}
use Rattle.lib_linear.proofs.RepeaterLemmas.{same_pins}
use Rattle.lib_linear.proofs.RepeaterOrder.{found_distinct, one_in_order}

same_some : {X : Type 0} (o : Option X) (x y : X) → o ≡ Some x → o ≡ Some y → x ≡ y
same_some o x y e f = let g = sym e ∙ f in grind arith

one_function : (pin : Group) (input : List ℕ) (a b : Bool) → IsFunction pin input a → IsFunction pin input b → a ≡ b
one_function pin input a b f g =
    let t : f.text ≡ g.text = same_some _ f.text g.text f.given g.given in
    inverts_where input (filter is_ink f.text) a f.reduces ∙ ap (λ text. inverts (filter is_ink text) input) t ∙ sym (inverts_where input (filter is_ink g.text) b g.reduces)

one_inversion : (units : Units) (cell : Group) (input : List ℕ) (a b : Bool) → Follows units cell input a → Follows units cell input b → a ≡ b
one_inversion units cell input a b f g =
    let o : f.output ≡ g.output = same_some _ f.output g.output f.group g.group in
    one_function g.output input a b (rw o at f.function) g.function

one_rep : (units : Units) (cell : Group) (input output : PinInfo) (a b : Rep) → IsRep units cell input output a → IsRep units cell input output b → a ≡ b
one_rep units cell input output a b f g =
    let i : a.inverts ≡ b.inverts = one_inversion units cell input.name a.inverts b.inverts f.follows g.follows in
    let c : a.cin ≡ b.cin = same_some _ a.cin b.cin f.cin g.cin in
    let d : (a.k, a.r) ≡ (b.k, b.r) = same_some _ (a.k, a.r) (b.k, b.r) f.drive g.drive in
    let o : a.cost ≡ b.cost = f.cost ∙ sym g.cost in
    let l : a.limit ≡ b.limit = f.limit ∙ sym g.limit in
    λ t. record { inverts = i t; cin = c t; k = (d t).0; r = (d t).1; cost = o t; limit = l t }

pub one_repeater : OneRepeater
one_repeater units cell a b f g =
    let (x, y) = same_pins (pins_of units cell) f.input f.output g.input g.output f.parts.pins g.parts.pins in
    let c : a.cell ≡ b.cell = f.cell_name ∙ sym g.cell_name in
    let i : a.input ≡ b.input = f.input_name ∙ ap (λ p. p.name) x ∙ sym g.input_name in
    let o : a.output ≡ b.output = f.output_name ∙ ap (λ p. p.name) y ∙ sym g.output_name in
    let r : a.rep ≡ b.rep = one_rep units cell g.input g.output a.rep b.rep (rw (x, y) at f.parts.does) g.parts.does in
    λ t. record { cell = c t; input = i t; output = o t; rep = r t }

pub one_list : OneList
one_list units [] [] [] no_cell no_cell = refl
one_list units [] [] (b ∷ ys) f g = elim g [ ]
one_list units [] (a ∷ xs) ys f g = elim f [ ]
one_list units (cell ∷ cells) (a ∷ xs) (b ∷ ys) (taken r f) (taken s g) = rw (one_repeater units cell a b r s, one_list units cells xs ys f g) refl
one_list units (cell ∷ cells) (a ∷ xs) ys (taken r f) (passed never g) = absurd (never a r)
one_list units (cell ∷ cells) xs (b ∷ ys) (passed never f) (taken s g) = absurd (never b s)
one_list units (cell ∷ cells) xs ys (passed never f) (passed none g) = one_list units cells xs ys f g

-- the repeaters among the first of some cells are the first, and one more follows where the next cell is one
more_than : (units : Units) (before : List Group) (cell : Group) (after : List Group) (found all : List Repeater) (r : Repeater)
    → AreRepeaters units before found → AreRepeaters units (before ++ cell ∷ after) all → IsRepeater units cell r → length found < length all
more_than units [] cell after [] (b ∷ ys) r no_cell (taken s g) is = omega arith
more_than units [] cell after [] ys r no_cell (passed never g) is = absurd (never r is)
more_than units [] cell after (a ∷ xs) ys r f g is = elim f [ ]
more_than units (c ∷ before) cell after (a ∷ xs) (b ∷ ys) r (taken p f) (taken s g) is = let h = more_than units before cell after xs ys r f g is in omega (arith, h)
more_than units (c ∷ before) cell after (a ∷ xs) ys r (taken p f) (passed never g) is = absurd (never a p)
more_than units (c ∷ before) cell after xs (b ∷ ys) r (passed never f) (taken s g) is = absurd (never b s)
more_than units (c ∷ before) cell after xs ys r (passed never f) (passed none g) is = more_than units before cell after xs ys r f g is

pub not_over : NotOver
not_over units cells reps place are over =
    let h = more_than units over.before over.cell over.after over.found are.found over.repeater over.are (rw over.cut at are.are) over.one_more in
    let few = are.few in
    let full = over.full in
    omega (arith, h, few, full)

head_same : {X : Type 0} (x y : X) (xs ys : List X) → x ∷ xs ≡ y ∷ ys → x ≡ y
head_same x y xs ys e = grind arith

tail_same : {X : Type 0} (x y : X) (xs ys : List X) → x ∷ xs ≡ y ∷ ys → xs ≡ ys
tail_same x y xs ys e = grind arith

-- of two repeaters with xs many before each in one list of cells, the cells are the same
one_cell : (units : Units) (before later : List Group) (cell other : Group) (after rest : List Group) (found more : List Repeater) (r s : Repeater)
    → AreRepeaters units before found → AreRepeaters units later more → IsRepeater units cell r → IsRepeater units other s
    → length found ≡ length more → before ++ cell ∷ after ≡ later ++ other ∷ rest → cell ≡ other
one_cell units [] [] cell other after rest [] [] r s no_cell no_cell is so n e = head_same cell other after rest e
one_cell units [] [] cell other after rest [] (b ∷ ys) r s f g is so n e = elim g [ ]
one_cell units [] [] cell other after rest (a ∷ xs) ys r s f g is so n e = elim f [ ]
one_cell units [] (d ∷ later) cell other after rest (a ∷ xs) ys r s f g is so n e = elim f [ ]
one_cell units (c ∷ before) [] cell other after rest xs (b ∷ ys) r s f g is so n e = elim g [ ]
one_cell units [] (d ∷ later) cell other after rest [] (b ∷ ys) r s no_cell (taken q g) is so n e = absurd (omega (arith, n))
one_cell units [] (d ∷ later) cell other after rest [] ys r s no_cell (passed never g) is so n e =
    absurd (never r (rw (head_same cell d after (later ++ other ∷ rest) e) at is))
one_cell units (c ∷ before) [] cell other after rest (a ∷ xs) [] r s (taken p f) no_cell is so n e = absurd (omega (arith, n))
one_cell units (c ∷ before) [] cell other after rest xs [] r s (passed never f) no_cell is so n e =
    absurd (never s (rw (sym (head_same c other (before ++ cell ∷ after) rest e)) at so))
one_cell units (c ∷ before) (d ∷ later) cell other after rest (a ∷ xs) (b ∷ ys) r s (taken p f) (taken q g) is so n e =
    one_cell units before later cell other after rest xs ys r s f g is so (omega (arith, n)) (tail_same c d (before ++ cell ∷ after) (later ++ other ∷ rest) e)
one_cell units (c ∷ before) (d ∷ later) cell other after rest (a ∷ xs) ys r s (taken p f) (passed never g) is so n e =
    absurd (never a (rw (head_same c d (before ++ cell ∷ after) (later ++ other ∷ rest) e) at p))
one_cell units (c ∷ before) (d ∷ later) cell other after rest xs (b ∷ ys) r s (passed never f) (taken q g) is so n e =
    absurd (never b (rw (sym (head_same c d (before ++ cell ∷ after) (later ++ other ∷ rest) e)) at q))
one_cell units (c ∷ before) (d ∷ later) cell other after rest xs ys r s (passed never f) (passed none g) is so n e =
    one_cell units before later cell other after rest xs ys r s f g is so n (tail_same c d (before ++ cell ∷ after) (later ++ other ∷ rest) e)

pub one_place : OnePlace
one_place units cells p q a b =
    let c : a.cell ≡ b.cell =
    one_cell units a.before b.before a.cell b.cell a.after b.after a.found b.found a.repeater b.repeater a.are b.are a.one_more b.one_more (a.full ∙ sym b.full) (sym a.cut ∙ b.cut) in
    a.here ∙ ap (λ cell. cell.head.name) c ∙ sym b.here

pub one_order : OneOrder
one_order units cells a b distinct f g =
    one_in_order f.found a b (found_distinct units f.are distinct) f.order (rw (one_list units cells g.found f.found g.are f.are) at g.order)

neither : (a b : Bool) → (a || b) ≡ false → (a ≡ false) × (b ≡ false)
neither true b e = absurd (cc)
neither false b e = (refl, e)

-- no cell is given twice, and none has one of these names
abbrev AreNew : List (List ℕ) → List Group → Type 0
AreNew seen cells = All (λ m. list_any (bytes_eq m) seen ≡ false) (map name_of cells)

after_one : (seen : List (List ℕ)) (n : List ℕ) (ns : List (List ℕ)) → All (λ m. list_any (bytes_eq m) (seen ++ n ∷ []) ≡ false) ns
    → All (λ m. list_any (bytes_eq m) seen ≡ false) ns × All (λ m. n ≢ m) ns
after_one seen n ns all = (λ k d k_n. (parts k d k_n).0, λ k d k_n e. clash (get_or ns k d) e (parts k d k_n).1)
  where
    parts : (k : ℕ) (d : List ℕ) → k < length ns → (list_any (bytes_eq (get_or ns k d)) seen ≡ false) × (list_any (bytes_eq (get_or ns k d)) (n ∷ []) ≡ false)
    parts k d k_n =
        neither (list_any (bytes_eq (get_or ns k d)) seen) (list_any (bytes_eq (get_or ns k d)) (n ∷ []))
        (sym (list_any-append (bytes_eq (get_or ns k d)) seen (n ∷ [])) ∙ all k d k_n)

    clash : (m : List ℕ) → n ≡ m → list_any (bytes_eq m) (n ∷ []) ≡ false → ⊥
    clash m e f = let g : bytes_eq m n ≡ true = (bytes_eq-Decides m n).1 (sym e) in let h = neither (bytes_eq m n) false f in let k = h.0 in absurd (cc)

new_names : (seen : List (List ℕ)) (cells : List Group) → twice_flaws seen cells ≡ [] → AreNew seen cells × AreDistinct cells
unfolding twice_flaws
new_names seen [] e = (All-nil (λ m. list_any (bytes_eq m) seen ≡ false), λ i j d i_j j_n. absurd (omega arith))
new_names seen (cell ∷ cells) e =
    let (test, rest) = no_flaw (is_none (place_of seen (name_of cell))) CellTwice cell.head (twice_flaws (with_name seen (name_of cell)) cells) e in
    let unseen : list_any (bytes_eq (name_of cell)) seen ≡ false = is_new seen (name_of cell) test in
    let (new, distinct) = new_names (seen ++ name_of cell ∷ []) cells (rw unseen at rest) in
    let (others, differ) = after_one seen (name_of cell) (map name_of cells) new in (
      All-cons (λ m. list_any (bytes_eq m) seen ≡ false) (name_of cell) (map name_of cells) unseen others,
      AllPairs-cons (λ a b. a ≢ b) (name_of cell) (map name_of cells) differ distinct,
    )

pub none_twice : NoneTwice
none_twice cells e = (new_names [] cells e).1

pub one_library : OneLibrary
one_library bytes a b f g =
    let units = units_of (library_in_bytes bytes) in
    let cells = cell_groups (library_in_bytes bytes) in
    let distinct = none_twice cells (no_part (twice_flaws [] cells) (flat_map (cell_flaws units) cells) f.says.values) in
    let c : a.cells ≡ b.cells = f.says.cells ∙ sym g.says.cells in
    let r : a.repeaters ≡ b.repeaters = one_order units cells a.repeaters b.repeaters distinct f.says.repeaters g.says.repeaters in
    λ t. record { cells = c t; repeaters = r t }
