-- Instances that are put last with their pins.
use Rattle.std.proofs.Common.{◌≡◌, ℕ, List, [], ◌∷◌, ◌++◌, flat_map, fold, refl, sym, ap, ◌∙◌, append_assoc, subst, true, false}
use Rattle.std.proofs.lemmas.List.{append-nil}
use Rattle.ver_syntax.specs.declared.row.Row.{Row}
use Rattle.ver_module.specs.declared.link.Link.TheVariants.{One, Many}
use Rattle.ver_module.specs.Netlists.{Instance, Pin, with_pin}
use Rattle.ver_file.specs.Netlists.{is_one, link_of, nets_in, one_named}
use Rattle.ver_items.specs.Sections.{Section, is_identifier, section_before}

-- the last instance gets a pin
pin_last : (before : List Instance) (name cell : List ℕ) (pins : List Pin) (pin : Pin)
    → with_pin (before ++ (record { name = name; cell = cell; pins = pins }) ∷ []) pin ≡ before ++ (record { name = name; cell = cell; pins = pins ++ pin ∷ [] }) ∷ []
pin_last [] name cell pins pin = refl
pin_last (i ∷ []) name cell pins pin = refl
pin_last (i ∷ j ∷ is) name cell pins pin = ap (λ more. i ∷ more) (pin_last (j ∷ is) name cell pins pin)

-- and some pins
pub pins_last : (before : List Instance) (name cell : List ℕ) (pins more : List Pin)
    → fold with_pin (before ++ (record { name = name; cell = cell; pins = pins }) ∷ []) more ≡ before ++ (record { name = name; cell = cell; pins = pins ++ more }) ∷ []
pins_last before name cell pins [] = ap (λ ps. before ++ (record { name = name; cell = cell; pins = ps }) ∷ []) (sym (append-nil pins))
pins_last before name cell pins (p ∷ ps) =
    ap (λ is. fold with_pin is ps) (pin_last before name cell pins p)
    ∙ pins_last before name cell (pins ++ p ∷ []) ps
    ∙ ap (λ qs. before ++ (record { name = name; cell = cell; pins = qs }) ∷ []) (append_assoc pins (p ∷ []) ps)

-- one part more of a list that is made part by part
pub part_more : {X Y : Type 0} (f : X → List Y) (done new : List Y) (x : X) (all rest : List X) → new ≡ done ++ f x → all ≡ x ∷ rest
    → new ++ flat_map f rest ≡ done ++ flat_map f all
part_more f done new x all rest e g =
    ap (λ ys. ys ++ flat_map f rest) e ∙ append_assoc done (f x) (flat_map f rest) ∙ ap (λ xs. done ++ flat_map f xs) (sym g)

pub part_done : {X Y : Type 0} (f : X → List Y) (done : List Y) (all : List X) → all ≡ [] → done ++ flat_map f all ≡ done
part_done f done all e = ap (λ xs. done ++ flat_map f xs) e ∙ append-nil done

-- ---- links

pub link_one : (text : List ℕ) (all : List Row) (r : Row) (rows : List Row) (s : Section) (n : ℕ) → all ≡ r ∷ rows → s ≡ section_before is_identifier r rows
    → is_one text s ≡ true → n ≡ one_named text s → One n ≡ link_of text all
link_one text all r rows s n e f t g =
    let t' : is_one text (section_before is_identifier r rows) ≡ true = ap (is_one text) (sym f) ∙ t in
    subst (λ (rs : List Row). One n ≡ link_of text rs) (sym e) (rw t' (ap (λ m. One m) (g ∙ ap (one_named text) f)))

pub link_many : (text : List ℕ) (all : List Row) (r : Row) (rows : List Row) (s : Section) (ns : List ℕ) → all ≡ r ∷ rows → s ≡ section_before is_identifier r rows
    → is_one text s ≡ false → ns ≡ nets_in text all → Many ns ≡ link_of text all
link_many text all r rows s ns e f t g =
    let t' : is_one text (section_before is_identifier r rows) ≡ false = ap (is_one text) (sym f) ∙ t in
    ap (λ ms. Many ms) g
    ∙ subst (λ (rs : List Row). Many (nets_in text rs) ≡ link_of text rs) (sym e) (rw t' refl)
