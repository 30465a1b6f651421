-- The section of a net, by its name.
use Rattle.std.proofs.Common.{◌≡◌, ℕ, ◌<◌, false, List, [], length, get_or, sym, ap, ◌∙◌, refl, arith, Option, Some, None, is_some}
use Rattle.std.specs.Prelude.{option_map}
use Rattle.std.specs.List.{Contains, position, slice_get}
use Rattle.std.specs.Str.{bytes_eq}
use Rattle.std.proofs.lemmas.List.{get_or-map, length-map}
use Rattle.std.proofs.lemmas.List.Quantifiers.{position-Some}
use Rattle.std.proofs.lemmas.Option.{slice_get-get_or}
use Rattle.std.proofs.lemmas.Slice.Eq.{bytes_eq-Decides}
use Rattle.spef_file.specs.Tables.{NetRow, names_of}
use Rattle.spef_file.specs.declared.section.Section.{Section}

pub none_left : (o : Option ℕ) → ((x : ℕ) → o ≡ Some x → ⊥) → is_some o ≡ false
none_left None never = refl
none_left (Some x) never = absurd (never x refl)

-- the section that is found by a name is in the index under this name
pub found_there : (rows : List NetRow) (name : List ℕ) (at : ℕ) (section : Section) → position (bytes_eq name) (names_of rows) ≡ Some at
    → option_map (λ (row : NetRow). row.1) (slice_get rows at) ≡ Some section
    → Contains rows (name, section) × (slice_get rows at ≡ Some (name, section))
found_there rows name at section found got =
    let place = position-Some (bytes_eq name) (names_of rows) at [] found in
    let low : at < length rows = (let l = place.0 in omega (arith, l, length-map rows (λ (row : NetRow). row.0))) in
    let row : NetRow = get_or rows at (name, section) in
    let name_is : name ≡ row.0 = (bytes_eq-Decides name (get_or (names_of rows) at [])).0 place.1 ∙ get_or-map (λ (r : NetRow). r.0) rows at (name, section) [] low in
    let there : slice_get rows at ≡ Some row = slice_get-get_or rows at (name, section) low in
    let here : Some row.1 ≡ Some section = sym (ap (option_map (λ (r : NetRow). r.1)) there) ∙ got in
    let is : row ≡ (name, section) = pair row (sym name_is) here in
    ((at, low, is), there ∙ ap Some is)
  where
    pair : (row : NetRow) → row.0 ≡ name → Some row.1 ≡ Some section → row ≡ (name, section)
    pair (a, b) e f = cc
