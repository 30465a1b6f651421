-- Printed nodes in a text that grows.
use Rattle.std.proofs.Common.{◌≡◌, ℕ, suc, ◌+◌, ◌-◌, ◌≤◌, List, [], ◌∷◌, ◌++◌, length, take, drop, map, arith, refl, sym, ap, ◌∙◌, length-drop}
use Rattle.std.specs.List.{All}
use Rattle.std.proofs.Math.Seq.{drop-append_seam, take-append_seam}
use Rattle.std.proofs.lemmas.List.{append-nil, append_assoc, length-append, take-append-le, drop-append-le, map-append}
use Rattle.std.proofs.lemmas.List.Elements.{All-append, All-cons, All-nil, All-weaker}
use Rattle.vg_scan.specs.Lines.{part}
use Rattle.spef_write.specs.declared.printed.Place.{Place}
use Rattle.spef_write.specs.Places.{printed_in, IsPlace}
use Rattle.spef_write.specs.Printed.{PrintedNode}

-- a part stays where bytes are appended
part_stays : (text more : List ℕ) (from to : ℕ) → from ≤ to → to ≤ length text → part (text ++ more) from to ≡ part text from to
part_stays text more from to low high =
    ap (take (to - from)) (drop-append-le from text more (omega (arith, low, high)))
    ∙ take-append-le (to - from) (drop from text) more (omega (arith, high, length-drop from text))

-- bytes in the middle
part_middle : (text middle more : List ℕ) → part ((text ++ middle) ++ more) (length text) (length text + length middle) ≡ middle
part_middle text middle more =
    let count : length text + length middle - length text ≡ length middle = omega arith in
    ap (λ n. take n (drop (length text) ((text ++ middle) ++ more))) count
    ∙ ap (λ xs. take (length middle) (drop (length text) xs)) (append_assoc text middle more)
    ∙ ap (take (length middle)) (drop-append_seam text (middle ++ more))
    ∙ take-append_seam middle more

stays : (text more : List ℕ) (places : List Place) → All (IsPlace (length text)) places
    → map (printed_in (text ++ more)) places ≡ map (printed_in text) places
stays text more [] all = refl
stays text more (place ∷ places) all =
    let is = all 0 place (omega arith) in
    let name = part_stays text more place.name place.note is.name (omega (arith, is.note, is.end)) in
    let note = part_stays text more place.note place.end is.note is.end in
    let here : printed_in (text ++ more) place ≡ printed_in text place
    = λ i. record { name = name i; inner = place.inner; note = note i; charge = place.charge } in
    ap (λ (node : PrintedNode). node ∷ map (printed_in (text ++ more)) places) here
    ∙ ap (λ (nodes : List PrintedNode). printed_in text place ∷ nodes) (stays text more places (λ i d low. all (suc i) d (omega (arith, low))))

-- places stay within a longer text
pub places_within : (least most : ℕ) (places : List Place) → least ≤ most → All (IsPlace least) places → All (IsPlace most) places
places_within least most places more all =
    All-weaker (IsPlace least) (IsPlace most)
    (λ place is. record { name = is.name; note = is.note; end = omega (arith, more, is.end) }) places all

-- one node more
pub place_more : (text name note : List ℕ) (places : List Place) (place : Place) → All (IsPlace (length text)) places → place.name ≡ length text
    → place.note ≡ length (text ++ name) → place.end ≡ length ((text ++ name) ++ note)
    → map (printed_in ((text ++ name) ++ note)) (places ++ place ∷ [])
    ≡ map (printed_in text) places ++ record { name = name; inner = place.inner; note = note; charge = place.charge } ∷ []
place_more text name note places place all name_at note_at end_at =
    let whole = (text ++ name) ++ note in
    let name_is : part whole place.name place.note ≡ name
    = ap (λ n. part whole n place.note) name_at ∙ ap (part whole (length text)) (note_at ∙ length-append text name) ∙ part_middle text name note in
    let note_is : part whole place.note place.end ≡ note
    = ap (λ n. part whole n place.end) note_at ∙ ap (part whole (length (text ++ name))) (end_at ∙ length-append (text ++ name) note)
    ∙ ap (λ xs. part xs (length (text ++ name)) (length (text ++ name) + length note)) (sym (append-nil whole)) ∙ part_middle (text ++ name) note [] in
    let here : printed_in whole place ≡ record { name = name; inner = place.inner; note = note; charge = place.charge }
    = λ i. record { name = name_is i; inner = place.inner; note = note_is i; charge = place.charge } in
    map-append (printed_in whole) places (place ∷ [])
    ∙ ap (λ (nodes : List PrintedNode). nodes ++ printed_in whole place ∷ [])
    (ap (λ xs. map (printed_in xs) places) (append_assoc text name note) ∙ stays text (name ++ note) places all)
    ∙ ap (λ (node : PrintedNode). map (printed_in text) places ++ node ∷ []) here

pub places_more : (least most : ℕ) (places : List Place) (place : Place) → least ≤ most → All (IsPlace least) places → IsPlace most place
    → All (IsPlace most) (places ++ place ∷ [])
places_more least most places place more all is =
    All-append (IsPlace most) places (place ∷ []) (places_within least most places more all) (All-cons (IsPlace most) place [] is (All-nil (IsPlace most)))
