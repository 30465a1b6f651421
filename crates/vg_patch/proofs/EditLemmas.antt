-- Texts of which parts are replaced.
use Rattle.std.proofs.Common.{◌≡◌, ℕ, zero, suc, ◌+◌, ◌-◌, ◌<◌, ◌≤◌, List, [], ◌∷◌, ◌++◌, length, take, drop, map, get_or, arith, refl, sym, ap, ◌∙◌, length-append, length-drop}
use Rattle.std.specs.List.{All}
use Rattle.std.proofs.Math.Seq.{drop-append_seam, take-length}
use Rattle.std.proofs.lemmas.List.{take-append-drop, take-append-le, drop-append-le, drop-drop, drop-take, take-take, append_assoc, length-map, map-append}
use Rattle.std.proofs.lemmas.List.Elements.{All-append, All-cons, All-nil, All-weaker}
use Rattle.vg_scan.specs.Lines.{part}
use Rattle.vg_patch.specs.Edits.{Edit, Rise, edit_of, end_of, patched_from}
use Rattle.vg_patch.specs.Rows.{edit_in, IsRow}
use Rattle.vg_patch.specs.Laws.{kept}
use Rattle.vg_patch.specs.declared.patch.Row.{Row}

-- ---- rows

-- a part stays where bytes are appended
pub part_stays : (text more : List ℕ) (from to : ℕ) → from ≤ to → to ≤ length text → part (text ++ more) from to ≡ part text from to
part_stays text more from to low high =
    ap (take (to - from)) (drop-append-le from text more (omega (arith, low, high)))
    ∙ take-append-le (to - from) (drop from text) more (omega (arith, high, length-drop from text))

-- the bytes that are appended
pub part_last : (text more : List ℕ) → part (text ++ more) (length text) (length (text ++ more)) ≡ more
part_last text more =
    let count : length (text ++ more) - length text ≡ length more = omega (arith, length-append text more) in
    ap (λ n. take n (drop (length text) (text ++ more))) count ∙ ap (take (length more)) (drop-append_seam text more) ∙ take-length more

edits_stay : (text more : List ℕ) (rows : List Row) → All (IsRow (length text)) rows → map (edit_in (text ++ more)) rows ≡ map (edit_in text) rows
edits_stay text more [] all = refl
edits_stay text more (r ∷ rows) all =
    let is = all 0 r (omega arith) in
    ap (λ (bytes : List ℕ). edit_of r.part bytes ∷ map (edit_in (text ++ more)) rows) (part_stays text more r.from r.to is.rise is.within)
    ∙ ap (λ (edits : List Edit). edit_in text r ∷ edits) (edits_stay text more rows (λ i d low. all (suc i) d (omega (arith, low))))

-- a part and its text more
pub edits_more : (text more : List ℕ) (rows : List Row) (r : Row) → All (IsRow (length text)) rows → r.from ≡ length text → r.to ≡ length (text ++ more)
    → map (edit_in (text ++ more)) (rows ++ r ∷ []) ≡ map (edit_in text) rows ++ edit_of r.part more ∷ []
edits_more text more rows r all from to =
    let own : part (text ++ more) r.from r.to ≡ more = ap (λ n. part (text ++ more) n r.to) from ∙ ap (part (text ++ more) (length text)) to ∙ part_last text more in
    map-append (edit_in (text ++ more)) rows (r ∷ [])
    ∙ ap (λ (edits : List Edit). edits ++ edit_in (text ++ more) r ∷ []) (edits_stay text more rows all)
    ∙ ap (λ (bytes : List ℕ). map (edit_in text) rows ++ edit_of r.part bytes ∷ []) own

-- rows stand in a longer text, and one more
pub stand_more : (text more : List ℕ) (rows : List Row) (r : Row) → All (IsRow (length text)) rows → r.from ≡ length text → r.to ≡ length (text ++ more)
    → All (IsRow (length (text ++ more))) (rows ++ r ∷ [])
stand_more text more rows r all from to =
    let longer = length-append text more in
    All-append (IsRow (length (text ++ more))) rows (r ∷ [])
    (All-weaker (IsRow (length text)) (IsRow (length (text ++ more))) (λ row is. record { rise = is.rise; within = omega (arith, longer, is.within) }) rows all)
    (All-cons (IsRow (length (text ++ more))) r [] (record { rise = omega (arith, from, to, longer); within = omega (arith, to) }) (All-nil (IsRow (length (text ++ more)))))

-- from a part on
drop-map : (f : Row → Edit) (rows : List Row) (n : ℕ) (none : Row) → n < length rows → drop n (map f rows) ≡ f (get_or rows n none) ∷ drop (suc n) (map f rows)
drop-map f [] n none l = absurd (omega (arith, l))
drop-map f (r ∷ rows) zero none l = refl
drop-map f (r ∷ rows) (suc n) none l = drop-map f rows n none (omega (arith, l))

-- ---- parts one after another

pub end_more : (edits : List Edit) (e : Edit) → end_of (edits ++ e ∷ []) ≡ e.to
end_more [] e = refl
end_more (f ∷ []) e = refl
end_more (f ∷ g ∷ edits) e = end_more (g ∷ edits) e

pub rise_within : (at : ℕ) (edits : List Edit) (end : ℕ) → Rise at end edits → at ≤ end
rise_within at [] end h = h
rise_within at (f ∷ edits) end h = let more = rise_within f.to edits end h.2 in omega (arith, h.0, h.1, more)

-- one part more behind the others
pub rise_more : (at mid : ℕ) (edits : List Edit) (e : Edit) → Rise at mid edits → mid ≤ e.from → e.from ≤ e.to → Rise at e.to (edits ++ e ∷ [])
rise_more at mid [] e h behind own = (omega arith, own, omega arith)
rise_more at mid (f ∷ edits) e h behind own = (h.0, h.1, rise_more f.to mid edits e h.2 behind own)

-- ---- the text

pub part_then : (text : List ℕ) (at from : ℕ) → at ≤ from → part text at from ++ drop from text ≡ drop at text
part_then text at from low =
    let d : drop (from - at) (drop at text) ≡ drop from text = drop-drop (from - at) at text ∙ ap (λ n. drop n text) (let e : at + (from - at) ≡ from = omega arith in e) in
    ap (λ rest. part text at from ++ rest) (sym d) ∙ take-append-drop (from - at) (drop at text)

-- a part of a text's front
pub part_of_front : (text : List ℕ) (at from end : ℕ) → at ≤ from → from ≤ end → part (take end text) at from ≡ part text at from
part_of_front text at from end low high =
    let whole : at + (end - at) ≡ end = omega arith in
    ap (λ n. take (from - at) (drop at (take n text))) (sym whole)
    ∙ ap (take (from - at)) (drop-take at (end - at) text)
    ∙ take-take (from - at) (end - at) (drop at text) (omega arith)

pub front_from : (text : List ℕ) (at end : ℕ) → at ≤ end → drop at (take end text) ≡ part text at end
front_from text at end low =
    let whole : at + (end - at) ≡ end = omega arith in
    ap (λ n. drop at (take n text)) (sym whole) ∙ drop-take at (end - at) text

-- a text of which each part is replaced by what stands there
pub kept_stay : (text : List ℕ) (at : ℕ) (edits : List Edit) → Rise at (length text) edits → patched_from at text (map (kept text) edits) ≡ drop at text
kept_stay text at [] h = refl
kept_stay text at (e ∷ edits) h =
    ap (λ rest. part text at e.from ++ (part text e.from e.to ++ rest)) (kept_stay text e.to edits h.2)
    ∙ ap (λ rest. part text at e.from ++ rest) (part_then text e.from e.to h.1)
    ∙ part_then text at e.from h.0

-- the parts before one of them end before it
before : (at : ℕ) (edits later : List Edit) (e : Edit) (end : ℕ) → Rise at end (edits ++ e ∷ later) → at ≤ e.from
before at [] later e end h = h.0
before at (f ∷ edits) later e end h = let more = before f.to edits later e end h.2 in omega (arith, h.0, h.1, more)

-- a part among others divides a patched text
pub split : (text : List ℕ) (at : ℕ) (edits later : List Edit) (e : Edit) → Rise at (length text) (edits ++ e ∷ later)
    → patched_from at text (edits ++ e ∷ later) ≡ patched_from at (take e.from text) edits ++ (e.text ++ patched_from e.to text later)
split text at [] later e h = ap (λ front. front ++ (e.text ++ patched_from e.to text later)) (sym (front_from text at e.from h.0))
split text at (f ∷ edits) later e h =
    let rest = e.text ++ patched_from e.to text later in
    let near : f.from ≤ e.from = (let more = before f.to edits later e (length text) h.2 in omega (arith, h.1, more)) in
    ap (λ more. part text at f.from ++ (f.text ++ more)) (split text f.to edits later e h.2)
    ∙ ap (λ front. front ++ (f.text ++ (patched_from f.to (take e.from text) edits ++ rest))) (sym (part_of_front text at f.from e.from h.0 near))
    ∙ ap (λ more. part (take e.from text) at f.from ++ more) (sym (append_assoc f.text (patched_from f.to (take e.from text) edits) rest))
    ∙ sym (append_assoc (part (take e.from text) at f.from) (f.text ++ patched_from f.to (take e.from text) edits) rest)

-- ---- one part after another

-- the edits from a number on
pub next_edit : (text : List ℕ) (rows : List Row) (edits : List Edit) (n : ℕ) (r : Row) → map (edit_in text) rows ≡ edits → n < length edits → r ≡ get_or rows n r
    → drop n edits ≡ edit_in text r ∷ drop (n + 1) edits
next_edit text rows edits n r v l is =
    let within : n < length rows = omega (arith, l, ap length v, length-map rows (edit_in text)) in
    let more : suc n ≡ n + 1 = omega arith in
    ap (drop n) (sym v) ∙ drop-map (edit_in text) rows n r within
    ∙ ap (λ (q : Row). edit_in text q ∷ drop (suc n) (map (edit_in text) rows)) (sym is)
    ∙ ap (λ k. edit_in text r ∷ drop k (map (edit_in text) rows)) more
    ∙ ap (λ es. edit_in text r ∷ drop (n + 1) es) v

-- no part is left behind the last
pub all_dropped : (edits : List Edit) (n : ℕ) → length edits ≤ n → drop n edits ≡ []
all_dropped [] zero h = refl
all_dropped [] (suc n) h = refl
all_dropped (e ∷ edits) zero h = absurd (let x : ⊥ = omega (arith, h) in x)
all_dropped (e ∷ edits) (suc n) h = all_dropped edits n (omega (arith, h))
