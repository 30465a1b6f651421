-- The ranges of identifiers in a changed netlist.
use Rattle.std.proofs.Common.{◌≡◌, ℕ, Bool, true, false, cond, ◌||◌, List, [], ◌∷◌, ◌++◌, map, Option, Some, None, refl, sym, ap, ◌∙◌}
use Rattle.std.specs.Prelude.{find, option_and_then}
use Rattle.std.specs.List.{list_any}
use Rattle.std.specs.Str.{bytes_eq}
use Rattle.std.proofs.lemmas.List.{map-append}
use Rattle.ver_module.specs.declared.range.Range.{Range}
use Rattle.ver_items.specs.Declarations.{Declared, declared_of, range_in}
use Rattle.ver_file.proofs.ListLemmas.{bytes_are}
use Rattle.ver_patch_text_laws.proofs.TextLemmas.{Each}
use Rattle.ver_patch_laws.specs.Declared.{AreDeclared, unplaced, wire_declared}
use Rattle.ver_patch_laws.proofs.NameLemmas.{HaveRanges}

range_by : Bool → Declared → Option Range → Option Range
range_by b d rest = cond b d.heading.range rest

range_first : (d : Declared) (ds : List Declared) (name : List ℕ) → range_in (d ∷ ds) name ≡ range_by (bytes_eq name d.name) d (range_in ds name)
unfolding range_by
range_first d ds name = by_test (bytes_eq name d.name)
  where
    by_test : (b : Bool) → option_and_then (λ (d : Declared). d.heading.range) (cond b (Some d) (find (λ d. bytes_eq name d.name) ds)) ≡ cond b d.heading.range (range_in ds name)
    by_test true = refl
    by_test false = refl

range_unplaced : (ds : List Declared) (name : List ℕ) → range_in (map unplaced ds) name ≡ range_in ds name
unfolding range_by
range_unplaced [] name = refl
range_unplaced (d ∷ ds) name =
    range_first (unplaced d) (map unplaced ds) name ∙ ap (λ r. cond (bytes_eq name d.name) d.heading.range r) (range_unplaced ds name) ∙ sym (range_first d ds name)

-- declarations without a range are put among others
range_among : (front : List Declared) (wires : List (List ℕ)) (back : List Declared) (name : List ℕ)
    → (list_any (bytes_eq name) wires ≡ true → range_in (front ++ back) name ≡ None)
    → range_in (front ++ (map wire_declared wires ++ back)) name ≡ range_in (front ++ back) name
unfolding range_by
range_among [] [] back name h = refl
range_among [] (w ∷ wires) back name h =
    range_first (wire_declared w) (map wire_declared wires ++ back) name ∙ by_test (bytes_eq name w) h (range_among [] wires back name)
  where
    by_test : (b : Bool) → ((b || list_any (bytes_eq name) wires) ≡ true → range_in back name ≡ None)
        → ((list_any (bytes_eq name) wires ≡ true → range_in back name ≡ None) → range_in (map wire_declared wires ++ back) name ≡ range_in back name)
        → cond b None (range_in (map wire_declared wires ++ back) name) ≡ range_in back name
    by_test true k more = sym (k refl)
    by_test false k more = more k
range_among (d ∷ front) wires back name h =
    range_first d (front ++ (map wire_declared wires ++ back)) name ∙ by_test (bytes_eq name d.name) refl (range_among front wires back name)
    ∙ sym (range_first d (front ++ back) name)
  where
    by_test : (b : Bool) → bytes_eq name d.name ≡ b
        → ((list_any (bytes_eq name) wires ≡ true → range_in (front ++ back) name ≡ None)
        → range_in (front ++ (map wire_declared wires ++ back)) name ≡ range_in (front ++ back) name)
        → cond b d.heading.range (range_in (front ++ (map wire_declared wires ++ back)) name) ≡ cond b d.heading.range (range_in (front ++ back) name)
    by_test true t more = refl
    by_test false t more = more (λ e. ap (λ b. cond b d.heading.range (range_in (front ++ back) name)) (sym t) ∙ sym (range_first d (front ++ back) name) ∙ h e)

none_named : (ds : List Declared) (name : List ℕ) (wires : List (List ℕ)) → Each (λ w. range_in ds w ≡ None) wires → list_any (bytes_eq name) wires ≡ true
    → range_in ds name ≡ None
none_named ds name [] h e = absurd (cc)
none_named ds name (w ∷ wires) h e = by_test (bytes_eq name w) refl e (none_named ds name wires h.1)
  where
    by_test : (b : Bool) → bytes_eq name w ≡ b → (b || list_any (bytes_eq name) wires) ≡ true
        → (list_any (bytes_eq name) wires ≡ true → range_in ds name ≡ None) → range_in ds name ≡ None
    by_test true t f more = ap (range_in ds) (bytes_are name w t) ∙ h.0
    by_test false t f more = more f

-- identifiers have the ranges that they had, where the new wires have none
pub ranges_stay : (text : List ℕ) (wires : List (List ℕ)) (new : List ℕ) → AreDeclared text wires new → Each (λ w. range_in (declared_of text) w ≡ None) wires
    → HaveRanges text new
ranges_stay text wires new d h name =
    let front = map unplaced d.front in
    let back = map unplaced d.back in
    let old : range_in (front ++ back) name ≡ range_in (declared_of text) name
    = ap (λ ds. range_in ds name) (sym (map-append unplaced d.front d.back)) ∙ range_unplaced (d.front ++ d.back) name ∙ ap (λ ds. range_in ds name) (sym d.before) in
    sym (sym (range_unplaced (declared_of new) name) ∙ ap (λ ds. range_in ds name) d.now
    ∙ range_among front wires back name (λ e. old ∙ none_named (declared_of text) name wires h e) ∙ old)
