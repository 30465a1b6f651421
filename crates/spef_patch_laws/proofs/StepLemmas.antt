-- What one line more says, after the header.
use Rattle.std.proofs.Common.{◌≡◌, ◌≤◌, ◌⊎◌, inl, inr, Bool, true, false, cond, List, [], ◌∷◌, ◌++◌, ◌||◌, length, refl, ap, ◌∙◌, arith, length-append, Some, None}
use Rattle.std.specs.Prelude.{codes}
use Rattle.std.specs.Str.{bytes_eq}
use Rattle.std.proofs.lemmas.Bool.{le-ltb}
use Rattle.std.proofs.lemmas.Bool.Decides.{nat_tests}
use Rattle.std.proofs.lemmas.List.{append-nil}
use Rattle.std.proofs.lemmas.Slice.Eq.{bytes_eq-Decides}
use Rattle.vg_scan.specs.Lines.{Line}
use Rattle.spef_file.specs.Words.{first_word}
use Rattle.spef_file.specs.Keywords.{keyword_of}
use Rattle.spef_file.specs.Headers.{is_idle}
use Rattle.spef_file.specs.HeaderLines.{spoken, in_header, chars_of, c_places_of, r_places_of}
use Rattle.spef_file.specs.Nets.{is_end, is_head}
use Rattle.spef_file.specs.Regions.{Place, outside, in_map, in_passed, in_net, place_of, place_after, opened, is_net, is_net_head, opens_net, opens_foreign, opens_nothing}
use Rattle.spef_file.specs.Statements.{listed, row_in, rows_of, net_in, nets_of}
use Rattle.spef_file.specs.Faults.{fault_of}
use Rattle.spef_file.proofs.MoreLemmas.{spoken_more, header_kept, place_more, rows_more, nets_more}
use Rattle.spef_patch_laws.specs.Runs.{SaysSame, MayBegin, head_in}

spoken_grow : (idle : Bool) (xs : List Line) (x : Line) → length xs ≤ length (cond idle xs (xs ++ x ∷ []))
spoken_grow true xs x = omega arith
spoken_grow false xs x = omega (arith, length-append xs (x ∷ []))

pub over_is : (before : List Line) → in_header before ≡ false → 14 ≤ length (spoken before)
over_is before e = grind (arith, nat_tests)

-- the header is still over
pub over_more : (before : List Line) (line : Line) → in_header before ≡ false → in_header (before ++ line ∷ []) ≡ false
over_more before line e =
    let more = spoken_grow (is_idle (length (spoken before)) line) (spoken before) line in
    let l : length (spoken before) ≤ length (spoken (before ++ line ∷ [])) = rw (spoken_more before line) more in
    le-ltb (length (spoken (before ++ line ∷ []))) 14 (omega (arith, over_is before e, l))

-- and has said what it said
pub record HeaderStays (before after : List Line) : Type 0 where
  pub over : in_header after ≡ false
  pub chars : chars_of after ≡ chars_of before
  pub c_places : c_places_of after ≡ c_places_of before
  pub r_places : r_places_of after ≡ r_places_of before

pub header_stays : (before : List Line) (line : Line) → in_header before ≡ false → HeaderStays before (before ++ line ∷ [])
unfolding chars_of c_places_of r_places_of
header_stays before line e =
    let high = over_is before e in
    record {
      over = over_more before line e;
      chars = rw (header_kept before line 7 high (omega arith), header_kept before line 8 high (omega arith), header_kept before line 9 high (omega arith)) refl;
      c_places = rw (header_kept before line 11 high (omega arith)) refl;
      r_places = rw (header_kept before line 12 high (omega arith)) refl;
    }

-- a line that gives no row
pub no_row : (before : List Line) (line : Line) → in_header before ≡ false → row_in before line ≡ None → SaysSame before (before ++ line ∷ [])
no_row before line e none =
    let h = header_stays before line e in
    record {
      old_over = e;
      over = h.over;
      chars = h.chars;
      c_places = h.c_places;
      r_places = h.r_places;
      rows = rows_more before line ∙ ap (λ o. rows_of before ++ listed o) none ∙ append-nil (rows_of before);
    }

-- ---- in a net

pub inside_row : (before : List Line) (line : Line) → in_header before ≡ false → place_of before ≡ in_net → row_in before line ≡ None
inside_row before line e p = rw (e, p) refl

pub inside_net : (before : List Line) (line : Line) → in_header before ≡ false → place_of before ≡ in_net → nets_of (before ++ line ∷ []) ≡ nets_of before
inside_net before line e p =
    let none : net_in before line ≡ None = rw (e, p) refl in
    nets_more before line ∙ ap (λ o. nets_of before ++ listed o) none ∙ append-nil (nets_of before)

pub inside_place : (before : List Line) (line : Line) (ends : Bool) → place_of before ≡ in_net → is_end line ≡ ends → place_of (before ++ line ∷ []) ≡ cond ends outside in_net
inside_place before line ends p e = place_more before line ∙ ap (λ q. place_after q line) p ∙ ap (λ t. cond t outside in_net) e

pub inside_fault : (before : List Line) (line : Line) (later : List Line) → in_header before ≡ false → place_of before ≡ in_net → fault_of before line later ≡ None
unfolding fault_of
inside_fault before line later e p = rw (e, p) refl

-- ---- a net's head

one_of : (a b : Bool) → (a || b) ≡ true → (a ≡ true) ⊎ (b ≡ true)
one_of true b e = inl refl
one_of false b e = inr e

d_place : (p : Place) (line : Line) → is_net p ≡ false → first_word line ≡ codes "*D_NET" → place_after p line ≡ in_net
unfolding keyword_of
d_place outside line out e = ap (λ w. opened outside (keyword_of w)) e
d_place in_map line out e = ap (λ w. opened in_map (keyword_of w)) e
d_place in_passed line out e = ap (λ w. opened in_passed (keyword_of w)) e
d_place in_net line out e = absurd (cc)

r_place : (p : Place) (line : Line) → is_net p ≡ false → first_word line ≡ codes "*R_NET" → place_after p line ≡ in_net
unfolding keyword_of
r_place outside line out e = ap (λ w. opened outside (keyword_of w)) e
r_place in_map line out e = ap (λ w. opened in_map (keyword_of w)) e
r_place in_passed line out e = ap (λ w. opened in_passed (keyword_of w)) e
r_place in_net line out e = absurd (cc)

-- what a head's first word opens
pub record OpensNet (line : Line) : Type 0 where
  pub net : opens_net (keyword_of (first_word line)) ≡ true
  pub foreign : opens_foreign (keyword_of (first_word line)) ≡ false
  pub nothing : opens_nothing (keyword_of (first_word line)) ≡ false
  pub place : (p : Place) → is_net p ≡ false → place_after p line ≡ in_net
  pub no_end : is_end line ≡ false

d_opens : (line : Line) → first_word line ≡ codes "*D_NET" → OpensNet line
unfolding keyword_of
d_opens line e = record {
  net = ap (λ w. opens_net (keyword_of w)) e;
  foreign = ap (λ w. opens_foreign (keyword_of w)) e;
  nothing = ap (λ w. opens_nothing (keyword_of w)) e;
  place = λ p out. d_place p line out e;
  no_end = ap (λ w. bytes_eq w (codes "*END")) e;
}

r_opens : (line : Line) → first_word line ≡ codes "*R_NET" → OpensNet line
unfolding keyword_of
r_opens line e = record {
  net = ap (λ w. opens_net (keyword_of w)) e;
  foreign = ap (λ w. opens_foreign (keyword_of w)) e;
  nothing = ap (λ w. opens_nothing (keyword_of w)) e;
  place = λ p out. r_place p line out e;
  no_end = ap (λ w. bytes_eq w (codes "*END")) e;
}

pub opens : (line : Line) → is_head line ≡ true → OpensNet line
opens line e =
    elim (one_of (bytes_eq (first_word line) (codes "*D_NET")) (bytes_eq (first_word line) (codes "*R_NET")) e) [
      | inl d ↦ d_opens line ((bytes_eq-Decides (first_word line) (codes "*D_NET")).0 d)
      | inr r ↦ r_opens line ((bytes_eq-Decides (first_word line) (codes "*R_NET")).0 r)
    ]

-- a net's head opens the net
pub net_head : (before : List Line) (line : Line) → MayBegin before → is_head line ≡ true → is_net_head before line ≡ true
net_head before line may e = let o = opens line e in rw (may.over, may.out, o.net) refl

pub head_row : (before : List Line) (line : Line) → MayBegin before → is_head line ≡ true → row_in before line ≡ None
head_row before line may e = let o = opens line e in rw (may.over, may.out, o.nothing) refl

pub head_place : (before : List Line) (line : Line) → MayBegin before → is_head line ≡ true → place_of (before ++ line ∷ []) ≡ in_net
head_place before line may e = let o = opens line e in place_more before line ∙ o.place (place_of before) may.out

pub head_net : (before : List Line) (line : Line) → MayBegin before → is_head line ≡ true
    → nets_of (before ++ line ∷ []) ≡ nets_of before ++ head_in before line ∷ []
head_net before line may e =
    let some : net_in before line ≡ Some (head_in before line) = ap (λ t. cond t (Some (head_in before line)) None) (net_head before line may e) in
    nets_more before line ∙ ap (λ o. nets_of before ++ listed o) some
