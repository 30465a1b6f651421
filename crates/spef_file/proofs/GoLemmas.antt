-- The state after one line more follows the lines up to it.
use Rattle.std.proofs.Common.{◌≡◌, ℕ, ◌+◌, ◌<◌, ◌≤◌, inl, inr, Bool, true, false, ◌&&◌, cond, eqb, List, [], ◌∷◌, ◌++◌, length, get_or, refl, sym, ap, ◌∙◌, subst, arith, Option, Some, None, Ok, Err, Result, length-append, nat_lt}
use Rattle.std.specs.Prelude.{codes, unwrap_or}
use Rattle.std.specs.Str.{bytes_eq}
use Rattle.std.proofs.lemmas.Bool.{cases_lt}
use Rattle.std.proofs.lemmas.List.{append-nil}
use Rattle.vg_scan.specs.Lines.{Line}
use Rattle.vg_scan.specs.declared.chars.Chars.{Chars}
use Rattle.vg_scan.proofs.ClearedLemmas.{first_of, ne_of_false}
use Rattle.spef_file.specs.declared.fault.SpefKind.{SpefKind}
use Rattle.spef_file.specs.declared.fault.SpefKind.TheVariants.{Header}
use Rattle.spef_file.specs.declared.heading.Heading.{Heading}
use Rattle.spef_file.specs.declared.keyword.Keyword.{Keyword}
use Rattle.spef_file.specs.declared.keyword.Keyword.TheVariants.{Map, Passed, Net, Foreign, Nothing}
use Rattle.spef_file.specs.declared.keyword.Region.{Region}
use Rattle.spef_file.specs.declared.keyword.Region.TheVariants.{Outside, InMap, InPassed}
use Rattle.spef_file.specs.Words.{first_word, second_word}
use Rattle.spef_file.specs.Keywords.{keyword_of}
use Rattle.spef_file.specs.HeaderChars.{divider_in, delimiter_in, bus_in}
use Rattle.spef_file.specs.Units.{unit_places}
use Rattle.spef_file.specs.Headers.{is_header_word, header_line, value_line, is_idle, with_chars, with_c_places, with_r_places}
use Rattle.spef_file.specs.HeaderLines.{spoken, in_header, header_at, chars_by, chars_of, c_places_of, r_places_of}
use Rattle.spef_file.specs.Regions.{Place, outside, in_map, in_passed, in_net, place_of, place_after, opened, is_net, is_map}
use Rattle.spef_file.specs.Rows.{map_line, head_name}
use Rattle.spef_file.specs.Nets.{is_end}
use Rattle.spef_file.specs.Statements.{listed, row_in, rows_of, net_in, nets_of}
use Rattle.spef_file.specs.Machine.{State, after, after_body, after_nothing, with_row, counted, head_of, state_fault}
use Rattle.spef_file.proofs.StepLemmas.{header_says, body_says}
use Rattle.spef_file.proofs.MoreLemmas.{truth, decide, spoken_more, header_past, header_here, header_other, header_kept, place_more, word_opens, idle_opens, rows_more, nets_more}
use Rattle.spef_file.proofs.FollowLemmas.{Follows, place_in, goes_on, is_over, out_of_net, not_net}

-- what the header gives, by its lines

chars_are : (lines : List Line) (a b c : Line) → header_at lines 7 ≡ a → header_at lines 8 ≡ b → header_at lines 9 ≡ c → chars_of lines ≡ chars_by a b c
unfolding chars_of
chars_are lines a b c e f g = rw (e, f, g) refl

chars_same : (all before : List Line) → header_at all 7 ≡ header_at before 7 → header_at all 8 ≡ header_at before 8 → header_at all 9 ≡ header_at before 9 → chars_of all ≡ chars_of before
chars_same all before e f g = chars_are all (header_at before 7) (header_at before 8) (header_at before 9) e f g ∙ sym (chars_are before (header_at before 7) (header_at before 8) (header_at before 9) refl refl refl)

c_same : (all before : List Line) → header_at all 11 ≡ header_at before 11 → c_places_of all ≡ c_places_of before
unfolding c_places_of
c_same all before e = ap (λ line. unwrap_or (unit_places (codes "FF") (codes "PF") line) 0) e

r_same : (all before : List Line) → header_at all 12 ≡ header_at before 12 → r_places_of all ≡ r_places_of before
unfolding r_places_of
r_same all before e = ap (λ line. unwrap_or (unit_places (codes "OHM") (codes "KOHM") line) 0) e

c_are : (lines : List Line) (line : Line) (n : ℕ) → header_at lines 11 ≡ line → unit_places (codes "FF") (codes "PF") line ≡ Some n → c_places_of lines ≡ n
unfolding c_places_of
c_are lines line n e f = ap (λ line. unwrap_or (unit_places (codes "FF") (codes "PF") line) 0) e ∙ ap (λ o. unwrap_or o 0) f

r_are : (lines : List Line) (line : Line) (n : ℕ) → header_at lines 12 ≡ line → unit_places (codes "OHM") (codes "KOHM") line ≡ Some n → r_places_of lines ≡ n
unfolding r_places_of
r_are lines line n e f = ap (λ line. unwrap_or (unit_places (codes "OHM") (codes "KOHM") line) 0) e ∙ ap (λ o. unwrap_or o 0) f

-- a heading gives what these lines give
pub record Gives (lines : List Line) (heading : Heading) : Type 0 where
  pub chars : heading.chars ≡ chars_of lines
  pub c_places : heading.c_places ≡ c_places_of lines
  pub r_places : heading.r_places ≡ r_places_of lines

record Marked (heading new : Heading) (o : Option Chars) : Type 0 where
  is : o ≡ Some new.chars
  c : new.c_places ≡ heading.c_places
  r : new.r_places ≡ heading.r_places

marked : (heading new : Heading) (o : Option Chars) → with_chars heading o ≡ Ok new → Marked heading new o
marked heading new None e = absurd (cc)
marked heading new (Some chars) e =
    let same : record heading { chars = chars } ≡ new = cc in
    record { is = ap (λ (h : Heading). Some h.chars) same; c = sym (ap (λ (h : Heading). h.c_places) same); r = sym (ap (λ (h : Heading). h.r_places) same) }

record Scaled (heading new : Heading) (o : Option ℕ) : Type 0 where
  is : o ≡ Some new.c_places
  chars : new.chars ≡ heading.chars
  r : new.r_places ≡ heading.r_places

scaled_c : (heading new : Heading) (o : Option ℕ) → with_c_places heading o ≡ Ok new → Scaled heading new o
scaled_c heading new None e = absurd (cc)
scaled_c heading new (Some n) e =
    let same : record heading { c_places = n } ≡ new = cc in
    record { is = ap (λ (h : Heading). Some h.c_places) same; chars = sym (ap (λ (h : Heading). h.chars) same); r = sym (ap (λ (h : Heading). h.r_places) same) }

record ScaledR (heading new : Heading) (o : Option ℕ) : Type 0 where
  is : o ≡ Some new.r_places
  chars : new.chars ≡ heading.chars
  c : new.c_places ≡ heading.c_places

scaled_r : (heading new : Heading) (o : Option ℕ) → with_r_places heading o ≡ Ok new → ScaledR heading new o
scaled_r heading new None e = absurd (cc)
scaled_r heading new (Some n) e =
    let same : record heading { r_places = n } ≡ new = cc in
    record { is = ap (λ (h : Heading). Some h.r_places) same; chars = sym (ap (λ (h : Heading). h.chars) same); c = sym (ap (λ (h : Heading). h.c_places) same) }

not_at : {m : ℕ} (n k : ℕ) → m ≡ n → eqb n k ≡ false → m ≡ k → ⊥
not_at n k is e same = ne_of_false n k e (sym is ∙ same)

module _ (all before : List Line) (line : Line) (heading new : Heading) (more : spoken all ≡ spoken before ++ line ∷ []) (gives : Gives before heading) where
  -- the header line of another number stays
  other : (k : ℕ) → (k ≡ length (spoken before) → ⊥) → header_at all k ≡ header_at before k
  other k e = header_other all before line k more e

  -- the header line of this number
  here : (k : ℕ) → length (spoken before) ≡ k → header_at all k ≡ line
  here k e = ap (header_at all) (sym e) ∙ header_here all before line more

  at_divider : length (spoken before) ≡ 7 → with_chars heading (divider_in heading.chars line) ≡ Ok new → Gives all new
  at_divider n e =
      let m = marked heading new (divider_in heading.chars line) e in
      let was : heading.chars ≡ chars_by [] [] [] = gives.chars ∙ chars_are before [] [] [] (header_past before 7 (omega arith)) (header_past before 8 (omega arith)) (header_past before 9 (omega arith)) in
      record {
        chars = sym (chars_are all line [] [] (here 7 n) (other 8 (λ k. omega arith) ∙ header_past before 8 (omega arith)) (other 9 (λ k. omega arith) ∙ header_past before 9 (omega arith))
            ∙ ap (λ o. unwrap_or o (chars_by [] [] [])) (ap (λ chars. divider_in chars line) (sym was) ∙ m.is));
        c_places = m.c ∙ gives.c_places ∙ sym (c_same all before (other 11 (λ k. omega arith)));
        r_places = m.r ∙ gives.r_places ∙ sym (r_same all before (other 12 (λ k. omega arith)));
      }

  at_delimiter : length (spoken before) ≡ 8 → with_chars heading (delimiter_in heading.chars line) ≡ Ok new → Gives all new
  at_delimiter n e =
      let m = marked heading new (delimiter_in heading.chars line) e in
      let was : heading.chars ≡ chars_by (header_at before 7) [] [] = gives.chars ∙ chars_are before (header_at before 7) [] [] refl (header_past before 8 (omega arith)) (header_past before 9 (omega arith)) in
      record {
        chars = sym (chars_are all (header_at before 7) line [] (other 7 (λ k. omega arith)) (here 8 n) (other 9 (λ k. omega arith) ∙ header_past before 9 (omega arith))
            ∙ ap (λ o. unwrap_or o (chars_by (header_at before 7) [] [])) (ap (λ chars. delimiter_in chars line) (sym was) ∙ m.is));
        c_places = m.c ∙ gives.c_places ∙ sym (c_same all before (other 11 (λ k. omega arith)));
        r_places = m.r ∙ gives.r_places ∙ sym (r_same all before (other 12 (λ k. omega arith)));
      }

  at_bus : length (spoken before) ≡ 9 → with_chars heading (bus_in heading.chars line) ≡ Ok new → Gives all new
  at_bus n e =
      let m = marked heading new (bus_in heading.chars line) e in
      let was : heading.chars ≡ chars_by (header_at before 7) (header_at before 8) [] = gives.chars ∙ chars_are before (header_at before 7) (header_at before 8) [] refl refl (header_past before 9 (omega arith)) in
      record {
        chars = sym (chars_are all (header_at before 7) (header_at before 8) line (other 7 (λ k. omega arith)) (other 8 (λ k. omega arith)) (here 9 n)
            ∙ ap (λ o. unwrap_or o (chars_by (header_at before 7) (header_at before 8) [])) (ap (λ chars. bus_in chars line) (sym was) ∙ m.is));
        c_places = m.c ∙ gives.c_places ∙ sym (c_same all before (other 11 (λ k. omega arith)));
        r_places = m.r ∙ gives.r_places ∙ sym (r_same all before (other 12 (λ k. omega arith)));
      }

  -- at no line of marks
  same_chars : (length (spoken before) ≡ 7 → ⊥) → (length (spoken before) ≡ 8 → ⊥) → (length (spoken before) ≡ 9 → ⊥) → chars_of all ≡ chars_of before
  same_chars a b c = chars_same all before (other 7 (λ e. a (sym e))) (other 8 (λ e. b (sym e))) (other 9 (λ e. c (sym e)))

  at_c : length (spoken before) ≡ 11 → with_c_places heading (unit_places (codes "FF") (codes "PF") line) ≡ Ok new → Gives all new
  at_c n e =
      let m = scaled_c heading new (unit_places (codes "FF") (codes "PF") line) e in
      record {
        chars = m.chars ∙ gives.chars ∙ sym (same_chars (λ k. omega arith) (λ k. omega arith) (λ k. omega arith));
        c_places = sym (c_are all line new.c_places (here 11 n) m.is);
        r_places = m.r ∙ gives.r_places ∙ sym (r_same all before (other 12 (λ k. omega arith)));
      }

  at_r : length (spoken before) ≡ 12 → with_r_places heading (unit_places (codes "OHM") (codes "KOHM") line) ≡ Ok new → Gives all new
  at_r n e =
      let m = scaled_r heading new (unit_places (codes "OHM") (codes "KOHM") line) e in
      record {
        chars = m.chars ∙ gives.chars ∙ sym (same_chars (λ k. omega arith) (λ k. omega arith) (λ k. omega arith));
        c_places = m.c ∙ gives.c_places ∙ sym (c_same all before (other 11 (λ k. omega arith)));
        r_places = sym (r_are all line new.r_places (here 12 n) m.is);
      }

  at_none : (length (spoken before) ≡ 7 → ⊥) → (length (spoken before) ≡ 8 → ⊥) → (length (spoken before) ≡ 9 → ⊥) → (length (spoken before) ≡ 11 → ⊥) → (length (spoken before) ≡ 12 → ⊥) → heading ≡ new → Gives all new
  at_none a b c d e same =
      subst (Gives all) same (record {
        chars = gives.chars ∙ sym (same_chars a b c);
        c_places = gives.c_places ∙ sym (c_same all before (other 11 (λ k. d (sym k))));
        r_places = gives.r_places ∙ sym (r_same all before (other 12 (λ k. e (sym k))));
      })

  value_7 : (n : ℕ) → length (spoken before) ≡ n → n ≡ 7 → value_line n heading line ≡ Ok new → Gives all new
  value_7 n is e v = at_divider (is ∙ e) (let P : ℕ → Type 0 = λ m. value_line m heading line ≡ Ok new in subst P e v)

  value_8 : (n : ℕ) → length (spoken before) ≡ n → n ≡ 8 → value_line n heading line ≡ Ok new → Gives all new
  value_8 n is e v = at_delimiter (is ∙ e) (let P : ℕ → Type 0 = λ m. value_line m heading line ≡ Ok new in subst P e v)

  value_9 : (n : ℕ) → length (spoken before) ≡ n → n ≡ 9 → value_line n heading line ≡ Ok new → Gives all new
  value_9 n is e v = at_bus (is ∙ e) (let P : ℕ → Type 0 = λ m. value_line m heading line ≡ Ok new in subst P e v)

  value_11 : (n : ℕ) → length (spoken before) ≡ n → n ≡ 11 → value_line n heading line ≡ Ok new → Gives all new
  value_11 n is e v = at_c (is ∙ e) (let P : ℕ → Type 0 = λ m. value_line m heading line ≡ Ok new in subst P e v)

  value_12 : (n : ℕ) → length (spoken before) ≡ n → n ≡ 12 → value_line n heading line ≡ Ok new → Gives all new
  value_12 n is e v = at_r (is ∙ e) (let P : ℕ → Type 0 = λ m. value_line m heading line ≡ Ok new in subst P e v)

  value_other : (n : ℕ) → length (spoken before) ≡ n → eqb n 7 ≡ false → eqb n 8 ≡ false → eqb n 9 ≡ false → eqb n 11 ≡ false → eqb n 12 ≡ false → value_line n heading line ≡ Ok new → Gives all new
  value_other n is a b c d e v =
      let kept : Ok heading ≡ Ok new = sym (let h : value_line n heading line ≡ Ok heading = rw (a, b, c, d, e) refl in h) ∙ v in
      let same : heading ≡ new = cc in
      at_none (not_at n 7 is a) (not_at n 8 is b) (not_at n 9 is c) (not_at n 11 is d) (not_at n 12 is e) same

  pub value_gives : (n : ℕ) → length (spoken before) ≡ n → value_line n heading line ≡ Ok new → Gives all new
  value_gives n is v =
      elim (decide n 7) [
        | inl e ↦ value_7 n is e v
        | inr a ↦ elim (decide n 8) [
          | inl e ↦ value_8 n is e v
          | inr b ↦ elim (decide n 9) [
            | inl e ↦ value_9 n is e v
            | inr c ↦ elim (decide n 11) [
              | inl e ↦ value_11 n is e v
              | inr d ↦ elim (decide n 12) [
                | inl e ↦ value_12 n is e v
                | inr e ↦ value_other n is a b c d e v
              ]
            ]
          ]
        ]
      ]

-- a header line that is taken begins with its word, and gives a value

record Taken (n : ℕ) (heading new : Heading) (line : Line) : Type 0 where
  word : is_header_word n (first_word line) ≡ true
  value : value_line n heading line ≡ Ok new

taken : (n : ℕ) (heading new : Heading) (line : Line) → header_line n heading line ≡ Ok new → Taken n heading new line
unfolding header_line
taken n heading new line e = elim (truth (is_header_word n (first_word line) && nat_lt 1 (length line))) [
  | inl t ↦ record { word = first_of (is_header_word n (first_word line)) (nat_lt 1 (length line)) t; value = rw t at e }
  | inr t ↦ absurd (let f : header_line n heading line ≡ Err Header = rw t refl in let g : Err Header ≡ Ok new = sym f ∙ e in cc)
]

-- the state after one line more

long : (before : List Line) (line : Line) → 14 ≤ length (spoken before) → 14 ≤ length (spoken (before ++ line ∷ []))
long before line h =
    elim (truth (is_idle (length (spoken before)) line)) [
      | inl t ↦ (let e = ap length (spoken_more before line ∙ ap (λ b. cond b (spoken before) (spoken before ++ line ∷ [])) t) in omega (arith, e))
      | inr t ↦ (let e = ap length (spoken_more before line ∙ ap (λ b. cond b (spoken before) (spoken before ++ line ∷ [])) t) in omega (arith, e, length-append (spoken before) (line ∷ [])))
    ]

header_place : (before : List Line) (line : Line) → place_of before ≡ outside → keyword_of (first_word line) ≡ Nothing → place_of (before ++ line ∷ []) ≡ outside
header_place before line e o = place_more before line ∙ ap (λ place. place_after place line) e ∙ ap (opened outside) o

no_row : (before : List Line) (line : Line) → in_header before ≡ true → row_in before line ≡ None
no_row before line h = rw h refl

no_net : (before : List Line) (line : Line) → in_header before ≡ true → net_in before line ≡ None
no_net before line h = rw h refl

-- in the header
idle_goes : (before : List Line) (s : State) (line : Line) → Follows before s → s.headed < 14 → is_idle s.headed line ≡ true → Follows (before ++ line ∷ []) (counted s)
idle_goes before s line f low i =
    let same : spoken (before ++ line ∷ []) ≡ spoken before = spoken_more before line ∙ ap (λ b. cond b (spoken before) (spoken before ++ line ∷ [])) (ap (λ k. is_idle k line) (sym (f.low low)) ∙ i) in
    let at : (k : ℕ) → header_at (before ++ line ∷ []) k ≡ header_at before k = λ k. ap (λ xs. get_or xs k []) same in
    let place : place_of (before ++ line ∷ []) ≡ outside = header_place before line (f.begun low) (idle_opens s.headed line i) in
    record {
      count = omega (arith, f.count, length-append before (line ∷ []));
      low = λ l. f.low l ∙ sym (ap length same);
      high = λ h. absurd (omega arith);
      chars = f.chars ∙ sym (chars_same (before ++ line ∷ []) before (at 7) (at 8) (at 9));
      c_places = f.c_places ∙ sym (c_same (before ++ line ∷ []) before (at 11));
      r_places = f.r_places ∙ sym (r_same (before ++ line ∷ []) before (at 12));
      place = f.place ∙ f.begun low ∙ sym place;
      begun = λ l. place;
      closed = f.closed;
      names = f.names ∙ sym (append-nil (rows_of before)) ∙ ap (λ o. rows_of before ++ listed o) (sym (no_row before line (goes_on before s f low))) ∙ sym (rows_more before line);
      nets = f.nets ∙ sym (append-nil (nets_of before)) ∙ ap (λ o. nets_of before ++ listed o) (sym (no_net before line (goes_on before s f low))) ∙ sym (nets_more before line);
    }

due_goes : (before : List Line) (s : State) (line : Line) (heading : Heading) → Follows before s → s.headed < 14 → is_idle s.headed line ≡ false → header_line s.headed s.heading line ≡ Ok heading
    → Follows (before ++ line ∷ []) (counted (record s { headed = s.headed + 1; heading = heading }))
due_goes before s line heading f low i e =
    let more : spoken (before ++ line ∷ []) ≡ spoken before ++ line ∷ [] = spoken_more before line ∙ ap (λ b. cond b (spoken before) (spoken before ++ line ∷ [])) (ap (λ k. is_idle k line) (sym (f.low low)) ∙ i) in
    let t = taken s.headed s.heading heading line e in
    let gives = value_gives (before ++ line ∷ []) before line s.heading heading more (record { chars = f.chars; c_places = f.c_places; r_places = f.r_places }) s.headed (sym (f.low low)) t.value in
    let place : place_of (before ++ line ∷ []) ≡ outside = header_place before line (f.begun low) (word_opens s.headed (first_word line) t.word) in
    let long : length (spoken (before ++ line ∷ [])) ≡ s.headed + 1 = omega (arith, ap length more, f.low low, length-append (spoken before) (line ∷ [])) in
    record {
      count = omega (arith, f.count, length-append before (line ∷ []));
      low = λ l. sym long;
      high = λ h. omega (arith, long);
      chars = gives.chars;
      c_places = gives.c_places;
      r_places = gives.r_places;
      place = f.place ∙ f.begun low ∙ sym place;
      begun = λ l. place;
      closed = f.closed;
      names = f.names ∙ sym (append-nil (rows_of before)) ∙ ap (λ o. rows_of before ++ listed o) (sym (no_row before line (goes_on before s f low))) ∙ sym (rows_more before line);
      nets = f.nets ∙ sym (append-nil (nets_of before)) ∙ ap (λ o. nets_of before ++ listed o) (sym (no_net before line (goes_on before s f low))) ∙ sym (nets_more before line);
    }

-- after the header
body_goes : (before : List Line) (s t : State) (line : Line) → Follows before s → 14 ≤ s.headed → t.count ≡ s.count + 1 → t.headed ≡ s.headed → t.heading ≡ s.heading
    → (t.in_net ≡ true → t.region ≡ Outside) → place_in t.region t.in_net ≡ place_after (place_of before) line → t.names ≡ s.names ++ listed (row_in before line) → t.nets ≡ s.nets ++ listed (net_in before line) → Follows (before ++ line ∷ []) t
body_goes before s t line f high count headed heading closed place names nets =
    let all = before ++ line ∷ [] in
    let at : (k : ℕ) → k < 14 → header_at all k ≡ header_at before k = λ k l. header_kept before line k (f.high high) l in
    record {
      count = omega (arith, count, f.count, length-append before (line ∷ []));
      low = λ l. absurd (omega (arith, headed));
      high = λ h. long before line (f.high high);
      chars = ap (λ (h : Heading). h.chars) heading ∙ f.chars ∙ sym (chars_same all before (at 7 (omega arith)) (at 8 (omega arith)) (at 9 (omega arith)));
      c_places = ap (λ (h : Heading). h.c_places) heading ∙ f.c_places ∙ sym (c_same all before (at 11 (omega arith)));
      r_places = ap (λ (h : Heading). h.r_places) heading ∙ f.r_places ∙ sym (r_same all before (at 12 (omega arith)));
      place = place ∙ sym (place_more before line);
      begun = λ l. absurd (omega (arith, headed));
      closed = closed;
      names = names ∙ ap (λ xs. xs ++ listed (row_in before line)) f.names ∙ sym (rows_more before line);
      nets = nets ∙ ap (λ xs. xs ++ listed (net_in before line)) f.nets ∙ sym (nets_more before line);
    }

-- in a net

inside_after : (s : State) (line : Line) (ends : Bool) → s.in_net ≡ true → is_end line ≡ ends → after s line ≡ counted (cond ends (record s { in_net = false }) s)
unfolding after
inside_after s line ends n e = rw (n, e) refl

inside_row : (before : List Line) (line : Line) → in_header before ≡ false → place_of before ≡ in_net → row_in before line ≡ None
inside_row before line h p = rw (h, p) refl

inside_net : (before : List Line) (line : Line) → in_header before ≡ false → place_of before ≡ in_net → net_in before line ≡ None
inside_net before line h p = rw (h, p) refl

added_none : {A : Type 0} (xs ys : List A) (o : Option A) → ys ≡ xs → o ≡ None → ys ≡ xs ++ listed o
added_none xs ys o same e = same ∙ sym (append-nil xs) ∙ ap (λ x. xs ++ listed x) (sym e)

inside_goes : (before : List Line) (s : State) (line : Line) (ends : Bool) → Follows before s → 14 ≤ s.headed → s.in_net ≡ true → is_end line ≡ ends → Follows (before ++ line ∷ []) (counted (cond ends (record s { in_net = false }) s))
inside_goes before s line true f high n e =
    let h = is_over before s f high in
    let p : place_of before ≡ in_net = sym f.place ∙ ap (place_in s.region) n in
    body_goes before s (counted (record s { in_net = false })) line f high refl refl refl (λ c. f.closed n)
    (ap (λ region. place_in region false) (f.closed n) ∙ sym (ap (λ place. place_after place line) p ∙ ap (λ b. cond b outside in_net) e))
    (added_none s.names s.names (row_in before line) refl (inside_row before line h p))
    (added_none s.nets s.nets (net_in before line) refl (inside_net before line h p))
inside_goes before s line false f high n e =
    let h = is_over before s f high in
    let p : place_of before ≡ in_net = sym f.place ∙ ap (place_in s.region) n in
    body_goes before s (counted s) line f high refl refl refl f.closed
    (ap (place_in s.region) n ∙ sym (ap (λ place. place_after place line) p ∙ ap (λ b. cond b outside in_net) e))
    (added_none s.names s.names (row_in before line) refl (inside_row before line h p))
    (added_none s.nets s.nets (net_in before line) refl (inside_net before line h p))

-- after the header and in no net

place_next : (region : Region) (line : Line) (o : Keyword) → keyword_of (first_word line) ≡ o → place_after (place_in region false) line ≡ opened (place_in region false) o
place_next Outside line o e = ap (opened outside) e
place_next InMap line o e = ap (opened in_map) e
place_next InPassed line o e = ap (opened in_passed) e

module _ (before : List Line) (line : Line) (h : in_header before ≡ false) (p : is_net (place_of before) ≡ false) where
  row_map : keyword_of (first_word line) ≡ Map → row_in before line ≡ None
  row_map o = rw (h, p, o) refl

  net_map : keyword_of (first_word line) ≡ Map → net_in before line ≡ None
  net_map o = rw (h, p, o) refl

  row_passed : keyword_of (first_word line) ≡ Passed → row_in before line ≡ None
  row_passed o = rw (h, p, o) refl

  net_passed : keyword_of (first_word line) ≡ Passed → net_in before line ≡ None
  net_passed o = rw (h, p, o) refl

  row_foreign : keyword_of (first_word line) ≡ Foreign → row_in before line ≡ None
  row_foreign o = rw (h, p, o) refl

  net_foreign : keyword_of (first_word line) ≡ Foreign → net_in before line ≡ None
  net_foreign o = rw (h, p, o) refl

  row_net : keyword_of (first_word line) ≡ Net → row_in before line ≡ None
  row_net o = rw (h, p, o) refl

  net_net : keyword_of (first_word line) ≡ Net → net_in before line ≡ Some (record { name = unwrap_or (head_name (chars_of before) (rows_of before) (second_word line)) []; reduced = bytes_eq (first_word line) (codes "*R_NET"); line = length before + 1 })
  net_net o = rw (h, p, o) refl

  net_nothing : keyword_of (first_word line) ≡ Nothing → net_in before line ≡ None
  net_nothing o = rw (h, p, o) refl

plain_row : (before : List Line) (line : Line) (place : Place) → in_header before ≡ false → is_net place ≡ false → place_of before ≡ place → keyword_of (first_word line) ≡ Nothing → row_in before line ≡ cond (is_map place) (map_line (chars_of before) line) None
plain_row before [] outside h n p o = rw (h, p, o) refl
plain_row before [] in_map h n p o = rw (h, p, o) refl
plain_row before [] in_passed h n p o = rw (h, p, o) refl
plain_row before (w ∷ ws) outside h n p o = rw (h, p, o) refl
plain_row before (w ∷ ws) in_map h n p o = rw (h, p, o) refl
plain_row before (w ∷ ws) in_passed h n p o = rw (h, p, o) refl
plain_row before line in_net h n p o = absurd (cc)

-- a state with a row more, or none
row_goes : (before : List Line) (s : State) (line : Line) (found : Option (List ℕ × List ℕ)) → Follows before s → 14 ≤ s.headed → s.in_net ≡ false → keyword_of (first_word line) ≡ Nothing → row_in before line ≡ found → Follows (before ++ line ∷ []) (counted (with_row s found))
row_goes before s line None f high n o row =
    let h = is_over before s f high in
    let place : place_of before ≡ place_in s.region false = sym f.place ∙ ap (place_in s.region) n in
    body_goes before s (counted s) line f high refl refl refl f.closed
    (f.place ∙ sym (ap (λ place. place_after place line) place ∙ place_next s.region line Nothing o ∙ sym place))
    (added_none s.names s.names (row_in before line) refl row)
    (added_none s.nets s.nets (net_in before line) refl (net_nothing before line h (ap is_net place ∙ not_net s.region) o))
row_goes before s line (Some row) f high n o found =
    let h = is_over before s f high in
    let place : place_of before ≡ place_in s.region false = sym f.place ∙ ap (place_in s.region) n in
    body_goes before s (counted (record s { names = s.names ++ row ∷ [] })) line f high refl refl refl f.closed
    (f.place ∙ sym (ap (λ place. place_after place line) place ∙ place_next s.region line Nothing o ∙ sym place))
    (ap (λ x. s.names ++ listed x) (sym found))
    (added_none s.nets s.nets (net_in before line) refl (net_nothing before line h (ap is_net place ∙ not_net s.region) o))

nothing_goes : (before : List Line) (s : State) (line : Line) (region : Region) → Follows before s → 14 ≤ s.headed → s.in_net ≡ false → keyword_of (first_word line) ≡ Nothing → s.region ≡ region → Follows (before ++ line ∷ []) (counted (after_nothing region s line))
nothing_goes before s line Outside f high n o r =
    let place : place_of before ≡ outside = sym f.place ∙ ap (place_in s.region) n ∙ ap (λ region. place_in region false) r in
    row_goes before s line None f high n o (plain_row before line outside (is_over before s f high) refl place o)
nothing_goes before s line InPassed f high n o r =
    let place : place_of before ≡ in_passed = sym f.place ∙ ap (place_in s.region) n ∙ ap (λ region. place_in region false) r in
    row_goes before s line None f high n o (plain_row before line in_passed (is_over before s f high) refl place o)
nothing_goes before s line InMap f high n o r =
    let place : place_of before ≡ in_map = sym f.place ∙ ap (place_in s.region) n ∙ ap (λ region. place_in region false) r in
    row_goes before s line (map_line s.heading.chars line) f high n o (plain_row before line in_map (is_over before s f high) refl place o ∙ ap (λ chars. map_line chars line) (sym f.chars))

keyword_goes : (before : List Line) (s : State) (line : Line) (keyword : Keyword) → Follows before s → 14 ≤ s.headed → s.in_net ≡ false → keyword_of (first_word line) ≡ keyword → Follows (before ++ line ∷ []) (counted (after_body keyword s line))
keyword_goes before s line Nothing f high n o = nothing_goes before s line s.region f high n o refl
keyword_goes before s line Map f high n o =
    let h = is_over before s f high in
    let place : place_of before ≡ place_in s.region false = sym f.place ∙ ap (place_in s.region) n in
    let p : is_net (place_of before) ≡ false = ap is_net place ∙ not_net s.region in
    body_goes before s (counted (record s { region = InMap })) line f high refl refl refl (λ c. absurd (let d : false ≡ true = sym n ∙ c in cc))
    (ap (place_in InMap) n ∙ sym (ap (λ place. place_after place line) place ∙ place_next s.region line Map o))
    (added_none s.names s.names (row_in before line) refl (row_map before line h p o))
    (added_none s.nets s.nets (net_in before line) refl (net_map before line h p o))
keyword_goes before s line Passed f high n o =
    let h = is_over before s f high in
    let place : place_of before ≡ place_in s.region false = sym f.place ∙ ap (place_in s.region) n in
    let p : is_net (place_of before) ≡ false = ap is_net place ∙ not_net s.region in
    body_goes before s (counted (record s { region = InPassed })) line f high refl refl refl (λ c. absurd (let d : false ≡ true = sym n ∙ c in cc))
    (ap (place_in InPassed) n ∙ sym (ap (λ place. place_after place line) place ∙ place_next s.region line Passed o))
    (added_none s.names s.names (row_in before line) refl (row_passed before line h p o))
    (added_none s.nets s.nets (net_in before line) refl (net_passed before line h p o))
keyword_goes before s line Foreign f high n o =
    let h = is_over before s f high in
    let place : place_of before ≡ place_in s.region false = sym f.place ∙ ap (place_in s.region) n in
    let p : is_net (place_of before) ≡ false = ap is_net place ∙ not_net s.region in
    body_goes before s (counted s) line f high refl refl refl f.closed
    (f.place ∙ sym (ap (λ place. place_after place line) place ∙ place_next s.region line Foreign o ∙ sym place))
    (added_none s.names s.names (row_in before line) refl (row_foreign before line h p o))
    (added_none s.nets s.nets (net_in before line) refl (net_foreign before line h p o))
keyword_goes before s line Net f high n o =
    let h = is_over before s f high in
    let place : place_of before ≡ place_in s.region false = sym f.place ∙ ap (place_in s.region) n in
    let p : is_net (place_of before) ≡ false = ap is_net place ∙ not_net s.region in
    let head : Some (head_of s line) ≡ net_in before line =
    ap (λ chars. Some (record { name = unwrap_or (head_name chars s.names (second_word line)) []; reduced = bytes_eq (first_word line) (codes "*R_NET"); line = s.count + 1 })) f.chars
    ∙ ap (λ rows. Some (record { name = unwrap_or (head_name (chars_of before) rows (second_word line)) []; reduced = bytes_eq (first_word line) (codes "*R_NET"); line = s.count + 1 })) f.names
    ∙ ap (λ count. Some (record { name = unwrap_or (head_name (chars_of before) (rows_of before) (second_word line)) []; reduced = bytes_eq (first_word line) (codes "*R_NET"); line = count + 1 })) f.count
    ∙ sym (net_net before line h p o) in
    body_goes before s (counted (record s { region = Outside; in_net = true; nets = s.nets ++ head_of s line ∷ [] })) line f high refl refl refl (λ c. refl)
    (sym (ap (λ place. place_after place line) place ∙ place_next s.region line Net o))
    (added_none s.names s.names (row_in before line) refl (row_net before line h p o))
    (ap (λ x. s.nets ++ listed x) head)

-- a line of the header without a fault

due_case : (before : List Line) (s : State) (line : Line) (later : List Line) (said : Result Heading SpefKind) → Follows before s → s.headed < 14 → s.in_net ≡ false → is_idle s.headed line ≡ false → header_line s.headed s.heading line ≡ said → state_fault s line later ≡ None → Follows (before ++ line ∷ []) (after s line)
due_case before s line later (Ok heading) f low n i e none =
    subst (Follows (before ++ line ∷ [])) (sym (header_says s line later false (Ok heading) n low i e).1) (due_goes before s line heading f low i e)
due_case before s line later (Err kind) f low n i e none =
    absurd (let clash : Some kind ≡ None = sym (header_says s line later false (Err kind) n low i e).0 ∙ none in cc)

-- the state after one line more, which has no fault
pub goes : (before : List Line) (s : State) (line : Line) (later : List Line) → Follows before s → state_fault s line later ≡ None → Follows (before ++ line ∷ []) (after s line)
goes before s line later f none =
    elim (cases_lt s.headed 14) [
      | inl low ↦ (
          let n = out_of_net s.region s.in_net (f.place ∙ f.begun low) in
          elim (truth (is_idle s.headed line)) [
            | inl i ↦ subst (Follows (before ++ line ∷ [])) (sym (header_says s line later true (header_line s.headed s.heading line) n low i refl).1) (idle_goes before s line f low i)
            | inr i ↦ due_case before s line later (header_line s.headed s.heading line) f low n i refl none
          ])
      | inr high ↦ elim (truth s.in_net) [
        | inl inside ↦ subst (Follows (before ++ line ∷ [])) (sym (inside_after s line (is_end line) inside refl)) (inside_goes before s line (is_end line) f high inside refl)
        | inr n ↦ subst (Follows (before ++ line ∷ [])) (sym (body_says s line later (keyword_of (first_word line)) n high refl).1) (keyword_goes before s line (keyword_of (first_word line)) f high n refl)
      ]
    ]
