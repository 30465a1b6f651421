-- The comments of a part of a text.
use Rattle.std.proofs.Common.{◌≡◌, ℕ, zero, suc, ◌+◌, ◌-◌, ◌<◌, ◌≤◌, Bool, true, false, cond, ◌&&◌, ◌||◌, ◌==◌, eqb, List, [], ◌∷◌, length, take, drop, get_or, arith, refl, sym, ap, subst, ◌∙◌}
use Rattle.std.proofs.lemmas.Bool.Decides.{nat_tests}
use Rattle.std.proofs.lemmas.List.{get_or-drop}
use Rattle.vg_scan.proofs.ClearedLemmas.{length-cleared, eq_of, ne_of_false}
use Rattle.vg_scan.proofs.PieceLemmas.{cleared_is}
use Rattle.vg_scan.specs.Lines.{is_blank, part}
use Rattle.vg_scan.specs.Printed.{is_solid}
use Rattle.vg_scan.specs.Parts.{IsFirstSolid, PartsKeepComments}
use Rattle.vg_scan.specs.Comments.{blanked}
use Rattle.vg_scan.proofs.Clearing.{Scan, Outside, Quoted, InLine, InBlock, cleared_in}

-- a cleared text, up to a byte that is no space
record Ends (n : ℕ) (clear short : List ℕ) : Type 0 where
  pub holds : (get_or clear n 0 ≡ 32 → ⊥) → take (suc n) clear ≡ short

both : (t : Bool) (n : ℕ) (x y u v : List ℕ) → Ends n x u → Ends n y v → Ends n (cond t x y) (cond t u v)
both true n x y u v f g = f
both false n x y u v f g = g

either : (t : Bool) (n : ℕ) (x y u : List ℕ) → Ends n x u → Ends n y u → Ends n (cond t x y) u
either true n x y u f g = f
either false n x y u f g = g

first : (b : ℕ) (rest : List ℕ) → Ends 0 (b ∷ rest) (b ∷ [])
first b rest = record { holds = λ _. refl }

first_or : (b : ℕ) (t : Bool) (rest : List ℕ) → Ends 0 (b ∷ rest) (b ∷ cond t [] [])
first_or b true rest = first b rest
first_or b false rest = first b rest

second : (b c : ℕ) (rest : List ℕ) → Ends 1 (b ∷ c ∷ rest) (b ∷ c ∷ [])
second b c rest = record { holds = λ _. refl }

later : (b n : ℕ) (clear short : List ℕ) → Ends n clear short → Ends (suc n) (b ∷ clear) (b ∷ short)
later b n clear short h = record { holds = λ s. ap (λ xs. b ∷ xs) (h.holds s) }

space : (rest short : List ℕ) → Ends 0 (32 ∷ rest) short
space rest short = record { holds = λ s. absurd (s refl) }

spaces : (rest short : List ℕ) → Ends 1 (32 ∷ 32 ∷ rest) short
spaces rest short = record { holds = λ s. absurd (s refl) }

none : (n : ℕ) → Ends n [] []
none n = record { holds = λ _. refl }

-- a text that ends after a byte that is no space in the text without comments has the same comments before
ends : (scan : Scan) (text : List ℕ) (n : ℕ) → Ends n (cleared_in scan text) (cleared_in scan (take (suc n) text))
unfolding cleared_in
ends scan [] n = none n
ends Outside (b ∷ []) zero = first b []
ends Outside (b ∷ []) (suc n) = later b n [] [] (none n)
ends Outside (b ∷ c ∷ bs) zero =
    either (b == 92) 0 _ _ _ (first b _)
    (either (b == 34) 0 _ _ _ (first b _)
    (either ((b == 47) && (c == 47)) 0 _ _ _ (space _ _)
    (either ((b == 47) && (c == 42)) 0 _ _ _ (space _ _) (first b _))))
ends Outside (b ∷ c ∷ bs) (suc zero) =
    both (b == 92) 1 _ _ _ _ (second b c _)
    (both (b == 34) 1 _ _ _ _ (later b 0 _ _ (ends Quoted (c ∷ bs) 0))
    (both ((b == 47) && (c == 47)) 1 _ _ _ _ (spaces _ _)
    (both ((b == 47) && (c == 42)) 1 _ _ _ _ (spaces _ _) (later b 0 _ _ (ends Outside (c ∷ bs) 0)))))
ends Outside (b ∷ c ∷ bs) (suc (suc n)) =
    both (b == 92) (suc (suc n)) _ _ _ _ (later b (suc n) _ _ (later c n _ _ (ends Outside bs n)))
    (both (b == 34) (suc (suc n)) _ _ _ _ (later b (suc n) _ _ (ends Quoted (c ∷ bs) (suc n)))
    (both ((b == 47) && (c == 47)) (suc (suc n)) _ _ _ _ (later 32 (suc n) _ _ (later 32 n _ _ (ends InLine bs n)))
    (both ((b == 47) && (c == 42)) (suc (suc n)) _ _ _ _ (later 32 (suc n) _ _ (later 32 n _ _ (ends InBlock bs n)))
    (later b (suc n) _ _ (ends Outside (c ∷ bs) (suc n))))))
ends Quoted (b ∷ bs) zero = first_or b ((b == 34) || (b == 10)) _
ends Quoted (b ∷ bs) (suc n) = later b n _ _ (both ((b == 34) || (b == 10)) n _ _ _ _ (ends Outside bs n) (ends Quoted bs n))
ends InLine (b ∷ bs) zero = both (b == 10) 0 _ _ _ _ (first b _) (first 32 _)
ends InLine (b ∷ bs) (suc n) = both (b == 10) (suc n) _ _ _ _ (later b n _ _ (ends Outside bs n)) (later 32 n _ _ (ends InLine bs n))
ends InBlock (b ∷ []) zero = first (blanked b) []
ends InBlock (b ∷ []) (suc n) = later (blanked b) n [] [] (none n)
ends InBlock (b ∷ c ∷ bs) zero = either ((b == 42) && (c == 47)) 0 _ _ _ (space _ _) (first (blanked b) _)
ends InBlock (b ∷ c ∷ bs) (suc zero) = both ((b == 42) && (c == 47)) 1 _ _ _ _ (spaces _ _) (later (blanked b) 0 _ _ (ends InBlock (c ∷ bs) 0))
ends InBlock (b ∷ c ∷ bs) (suc (suc n)) =
    both ((b == 42) && (c == 47)) (suc (suc n)) _ _ _ _ (later 32 (suc n) _ _ (later 32 n _ _ (ends Outside bs n)))
    (later (blanked b) (suc n) _ _ (ends InBlock (c ∷ bs) (suc n)))

abbrev quoted : Scan → Bool
quoted Outside = false
quoted Quoted = true
quoted InLine = false
quoted InBlock = false

-- the first solid byte of a line, where a text goes on in a string or not
record Starts (q : Bool) (line at : ℕ) (clear : List ℕ) : Type 0 where
  pub order : line ≤ at
  pub begins : (l : ℕ) → line ≡ suc l → get_or clear l 0 ≡ 10
  pub fresh : line ≡ 0 → q ≡ false
  pub blank : (k : ℕ) → line ≤ k → k < at → is_blank (get_or clear k 0) ≡ true
  pub solid : is_solid (get_or clear at 0) ≡ true

-- the text from there on begins anew
record Anew (q : Bool) (line at : ℕ) (clear rest : List ℕ) : Type 0 where
  pub holds : Starts q line at clear → drop at clear ≡ cleared_in Outside rest

choose : (t : Bool) (q : Bool) (line at : ℕ) (x y rest : List ℕ) → (t ≡ true → Anew q line at x rest) → (t ≡ false → Anew q line at y rest) → Anew q line at (cond t x y) rest
choose true q line at x y rest f g = f refl
choose false q line at x y rest f g = g refl

inside : (t : Bool) (q : Bool) (line at b : ℕ) (x y rest : List ℕ) → (t ≡ true → Anew q line at (b ∷ x) rest) → (t ≡ false → Anew q line at (b ∷ y) rest) → Anew q line at (b ∷ cond t x y) rest
inside true q line at b x y rest f g = f refl
inside false q line at b x y rest f g = g refl

abbrev prev : ℕ → ℕ
prev zero = zero
prev (suc n) = n

-- a byte further
step : (q r : Bool) (line at b : ℕ) (clear : List ℕ) → (b ≡ 10 → r ≡ false) → (is_blank b ≡ true → q ≡ false → r ≡ false) → Starts q line (suc at) (b ∷ clear) → Starts r (prev line) at clear
step q r zero at b clear f g h = record {
  order = (let o : 0 ≤ at = omega arith in o);
  begins = λ l e. absurd (let f : 0 ≡ suc l = e in omega arith);
  fresh = λ _. g (h.blank 0 (omega arith) (omega arith)) (h.fresh refl);
  blank = λ k low high. h.blank (suc k) (omega arith) (omega arith);
  solid = h.solid;
}
step q r (suc line) at b clear f g h = record {
  order = omega (arith, h.order);
  begins = λ l e. h.begins (suc l) (ap suc e);
  fresh = λ e. f (h.begins 0 (ap suc e));
  blank = λ k low high. h.blank (suc k) (omega arith) (omega arith);
  solid = h.solid;
}

-- in a string, a byte further
within : (b line at : ℕ) (clear : List ℕ) → (b ≡ 10 → ⊥) → Starts true line (suc at) (b ∷ clear) → Starts true (prev line) at clear
within b line at clear n h = step true true line at b clear (λ e. absurd (n e)) (λ _ e. e) h

-- out of strings, a byte further
beyond : (q : Bool) (b line at : ℕ) (clear : List ℕ) → Starts q line (suc at) (b ∷ clear) → Starts false (prev line) at clear
beyond q b line at clear h = step q false line at b clear (λ _. refl) (λ _ _. refl) h

further : (q r : Bool) (line at b : ℕ) (clear rest : List ℕ) → (Starts q line (suc at) (b ∷ clear) → Starts r (prev line) at clear) → Anew r (prev line) at clear rest → Anew q line (suc at) (b ∷ clear) rest
further q r line at b clear rest f h = record { holds = λ s. h.holds (f s) }

-- out of strings
outer : (q : Bool) (line at b : ℕ) (clear rest : List ℕ) → Anew false (prev line) at clear rest → Anew q line (suc at) (b ∷ clear) rest
outer q line at b clear rest h = further q false line at b clear rest (beyond q b line at clear) h

-- a byte of a comment is not solid
unlike : (q : Bool) (line at : ℕ) (clear rest : List ℕ) → is_solid (get_or clear at 0) ≡ false → Anew q line at clear rest
unlike q line at clear rest e = record { holds = λ s. absurd (let f = s.solid in cc) }

unlike_blanked : (b : ℕ) → is_solid (blanked b) ≡ false
unlike_blanked b = grind (arith, nat_tests)

unlike_newline : (b : ℕ) → eqb b 10 ≡ true → is_solid b ≡ false
unlike_newline b e = grind (arith, nat_tests)

right_of : (a b : Bool) → (a || b) ≡ false → b ≡ false
right_of true b e = absurd (cc)
right_of false b e = e

-- a backslash and a quote are no blanks and no newlines
ink : (b k : ℕ) → eqb b k ≡ true → is_blank k ≡ false → is_blank b ≡ true → ⊥
ink b k e f g = absurd (let h = eq_of b k e in let i : is_blank k ≡ true = sym (ap is_blank h) ∙ g in cc)

-- no solid byte stands after a backslash that is a line's first
hidden : (b c line : ℕ) (clear : List ℕ) → eqb b 92 ≡ true → Starts false line 1 (b ∷ c ∷ clear) → ⊥
hidden b c zero clear e h = ink b 92 e refl (h.blank 0 (omega arith) (omega arith))
hidden b c (suc zero) clear e h = (let f : b ≡ 10 = h.begins 0 refl in let g : b ≡ 92 = eq_of b 92 e in omega arith)
hidden b c (suc (suc line)) clear e h = (let o = h.order in absurd (omega arith))

escaped : (b c line : ℕ) (clear rest : List ℕ) → eqb b 92 ≡ true → Anew false line 1 (b ∷ c ∷ clear) rest
escaped b c line clear rest e = record { holds = λ s. absurd (hidden b c line clear e s) }

-- two bytes further
two : (q : Bool) (line at b c : ℕ) (clear rest : List ℕ) → Anew false (prev (prev line)) at clear rest → Anew q line (suc (suc at)) (b ∷ c ∷ clear) rest
two q line at b c clear rest h = outer q line (suc at) b _ _ (outer false (prev line) at c _ _ h)

quotes : (b line : ℕ) (at : ℕ) (clear : List ℕ) → eqb b 34 ≡ true → Starts false line (suc at) (b ∷ clear) → Starts true (prev line) at clear
quotes b line at clear e h =
    step false true line at b clear (λ f. absurd (let g : b ≡ 34 = eq_of b 34 e in omega arith)) (λ f _. absurd (ink b 34 e refl f)) h

over : (at : ℕ) → drop {A = ℕ} at [] ≡ cleared_in Outside (drop {A = ℕ} at [])
unfolding cleared_in
over zero = refl
over (suc at) = refl

no_text : (q : Bool) (line at : ℕ) → Anew q line at [] (drop at [])
no_text q line at = record { holds = λ _. over at }

last_byte : (q : Bool) (line at b : ℕ) → Anew q line (suc at) (b ∷ []) (drop at [])
last_byte q line at b = record { holds = λ _. over at }

-- a string does not begin at a line's start
in_string : (clear rest : List ℕ) (line : ℕ) → Anew true line 0 clear rest
in_string clear rest line = record { holds = λ s. absurd (let e = s.fresh (let o = s.order in omega arith) in cc) }

-- from a line's first solid byte on a text has the same comments alone
anew : (scan : Scan) (text : List ℕ) (line at : ℕ) → Anew (quoted scan) line at (cleared_in scan text) (drop at text)
unfolding cleared_in
anew scan [] line at = no_text (quoted scan) line at
anew Outside (b ∷ bs) line zero = record { holds = λ _. refl }
anew Outside (b ∷ []) line (suc at) = last_byte false line at b
anew Outside (b ∷ c ∷ bs) line (suc zero) =
    choose (b == 92) false line 1 _ _ _ (λ e. escaped b c line _ _ e) (λ _.
    choose (b == 34) false line 1 _ _ _ (λ e. further false true line 0 b _ _ (quotes b line 0 _ e) (anew Quoted (c ∷ bs) (prev line) 0)) (λ _.
    choose ((b == 47) && (c == 47)) false line 1 _ _ _ (λ _. unlike false line 1 _ _ refl) (λ _.
    choose ((b == 47) && (c == 42)) false line 1 _ _ _ (λ _. unlike false line 1 _ _ refl) (λ _.
    outer false line 0 b _ _ (anew Outside (c ∷ bs) (prev line) 0)))))
anew Outside (b ∷ c ∷ bs) line (suc (suc at)) =
    choose (b == 92) false line (suc (suc at)) _ _ _ (λ e. two false line at b c _ _ (anew Outside bs (prev (prev line)) at)) (λ _.
    choose (b == 34) false line (suc (suc at)) _ _ _ (λ e. further false true line (suc at) b _ _ (quotes b line (suc at) _ e) (anew Quoted (c ∷ bs) (prev line) (suc at))) (λ _.
    choose ((b == 47) && (c == 47)) false line (suc (suc at)) _ _ _ (λ _. two false line at 32 32 _ _ (anew InLine bs (prev (prev line)) at)) (λ _.
    choose ((b == 47) && (c == 42)) false line (suc (suc at)) _ _ _ (λ _. two false line at 32 32 _ _ (anew InBlock bs (prev (prev line)) at)) (λ _.
    outer false line (suc at) b _ _ (anew Outside (c ∷ bs) (prev line) (suc at))))))
anew Quoted (b ∷ bs) line zero = in_string _ _ line
anew Quoted (b ∷ bs) line (suc at) =
    inside ((b == 34) || (b == 10)) true line (suc at) b _ _ _ (λ _. outer true line at b _ _ (anew Outside bs (prev line) at))
    (λ e. further true true line at b _ _ (within b line at _ (ne_of_false b 10 (right_of (b == 34) (b == 10) e))) (anew Quoted bs (prev line) at))
anew InLine (b ∷ bs) line zero = choose (b == 10) false line 0 _ _ _ (λ e. unlike false line 0 _ _ (unlike_newline b e)) (λ _. unlike false line 0 _ _ refl)
anew InLine (b ∷ bs) line (suc at) = choose (b == 10) false line (suc at) _ _ _ (λ _. outer false line at b _ _ (anew Outside bs (prev line) at)) (λ _. outer false line at 32 _ _ (anew InLine bs (prev line) at))
anew InBlock (b ∷ []) line zero = unlike false line 0 _ _ (unlike_blanked b)
anew InBlock (b ∷ []) line (suc at) = last_byte false line at (blanked b)
anew InBlock (b ∷ c ∷ bs) line zero = choose ((b == 42) && (c == 47)) false line 0 _ _ _ (λ _. unlike false line 0 _ _ refl) (λ _. unlike false line 0 _ _ (unlike_blanked b))
anew InBlock (b ∷ c ∷ bs) line (suc zero) =
    choose ((b == 42) && (c == 47)) false line 1 _ _ _ (λ _. unlike false line 1 _ _ refl)
    (λ _. outer false line 0 (blanked b) _ _ (anew InBlock (c ∷ bs) (prev line) 0))
anew InBlock (b ∷ c ∷ bs) line (suc (suc at)) =
    choose ((b == 42) && (c == 47)) false line (suc (suc at)) _ _ _ (λ _. two false line at 32 32 _ _ (anew Outside bs (prev (prev line)) at))
    (λ _. outer false line (suc at) (blanked b) _ _ (anew InBlock (c ∷ bs) (prev line) (suc at)))

no_space : (b : ℕ) → is_solid b ≡ true → b ≡ 32 → ⊥
no_space b e f = grind (arith, nat_tests)

starts : (text : List ℕ) (from : ℕ) → from < length text → (h : IsFirstSolid (cleared_in Outside text) from) → Starts false h.line from (cleared_in Outside text)
starts text from l h =
    let clear = cleared_in Outside text in
    record {
      order = h.order;
      begins = λ n e. ap (λ m. get_or clear m 0) (let f : n ≡ h.line - 1 = omega (arith, e) in f) ∙ h.begins (omega (arith, e)) (let o = h.order in omega (arith, length-cleared Outside text));
      fresh = λ _. refl;
      blank = h.blank;
      solid = h.solid;
    }

parts_cleared : (text : List ℕ) (from to : ℕ) → IsFirstSolid (cleared_in Outside text) from → from < to → to ≤ length text → is_solid (get_or (cleared_in Outside text) (to - 1) 0) ≡ true
    → cleared_in Outside (part text from to) ≡ part (cleared_in Outside text) from to
parts_cleared text from to h some within solid =
    let clear = cleared_in Outside text in
    let rest = drop from text in
    let n = to - from - 1 in
    let s : suc n ≡ to - from = omega arith in
    let d : drop from clear ≡ cleared_in Outside rest = (anew Outside text h.line from).holds (starts text from (omega arith) h) in
    let g : get_or (cleared_in Outside rest) n 0 ≡ get_or clear (to - 1) 0 =
    ap (λ xs. get_or xs n 0) (sym d) ∙ get_or-drop from clear n 0 ∙ ap (λ m. get_or clear m 0) (let e : from + n ≡ to - 1 = omega arith in e) in
    let e : take (suc n) (cleared_in Outside rest) ≡ cleared_in Outside (take (suc n) rest) = (ends Outside rest n).holds (λ z. no_space (get_or clear (to - 1) 0) solid (sym g ∙ z)) in
    ap (λ m. cleared_in Outside (take m rest)) (sym s) ∙ sym e ∙ ap (λ xs. take (suc n) xs) (sym d) ∙ ap (λ m. take m (drop from clear)) s

pub parts_keep : PartsKeepComments
parts_keep text from to h some within solid =
    let e = cleared_is text in
    sym (cleared_is (part text from to))
    ∙ parts_cleared text from to (subst (λ clear. IsFirstSolid clear from) (sym e) h) some within (ap (λ clear. is_solid (get_or clear (to - 1) 0)) e ∙ solid)
    ∙ ap (λ clear. part clear from to) e
