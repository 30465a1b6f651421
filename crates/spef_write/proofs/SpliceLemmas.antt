-- A text that is cut where the first word of a line begins: there a piece begins, so its comments are those of the two
-- parts.
use Rattle.std.proofs.Common.{◌≡◌, ℕ, zero, suc, ◌+◌, ◌-◌, ◌<◌, ◌≤◌, Bool, true, false, cond, eqb, ◌==◌, ◌&&◌, ◌||◌, List, [], ◌∷◌, ◌++◌, map, length, take, drop, get_or, refl, sym, ap, subst, ◌∙◌, arith, inl, inr, codes, length-drop, length-take}
use Rattle.std.proofs.lemmas.Bool.{false≢true, cases_lt}
use Rattle.std.proofs.lemmas.Bool.Decides.{nat_tests}
use Rattle.std.proofs.lemmas.List.{append_assoc, drop_at, drop-drop, get_or-append-add, length-map}
use Rattle.std.proofs.lemmas.List.Sums.{fails_before_first}
use Rattle.std.specs.List.{position_or_len, flat_map}
use Rattle.vg_scan.proofs.ClearedLemmas.{eq_of, first_of, second_of}
use Rattle.vg_scan.proofs.PieceLemmas.{length-without}
use Rattle.vg_scan.specs.declared.comments.Comments.TheVariants.{Spef}
use Rattle.vg_scan.specs.Comments.{without_comments, pieces, some_pieces, piece_length, uncommented, ends_string, through_block, blanked}
use Rattle.vg_scan.specs.Lines.{is_blank, is_newline}
use Rattle.vg_scan.specs.Parts.{IsFirstSolid}
use Rattle.vg_scan.specs.Printed.{is_solid}
use Rattle.spef_write.specs.Splices.{IsCutAt, CutsKeepComments, SectionsSplice}
use Rattle.spef_write.specs.Texts.{IsQuiet}
use Rattle.spef_write.proofs.FrontLemmas.{take_front, drop_front, get_front, position_front, block_front, blanked_front, passing_at}
use Rattle.spef_write.proofs.QuietLemmas.{quiet_both, quiet_byte}

abbrev clear : List ℕ → List ℕ
clear text = without_comments Spef text

-- PIECES
-- a piece is not empty
piece_some : (b : ℕ) (bs : List ℕ) → 0 < piece_length (b ∷ bs)
piece_some b [] = omega arith
piece_some b (c ∷ bs) =
    either (b == 92) _ _ (omega arith) (either (b == 34) _ _ (omega arith)
    (either ((b == 47) && (c == 47)) _ _ (omega arith) (either ((b == 47) && (c == 42)) _ _ (omega arith) (omega arith))))
  where
    either : (t : Bool) (x y : ℕ) → 0 < x → 0 < y → 0 < cond t x y
    either true x y f g = f
    either false x y f g = g

-- so many pieces as there are bytes are all
some_enough : (n m : ℕ) (text : List ℕ) → length text ≤ n → length text ≤ m → some_pieces n text ≡ some_pieces m text
unfolding some_pieces
some_enough zero zero text l h = refl
some_enough zero (suc m) [] l h = refl
some_enough (suc n) zero [] l h = refl
some_enough (suc n) (suc m) [] l h = refl
some_enough zero (suc m) (b ∷ bs) l h = absurd (omega arith)
some_enough (suc n) zero (b ∷ bs) l h = absurd (omega arith)
some_enough (suc n) (suc m) (b ∷ bs) l h =
    let k = piece_length (b ∷ bs) in
    ap (λ xs. take k (b ∷ bs) ∷ xs)
    (some_enough n m (drop k (b ∷ bs)) (omega (arith, length-drop k (b ∷ bs), piece_some b bs)) (omega (arith, length-drop k (b ∷ bs), piece_some b bs)))

-- a text's first piece, and what is left
pub first_piece : (b : ℕ) (bs : List ℕ)
    → clear (b ∷ bs) ≡ uncommented (take (piece_length (b ∷ bs)) (b ∷ bs)) ++ clear (drop (piece_length (b ∷ bs)) (b ∷ bs))
unfolding without_comments pieces some_pieces
first_piece b bs =
    let k = piece_length (b ∷ bs) in
    ap (λ xs. uncommented (take k (b ∷ bs)) ++ flat_map uncommented xs)
    (some_enough (length bs) (length (drop k (b ∷ bs))) (drop k (b ∷ bs)) (omega (arith, length-drop k (b ∷ bs), piece_some b bs)) (omega arith))

-- the first solid byte of a line that begins here
record Starts (line at : ℕ) (text : List ℕ) : Type 0 where
  pub order : line ≤ at
  pub begins : (l : ℕ) → line ≡ suc l → get_or text l 0 ≡ 10
  pub blank : (k : ℕ) → line ≤ k → k < at → is_blank (get_or text k 0) ≡ true
  pub solid : is_solid (get_or text at 0) ≡ true

-- behind a piece of k bytes
moved : (k line at : ℕ) (piece rest : List ℕ) → length piece ≡ k → k ≤ at → Starts line at (piece ++ rest) → Starts (line - k) (at - k) rest
moved k line at piece rest is l h = record {
  order = omega (arith, h.order);
  begins = λ n e. sym (there n) ∙ h.begins (k + n) (omega (arith, e));
  blank = λ j low high. ap is_blank (sym (there j)) ∙ h.blank (k + j) (omega arith) (omega arith);
  solid =
      ap is_solid (sym (there (at - k)))
      ∙ ap (λ n. is_solid (get_or (piece ++ rest) n 0)) (let e : k + (at - k) ≡ at = omega arith in e)
      ∙ h.solid;
}
  where
    there : (n : ℕ) → get_or (piece ++ rest) (k + n) 0 ≡ get_or rest n 0
    there n = ap (λ m. get_or (piece ++ rest) (m + n) 0) (sym is) ∙ get_or-append-add piece rest n 0

-- the first piece, of k bytes, stands before this place, and stays where the text goes on otherwise behind this place
record Stays (text : List ℕ) (at k : ℕ) : Type 0 where
  pub within : k ≤ at
  pub same : (xs : List ℕ) → piece_length (take at text ++ xs) ≡ k

record First (text : List ℕ) (line at k : ℕ) : Type 0 where
  pub holds : Starts line at (uncommented (take k text) ++ clear (drop k text)) → Stays text at k

choose : (t : Bool) (text : List ℕ) (line at x y : ℕ) → (t ≡ true → First text line at x) → (t ≡ false → First text line at y) → First text line at (cond t x y)
choose true text line at x y f g = f refl
choose false text line at x y f g = g refl

no_solid : (line at : ℕ) (text : List ℕ) → is_solid (get_or text at 0) ≡ false → Starts line at text → ⊥
no_solid line at text e h = false≢true (sym e ∙ h.solid)

-- a hidden byte
hidden : (c line at : ℕ) (bs : List ℕ) → 0 < at → First (92 ∷ c ∷ bs) line at 2
hidden c line zero bs l = absurd (omega arith)
hidden c line (suc zero) bs l = record { holds = λ h. absurd (inside line h) }
  where
    inside : (line : ℕ) → Starts line 1 (92 ∷ c ∷ clear bs) → ⊥
    inside zero h = false≢true (h.blank 0 (omega arith) (omega arith))
    inside (suc zero) h = (let e = h.begins 0 refl in omega arith)
    inside (suc (suc line)) h = (let o = h.order in omega arith)
hidden c line (suc (suc at)) bs l = record { holds = λ h. record { within = omega arith; same = λ xs. refl } }

-- a string
no_mark : (b : ℕ) (xs : List ℕ) → eqb b 47 ≡ false → uncommented (b ∷ xs) ≡ b ∷ xs
no_mark b [] e = refl
no_mark b (c ∷ xs) e = rw e refl

string : (c line at : ℕ) (bs : List ℕ) → 0 < at → at < length (34 ∷ c ∷ bs) → First (34 ∷ c ∷ bs) line at (1 + (position_or_len ends_string (c ∷ bs) + 1))
string c line at bs l m = record {
  holds = λ h.
      elim (cases_lt at (1 + (n + 1))) [
        | inl low ↦ absurd (inside line low (subst (λ xs. Starts line at xs) shown h))
        | inr high ↦ record { within = high; same = same at high m }
      ];
}
  where
    n : ℕ
    n = position_or_len ends_string (c ∷ bs)

    rest : List ℕ
    rest = clear (drop (1 + (n + 1)) (34 ∷ c ∷ bs))

    shown : uncommented (take (1 + (n + 1)) (34 ∷ c ∷ bs)) ++ rest ≡ 34 ∷ (take (n + 1) (c ∷ bs) ++ rest)
    shown =
        let k : 1 + (n + 1) ≡ suc (n + 1) = omega arith in
        ap (λ j. uncommented (take j (34 ∷ c ∷ bs)) ++ rest) k ∙ ap (λ xs. xs ++ rest) (no_mark 34 (take (n + 1) (c ∷ bs)) refl)

    inside : (line : ℕ) → at < 1 + (n + 1) → Starts line at (34 ∷ (take (n + 1) (c ∷ bs) ++ rest)) → ⊥
    inside zero low h = false≢true (h.blank 0 (omega arith) (omega arith))
    inside (suc zero) low h = (let e = h.begins 0 refl in omega arith)
    inside (suc (suc line)) low h =
        let o = h.order in
        let e : get_or (c ∷ bs) line 0 ≡ 10 = sym (get_front (n + 1) (c ∷ bs) rest line (omega arith) (omega arith)) ∙ h.begins (suc line) refl in
        false≢true (sym (fails_before_first ends_string (c ∷ bs) line 0 (omega arith)) ∙ ap ends_string e)

    same : (at : ℕ) → 1 + (n + 1) ≤ at → at < length (34 ∷ c ∷ bs) → (xs : List ℕ) → piece_length (take at (34 ∷ c ∷ bs) ++ xs) ≡ 1 + (n + 1)
    same zero high m xs = absurd (omega arith)
    same (suc zero) high m xs = absurd (omega arith)
    same (suc (suc at)) high m xs =
        ap (λ j. 1 + (j + 1)) (position_front ends_string (suc at) (c ∷ bs) xs (omega arith) (omega arith))

-- a comment that its line's end ends
line_comment : (line at : ℕ) (bs : List ℕ) → 0 < at → at < length (47 ∷ 47 ∷ bs) → First (47 ∷ 47 ∷ bs) line at (2 + position_or_len is_newline bs)
line_comment line at bs l m = record {
  holds = λ h.
      elim (cases_lt at (3 + n)) [
        | inl low ↦ absurd (inside low h)
        | inr high ↦ record { within = omega arith; same = same at high m }
      ];
}
  where
    n : ℕ
    n = position_or_len is_newline bs

    two : 2 + n ≡ suc (suc n)
    two = omega arith

    rest : List ℕ
    rest = clear (drop (suc (suc n)) (47 ∷ 47 ∷ bs))

    newline_first : (b : ℕ) (ys : List ℕ) → is_newline b ≡ true → is_solid (get_or (clear (b ∷ ys)) 0 0) ≡ false
    newline_first b ys e =
        let is : b ≡ 10 = eq_of b 10 e in
        ap (λ xs. is_solid (get_or xs 0 0)) (quiet_byte b (λ h. omega arith) (λ h. omega arith) (λ h. omega arith) ys) ∙ ap is_solid is

    at_end : at ≡ suc (suc n) → is_solid (get_or (map blanked (take (suc (suc n)) (47 ∷ 47 ∷ bs)) ++ rest) at 0) ≡ false
    at_end e =
        let (b, ys, is, passes) = passing_at is_newline bs (omega arith) in
        ap (λ j. is_solid (get_or (map blanked (take (suc (suc n)) (47 ∷ 47 ∷ bs)) ++ rest) j 0)) e
        ∙ ap is_solid (behind (suc (suc n)) (47 ∷ 47 ∷ bs) rest (omega arith))
        ∙ ap (λ xs. is_solid (get_or (clear xs) 0 0)) is
        ∙ newline_first b ys passes
      where
        behind : (j : ℕ) (xs ys : List ℕ) → j ≤ length xs → get_or (map blanked (take j xs) ++ ys) j 0 ≡ get_or ys 0 0
        behind zero xs ys l = refl
        behind (suc j) [] ys l = absurd (omega arith)
        behind (suc j) (x ∷ xs) ys l = behind j xs ys (omega arith)

    inside : at < 3 + n → Starts line at (uncommented (take (2 + n) (47 ∷ 47 ∷ bs)) ++ clear (drop (2 + n) (47 ∷ 47 ∷ bs))) → ⊥
    inside low h =
        let h : Starts line at (map blanked (take (suc (suc n)) (47 ∷ 47 ∷ bs)) ++ rest) =
        subst (λ j. Starts line at (uncommented (take j (47 ∷ 47 ∷ bs)) ++ clear (drop j (47 ∷ 47 ∷ bs)))) two h in
        no_solid line at (map blanked (take (suc (suc n)) (47 ∷ 47 ∷ bs)) ++ rest)
        (elim (cases_lt at (suc (suc n))) [
          | inl lower ↦ blanked_front (suc (suc n)) (47 ∷ 47 ∷ bs) rest at lower m
          | inr high ↦ at_end (omega arith)
        ]) h

    same : (at : ℕ) → 3 + n ≤ at → at < length (47 ∷ 47 ∷ bs) → (xs : List ℕ) → piece_length (take at (47 ∷ 47 ∷ bs) ++ xs) ≡ 2 + n
    same zero high m xs = absurd (omega arith)
    same (suc zero) high m xs = absurd (omega arith)
    same (suc (suc at)) high m xs = ap (λ j. 2 + j) (position_front is_newline at bs xs (omega arith) (omega arith))

-- a comment that a mark ends
block_comment : (line at : ℕ) (bs : List ℕ) → 0 < at → at < length (47 ∷ 42 ∷ bs) → First (47 ∷ 42 ∷ bs) line at (2 + through_block bs)
block_comment line at bs l m = record {
  holds = λ h.
      elim (cases_lt at (2 + n)) [
        | inl low ↦ absurd (inside low h)
        | inr high ↦ record { within = high; same = same at high m }
      ];
}
  where
    n : ℕ
    n = through_block bs

    two : 2 + n ≡ suc (suc n)
    two = omega arith

    inside : at < 2 + n → Starts line at (uncommented (take (2 + n) (47 ∷ 42 ∷ bs)) ++ clear (drop (2 + n) (47 ∷ 42 ∷ bs))) → ⊥
    inside low h =
        let rest = clear (drop (suc (suc n)) (47 ∷ 42 ∷ bs)) in
        no_solid line at (map blanked (take (suc (suc n)) (47 ∷ 42 ∷ bs)) ++ rest) (blanked_front (suc (suc n)) (47 ∷ 42 ∷ bs) rest at (omega arith) m)
        (subst (λ j. Starts line at (uncommented (take j (47 ∷ 42 ∷ bs)) ++ clear (drop j (47 ∷ 42 ∷ bs)))) two h)

    same : (at : ℕ) → 2 + n ≤ at → at < length (47 ∷ 42 ∷ bs) → (xs : List ℕ) → piece_length (take at (47 ∷ 42 ∷ bs) ++ xs) ≡ 2 + n
    same zero high m xs = absurd (omega arith)
    same (suc zero) high m xs = absurd (omega arith)
    same (suc (suc at)) high m xs = ap (λ j. 2 + j) (block_front at bs xs (omega arith) (omega arith))

-- another byte: before the first solid byte of a line stands a blank or a newline, which begins nothing
record IsCalm (b : ℕ) : Type 0 where
  pub escape : (b == 92) ≡ false
  pub quote : (b == 34) ≡ false
  pub slash : (b == 47) ≡ false

calm_before : (b line : ℕ) (rest : List ℕ) → Starts line 1 (b ∷ rest) → IsCalm b
calm_before b zero rest h = blank (h.blank 0 (omega arith) (omega arith))
  where
    blank : is_blank b ≡ true → IsCalm b
    blank e = record { escape = grind (arith, nat_tests); quote = grind (arith, nat_tests); slash = grind (arith, nat_tests) }
calm_before b (suc zero) rest h = newline (h.begins 0 refl)
  where
    newline : b ≡ 10 → IsCalm b
    newline e = record { escape = grind (arith, nat_tests); quote = grind (arith, nat_tests); slash = grind (arith, nat_tests) }
calm_before b (suc (suc line)) rest h = (let o = h.order in absurd (omega arith))

calm_alone : (b : ℕ) (xs : List ℕ) → IsCalm b → piece_length (b ∷ xs) ≡ 1
calm_alone b [] calm = refl
calm_alone b (x ∷ xs) calm = rw (calm.escape, calm.quote, calm.slash) refl

other : (b c line at : ℕ) (bs : List ℕ) → (b == 92) ≡ false → (b == 34) ≡ false → ((b == 47) && (c == 47)) ≡ false → ((b == 47) && (c == 42)) ≡ false
    → 0 < at → First (b ∷ c ∷ bs) line at 1
other b c line zero bs e f g h l = absurd (omega arith)
other b c line (suc zero) bs e f g h l = record {
  holds = λ s. record { within = omega arith; same = λ xs. calm_alone b xs (calm_before b line (clear (c ∷ bs)) s) };
}
other b c line (suc (suc at)) bs e f g h l = record { holds = λ s. record { within = omega arith; same = λ xs. rw (e, f, g, h) refl } }

first_stays : (b c line at : ℕ) (bs : List ℕ) → 0 < at → at < length (b ∷ c ∷ bs) → First (b ∷ c ∷ bs) line at (piece_length (b ∷ c ∷ bs))
first_stays b c line at bs l m =
    let text = b ∷ c ∷ bs in
    choose (b == 92) text line at _ _ (λ e. subst (λ x. First (x ∷ c ∷ bs) line at 2) (sym (eq_of b 92 e)) (hidden c line at bs l)) (λ e.
    choose (b == 34) text line at _ _ (λ f. quote (eq_of b 34 f)) (λ f.
    choose ((b == 47) && (c == 47)) text line at _ _ (λ g. line_mark (eq_of b 47 (first_of _ _ g)) (eq_of c 47 (second_of _ _ g))) (λ g.
    choose ((b == 47) && (c == 42)) text line at _ _ (λ h. block_mark (eq_of b 47 (first_of _ _ h)) (eq_of c 42 (second_of _ _ h))) (λ h.
    other b c line at bs e f g h l))))
  where
    quote : b ≡ 34 → First (b ∷ c ∷ bs) line at (1 + (position_or_len ends_string (c ∷ bs) + 1))
    quote e = rw e (string c line at bs l m)

    line_mark : b ≡ 47 → c ≡ 47 → First (b ∷ c ∷ bs) line at (2 + position_or_len is_newline bs)
    line_mark e f = rw (e, f) (line_comment line at bs l m)

    block_mark : b ≡ 47 → c ≡ 42 → First (b ∷ c ∷ bs) line at (2 + through_block bs)
    block_mark e f = rw (e, f) (block_comment line at bs l m)

-- CUTS
shown_length : (xs : List ℕ) → length (uncommented xs) ≡ length xs
shown_length [] = refl
shown_length (b ∷ []) = refl
shown_length (b ∷ c ∷ bs) = either (((b == 47) && (c == 47)) || ((b == 47) && (c == 42)))
  where
    either : (t : Bool) → length (cond t (map blanked (b ∷ c ∷ bs)) (b ∷ c ∷ bs)) ≡ length (b ∷ c ∷ bs)
    either true = length-map (b ∷ c ∷ bs) blanked
    either false = refl

take_behind : (piece rest : List ℕ) (k at : ℕ) → length piece ≡ k → k ≤ at → take at (piece ++ rest) ≡ piece ++ take (at - k) rest
take_behind [] rest k at e l = let f : at ≡ at - k = omega (arith, e) in ap (λ n. take n rest) f
take_behind (b ∷ bs) rest zero at e l = absurd (omega (arith, e))
take_behind (b ∷ bs) rest (suc k) zero e l = absurd (omega arith)
take_behind (b ∷ bs) rest (suc k) (suc at) e l =
    let f : at - k ≡ suc at - suc k = omega arith in
    ap (λ xs. b ∷ xs) (take_behind bs rest k at (omega (arith, e)) (omega arith) ∙ ap (λ n. bs ++ take n rest) f)

drop_behind : (piece rest : List ℕ) (k at : ℕ) → length piece ≡ k → k ≤ at → drop at (piece ++ rest) ≡ drop (at - k) rest
drop_behind [] rest k at e l = let f : at ≡ at - k = omega (arith, e) in ap (λ n. drop n rest) f
drop_behind (b ∷ bs) rest zero at e l = absurd (omega (arith, e))
drop_behind (b ∷ bs) rest (suc k) zero e l = absurd (omega arith)
drop_behind (b ∷ bs) rest (suc k) (suc at) e l =
    let f : at - k ≡ suc at - suc k = omega arith in
    drop_behind bs rest k at (omega (arith, e)) (omega arith) ∙ ap (λ n. drop n rest) f

piece_at : (text : List ℕ) (k at : ℕ) → k ≤ at → at < length text → length (uncommented (take k text)) ≡ k
piece_at text k at l m = shown_length (take k text) ∙ omega (arith, length-take k text)

-- a cut behind the first piece
behind_piece : (b : ℕ) (bs : List ℕ) (at : ℕ) → at < length bs → Stays (b ∷ bs) (suc at) (piece_length (b ∷ bs))
    → IsCutAt (drop (piece_length (b ∷ bs)) (b ∷ bs)) (suc at - piece_length (b ∷ bs)) → IsCutAt (b ∷ bs) (suc at)
behind_piece b bs below m stays next = record { before = before; after = after }
  where
    text : List ℕ
    text = b ∷ bs

    at : ℕ
    at = suc below

    k : ℕ
    k = piece_length (b ∷ bs)

    piece : List ℕ
    piece = uncommented (take k text)

    rest : List ℕ
    rest = clear (drop k text)

    long : length piece ≡ k
    long = piece_at text k at stays.within (omega arith)

    before : (xs : List ℕ) → clear (take at text ++ xs) ≡ take at (clear text) ++ clear xs
    before xs =
        let new = take at text ++ xs in
        first_piece b (take below bs ++ xs)
        ∙ ap (λ j. uncommented (take j new) ++ clear (drop j new)) (stays.same xs)
        ∙ ap (λ ys. uncommented ys ++ clear (drop k new)) (take_front k at text xs stays.within (omega arith))
        ∙ ap (λ ys. piece ++ clear ys) (drop_front k at text xs stays.within (omega arith))
        ∙ ap (λ ys. piece ++ ys) (next.before xs)
        ∙ sym (append_assoc piece (take (at - k) rest) (clear xs))
        ∙ ap (λ ys. ys ++ clear xs) (sym (take_behind piece rest k at long stays.within))
        ∙ ap (λ ys. take at ys ++ clear xs) (sym (first_piece b bs))

    after : drop at (clear text) ≡ clear (drop at text)
    after =
        let e : k + (at - k) ≡ at = omega (arith, stays.within) in
        ap (drop at) (first_piece b bs)
        ∙ drop_behind piece rest k at long stays.within
        ∙ next.after
        ∙ ap clear (drop-drop (at - k) k text ∙ ap (λ j. drop j text) e)

cut : (n : ℕ) (text : List ℕ) (line at : ℕ) → length text ≤ n → at < length text → Starts line at (clear text) → IsCutAt text at
cut n text line zero l m h = record { before = λ xs. refl; after = refl }
cut zero text line (suc at) l m h = absurd (omega arith)
cut (suc n) [] line (suc at) l m h = absurd (omega arith)
cut (suc n) (b ∷ []) line (suc at) l m h = absurd (omega arith)
cut (suc n) (b ∷ c ∷ bs) line (suc at) l m h =
    let text = b ∷ c ∷ bs in
    let k = piece_length text in
    let h : Starts line (suc at) (uncommented (take k text) ++ clear (drop k text)) = subst (λ xs. Starts line (suc at) xs) (first_piece b (c ∷ bs)) h in
    let stays : Stays text (suc at) k = (first_stays b c line (suc at) bs (omega arith) m).holds h in
    behind_piece b (c ∷ bs) at (omega arith) stays
    (cut n (drop k text) (line - k) (suc at - k) (omega (arith, length-drop k text, piece_some b (c ∷ bs))) (omega (arith, length-drop k text, stays.within))
    (moved k line (suc at) (uncommented (take k text)) (clear (drop k text)) (piece_at text k (suc at) stays.within m) stays.within h))

starts : (text : List ℕ) (from : ℕ) → from < length text → (h : IsFirstSolid (clear text) from) → Starts h.line from (clear text)
starts text from l h = record {
  order = h.order;
  begins = λ n e.
      ap (λ m. get_or (clear text) m 0) (let f : n ≡ h.line - 1 = omega (arith, e) in f)
      ∙ h.begins (omega (arith, e)) (let o = h.order in omega (arith, length-without Spef text));
  blank = h.blank;
  solid = h.solid;
}

pub cuts_keep_comments : CutsKeepComments
cuts_keep_comments text from h l = cut (length text) text h.line from (omega arith) l (starts text from l h)

-- SECTIONS
pub end_quiet : IsQuiet (codes "*END")
end_quiet =
    quiet_both (42 ∷ []) (69 ∷ 78 ∷ 68 ∷ []) (own 42 refl)
    (quiet_both (69 ∷ []) (78 ∷ 68 ∷ []) (own 69 refl) (quiet_both (78 ∷ []) (68 ∷ []) (own 78 refl) (own 68 refl)))
  where
    own : (b : ℕ) → (eqb b 92 || eqb b 34 || eqb b 47) ≡ false → IsQuiet (b ∷ [])
    own b e = quiet_byte b (λ h. grind (arith, nat_tests)) (λ h. grind (arith, nat_tests)) (λ h. grind (arith, nat_tests))

pub sections_splice : SectionsSplice
sections_splice text new from end first from_l last end_l here quiet =
    (cuts_keep_comments text from first from_l).before (new ++ drop (end + 4) text)
    ∙ ap (λ xs. take from (clear text) ++ xs) (quiet (drop (end + 4) text) ∙ ap (λ xs. new ++ xs) tail)
  where
    tail : clear (drop (end + 4) text) ≡ drop (end + 4) (clear text)
    tail =
        sym (drop_at (codes "*END") (clear (drop (end + 4) text)) 4 refl)
        ∙ ap (drop 4) (sym (end_quiet (drop (end + 4) text)) ∙ ap clear (sym here) ∙ sym (cuts_keep_comments text end last end_l).after)
        ∙ drop-drop 4 end (clear text)
