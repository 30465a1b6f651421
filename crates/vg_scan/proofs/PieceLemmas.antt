-- The pieces of a text, and what a scan of its bytes makes of them.
use Rattle.std.proofs.Common.{◌≡◌, ℕ, zero, suc, ◌+◌, ◌<◌, ◌≤◌, Bool, true, false, not, cond, eqb, ◌==◌, ◌&&◌, ◌||◌, List, [], ◌∷◌, ◌++◌, map, length, take, drop, refl, sym, ap, subst, ◌∙◌, arith, length-drop}
use Rattle.std.specs.List.{position_or_len, flat_map, concat, AllZip}
use Rattle.std.proofs.lemmas.List.{take-append-drop}
use Rattle.vg_scan.specs.declared.comments.Comments.{Comments}
use Rattle.vg_scan.specs.declared.comments.Comments.TheVariants.{Spef, Liberty}
use Rattle.vg_scan.specs.Lines.{is_newline}
use Rattle.vg_scan.specs.Comments.{ends_string, through_string, through_block, piece_length, some_pieces, pieces, blanked, is_comment, uncommented, without_comments, StaysOrBlanks}
use Rattle.vg_scan.proofs.Clearing.{Outside, Quoted, InLine, InBlock, cleared_in}
use Rattle.vg_scan.specs.LibertyComments.{without_liberty_comments}
use Rattle.vg_scan.specs.Pieces.{is_mark}
use Rattle.vg_scan.proofs.LibertyLemmas.{choose as choose_by, neither}
use Rattle.vg_scan.proofs.LibertyLawLemmas.{comments_blank_alone, zip_length}
use Rattle.vg_scan.proofs.ClearedLemmas.{eq_of, first_of, second_of, only_blanks, length-cleared}

-- so many bytes of a text are a piece of it
abbrev pub IsPiece : List ℕ → ℕ → Type 0
IsPiece text k = cleared_in Outside text ≡ uncommented (take k text) ++ cleared_in Outside (drop k text)

choose : (t : Bool) (text : List ℕ) (x y : ℕ) → (t ≡ true → IsPiece text x) → (t ≡ false → IsPiece text y) → IsPiece text (cond t x y)
choose true text x y f g = f refl
choose false text x y f g = g refl

-- a string
string_step : (t : Bool) (b p : ℕ) (bs : List ℕ) → cleared_in Quoted bs ≡ take (p + 1) bs ++ cleared_in Outside (drop (p + 1) bs)
    → b ∷ cond t (cleared_in Outside bs) (cleared_in Quoted bs) ≡ take (cond (not t) (1 + p) 0 + 1) (b ∷ bs) ++ cleared_in Outside (drop (cond (not t) (1 + p) 0 + 1) (b ∷ bs))
string_step true b p bs e = refl
string_step false b p bs e =
    let k : 1 + p + 1 ≡ suc (p + 1) = omega arith in
    rw k (ap (λ xs. b ∷ xs) e)

quoted : (text : List ℕ) → cleared_in Quoted text ≡ take (through_string text) text ++ cleared_in Outside (drop (through_string text) text)
unfolding cleared_in
quoted [] = refl
quoted (b ∷ bs) = string_step ((b == 34) || (b == 10)) b (position_or_len ends_string bs) bs (quoted bs)

shown_other : (b : ℕ) (bs : List ℕ) → eqb b 47 ≡ false → uncommented (b ∷ bs) ≡ b ∷ bs
shown_other b [] e = refl
shown_other b (c ∷ bs) e = rw e refl

string : (c : ℕ) (bs : List ℕ) → IsPiece (34 ∷ c ∷ bs) (1 + through_string (c ∷ bs))
unfolding cleared_in
string c bs =
    let n = through_string (c ∷ bs) in
    let k : 1 + n ≡ suc n = omega arith in
    rw k (ap (λ xs. 34 ∷ xs) (quoted (c ∷ bs)) ∙ ap (λ xs. xs ++ cleared_in Outside (drop n (c ∷ bs))) (sym (shown_other 34 (take n (c ∷ bs)) refl)))

-- a comment that its line's end ends
newline_next : (b : ℕ) (bs : List ℕ) → b ≡ 10 → cleared_in Outside (b ∷ bs) ≡ b ∷ cleared_in Outside bs
unfolding cleared_in
newline_next b [] e = refl
newline_next b (c ∷ cs) e = subst (λ x. cleared_in Outside (x ∷ c ∷ cs) ≡ x ∷ cleared_in Outside (c ∷ cs)) (sym e) refl

line_step : (t : Bool) (b p : ℕ) (bs : List ℕ) → eqb b 10 ≡ t → cleared_in InLine bs ≡ map blanked (take p bs) ++ cleared_in Outside (drop p bs)
    → cond t (b ∷ cleared_in Outside bs) (32 ∷ cleared_in InLine bs) ≡ map blanked (take (cond (not t) (1 + p) 0) (b ∷ bs)) ++ cleared_in Outside (drop (cond (not t) (1 + p) 0) (b ∷ bs))
line_step true b p bs s e = sym (newline_next b bs (eq_of b 10 s))
line_step false b p bs s e =
    let k : 1 + p ≡ suc p = omega arith in
    rw k (rw s (ap (λ xs. 32 ∷ xs) e))

in_line : (text : List ℕ) → cleared_in InLine text ≡ map blanked (take (position_or_len is_newline text) text) ++ cleared_in Outside (drop (position_or_len is_newline text) text)
unfolding cleared_in
in_line [] = refl
in_line (b ∷ bs) = line_step (b == 10) b (position_or_len is_newline bs) bs refl (in_line bs)

line_comment : (b c : ℕ) (bs : List ℕ) → b ≡ 47 → c ≡ 47 → IsPiece (b ∷ c ∷ bs) (2 + position_or_len is_newline bs)
unfolding cleared_in
line_comment b c bs e f =
    let n = position_or_len is_newline bs in
    let k : 2 + n ≡ suc (suc n) = omega arith in
    rw (k, e, f) (ap (λ xs. 32 ∷ 32 ∷ xs) (in_line bs))

-- a comment that `*/` ends
block_step : (t : Bool) (b c n : ℕ) (bs : List ℕ) → ((b == 42) && (c == 47)) ≡ t → cleared_in InBlock (c ∷ bs) ≡ map blanked (take n (c ∷ bs)) ++ cleared_in Outside (drop n (c ∷ bs))
    → cond t (32 ∷ 32 ∷ cleared_in Outside bs) (blanked b ∷ cleared_in InBlock (c ∷ bs)) ≡ map blanked (take (cond t 2 (n + 1)) (b ∷ c ∷ bs)) ++ cleared_in Outside (drop (cond t 2 (n + 1)) (b ∷ c ∷ bs))
block_step true b c n bs s e = rw (eq_of b 42 (first_of (b == 42) (c == 47) s), eq_of c 47 (second_of (b == 42) (c == 47) s)) refl
block_step false b c n bs s e =
    let k : n + 1 ≡ suc n = omega arith in
    rw k (ap (λ xs. blanked b ∷ xs) e)

in_block : (text : List ℕ) → cleared_in InBlock text ≡ map blanked (take (through_block text) text) ++ cleared_in Outside (drop (through_block text) text)
unfolding cleared_in
in_block [] = refl
in_block (b ∷ []) = refl
in_block (b ∷ c ∷ bs) = block_step ((b == 42) && (c == 47)) b c (through_block (c ∷ bs)) bs refl (in_block (c ∷ bs))

block_comment : (b c : ℕ) (bs : List ℕ) → b ≡ 47 → c ≡ 42 → IsPiece (b ∷ c ∷ bs) (2 + through_block bs)
unfolding cleared_in
block_comment b c bs e f =
    let n = through_block bs in
    let k : 2 + n ≡ suc (suc n) = omega arith in
    rw (k, e, f) (ap (λ xs. 32 ∷ 32 ∷ xs) (in_block bs))

-- the first piece of a text
pub first_piece : (b : ℕ) (bs : List ℕ) → IsPiece (b ∷ bs) (piece_length (b ∷ bs))
unfolding cleared_in
first_piece b [] = refl
first_piece b (c ∷ bs) =
    choose (b == 92) (b ∷ c ∷ bs) _ _ (λ e. subst (λ x. IsPiece (x ∷ c ∷ bs) 2) (sym (eq_of b 92 e)) refl) (λ e.
    choose (b == 34) (b ∷ c ∷ bs) _ _ (λ f. subst (λ x. IsPiece (x ∷ c ∷ bs) (1 + through_string (c ∷ bs))) (sym (eq_of b 34 f)) (string c bs)) (λ f.
    choose ((b == 47) && (c == 47)) (b ∷ c ∷ bs) _ _ (λ g. line_comment b c bs (eq_of b 47 (first_of _ _ g)) (eq_of c 47 (second_of _ _ g))) (λ g.
    choose ((b == 47) && (c == 42)) (b ∷ c ∷ bs) _ _ (λ h. block_comment b c bs (eq_of b 47 (first_of _ _ h)) (eq_of c 42 (second_of _ _ h))) (λ h.
    rw (e, f, g, h) refl))))

either : (t : Bool) (x y : ℕ) → 0 < x → 0 < y → 0 < cond t x y
either true x y f g = f
either false x y f g = g

-- it is not empty
pub some : (b : ℕ) (bs : List ℕ) → 0 < piece_length (b ∷ bs)
some b [] = omega arith
some b (c ∷ bs) =
    either (b == 92) _ _ (omega arith) (either (b == 34) _ _ (omega arith) (either ((b == 47) && (c == 47)) _ _ (omega arith) (either ((b == 47) && (c == 42)) _ _ (omega arith) (omega arith))))

pub no_comment : (b : ℕ) (xs : List ℕ) → (b == 47) ≡ false → is_comment (b ∷ xs) ≡ false
no_comment b [] e = refl
no_comment b (c ∷ xs) e = rw e refl

-- it is a comment where the text begins with one
pub by_mark : (b : ℕ) (bs : List ℕ) → is_comment (take (piece_length (b ∷ bs)) (b ∷ bs)) ≡ is_comment (b ∷ bs)
by_mark b [] = refl
by_mark b (c ∷ bs) =
    let P : ℕ → Type 0 = λ k. is_comment (take k (b ∷ c ∷ bs)) ≡ is_comment (b ∷ c ∷ bs) in
    choose_by P (b == 92) _ _ (λ _. refl) (λ _.
    choose_by P (b == 34) _ _
    (λ e.
    let n = through_string (c ∷ bs) in
    let k : 1 + n ≡ suc n = omega arith in
    let far : (b == 47) ≡ false = ap (λ x. x == 47) (eq_of b 34 e) in
    rw k (no_comment b (take n (c ∷ bs)) far ∙ sym (no_comment b (c ∷ bs) far))) (λ _.
    choose_by P ((b == 47) && (c == 47)) _ _
    (λ _. let n = position_or_len is_newline bs in let k : 2 + n ≡ suc (suc n) = omega arith in rw k refl) (λ g.
    choose_by P ((b == 47) && (c == 42)) _ _
    (λ _. let n = through_block bs in let k : 2 + n ≡ suc (suc n) = omega arith in rw k refl) (λ h.
    rw (g, h) refl))))

pub no_slash : (b : ℕ) → is_mark b ≡ false → (b == 47) ≡ false
no_slash b e = (neither ((b == 92) || (b == 34)) (b == 47) e).1

-- a byte that is no mark is a piece of its own
pub plain_length : (b : ℕ) (bs : List ℕ) → is_mark b ≡ false → piece_length (b ∷ bs) ≡ 1
plain_length b [] e = refl
plain_length b (c ∷ bs) e =
    let (g, k) = neither ((b == 92) || (b == 34)) (b == 47) e in
    let (f, h) = neither (b == 92) (b == 34) g in
    rw (f, h, k) refl

pub nothing_cleared : cleared_in Outside [] ≡ []
unfolding cleared_in
nothing_cleared = refl

all_uncommented : (n : ℕ) (text : List ℕ) → length text ≤ n → cleared_in Outside text ≡ flat_map uncommented (some_pieces n text)
unfolding cleared_in some_pieces
all_uncommented zero [] l = refl
all_uncommented zero (b ∷ bs) l = absurd (omega arith)
all_uncommented (suc n) [] l = refl
all_uncommented (suc n) (b ∷ bs) l =
    let k = piece_length (b ∷ bs) in
    first_piece b bs ∙ ap (λ xs. uncommented (take k (b ∷ bs)) ++ xs) (all_uncommented n (drop k (b ∷ bs)) (omega (arith, length-drop k (b ∷ bs), some b bs)))

-- a scan from the text's start on makes the comments blank
pub cleared_is : (text : List ℕ) → cleared_in Outside text ≡ without_comments Spef text
unfolding without_comments pieces
cleared_is text = all_uncommented (length text) text (omega arith)

liberty_only_blanks : (text : List ℕ) → AllZip StaysOrBlanks text (without_comments Liberty text)
unfolding without_comments
liberty_only_blanks text = comments_blank_alone text

liberty_length : (text : List ℕ) → length (without_comments Liberty text) ≡ length text
unfolding without_comments
liberty_length text = zip_length text (without_liberty_comments text) (comments_blank_alone text)

pub comments_only_blank : (kind : Comments) (text : List ℕ) → AllZip StaysOrBlanks text (without_comments kind text)
comments_only_blank Spef text = subst (AllZip StaysOrBlanks text) (cleared_is text) (only_blanks Outside text).holds
comments_only_blank Liberty text = liberty_only_blanks text

-- a text keeps its length
pub length-without : (kind : Comments) (text : List ℕ) → length (without_comments kind text) ≡ length text
length-without Spef text = ap length (sym (cleared_is text)) ∙ length-cleared Outside text
length-without Liberty text = liberty_length text

some_joined : (n : ℕ) (text : List ℕ) → length text ≤ n → concat (some_pieces n text) ≡ text
unfolding some_pieces
some_joined zero [] l = refl
some_joined zero (b ∷ bs) l = absurd (omega arith)
some_joined (suc n) [] l = refl
some_joined (suc n) (b ∷ bs) l =
    let k = piece_length (b ∷ bs) in
    ap (λ xs. take k (b ∷ bs) ++ xs) (some_joined n (drop k (b ∷ bs)) (omega (arith, length-drop k (b ∷ bs), some b bs))) ∙ take-append-drop k (b ∷ bs)

-- a text is its pieces, one after another
pub concat-pieces : (text : List ℕ) → concat (pieces text) ≡ text
unfolding pieces
concat-pieces text = some_joined (length text) text (omega arith)
