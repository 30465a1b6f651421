-- The lines that are written are the lines of the text.
use Rattle.std.proofs.Common.{◌≡◌, ℕ, ◌||◌, Bool, true, false, cond, List, [], ◌∷◌, ◌++◌, map, get_or, refl, ap, ◌∙◌, append_assoc}
use Rattle.std.specs.Prelude.{flat_map, ⊤}
use Rattle.std.specs.List.{All, list_any, slice_split, join_with_byte}
use Rattle.std.proofs.lemmas.List.Folds.{list_any-append, list_any_at}
use Rattle.std.proofs.lemmas.List.Splits.{slice_split_at, slice_split_none}
use Rattle.vg_scan.specs.Lines.{is_blank, is_newline}
use Rattle.vg_cert.specs.Lines.{Line, parts, lines, words, is_empty, whole_fields}
use Rattle.vg_cert.specs.Names.{IsWord, is_gap}
use Rattle.vg_cert.specs.Written.{line_text}
use Rattle.vg_cert.proofs.FoundLemmas.{both_ways, not_true}

abbrev pub Each : {X : Type 0} → (X → Type 0) → List X → Type 0
Each P [] = ⊤
Each P (x ∷ xs) = P x × Each P xs

pub each_append : {X : Type 0} (P : X → Type 0) (xs ys : List X) → Each P xs → Each P ys → Each P (xs ++ ys)
each_append P [] ys h k = k
each_append P (x ∷ xs) ys h k = (h.0, each_append P xs ys h.1 k)

-- one word or more
abbrev pub AreWords : Line → Type 0
AreWords [] = ⊥
AreWords (w ∷ ws) = IsWord w × Each IsWord ws

none_all : (p : ℕ → Bool) (xs : List ℕ) → list_any p xs ≡ false → All (λ x. p x ≡ false) xs
none_all p xs h = λ k d l. not_true (p (get_or xs k d)) (λ e. both_ways (list_any p xs) (list_any_at p xs k d l e) h)

pub or_parts : (a b : Bool) → (a || b) ≡ false → (a ≡ false) × (b ≡ false)
or_parts true b e = absurd (cc)
or_parts false b e = (refl, e)

pub or_both : (a b : Bool) → a ≡ false → b ≡ false → (a || b) ≡ false
or_both a b e f = rw e f

pub none_of : (p q : ℕ → Bool) → ((b : ℕ) → p b ≡ false → q b ≡ false) → (xs : List ℕ) → list_any p xs ≡ false → list_any q xs ≡ false
none_of p q h [] e = refl
none_of p q h (x ∷ xs) e =
    let k = or_parts (p x) (list_any p xs) e in
    or_both (q x) (list_any q xs) (h x k.0) (none_of p q h xs k.1)

no_blank : (word : List ℕ) → IsWord word → list_any is_blank word ≡ false
no_blank word w = none_of is_gap is_blank (λ b e. (or_parts (is_blank b) (is_newline b) e).0) word w.solid

no_newline : (word : List ℕ) → IsWord word → list_any is_newline word ≡ false
no_newline word w = none_of is_gap is_newline (λ b e. (or_parts (is_blank b) (is_newline b) e).1) word w.solid

line_inside : (ws : Line) → Each IsWord ws → list_any is_newline (join_with_byte 32 ws) ≡ false
line_inside [] h = refl
line_inside (x ∷ []) h = no_newline x h.0
line_inside (x ∷ y ∷ ws) h =
    list_any-append is_newline x (32 ∷ join_with_byte 32 (y ∷ ws))
    ∙ or_both (list_any is_newline x) (list_any is_newline (32 ∷ join_with_byte 32 (y ∷ ws))) (no_newline x h.0) (line_inside (y ∷ ws) h.1)

line_fields : (w : List ℕ) (ws : Line) → Each IsWord (w ∷ ws) → slice_split is_blank (join_with_byte 32 (w ∷ ws)) ≡ w ∷ ws
line_fields w [] h = slice_split_none is_blank w (none_all is_blank w (no_blank w h.0))
line_fields w (y ∷ ws) h =
    slice_split_at is_blank w 32 (join_with_byte 32 (y ∷ ws)) (none_all is_blank w (no_blank w h.0)) refl ∙ ap (λ r. w ∷ r) (line_fields y ws h.1)

none_empty : (ws : Line) → Each IsWord ws → list_any is_empty ws ≡ false
none_empty [] h = refl
none_empty (w ∷ ws) h = or_both (is_empty w) (list_any is_empty ws) h.0.some (none_empty ws h.1)

line_words : (line : Line) → AreWords line → words (join_with_byte 32 line) ≡ line
unfolding words
line_words [] h = absurd h
line_words (w ∷ ws) h =
    ap whole_fields (line_fields w ws (h.0, h.1)) ∙ ap (λ b. cond b [] (w ∷ ws)) (none_empty (w ∷ ws) (h.0, h.1))

no_words : words [] ≡ []
unfolding words
no_words = refl

inside : (line : Line) → AreWords line → list_any is_newline (join_with_byte 32 line) ≡ false
inside [] h = absurd h
inside (w ∷ ws) h = line_inside (w ∷ ws) (h.0, h.1)

abbrev pub no_line : List Line
no_line = [] ∷ []

pub parts_text : (ls : List Line) → Each AreWords ls → parts (flat_map line_text ls) ≡ map (join_with_byte 32) ls ++ [] ∷ []
unfolding parts
parts_text [] h = refl
parts_text (l ∷ ls) h =
    ap (slice_split is_newline) (append_assoc (join_with_byte 32 l) (10 ∷ []) (flat_map line_text ls))
    ∙ slice_split_at is_newline (join_with_byte 32 l) 10 (flat_map line_text ls) (none_all is_newline (join_with_byte 32 l) (inside l h.0)) refl
    ∙ ap (λ r. join_with_byte 32 l ∷ r) (parts_text ls h.1)

map_words : (ls : List Line) → Each AreWords ls → map words (map (join_with_byte 32) ls ++ [] ∷ []) ≡ ls ++ no_line
map_words [] h = ap (λ w. w ∷ []) no_words
map_words (l ∷ ls) h = (λ i. line_words l h.0 i ∷ map_words ls h.1 i)

-- what was written is read line by line, and nothing stands after the last newline
pub lines_text : (ls : List Line) → Each AreWords ls → lines (flat_map line_text ls) ≡ ls ++ no_line
unfolding lines
lines_text ls h = ap (map words) (parts_text ls h) ∙ map_words ls h
