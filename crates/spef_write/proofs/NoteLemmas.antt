-- The note behind the words of a line is read again.
use Rattle.std.proofs.Common.{◌≡◌, ℕ, suc, ◌+◌, ◌-◌, ◌<◌, Bool, true, false, not, List, [], ◌∷◌, ◌++◌, reverse, refl, sym, ap, ◌∙◌, cond, arith, length, take, drop, get_or, All}
use Rattle.std.proofs.lemmas.List.{append-nil, append_assoc, drop_at, get_or-reverse, take_all}
use Rattle.std.proofs.lemmas.List.Elements.{All-head, All-tail}
use Rattle.std.proofs.lemmas.List.Sums.{list_all-from_AllPass}
use Rattle.std.specs.List.{list_all, position_or_len, prefix_len, suffix_len}
use Rattle.vg_scan.specs.Lines.{is_blank, is_ink}
use Rattle.vg_scan.specs.Printed.{is_solid as is_word_byte}
use Rattle.spef_net.specs.Lines.{is_space, is_solid, after_ink, after_word, after_words, trimmed, without_end, note_after}
use Rattle.spef_net.specs.Nets.{IsNote}
use Rattle.spef_write.specs.Texts.{spaced, IsWord}
use Rattle.spef_write.specs.TextLaws.{NotesAgain}
use Rattle.spef_write.proofs.WordLemmas.{both_true, inked}

ink_of : (w : List ℕ) → IsWord w → list_all (λ b. not (is_blank b)) w ≡ true
ink_of w is = inked w (list_all-from_AllPass is_word_byte w is.solid)

-- the first blank stands behind the word
blank_at : (w rest : List ℕ) → list_all (λ b. not (is_blank b)) w ≡ true → position_or_len is_blank (w ++ 32 ∷ rest) ≡ length w
blank_at [] rest e = refl
blank_at (b ∷ bs) rest e =
    let (first, more) = both_true (not (is_blank b)) (list_all (λ b. not (is_blank b)) bs) e in
    let later = blank_at bs rest more in
    ap (λ t. cond t (1 + position_or_len is_blank (bs ++ 32 ∷ rest)) 0) first ∙ omega (arith, later)

no_blank : (w : List ℕ) → list_all (λ b. not (is_blank b)) w ≡ true → position_or_len is_blank w ≡ length w
no_blank [] e = refl
no_blank (b ∷ bs) e =
    let (first, more) = both_true (not (is_blank b)) (list_all (λ b. not (is_blank b)) bs) e in
    let later = no_blank bs more in
    ap (λ t. cond t (1 + position_or_len is_blank bs) 0) first ∙ omega (arith, later)

drop_all : (xs : List ℕ) → drop (length xs) xs ≡ []
drop_all [] = refl
drop_all (x ∷ xs) = drop_all xs

-- a text that begins with ink is read from its beginning
at_ink : (b : ℕ) (bs : List ℕ) → not (is_blank b) ≡ true → after_word (b ∷ bs) ≡ after_ink (b ∷ bs)
unfolding after_word
at_ink b bs e = ap (λ t. after_ink (drop (cond (not t) (1 + position_or_len is_ink bs) 0) (b ∷ bs))) e

pub after_ended : (w rest : List ℕ) → IsWord w → after_word (w ++ 32 ∷ rest) ≡ 32 ∷ rest
after_ended [] rest is = absurd (let some : 0 < 0 = is.some in omega (arith, some))
after_ended (b ∷ bs) rest is =
    let ink = ink_of (b ∷ bs) is in
    at_ink b (bs ++ 32 ∷ rest) (both_true (not (is_blank b)) (list_all (λ b. not (is_blank b)) bs) ink).0
    ∙ drop_at (b ∷ bs) (32 ∷ rest) (position_or_len is_blank (b ∷ bs ++ 32 ∷ rest)) (sym (blank_at (b ∷ bs) rest ink))

pub after_last : (w : List ℕ) → IsWord w → after_word w ≡ []
after_last [] is = absurd (let some : 0 < 0 = is.some in omega (arith, some))
after_last (b ∷ bs) is =
    let ink = ink_of (b ∷ bs) is in
    at_ink b bs (both_true (not (is_blank b)) (list_all (λ b. not (is_blank b)) bs) ink).0
    ∙ ap (λ n. drop n (b ∷ bs)) (no_blank (b ∷ bs) ink) ∙ drop_all (b ∷ bs)

-- a blank before a word is passed
after_blank : (text : List ℕ) → after_word (32 ∷ text) ≡ after_word text
unfolding after_word
after_blank text =
    let k : 1 + position_or_len is_ink text ≡ suc (position_or_len is_ink text) = omega arith in
    ap (λ n. after_ink (drop n (32 ∷ text))) k

-- what is left behind all words
after_spaced : (tail : List ℕ) → ((w : List ℕ) → IsWord w → after_word (w ++ tail) ≡ tail) → (w : List ℕ) (ws : List (List ℕ)) → All IsWord (w ∷ ws)
    → after_words (length (w ∷ ws)) (spaced (w ∷ ws) ++ tail) ≡ tail
after_spaced tail last w [] all = last w (All-head IsWord w [] all)
after_spaced tail last w (next ∷ ws) all =
    ap (λ text. after_words (length (next ∷ ws)) (after_word text)) (append_assoc w (32 ∷ spaced (next ∷ ws)) tail)
    ∙ ap (after_words (length (next ∷ ws))) (after_ended w (spaced (next ∷ ws) ++ tail) (All-head IsWord w (next ∷ ws) all))
    ∙ ap (after_words (length ws)) (after_blank (spaced (next ∷ ws) ++ tail))
    ∙ after_spaced tail last next ws (All-tail IsWord w (next ∷ ws) all)

-- nothing is cut off from a text that begins and ends with no space
prefix_none : (p : ℕ → Bool) (xs : List ℕ) → (0 < length xs → p (get_or xs 0 0) ≡ false) → prefix_len p xs ≡ 0
prefix_none p [] e = refl
prefix_none p (x ∷ xs) e = ap (λ t. cond t (1 + prefix_len p xs) 0) (e (omega arith))

trimmed_none : trimmed [] ≡ []
unfolding trimmed
trimmed_none = refl

trimmed_again : (b : ℕ) (bs : List ℕ) → IsNote (b ∷ bs) → trimmed (32 ∷ b ∷ bs) ≡ b ∷ bs
unfolding trimmed
trimmed_again b bs is = ap (λ t. without_end (drop (1 + cond (not (not t)) (1 + position_or_len is_solid bs) 0) (32 ∷ b ∷ bs))) (is.begins (omega arith)) ∙ end
  where
    last : length (b ∷ bs) - 1 - 0 ≡ length (b ∷ bs) - 1
    last = omega arith

    suffix : suffix_len is_space (b ∷ bs) ≡ 0
    suffix =
        prefix_none is_space (reverse (b ∷ bs))
        (λ l. ap is_space (get_or-reverse (b ∷ bs) 0 0 (omega arith) ∙ ap (λ k. get_or (b ∷ bs) k 0) last) ∙ is.ends (omega arith))

    end : without_end (b ∷ bs) ≡ b ∷ bs
    end = ap (λ n. take (length (b ∷ bs) - n) (b ∷ bs)) suffix ∙ take_all (length (b ∷ bs) - 0) (b ∷ bs) (omega arith)

pub notes_again : NotesAgain
notes_again [] [] all is = trimmed_none
notes_again [] (b ∷ bs) all is = trimmed_again b bs is
notes_again (w ∷ ws) [] all is =
    ap (λ line. note_after (length (w ∷ ws)) line) (sym (append-nil (spaced (w ∷ ws))))
    ∙ ap trimmed (after_spaced [] (λ v word. ap after_word (append-nil v) ∙ after_last v word) w ws all)
    ∙ trimmed_none
notes_again (w ∷ ws) (b ∷ bs) all is =
    ap trimmed (after_spaced (32 ∷ b ∷ bs) (λ v word. after_ended v (b ∷ bs) word) w ws all) ∙ trimmed_again b bs is
