-- Tokens, one after another.
use Rattle.std.proofs.Common.{◌≡◌, ℕ, zero, suc, ◌+◌, ◌<◌, ◌≤◌, Bool, true, false, nat_lt, List, [], ◌∷◌, ◌++◌, length, drop, get_or, Option, Some, None, refl, ap, ◌∙◌, arith, add-one, add-zero, drop-cons, length-drop}
use Rattle.std.specs.List.{prefix_len}
use Rattle.std.proofs.lemmas.List.{drop_all, drop-drop}
use Rattle.std.proofs.lemmas.Bool.{lt-ltb, le-ltb}
use Rattle.lib_text.specs.declared.token.TokenKind.{TokenKind}
use Rattle.lib_text.specs.declared.token.TokenKind.TheVariants.{Word, Mark}
use Rattle.lib_text.specs.declared.token.Content.{Content}
use Rattle.lib_text.specs.declared.token.Content.TheVariants.{Value as OfValue, List as OfList}
use Rattle.lib_text.specs.declared.token.Found.{Found}
use Rattle.lib_text.specs.declared.quoting.Quoting.TheVariants.{Outside}
use Rattle.lib_text.specs.Tokens.{is_space, is_letter, is_word_byte, indent, ends, end_of, kind_of, token, content_after, content_at, content_length, begun, begun_length, tokens_from}
use Rattle.lib_text.proofs.RunLemmas.{until_nil}
use Rattle.lib_text.specs.Found.{tokens_next, waiting, IsFirst}

-- bytes of a token that began before are passed over
jump : (n at : ℕ) (bs : List ℕ) → n ≤ length bs → tokens_from n at bs ≡ tokens_from 0 (at + n) (drop n bs)
unfolding tokens_from
jump zero at bs h = rw add-zero refl
jump (suc n) at [] h = absurd (omega arith)
jump (suc n) at (b ∷ bs) h =
    let e : at + 1 + n ≡ at + suc n = omega arith in jump n (at + 1) bs (omega arith) ∙ ap (λ (k : ℕ). tokens_from 0 k (drop n bs)) e

pub jump_in : (text : List ℕ) (at n : ℕ) → at + n ≤ length text → tokens_from n at (drop at text) ≡ tokens_from 0 (at + n) (drop (at + n) text)
jump_in text at n h = jump n at (drop at text) (simp length-drop (omega arith)) ∙ rw drop-drop refl

none_left : (skip at : ℕ) → tokens_from skip at [] ≡ []
unfolding tokens_from
none_left skip at = refl

-- ---- by the first byte

by_byte : (at b : ℕ) (bs : List ℕ) → tokens_from 0 at (b ∷ bs) ≡ begun at b bs ++ tokens_from (begun_length b bs) (at + 1) bs
unfolding tokens_from
by_byte at b bs = refl

by_space : (at b : ℕ) (bs : List ℕ) → is_space b ≡ true → tokens_from 0 at (b ∷ bs) ≡ tokens_from 0 (at + 1) bs
by_space at b bs s = rw (by_byte at b bs, s) refl

by_word : (at b : ℕ) (bs : List ℕ) → is_space b ≡ false → is_letter b ≡ true
    → tokens_from 0 at (b ∷ bs) ≡ token Word at (at + 1 + prefix_len is_word_byte bs) ∷ tokens_from (prefix_len is_word_byte bs) (at + 1) bs
by_word at b bs s l = rw (by_byte at b bs, s, l) refl

by_mark : (at b : ℕ) (bs : List ℕ) → is_space b ≡ false → is_letter b ≡ false
    → tokens_from 0 at (b ∷ bs) ≡ token (Mark b) at (at + 1) ∷ (content_at (content_after b) (at + 1) bs ++ tokens_from (content_length (content_after b) bs) (at + 1) bs)
by_mark at b bs s l = rw (by_byte at b bs, s, l) refl

drop_more : (n b : ℕ) (bs : List ℕ) → drop (1 + n) (b ∷ bs) ≡ drop n bs
drop_more n b bs = let e : 1 + n ≡ suc n = omega arith in rw e refl

-- spaces are passed over
pass : (at : ℕ) (bs : List ℕ) → tokens_from 0 at bs ≡ tokens_from 0 (at + prefix_len is_space bs) (drop (prefix_len is_space bs) bs)
pass at [] = rw add-zero refl
pass at (b ∷ bs) = by_test (is_space b) refl (pass (at + 1) bs)
  where
    by_test : (t : Bool) → is_space b ≡ t → tokens_from 0 (at + 1) bs ≡ tokens_from 0 (at + 1 + prefix_len is_space bs) (drop (prefix_len is_space bs) bs)
        → tokens_from 0 at (b ∷ bs) ≡ tokens_from 0 (at + prefix_len is_space (b ∷ bs)) (drop (prefix_len is_space (b ∷ bs)) (b ∷ bs))
    by_test true e f =
        let k : at + 1 + prefix_len is_space bs ≡ at + (1 + prefix_len is_space bs) = omega arith in
        rw (by_space at b bs e, e, f, k, drop_more (prefix_len is_space bs) b bs) refl
    by_test false e f = rw (e, add-zero) refl

module _ (text : List ℕ) (at : ℕ) where
  pub passed : (from : ℕ) → from ≡ at + prefix_len is_space (drop at text) → tokens_next text None at ≡ tokens_next text None from
  passed from e = rw e (pass at (drop at text) ∙ rw drop-drop refl)

  pub nothing_after : length text ≤ at → tokens_next text None at ≡ []
  nothing_after h = rw (drop_all at text h) (none_left 0 at)

  pub later_first : (from : ℕ) (found : Found) → at ≤ from → tokens_next text None at ≡ tokens_next text None from → IsFirst text None from found → IsFirst text None at found
  later_first from found h e f = record {
    first = e ∙ f.first;
    within = f.within;
    falls = omega (arith, f.falls);
    places = f.places;
  }

module _ (text : List ℕ) (at : ℕ) (in_text : at < length text) where
  here : drop at text ≡ get_or text at 0 ∷ drop (at + 1) text
  here = rw add-one (drop-cons text at 0 in_text)

  pub word_first : (to : ℕ) → is_space (get_or text at 0) ≡ false → is_letter (get_or text at 0) ≡ true
      → to ≡ at + 1 + prefix_len is_word_byte (drop (at + 1) text) → to ≤ length text
      → IsFirst text None at (record { token = token Word at to; at = to; content = None })
  word_first to s l e h = record {
    first =
        let j : tokens_from (prefix_len is_word_byte (drop (at + 1) text)) (at + 1) (drop (at + 1) text) ≡ tokens_from 0 to (drop to text) =
        rw e (jump_in text (at + 1) (prefix_len is_word_byte (drop (at + 1) text)) (omega arith)) in
        rw (here, by_word at (get_or text at 0) (drop (at + 1) text) s l, j, e) refl;
    within = h;
    falls = omega arith;
    places = (omega arith, omega arith);
  }

  waits : (content : Option Content) → waiting content ≤ 1
  waits None = omega arith
  waits (Some content) = omega arith

  pub mark_first : is_space (get_or text at 0) ≡ false → is_letter (get_or text at 0) ≡ false
      → IsFirst text None at (record { token = token (Mark (get_or text at 0)) at (at + 1); at = at + 1; content = content_after (get_or text at 0) })
  mark_first s l = record {
    first = rw (here, by_mark at (get_or text at 0) (drop (at + 1) text) s l) refl;
    within = omega arith;
    falls = let w = waits (content_after (get_or text at 0)) in omega (arith, w);
    places = (omega arith, omega arith);
  }

-- ---- contents

module _ (text : List ℕ) (at : ℕ) where
  indented : (from : ℕ) → from ≡ at + indent (drop at text) → drop (indent (drop at text)) (drop at text) ≡ drop from text
  indented from e = rw e (rw drop-drop refl)

  pub no_value : (from : ℕ) → at ≤ length text → from ≡ at + indent (drop at text) → from ≡ length text → tokens_next text (Some OfValue) at ≡ []
  no_value from h e f =
      let t : nat_lt (indent (drop at text)) (length (drop at text)) ≡ false = le-ltb (indent (drop at text)) (length (drop at text)) (simp length-drop (omega arith)) in
      let d = indented from e in
      let n : drop from text ≡ [] = drop_all from text (omega arith) in
      let j : tokens_from (indent (drop at text) + end_of OfValue Outside []) at (drop at text) ≡ [] =
      rw (until_nil (ends OfValue) Outside, add-zero) (jump_in text at (indent (drop at text)) (omega arith) ∙ rw (← e, n) (none_left 0 from)) in
      rw (t, d, n) j

  pub value_first : (from to : ℕ) (kind : TokenKind) → at ≤ length text → from ≡ at + indent (drop at text) → from < length text
      → to ≡ from + end_of OfValue Outside (drop from text) → to ≤ length text → kind ≡ kind_of OfValue (drop from text)
      → IsFirst text (Some OfValue) at (record { token = token kind from to; at = to; content = None })
  value_first from to kind h e f g k l =
      let t : nat_lt (indent (drop at text)) (length (drop at text)) ≡ true = lt-ltb (indent (drop at text)) (length (drop at text)) (simp length-drop (omega arith)) in
      let d = indented from e in
      let same : at + (indent (drop at text) + end_of OfValue Outside (drop from text)) ≡ to = omega (arith, e, g) in
      let j : tokens_from (indent (drop at text) + end_of OfValue Outside (drop from text)) at (drop at text) ≡ tokens_from 0 to (drop to text) =
      jump_in text at (indent (drop at text) + end_of OfValue Outside (drop from text)) (omega (arith, same, k)) ∙ rw same refl in
      record {
        first = rw (t, d, j, l, ← e, ← g) refl;
        within = k;
        falls = omega (arith, e, g);
        places = (omega (arith, f), omega (arith, f));
      }

  pub no_list : (to : ℕ) → at ≤ length text → to ≡ at + end_of OfList Outside (drop at text) → to ≡ length text → tokens_next text (Some OfList) at ≡ []
  no_list to h e f =
      let t : nat_lt (end_of OfList Outside (drop at text)) (length (drop at text)) ≡ false = le-ltb (end_of OfList Outside (drop at text)) (length (drop at text)) (simp length-drop (omega arith)) in
      let n : drop to text ≡ [] = drop_all to text (omega arith) in
      rw t (jump_in text at (end_of OfList Outside (drop at text)) (omega arith) ∙ rw (← e, n) (none_left 0 to))

  pub list_first : (to : ℕ) (kind : TokenKind) → at ≤ length text → to ≡ at + end_of OfList Outside (drop at text) → to < length text
      → kind ≡ kind_of OfList (drop at text) → IsFirst text (Some OfList) at (record { token = token kind at to; at = to; content = None })
  list_first to kind h e f k =
      let t : nat_lt (end_of OfList Outside (drop at text)) (length (drop at text)) ≡ true = lt-ltb (end_of OfList Outside (drop at text)) (length (drop at text)) (simp length-drop (omega arith)) in
      let j : tokens_from (end_of OfList Outside (drop at text)) at (drop at text) ≡ tokens_from 0 to (drop to text) =
      jump_in text at (end_of OfList Outside (drop at text)) (omega arith) ∙ rw (← e) refl in
      record {
        first = rw (t, j, k, ← e) refl;
        within = omega arith;
        falls = omega (arith, e);
        places = (omega arith, omega arith);
      }
