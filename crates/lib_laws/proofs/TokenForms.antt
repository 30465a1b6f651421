-- The tokens of a text with their kinds, each as its bytes make it: identifiers stand one after another.
use Rattle.std.proofs.Common.{◌≡◌, ℕ, zero, suc, ◌+◌, ◌-◌, ◌≤◌, ◌==◌, Bool, true, false, not, ◌||◌, List, [], ◌∷◌, ◌++◌, map, drop, length, codes, refl, arith, if◌then◌else◌}
use Rattle.std.specs.List.{prefix_len}
use Rattle.std.proofs.lemmas.Bool.Decides.{nat_tests}
use Rattle.std.specs.Str.{bytes_eq}
use Rattle.vg_scan.specs.Lines.{part}
use Rattle.vg_scan.proofs.ItemLemmas.{next_is}
use Rattle.lib_text.specs.declared.kind.Kind.{Kind}
use Rattle.lib_text.specs.declared.kind.Kind.TheVariants.{Colon, Value, Open, Close, Begin, End, Semicolon, Stray}
use Rattle.lib_text.specs.declared.token.Token.{Token}
use Rattle.lib_text.specs.declared.token.TokenKind.TheVariants.{Word as AWord, Value as AValue, List as AList, Broken, Mark}
use Rattle.lib_text.specs.Arguments.{are_names, arguments_of}
use Rattle.lib_text.specs.Grammar.{is_word, is_list}
use Rattle.lib_text.specs.Groups.{word_at}
use Rattle.lib_text.specs.Kinds.{word_kind, list_kind, kind_in, kinds_of}
use Rattle.lib_text.specs.Tokens.{is_space, is_letter, is_word_byte, token, content_after, content_at, begun, begun_length, tokens_from, tokens_of}

-- These are tokens of a text and their kinds, where each identifier from here on begins here or further on.
pub data AreTokens (text : List ℕ) : ℕ → List Token → List Kind → Type 0 where
  no_token : {low : ℕ} → AreTokens text low [] []
  a_word : {low at to : ℕ} {k : Kind} {ts : List Token} {ks : List Kind}
      → low ≤ at → is_word k ≡ true → word_kind (word_at text at) ≡ k → AreTokens text (suc at) ts ks
      → AreTokens text low (token AWord at to ∷ ts) (k ∷ ks)
  a_colon : {low from to : ℕ} {ts : List Token} {ks : List Kind}
      → AreTokens text low ts ks → AreTokens text low (token (Mark 58) from to ∷ ts) (Colon ∷ ks)
  an_open : {low from to : ℕ} {ts : List Token} {ks : List Kind}
      → AreTokens text low ts ks → AreTokens text low (token (Mark 40) from to ∷ ts) (Open ∷ ks)
  a_close : {low from to : ℕ} {ts : List Token} {ks : List Kind}
      → AreTokens text low ts ks → AreTokens text low (token (Mark 41) from to ∷ ts) (Close ∷ ks)
  a_begin : {low from to : ℕ} {ts : List Token} {ks : List Kind}
      → AreTokens text low ts ks → AreTokens text low (token (Mark 123) from to ∷ ts) (Begin ∷ ks)
  an_end : {low from to : ℕ} {ts : List Token} {ks : List Kind}
      → AreTokens text low ts ks → AreTokens text low (token (Mark 125) from to ∷ ts) (End ∷ ks)
  a_semicolon : {low from to : ℕ} {ts : List Token} {ks : List Kind}
      → AreTokens text low ts ks → AreTokens text low (token (Mark 59) from to ∷ ts) (Semicolon ∷ ks)
  a_value : {low from to : ℕ} {ts : List Token} {ks : List Kind}
      → AreTokens text low ts ks → AreTokens text low (token AValue from to ∷ ts) (Value ∷ ks)
  a_list : {low from to : ℕ} {k : Kind} {ts : List Token} {ks : List Kind}
      → is_list k ≡ true → list_kind (part text from to) ≡ k → AreTokens text low ts ks → AreTokens text low (token AList from to ∷ ts) (k ∷ ks)
  a_stray : {low : ℕ} {t : Token} {ts : List Token} {ks : List Kind} → AreTokens text low (t ∷ ts) (Stray ∷ ks)

pub earlier : {text : List ℕ} {low low' : ℕ} {ts : List Token} {ks : List Kind} → low ≤ low' → AreTokens text low' ts ks → AreTokens text low ts ks
earlier l no_token = no_token
earlier l (a_word m w e h) = a_word (omega arith) w e h
earlier l (a_colon h) = a_colon (earlier l h)
earlier l (an_open h) = an_open (earlier l h)
earlier l (a_close h) = a_close (earlier l h)
earlier l (a_begin h) = a_begin (earlier l h)
earlier l (an_end h) = an_end (earlier l h)
earlier l (a_semicolon h) = a_semicolon (earlier l h)
earlier l (a_value h) = a_value (earlier l h)
earlier l (a_list m e h) = a_list m e (earlier l h)
earlier l a_stray = a_stray

-- ---- the tokens that begin at a place of a text

is_a_word : (bytes : List ℕ) → is_word (word_kind bytes) ≡ true
is_a_word bytes = by_tests (bytes_eq bytes (codes "library")) (bytes_eq bytes (codes "cell")) (bytes_eq bytes (codes "pin")) refl refl refl
  where
    by_tests : (x y z : Bool) → bytes_eq bytes (codes "library") ≡ x → bytes_eq bytes (codes "cell") ≡ y → bytes_eq bytes (codes "pin") ≡ z
        → is_word (word_kind bytes) ≡ true
    by_tests true y z e f g = rw e refl
    by_tests false true z e f g = rw (e, f) refl
    by_tests false false true e f g = rw (e, f, g) refl
    by_tests false false false e f g = rw (e, f, g) refl

is_arguments : (list : List ℕ) → is_list (list_kind list) ≡ true
unfolding list_kind
is_arguments list = by_tests (are_names list) (length (arguments_of list) == 1) refl refl
  where
    by_tests : (x y : Bool) → are_names list ≡ x → (length (arguments_of list) == 1) ≡ y → is_list (list_kind list) ≡ true
    by_tests true true e f = rw (e, f) refl
    by_tests true false e f = rw (e, f) refl
    by_tests false y e f = rw e refl

module _ (text : List ℕ) where
  abbrev From : ℕ → List Token → Type 0
  From at ts = AreTokens text at ts (map (kind_in text) ts)

  by_mark : (at b from to : ℕ) (ts : List Token) → From at ts → From at (token (Mark b) from to ∷ ts)
  by_mark at b from to ts h =
      by_tests (b == 58) (b == 40) (b == 41) (b == 123) (b == 125) (b == 59) refl refl refl refl refl refl
    where
      by_tests : (u v w x y z : Bool) → (b == 58) ≡ u → (b == 40) ≡ v → (b == 41) ≡ w → (b == 123) ≡ x → (b == 125) ≡ y → (b == 59) ≡ z
          → From at (token (Mark b) from to ∷ ts)
      by_tests true v w x y z e f g i j k = let c : b ≡ 58 = grind (arith, nat_tests) in rw c (a_colon h)
      by_tests false true w x y z e f g i j k = let c : b ≡ 40 = grind (arith, nat_tests) in rw c (an_open h)
      by_tests false false true x y z e f g i j k = let c : b ≡ 41 = grind (arith, nat_tests) in rw c (a_close h)
      by_tests false false false true y z e f g i j k = let c : b ≡ 123 = grind (arith, nat_tests) in rw c (a_begin h)
      by_tests false false false false true z e f g i j k = let c : b ≡ 125 = grind (arith, nat_tests) in rw c (an_end h)
      by_tests false false false false false true e f g i j k = let c : b ≡ 59 = grind (arith, nat_tests) in rw c (a_semicolon h)
      by_tests false false false false false false e f g i j k = rw (e, f, g, i, j, k) a_stray

  by_value : (empty sound : Bool) (at from to : ℕ) (ts : List Token) → From at ts → From at (token (if empty || not sound then Broken else AValue) from to ∷ ts)
  by_value true sound at from to ts h = a_stray
  by_value false true at from to ts h = a_value h
  by_value false false at from to ts h = a_stray

  by_list : (sound : Bool) (at from to : ℕ) (ts : List Token) → From at ts → From at (token (if sound then AList else Broken) from to ∷ ts)
  by_list true at from to ts h = a_list (is_arguments (part text from to)) refl h
  by_list false at from to ts h = a_stray

  by_one : (t : Bool) (one : Token) (at : ℕ) (ts : List Token) → From at (one ∷ ts) → From at ts → From at ((if t then one ∷ [] else []) ++ ts)
  by_one true one at ts with_one without = with_one
  by_one false one at ts with_one without = without

  by_content : (at b : ℕ) (bs : List ℕ) (ts : List Token) → From at ts → From at (content_at (content_after b) at bs ++ ts)
  by_content at b bs ts h = by_tests (b == 58) (b == 40) refl refl
    where
      by_tests : (x y : Bool) → (b == 58) ≡ x → (b == 40) ≡ y → From at (content_at (content_after b) at bs ++ ts)
      by_tests true y e f = rw e (by_one _ _ at ts (by_value _ _ at _ _ ts h) h)
      by_tests false true e f = rw (e, f) (by_one _ _ at ts (by_list _ at _ _ ts h) h)
      by_tests false false e f = rw (e, f) h

  same_word : (at b : ℕ) (bs : List ℕ) → drop at text ≡ b ∷ bs → is_letter b ≡ true
      → part text at (at + 1 + prefix_len is_word_byte bs) ≡ word_at text at
  same_word at b bs e l =
      let n : (at + 1 + prefix_len is_word_byte bs) - at ≡ 1 + prefix_len is_word_byte bs = omega arith in
      rw (n, e, l) refl

  by_word : (at to : ℕ) (ts : List Token) → part text at to ≡ word_at text at → From (at + 1) ts → From at (token AWord at to ∷ ts)
  by_word at to ts e h =
      let n : at + 1 ≡ suc at = omega arith in
      rw e (a_word {low = at} {at = at} (omega arith) (is_a_word (word_at text at)) refl (rw n at h))

  by_begun : (at b : ℕ) (bs : List ℕ) (ts : List Token) → drop at text ≡ b ∷ bs → From (at + 1) ts → From at (begun at b bs ++ ts)
  by_begun at b bs ts d h = by_tests (is_space b) (is_letter b) refl refl
    where
      by_tests : (x y : Bool) → is_space b ≡ x → is_letter b ≡ y → From at (begun at b bs ++ ts)
      by_tests true y e f = rw e (earlier (omega arith) h)
      by_tests false true e f = rw (e, f) (by_word at (at + 1 + prefix_len is_word_byte bs) ts (same_word at b bs d f) h)
      by_tests false false e f =
          rw (e, f) (by_mark at b at (at + 1) (content_at (content_after b) (at + 1) bs ++ ts) (earlier (omega arith) (by_content (at + 1) b bs ts h)))

  by_tokens : (skip at : ℕ) (bs : List ℕ) → drop at text ≡ bs → From at (tokens_from skip at bs)
  unfolding tokens_from
  by_tokens skip at [] e = no_token
  by_tokens (suc skip) at (b ∷ bs) e = earlier (omega arith) (by_tokens skip (at + 1) bs (next_is text at 0 b bs e).rest)
  by_tokens zero at (b ∷ bs) e = by_begun at b bs (tokens_from (begun_length b bs) (at + 1) bs) e (by_tokens (begun_length b bs) (at + 1) bs (next_is text at 0 b bs e).rest)

  pub are_tokens : AreTokens text 0 (tokens_of text) (kinds_of text)
  are_tokens = by_tokens 0 0 text refl
