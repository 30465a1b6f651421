-- What holds of the tokens of a text, token by token.
use Rattle.std.proofs.Common.{◌≡◌, ℕ, zero, suc, ◌+◌, ◌==◌, Bool, true, false, not, ◌||◌, List, [], ◌∷◌, ◌++◌, refl, if◌then◌else◌}
use Rattle.std.specs.List.{prefix_len}
use Rattle.lib_text.specs.declared.token.Token.{Token}
use Rattle.lib_text.specs.declared.token.TokenKind.{TokenKind}
use Rattle.lib_text.specs.declared.token.TokenKind.TheVariants.{Word, Value, List as IsList, Broken, Mark}
use Rattle.lib_text.specs.Tokens.{is_space, is_letter, is_word_byte, token, value_at, list_at, content_after, content_at, begun, begun_length, tokens_from}

-- It holds of no tokens, and of each token with those after it: an identifier and a byte go on; where a content stands
-- is left open.
pub record ByToken (P : ℕ → List Token → Type 0) : Type 0 where
  pub none : (at : ℕ) → P at []
  pub later : (at : ℕ) (ts : List Token) → P (at + 1) ts → P at ts
  pub word : (at to : ℕ) (ts : List Token) → P (at + 1) ts → P at (token Word at to ∷ ts)
  pub mark : (at b : ℕ) (ts : List Token) → P (at + 1) ts → P at (token (Mark b) at (at + 1) ∷ ts)
  pub value : (at from to : ℕ) (ts : List Token) → P at ts → P at (token Value from to ∷ ts)
  pub list : (at from to : ℕ) (ts : List Token) → P at ts → P at (token IsList from to ∷ ts)
  pub broken : (at from to : ℕ) (ts : List Token) → P at ts → P at (token Broken from to ∷ ts)

-- what a value is, empty or not, sound or not; and a list
abbrev value_kind : Bool → Bool → TokenKind
value_kind empty sound = if empty || not sound then Broken else Value

abbrev list_kind : Bool → TokenKind
list_kind sound = if sound then IsList else Broken

module _ (P : ℕ → List Token → Type 0) (by : ByToken P) where
  by_value : (empty sound : Bool) (at from to : ℕ) (ts : List Token) → P at ts → P at (token (value_kind empty sound) from to ∷ ts)
  by_value true sound at from to ts h = by.broken at from to ts h
  by_value false true at from to ts h = by.value at from to ts h
  by_value false false at from to ts h = by.broken at from to ts h

  by_list : (sound : Bool) (at from to : ℕ) (ts : List Token) → P at ts → P at (token (list_kind sound) from to ∷ ts)
  by_list true at from to ts h = by.list at from to ts h
  by_list false at from to ts h = by.broken at from to ts h

  by_one : (t : Bool) (one : Token) (at : ℕ) (ts : List Token) → P at (one ∷ ts) → P at ts → P at ((if t then one ∷ [] else []) ++ ts)
  by_one true one at ts with_one without = with_one
  by_one false one at ts with_one without = without

  by_values : (at : ℕ) (bs : List ℕ) (ts : List Token) → P at ts → P at (value_at at bs ++ ts)
  by_values at bs ts h = by_one _ _ at ts (by_value _ _ at _ _ ts h) h

  by_lists : (at : ℕ) (bs : List ℕ) (ts : List Token) → P at ts → P at (list_at at bs ++ ts)
  by_lists at bs ts h = by_one _ _ at ts (by_list _ at _ _ ts h) h

  by_contents : (at b : ℕ) (bs : List ℕ) (ts : List Token) → P at ts → P at (content_at (content_after b) at bs ++ ts)
  by_contents at b bs ts h = by_tests (b == 58) (b == 40) refl refl
    where
      by_tests : (x y : Bool) → (b == 58) ≡ x → (b == 40) ≡ y → P at (content_at (content_after b) at bs ++ ts)
      by_tests true y e f = rw e (by_values at bs ts h)
      by_tests false true e f = rw (e, f) (by_lists at bs ts h)
      by_tests false false e f = rw (e, f) h

  by_begun : (at b : ℕ) (bs : List ℕ) (ts : List Token) → P (at + 1) ts → P at (begun at b bs ++ ts)
  by_begun at b bs ts h = by_tests (is_space b) (is_letter b) refl refl
    where
      by_tests : (x y : Bool) → is_space b ≡ x → is_letter b ≡ y → P at (begun at b bs ++ ts)
      by_tests true y e f = rw e (by.later at ts h)
      by_tests false true e f = rw (e, f) (by.word at (at + 1 + prefix_len is_word_byte bs) ts h)
      by_tests false false e f =
          rw (e, f) (by.mark at b (content_at (content_after b) (at + 1) bs ++ ts) (by_contents (at + 1) b bs ts h))

  pub by_tokens : (skip at : ℕ) (bs : List ℕ) → P at (tokens_from skip at bs)
  unfolding tokens_from
  by_tokens skip at [] = by.none at
  by_tokens (suc skip) at (b ∷ bs) = by.later at (tokens_from skip (at + 1) bs) (by_tokens skip (at + 1) bs)
  by_tokens zero at (b ∷ bs) = by_begun at b bs (tokens_from (begun_length b bs) (at + 1) bs) (by_tokens (begun_length b bs) (at + 1) bs)
