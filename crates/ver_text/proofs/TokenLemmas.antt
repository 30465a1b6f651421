-- Tokens, one after another.
use Rattle.std.proofs.Common.{◌≡◌, ℕ, zero, suc, ◌+◌, ◌<◌, ◌≤◌, List, [], ◌∷◌, ◌++◌, length, drop, Some, None, refl, sym, ap, ◌∙◌, arith, add-zero, add-one, get_or, drop-cons, length-drop}
use Rattle.std.proofs.lemmas.List.{drop-drop, drop_all}
use Rattle.ver_text.specs.declared.piece.Piece.{Piece}
use Rattle.ver_text.specs.declared.piece.Stretch.{Stretch}
use Rattle.ver_text.specs.declared.token.TokenKind.{TokenKind}
use Rattle.ver_text.specs.Found.{after}
use Rattle.ver_text.specs.Tokens.{piece, directive_length, token_of, token_at, tokens_from, tokens_of}

-- bytes of what began before are passed over
pub jump : (n at : ℕ) (bs : List ℕ) → n ≤ length bs → tokens_from n at bs ≡ tokens_from 0 (at + n) (drop n bs)
unfolding tokens_from
jump zero at bs h = rw add-zero refl
jump (suc n) at [] h = absurd (omega arith)
jump (suc n) at (b ∷ bs) h =
    let e : at + 1 + n ≡ at + suc n = omega arith in jump n (at + 1) bs (omega arith) ∙ ap (λ (k : ℕ). tokens_from 0 k (drop n bs)) e

pub none_left : (skip at : ℕ) → tokens_from skip at [] ≡ []
unfolding tokens_from
none_left skip at = refl

by_byte : (at b : ℕ) (bs : List ℕ) → tokens_from 0 at (b ∷ bs) ≡ token_at at (piece b bs) ++ tokens_from (piece b bs).more (at + 1) bs
unfolding tokens_from
by_byte at b bs = refl

-- a byte begins a piece
pub by_piece : (b : ℕ) (bs : List ℕ) (p : Piece) → p ≡ piece b bs → p.more ≤ length bs
    → (at : ℕ) → tokens_from 0 at (b ∷ bs) ≡ token_at at p ++ tokens_from 0 (at + 1 + p.more) (drop p.more bs)
by_piece b bs p e h at = by_byte at b bs ∙ rw (← e) (ap (λ ts. token_at at p ++ ts) (jump p.more (at + 1) bs h))

-- what a byte of a text begins
module _ (text : List ℕ) (at : ℕ) (some : at < length text) where
  here : drop at text ≡ get_or text at 0 ∷ drop (at + 1) text
  here = rw add-one (drop-cons text at 0 some)

  by_place : (p : Piece) (s : Stretch) → p ≡ piece (get_or text at 0) (drop (at + 1) text) → s ≡ after (at + 1) p → s.to ≤ length text
      → tokens_from 0 at (drop at text) ≡ token_of s.kind at s.to ++ tokens_from 0 s.to (drop s.to text)
  by_place p s e f h =
      let to : s.to ≡ at + 1 + p.more = ap (λ (t : Stretch). t.to) f in
      let kind : s.kind ≡ p.kind = ap (λ (t : Stretch). t.kind) f in
      let k : p.more ≤ length (drop (at + 1) text) = omega (arith, length-drop (at + 1) text) in
      rw (to, kind, ← drop-drop p.more (at + 1) text)
      (ap (tokens_from 0 at) here ∙ by_piece (get_or text at 0) (drop (at + 1) text) p e k at)

  module _ (s : Stretch) (e : s ≡ after (at + 1) (piece (get_or text at 0) (drop (at + 1) text))) (h : s.to ≤ length text) where
    found : tokens_from 0 at (drop at text) ≡ token_of s.kind at s.to ++ tokens_from 0 s.to (drop s.to text)
    found = by_place (piece (get_or text at 0) (drop (at + 1) text)) s refl e h

    -- it is a token
    pub is_token : (kind : TokenKind) → s.kind ≡ Some kind → tokens_from 0 at (drop at text) ≡ record { kind = kind; from = at; to = s.to } ∷ tokens_from 0 s.to (drop s.to text)
    is_token kind k = rw k at found

    -- it is passed over
    pub is_passed : s.kind ≡ None → tokens_from 0 at (drop at text) ≡ tokens_from 0 s.to (drop s.to text)
    is_passed k = rw k at found

-- the tokens of a text begin after a directive that stands first
pub started : (text : List ℕ) (n : ℕ) → n ≡ directive_length text → n ≤ length text → tokens_from 0 n (drop n text) ≡ tokens_of text
started text n e h =
    let z : 0 + n ≡ n = omega arith in
    let f : tokens_from n 0 text ≡ tokens_from 0 n (drop n text) = jump n 0 text h ∙ ap (λ (k : ℕ). tokens_from 0 k (drop n text)) z in
    sym f ∙ ap (λ (k : ℕ). tokens_from k 0 text) e

-- no token stands at a text's end
pub none_at : (text : List ℕ) (at : ℕ) → length text ≤ at → tokens_from 0 at (drop at text) ≡ []
none_at text at h = ap (tokens_from 0 at) (drop_all at text h) ∙ none_left 0 at
