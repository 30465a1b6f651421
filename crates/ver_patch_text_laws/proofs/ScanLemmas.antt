-- The words of a text, one after another, by its bytes alone.
use Rattle.std.proofs.Common.{◌≡◌, ℕ, zero, suc, ◌+◌, ◌≤◌, List, [], ◌∷◌, ◌++◌, length, take, Option, Some, None, refl, sym, ap, ◌∙◌, arith, append_assoc}
use Rattle.ver_text.specs.declared.token.Token.{Token}
use Rattle.ver_text.specs.declared.token.TokenKind.{TokenKind}
use Rattle.ver_text.specs.Kinds.{grammar_kind}
use Rattle.ver_text.specs.Tokens.{piece, token_at, token_of, tokens_from}
use Rattle.ver_patch_text_laws.specs.Words.{Word}
use Rattle.ver_patch_text_laws.proofs.PieceLemmas.{IsStop}
use Rattle.ver_patch_text_laws.proofs.PlaceLemmas.{BeginsName, piece_kept, piece_same}

-- ---- words

-- the word, if any, of these bytes
abbrev pub word_by : Option TokenKind → List ℕ → List Word
word_by None bytes = []
word_by (Some kind) bytes = record { kind = grammar_kind kind bytes; bytes = bytes } ∷ []

-- the words of a text, where so many of its bytes belong to what began before
unfoldable pub words_from : ℕ → List ℕ → List Word
words_from skip [] = []
words_from (suc skip) (b ∷ bs) = words_from skip bs
words_from zero (b ∷ bs) = word_by (piece b bs).kind (take (1 + (piece b bs).more) (b ∷ bs)) ++ words_from (piece b bs).more bs

-- the words that begin in the front of a text
unfoldable pub words_in : ℕ → List ℕ → List ℕ → List Word
words_in skip [] vs = []
words_in (suc skip) (b ∷ us) vs = words_in skip us vs
words_in zero (b ∷ us) vs =
    word_by (piece b (us ++ vs)).kind (take (1 + (piece b (us ++ vs)).more) (b ∷ us ++ vs)) ++ words_in (piece b (us ++ vs)).more us vs

-- so many bytes behind the front belong to what began in it
unfoldable pub left : ℕ → List ℕ → List ℕ → ℕ
left skip [] vs = skip
left (suc skip) (b ∷ us) vs = left skip us vs
left zero (b ∷ us) vs = left (piece b (us ++ vs)).more us vs

pub words_split : (us vs : List ℕ) (skip : ℕ) → words_from skip (us ++ vs) ≡ words_in skip us vs ++ words_from (left skip us vs) vs
unfolding words_from words_in left
words_split [] vs skip = refl
words_split (b ∷ us) vs (suc skip) = words_split us vs skip
words_split (b ∷ us) vs zero =
    ap (λ ws. word_by (piece b (us ++ vs)).kind (take (1 + (piece b (us ++ vs)).more) (b ∷ us ++ vs)) ++ ws) (words_split us vs (piece b (us ++ vs)).more)
    ∙ sym (append_assoc (word_by (piece b (us ++ vs)).kind (take (1 + (piece b (us ++ vs)).more) (b ∷ us ++ vs)))
    (words_in (piece b (us ++ vs)).more us vs) (words_from (left (piece b (us ++ vs)).more us vs) vs))

-- nothing reaches over the end of a front where nothing is left of it
pub left_within : (us vs : List ℕ) (skip : ℕ) → left skip us vs ≡ 0 → skip ≤ length us
unfolding left
left_within [] vs skip e = omega (arith, e)
left_within (b ∷ us) vs (suc skip) e = omega (arith, left_within us vs skip e)
left_within (b ∷ us) vs zero e = omega arith

-- ---- the front of a text before one rest and before another

-- the front has the same words, and ends with what began in it, before both rests
pub record Holds (skip : ℕ) (us vs vs' : List ℕ) : Type 0 where
  pub words : words_in skip us vs' ≡ words_in skip us vs
  pub ends : left skip us vs ≡ 0
  pub ends' : left skip us vs' ≡ 0

pub holds_words : (skip : ℕ) (us vs vs' : List ℕ) → Holds skip us vs vs' → words_from skip (us ++ vs') ≡ words_in skip us vs ++ words_from 0 vs'
holds_words skip us vs vs' h = words_split us vs' skip ∙ (λ i. h.words i ++ words_from (h.ends' i) vs')

take_front : (n : ℕ) (us vs vs' : List ℕ) → n ≤ length us → take n (us ++ vs') ≡ take n (us ++ vs)
take_front zero us vs vs' h = refl
take_front (suc n) [] vs vs' h = absurd (omega arith)
take_front (suc n) (u ∷ us) vs vs' h = ap (λ xs. u ∷ xs) (take_front n us vs vs' (omega arith))

-- one more piece
pub holds_more : (b : ℕ) (us vs vs' : List ℕ) → piece b (us ++ vs') ≡ piece b (us ++ vs) → left (piece b (us ++ vs)).more us vs ≡ 0
    → Holds (piece b (us ++ vs)).more us vs vs' → Holds 0 (b ∷ us) vs vs'
unfolding words_in left
holds_more b us vs vs' e l h =
    let n = (piece b (us ++ vs)).more in
    let low = left_within us vs n l in
    let bytes : take (1 + n) (b ∷ us ++ vs') ≡ take (1 + n) (b ∷ us ++ vs) = take_front (1 + n) (b ∷ us) vs vs' (omega (arith, low)) in
    record {
      words = (λ i. word_by (e i).kind (take (1 + (e i).more) (b ∷ us ++ vs')) ++ words_in (e i).more us vs')
          ∙ (λ i. word_by (piece b (us ++ vs)).kind (bytes i) ++ h.words i);
      ends = l;
      ends' = ap (λ (k : ℕ). left k us vs') (ap (λ p. p.more) e) ∙ h.ends';
    }

pub holds_before_stop : (y : ℕ) → IsStop y → (us vs vs' : List ℕ) (skip : ℕ) → left skip us (y ∷ vs) ≡ 0 → Holds skip us (y ∷ vs) (y ∷ vs')
unfolding words_in left
holds_before_stop y s [] vs vs' skip e = record { words = refl; ends = e; ends' = e }
holds_before_stop y s (b ∷ us) vs vs' (suc skip) e =
    let h = holds_before_stop y s us vs vs' skip e in record { words = h.words; ends = h.ends; ends' = h.ends' }
holds_before_stop y s (b ∷ us) vs vs' zero e =
    holds_more b us (y ∷ vs) (y ∷ vs')
    (piece_same y s vs vs' b us (left_within us (y ∷ vs) (piece b (us ++ y ∷ vs)).more e)) e
    (holds_before_stop y s us vs vs' (piece b (us ++ y ∷ vs)).more e)

no_words : (kind : Option TokenKind) (bytes : List ℕ) (ws : List Word) → word_by kind bytes ++ ws ≡ [] → (kind ≡ None) × (ws ≡ [])
no_words None bytes ws e = (refl, e)
no_words (Some kind) bytes ws e = absurd (cc)

-- what is passed over before a name
pub holds_before_name : (y y' : ℕ) → BeginsName y → BeginsName y' → (us vs vs' : List ℕ) (skip : ℕ) → words_in skip us (y ∷ vs) ≡ []
    → left skip us (y ∷ vs) ≡ 0 → Holds skip us (y ∷ vs) (y' ∷ vs')
unfolding words_in left
holds_before_name y y' s s' [] vs vs' skip none e = record { words = refl; ends = e; ends' = e }
holds_before_name y y' s s' (b ∷ us) vs vs' (suc skip) none e =
    let h = holds_before_name y y' s s' us vs vs' skip none e in record { words = h.words; ends = h.ends; ends' = h.ends' }
holds_before_name y y' s s' (b ∷ us) vs vs' zero none e =
    let n = (piece b (us ++ y ∷ vs)).more in
    let (kind, rest) = no_words (piece b (us ++ y ∷ vs)).kind (take (1 + n) (b ∷ us ++ y ∷ vs)) (words_in n us (y ∷ vs)) none in
    holds_more b us (y ∷ vs) (y' ∷ vs') (piece_kept y y' s s' vs vs' b us kind (left_within us (y ∷ vs) n e)) e
    (holds_before_name y y' s s' us vs vs' n rest e)

in_append : (us ws vs : List ℕ) (skip : ℕ) → words_in skip (us ++ ws) vs ≡ words_in skip us (ws ++ vs) ++ words_in (left skip us (ws ++ vs)) ws vs
unfolding words_in left
in_append [] ws vs skip = refl
in_append (b ∷ us) ws vs (suc skip) = in_append us ws vs skip
in_append (b ∷ us) ws vs zero =
    (λ i. word_by (piece b (append_assoc us ws vs i)).kind (take (1 + (piece b (append_assoc us ws vs i)).more) (b ∷ append_assoc us ws vs i))
    ++ words_in (piece b (append_assoc us ws vs i)).more (us ++ ws) vs)
    ∙ ap (λ xs. word_by (piece b (us ++ (ws ++ vs))).kind (take (1 + (piece b (us ++ (ws ++ vs))).more) (b ∷ us ++ (ws ++ vs))) ++ xs)
    (in_append us ws vs (piece b (us ++ (ws ++ vs))).more)
    ∙ sym (append_assoc (word_by (piece b (us ++ (ws ++ vs))).kind (take (1 + (piece b (us ++ (ws ++ vs))).more) (b ∷ us ++ (ws ++ vs))))
    (words_in (piece b (us ++ (ws ++ vs))).more us (ws ++ vs)) (words_in (left (piece b (us ++ (ws ++ vs))).more us (ws ++ vs)) ws vs))

left_append : (us ws vs : List ℕ) (skip : ℕ) → left skip (us ++ ws) vs ≡ left (left skip us (ws ++ vs)) ws vs
unfolding left
left_append [] ws vs skip = refl
left_append (b ∷ us) ws vs (suc skip) = left_append us ws vs skip
left_append (b ∷ us) ws vs zero =
    ap (λ (xs : List ℕ). left (piece b xs).more (us ++ ws) vs) (append_assoc us ws vs) ∙ left_append us ws vs (piece b (us ++ (ws ++ vs))).more

pub holds_append : (skip : ℕ) (us ws vs vs' : List ℕ) → Holds skip us (ws ++ vs) (ws ++ vs') → Holds 0 ws vs vs' → Holds skip (us ++ ws) vs vs'
holds_append skip us ws vs vs' h k = record {
  words =
      in_append us ws vs' skip
      ∙ (λ i. h.words i ++ words_in ((h.ends' ∙ sym h.ends) i) ws vs')
      ∙ (λ i. words_in skip us (ws ++ vs) ++ words_in (h.ends i) ws vs')
      ∙ (λ i. words_in skip us (ws ++ vs) ++ k.words i)
      ∙ (λ i. words_in skip us (ws ++ vs) ++ words_in (sym h.ends i) ws vs)
      ∙ sym (in_append us ws vs skip);
  ends = left_append us ws vs skip ∙ ap (λ (n : ℕ). left n ws vs) h.ends ∙ k.ends;
  ends' = left_append us ws vs' skip ∙ ap (λ (n : ℕ). left n ws vs') h.ends' ∙ k.ends';
}

-- ---- tokens

-- the tokens that begin in the front of a text
unfoldable pub tokens_in : ℕ → ℕ → List ℕ → List ℕ → List Token
tokens_in skip at [] vs = []
tokens_in (suc skip) at (b ∷ us) vs = tokens_in skip (at + 1) us vs
tokens_in zero at (b ∷ us) vs = token_at at (piece b (us ++ vs)) ++ tokens_in (piece b (us ++ vs)).more (at + 1) us vs

-- a token of a text, and what stands before it and behind its first byte
pub record Found (skip at : ℕ) (bytes : List ℕ) (front : List Token) (t : Token) (back : List Token) : Type 0 where
  pub us : List ℕ
  pub b : ℕ
  pub bs : List ℕ
  pub is : bytes ≡ us ++ b ∷ bs
  pub from : t.from ≡ at + length us
  pub ends : left skip us (b ∷ bs) ≡ 0
  pub before : tokens_in skip at us (b ∷ bs) ≡ front
  pub kind : (piece b bs).kind ≡ Some t.kind
  pub to : t.to ≡ t.from + 1 + (piece b bs).more
  pub after : tokens_from (piece b bs).more (t.from + 1) bs ≡ back

found_next : (at b : ℕ) (bs : List ℕ) (kind : TokenKind) (front : List Token) (t : Token) (back : List Token) → (piece b bs).kind ≡ Some kind
    → record { kind = kind; from = at; to = at + 1 + (piece b bs).more } ∷ tokens_from (piece b bs).more (at + 1) bs ≡ front ++ t ∷ back
    → ((front : List Token) → tokens_from (piece b bs).more (at + 1) bs ≡ front ++ t ∷ back → Found (piece b bs).more (at + 1) bs front t back)
    → Found 0 at (b ∷ bs) front t back
unfolding tokens_in left
found_next at b bs kind [] t back k e others =
    let one : t.kind ≡ kind = cc in
    let two : t.from ≡ at = cc in
    let three : t.to ≡ at + 1 + (piece b bs).more = cc in
    let rest : tokens_from (piece b bs).more (at + 1) bs ≡ back = cc in
    record {
      us = [];
      b = b;
      bs = bs;
      is = refl;
      from = omega (arith, two);
      ends = refl;
      before = refl;
      kind = k ∙ ap Some (sym one);
      to = omega (arith, two, three);
      after = ap (λ (n : ℕ). tokens_from (piece b bs).more (n + 1) bs) two ∙ rest;
    }
found_next at b bs kind (f ∷ front) t back k e others =
    let first : record { kind = kind; from = at; to = at + 1 + (piece b bs).more } ≡ f = cc in
    let rest : tokens_from (piece b bs).more (at + 1) bs ≡ front ++ t ∷ back = cc in
    let h = others front rest in
    let tokens : token_at at (piece b (h.us ++ h.b ∷ h.bs)) ++ tokens_in (piece b (h.us ++ h.b ∷ h.bs)).more (at + 1) h.us (h.b ∷ h.bs) ≡ f ∷ front
    = (λ i. token_at at (piece b (sym h.is i)) ++ tokens_in (piece b (sym h.is i)).more (at + 1) h.us (h.b ∷ h.bs))
    ∙ (λ i. token_of (k i) at (at + 1 + (piece b bs).more) ++ h.before i)
    ∙ (λ i. first i ∷ front) in
    record {
      us = b ∷ h.us;
      b = h.b;
      bs = h.bs;
      is = ap (λ xs. b ∷ xs) h.is;
      from = omega (arith, h.from);
      ends = ap (λ (xs : List ℕ). left (piece b xs).more h.us (h.b ∷ h.bs)) (sym h.is) ∙ h.ends;
      before = tokens;
      kind = h.kind;
      to = h.to;
      after = h.after;
    }

found_passed : (at b : ℕ) (bs : List ℕ) (front : List Token) (t : Token) (back : List Token) → (piece b bs).kind ≡ None
    → Found (piece b bs).more (at + 1) bs front t back → Found 0 at (b ∷ bs) front t back
unfolding tokens_in left
found_passed at b bs front t back k h = record {
  us = b ∷ h.us;
  b = h.b;
  bs = h.bs;
  is = ap (λ xs. b ∷ xs) h.is;
  from = omega (arith, h.from);
  ends = ap (λ (xs : List ℕ). left (piece b xs).more h.us (h.b ∷ h.bs)) (sym h.is) ∙ h.ends;
  before =
      (λ i. token_at at (piece b (sym h.is i)) ++ tokens_in (piece b (sym h.is i)).more (at + 1) h.us (h.b ∷ h.bs))
      ∙ (λ i. token_of (k i) at (at + 1 + (piece b bs).more) ++ h.before i);
  kind = h.kind;
  to = h.to;
  after = h.after;
}

pub found : (bytes : List ℕ) (skip at : ℕ) (front : List Token) (t : Token) (back : List Token) → tokens_from skip at bytes ≡ front ++ t ∷ back
    → Found skip at bytes front t back
unfolding tokens_from tokens_in left
found [] skip at [] t back e = absurd (cc)
found [] skip at (f ∷ front) t back e = absurd (cc)
found (b ∷ bs) (suc skip) at front t back e =
    let h = found bs skip (at + 1) front t back e in
    record {
      us = b ∷ h.us;
      b = h.b;
      bs = h.bs;
      is = ap (λ xs. b ∷ xs) h.is;
      from = omega (arith, h.from);
      ends = h.ends;
      before = h.before;
      kind = h.kind;
      to = h.to;
      after = h.after;
    }
found (b ∷ bs) zero at front t back e = by_kind (piece b bs).kind refl e (λ fs. found bs (piece b bs).more (at + 1) fs t back)
  where
    by_kind : (kind : Option TokenKind) → (piece b bs).kind ≡ kind
        → token_of kind at (at + 1 + (piece b bs).more) ++ tokens_from (piece b bs).more (at + 1) bs ≡ front ++ t ∷ back
        → ((fs : List Token) → tokens_from (piece b bs).more (at + 1) bs ≡ fs ++ t ∷ back → Found (piece b bs).more (at + 1) bs fs t back)
        → Found 0 at (b ∷ bs) front t back
    by_kind None k f others = found_passed at b bs front t back k (others front f)
    by_kind (Some kind) k f others = found_next at b bs kind front t back k f others
