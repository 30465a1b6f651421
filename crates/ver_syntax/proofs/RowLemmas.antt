-- Rows, token by token.
use Rattle.std.proofs.Common.{◌≡◌, ◌<◌, ◌≤◌, ◌^◌, ℕ, List, [], ◌∷◌, length, map, refl, ap, ◌∙◌, arith, subst}
use Rattle.std.proofs.lemmas.List.Elements.{All-cons, All-head, All-nil, All-tail}
use Rattle.ver_syntax.specs.declared.row.Place.{Place}
use Rattle.ver_text.specs.declared.token.Token.{Token}
use Rattle.ver_text.specs.Kinds.{kind_in, kinds_of}
use Rattle.ver_text.specs.Laws.{StandBetween, StandInOrder}
use Rattle.ver_text.specs.Tokens.{tokens_of}
use Rattle.ver_syntax.specs.declared.row.Place.TheVariants.{Start}
use Rattle.ver_syntax.specs.Rows.{AreLow, kinds_in, place_after, row, rows_from, rows_of}

by_token : (text : List ℕ) (place : Place) (t : Token) (ts : List Token)
    → rows_from text place (t ∷ ts) ≡ row text place t ∷ rows_from text (place_after place (kind_in text t)) ts
unfolding rows_from
by_token text place t ts = refl

pub no_row : (text : List ℕ) (place : Place) (ts : List Token) → ts ≡ [] → rows_from text place ts ≡ []
unfolding rows_from
no_row text place ts e = rw e refl

pub next_row : (text : List ℕ) (place : Place) (ts rest : List Token) (t : Token) → ts ≡ t ∷ rest
    → rows_from text place ts ≡ row text place t ∷ rows_from text (place_after place (kind_in text t)) rest
next_row text place ts rest t e = ap (rows_from text place) e ∙ by_token text place t rest

kinds_from : (text : List ℕ) (place : Place) (ts : List Token) → kinds_in (rows_from text place ts) ≡ map (kind_in text) ts
unfolding rows_from
kinds_from text place [] = refl
kinds_from text place (t ∷ ts) = ap (λ ks. kind_in text t ∷ ks) (kinds_from text (place_after place (kind_in text t)) ts)

-- the rows of a text have the kinds of its tokens
pub kinds_kept : (text : List ℕ) → kinds_in (rows_of text) ≡ kinds_of text
kinds_kept text = kinds_from text Start (tokens_of text)

-- ---- places

ends_low : (ts : List Token) (from to : ℕ) → StandBetween from to ts → from ≤ to
ends_low [] from to h = h
ends_low (t ∷ ts) from to h = omega (arith, h.0, h.1, ends_low ts t.to to h.2)

abbrev IsLow : Token → Type 0
IsLow t = (t.from < 2 ^ 32) × (t.to < 2 ^ 32)

-- tokens that stand between two places of a short text stand low
stand_low : (ts : List Token) (from to : ℕ) → StandBetween from to ts → to < 2 ^ 32 → AreLow ts
stand_low [] from to h low = All-nil IsLow
stand_low (t ∷ ts) from to h low =
    let end = ends_low ts t.to to h.2 in
    All-cons IsLow t ts (omega (arith, h.1, end, low), omega (arith, end, low)) (stand_low ts t.to to h.2 low)

pub tokens_low : (text : List ℕ) → StandInOrder → length text < 2 ^ 32 → AreLow (tokens_of text)
tokens_low text stand low = stand_low (tokens_of text) 0 (length text) (stand text) low

-- the next token, and the others
pub next_low : (ts rest : List Token) (t : Token) → ts ≡ t ∷ rest → AreLow ts → (t.from < 2 ^ 32) × (t.to < 2 ^ 32) × AreLow rest
next_low ts rest t e h =
    let all = subst AreLow e h in
    let low = All-head IsLow t rest all in
    (low.0, low.1, All-tail IsLow t rest all)
