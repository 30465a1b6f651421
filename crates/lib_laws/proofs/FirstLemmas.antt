-- The first token of a text's tokens, by its kind.
use Rattle.std.proofs.Common.{◌≡◌, ℕ, suc, ◌≤◌, true, List, ◌∷◌, refl}
use Rattle.vg_scan.specs.Lines.{part}
use Rattle.lib_text.specs.declared.kind.Kind.{Kind}
use Rattle.lib_text.specs.declared.kind.Kind.TheVariants.{Library, Cell, Pin, Word, Colon, Value, Open, Close, Begin, End, Semicolon}
use Rattle.lib_text.specs.declared.token.Token.{Token}
use Rattle.lib_text.specs.declared.token.TokenKind.TheVariants.{Word as AWord, Value as AValue, List as AList, Mark}
use Rattle.lib_text.specs.Grammar.{is_word, is_list}
use Rattle.lib_text.specs.Kinds.{list_kind}
use Rattle.lib_text.specs.Tokens.{token}
use Rattle.lib_laws.proofs.BodySteps.{name_kind}
use Rattle.lib_laws.proofs.TokenForms.{AreTokens}
use Rattle.lib_laws.proofs.TokenForms.AreTokens.{a_word, a_colon, an_open, a_close, a_begin, an_end, a_semicolon, a_value, a_list}

-- an identifier comes first
pub record WordFirst (text : List ℕ) (low : ℕ) (ts : List Token) (k : Kind) (ks : List Kind) : Type 0 where
  pub from : ℕ
  pub to : ℕ
  pub rest : List Token
  pub cut : ts ≡ token AWord from to ∷ rest
  pub within : low ≤ from
  pub kind : name_kind text from ≡ k
  pub more : AreTokens text (suc from) rest ks

-- a byte comes first
pub record MarkFirst (text : List ℕ) (byte low : ℕ) (ts : List Token) (ks : List Kind) : Type 0 where
  pub from : ℕ
  pub to : ℕ
  pub rest : List Token
  pub cut : ts ≡ token (Mark byte) from to ∷ rest
  pub more : AreTokens text low rest ks

-- a value comes first
pub record ValueFirst (text : List ℕ) (low : ℕ) (ts : List Token) (ks : List Kind) : Type 0 where
  pub from : ℕ
  pub to : ℕ
  pub rest : List Token
  pub cut : ts ≡ token AValue from to ∷ rest
  pub more : AreTokens text low rest ks

-- arguments come first
pub record ListFirst (text : List ℕ) (low : ℕ) (ts : List Token) (k : Kind) (ks : List Kind) : Type 0 where
  pub from : ℕ
  pub to : ℕ
  pub rest : List Token
  pub cut : ts ≡ token AList from to ∷ rest
  pub kind : list_kind (part text from to) ≡ k
  pub more : AreTokens text low rest ks

-- no kind is that of an identifier and that of arguments
no_both : (k : Kind) → is_word k ≡ true → is_list k ≡ true → ⊥
no_both Library e f = absurd (cc)
no_both Cell e f = absurd (cc)
no_both Pin e f = absurd (cc)
no_both Word e f = absurd (cc)
no_both _ e f = absurd (cc)

pub word_first : {text : List ℕ} {low : ℕ} {ts : List Token} {ks : List Kind} {k : Kind} → is_word k ≡ true → AreTokens text low ts (k ∷ ks) → WordFirst text low ts k ks
word_first w (a_word {at} {to} {ts = rest} l v e h) = record { from = at; to = to; rest = rest; cut = refl; within = l; kind = e; more = h }
word_first {k} w (a_list m e h) = absurd (no_both k w m)
word_first w _ = absurd (cc)

pub list_first : {text : List ℕ} {low : ℕ} {ts : List Token} {ks : List Kind} {l : Kind} → is_list l ≡ true → AreTokens text low ts (l ∷ ks) → ListFirst text low ts l ks
list_first m (a_list {from} {to} {ts = rest} n e h) = record { from = from; to = to; rest = rest; cut = refl; kind = e; more = h }
list_first {l} m (a_word i v e h) = absurd (no_both l v m)
list_first m _ = absurd (cc)

pub value_first : {text : List ℕ} {low : ℕ} {ts : List Token} {ks : List Kind} → AreTokens text low ts (Value ∷ ks) → ValueFirst text low ts ks
value_first (a_value {from} {to} {ts = rest} h) = record { from = from; to = to; rest = rest; cut = refl; more = h }
value_first (a_word i v e h) = absurd (cc)
value_first (a_list m e h) = absurd (cc)

pub colon_first : {text : List ℕ} {low : ℕ} {ts : List Token} {ks : List Kind} → AreTokens text low ts (Colon ∷ ks) → MarkFirst text 58 low ts ks
colon_first (a_colon {from} {to} {ts = rest} h) = record { from = from; to = to; rest = rest; cut = refl; more = h }
colon_first (a_word i v e h) = absurd (cc)
colon_first (a_list m e h) = absurd (cc)

pub open_first : {text : List ℕ} {low : ℕ} {ts : List Token} {ks : List Kind} → AreTokens text low ts (Open ∷ ks) → MarkFirst text 40 low ts ks
open_first (an_open {from} {to} {ts = rest} h) = record { from = from; to = to; rest = rest; cut = refl; more = h }
open_first (a_word i v e h) = absurd (cc)
open_first (a_list m e h) = absurd (cc)

pub close_first : {text : List ℕ} {low : ℕ} {ts : List Token} {ks : List Kind} → AreTokens text low ts (Close ∷ ks) → MarkFirst text 41 low ts ks
close_first (a_close {from} {to} {ts = rest} h) = record { from = from; to = to; rest = rest; cut = refl; more = h }
close_first (a_word i v e h) = absurd (cc)
close_first (a_list m e h) = absurd (cc)

pub begin_first : {text : List ℕ} {low : ℕ} {ts : List Token} {ks : List Kind} → AreTokens text low ts (Begin ∷ ks) → MarkFirst text 123 low ts ks
begin_first (a_begin {from} {to} {ts = rest} h) = record { from = from; to = to; rest = rest; cut = refl; more = h }
begin_first (a_word i v e h) = absurd (cc)
begin_first (a_list m e h) = absurd (cc)

pub end_first : {text : List ℕ} {low : ℕ} {ts : List Token} {ks : List Kind} → AreTokens text low ts (End ∷ ks) → MarkFirst text 125 low ts ks
end_first (an_end {from} {to} {ts = rest} h) = record { from = from; to = to; rest = rest; cut = refl; more = h }
end_first (a_word i v e h) = absurd (cc)
end_first (a_list m e h) = absurd (cc)

pub semicolon_first : {text : List ℕ} {low : ℕ} {ts : List Token} {ks : List Kind} → AreTokens text low ts (Semicolon ∷ ks) → MarkFirst text 59 low ts ks
semicolon_first (a_semicolon {from} {to} {ts = rest} h) = record { from = from; to = to; rest = rest; cut = refl; more = h }
semicolon_first (a_word i v e h) = absurd (cc)
semicolon_first (a_list m e h) = absurd (cc)
