-- Which tokens have some kinds.
use Rattle.std.proofs.Common.{◌≡◌, ℕ, Bool, true, false, cond, ◌==◌, List, refl, ap, arith, ◌⊎◌, inl, inr}
use Rattle.std.specs.Str.{bytes_eq}
use Rattle.std.specs.Prelude.{codes, nat_lt, ◌^◌}
use Rattle.std.proofs.lemmas.Bool.Decides.{nat_tests}
use Rattle.vg_num.specs.Number.{value_of}
use Rattle.ver_text.specs.declared.kind.Kind.{Kind}
use Rattle.ver_text.specs.declared.kind.Kind.TheVariants.{Module, EndModule, Direction, Wire, NetType, Assign, Parameter, Identifier, Zero, Small, Limit, Large, Open, Close, OpenSquare, CloseSquare, OpenBrace, CloseBrace, Comma, Semicolon, Dot, Colon, Equals, Hash, Stray as AStray}
use Rattle.ver_text.specs.declared.token.TokenKind.{TokenKind}
use Rattle.ver_text.specs.declared.token.TokenKind.TheVariants.{Word, Escaped, Digits, Based, Mark, Stray, Unclosed}
use Rattle.ver_text.specs.Kinds.{digits_kind, grammar_kind, is_direction, is_net_type, is_parameter, mark_kind, word_kind}
use Rattle.ver_syntax.specs.Grammar.{is}

module _ (test : Kind → Bool) where
  choose : (c : Bool) (a b : Kind) → test a ≡ false → test b ≡ false → test (cond c a b) ≡ false
  choose true a b e f = e
  choose false a b e f = f

  -- a test that no word passes
  no_word : test Direction ≡ false → test Wire ≡ false → test NetType ≡ false → test Assign ≡ false → test Module ≡ false → test EndModule ≡ false
      → test Parameter ≡ false → test Identifier ≡ false → (w : List ℕ) → test (word_kind w) ≡ false
  no_word a b c d e f g h w =
      choose (is_direction w) _ _ a (choose (bytes_eq w (codes "wire")) _ _ b (choose (is_net_type w) _ _ c (choose (bytes_eq w (codes "assign")) _ _ d
      (choose (bytes_eq w (codes "module")) _ _ e (choose (bytes_eq w (codes "endmodule")) _ _ f (choose (is_parameter w) _ _ g h))))))

  -- a test that no number passes
  pub no_number : test Zero ≡ false → test Small ≡ false → test Limit ≡ false → test Large ≡ false → (w : List ℕ) → test (digits_kind w) ≡ false
  unfolding digits_kind
  no_number a b c d w =
      choose (value_of w == 0) _ _ a (choose (nat_lt (value_of w) (2 ^ 20)) _ _ b (choose (value_of w == 2 ^ 20) _ _ c d))

  -- a test that only a `(` or a `;` may pass
  other_mark : test Close ≡ false → test OpenSquare ≡ false → test CloseSquare ≡ false → test OpenBrace ≡ false → test CloseBrace ≡ false → test Comma ≡ false
      → test Dot ≡ false → test Colon ≡ false → test Equals ≡ false → test Hash ≡ false → test AStray ≡ false
      → (b : ℕ) → ((b == 40) ≡ false) ⊎ (test Open ≡ false) → ((b == 59) ≡ false) ⊎ (test Semicolon ≡ false) → test (mark_kind b) ≡ false
  other_mark c os cs ob cb co d cl eq ha st b x y =
      open_or (choose (b == 41) _ _ c (choose (b == 91) _ _ os (choose (b == 93) _ _ cs (choose (b == 123) _ _ ob (choose (b == 125) _ _ cb (choose (b == 44) _ _ co
      (semicolon_or (choose (b == 46) _ _ d (choose (b == 58) _ _ cl (choose (b == 61) _ _ eq (choose (b == 35) _ _ ha st)))))))))))
    where
      branch : (t : Bool) (a k : Kind) → (t ≡ false) ⊎ (test a ≡ false) → test k ≡ false → test (cond t a k) ≡ false
      branch true a k (inl e) f = absurd (cc)
      branch true a k (inr e) f = e
      branch false a k e f = f

      open_or : {k : Kind} → test k ≡ false → test (cond (b == 40) Open k) ≡ false
      open_or {k} e = branch (b == 40) Open k x e

      semicolon_or : {k : Kind} → test k ≡ false → test (cond (b == 59) Semicolon k) ≡ false
      semicolon_or {k} e = branch (b == 59) Semicolon k y e

both : (b : Bool) → b ≡ true → b ≡ false → ⊥
both true e f = absurd (cc)
both false e f = absurd (cc)

is_number : (b c : ℕ) → (b == c) ≡ true → b ≡ c
is_number b c e = grind (arith, nat_tests)

pub open_mark : (kind : TokenKind) (w : List ℕ) → is Open (grammar_kind kind w) ≡ true → kind ≡ Mark 40
open_mark Word w e = absurd (both _ e (no_word (is Open) refl refl refl refl refl refl refl refl w))
open_mark Escaped w e = absurd (cc)
open_mark Digits w e = absurd (both _ e (no_number (is Open) refl refl refl refl w))
open_mark Based w e = absurd (cc)
open_mark (Mark b) w e = by_test (b == 40) refl
  where
    by_test : (t : Bool) → (b == 40) ≡ t → Mark b ≡ Mark 40
    by_test true f = ap Mark (is_number b 40 f)
    by_test false f = absurd (both _ e (other_mark (is Open) refl refl refl refl refl refl refl refl refl refl refl b (inl f) (inr refl)))
open_mark Stray w e = absurd (cc)
open_mark Unclosed w e = absurd (cc)

pub semicolon_mark : (kind : TokenKind) (w : List ℕ) → is Semicolon (grammar_kind kind w) ≡ true → kind ≡ Mark 59
semicolon_mark Word w e = absurd (both _ e (no_word (is Semicolon) refl refl refl refl refl refl refl refl w))
semicolon_mark Escaped w e = absurd (cc)
semicolon_mark Digits w e = absurd (both _ e (no_number (is Semicolon) refl refl refl refl w))
semicolon_mark Based w e = absurd (cc)
semicolon_mark (Mark b) w e = by_test (b == 59) refl
  where
    by_test : (t : Bool) → (b == 59) ≡ t → Mark b ≡ Mark 59
    by_test true f = ap Mark (is_number b 59 f)
    by_test false f = absurd (both _ e (other_mark (is Semicolon) refl refl refl refl refl refl refl refl refl refl refl b (inr refl) (inl f)))
semicolon_mark Stray w e = absurd (cc)
semicolon_mark Unclosed w e = absurd (cc)

pub close_mark : (kind : TokenKind) (w : List ℕ) → is Close (grammar_kind kind w) ≡ true → (m : ℕ) × (kind ≡ Mark m)
close_mark Word w e = absurd (both _ e (no_word (is Close) refl refl refl refl refl refl refl refl w))
close_mark Escaped w e = absurd (cc)
close_mark Digits w e = absurd (both _ e (no_number (is Close) refl refl refl refl w))
close_mark Based w e = absurd (cc)
close_mark (Mark b) w e = (b, refl)
close_mark Stray w e = absurd (cc)
close_mark Unclosed w e = absurd (cc)

pub identifier_token : (kind : TokenKind) (w : List ℕ) → is Identifier (grammar_kind kind w) ≡ true → (kind ≡ Word) ⊎ (kind ≡ Escaped)
identifier_token Word w e = inl refl
identifier_token Escaped w e = inr refl
identifier_token Digits w e = absurd (both _ e (no_number (is Identifier) refl refl refl refl w))
identifier_token Based w e = absurd (cc)
identifier_token (Mark b) w e =
    absurd (both _ e (other_mark (is Identifier) refl refl refl refl refl refl refl refl refl refl refl b (inr refl) (inr refl)))
identifier_token Stray w e = absurd (cc)
identifier_token Unclosed w e = absurd (cc)

pub end_token : (kind : TokenKind) (w : List ℕ) → is EndModule (grammar_kind kind w) ≡ true → kind ≡ Word
end_token Word w e = refl
end_token Escaped w e = absurd (cc)
end_token Digits w e = absurd (both _ e (no_number (is EndModule) refl refl refl refl w))
end_token Based w e = absurd (cc)
end_token (Mark b) w e =
    absurd (both _ e (other_mark (is EndModule) refl refl refl refl refl refl refl refl refl refl refl b (inr refl) (inr refl)))
end_token Stray w e = absurd (cc)
end_token Unclosed w e = absurd (cc)
