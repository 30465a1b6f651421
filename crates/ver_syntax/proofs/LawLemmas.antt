-- A text has one first fault at most, and a module has none.
use Rattle.std.proofs.Common.{◌≡◌, ℕ, true, List, [], ◌∷◌, take, drop, Option, Some, None, sym, ◌∙◌, inl, inr}
use Rattle.std.specs.Prelude.{MatchOption, find}
use Rattle.grammar_laws.proofs.LawLemmas.{break_once}
use Rattle.vg_scan.specs.declared.fault.LineFault.{LineFault}
use Rattle.ver_syntax.specs.declared.fault.VerKind.{VerKind}
use Rattle.ver_text.specs.declared.kind.Kind.{Kind}
use Rattle.ver_text.specs.declared.kind.Kind.TheVariants.{Module, Parameter, Identifier, Open, EndModule}
use Rattle.ver_text.specs.declared.token.Token.{Token}
use Rattle.ver_syntax.specs.Grammar.{is, rules, module_declaration}
use Rattle.ver_text.specs.Kinds.{kinds_of}
use Rattle.ver_syntax.specs.Laws.{FaultsOnce, ModulesAreFaultless}
use Rattle.ver_syntax.specs.Syntax.{is_bad, IsModule, ends_in, IsWrongIn, IsWrongAt, IsTokenFault, IsGrammarFault}
use Rattle.ver_text.specs.Tokens.{tokens_of}

one_kind : (k : Kind) → is Identifier k ≡ true → is Open k ≡ true → ⊥
one_kind EndModule e f = absurd (cc)
one_kind Identifier e f = absurd (cc)
one_kind k e f = absurd (cc)

one_last : (ks : List Kind) → ends_in Identifier ks ≡ true → ends_in Open ks ≡ true → ⊥
one_last [] e f = absurd (cc)
one_last (k ∷ []) e f = one_kind k e f
one_last (k ∷ j ∷ ks) e f = one_last (j ∷ ks) e f

wrong_in_once : (before : List Kind) (k : Kind) (a b : VerKind) → IsWrongIn before k a → IsWrongIn before k b → a ≡ b
wrong_in_once before k a b (inl x) (inl y) = x.0 ∙ sym y.0
wrong_in_once before k a b (inl x) (inr (inl y)) = absurd (one_last before x.2.cell y.1.bracket)
wrong_in_once before k a b (inl x) (inr (inr y)) = absurd (y.1 (x.1, x.2))
wrong_in_once before k a b (inr (inl x)) (inl y) = absurd (one_last before y.2.cell x.1.bracket)
wrong_in_once before k a b (inr (inl x)) (inr (inl y)) = x.0 ∙ sym y.0
wrong_in_once before k a b (inr (inl x)) (inr (inr y)) = absurd (y.2 x.1)
wrong_in_once before k a b (inr (inr x)) (inl y) = absurd (x.1 (y.1, y.2))
wrong_in_once before k a b (inr (inr x)) (inr (inl y)) = absurd (x.2 y.1)
wrong_in_once before k a b (inr (inr x)) (inr (inr y)) = x.0 ∙ sym y.0

wrong_at_once : (before ks : List Kind) (a b : VerKind) → IsWrongAt before ks a → IsWrongAt before ks b → a ≡ b
wrong_at_once before [] a b x y = x ∙ sym y
wrong_at_once before (Module ∷ ks) a b x y = x ∙ sym y
wrong_at_once before (Parameter ∷ ks) a b x y = x ∙ sym y
wrong_at_once before (EndModule ∷ ks) a b x y = wrong_in_once before EndModule a b x y
wrong_at_once before (k ∷ ks) a b x y = wrong_in_once before k a b x y

same_fault : (f g : LineFault VerKind) → f.kind ≡ g.kind → f.line ≡ g.line → f ≡ g
same_fault f g p q = λ i. record { kind = p i; line = q i }

module _ (text : List ℕ) (f g : LineFault VerKind) where
  grammar_once : IsGrammarFault text f → IsGrammarFault text g → f ≡ g
  grammar_once x y =
      let e : x.token ≡ y.token = break_once rules module_declaration (kinds_of text) x.token y.token x.broken y.broken in
      let k : IsWrongAt (take y.token (kinds_of text)) (drop y.token (kinds_of text)) f.kind = rw e at x.kind in
      same_fault f g (wrong_at_once (take y.token (kinds_of text)) (drop y.token (kinds_of text)) f.kind g.kind k y.kind) (rw e at x.line ∙ sym y.line)

  once : (o : Option Token) → MatchOption o (IsGrammarFault text f) (IsTokenFault text f) → MatchOption o (IsGrammarFault text g) (IsTokenFault text g) → f ≡ g
  once None x y = grammar_once x y
  once (Some t) x y = same_fault f g (x.kind ∙ sym y.kind) (x.line ∙ sym y.line)

pub faults_once : FaultsOnce
faults_once text f g x y = once text f g (find is_bad (tokens_of text)) x y

none_at : (text : List ℕ) (fault : LineFault VerKind) (o : Option Token) → o ≡ None → IsModule text → MatchOption o (IsGrammarFault text fault) (IsTokenFault text fault) → ⊥
none_at text fault None e m x = x.broken.broken m
none_at text fault (Some t) e m x = absurd (cc)

pub modules_are_faultless : ModulesAreFaultless
modules_are_faultless text fault h m x = none_at text fault (find is_bad (tokens_of text)) h m x
