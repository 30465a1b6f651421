-- What the machine tells of a token that is not allowed.
use Rattle.std.proofs.Common.{◌≡◌, Bool, true, false, ◌&&◌, ◌||◌, not, List, [], ◌∷◌, ◌++◌, Option, Some, None, is_some, refl, sym, ◌∙◌, inl, inr, if◌then◌else◌}
use Rattle.grammar_laws.specs.Grammar.{Begins}
use Rattle.grammar_laws.specs.Ways.{IsLeft}
use Rattle.grammar_laws.proofs.MachineLemmas.{would, would_not}
use Rattle.ver_syntax.specs.Grammar.{is, rules, module_declaration}
use Rattle.ver_syntax.specs.Moves.{State, ways, ways_at, move, next, is_done, is_cell, is_pins, is_named, is_opened, pins_kind, fault_kind}
use Rattle.ver_syntax.specs.Syntax.{ends_in, NamesInstance, OpensPins, IsWrongIn, IsWrongAt}
use Rattle.ver_syntax.proofs.MoveLemmas.{machine}
use Rattle.ver_syntax.proofs.TableLemmas.{both_true, each_move, each_state}
use Rattle.ver_text.specs.declared.kind.Kind.{Kind}
use Rattle.ver_text.specs.declared.kind.Kind.TheVariants.{Module, Parameter, Identifier, Open, Dot, Hash, EndModule, Stray}
use Rattle.ver_syntax.specs.declared.fault.VerKind.TheVariants.{Positional, Parameter as OfParameter, Grammar as OfGrammar}
use Rattle.ver_syntax.specs.declared.state.Brace.{Brace}
use Rattle.ver_syntax.specs.declared.state.At.{At}

-- two tests agree
unfoldable pub agrees : Bool → Bool → Bool
agrees true b = b
agrees false b = not b

pub agree : (a b : Bool) → agrees a b ≡ true → a ≡ b
unfolding agrees
agree true true e = refl
agree true false e = absurd (cc)
agree false true e = absurd (cc)
agree false false e = refl

-- a state, if any, is one after an identifier or a `(` where the token is one
abbrev told : Option State → Kind → Bool
told None k = true
told (Some s) k = agrees (is_named s.at) (is Identifier k) && agrees (is_opened s.at) (is Open k)

move_told : (at : At) (k : Kind) (bs : List Brace) → told (move at k bs) k ≡ true
unfolding agrees
move_told = each_move (λ at k bs. told (move at k bs) k) (λ bs. refl)

-- after a token the machine stands after an identifier or a `(` where the token is one
module _ (at : At) (k : Kind) (bs : List Brace) (s : State) (e : move at k bs ≡ Some s) where
  after : (agrees (is_named s.at) (is Identifier k) ≡ true) × (agrees (is_opened s.at) (is Open k) ≡ true)
  after = both_true (agrees (is_named s.at) (is Identifier k)) (agrees (is_opened s.at) (is Open k)) (rw e at (move_told at k bs))

  pub named_after : is_named s.at ≡ is Identifier k
  named_after = agree (is_named s.at) (is Identifier k) after.0

  pub opened_after : is_opened s.at ≡ is Open k
  opened_after = agree (is_opened s.at) (is Open k) after.1

-- ---- what is wrong

never : (b : Bool) → not b ≡ true → b ≡ false
never true e = absurd (cc)
never false e = refl

-- after an identifier no second one is allowed but in an instance
no_name : (at : At) (bs : List Brace) → (is_named at && not (is_cell at) && is_some (move at Identifier bs)) ≡ false
no_name at bs = never _ (each_state (λ a braces. not (is_named a && not (is_cell a) && is_some (move a Identifier braces))) (λ braces. refl) at bs)

-- what is no token is allowed nowhere
pub no_stray : (at : At) (bs : List Brace) → move at Stray bs ≡ None
no_stray at bs = nothing (move at Stray bs) (never _ (each_state (λ a braces. not (is_some (move a Stray braces))) (λ braces. refl) at bs))
  where
    nothing : (o : Option State) → is_some o ≡ false → o ≡ None
    nothing None e = refl
    nothing (Some s) e = absurd (cc)

-- after a `(` no `.` is allowed but in an instance
no_pins : (at : At) (bs : List Brace) → (is_opened at && not (is_pins at) && is_some (move at Dot bs)) ≡ false
no_pins at bs = never _ (each_state (λ a braces. not (is_opened a && not (is_pins a) && is_some (move a Dot braces))) (λ braces. refl) at bs)

at_pins : (at : At) (bs : List Brace) → (not (is_pins at) || (is_opened at && is_some (move at Dot bs))) ≡ true
at_pins = each_state (λ a braces. not (is_pins a) || (is_opened a && is_some (move a Dot braces))) (λ braces. refl)

at_cell : (at : At) (bs : List Brace) → (not (is_cell at) || (is_named at && is_some (move at Identifier bs))) ≡ true
at_cell = each_state (λ a braces. not (is_cell a) || (is_named a && is_some (move a Identifier braces))) (λ braces. refl)

module _ (before : List Kind) (at : At) (bs : List Brace) (left : IsLeft rules module_declaration before (ways_at at bs)) (e : ends_in Identifier before ≡ is_named at)
    (o : ends_in Open before ≡ is_opened at) where
  abbrev s : State
  s = record { at = at; open_braces = bs }

  allowed : (k : Kind) (o : Option State) → move at k bs ≡ o → is_some o ≡ true → Begins rules module_declaration (before ++ k ∷ [])
  allowed k None f h = absurd (cc)
  allowed k (Some n) f h = would rules ways next is_done machine module_declaration before k s n left f

  refused : (k : Kind) (o : Option State) → move at k bs ≡ o → Begins rules module_declaration (before ++ k ∷ []) → is_some o ≡ true
  refused k None f b = absurd (would_not rules ways next is_done machine module_declaration before k s left f b)
  refused k (Some n) f b = refl

  names_cell : NamesInstance before → is_cell at ≡ false → ⊥
  names_cell h f =
      let n : is_named at ≡ true = sym e ∙ h.cell in
      let m : is_some (move at Identifier bs) ≡ true = refused Identifier (move at Identifier bs) refl h.name in
      let t = no_name at bs in
      let x : true ≡ false = rw (n, f, m) at t in absurd (cc)

  opens_pins : OpensPins before → is_pins at ≡ false → ⊥
  opens_pins h f =
      let n : is_opened at ≡ true = sym o ∙ h.bracket in
      let m : is_some (move at Dot bs) ≡ true = refused Dot (move at Dot bs) refl h.pin in
      let t = no_pins at bs in
      let x : true ≡ false = rw (n, f, m) at t in absurd (cc)

  opened : is_pins at ≡ true → OpensPins before
  opened f =
      let h = both_true (is_opened at) (is_some (move at Dot bs)) (rw f at (at_pins at bs)) in
      record {
        bracket = o ∙ h.0;
        pin = allowed Dot (move at Dot bs) refl h.1;
      }

  named : is_cell at ≡ true → NamesInstance before
  named f =
      let h = both_true (is_named at) (is_some (move at Identifier bs)) (rw f at (at_cell at bs)) in
      record {
        cell = e ∙ h.0;
        name = allowed Identifier (move at Identifier bs) refl h.1;
      }

  wrong_pins : (k : Kind) → ((k ≡ Hash) × NamesInstance before → ⊥) → IsWrongIn before k (pins_kind at)
  wrong_pins k unnamed = by_test (is_pins at) refl
    where
      by_test : (t : Bool) → is_pins at ≡ t → IsWrongIn before k (if t then Positional else OfGrammar)
      by_test true f = inr (inl (refl, opened f))
      by_test false f = inr (inr (refl, unnamed, λ h. opens_pins h f))

  wrong_hash : IsWrongIn before Hash (if is_cell at then OfParameter else pins_kind at)
  wrong_hash = by_test (is_cell at) refl
    where
      by_test : (t : Bool) → is_cell at ≡ t → IsWrongIn before Hash (if t then OfParameter else pins_kind at)
      by_test true f = inl (refl, refl, named f)
      by_test false f = wrong_pins Hash (λ h. names_cell h.1 f)

  -- what is wrong with a token that is not allowed
  pub wrong_at : (k : Kind) (ks : List Kind) → IsWrongAt before (k ∷ ks) (fault_kind at k)
  wrong_at Module ks = refl
  wrong_at Parameter ks = refl
  wrong_at Hash ks = wrong_hash
  wrong_at EndModule ks = wrong_pins EndModule (λ h. absurd (cc))
  wrong_at k ks = wrong_pins k (λ h. absurd (cc))
