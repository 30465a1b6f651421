-- Kinds of tokens that a machine reads one after another.
use Rattle.std.proofs.Common.{◌≡◌, ℕ, Bool, true, false, ◌||◌, List, [], ◌∷◌, ◌++◌, Option, Some, None, is_some, map, refl, sym, ap, ◌∙◌, subst}
use Rattle.std.specs.List.{list_any}
use Rattle.std.specs.Prelude.{find}
use Rattle.grammar_laws.specs.Machines.{ways_of}
use Rattle.grammar_laws.specs.Ways.{IsLeft, after_any}
use Rattle.grammar_laws.proofs.MachineLemmas.{ended, cut}
use Rattle.grammar_laws.proofs.WayLemmas.{left_step}
use Rattle.ver_text.specs.declared.kind.Kind.{Kind}
use Rattle.ver_text.specs.declared.kind.Kind.TheVariants.{Stray}
use Rattle.ver_text.specs.declared.token.Token.{Token}
use Rattle.ver_text.specs.Kinds.{kind_in, kinds_of}
use Rattle.ver_text.specs.Tokens.{tokens_of}
use Rattle.ver_syntax.specs.declared.machine.Machine.{Machine}
use Rattle.ver_syntax.specs.declared.state.At.{At}
use Rattle.ver_syntax.specs.declared.state.Brace.{Brace}
use Rattle.ver_syntax.specs.Grammar.{is, rules, module_declaration}
use Rattle.ver_syntax.specs.Moves.{State, gives, ways, move, next, is_done, is_done_at}
use Rattle.ver_syntax.specs.Reading.{HasKinds, ways_on}
use Rattle.ver_syntax.specs.Syntax.{BeginNoModule, HasTokens, IsModule, is_bad}
use Rattle.ver_syntax.proofs.MoveLemmas.{machine}
use Rattle.ver_syntax.proofs.FaultLemmas.{no_stray}
use Rattle.ver_syntax.proofs.ReadLemmas.{stray}

-- ---- one kind more

is_stray : (k : Kind) → is Stray k ≡ true → k ≡ Stray
is_stray Stray e = refl
is_stray k e = absurd (cc)

any_last : (p : Kind → Bool) (ks : List Kind) (k : Kind) → list_any p ks ≡ false → p k ≡ false → list_any p (ks ++ k ∷ []) ≡ false
any_last p [] k none e = rw e refl
any_last p (j ∷ ks) k none e = by_first (p j) none (any_last p ks k)
  where
    by_first : (b : Bool) → (b || list_any p ks) ≡ false → (list_any p ks ≡ false → p k ≡ false → list_any p (ks ++ k ∷ []) ≡ false)
        → (b || list_any p (ks ++ k ∷ [])) ≡ false
    by_first true f rest = absurd (cc)
    by_first false f rest = rest f e

given_ways : (found : Option At) (bs : List Brace) → ways_of ways (gives found bs) ≡ ways_on found bs
given_ways None bs = refl
given_ways (Some at) bs = refl

-- the machine goes on, if it can
pub kinds_more : (kinds : List Kind) (k : Kind) (old new : Machine) (at : At) → HasKinds kinds old → old.at ≡ Some at
    → gives new.at new.braces ≡ move at k old.braces → HasKinds (kinds ++ k ∷ []) new
kinds_more kinds k old new at h e g =
    let s : State = record { at = at; open_braces = old.braces } in
    let left : IsLeft rules module_declaration kinds (ways s) = subst (λ (o : Option At). IsLeft rules module_declaration kinds (ways_on o old.braces)) e h.ways in
    let same : after_any rules (ways s) k ≡ ways_on new.at new.braces = sym (machine.moves s k) ∙ ap (ways_of ways) (sym g) ∙ given_ways new.at new.braces in
    record {
      ways = rw same at (left_step rules machine.proper module_declaration kinds k (ways s) left);
      tokens = λ some. any_last (is Stray) kinds k (h.tokens (ap is_some e)) (no_stray_read (is Stray k) refl some);
    }
  where
    no_stray_read : (b : Bool) → is Stray k ≡ b → is_some new.at ≡ true → b ≡ false
    no_stray_read false t some = refl
    no_stray_read true t some =
        let none : gives new.at new.braces ≡ None = g ∙ ap (λ j. move at j old.braces) (is_stray k t) ∙ no_stray at old.braces in
        absurd (given new.at new.braces none some)
      where
        given : (found : Option At) (bs : List Brace) → gives found bs ≡ None → is_some found ≡ true → ⊥
        given None bs n s = cc
        given (Some a) bs n s = cc

-- it stays where it cannot
pub kinds_stuck : (kinds : List Kind) (k : Kind) (m : Machine) → HasKinds kinds m → m.at ≡ None → HasKinds (kinds ++ k ∷ []) m
kinds_stuck kinds k m h e =
    let left : IsLeft rules module_declaration kinds [] = subst (λ (o : Option At). IsLeft rules module_declaration kinds (ways_on o m.braces)) e h.ways in
    record {
      ways = subst (λ (o : Option At). IsLeft rules module_declaration (kinds ++ k ∷ []) (ways_on o m.braces)) (sym e) (left_step rules machine.proper module_declaration kinds k [] left);
      tokens = λ some. absurd (let t = ap is_some e in cc);
    }

-- no module goes on from there
pub stuck_nowhere : (kinds : List Kind) (m : Machine) → HasKinds kinds m → is_some m.at ≡ false → BeginNoModule kinds
stuck_nowhere kinds m h e = λ rest d. by_place m.at e h.ways rest d
  where
    by_place : (o : Option At) → is_some o ≡ false → IsLeft rules module_declaration kinds (ways_on o m.braces) → BeginNoModule kinds
    by_place None f left = λ rest d. left.derives rest d
    by_place (Some at) f left = absurd (cc)

-- ---- a whole text

good_tokens : (text : List ℕ) (ts : List Token) → list_any (is Stray) (map (kind_in text) ts) ≡ false → find is_bad ts ≡ None
good_tokens text [] e = refl
good_tokens text (t ∷ ts) e = by_test (is_bad t) refl (good_tokens text ts)
  where
    tail : (b : Bool) → is Stray (kind_in text t) ≡ b → list_any (is Stray) (map (kind_in text) ts) ≡ false
    tail false f = rw f at e
    tail true f = absurd (let x : true ≡ false = rw f at e in cc)

    by_test : (b : Bool) → is_bad t ≡ b → (list_any (is Stray) (map (kind_in text) ts) ≡ false → find is_bad ts ≡ None) → find is_bad (t ∷ ts) ≡ None
    by_test false f rest = rw f (rest (tail (is Stray (kind_in text t)) refl))
    by_test true f rest =
        let s : is Stray (kind_in text t) ≡ true = ap (is Stray) (stray text t f) in
        absurd (let x : true ≡ false = rw s at e in cc)

pub module_read : (text : List ℕ) (m : Machine) (at : At) → HasKinds (kinds_of text) m → m.at ≡ Some at → is_done_at at ≡ true → HasTokens text × IsModule text
module_read text m at h e done =
    let s : State = record { at = at; open_braces = m.braces } in
    let left : IsLeft rules module_declaration (kinds_of text) (ways s) = subst (λ (o : Option At). IsLeft rules module_declaration (kinds_of text) (ways_on o m.braces)) e h.ways in
    (good_tokens text (tokens_of text) (h.tokens (ap is_some e)), ended rules ways next is_done machine module_declaration (kinds_of text) s left done)

pub no_module_read : (text : List ℕ) (m : Machine) (at : At) → HasKinds (kinds_of text) m → m.at ≡ Some at → is_done_at at ≡ false → IsModule text → ⊥
no_module_read text m at h e done =
    let s : State = record { at = at; open_braces = m.braces } in
    let left : IsLeft rules module_declaration (kinds_of text) (ways s) = subst (λ (o : Option At). IsLeft rules module_declaration (kinds_of text) (ways_on o m.braces)) e h.ways in
    (cut rules ways next is_done machine module_declaration (kinds_of text) s left done).broken
