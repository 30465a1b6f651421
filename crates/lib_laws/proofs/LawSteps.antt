-- The statements of a text, as steps over the groups that are open and the name read last.
use Rattle.std.proofs.Common.{◌≡◌, ℕ, ◌+◌, ◌≤◌, ◌==◌, Bool, true, false, List, [], ◌∷◌, ◌++◌, refl, sym, ap, ◌∙◌, arith, subst}
use Rattle.std.specs.List.{All}
use Rattle.std.specs.Bool.{⊤}
use Rattle.std.proofs.lemmas.List.Elements.{All-cons, All-nil}
use Rattle.lib_text.specs.declared.token.Token.{Token}
use Rattle.lib_text.specs.declared.token.TokenKind.TheVariants.{Word, Value, List as IsList, Broken, Mark}
use Rattle.lib_text.specs.declared.statement.Statement.{Statement}
use Rattle.lib_text.specs.Tokens.{token}
use Rattle.lib_text.specs.Statements.{top, pop, open_after, statements_from, statements_of}
use Rattle.lib_laws.proofs.TokenSteps.{ByToken, by_tokens}

-- These statements come next, given the groups that are open and the name read last: one stands in the innermost group
-- and has this name; a group of this name opens; the innermost ends; and a name is read that stands further on.
pub data Steps : List ℕ → ℕ → List Statement → Type 0 where
  ends : {groups : List ℕ} {name : ℕ} → Steps groups name []
  adds : {groups : List ℕ} {name : ℕ} {s : Statement} {ss : List Statement}
      → s.group ≡ top groups → s.name ≡ name → Steps groups name ss → Steps groups name (s ∷ ss)
  opens : {groups : List ℕ} {name : ℕ} {ss : List Statement} → Steps (name ∷ groups) name ss → Steps groups name ss
  closes : {groups : List ℕ} {name : ℕ} {ss : List Statement} → Steps (pop groups) name ss → Steps groups name ss
  reads : {groups : List ℕ} {name : ℕ} {ss : List Statement} (next : ℕ) → name ≤ next → Steps groups next ss → Steps groups name ss

-- ---- the statements of a text are such steps

-- whatever is open, and whichever name up to here was read last
abbrev pub FromHere : ℕ → List Token → Type 0
FromHere at ts = (groups : List ℕ) (name : ℕ) → name ≤ at → Steps groups name (statements_from groups name ts)

nothing_left : (at : ℕ) → FromHere at []
unfolding statements_from
nothing_left at groups name l = ends

by_word : (at to : ℕ) (ts : List Token) → FromHere (at + 1) ts → FromHere at (token Word at to ∷ ts)
unfolding statements_from
by_word at to ts h groups name l = reads at l (h groups at (omega arith))

by_mark : (at b : ℕ) (ts : List Token) → FromHere (at + 1) ts → FromHere at (token (Mark b) at (at + 1) ∷ ts)
unfolding statements_from
by_mark at b ts h groups name l = by_tests (b == 123) (b == 125) refl refl
  where
    by_tests : (x y : Bool) → (b == 123) ≡ x → (b == 125) ≡ y → Steps groups name (statements_from (open_after (Mark b) groups name) name ts)
    by_tests true y e f = rw e (opens (h (name ∷ groups) name (omega arith)))
    by_tests false true e f = rw (e, f) (closes (h (pop groups) name (omega arith)))
    by_tests false false e f = rw (e, f) (h groups name (omega arith))

by_value : (at from to : ℕ) (ts : List Token) → FromHere at ts → FromHere at (token Value from to ∷ ts)
unfolding statements_from
by_value at from to ts h groups name l = adds refl refl (h groups name l)

by_list : (at from to : ℕ) (ts : List Token) → FromHere at ts → FromHere at (token IsList from to ∷ ts)
unfolding statements_from
by_list at from to ts h groups name l = adds refl refl (h groups name l)

by_broken : (at from to : ℕ) (ts : List Token) → FromHere at ts → FromHere at (token Broken from to ∷ ts)
unfolding statements_from
by_broken at from to ts h groups name l = h groups name l

each_token : ByToken FromHere
each_token = record {
  none = nothing_left;
  later = λ at ts h groups name l. h groups name (omega arith);
  word = by_word;
  mark = by_mark;
  value = by_value;
  list = by_list;
  broken = by_broken;
}

pub steps_of : (text : List ℕ) → Steps [] 0 (statements_of text)
steps_of text = by_tokens FromHere each_token 0 0 text [] 0 (omega arith)

-- ---- a statement, and those after it

-- each group that is open began where the one around it began, or further on, and none further on than this
abbrev pub Falls : ℕ → List ℕ → Type 0
Falls high [] = ⊤
Falls high (g ∷ gs) = (g ≤ high) × Falls g gs

pub falls_more : (low high : ℕ) (groups : List ℕ) → low ≤ high → Falls low groups → Falls high groups
falls_more low high [] l f = f
falls_more low high (g ∷ gs) l (f, fs) = (omega arith, fs)

pub falls_pop : (high : ℕ) (groups : List ℕ) → Falls high groups → Falls high (pop groups)
falls_pop high [] f = f
falls_pop high (g ∷ gs) (f, fs) = falls_more g high gs f fs

-- the statements after one, from where its name was read last
pub record Follow (head : Statement) (after : List Statement) : Type 0 where
  pub groups : List ℕ
  pub falls : Falls head.name groups
  pub steps : Steps groups head.name after

follow : {groups : List ℕ} {name : ℕ} {all : List Statement} (before : List Statement) (head : Statement) (after : List Statement)
    → Steps groups name all → Falls name groups → all ≡ before ++ head ∷ after → Follow head after
follow [] head after ends f e = absurd (cc)
follow (b ∷ before) head after ends f e = absurd (cc)
follow {groups} {name} [] head after (adds {s} {ss} g n k) f e =
    let x : s ≡ head = cc in
    let y : ss ≡ after = cc in
    let m : name ≡ head.name = sym n ∙ ap (λ (t : Statement). t.name) x in
    record { groups = groups; falls = subst (λ p. Falls p groups) m f; steps = subst (λ p. Steps groups p after) m (subst (λ ts. Steps groups name ts) y k) }
follow (b ∷ before) head after (adds {s} {ss} g n k) f e = let y : ss ≡ before ++ head ∷ after = cc in follow before head after k f y
follow {groups} {name} before head after (opens k) f e = follow before head after k (omega arith, f) e
follow {groups} {name} before head after (closes k) f e = follow before head after k (falls_pop name groups f) e
follow {groups} {name} before head after (reads next l k) f e = follow before head after k (falls_more name next groups l f) e

pub follow_in : (text : List ℕ) (before : List Statement) (head : Statement) (after : List Statement)
    → statements_of text ≡ before ++ head ∷ after → Follow head after
follow_in text before head after e = follow before head after (steps_of text) tt e

-- ---- names rise

rises : {groups : List ℕ} {name : ℕ} {all : List Statement} (low : ℕ) → low ≤ name → Steps groups name all → All (λ (s : Statement). low ≤ s.name) all
rises low l ends = All-nil (λ (s : Statement). low ≤ s.name)
rises low l (adds {s} {ss} g n k) = All-cons (λ (s : Statement). low ≤ s.name) s ss (omega (arith, n)) (rises low l k)
rises low l (opens k) = rises low l k
rises low l (closes k) = rises low l k
rises low l (reads next m k) = rises low (omega arith) k

pub names_rise : (text : List ℕ) (before : List Statement) (head : Statement) (after : List Statement)
    → statements_of text ≡ before ++ head ∷ after → All (λ (s : Statement). head.name ≤ s.name) after
names_rise text before head after e = let f = follow_in text before head after e in rises head.name (omega arith) f.steps
