-- What `clap` makes of the command: its arguments, as it reads them, and of words alone.
use Rattle.std.proofs.Common.{◌≡◌, ℕ, Bool, true, false, not, List, [], ◌∷◌, map, refl, sym, ap, ◌∙◌, subst, Some, None, Result, Ok, Err, IfOk, if◌then◌else◌}
use Rattle.std.proofs.lemmas.Bool.{false≢true}
use Rattle.std.specs.List.{fold, list_all}
use Rattle.std.specs.Str.{bytes_eq}
use Rattle.std.proofs.lemmas.Slice.Eq.{bytes_eq-Decides}
use Rattle.clap.specs.Faults.{check_fault, defaults_fault, default_fault, settle_fault, turn_fault, use_fault, walk_fault}
use Rattle.clap.specs.Kinds.{Kinds, or_else}
use Rattle.clap.specs.Simple.{filled}
use Rattle.clap.specs.Walk.{Held, Walk, arg_by_id, arg_by_long, finished, has_row, nothing_held, settled, used, walk, walk_from, walked, with_default}
use Rattle.clap.specs.Words.{App, Row, Rule, Shape, HasMatchesOf, FailsBy, fault_of, found_of, is_simple, is_simple_and_free, matches_of, new_rule, rows_of}
use Rattle.clap.specs.declared.builder.action.ArgAction.{ArgAction}
use Rattle.clap.specs.declared.builder.action.ArgAction.TheVariants.{Set, SetTrue}
use Rattle.clap.specs.declared.error.Error.{Error}
use Rattle.clap.specs.declared.parser.matches.ArgMatches.{ArgMatches}
use Rattle.clap.proofs.FaultLemmas.{leaf_fault}
use Rattle.clap.proofs.WalkLemmas.{both}
use Rattle.vg_words.specs.Command.{action_for, app, bare, long_name}
use Rattle.vg_words.specs.Options.{is_flag, options}
use Rattle.vg_words.specs.declared.option.Opt.{Opt}
use Rattle.vg_words.specs.declared.option.Opt.TheVariants.{Mode, Spef, Lib, Verilog, Cons, Net, All, OutSpef, OutVerilog, Cert, Cap, Prefix, Size, Parts, Target, Widths}
use Rattle.vg_words.proofs.OptionLemmas.{one_flag, same_of_valued}

-- the matches of a simple command, by another name
pub matches_at : (a b : App) (words : List (List ℕ)) (r : Result ArgMatches Error) → a ≡ b → is_simple b ≡ true → IfOk r (HasMatchesOf a words)
    → IfOk r (λ m. rows_of (found_of m) ≡ matches_of b words)
matches_at a b words (Ok m) e simple h = (h (ap is_simple e ∙ simple)).0 ∙ ap (λ x. matches_of x words) e
matches_at a b words (Err fault) e simple h = tt

-- and the errors
pub fails_at : (a b : App) (words : List (List ℕ)) (r : Result ArgMatches Error) → a ≡ b → is_simple_and_free b ≡ true
    → (is_simple_and_free a ≡ true → FailsBy (fault_of a words) r) → FailsBy (fault_of b words) r
fails_at a b words r e free h = subst (λ x. FailsBy (fault_of x words) r) e (h (ap is_simple_and_free e ∙ free))

pub app-simple : is_simple app ≡ true
app-simple = refl

pub app-free : is_simple_and_free app ≡ true
app-free = refl

-- an argument as it is built
abbrev acting : ArgAction → Opt → Rule
acting action o = filled (record (new_rule (long_name o)) { long = Some (long_name o); action = Some action })

abbrev built : Opt → Rule
built o = acting (action_for o) o

-- that of an option with a value, and that of a flag
abbrev pub rule : Opt → Rule
rule o = acting Set o

abbrev pub flag_rule : Opt → Rule
flag_rule o = acting SetTrue o

abbrev pub rules : List Rule
rules = map built options

-- the command as it is built
abbrev pub shape : Shape
shape = record bare.top { rules = rules; disable_help_subcommand = true; is_built = true }

-- the argument of a name
pub by_id : (o : Opt) → is_flag o ≡ false → arg_by_id rules (long_name o) ≡ Some (rule o)
by_id = same_of_valued (λ o. arg_by_id rules (long_name o)) (λ o. Some (rule o)) None refl

pub by_long : (o : Opt) → is_flag o ≡ false → arg_by_long rules (long_name o) ≡ Some (rule o)
by_long = same_of_valued (λ o. arg_by_long rules (long_name o)) (λ o. Some (rule o)) None refl

pub flag_by_long : (o : Opt) → is_flag o ≡ true → arg_by_long rules (long_name o) ≡ Some (flag_rule o)
flag_by_long o e = subst (λ o. arg_by_long rules (long_name o) ≡ Some (flag_rule o)) (sym (one_flag o e)) refl

no_rule : (a : Rule) → None ≡ Some a → ⊥
no_rule a e = cc

-- a name that an argument has is the name of an option
abbrev pub IsKnown : List ℕ → Type 0
IsKnown name = (o : Opt) × (name ≡ long_name o)

long_in : (os : List Opt) (name : List ℕ) (a : Rule) → arg_by_long (map built os) name ≡ Some a → IsKnown name
long_in [] name a e = absurd (no_rule a e)
long_in (o ∷ os) name a e = go (bytes_eq (long_name o) name) refl (long_in os name a)
  where
    go : (b : Bool) → bytes_eq (long_name o) name ≡ b → (arg_by_long (map built os) name ≡ Some a → IsKnown name) → IsKnown name
    go true is later = (o, sym ((bytes_eq-Decides (long_name o) name).0 is))
    go false is later = later (sym (rw is refl) ∙ e)

pub long_known : (name : List ℕ) (a : Rule) → arg_by_long rules name ≡ Some a → IsKnown name
long_known name a e = long_in options name a e

-- an argument with a value has no default
no_default : (o : Opt) (rows : List Row) → with_default rows (rule o) ≡ rows
no_default o rows = go (has_row (long_name o) rows) refl
  where
    go : (b : Bool) → has_row (long_name o) rows ≡ b → with_default rows (rule o) ≡ rows
    go true is = rw is refl
    go false is = rw is refl

abbrev are_valued : List Opt → Bool
are_valued os = list_all (λ o. not (is_flag o)) os

no_flag : (b : Bool) → not b ≡ true → b ≡ false
no_flag true e = absurd (false≢true e)
no_flag false e = refl

no_defaults : (os : List Opt) (rows : List Row) → are_valued os ≡ true → fold with_default rows (map built os) ≡ rows
no_defaults [] rows e = refl
no_defaults (o ∷ os) rows e =
    let (first, more) = both (not (is_flag o)) (are_valued os) e in
    let is : with_default rows (built o) ≡ rows =
    ap (λ f. with_default rows (acting (if f then SetTrue else Set) o)) (no_flag (is_flag o) first) ∙ no_default o rows in
    ap (λ rs. fold with_default rs (map built os)) is ∙ no_defaults os rows more

-- the flag has one
abbrev pub with_flag : List Row → List Row
with_flag rows = with_default rows (flag_rule All)

abbrev before_flag : List Opt
before_flag = Mode ∷ Spef ∷ Lib ∷ Verilog ∷ Cons ∷ Net ∷ []

abbrev after_flag : List Opt
after_flag = OutSpef ∷ OutVerilog ∷ Cert ∷ Cap ∷ Prefix ∷ Size ∷ Parts ∷ Target ∷ Widths ∷ []

with_defaults : (rows : List Row) → fold with_default rows rules ≡ with_flag rows
with_defaults rows =
    ap (λ rs. fold with_default (with_flag rs) (map built after_flag)) (no_defaults before_flag rows refl) ∙ no_defaults after_flag (with_flag rows) refl

no_default_fault : (f : Bool) (o : Opt) (rows : List Row) → default_fault rows (acting (if f then SetTrue else Set) o) ≡ []
no_default_fault f o rows = go f (has_row (long_name o) rows) refl
  where
    go : (f b : Bool) → has_row (long_name o) rows ≡ b → default_fault rows (acting (if f then SetTrue else Set) o) ≡ []
    go true true is = rw is refl
    go true false is = rw is refl
    go false true is = rw is refl
    go false false is = rw is refl

no_default_faults : (os : List Opt) (rows : List Row) → defaults_fault rows (map built os) ≡ []
unfolding defaults_fault
no_default_faults [] rows = refl
no_default_faults (o ∷ os) rows =
    let later = with_default rows (built o) in
    ap (λ ks. or_else ks (defaults_fault later (map built os))) (no_default_fault (is_flag o) o rows) ∙ no_default_faults os later

-- ---- the walk over the words

abbrev pub next_walk : Walk → List ℕ → Walk
next_walk w word = walked rules [] w word

abbrev pub word_fault : Walk → List ℕ → Kinds
word_fault w word = turn_fault shape [] w word

-- what is found, once what is held is settled, and the fault of settling it
abbrev pub rows_in : Held → List Row
rows_in h = (settled rules h).rows

abbrev pub held_fault : Held → Kinds
held_fault h = settle_fault rules false h

-- the rows after an option and a value, and the fault of these
abbrev pub value_rows : Opt → List ℕ → List Row → List Row
value_rows o v rows = used (rule o) (v ∷ []) rows

abbrev pub value_fault : Opt → List ℕ → List Row → Kinds
value_fault o v rows = use_fault false (rule o) (v ∷ []) rows

-- the same after a flag
abbrev pub flag_rows : Opt → List Row → List Row
flag_rows o rows = used (flag_rule o) [] rows

abbrev pub flag_fault : Opt → List Row → Kinds
flag_fault o rows = use_fault false (flag_rule o) [] rows

-- the faults from a place of the walk on, and the rows at its end
abbrev pub faults : Walk → List (List ℕ) → Kinds
faults w words = or_else (walk_fault shape [] w words) (held_fault (fold next_walk w words).held)

abbrev pub rows_after : Walk → List (List ℕ) → List Row
rows_after w words = rows_in (fold next_walk w words).held

pub or_else-nil : (a : Kinds) → or_else a [] ≡ a
or_else-nil [] = refl
or_else-nil (k ∷ ks) = refl

-- the checks after the walk find nothing
end_fault : (h : Held)
    → or_else (held_fault h) (or_else (defaults_fault (rows_in h) rules) (check_fault shape (finished rules h) false)) ≡ held_fault h
end_fault h = ap (λ ks. or_else (held_fault h) (or_else ks [])) (no_default_faults options (rows_in h)) ∙ or_else-nil (held_fault h)

pub fault-walk : (words : List (List ℕ)) → fault_of app words ≡ faults (walk_from nothing_held) words
fault-walk words =
    leaf_fault (record { top = shape; subs = [] }) nothing_held words refl
    ∙ ap (or_else (walk_fault shape [] (walk_from nothing_held) words)) (end_fault (walk rules [] nothing_held words).held)

pub matches-walk : (words : List (List ℕ)) → matches_of app words ≡ with_flag (rows_after (walk_from nothing_held) words)
matches-walk words = with_defaults (rows_after (walk_from nothing_held) words)
