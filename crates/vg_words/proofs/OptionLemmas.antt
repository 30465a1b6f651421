-- The options, by their names and in words.
use Rattle.std.proofs.Common.{◌≡◌, ℕ, ◌<◌, Bool, true, false, cond, nat_lt, ltb-true, List, [], ◌∷◌, ◌++◌, map, length, get_or, refl, sym, ap, ◌∙◌, Option, Some, None, codes, subst}
use Rattle.std.proofs.lemmas.Bool.{eqb-true, false≢true}
use Rattle.std.proofs.lemmas.List.Folds.{list_all_at}
use Rattle.std.proofs.lemmas.Slice.Eq.{bytes_eq-Decides}
use Rattle.std.specs.List.{find, list_all}
use Rattle.std.specs.Str.{bytes_eq}
use Rattle.clap.specs.Lexer.{long_of}
use Rattle.vg_words.specs.Command.{long_name}
use Rattle.vg_words.specs.Options.{name_of, options, place_of, is_flag, is_same}
use Rattle.vg_words.specs.declared.option.Opt.{Opt}
use Rattle.vg_words.specs.declared.option.Opt.TheVariants.{Mode, Spef, Lib, Verilog, Cons, Net, All, OutSpef, OutVerilog, Cert, Cap, Prefix, Size, Parts, Target, Widths}

-- what holds of each option holds of all
pub each : (P : Opt → Type 0) → P Mode → P Spef → P Lib → P Verilog → P Cons → P Net → P All → P OutSpef → P OutVerilog
    → P Cert → P Cap → P Prefix → P Size → P Parts → P Target → P Widths → (option : Opt)
    → P option
each P mode spef lib verilog cons net all out_spef out_verilog cert cap prefix size parts target widths option =
    elim option as P [
      | Mode ↦ mode
      | Spef ↦ spef
      | Lib ↦ lib
      | Verilog ↦ verilog
      | Cons ↦ cons
      | Net ↦ net
      | All ↦ all
      | OutSpef ↦ out_spef
      | OutVerilog ↦ out_verilog
      | Cert ↦ cert
      | Cap ↦ cap
      | Prefix ↦ prefix
      | Size ↦ size
      | Parts ↦ parts
      | Target ↦ target
      | Widths ↦ widths
    ]

-- each option stands at its place in the list of options
at_place : {A : Type 0} (f : Opt → A) (d : A) (o : Opt) → get_or (map f options) (place_of o) d ≡ f o
at_place f d =
    each (λ o. get_or (map f options) (place_of o) d ≡ f o)
    refl refl refl refl refl refl refl refl refl refl refl refl refl refl refl refl

-- so what is the same over the list of options is the same of each
pub same_of_each : {A : Type 0} (f g : Opt → A) → map f options ≡ map g options → (o : Opt) → f o ≡ g o
same_of_each f g e o = sym (at_place f (f o) o) ∙ ap (λ xs. get_or xs (place_of o) (f o)) e ∙ at_place g (f o) o

-- and what is the same over the list but for flags is the same of each with a value
pub same_of_valued : {A : Type 0} (f g : Opt → A) (d : A)
    → map (λ o. cond (is_flag o) d (f o)) options ≡ map (λ o. cond (is_flag o) d (g o)) options
    → (o : Opt) → is_flag o ≡ false → f o ≡ g o
same_of_valued f g d e o valued =
    sym (ap (λ b. cond b d (f o)) valued) ∙ same_of_each (λ o. cond (is_flag o) d (f o)) (λ o. cond (is_flag o) d (g o)) e o
    ∙ ap (λ b. cond b d (g o)) valued

-- the words of an option
pub name-long : (o : Opt) → name_of o ≡ codes "--" ++ long_name o
name-long = same_of_each name_of (λ o. codes "--" ++ long_name o) refl

pub named : (o : Opt) → long_of (name_of o) ≡ Some (long_name o, None)
named = same_of_each (λ o. long_of (name_of o)) (λ o. Some (long_name o, None)) refl

pub joined : (v : List ℕ) (o : Opt) → long_of (name_of o ++ (codes "=" ++ v)) ≡ Some (long_name o, Some v)
joined v = same_of_each (λ o. long_of (name_of o ++ (codes "=" ++ v))) (λ o. Some (long_name o, Some v)) refl

-- an option is known by its name, and by its place
abbrev first_named : List ℕ → Option Opt
first_named name = find (λ o. bytes_eq (long_name o) name) options

found : (o : Opt) → first_named (long_name o) ≡ Some o
found = same_of_each (λ o. first_named (long_name o)) (λ o. Some o) refl

placed : (o : Opt) → get_or options (place_of o) Mode ≡ o
placed = same_of_each (λ o. get_or options (place_of o) Mode) (λ o. o) refl

within : (o : Opt) → place_of o < length options
within o = ltb-true (place_of o) (length options) (same_of_each (λ o. nat_lt (place_of o) (length options)) (λ _. true) refl o)

some_option : (a b : Opt) → Some a ≡ Some b → a ≡ b
some_option a b e = cc

pub one_option : (a b : Opt) → long_name a ≡ long_name b → a ≡ b
one_option a b e = some_option a b (sym (found a) ∙ ap first_named e ∙ found b)

-- options are the same as their names are
pub same_self : (o : Opt) → is_same o o ≡ true
same_self = same_of_each (λ o. is_same o o) (λ _. true) refl

pub same_option : (a b : Opt) → is_same a b ≡ true → a ≡ b
same_option a b e = sym (placed a) ∙ ap (λ i. get_or options i Mode) (eqb-true (place_of a) (place_of b) e) ∙ placed b

-- there is one flag
pub one_flag : (o : Opt) → is_flag o ≡ true → o ≡ All
one_flag o e = sym (same_option All o (same_of_each (is_same All) is_flag refl o ∙ e))

pub same-long : (a b : Opt) → bytes_eq (long_name a) (long_name b) ≡ is_same a b
same-long a b = go (bytes_eq (long_name a) (long_name b)) (is_same a b) refl refl
  where
    names : a ≡ b → bytes_eq (long_name a) (long_name b) ≡ true
    names e = (bytes_eq-Decides (long_name a) (long_name b)).1 (ap long_name e)

    options_are : bytes_eq (long_name a) (long_name b) ≡ true → is_same a b ≡ true
    options_are e = subst (λ o. is_same a o ≡ true) (one_option a b ((bytes_eq-Decides (long_name a) (long_name b)).0 e)) (same_self a)

    go : (x y : Bool) → bytes_eq (long_name a) (long_name b) ≡ x → is_same a b ≡ y → x ≡ y
    go true true p q = refl
    go false false p q = refl
    go true false p q = sym (options_are p) ∙ q
    go false true p q = sym p ∙ names (same_option a b q)

-- an option with a value has another name than the flag
pub other_name : (o : Opt) → is_flag o ≡ false → bytes_eq (long_name All) (long_name o) ≡ false
other_name = same_of_valued (λ o. bytes_eq (long_name All) (long_name o)) (λ _. false) false refl

-- a test of all options is one of each
pub all-each : (p : Opt → Bool) → list_all p options ≡ true → (o : Opt) → p o ≡ true
all-each p e o = go (p o) refl
  where
    go : (b : Bool) → p o ≡ b → b ≡ true
    go true is = refl
    go false is = absurd (false≢true (sym (list_all_at p options (place_of o) Mode (within o) (ap p (placed o) ∙ is)) ∙ e))

pub each-all : (p : Opt → Bool) → ((o : Opt) → p o ≡ true) → (os : List Opt) → list_all p os ≡ true
each-all p h [] = refl
each-all p h (o ∷ os) = rw (h o) (each-all p h os)
