-- A line without words, and the heading.
use Rattle.std.proofs.Common.{◌≡◌, ℕ, Bool, true, false, List, [], ◌∷◌, map, length, eqb, refl, sym, ap, ◌∙◌, subst, arith, is_some, if◌then◌else◌, Option, Some, None, Result, Ok, Err}
use Rattle.std.specs.Option.{option_or}
use Rattle.std.specs.Prelude.{codes}
use Rattle.std.specs.Str.{bytes_eq}
use Rattle.std.proofs.lemmas.Slice.Eq.{bytes_eq-Decides}
use Rattle.std.proofs.lemmas.Bool.Decides.{nat_tests}
use Rattle.vg_cons.specs.declared.fault.ConsKind.{ConsKind}
use Rattle.vg_cons.specs.declared.fault.ConsKind.TheVariants.{Word}
use Rattle.vg_cons.specs.declared.format.Format.{Format}
use Rattle.vg_cons.specs.Lines.{Line, has_words, format_of, heading_of}
use Rattle.vg_cons.specs.Statements.{Statement, default, required, arrival, want, drive, load, block, allow, block_box, statement_of}
use Rattle.vg_cons.specs.Rows.{Rows}
use Rattle.vg_cons.specs.Growth.{with_statement}
use Rattle.vg_cons.specs.Views.{Takes, TakesRow, Begins, IsFaultOrMemory}
use Rattle.vg_cons.specs.Faults.{fault_of_words}

pub no_words : {X : Type 0} (f : X → List ℕ) (xs : List X) → eqb (length xs) 0 ≡ true → map f xs ≡ []
no_words f [] e = refl
no_words f (x ∷ xs) e = absurd (grind (arith, nat_tests))

or_none : (format : Option Format) → format ≡ option_or format None
or_none None = refl
or_none (Some f) = refl

states_nothing : statement_of [] ≡ Err Word
unfolding statement_of
states_nothing = refl

empty_line : (old : Rows) → Takes (Ok tt) old old []
empty_line old = (refl, ap (λ (format : Option Format). record old { format = format }) (or_none old.format) ∙ ap (λ s. record (with_statement old s) { format = option_or old.format None }) (sym states_nothing))

-- a line without words
pub takes_empty : (old : Rows) (line : Line) → line ≡ [] → Takes (Ok tt) old old line
takes_empty old line e = subst (λ (l : Line). Takes (Ok tt) old old l) (sym e) (empty_line old)

some_if : (b : Bool) (format : Option Format) → is_some (if b then format else None) ≡ true → b ≡ true
some_if true format e = refl
some_if false format e = absurd (cc)

heading_states : (line : Line) → is_some (heading_of line) ≡ true → statement_of line ≡ Err Word
unfolding statement_of
heading_states [] e = absurd (cc)
heading_states (a ∷ []) e = absurd (cc)
heading_states (a ∷ b ∷ []) e =
    let k : a ≡ codes "vgcons" = (bytes_eq-Decides a (codes "vgcons")).0 (some_if (bytes_eq a (codes "vgcons")) (format_of b) e) in
    rw k refl
heading_states (a ∷ b ∷ c ∷ cs) e = absurd (cc)

heading_has_words : (line : Line) → is_some (heading_of line) ≡ true → has_words line ≡ true
heading_has_words [] e = absurd (cc)
heading_has_words (a ∷ rest) e = refl

pub some_words : {X : Type 0} (f : X → List ℕ) (xs : List X) → eqb (length xs) 0 ≡ false → has_words (map f xs) ≡ true
some_words f [] e = absurd (grind (arith, nat_tests))
some_words f (x ∷ xs) e = refl

-- the first line that has words
pub takes_first : (result : Result (Unit {0}) ConsKind) (heading : Option Format) (old new : Rows) (line : Line) → heading ≡ heading_of line
    → old.format ≡ None → has_words line ≡ true → Begins result old new heading → Takes result old new line
takes_first (Ok _) heading old new line is none w begun =
    let named : is_some (heading_of line) ≡ true = ap is_some (sym is) ∙ begun.0 in (
      rw (none, w) (rw named refl),
      begun.1 ∙ ap (λ (format : Option Format). record old { format = format }) is ∙ sym (
          ap (λ s. record (with_statement old s) { format = option_or old.format (heading_of line) }) (heading_states line named)
          ∙ ap (λ (format : Option Format). record old { format = option_or format (heading_of line) }) none),
    )
takes_first (Err kind) heading old new line is none w begun =
    let unnamed : is_some (heading_of line) ≡ false = ap is_some (sym is ∙ begun.0) in
    rw (begun.1, none, w) (rw unnamed refl)

-- a row changes no version
format_stays : (rows : Rows) (s : Result Statement ConsKind) → (with_statement rows s).format ≡ rows.format
format_stays rows (Err kind) = refl
format_stays rows (Ok (default t)) = refl
format_stays rows (Ok (required row)) = refl
format_stays rows (Ok (arrival row)) = refl
format_stays rows (Ok (want pin)) = refl
format_stays rows (Ok (drive row)) = refl
format_stays rows (Ok (load row)) = refl
format_stays rows (Ok (block node)) = refl
format_stays rows (Ok (allow row)) = refl
format_stays rows (Ok (block_box box)) = refl

-- another line that has words
pub takes_words : (result : Result (Unit {0}) ConsKind) (format : Format) (old new : Rows) (line : Line) → old.format ≡ Some format → has_words line ≡ true → TakesRow result format old new line → Takes result old new line
takes_words (Ok _) format old new line some w taken =
    let stays = format_stays old (statement_of line) ∙ some ∙ sym (ap (λ (f : Option Format). option_or f (heading_of line)) some) in (
      ap (λ (f : Option Format). if has_words line then fault_of_words f old line else None) some
          ∙ ap (λ b. if b then fault_of_words (Some format) old line else None) w ∙ taken.0,
      taken.1 ∙ ap (λ (f : Option Format). record (with_statement old (statement_of line)) { format = f }) stays,
    )
takes_words (Err kind) format old new line some w taken =
    let same = ap (λ (f : Option Format). if has_words line then fault_of_words f old line else None) some
    ∙ ap (λ b. if b then fault_of_words (Some format) old line else None) w in
    subst (λ fault. IsFaultOrMemory fault kind) (sym same) taken
