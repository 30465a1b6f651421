-- One line of a text after another.
use Rattle.std.proofs.Common.{◌≡◌, ℕ, ◌+◌, ◌<◌, Bool, true, false, ◌||◌, is_some, if◌then◌else◌, filter_map, List, [], ◌∷◌, ◌++◌, map, length, take, get_or, refl, sym, ap, ◌∙◌, arith, Option, Some, None, ◌⊎◌, inl, inr, Result, Ok, Err}
use Rattle.std.proofs.lemmas.List.{append-nil}
use Rattle.std.proofs.lemmas.List.Elements.{filter_map-append}
use Rattle.std.specs.Option.{option_or}
use Rattle.std.specs.List.{before_first, list_any, cons_option}
use Rattle.std.specs.Str.Lines.{lines}
use Rattle.vg_scan.specs.Lines.{words}
use Rattle.vg_scan.specs.Faults.{IsClear, IsFirstFault}
use Rattle.vg_scan.proofs.FaultLemmas.{first_fault}
use Rattle.vg_cons.specs.declared.fault.ConsKind.{ConsKind}
use Rattle.vg_cons.specs.declared.fault.ConsKind.TheVariants.{Version, Word, Number, Twice, Memory}
use Rattle.vg_cons.specs.declared.format.Format.{Format}
use Rattle.vg_cons.specs.Lines.{Line, lines_of, is_hash, has_words, heading_of}
use Rattle.vg_cons.specs.Statements.{Statement, default, required, arrival, want, drive, load, block, allow, block_box, statement_of}
use Rattle.vg_cons.specs.Rows.{Rows, rows_of, first_of, stated, default_in, required_in, arrival_in, want_in, drive_in, load_in, block_in, allow_in, box_in}
use Rattle.vg_cons.specs.Growth.{no_rows, with_statement, with_line}
use Rattle.vg_cons.specs.Faults.{fault_of_words, fault_after, fault_of, fault_at}
use Rattle.vg_cons.specs.Views.{IsFaultOrMemory}

abbrev pub line_words : List ℕ → Line
line_words line = words (before_first is_hash line)

known : (fault : Option ConsKind) (kind : ConsKind) → IsFaultOrMemory fault kind → (kind ≡ Memory) ⊎ (fault ≡ Some kind)
known fault Memory h = inl refl
known fault Version h = inr h
known fault Word h = inr h
known fault Twice h = inr h
known fault (Number f) h = inr h

-- the lines of a text, from its first line on
pub lines_first : (text more line : List ℕ) → lines text ≡ line ∷ lines more → lines_of text ≡ line_words line ∷ lines_of more
unfolding lines_of
lines_first text more line e = ap (map line_words) e

pub lines_none : (text : List ℕ) → lines text ≡ [] → lines_of text ≡ []
unfolding lines_of
lines_none text e = ap (map line_words) e

-- the first faulty line, from what is known of the lines before it
pub first_cons_fault : (ls : List Line) (n : ℕ) (line : Line) (kind : ConsKind) → n < length ls → get_or ls n [] ≡ line → IsClear (fault_at ls) n
    → IsFaultOrMemory (fault_of (take n ls) line) kind → (kind ≡ Memory) ⊎ IsFirstFault (fault_at ls) (length ls) 1 (record { kind = kind; line = n + 1 })
first_cons_fault ls n line kind l e clear f =
    elim (known (fault_of (take n ls) line) kind f) [
      | inl memory ↦ inl memory
      | inr fault ↦ inr (first_fault (fault_at ls) (length ls) 1 n (n + 1) kind clear (ap (fault_of (take n ls)) e ∙ fault) l (omega arith))
    ]

or_assoc : (a b c : Bool) → (a || (b || c)) ≡ ((a || b) || c)
or_assoc true b c = refl
or_assoc false b c = refl

or_false : (b : Bool) → (b || false) ≡ b
or_false true = refl
or_false false = refl

any-last : (p : Line → Bool) (ls : List Line) (line : Line) → list_any p (ls ++ line ∷ []) ≡ (list_any p ls || p line)
any-last p [] line = or_false (p line)
any-last p (l ∷ ls) line = ap (λ b. p l || b) (any-last p ls line) ∙ or_assoc (p l) (list_any p ls) (p line)

is_a_heading : (b : Bool) → (if b then None else Some Version) ≡ None → b ≡ true
is_a_heading true e = refl
is_a_heading false e = absurd (cc)

-- a line without a fault that has words leaves a version
with_version : (format : Option Format) (rows : Rows) (line : Line) → (if has_words line then fault_of_words format rows line else None) ≡ None
    → is_some (option_or format (heading_of line)) ≡ (is_some format || has_words line)
with_version None rows [] e = refl
with_version (Some f) rows [] e = refl
with_version None rows (word ∷ words) e = is_a_heading (is_some (heading_of (word ∷ words))) e
with_version (Some f) rows (word ∷ words) e = refl

-- whether a line has words, one line later
pub started_more : (before : List Line) (line : Line) (after : List Line) (old new : Rows) → after ≡ before ++ line ∷ []
    → is_some old.format ≡ list_any has_words before → fault_after old line ≡ None → new ≡ with_line old line → is_some new.format ≡ list_any has_words after
started_more before line after old new is s clear e =
    ap (λ (rows : Rows). is_some rows.format) e ∙ with_version old.format old line clear ∙ ap (λ b. b || has_words line) s
    ∙ sym (ap (list_any has_words) is ∙ any-last has_words before line)

first_of-append : {A : Type 0} (xs ys : List A) → first_of (xs ++ ys) ≡ option_or (first_of xs) (first_of ys)
first_of-append [] ys = refl
first_of-append (x ∷ xs) ys = refl

or_none : {A : Type 0} (o : Option A) → option_or o None ≡ o
or_none None = refl
or_none (Some x) = refl

first_of-option : {A : Type 0} (o : Option A) → first_of (cons_option o []) ≡ o
first_of-option None = refl
first_of-option (Some x) = refl

-- the rows, with what one line gives of each kind
abbrev rows_with : Rows → Option Format → Result Statement ConsKind → Rows
rows_with rows heading s = record {
  format = option_or rows.format (first_of (cons_option heading []));
  default = option_or rows.default (first_of (cons_option (default_in s) []));
  required = rows.required ++ cons_option (required_in s) [];
  arrival = rows.arrival ++ cons_option (arrival_in s) [];
  want = rows.want ++ cons_option (want_in s) [];
  drive = rows.drive ++ cons_option (drive_in s) [];
  load = rows.load ++ cons_option (load_in s) [];
  block = rows.block ++ cons_option (block_in s) [];
  allow = rows.allow ++ cons_option (allow_in s) [];
  boxes = rows.boxes ++ cons_option (box_in s) [];
}

abbrev given : Rows → Option Format → Result Statement ConsKind → Rows
given rows heading s = record (with_statement rows s) { format = option_or rows.format heading }

rows_with-with : (rows : Rows) (heading : Option Format) (s : Result Statement ConsKind) → rows_with rows heading s ≡ given rows heading s
rows_with-with rows heading (Err kind) = simp (append-nil, or_none, first_of-option)
rows_with-with rows heading (Ok (default t)) = simp (append-nil, first_of-option)
rows_with-with rows heading (Ok (required row)) = simp (append-nil, or_none, first_of-option)
rows_with-with rows heading (Ok (arrival row)) = simp (append-nil, or_none, first_of-option)
rows_with-with rows heading (Ok (want pin)) = simp (append-nil, or_none, first_of-option)
rows_with-with rows heading (Ok (drive row)) = simp (append-nil, or_none, first_of-option)
rows_with-with rows heading (Ok (load row)) = simp (append-nil, or_none, first_of-option)
rows_with-with rows heading (Ok (block node)) = simp (append-nil, or_none, first_of-option)
rows_with-with rows heading (Ok (allow row)) = simp (append-nil, or_none, first_of-option)
rows_with-with rows heading (Ok (block_box box)) = simp (append-nil, or_none, first_of-option)

stated-last : {A : Type 0} (kind : Result Statement ConsKind → Option A) (before : List Line) (line : Line) → stated kind (before ++ line ∷ []) ≡ stated kind before ++ cons_option (kind (statement_of line)) []
stated-last kind before line = filter_map-append (λ l. kind (statement_of l)) before (line ∷ [])

heading-last : (before : List Line) (line : Line) → filter_map heading_of (before ++ line ∷ []) ≡ filter_map heading_of before ++ cons_option (heading_of line) []
heading-last before line = filter_map-append heading_of before (line ∷ [])

rows_of-last : (before : List Line) (line : Line) → rows_of (before ++ line ∷ []) ≡ rows_with (rows_of before) (heading_of line) (statement_of line)
unfolding rows_of
rows_of-last before line = λ i. record {
  format = (ap first_of (heading-last before line) ∙ first_of-append (filter_map heading_of before) (cons_option (heading_of line) [])) i;
  default = (ap first_of (stated-last default_in before line) ∙ first_of-append (stated default_in before) (cons_option (default_in (statement_of line)) [])) i;
  required = stated-last required_in before line i;
  arrival = stated-last arrival_in before line i;
  want = stated-last want_in before line i;
  drive = stated-last drive_in before line i;
  load = stated-last load_in before line i;
  block = stated-last block_in before line i;
  allow = stated-last allow_in before line i;
  boxes = stated-last box_in before line i;
}

-- the rows, one line later
pub rows_more : (before : List Line) (line : Line) (after : List Line) (old new : Rows) → after ≡ before ++ line ∷ []
    → old ≡ rows_of before → new ≡ with_line old line → new ≡ rows_of after
rows_more before line after old new is o e =
    e ∙ ap (λ rows. with_line rows line) o ∙ sym (ap rows_of is ∙ rows_of-last before line ∙ rows_with-with (rows_of before) (heading_of line) (statement_of line))

-- the fault of a line, from what is known of those before it
pub fault_of-after : (before : List Line) (line : Line) (rows : Rows) → rows ≡ rows_of before → fault_of before line ≡ fault_after rows line
unfolding fault_of
fault_of-after before line rows r = sym (ap (λ x. fault_after x line) r)

pub no_rows_yet : no_rows ≡ rows_of []
unfolding rows_of
no_rows_yet = refl
