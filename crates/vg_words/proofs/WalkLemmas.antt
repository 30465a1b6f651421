-- What `clap` does at one word.
use Rattle.std.proofs.Common.{◌≡◌, ℕ, ◌||◌, Bool, true, false, List, [], ◌∷◌, ◌++◌, map, refl, sym, ap, ◌∙◌, Option, Some, None, append-nil, codes, if◌then◌else◌}
use Rattle.std.proofs.lemmas.Bool.{true≢false}
use Rattle.std.proofs.lemmas.List.{map-append}
use Rattle.std.specs.Option.{option_map_or}
use Rattle.std.specs.Str.{bytes_eq}
use Rattle.clap.specs.Faults.{long_fault, option_fault, react_fault, step_fault, use_fault}
use Rattle.clap.specs.Kinds.{Kinds, or_else}
use Rattle.clap.specs.Lexer.{long_of}
use Rattle.clap.specs.Walk.{Held, Step, Walk, after_step, arg_by_long, at_row, has_row, idle, long_word, more_values, option, plain_word, reacted, settled, takes_values, used_by_id, walk_from, walked, with_values, without, word_met}
use Rattle.clap.specs.Words.{Row, Rule}
use Rattle.clap.specs.declared.builder.value_parser.Reading.TheVariants.{AsWritten}
use Rattle.clap.specs.declared.error.kind.ErrorKind.{ErrorKind}
use Rattle.clap.specs.declared.error.kind.ErrorKind.TheVariants.{ArgumentConflict, InvalidValue, TooManyValues, UnknownArgument}
use Rattle.clap.specs.declared.parser.matches.ValueSource.TheVariants.{CommandLine}
use Rattle.vg_words.specs.Command.{long_name}
use Rattle.vg_words.specs.Options.{is_flag}
use Rattle.vg_words.specs.Request.{Setting}
use Rattle.vg_words.specs.declared.option.Opt.{Opt}
use Rattle.vg_words.proofs.OptionLemmas.{same-long, same_self}
use Rattle.vg_words.proofs.CommandLemmas.{flag_rule, rule, rules, shape, by_id, by_long, flag_by_long, flag_fault, flag_rows, held_fault, next_walk, or_else-nil, rows_in, value_fault, value_rows, word_fault}
use Rattle.vg_words.proofs.WordLemmas.{IsPlain, Long, ends_none}

pub some_kind : (k : ErrorKind) (ks : Kinds) → k ∷ ks ≡ [] → ⊥
some_kind k ks e = cc

pub none_else : (a b : Kinds) → or_else a b ≡ [] → (a ≡ []) × (b ≡ [])
none_else [] b e = (refl, e)
none_else (k ∷ ks) b e = absurd (some_kind k ks e)

-- what is held after the name of an option, and after its value
abbrev pub named_held : Opt → Held → Held
named_held o h = record (settled rules h) { pending = Some (long_name o, []) }

abbrev pub valued_held : Opt → List ℕ → Held → Held
valued_held o v h = record (settled rules h) { pending = Some (long_name o, v ∷ []) }

-- and after both in one word
abbrev pub joined_held : Opt → List ℕ → Held → Held
joined_held o v h = reacted rules (rule o) (v ∷ []) h

-- and after a flag
abbrev pub flag_held : Opt → Held → Held
flag_held o h = reacted rules (flag_rule o) [] h

-- the walk waits for the value of an option
abbrev pub waiting_for : Opt → Held → Walk
waiting_for o h = record (walk_from h) { waiting = option (long_name o) }

-- ---- a long word

long_met : (h : Held) (word : List ℕ) (p : Long) → long_of word ≡ Some p → word_met rules [] false idle 1 word h ≡ long_word rules idle word p.0 p.1 h
long_met h word p e = rw (ends_none word p e, e) refl

abbrev stepped : Held → List ℕ → Held × Step → Walk
stepped h word met = after_step rules word (walk_from h) met.0 met.1

pub named_step : (h : Held) (o : Opt) (word : List ℕ) → is_flag o ≡ false → long_of word ≡ Some (long_name o, None)
    → next_walk (walk_from h) word ≡ waiting_for o (named_held o h)
unfolding walked
named_step h o word valued e = ap (stepped h word) (long_met h word (long_name o, None) e) ∙ rw (by_long o valued) refl

pub joined_step : (h : Held) (o : Opt) (v word : List ℕ) → is_flag o ≡ false → long_of word ≡ Some (long_name o, Some v)
    → next_walk (walk_from h) word ≡ walk_from (joined_held o v h)
unfolding walked
joined_step h o v word valued e = ap (stepped h word) (long_met h word (long_name o, Some v) e) ∙ rw (by_long o valued) refl

pub flag_step : (h : Held) (o : Opt) (word : List ℕ) → is_flag o ≡ true → long_of word ≡ Some (long_name o, None)
    → next_walk (walk_from h) word ≡ walk_from (flag_held o h)
unfolding walked
flag_step h o word flag e = ap (stepped h word) (long_met h word (long_name o, None) e) ∙ rw (flag_by_long o flag) refl

-- its fault is that of the argument, or of what it comes to
abbrev pub fault_at : Held → Long → Kinds
fault_at h p = long_fault rules false (arg_by_long rules p.0) p.1 h

abbrev met_fault : Held × Step → Kinds
met_fault met = step_fault shape 1 met.0 met.1

long_turn : (h : Held) (word : List ℕ) (p : Long) → long_of word ≡ Some p
    → word_fault (walk_from h) word ≡ or_else (fault_at h p) (met_fault (long_word rules idle word p.0 p.1 h))
long_turn h word p e = rw (ends_none word p e, e) refl

pub long_passes : (h : Held) (word : List ℕ) (p : Long) → long_of word ≡ Some p → word_fault (walk_from h) word ≡ [] → fault_at h p ≡ []
long_passes h word p e turn = (none_else _ _ (sym (long_turn h word p e) ∙ turn)).0

pub waiting_passes : (o : Opt) (h : Held) (word : List ℕ) (p : Long) → long_of word ≡ Some p → word_fault (waiting_for o h) word ≡ []
    → fault_at h p ≡ []
waiting_passes o h word p e turn =
    let met = long_word rules (option (long_name o)) word p.0 p.1 h in
    let is : word_fault (waiting_for o h) word ≡ or_else (fault_at h p) (met_fault met) = rw (ends_none word p e, e) refl in
    (none_else _ _ (sym is ∙ turn)).0

pub named_turn : (h : Held) (o : Opt) (word : List ℕ) → is_flag o ≡ false → long_of word ≡ Some (long_name o, None)
    → word_fault (walk_from h) word ≡ held_fault h
named_turn h o word valued e = long_turn h word (long_name o, None) e ∙ rw (by_long o valued) (or_else-nil (held_fault h))

pub joined_turn : (h : Held) (o : Opt) (v word : List ℕ) → is_flag o ≡ false → long_of word ≡ Some (long_name o, Some v)
    → word_fault (walk_from h) word ≡ or_else (held_fault h) (value_fault o v (rows_in h))
joined_turn h o v word valued e =
    long_turn h word (long_name o, Some v) e ∙ rw (by_long o valued) (or_else-nil (or_else (held_fault h) (value_fault o v (rows_in h))))

pub flag_turn : (h : Held) (o : Opt) (word : List ℕ) → is_flag o ≡ true → long_of word ≡ Some (long_name o, None)
    → word_fault (walk_from h) word ≡ or_else (held_fault h) (flag_fault o (rows_in h))
flag_turn h o word flag e =
    long_turn h word (long_name o, None) e ∙ rw (flag_by_long o flag) (or_else-nil (or_else (held_fault h) (flag_fault o (rows_in h))))

-- a flag with a value fails
pub flag_valued : (h : Held) (o : Opt) (v : List ℕ) → is_flag o ≡ true → fault_at h (long_name o, Some v) ≡ TooManyValues ∷ []
flag_valued h o v flag = rw (flag_by_long o flag) refl

-- a long word that passes is no value: what was read before it is settled, and passes
pub long_settles : (found : Option Rule) (v : Option (List ℕ)) (h : Held) → long_fault rules false found v h ≡ [] → held_fault h ≡ []
long_settles None v h e = absurd (some_kind UnknownArgument [] e)
long_settles (Some a) v h e = go (takes_values a) refl v e
  where
    valued : (v : Option (List ℕ)) → option_fault rules false a v h ≡ [] → held_fault h ≡ []
    valued None e = e
    valued (Some v) e = (none_else _ _ e).0

    go : (b : Bool) → takes_values a ≡ b → (v : Option (List ℕ)) → long_fault rules false (Some a) v h ≡ [] → held_fault h ≡ []
    go true is v e = valued v (sym (rw is refl) ∙ e)
    go false is None e = let fault : react_fault rules false a [] h ≡ [] = sym (rw is refl) ∙ e in (none_else _ _ fault).0
    go false is (Some v) e = let fault : TooManyValues ∷ [] ≡ [] = sym (rw is refl) ∙ e in absurd (some_kind TooManyValues [] fault)

-- ---- a value

value_met : (o : Opt) (h : Held) (v : List ℕ) → IsPlain v
    → word_met rules [] false (option (long_name o)) 1 v h ≡ plain_word rules (option (long_name o)) v h
value_met o h v p = rw (p.ends_none, p.no_long, p.no_short) refl

pub value_step : (h : Held) (o : Opt) (v : List ℕ) → is_flag o ≡ false → IsPlain v
    → next_walk (waiting_for o (named_held o h)) v ≡ walk_from (valued_held o v h)
unfolding walked
value_step h o v valued p =
    ap (λ (met : Held × Step). after_step rules v (waiting_for o (named_held o h)) met.0 met.1) (value_met o (named_held o h) v p)
    ∙ rw (by_id o valued, same-long o o, same_self o) refl

pub value_turn : (h : Held) (o : Opt) (v : List ℕ) → IsPlain v → word_fault (waiting_for o h) v ≡ []
value_turn h o v p = rw (p.ends_none, p.no_long, p.no_short) refl

-- a value that no option waits for
pub stray_turn : (h : Held) (v : List ℕ) → IsPlain v → word_fault (walk_from h) v ≡ UnknownArgument ∷ []
stray_turn h v p = rw (p.ends_none, p.no_long, p.no_short) refl

-- ---- a setting

-- what the matches keep of it: for a flag the text `true`
abbrev row_with : Opt → List ℕ → Row
row_with o text = record { id = long_name o; values = text ∷ []; count = None; source = Some CommandLine; reading = AsWritten }

abbrev pub shown : Opt → List ℕ → List ℕ
shown o v = if is_flag o then codes "true" else v

abbrev pub row : Setting → Row
row (o, v) = row_with o (shown o v)

pub shown_flag : (o : Opt) (v : List ℕ) → is_flag o ≡ true → shown o v ≡ codes "true"
shown_flag o v e = ap (λ b. if b then codes "true" else v) e

pub shown_value : (o : Opt) (v : List ℕ) → is_flag o ≡ false → shown o v ≡ v
shown_value o v e = ap (λ b. if b then codes "true" else v) e

pub none_or : (a b : Bool) → (a || b) ≡ false → (a ≡ false) × (b ≡ false)
none_or false b e = (refl, e)
none_or true b e = absurd (true≢false e)

pub at_row-missing : (id : List ℕ) (change : Row → List Row) (missing rows : List Row) → has_row id rows ≡ false
    → at_row id change missing rows ≡ rows ++ missing
at_row-missing id change missing [] e = refl
at_row-missing id change missing (r ∷ rs) e =
    let (first, later) = none_or (bytes_eq r.id id) (has_row id rs) e in
    rw first (ap (λ (all : List Row). r ∷ all) (at_row-missing id change missing rs later))

used-row : (o : Opt) (text : List ℕ) (rows : List Row) → has_row (long_name o) rows ≡ false
    → with_values (long_name o) AsWritten CommandLine (text ∷ []) (without (long_name o) rows) ≡ rows ++ row_with o text ∷ []
used-row o text rows fresh =
    ap (with_values (long_name o) AsWritten CommandLine (text ∷ [])) (at_row-missing (long_name o) (λ _. []) [] rows fresh ∙ append-nil rows)
    ∙ at_row-missing (long_name o) (more_values CommandLine (text ∷ [])) (row_with o text ∷ []) rows fresh

-- the rows after an option that was not used before
abbrev pub one_row : List Row → Setting → List Row
one_row rows s = rows ++ row s ∷ []

pub value-row : (o : Opt) (v : List ℕ) (rows : List Row) → is_flag o ≡ false → has_row (long_name o) rows ≡ false
    → value_rows o v rows ≡ one_row rows (o, v)
value-row o v rows valued fresh = used-row o v rows fresh ∙ ap (λ text. rows ++ row_with o text ∷ []) (sym (shown_value o v valued))

pub flag-row : (o : Opt) (v : List ℕ) (rows : List Row) → is_flag o ≡ true → has_row (long_name o) rows ≡ false
    → flag_rows o rows ≡ one_row rows (o, v)
flag-row o v rows flag fresh = used-row o (codes "true") rows fresh ∙ ap (λ text. rows ++ row_with o text ∷ []) (sym (shown_flag o v flag))

pub rows_more : (h after : Held) (before : List Setting) (o : Opt) (v : List ℕ) → rows_in after ≡ one_row (rows_in h) (o, v)
    → rows_in h ≡ map row before → rows_in after ≡ map row (before ++ (o, v) ∷ [])
rows_more h after before o v e at = e ∙ ap (λ rs. one_row rs (o, v)) at ∙ sym (map-append row before ((o, v) ∷ []))

-- a use fails where the option was used before, and only there
pub fresh_use : (o : Opt) (v : List ℕ) (rows : List Row) → has_row (long_name o) rows ≡ false → value_fault o v rows ≡ []
fresh_use o v rows e = rw e refl

pub use_fresh : (o : Opt) (v : List ℕ) (rows : List Row) → value_fault o v rows ≡ [] → has_row (long_name o) rows ≡ false
use_fresh o v rows e = go (has_row (long_name o) rows) refl
  where
    go : (b : Bool) → has_row (long_name o) rows ≡ b → b ≡ false
    go false is = refl
    go true is = let fault : ArgumentConflict ∷ [] ≡ [] = sym (rw is refl) ∙ e in absurd (some_kind ArgumentConflict [] fault)

pub fresh_flag : (o : Opt) (rows : List Row) → has_row (long_name o) rows ≡ false → flag_fault o rows ≡ []
fresh_flag o rows e = rw e refl

pub flag_fresh : (o : Opt) (rows : List Row) → flag_fault o rows ≡ [] → has_row (long_name o) rows ≡ false
flag_fresh o rows e = go (has_row (long_name o) rows) refl
  where
    go : (b : Bool) → has_row (long_name o) rows ≡ b → b ≡ false
    go false is = refl
    go true is = let fault : ArgumentConflict ∷ [] ≡ [] = sym (rw is refl) ∙ e in absurd (some_kind ArgumentConflict [] fault)

-- what is held after a value, once it is settled
pub valued_rows : (h : Held) (o : Opt) (v : List ℕ) → is_flag o ≡ false → rows_in (valued_held o v h) ≡ value_rows o v (rows_in h)
valued_rows h o v valued = ap (λ (a : Option Rule). used_by_id a (v ∷ []) (rows_in h)) (by_id o valued)

pub valued_passes : (h : Held) (o : Opt) (v : List ℕ) → is_flag o ≡ false → held_fault (valued_held o v h) ≡ value_fault o v (rows_in h)
valued_passes h o v valued = ap (λ (a : Option Rule). option_map_or (λ b. use_fault false b (v ∷ []) (rows_in h)) a []) (by_id o valued)

-- a name without a value fails
pub named_fails : (h : Held) (o : Opt) → is_flag o ≡ false → held_fault (named_held o h) ≡ InvalidValue ∷ []
named_fails h o valued = ap (λ (a : Option Rule). option_map_or (λ b. use_fault false b [] (rows_in h)) a []) (by_id o valued)
