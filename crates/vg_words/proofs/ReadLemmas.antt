-- `clap` takes the words that are settings, with the values that they have, and no other words of their form.
use Rattle.std.proofs.Common.{◌≡◌, ℕ, Bool, true, false, List, [], ◌∷◌, ◌++◌, map, refl, sym, ap, ap₂, ◌∙◌, subst, arith, Option, Some, None, Result, Ok, Err, codes, inl, inr, append-nil, append_assoc}
use Rattle.std.proofs.lemmas.Bool.{true≢false}
use Rattle.std.specs.List.{fold, list_all, list_any}
use Rattle.std.specs.Result.{IsErrAnd}
use Rattle.std.specs.Str.Parse.{starts_with_minus}
use Rattle.clap.specs.Faults.{long_fault, walk_fault}
use Rattle.clap.specs.Kinds.{HasKind, IsAmong, Kinds, or_else}
use Rattle.clap.specs.Lexer.{long_of}
use Rattle.clap.specs.Walk.{Held, Walk, arg_by_long, has_row, nothing_held, walk_from}
use Rattle.clap.specs.Values.{bool_text}
use Rattle.clap.specs.Words.{Rule, fault_of, first_of, found_of, kind_of, matches_of, one_of, one_text, rows_of}
use Rattle.clap.specs.declared.error.kind.ErrorKind.{ErrorKind}
use Rattle.clap.specs.declared.error.kind.ErrorKind.TheVariants.{InvalidValue, OutOfMemory, TooManyValues, UnknownArgument}
use Rattle.clap.specs.declared.error.Error.{Error}
use Rattle.clap.specs.declared.parser.matches.Found.{Found}
use Rattle.clap.proofs.WalkLemmas.{both, first_value-rows, one_text-rows}
use Rattle.vg_words.specs.Command.{app, fault_for, is_value_or_long, long_name}
use Rattle.vg_words.specs.Options.{name_of, is_flag}
use Rattle.vg_words.specs.Request.{Setting, Spells, AreSpelled, AreUnread, Sets, flag_value, is_of, value_of}
use Rattle.vg_words.specs.Views.{AreValues, Gives, given_by}
use Rattle.vg_words.specs.declared.ask.WordFault.{WordFault}
use Rattle.vg_words.specs.declared.given.Given.{Given}
use Rattle.vg_words.specs.declared.option.Opt.{Opt}
use Rattle.vg_words.specs.declared.option.Opt.TheVariants.{All}
use Rattle.vg_words.proofs.OptionLemmas.{joined, named, one_flag}
use Rattle.vg_words.proofs.SpellingLemmas.{flag_set}
use Rattle.vg_words.proofs.CommandLemmas.{rules, shape, fault-walk, faults, held_fault, long_known, matches-walk, next_walk, rows_after, rows_in, with_flag, word_fault}
use Rattle.vg_words.proofs.WordLemmas.{Long, joined_word, long_form, named_word, plain, value_form, value_or_long}
use Rattle.vg_words.proofs.WalkLemmas.{fault_at, flag-row, flag_fresh, flag_held, flag_step, flag_turn, flag_valued, fresh_flag, fresh_use, joined_held, joined_step, joined_turn, long_passes, long_settles, named_fails, named_held, named_step, named_turn, none_else, one_row, row, rows_more, some_kind, stray_turn, use_fresh, value-row, value_step, value_turn, valued_held, valued_passes, valued_rows, waiting_for, waiting_passes}
use Rattle.vg_words.proofs.OnceLemmas.{AreOnce, flag_found, fresh_before, from_once, has_row-row, once_more, to_once, value_found}

or_else-assoc : (a b c : Kinds) → or_else (or_else a b) c ≡ or_else a (or_else b c)
or_else-assoc [] b c = refl
or_else-assoc (k ∷ ks) b c = refl

-- the walk, word by word
faults-nil : (w : Walk) → faults w [] ≡ held_fault w.held
unfolding walk_fault
faults-nil w = refl

faults-cons : (w : Walk) (word : List ℕ) (rest : List (List ℕ))
    → faults w (word ∷ rest) ≡ or_else (word_fault w word) (faults (next_walk w word) rest)
unfolding walk_fault
faults-cons w word rest =
    let next = next_walk w word in
    or_else-assoc (word_fault w word) (walk_fault shape [] next rest) (held_fault (fold next_walk next rest).held)

-- where words are taken, so is the first one, and then the rest
first_taken : (w : Walk) (word : List ℕ) (rest : List (List ℕ)) → faults w (word ∷ rest) ≡ []
    → (word_fault w word ≡ []) × (faults (next_walk w word) rest ≡ [])
first_taken w word rest e = none_else _ _ (sym (faults-cons w word rest) ∙ e)

-- ---- words that are settings are taken

record IsAt (h : Held) (before : List Setting) : Type 0 where
  passes : held_fault h ≡ []
  rows : rows_in h ≡ map row before

record Reads (h : Held) (words : List (List ℕ)) (settings : List Setting) : Type 0 where
  taken : faults (walk_from h) words ≡ []
  rows : rows_after (walk_from h) words ≡ map row settings

fresh_at : (h : Held) (before : List Setting) (o : Opt) (v : List ℕ) (ss : List Setting) → IsAt h before → AreOnce (before ++ (o, v) ∷ ss)
    → has_row (long_name o) (rows_in h) ≡ false
fresh_at h before o v ss at once = ap (has_row (long_name o)) at.rows ∙ has_row-row o before ∙ fresh_before before o v ss once

reads : (ss : List Setting) (words : List (List ℕ)) (h : Held) (before : List Setting) → AreSpelled words ss → IsAt h before → AreOnce (before ++ ss)
    → Reads h words (before ++ ss)
reads [] words h before e at once = record {
  taken = ap (faults (walk_from h)) e ∙ faults-nil (walk_from h) ∙ at.passes;
  rows = ap (rows_after (walk_from h)) e ∙ at.rows ∙ ap (map row) (sym (append-nil before));
}
reads ((o, v) ∷ ss) words h before (rest, inl (flag, (e, empty)), more) at once =
    let step = flag_step h o (name_of o) flag (named o) in
    let fresh = fresh_at h before o v ss at once in
    let after = flag_held o h in
    let next : IsAt after (before ++ (o, v) ∷ []) =
    record { passes = refl; rows = rows_more h after before o v (flag-row o v (rows_in h) flag fresh) at.rows } in
    let later = reads ss rest after (before ++ (o, v) ∷ []) more next (subst AreOnce (sym (append_assoc before ((o, v) ∷ []) ss)) once) in
    record {
      taken = ap (faults (walk_from h)) e ∙ faults-cons (walk_from h) (name_of o) rest
          ∙ ap₂ or_else (flag_turn h o (name_of o) flag (named o) ∙ ap₂ or_else at.passes (fresh_flag o (rows_in h) fresh)) (ap (λ w. faults w rest) step)
          ∙ later.taken;
      rows = ap (rows_after (walk_from h)) e ∙ ap (λ w. rows_after w rest) step ∙ later.rows ∙ ap (map row) (append_assoc before ((o, v) ∷ []) ss);
    }
reads ((o, v) ∷ ss) words h before (rest, inr (valued, inl (e, bare)), more) at once =
    let p = plain v bare in
    let step = named_step h o (name_of o) valued (named o) in
    let fresh = fresh_at h before o v ss at once in
    let after = valued_held o v h in
    let next : IsAt after (before ++ (o, v) ∷ []) = record {
      passes = valued_passes h o v valued ∙ fresh_use o v (rows_in h) fresh;
      rows = rows_more h after before o v (valued_rows h o v valued ∙ value-row o v (rows_in h) valued fresh) at.rows;
    } in
    let later = reads ss rest after (before ++ (o, v) ∷ []) more next (subst AreOnce (sym (append_assoc before ((o, v) ∷ []) ss)) once) in
    record {
      taken = ap (faults (walk_from h)) e ∙ faults-cons (walk_from h) (name_of o) (v ∷ rest)
          ∙ ap₂ or_else (named_turn h o (name_of o) valued (named o) ∙ at.passes) (ap (λ w. faults w (v ∷ rest)) step)
          ∙ faults-cons (waiting_for o (named_held o h)) v rest
          ∙ ap₂ or_else (value_turn (named_held o h) o v p) (ap (λ w. faults w rest) (value_step h o v valued p)) ∙ later.taken;
      rows = ap (rows_after (walk_from h)) e ∙ ap (λ w. rows_after w (v ∷ rest)) step ∙ ap (λ w. rows_after w rest) (value_step h o v valued p) ∙ later.rows
          ∙ ap (map row) (append_assoc before ((o, v) ∷ []) ss);
    }
reads ((o, v) ∷ ss) words h before (rest, inr (valued, inr e), more) at once =
    let word = name_of o ++ (codes "=" ++ v) in
    let step = joined_step h o v word valued (joined v o) in
    let fresh = fresh_at h before o v ss at once in
    let after = joined_held o v h in
    let next : IsAt after (before ++ (o, v) ∷ []) =
    record { passes = refl; rows = rows_more h after before o v (value-row o v (rows_in h) valued fresh) at.rows } in
    let later = reads ss rest after (before ++ (o, v) ∷ []) more next (subst AreOnce (sym (append_assoc before ((o, v) ∷ []) ss)) once) in
    record {
      taken = ap (faults (walk_from h)) e ∙ faults-cons (walk_from h) word rest
          ∙ ap₂ or_else (joined_turn h o v word valued (joined v o) ∙ ap₂ or_else at.passes (fresh_use o v (rows_in h) fresh))
          (ap (λ w. faults w rest) step)
          ∙ later.taken;
      rows = ap (rows_after (walk_from h)) e ∙ ap (λ w. rows_after w rest) step ∙ later.rows ∙ ap (map row) (append_assoc before ((o, v) ∷ []) ss);
    }

-- ---- words that are taken are settings

abbrev AreReadable : List (List ℕ) → Type 0
AreReadable words = list_all is_value_or_long words ≡ true

first_readable : (word : List ℕ) (rest : List (List ℕ)) → AreReadable (word ∷ rest) → (is_value_or_long word ≡ true) × AreReadable rest
first_readable word rest ok = both (is_value_or_long word) (list_all is_value_or_long rest) ok

no_stray : (h : Held) (word : List ℕ) → starts_with_minus word ≡ false → word_fault (walk_from h) word ≡ [] → ⊥
no_stray h word bare e = some_kind UnknownArgument [] (sym (stray_turn h word (plain word bare)) ∙ e)

-- whatever is taken next, what is held passes
settles : (words : List (List ℕ)) (h : Held) → AreReadable words → faults (walk_from h) words ≡ [] → held_fault h ≡ []
settles [] h ok e = sym (faults-nil (walk_from h)) ∙ e
settles (word ∷ rest) h ok e =
    let (turn, _) = first_taken (walk_from h) word rest e in
    elim (value_or_long word (first_readable word rest ok).0) [
      | inl bare ↦ absurd (no_stray h word bare turn)
      | inr (p, is) ↦ long_settles (arg_by_long rules p.0) p.1 h (long_passes h word p is turn)
    ]

-- the words are taken after some settings
record AreTaken (h : Held) (before : List Setting) (words : List (List ℕ)) : Type 0 where
  readable : AreReadable words
  taken : faults (walk_from h) words ≡ []
  rows : rows_in h ≡ map row before

-- the words spell settings, of which none sets an option again
record Finds (before : List Setting) (words : List (List ℕ)) : Type 0 where
  settings : List Setting
  spelled : AreSpelled words settings
  once : AreOnce before → AreOnce (before ++ settings)

-- wherever the words are taken, they do
abbrev AreFound : List (List ℕ) → Type 0
AreFound words = (h : Held) (before : List Setting) → AreTaken h before words → Finds before words

abbrev AreFoundLater : List (List ℕ) → Type 0
AreFoundLater [] = Unit {0}
AreFoundLater (word ∷ rest) = AreFound rest

-- one more setting
record IsMore (h after : Held) (o : Opt) (v : List ℕ) (rest : List (List ℕ)) : Type 0 where
  readable : AreReadable rest
  taken : faults (walk_from after) rest ≡ []
  fresh : has_row (long_name o) (rows_in h) ≡ false
  rows : rows_in after ≡ one_row (rows_in h) (o, v)

one_more : (h after : Held) (before : List Setting) (o : Opt) (v : List ℕ) (words rest : List (List ℕ)) → Spells words (o, v) rest → AreFound rest
    → rows_in h ≡ map row before → IsMore h after o v rest → Finds before words
one_more h after before o v words rest spells later at more =
    let unset : list_any (is_of o) before ≡ false = sym (has_row-row o before) ∙ sym (ap (has_row (long_name o)) at) ∙ more.fresh in
    let next : AreTaken after (before ++ (o, v) ∷ []) rest = record {
      readable = more.readable;
      taken = more.taken;
      rows = rows_more h after before o v more.rows at;
    } in
    let found = later after (before ++ (o, v) ∷ []) next in
    record {
      settings = (o, v) ∷ found.settings;
      spelled = (rest, spells, found.spelled);
      once = λ once. subst AreOnce (append_assoc before ((o, v) ∷ []) found.settings) (found.once (once_more before o v once unset));
    }

-- the name of an option, and then its value
named_found : (o : Opt) (word : List ℕ) (rest : List (List ℕ)) → is_flag o ≡ false → word ≡ name_of o → AreFoundLater rest → (h : Held)
    (before : List Setting) → AreReadable rest → faults (waiting_for o (named_held o h)) rest ≡ [] → rows_in h ≡ map row before
    → Finds before (word ∷ rest)
named_found o word [] valued is later h before ok e at =
    absurd (some_kind InvalidValue [] (sym (named_fails h o valued) ∙ sym (faults-nil (waiting_for o (named_held o h))) ∙ e))
named_found o word (v ∷ rest) valued is later h before ok e at =
    let (turn, more) = first_taken (waiting_for o (named_held o h)) v rest e in
    let (ok_v, ok_rest) = first_readable v rest ok in
    elim (value_or_long v ok_v) [
      | inl bare ↦
          let spells : Spells (word ∷ v ∷ rest) (o, v) rest = inr (valued, inl (ap (λ (x : List ℕ). x ∷ v ∷ rest) is, bare)) in
          let taken = sym (ap (λ w. faults w rest) (value_step h o v valued (plain v bare))) ∙ more in
          let fresh = use_fresh o v (rows_in h) (sym (valued_passes h o v valued) ∙ settles rest (valued_held o v h) ok_rest taken) in
          one_more h (valued_held o v h) before o v (word ∷ v ∷ rest) rest spells later at (record {
            readable = ok_rest;
            taken = taken;
            fresh = fresh;
            rows = valued_rows h o v valued ∙ value-row o v (rows_in h) valued fresh;
          })
      | inr (p, long) ↦
          let held = long_settles (arg_by_long rules p.0) p.1 (named_held o h) (waiting_passes o (named_held o h) v p long turn) in
          absurd (some_kind InvalidValue [] (sym (named_fails h o valued) ∙ held))
    ]

-- a word that names an option with a value, and what is after it
value_word : (o : Opt) (value : Option (List ℕ)) (word : List ℕ) (rest : List (List ℕ)) → is_flag o ≡ false → long_of word ≡ Some (long_name o, value)
    → AreFound rest → AreFoundLater rest → AreFound (word ∷ rest)
value_word o None word rest valued is one two h before at =
    let (_, more) = first_taken (walk_from h) word rest at.taken in
    let taken = sym (ap (λ w. faults w rest) (named_step h o word valued is)) ∙ more in
    named_found o word rest valued (named_word word o is) two h before (first_readable word rest at.readable).1 taken at.rows
value_word o (Some v) word rest valued is one two h before at =
    let (turn, more) = first_taken (walk_from h) word rest at.taken in
    let spells : Spells (word ∷ rest) (o, v) rest = inr (valued, inr (ap (λ (x : List ℕ). x ∷ rest) (joined_word word o v is))) in
    let fresh = use_fresh o v (rows_in h) (none_else _ _ (sym (joined_turn h o v word valued is) ∙ turn)).1 in
    one_more h (joined_held o v h) before o v (word ∷ rest) rest spells one at.rows (record {
      readable = (first_readable word rest at.readable).1;
      taken = sym (ap (λ w. faults w rest) (joined_step h o v word valued is)) ∙ more;
      fresh = fresh;
      rows = value-row o v (rows_in h) valued fresh;
    })

-- a word that names a flag
flag_word : (o : Opt) (value : Option (List ℕ)) (word : List ℕ) (rest : List (List ℕ)) → is_flag o ≡ true → long_of word ≡ Some (long_name o, value)
    → AreFound rest → AreFound (word ∷ rest)
flag_word o None word rest flag is one h before at =
    let (turn, more) = first_taken (walk_from h) word rest at.taken in
    let spells : Spells (word ∷ rest) (o, []) rest = inl (flag, (ap (λ (x : List ℕ). x ∷ rest) (named_word word o is), refl)) in
    let fresh = flag_fresh o (rows_in h) (none_else _ _ (sym (flag_turn h o word flag is) ∙ turn)).1 in
    one_more h (flag_held o h) before o [] (word ∷ rest) rest spells one at.rows (record {
      readable = (first_readable word rest at.readable).1;
      taken = sym (ap (λ w. faults w rest) (flag_step h o word flag is)) ∙ more;
      fresh = fresh;
      rows = flag-row o [] (rows_in h) flag fresh;
    })
flag_word o (Some v) word rest flag is one h before at =
    let (turn, _) = first_taken (walk_from h) word rest at.taken in
    absurd (some_kind TooManyValues [] (sym (flag_valued h o v flag) ∙ long_passes h word (long_name o, Some v) is turn))

option_found : (o : Opt) (value : Option (List ℕ)) (word : List ℕ) (rest : List (List ℕ)) → long_of word ≡ Some (long_name o, value)
    → AreFound rest → AreFoundLater rest → AreFound (word ∷ rest)
option_found o value word rest is one two = go (is_flag o) refl
  where
    go : (b : Bool) → is_flag o ≡ b → AreFound (word ∷ rest)
    go true flag = flag_word o value word rest flag is one
    go false valued = value_word o value word rest valued is one two

word_found : (word : List ℕ) (rest : List (List ℕ)) → AreFound rest → AreFoundLater rest → AreFound (word ∷ rest)
word_found word rest one two h before at =
    let (turn, _) = first_taken (walk_from h) word rest at.taken in
    elim (value_or_long word (first_readable word rest at.readable).0) [
      | inl bare ↦ absurd (no_stray h word bare turn)
      | inr (p, is) ↦ known p is (arg_by_long rules p.0) refl (long_passes h word p is turn)
    ]
  where
    known : (p : Long) → long_of word ≡ Some p → (found : Option Rule) → arg_by_long rules p.0 ≡ found → fault_at h p ≡ [] → Finds before (word ∷ rest)
    known p is None none fault =
        absurd (some_kind UnknownArgument [] (ap (λ (a : Option Rule). long_fault rules false a p.1 h) (sym none) ∙ fault))
    known p is (Some a) some fault =
        let (o, name) = long_known p.0 a some in
        option_found o p.1 word rest (is ∙ ap (λ (x : List ℕ). Some (x, p.1)) name) one two h before at

none_found : AreFound []
none_found h before at = record {
  settings = [];
  spelled = refl;
  once = λ once. subst AreOnce (sym (append-nil before)) once;
}

found : (words : List (List ℕ)) → AreFound words
found [] = none_found
found (word ∷ []) = word_found word [] none_found tt
found (word ∷ next ∷ rest) = word_found word (next ∷ rest) (found (next ∷ rest)) (found rest)

-- ---- what the program reads

starts : IsAt nothing_held []
starts = record { passes = refl; rows = refl }

set_reads : (words : List (List ℕ)) (ss : List Setting) → Sets words ss → Reads nothing_held words ss
set_reads words ss set = reads ss words nothing_held [] set.spelled starts (from_once ss set.once)

-- words that `clap` refuses are no settings, or set some option twice
refused_unread : (words : List (List ℕ)) → (fault_of app words ≡ [] → ⊥) → AreUnread words
refused_unread words fault ss set = fault (fault-walk words ∙ (set_reads words ss set).taken)

-- nor are words of another form settings
spelled_form : (ss : List Setting) (words : List (List ℕ)) → AreSpelled words ss → AreReadable words
spelled_form [] words e = ap (list_all is_value_or_long) e
spelled_form ((o, v) ∷ ss) words (rest, inl (_, (e, _)), more) =
    ap (list_all is_value_or_long) e ∙ rw (long_form (name_of o) (long_name o, None) (named o)) (spelled_form ss rest more)
spelled_form ((o, v) ∷ ss) words (rest, inr (_, inl (e, bare)), more) =
    ap (list_all is_value_or_long) e ∙ rw (long_form (name_of o) (long_name o, None) (named o), value_form v bare) (spelled_form ss rest more)
spelled_form ((o, v) ∷ ss) words (rest, inr (_, inr e), more) =
    ap (list_all is_value_or_long) e ∙ rw (long_form (name_of o ++ (codes "=" ++ v)) (long_name o, Some v) (joined v o)) (spelled_form ss rest more)

pub other_unread : (words : List (List ℕ)) → list_all is_value_or_long words ≡ false → AreUnread words
other_unread words e ss set = true≢false (sym (spelled_form ss words set.spelled) ∙ e)

-- what `get_flag` tells of a text
abbrev pub Tells : Option (List ℕ) → Bool → Type 0
Tells text flag = (text ≡ Some (codes "true") → flag ≡ true) × (text ≡ Some (codes "false") → flag ≡ false)

told_flag : (text : Option (List ℕ)) (flag set : Bool) → Tells text flag → text ≡ Some (bool_text set) → flag ≡ set
told_flag text flag true (on, off) e = on e
told_flag text flag false (on, off) e = off e

-- the rows that are found are those of the settings, and the flag's default
abbrev AreRowsOf : Found → List Setting → Type 0
AreRowsOf f ss = rows_of f ≡ with_flag (map row ss)

given_value : (words : List (List ℕ)) (g : Given) (ss : List Setting) → AreSpelled words ss → AreRowsOf (found_of g.matches) ss
    → Tells (one_text (found_of g.matches) (long_name All)) g.all → (o : Opt) → given_by g o ≡ value_of o ss
given_value words g ss spelled rows tells o = go (is_flag o) refl
  where
    f : Found
    f = found_of g.matches

    set : g.all ≡ list_any (is_of All) ss
    set = told_flag (one_text f (long_name All)) g.all (list_any (is_of All) ss) tells
        (one_text-rows f (long_name All) ∙ ap (one_of (long_name All)) rows ∙ flag_found ss)

    go : (b : Bool) → is_flag o ≡ b → given_by g o ≡ value_of o ss
    go true flag =
        rw flag (ap flag_value set ∙ sym (flag_set words ss All refl spelled) ∙ ap (λ p. value_of p ss) (sym (one_flag o flag)))
    go false valued = rw valued (first_value-rows f (long_name o) ∙ ap (first_of (long_name o)) rows ∙ value_found o ss valued)

-- words of this form that `clap` takes are settings, with the values that it finds
pub taken_values : (words : List (List ℕ)) (g : Given) → list_all is_value_or_long words ≡ true → fault_of app words ≡ []
    → rows_of (found_of g.matches) ≡ matches_of app words → Tells (one_text (found_of g.matches) (long_name All)) g.all → AreValues words (given_by g)
taken_values words g ok e rows tells =
    let taken : AreTaken nothing_held [] words = record { readable = ok; taken = sym (fault-walk words) ∙ e; rows = refl } in
    let finds = found words nothing_held [] taken in
    let set : Sets words finds.settings = record { spelled = finds.spelled; once = to_once finds.settings (finds.once (λ o. omega arith)) } in
    let all : AreRowsOf (found_of g.matches) finds.settings = rows ∙ matches-walk words ∙ ap with_flag (set_reads words finds.settings set).rows in
    record { settings = finds.settings; set = set; same = given_value words g finds.settings finds.spelled all tells }

-- what an error of `clap` says
told : (words : List (List ℕ)) (kind : ErrorKind) → AreUnread words → Gives (Err (fault_for kind)) words
told words OutOfMemory unread = tt
told words kind unread = unread

pub fails : (words : List (List ℕ)) (r : Result Given WordFault) (e : Error) → IsErrAnd r (λ fault. fault ≡ fault_for (kind_of e))
    → HasKind (fault_of app words) e → Gives r words
fails words (Ok given) e h has = absurd h
fails words (Err fault) e h (inl memory) = subst (λ f. Gives (Err f) words) (sym (h ∙ ap fault_for memory)) tt
fails words (Err fault) e h (inr among) =
    subst (λ f. Gives (Err f) words) (sym h) (told words (kind_of e) (refused_unread words (λ none. subst (IsAmong (kind_of e)) none among)))
