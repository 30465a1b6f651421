-- Comments that are taken out of a text.
use Rattle.std.proofs.Common.{◌≡◌, ℕ, ◌-◌, ◌≤◌, List, [], ◌∷◌, ◌++◌, length, take, drop, map, arith, refl, sym, ap, subst, ◌∙◌}
use Rattle.std.specs.List.{All}
use Rattle.std.proofs.lemmas.List.{append_assoc, drop_at, length-append, length-drop, length-map, length-take-le, take-append-drop, take_at}
use Rattle.std.proofs.lemmas.List.Elements.{All-nil, All-push}
use Rattle.vg_scan.specs.Comments.{blanked, without_comments}
use Rattle.vg_scan.specs.Next.{IsNextComment}
use Rattle.vg_scan.specs.Lines.{part}
use Rattle.vg_scan.specs.declared.comments.Comments.{Comments}
use Rattle.vg_scan.proofs.AgainLemmas.{without_again}
use Rattle.vg_patch.specs.Edits.{Edit, Rise, end_of, patched, patched_from}
use Rattle.vg_patch.proofs.EditLemmas.{front_from, part_of_front, part_then, rise_more, rise_within}
use Rattle.vg_patch.specs.Kept.{IsAsLong, Restores}
use Rattle.vg_patch.proofs.KeptLemmas.{part_in_two}

-- the comments before a place are taken out of a text
pub record IsTakenTo (kind : Comments) (text clear : List ℕ) (kept : List Edit) (at : ℕ) : Type 0 where
  pub within : at ≤ length clear
  pub rise : Rise 0 at kept
  pub long : All IsAsLong kept
  pub is : patched clear kept ≡ text
  pub clear_is : take at clear ++ without_comments kind (drop at clear) ≡ without_comments kind text

pub none_taken : (kind : Comments) (text : List ℕ) (kept : List Edit) → kept ≡ [] → IsTakenTo kind text text kept 0
none_taken kind text kept e =
    let none : IsTakenTo kind text text [] 0 = record { within = omega arith; rise = omega arith; long = All-nil IsAsLong; is = refl; clear_is = refl } in
    subst (λ es. IsTakenTo kind text text es 0) (sym e) none

-- ---- parts that rise

pub end_below : (at end : ℕ) (edits : List Edit) → Rise at end edits → end_of edits ≤ end
end_below at end [] h = omega arith
end_below at end (e ∷ []) h = h.2
end_below at end (e ∷ f ∷ edits) h = end_below e.to end (f ∷ edits) h.2

rise_to : (at mid end : ℕ) (edits : List Edit) → Rise at mid edits → mid ≤ end → Rise at end edits
rise_to at mid end [] h more = omega arith
rise_to at mid end (e ∷ edits) h more = (h.0, h.1, rise_to e.to mid end edits h.2 more)

-- ---- one comment more

-- a comment is kept and made blank
record IsBlank (old new : List ℕ) (from to : ℕ) : Type 0 where
  pub front : take from new ≡ take from old
  pub whole : take to new ≡ take from old ++ map blanked (part old from to)
  pub behind : drop to new ≡ drop to old
  pub long : length new ≡ length old

is_blank : (old new : List ℕ) (from to : ℕ) → from ≤ to → to ≤ length old
    → new ≡ take from old ++ (map blanked (part old from to) ++ drop to old) → IsBlank old new from to
is_blank old new from to own within is =
    let blank = map blanked (part old from to) in
    let front = take from old ++ blank in
    let start : length (take from old) ≡ from = length-take-le from old (omega (arith, own, within)) in
    let middle : length blank ≡ to - from =
    length-map (part old from to) blanked ∙ length-take-le (to - from) (drop from old) (omega (arith, length-drop from old, own, within)) in
    let whole : new ≡ front ++ drop to old = is ∙ sym (append_assoc (take from old) blank (drop to old)) in
    let reach : length front ≡ to = omega (arith, length-append (take from old) blank, start, middle, own) in
    record {
      front = ap (take from) is ∙ take_at (take from old) (blank ++ drop to old) from start;
      whole = ap (take to) whole ∙ take_at front (drop to old) to reach;
      behind = ap (drop to) whole ∙ drop_at front (drop to old) to reach;
      long = omega (arith, ap length whole, length-append front (drop to old), length-drop to old, reach, within);
    }

-- with it back in place a text is the same as before
put_again : (old new : List ℕ) (at : ℕ) (edits : List Edit) (e : Edit) → Rise at e.from edits → e.from ≤ e.to
    → e.text ≡ part old e.from e.to → IsBlank old new e.from e.to → patched_from at new (edits ++ e ∷ []) ≡ patched_from at old edits
put_again old new at [] e h own is blank =
    let same : part new at e.from ≡ part old at e.from = sym (front_from new at e.from h) ∙ ap (drop at) blank.front ∙ front_from old at e.from h in
    ap (λ rest. part new at e.from ++ (e.text ++ rest)) blank.behind
    ∙ ap (λ front. front ++ (e.text ++ drop e.to old)) same
    ∙ ap (λ text. part old at e.from ++ (text ++ drop e.to old)) is
    ∙ ap (λ rest. part old at e.from ++ rest) (part_then old e.from e.to own)
    ∙ part_then old at e.from h
put_again old new at (f ∷ edits) e h own is blank =
    let near : f.from ≤ e.from = (let more = rise_within f.to edits e.from h.2 in omega (arith, h.1, more)) in
    let same : part new at f.from ≡ part old at f.from =
    sym (part_of_front new at f.from e.from h.0 near) ∙ ap (λ front. part front at f.from) blank.front ∙ part_of_front old at f.from e.from h.0 near in
    ap (λ rest. part new at f.from ++ (f.text ++ rest)) (put_again old new f.to edits e h.2 own is blank)
    ∙ ap (λ front. front ++ (f.text ++ patched_from f.to old edits)) same

clear_more : (kind : Comments) (old new whole : List ℕ) (at from to : ℕ) → IsNextComment kind old at from to → IsBlank old new from to
    → take at old ++ without_comments kind (drop at old) ≡ whole → take to new ++ without_comments kind (drop to new) ≡ whole
clear_more kind old new whole at from to next blank is =
    let blanks = map blanked (part old from to) in
    let rest = without_comments kind (drop to old) in
    let whole_part : (n : ℕ) → take n old ≡ part old 0 n = (λ n. let e : n ≡ n - 0 = omega arith in ap (λ m. take m old) e) in
    let front : take from old ≡ take at old ++ part old at from =
    whole_part from ∙ part_in_two old 0 at from (omega arith) next.after ∙ ap (λ xs. xs ++ part old at from) (sym (whole_part at)) in
    ap (λ behind. take to new ++ without_comments kind behind) blank.behind
    ∙ ap (λ xs. xs ++ rest) (blank.whole ∙ ap (λ xs. xs ++ blanks) front)
    ∙ append_assoc (take at old ++ part old at from) blanks rest
    ∙ append_assoc (take at old) (part old at from) (blanks ++ rest)
    ∙ ap (λ xs. take at old ++ xs) (sym next.clear)
    ∙ is

pub taken_more : (kind : Comments) (text old new : List ℕ) (kept later : List Edit) (at : ℕ) (e : Edit) → IsTakenTo kind text old kept at
    → IsNextComment kind old at e.from e.to → later ≡ kept ++ e ∷ [] → e.text ≡ part old e.from e.to
    → new ≡ take e.from old ++ (map blanked (part old e.from e.to) ++ drop e.to old) → IsTakenTo kind text new later e.to
taken_more kind text old new kept later at e h next d of is =
    let own : e.from ≤ e.to = omega (arith, next.some) in
    let blank : IsBlank old new e.from e.to = is_blank old new e.from e.to own next.within is in
    let size : length (part old e.from e.to) ≡ e.to - e.from =
    length-take-le (e.to - e.from) (drop e.from old) (omega (arith, length-drop e.from old, own, next.within)) in
    let long : IsAsLong e = omega (arith, ap length of, size, own) in
    let more : IsTakenTo kind text new (kept ++ e ∷ []) e.to = record {
      within = omega (arith, next.within, blank.long);
      rise = rise_more 0 at kept e h.rise next.after own;
      long = All-push IsAsLong kept e h.long long;
      is = put_again old new 0 kept e (rise_to 0 at e.from kept h.rise next.after) own of blank ∙ h.is;
      clear_is = clear_more kind old new (without_comments kind text) at e.from e.to next blank h.clear_is;
    } in
    subst (λ es. IsTakenTo kind text new es e.to) (sym d) more

-- ---- no comment more

pub all_clear : (kind : Comments) (text clear : List ℕ) (kept : List Edit) (at : ℕ) → IsTakenTo kind text clear kept at
    → without_comments kind (drop at clear) ≡ drop at clear → clear ≡ without_comments kind text
all_clear kind text clear kept at h none = sym (take-append-drop at clear) ∙ ap (λ rest. take at clear ++ rest) (sym none) ∙ h.clear_is

pub none_left : (kind : Comments) (text clear : List ℕ) → clear ≡ without_comments kind text → without_comments kind clear ≡ clear
none_left kind text clear e = ap (without_comments kind) e ∙ without_again kind text ∙ sym e

pub all_kept : (kind : Comments) (text clear : List ℕ) (kept : List Edit) (at : ℕ) → IsTakenTo kind text clear kept at → Restores kept clear text
all_kept kind text clear kept at h = record { fit = record { rise = rise_to 0 at (length clear) kept h.rise h.within; long = h.long }; is = h.is }
