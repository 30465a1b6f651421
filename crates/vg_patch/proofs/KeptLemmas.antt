-- Comments that are put back in a text.
use Rattle.std.proofs.Common.{◌≡◌, ℕ, ◌+◌, ◌-◌, ◌≤◌, List, [], ◌∷◌, ◌++◌, length, take, drop, arith, sym, subst, ap, ◌∙◌}
use Rattle.std.proofs.Math.Seq.{take-add}
use Rattle.std.proofs.lemmas.List.{append_assoc, drop-drop, drop_at, length-append, length-drop, length-take-le, take_at}
use Rattle.std.proofs.lemmas.List.Elements.{All-head, All-tail}
use Rattle.vg_scan.specs.Lines.{part}
use Rattle.vg_patch.specs.Edits.{Edit, Rise, patched_from}
use Rattle.vg_patch.proofs.EditLemmas.{part_then, rise_within}
use Rattle.vg_patch.specs.Kept.{IsAsLong, Restores}

-- ---- parts

-- a part in two
pub part_in_two : (text : List ℕ) (at mid to : ℕ) → at ≤ mid → mid ≤ to → part text at to ≡ part text at mid ++ part text mid to
part_in_two text at mid to low high =
    let whole : to - at ≡ (mid - at) + (to - mid) = omega arith in
    let there : at + (mid - at) ≡ mid = omega arith in
    ap (λ n. take n (drop at text)) whole
    ∙ take-add (mid - at) (to - mid) (drop at text)
    ∙ ap (λ rest. part text at mid ++ take (to - mid) rest) (drop-drop (mid - at) at text ∙ ap (λ n. drop n text) there)

-- the front of a text, as a part
front_of : (front rest : List ℕ) (n : ℕ) → length front ≡ n → part (front ++ rest) 0 n ≡ front
front_of front rest n e =
    let whole : n - 0 ≡ n = omega arith in
    ap (λ m. take m (front ++ rest)) whole ∙ take_at front rest n e

-- ---- edits

-- what is before all parts stays
stays_before : (text : List ℕ) (at mid end : ℕ) (edits : List Edit) → at ≤ mid → Rise mid end edits
    → patched_from at text edits ≡ part text at mid ++ patched_from mid text edits
stays_before text at mid end [] low h = sym (part_then text at mid low)
stays_before text at mid end (e ∷ edits) low h =
    let rest = e.text ++ patched_from e.to text edits in
    ap (λ front. front ++ rest) (part_in_two text at mid e.from low h.0) ∙ append_assoc (part text at mid) (part text mid e.from) rest

-- what is before a place does not matter behind it
same_behind : (old new : List ℕ) (at end : ℕ) (edits : List Edit) → Rise at end edits → drop at new ≡ drop at old
    → patched_from at new edits ≡ patched_from at old edits
same_behind old new at end [] h same = same
same_behind old new at end (e ∷ edits) h same =
    let there : at + (e.to - at) ≡ e.to = omega (arith, h.0, h.1) in
    let behind : (text : List ℕ) → drop e.to text ≡ drop (e.to - at) (drop at text) =
    (λ text. ap (λ n. drop n text) (sym there) ∙ sym (drop-drop (e.to - at) at text)) in
    let more : drop e.to new ≡ drop e.to old = behind new ∙ ap (drop (e.to - at)) same ∙ sym (behind old) in
    ap (λ front. take (e.from - at) front ++ (e.text ++ patched_from e.to new edits)) same
    ∙ ap (λ rest. part old at e.from ++ (e.text ++ rest)) (same_behind old new e.to end edits h.2 more)

rise_from : (low at end : ℕ) (edits : List Edit) → low ≤ at → Rise at end edits → Rise low end edits
rise_from low at end [] below h = omega arith
rise_from low at end (e ∷ edits) below h = (omega (arith, h.0), h.1, h.2)

-- ---- a comment is put back

record IsPut (old new : List ℕ) (e : Edit) : Type 0 where
  pub front : part new 0 e.to ≡ take e.from old ++ e.text
  pub behind : drop e.to new ≡ drop e.to old
  pub long : length new ≡ length old

is_put : (old new : List ℕ) (e : Edit) → IsAsLong e → e.to ≤ length old → new ≡ take e.from old ++ (e.text ++ drop e.to old) → IsPut old new e
is_put old new e long within is =
    let front = take e.from old ++ e.text in
    let whole : new ≡ front ++ drop e.to old = is ∙ sym (append_assoc (take e.from old) e.text (drop e.to old)) in
    let start : length (take e.from old) ≡ e.from = length-take-le e.from old (omega (arith, long, within)) in
    let reach : length front ≡ e.to = omega (arith, length-append (take e.from old) e.text, start, long) in
    record {
      front = ap (λ text. part text 0 e.to) whole ∙ front_of front (drop e.to old) e.to reach;
      behind = ap (drop e.to) whole ∙ drop_at front (drop e.to old) e.to reach;
      long = omega (arith, ap length whole, length-append front (drop e.to old), length-drop e.to old, reach, within);
    }

put_is : (old new whole : List ℕ) (e : Edit) (later : List Edit) → IsPut old new e → Rise e.to (length old) later
    → patched_from 0 old (e ∷ later) ≡ whole → patched_from 0 new later ≡ whole
put_is old new whole e later put rise is =
    let start : e.from - 0 ≡ e.from = omega arith in
    stays_before new 0 e.to (length old) later (omega arith) rise
    ∙ ap (λ rest. part new 0 e.to ++ rest) (same_behind old new e.to (length old) later rise put.behind)
    ∙ ap (λ front. front ++ patched_from e.to old later) put.front
    ∙ append_assoc (take e.from old) e.text (patched_from e.to old later)
    ∙ ap (λ n. take n old ++ (e.text ++ patched_from e.to old later)) (sym start)
    ∙ is

-- the others are left
pub restores_more : (old new whole : List ℕ) (edits later : List Edit) (e : Edit) → edits ≡ e ∷ later → Restores edits old whole
    → new ≡ take e.from old ++ (e.text ++ drop e.to old) → Restores later new whole
restores_more old new whole edits later e d h is =
    let g : Restores (e ∷ later) old whole = subst (λ es. Restores es old whole) d h in
    let put : IsPut old new e = is_put old new e (All-head IsAsLong e later g.fit.long) (rise_within e.to later (length old) g.fit.rise.2) is in
    record {
      fit = record {
        rise = subst (λ n. Rise 0 n later) (sym put.long) (rise_from 0 e.to (length old) later (omega arith) g.fit.rise.2);
        long = All-tail IsAsLong e later g.fit.long;
      };
      is = put_is old new whole e later put g.fit.rise.2 g.is;
    }

-- the next of them is in place
pub first_within : (text whole : List ℕ) (edits later : List Edit) (e : Edit) → edits ≡ e ∷ later → Restores edits text whole
    → (e.to ≤ length text) × IsAsLong e
first_within text whole edits later e d h =
    let g : Restores (e ∷ later) text whole = subst (λ es. Restores es text whole) d h in
    (rise_within e.to later (length text) g.fit.rise.2, All-head IsAsLong e later g.fit.long)

-- none is left
pub restored : (text whole : List ℕ) (edits : List Edit) → edits ≡ [] → Restores edits text whole → text ≡ whole
restored text whole edits d h = let g : Restores [] text whole = subst (λ es. Restores es text whole) d h in g.is
