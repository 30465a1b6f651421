-- The lines of a net, read.
use Rattle.std.proofs.Common.{◌≡◌, ℕ, suc, ◌+◌, true, false, List, [], ◌∷◌, ◌++◌, length, refl, sym, ap, ◌∙◌, arith, subst, append_assoc, Some, None, is_some, All}
use Rattle.std.specs.Prelude.{codes}
use Rattle.std.specs.Str.{bytes_eq}
use Rattle.std.proofs.lemmas.List.{append-nil}
use Rattle.std.proofs.lemmas.List.Elements.{All-head, All-tail}
use Rattle.std.specs.Prelude.{unwrap_or}
use Rattle.vg_scan.specs.Lines.{Line}
use Rattle.spef_file.specs.Nets.{is_end, end_at}
use Rattle.spef_file.specs.HeaderLines.{in_header}
use Rattle.spef_file.specs.Regions.{in_net, place_of}
use Rattle.spef_file.specs.Statements.{nets_of}
use Rattle.spef_file.specs.Faults.{fault_of}
use Rattle.spef_patch_laws.specs.Runs.{IsRun, SaysSame, MayBegin, head_in, NetLines, all_of, IsInner, AreNetLines, IsHeadOf}
use Rattle.spef_patch_laws.specs.RunLaws.{IsPassed, head_behind, NetsAreRead}
use Rattle.spef_patch_laws.proofs.StepLemmas.{no_row, over_more, inside_row, inside_net, inside_place, inside_fault, head_row, head_place, head_net}
use Rattle.spef_patch_laws.proofs.FaultLemmas.{head_fault, name_is}

-- ---- runs, one after another

pub run_both : (before xs ys later : List Line) → IsRun before xs (ys ++ later) → IsRun (before ++ xs) ys later → IsRun before (xs ++ ys) later
run_both before [] ys later a b = subst (λ front. IsRun front ys later) (append-nil before) b
run_both before (x ∷ xs) ys later a b = (
  ap (fault_of before x) (append_assoc xs ys later) ∙ a.0,
  run_both (before ++ x ∷ []) xs ys later a.1 (subst (λ front. IsRun front ys later) (sym (append_assoc before (x ∷ []) xs)) b),
)

pub run_parts : (before xs ys later : List Line) → IsRun before (xs ++ ys) later → IsRun before xs (ys ++ later) × IsRun (before ++ xs) ys later
run_parts before [] ys later a = (tt, subst (λ front. IsRun front ys later) (sym (append-nil before)) a)
run_parts before (x ∷ xs) ys later a =
    let rest = run_parts (before ++ x ∷ []) xs ys later a.1 in
    ((sym (ap (fault_of before x) (append_assoc xs ys later)) ∙ a.0, rest.0), subst (λ front. IsRun front ys later) (append_assoc before (x ∷ []) xs) rest.1)

pub says_both : (a b c : List Line) → SaysSame a b → SaysSame b c → SaysSame a c
says_both a b c p q = record {
  old_over = p.old_over;
  over = q.over;
  chars = q.chars ∙ p.chars;
  c_places = q.c_places ∙ p.c_places;
  r_places = q.r_places ∙ p.r_places;
  rows = q.rows ∙ p.rows;
}

-- ---- the end of a net

pub end_there : (inner later : List Line) (end : Line) → All IsInner inner → is_end end ≡ true → end_at (inner ++ end ∷ later) ≡ Some (length inner)
end_there [] later end all e = rw e refl
end_there (line ∷ inner) later end all e =
    let here : IsInner line = All-head IsInner line inner all in
    rw (here.no_end, here.no_head, end_there inner later end (All-tail IsInner line inner all) e)
    (let n : length inner + 1 ≡ suc (length inner) = omega arith in ap (λ k. Some k) n)

-- ---- lines inside a net

pub record Inside (before after : List Line) : Type 0 where
  pub says : SaysSame before after
  pub place : place_of after ≡ in_net
  pub nets : nets_of after ≡ nets_of before

inside_none : (before : List Line) → in_header before ≡ false → place_of before ≡ in_net → Inside before (before ++ [])
inside_none before over place =
    subst (Inside before) (sym (append-nil before)) (record {
      says = record { old_over = over; over = over; chars = refl; c_places = refl; r_places = refl; rows = refl };
      place = place;
      nets = refl;
    })

pub inner_stays : (before inner : List Line) → in_header before ≡ false → place_of before ≡ in_net → All IsInner inner → Inside before (before ++ inner)
inner_stays before [] over place all = inside_none before over place
inner_stays before (line ∷ inner) over place all =
    let here : IsInner line = All-head IsInner line inner all in
    let next = before ++ line ∷ [] in
    let more = inner_stays next inner (over_more before line over) (inside_place before line false place here.no_end) (All-tail IsInner line inner all) in
    subst (Inside before) (append_assoc before (line ∷ []) inner) (record {
      says = says_both before next (next ++ inner) (no_row before line over (inside_row before line over place)) more.says;
      place = more.place;
      nets = more.nets ∙ inside_net before line over place;
    })

pub inner_run : (before inner later : List Line) → in_header before ≡ false → place_of before ≡ in_net → All IsInner inner → IsRun before inner later
inner_run before [] later over place all = tt
inner_run before (line ∷ inner) later over place all =
    let here : IsInner line = All-head IsInner line inner all in (
      inside_fault before line (inner ++ later) over place,
      inner_run (before ++ line ∷ []) inner later (over_more before line over) (inside_place before line false place here.no_end) (All-tail IsInner line inner all),
    )

-- ---- the lines of a net

module _ (before : List Line) (net : NetLines) (may : MayBegin before) (are : AreNetLines net) where
  over : in_header (before ++ net.head ∷ []) ≡ false
  over = over_more before net.head may.over

  place : place_of (before ++ net.head ∷ []) ≡ in_net
  place = head_place before net.head may are.head

  inside : Inside (before ++ net.head ∷ []) ((before ++ net.head ∷ []) ++ net.inner)
  inside = inner_stays (before ++ net.head ∷ []) net.inner over place are.inner

  whole : ((before ++ net.head ∷ []) ++ net.inner) ++ net.end ∷ [] ≡ before ++ all_of net
  whole = append_assoc (before ++ net.head ∷ []) net.inner (net.end ∷ []) ∙ append_assoc before (net.head ∷ []) (net.inner ++ net.end ∷ [])

  -- its lines say it alone
  pub net_passed : IsPassed before (before ++ all_of net) (head_in before net.head)
  net_passed =
      let front = before ++ net.head ∷ [] in
      let middle = front ++ net.inner in
      subst (λ after. IsPassed before after (head_in before net.head)) whole (record {
        says =
            says_both before front (middle ++ net.end ∷ []) (no_row before net.head may.over (head_row before net.head may are.head))
            (says_both front middle (middle ++ net.end ∷ []) inside.says (no_row middle net.end inside.says.over (inside_row middle net.end inside.says.over inside.place)));
        place = inside_place middle net.end true inside.place are.end;
        nets = inside_net middle net.end inside.says.over inside.place ∙ inside.nets ∙ head_net before net.head may are.head;
      })

  -- and have no fault, where its head has none
  pub net_run : (later : List Line) → fault_of before net.head ((net.inner ++ net.end ∷ []) ++ later) ≡ None → IsRun before (all_of net) later
  net_run later clear =
      let front = before ++ net.head ∷ [] in (
        clear,
        run_both front net.inner (net.end ∷ []) later (inner_run front net.inner ((net.end ∷ []) ++ later) over place are.inner)
            (inside_fault (front ++ net.inner) net.end later inside.says.over inside.place, tt),
      )

  pub net_ends : (later : List Line) → is_some (end_at ((net.inner ++ net.end ∷ []) ++ later)) ≡ true
  net_ends later =
      ap (λ ls. is_some (end_at ls)) (append_assoc net.inner (net.end ∷ []) later) ∙ ap is_some (end_there net.inner later net.end are.inner are.end)

pub same_head : (before : List Line) (line : Line) (name : List ℕ) → IsHeadOf before line name → head_in before line ≡ head_behind before name
same_head before line name h = λ i. record {
  name = ap (λ o. unwrap_or o []) (name_is before line name h) i;
  reduced = ap (λ w. bytes_eq w (codes "*R_NET")) h.opens i;
  line = length before + 1;
}

pub nets_are_read : NetsAreRead
nets_are_read before later net name may are h free = (
  net_run before net may are later (head_fault before net.head ((net.inner ++ net.end ∷ []) ++ later) name may h (net_ends before net may are later) free),
  subst (IsPassed before (before ++ all_of net)) (same_head before net.head name h) (net_passed before net may are),
)
