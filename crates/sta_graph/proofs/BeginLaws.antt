-- What the passes begin with.
use Rattle.std.proofs.Common.{◌≡◌, ◌≢◌, ℕ, ◌+◌, ◌^◌, ◌<◌, true, false, Bool, List, [], ◌∷◌, ◌++◌, length, get_or, set, ℤ, pos, ◌-ℤ◌, Option, Some, None, refl, sym, ap, ◌∙◌, subst, arith, inl, inr}
use Rattle.std.proofs.lemmas.Bool.{cases_eq, cases_Bool}
use Rattle.std.proofs.lemmas.Int.{ints, to_z-of_z, fits_signed_from_abs}
use mir.Syntax.{w128}
use mir.Val.{SFits, to_z, of_z}
use Rattle.std.proofs.lemmas.List.{get_or-set_same, get_or-set_other}
use Rattle.std.proofs.Math.ListN.{length-set, length-append, get_or-append}
use Rattle.std.proofs.Math.Seq.{get_or-append_seam}
use Rattle.sta_graph.specs.declared.graph.Sink.{Sink}
use Rattle.sta_graph.specs.declared.graph.Graph.{Graph}
use Rattle.sta_graph.specs.Paths.{net_count, owner, delay_of, required_of, arrival_of, lead_at, sink_at, to_of, IsGraph, IsStart, IsEnd}
use Rattle.sta_graph.specs.Passes.{IsWithin, IsSmall, time_at, IsDeadline, IsEarlier, IsHeld, IsForward, IsBackward}
use Rattle.sta_graph.specs.declared.slacks.End.{End}
use Rattle.sta_graph.specs.Begins.{is_marked, AreMarked, AreStarts, AreEnds, IsEnded, IsHeldWithin, AreDifferences, IsWorse, IsWorstEnd, IsWorstSo, IsSlackTo, end_slack}
use Rattle.sta_graph.proofs.PassLaws.{each_time, held_stays, of_earlier, within_more, difference_within, at_same, at_other}

pub mark_none : (n : ℕ) (f : ℕ → ℕ) (marks : List Bool) → length marks ≡ n → ((v : ℕ) → is_marked marks v ≡ false) → AreMarked n 0 f marks
mark_none n f marks count off = record {
  one_each = count;
  set = λ i h. absurd (omega arith);
  only = λ v on. (let no_mark = off v in absurd (cc));
}

pub mark_one : (n m at : ℕ) (f : ℕ → ℕ) (marks : List Bool) → AreMarked n m f marks → at ≡ f m → at < n → AreMarked n (m + 1) f (set marks at true)
mark_one n m at f marks a is room = record {
  one_each = length-set marks at true ∙ a.one_each;
  set = λ i h. elim (cases_eq (f i) at) [
    | inl e ↦ ap (is_marked (set marks at true)) e ∙ get_or-set_same marks at true false (omega (arith, a.one_each))
    | inr other ↦ get_or-set_other marks at (f i) true false other ∙ a.set i (below i h other)
  ];
  only = λ v on. elim (cases_eq v at) [
    | inl e ↦ (m, omega arith, sym is ∙ sym e)
    | inr other ↦
        let (i, i_m, hit) = a.only v (sym (get_or-set_other marks at v true false other) ∙ on) in
        (i, omega arith, hit)
  ];
}
  where
    below : (i : ℕ) → i < m + 1 → f i ≢ at → i < m
    below i h other = elim (cases_eq i m) [
      | inl e ↦ absurd (other (ap f e ∙ sym is))
      | inr less ↦ omega arith
    ]

-- a net to which no sink leads is not marked, and the other way round
start_free : (g : Graph) (led : List Bool) (v : ℕ) → AreMarked (net_count g) (length g.leads) (to_of g) led → IsStart g v → is_marked led v ≡ false
start_free g led v a start =
    elim (cases_Bool (is_marked led v)) [
      | inl on ↦
          let (i, i_m, to) = a.only v on in
          absurd (start.none (lead_at g i).sink (record { lead = i; number = i_m; by = refl; to = to }))
      | inr off ↦ off
    ]

free_start : (g : Graph) (led : List Bool) (v : ℕ) → AreMarked (net_count g) (length g.leads) (to_of g) led → v < net_count g → is_marked led v ≡ false → IsStart g v
free_start g led v a v_n off = record {
  net = v_n;
  none = λ j l. (let on = sym (ap (is_marked led) l.to) ∙ a.set l.lead l.number in absurd (cc));
}

pub end_free : (g : Graph) (leading : List Bool) (j : ℕ) → AreMarked (length g.sinks) (length g.leads) (λ i. (lead_at g i).sink) leading → IsEnd g j → is_marked leading j ≡ false
end_free g leading j a ends =
    elim (cases_Bool (is_marked leading j)) [
      | inl on ↦
          let (i, i_m, by) = a.only j on in
          absurd (ends.nowhere (to_of g i) (record { lead = i; number = i_m; by = by; to = refl }))
      | inr off ↦ off
    ]

pub free_end : (g : Graph) (leading : List Bool) (j : ℕ) → AreMarked (length g.sinks) (length g.leads) (λ i. (lead_at g i).sink) leading → j < length g.sinks → is_marked leading j ≡ false → IsEnd g j
free_end g leading j a j_n off = record {
  sink = j_n;
  nowhere = λ v l. (let on : is_marked leading j ≡ true = sym (ap (is_marked leading) l.by) ∙ a.set l.lead l.number in absurd (cc));
}

pub starts_none : (g : Graph) (led : List Bool) (times : List (Option ℤ)) → length times ≡ net_count g → ((v : ℕ) → time_at times v ≡ None) → AreStarts g led 0 times
starts_none g led times count none = record {
  count = count;
  started = λ v h. absurd (omega arith);
  only = λ v a at. (let off = none v in absurd (cc));
}

pub starts_skip : (g : Graph) (led : List Bool) (n : ℕ) (times : List (Option ℤ)) → AreStarts g led n times → is_marked led n ≡ true → AreStarts g led (n + 1) times
starts_skip g led n times s on = record {
  count = s.count;
  started = λ v h off. elim (cases_eq v n) [
    | inl e ↦ (let here : is_marked led v ≡ true = ap (is_marked led) e ∙ on in absurd (cc))
    | inr other ↦ s.started v (omega arith) off
  ];
  only = λ v a at. (let (h, off, is) = s.only v a at in (omega arith, off, is));
}

pub starts_one : (g : Graph) (led : List Bool) (n : ℕ) (x : ℤ) (times : List (Option ℤ)) → AreStarts g led n times → n < net_count g → is_marked led n ≡ false → x ≡ arrival_of g n
    → AreStarts g led (n + 1) (set times n (Some x))
starts_one g led n x times s room off is = record {
  count = length-set times n (Some x) ∙ s.count;
  started = λ v h free. elim (cases_eq v n) [
    | inl e ↦ at_same times n v (Some x) e (omega (arith, s.count)) ∙ ap Some (is ∙ ap (arrival_of g) (sym e))
    | inr other ↦ at_other times n v (Some x) other ∙ s.started v (omega arith) free
  ];
  only = each_time times n x (λ v a. (v < n + 1) × (is_marked led v ≡ false) × (a ≡ arrival_of g v)) (omega (arith, s.count))
      (λ v a at. (let (h, free, same) = s.only v a at in (omega arith, free, same)))
      (omega arith, off, is);
}

pub starts_all : (g : Graph) (order : List ℕ) (led : List Bool) (times : List (Option ℤ)) → IsSmall g → AreMarked (net_count g) (length g.leads) (to_of g) led
    → AreStarts g led (net_count g) times → IsForward g order 0 times
starts_all g order led times small a s = record {
  count = s.count;
  attained = λ v x at.
      let (v_n, off, is) = s.only v x at in
      record { start = v; trail = []; starts = free_start g led v a v_n off; leads = refl; attained = omega (arith, ints, is) };
  bounded = λ v x at.
      let (v_n, off, is) = s.only v x at in
      subst (IsWithin 1) (sym is) (small.arrivals v v_n);
  started = λ v start. s.started v start.net (start_free g led v a start);
  waiting = λ v v_n none. elim (cases_Bool (is_marked led v)) [
    | inl on ↦ a.only v on
    | inr off ↦ (let at = s.started v v_n off in absurd (cc))
  ];
  taken = λ k h. absurd (omega arith);
}

pub ends_none : (g : Graph) (leading : List Bool) (times : List (Option ℤ)) → length times ≡ net_count g → ((v : ℕ) → time_at times v ≡ None) → AreEnds g leading 0 times
ends_none g leading times count none = record {
  count = count;
  attained = λ v r at. (let off = none v in absurd (cc));
  bounded = λ v r at. (let off = none v in absurd (cc));
  ended = λ j h. absurd (omega arith);
}

pub ends_skip : (g : Graph) (leading : List Bool) (n : ℕ) (times : List (Option ℤ)) → AreEnds g leading n times → is_marked leading n ≡ true → AreEnds g leading (n + 1) times
ends_skip g leading n times s on = record {
  count = s.count;
  attained = s.attained;
  bounded = s.bounded;
  ended = λ j h off. elim (cases_eq j n) [
    | inl e ↦ (let here : is_marked leading j ≡ true = ap (is_marked leading) e ∙ on in absurd (cc))
    | inr other ↦ s.ended j (omega arith) off
  ];
}

ends_at : (g : Graph) (leading : List Bool) (n : ℕ) (x : ℤ) (times : List (Option ℤ)) → IsGraph g → IsSmall g
    → AreMarked (length g.sinks) (length g.leads) (λ i. (lead_at g i).sink) leading
    → AreEnds g leading n times → n < length g.sinks → is_marked leading n ≡ false → IsEarlier (time_at times (owner g n)) (required_of g n -ℤ delay_of g n) x
    → AreEnds g leading (n + 1) (set times (owner g n) (Some x))
ends_at g leading n x times graph small a s n_k off l = record {
  count = length-set times (owner g n) (Some x) ∙ s.count;
  attained = each_time times (owner g n) x (IsDeadline g) room s.attained
      (of_earlier _ _ x (IsDeadline g (owner g n)) l
      (record { last = n; trail = []; ends = free_end g leading n a n_k off; leads = refl; attained = omega (arith, ints) })
      (s.attained (owner g n)));
  bounded = each_time times (owner g n) x (λ v r. IsWithin 2 r) room s.bounded
      (of_earlier _ _ x (IsWithin 2) l (difference_within 1 (required_of g n) (delay_of g n) (small.required n n_k) (small.delays n n_k)) (s.bounded (owner g n)));
  ended = λ j h free. elim (cases_eq j n) [
    | inl e ↦ subst (IsHeld g (set times (owner g n) (Some x))) (sym e) (record { time = x; at = at_same times (owner g n) (owner g n) (Some x) refl room; in_time = l.reaches })
    | inr other ↦ held_stays g times (owner g n) j x room l.keeps (s.ended j (omega arith) free)
  ];
}
  where
    room : owner g n < length times
    room = omega (arith, s.count, graph.owners n n_k)

pub ends_one : (g : Graph) (leading : List Bool) (n : ℕ) (times after : List (Option ℤ)) → IsGraph g → IsSmall g
    → AreMarked (length g.sinks) (length g.leads) (λ i. (lead_at g i).sink) leading
    → AreEnds g leading n times → n < length g.sinks → is_marked leading n ≡ false → IsEnded g n times after → AreEnds g leading (n + 1) after
ends_one g leading n times after graph small a s n_k off e =
    subst (AreEnds g leading (n + 1)) (sym e.changed) (ends_at g leading n e.time times graph small a s n_k off e.is_earlier)

pub ends_all : (g : Graph) (order : List ℕ) (leading : List Bool) (times : List (Option ℤ)) → IsGraph g
    → AreMarked (length g.sinks) (length g.leads) (λ i. (lead_at g i).sink) leading
    → AreEnds g leading (length g.sinks) times → IsBackward g order (length order) 2 times
ends_all g order leading times graph a s = record {
  count = s.count;
  attained = s.attained;
  bounded = s.bounded;
  ended = λ j ends. s.ended j ends.sink (end_free g leading j a ends);
  waiting = λ v v_n none.
      let (j, j_n, own) = graph.some_sink v v_n in
      elim (cases_Bool (is_marked leading j)) [
        | inl on ↦ let (i, i_m, by) = a.only j on in (i, i_m, ap (owner g) by ∙ own)
        | inr off ↦
            let h = s.ended j j_n off in
            let at : None ≡ Some h.time = sym none ∙ ap (time_at times) (sym own) ∙ h.at in
            absurd (cc)
      ];
  taken = λ k low high. absurd (omega arith);
}

pub differences_none : (arrivals required : List (Option ℤ)) → AreDifferences arrivals required 0 []
differences_none arrivals required = record { count = refl; each = λ v a r h. absurd (omega arith) }

pub ended_by : (g : Graph) (j : ℕ) (s : Sink) (times : List (Option ℤ)) (time x y : ℤ) → s ≡ sink_at g j → time ≡ s.required -ℤ s.delay
    → IsEarlier (get_or times s.net None) time x → y ≡ x → IsEnded g j times (set times s.net (Some y))
ended_by g j s times time x y is sum l same = record {
  time = y;
  is_earlier =
      subst (λ (z : ℤ). IsEarlier (time_at times (owner g j)) (required_of g j -ℤ delay_of g j) z) (sym same)
      (subst (λ (z : ℤ). IsEarlier (time_at times (owner g j)) z x) (sum ∙ ap (λ (t : Sink). t.required -ℤ t.delay) is)
      (subst (λ (t : Sink). IsEarlier (time_at times t.net) time x) is l));
  changed = ap (λ (t : Sink). set times t.net (Some y)) is;
}

pub sink_within : (g : Graph) (j : ℕ) (s : Sink) → IsSmall g → j < length g.sinks → s ≡ sink_at g j → IsWithin 1 s.required × IsWithin 1 s.delay
sink_within g j s small j_n is =
    (subst (λ (t : Sink). IsWithin 1 t.required) (sym is) (small.required j j_n), subst (λ (t : Sink). IsWithin 1 t.delay) (sym is) (small.delays j j_n))

pub differences_more : (arrivals required : List (Option ℤ)) (n : ℕ) (slacks : List ℤ) (a r x : ℤ) → AreDifferences arrivals required n slacks
    → time_at arrivals n ≡ Some a → time_at required n ≡ Some r → x ≡ r -ℤ a → AreDifferences arrivals required (n + 1) (slacks ++ (x ∷ []))
differences_more arrivals required n slacks a r x d at_a at_r is = record {
  count = omega (arith, d.count, length-append slacks (x ∷ []));
  each = λ v b s h at_b at_s. elim (cases_eq v n) [
    | inl e ↦
        let e1 : Some a ≡ Some b = sym at_a ∙ ap (time_at arrivals) (sym e) ∙ at_b in
        let e2 : Some r ≡ Some s = sym at_r ∙ ap (time_at required) (sym e) ∙ at_s in
        let a_b : a ≡ b = cc in
        let r_s : r ≡ s = cc in
        ap (λ (k : ℕ). get_or (slacks ++ (x ∷ [])) k (pos 0)) (e ∙ sym d.count) ∙ get_or-append_seam slacks x [] (pos 0) ∙ is ∙ rw (a_b, r_s) refl
    | inr other ↦ get_or-append slacks (x ∷ []) (pos 0) v (omega (arith, d.count)) ∙ d.each v b s (omega arith) at_b at_s
  ];
}

-- a difference as a machine makes it
pub record Differ (r a : ℤ) : Type 0 where
  pub fits : SFits w128 (to_z w128 (of_z w128 r) -ℤ to_z w128 (of_z w128 a))
  pub is : to_z w128 (of_z w128 (to_z w128 (of_z w128 r) -ℤ to_z w128 (of_z w128 a))) ≡ r -ℤ a

wide : (z : ℤ) → IsWithin (2 ^ 31 + 6) z → SFits w128 z
wide z w =
    let l = w.low in
    let h = w.high in
    fits_signed_from_abs w128 z (omega (arith, ints))

pub differ_within : (r a : ℤ) → IsWithin (2 ^ 30 + 2) r → IsWithin (2 ^ 30 + 2) a → Differ r a
differ_within r a u v =
    let p = u.low in
    let q = u.high in
    let s = v.low in
    let t = v.high in
    let r_is : to_z w128 (of_z w128 r) ≡ r = to_z-of_z w128 r (wide r (within_more (2 ^ 30 + 2) (2 ^ 31 + 6) r (omega arith) u)) in
    let a_is : to_z w128 (of_z w128 a) ≡ a = to_z-of_z w128 a (wide a (within_more (2 ^ 30 + 2) (2 ^ 31 + 6) a (omega arith) v)) in
    let both : to_z w128 (of_z w128 r) -ℤ to_z w128 (of_z w128 a) ≡ r -ℤ a = rw (r_is, a_is) refl in
    let sum : IsWithin (2 ^ 31 + 6) (r -ℤ a) = record { low = omega (arith, ints); high = omega (arith, ints) } in
    record {
      fits = subst (SFits w128) (sym both) (wide (r -ℤ a) sum);
      is = ap (λ (z : ℤ). to_z w128 (of_z w128 z)) both ∙ to_z-of_z w128 (r -ℤ a) (wide (r -ℤ a) sum);
    }

pub differ_held : (held other : Option ℤ) (r a : ℤ) → IsHeldWithin held → IsHeldWithin other → held ≡ Some r → other ≡ Some a → Differ r a
differ_held held other r a u v at_r at_a =
    let e1 = u.is in
    let e2 = v.is in
    let r_is : u.time ≡ r = cc in
    let a_is : v.time ≡ a = cc in
    differ_within r a (subst (IsWithin (2 ^ 30 + 2)) r_is u.within) (subst (IsWithin (2 ^ 30 + 2)) a_is v.within)

pub worst_none : (g : Graph) (leading : List Bool) (times : List (Option ℤ)) → IsWorstSo g leading times 0 None
worst_none g leading times = λ j h. absurd (omega arith)

pub worst_skip : (g : Graph) (leading : List Bool) (times : List (Option ℤ)) (n : ℕ) (best : Option End) → is_marked leading n ≡ true
    → IsWorstSo g leading times n best → IsWorstSo g leading times (n + 1) best
worst_skip g leading times n None on all = λ j h. elim (cases_eq j n) [
  | inl e ↦ ap (is_marked leading) e ∙ on
  | inr other ↦ all j (omega arith)
]
worst_skip g leading times n (Some end) on w = record {
  before = (let b = w.before in omega arith);
  ends = w.ends;
  time = w.time;
  at = w.at;
  slack_is = w.slack_is;
  least = λ j a h off at. elim (cases_eq j n) [
    | inl e ↦ (let here : is_marked leading j ≡ true = ap (is_marked leading) e ∙ on in absurd (cc))
    | inr other ↦ w.least j a (omega arith) off at
  ];
  first = w.first;
}

same_slack : (g : Graph) (times : List (Option ℤ)) (n j : ℕ) (slack a b : ℤ) → time_at times (owner g n) ≡ Some a → slack ≡ end_slack g n a → j ≡ n
    → time_at times (owner g j) ≡ Some b → slack ≡ end_slack g j b
same_slack g times n j slack a b at is e at_b =
    let q : Some a ≡ Some b = sym at ∙ ap (λ (k : ℕ). time_at times (owner g k)) (sym e) ∙ at_b in
    let a_b : a ≡ b = cc in
    is ∙ ap (λ (z : ℤ). end_slack g n z) a_b ∙ ap (λ (k : ℕ). end_slack g k b) (sym e)

pub worst_step : (g : Graph) (leading : List Bool) (times : List (Option ℤ)) (n : ℕ) (best : Option End) (slack : ℤ) (end : End) → is_marked leading n ≡ false
    → IsWorstSo g leading times n best → IsSlackTo g times n slack → IsWorse best n slack end → IsWorstEnd g leading times (n + 1) end
worst_step g leading times n None slack end off all s w =
    subst (IsWorstEnd g leading times (n + 1)) (sym (w.none refl)) (record {
      before = omega arith;
      ends = off;
      time = s.time;
      at = s.at;
      slack_is = s.is;
      least = λ j a h free at. elim (cases_eq j n) [
        | inl e ↦ (let same = same_slack g times n j slack s.time a s.at s.is e at in omega (arith, ints))
        | inr other ↦ (let on = all j (omega arith) in absurd (cc))
      ];
      first = λ j a h free at. (let on = all j (omega arith) in absurd (cc));
    })
worst_step g leading times n (Some best) slack end off so s w =
    elim (w.some best refl) [
      | inl (is, le) ↦ subst (IsWorstEnd g leading times (n + 1)) (sym is) (record {
        before = (let b = so.before in omega arith);
        ends = so.ends;
        time = so.time;
        at = so.at;
        slack_is = so.slack_is;
        least = λ j a h free at. elim (cases_eq j n) [
          | inl e ↦ (let same = same_slack g times n j slack s.time a s.at s.is e at in omega (arith, ints))
          | inr other ↦ so.least j a (omega arith) free at
        ];
        first = so.first;
      })
      | inr (is, less) ↦ subst (IsWorstEnd g leading times (n + 1)) (sym is) (record {
        before = omega arith;
        ends = off;
        time = s.time;
        at = s.at;
        slack_is = s.is;
        least = λ j a h free at. elim (cases_eq j n) [
          | inl e ↦ (let same = same_slack g times n j slack s.time a s.at s.is e at in omega (arith, ints))
          | inr other ↦ (let le = so.least j a (omega arith) free at in omega (arith, ints))
        ];
        first = λ j a h free at. (let le = so.least j a h free at in omega (arith, ints));
      })
    ]

inner_is : (r d : ℤ) → IsWithin 1 r → IsWithin 1 d → to_z w128 (of_z w128 r) -ℤ to_z w128 (of_z w128 d) ≡ r -ℤ d
inner_is r d u v =
    let r_is : to_z w128 (of_z w128 r) ≡ r = to_z-of_z w128 r (wide r (within_more 1 (2 ^ 31 + 6) r (omega arith) u)) in
    let d_is : to_z w128 (of_z w128 d) ≡ d = to_z-of_z w128 d (wide d (within_more 1 (2 ^ 31 + 6) d (omega arith) v)) in
    rw (r_is, d_is) refl

pub slack_made : (g : Graph) (j : ℕ) (s : Sink) (times : List (Option ℤ)) (a : ℤ) → IsGraph g → IsSmall g → j < length g.sinks → s ≡ sink_at g j
    → ((v : ℕ) → v < net_count g → IsHeldWithin (time_at times v)) → get_or times s.net None ≡ Some a
    → Differ (to_z w128 (of_z w128 s.required) -ℤ to_z w128 (of_z w128 s.delay)) a
slack_made g j s times a graph small j_n is held at =
    let w = sink_within g j s small j_n is in
    let e = inner_is s.required s.delay w.0 w.1 in
    let h = held s.net (subst (λ (t : Sink). t.net < net_count g) (sym is) (graph.owners j j_n)) in
    let same : Some h.time ≡ Some a = sym h.is ∙ at in
    let time_is : h.time ≡ a = cc in
    differ_within (to_z w128 (of_z w128 s.required) -ℤ to_z w128 (of_z w128 s.delay)) a
    (subst (IsWithin (2 ^ 30 + 2)) (sym e) (within_more 2 (2 ^ 30 + 2) (s.required -ℤ s.delay) (omega arith) (difference_within 1 s.required s.delay w.0 w.1)))
    (subst (IsWithin (2 ^ 30 + 2)) time_is h.within)

pub slack_to_is : (g : Graph) (j : ℕ) (s : Sink) (times : List (Option ℤ)) (a x : ℤ) → IsSmall g → j < length g.sinks → s ≡ sink_at g j
    → get_or times s.net None ≡ Some a → x ≡ (to_z w128 (of_z w128 s.required) -ℤ to_z w128 (of_z w128 s.delay)) -ℤ a → IsSlackTo g times j x
slack_to_is g j s times a x small j_n is at x_is =
    let w = sink_within g j s small j_n is in
    record {
      time = a;
      at = ap (λ (t : Sink). time_at times t.net) (sym is) ∙ at;
      is = x_is ∙ ap (λ (z : ℤ). z -ℤ a) (inner_is s.required s.delay w.0 w.1) ∙ ap (λ (t : Sink). (t.required -ℤ t.delay) -ℤ a) is;
    }
