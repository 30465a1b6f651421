-- The two passes, lead by lead.
use Rattle.std.proofs.Common.{◌≡◌, ◌≢◌, ℕ, ◌+◌, ◌^◌, ◌<◌, ◌≤◌, ◌⊎◌, true, is_some, List, [], ◌∷◌, ◌++◌, length, get_or, set, ℤ, ◌+ℤ◌, ◌-ℤ◌, ◌≤ℤ◌, Option, Some, None, refl, sym, ap, ◌∙◌, subst, arith, inl, inr}
use Rattle.std.proofs.lemmas.Bool.{cases_eq, cases_lt}
use Rattle.std.proofs.lemmas.Int.{ints, to_z-of_z, fits_signed_from_abs}
use mir.Syntax.{w128}
use mir.Val.{SFits, to_z, of_z}
use Rattle.std.proofs.lemmas.List.{get_or-set_same, get_or-set_other}
use Rattle.std.proofs.Math.ListN.{length-set}
use Rattle.sta_graph.specs.declared.graph.Graph.{Graph}
use Rattle.sta_graph.specs.Paths.{owner, lead_at, lead_delay, from_of, to_of, IsGraph}
use Rattle.sta_graph.specs.Orders.{IsLeadOrder, IsWholeOrder}
use Rattle.sta_graph.specs.Passes.{IsWithin, IsSmall, time_at, IsArrival, IsDeadline, IsLater, IsEarlier, IsTaken, IsHeld, IsCarriedOn, IsCarriedBack, IsForward, IsBackward}
use Rattle.sta_graph.proofs.TrailLaws.{trail_append, delay_append, lead_trail}

-- a lead into the net that another comes from has the smaller place
pub before : (g : Graph) (order : List ℕ) (h k : ℕ) → IsLeadOrder g order → h < length order → k < length order
    → to_of g (get_or order h 0) ≡ from_of g (get_or order k 0) → h < k
before g order h k o h_n k_n meets =
    let (i, i_k, same) = o.ready k k_n (get_or order h 0) (o.within h h_n) meets in
    elim (cases_eq i h) [
      | inl e ↦ omega arith
      | inr other ↦ elim (cases_lt i h) [
        | inl low ↦ absurd (o.once i h low h_n same)
        | inr high ↦ omega arith
      ]
    ]

-- a held time is no absent one
pub some_is : (t : Option ℤ) (a : ℤ) → t ≡ Some a → is_some t ≡ true
some_is t a e = ap is_some e

pub by_option : (t : Option ℤ) → (t ≡ None) ⊎ ((a : ℤ) × (t ≡ Some a))
by_option None = inl refl
by_option (Some a) = inr (a, refl)

pub within_more : (b c : ℕ) (z : ℤ) → b ≤ c → IsWithin b z → IsWithin c z
within_more b c z le w =
    let l = w.low in
    let h = w.high in
    record { low = omega (arith, ints); high = omega (arith, ints) }

-- after a change at net w
pub at_other : (times : List (Option ℤ)) (w v : ℕ) (x : Option ℤ) → v ≢ w → time_at (set times w x) v ≡ time_at times v
at_other times w v x other = get_or-set_other times w v x None other

pub at_same : (times : List (Option ℤ)) (w v : ℕ) (x : Option ℤ) → v ≡ w → w < length times → time_at (set times w x) v ≡ x
at_same times w v x same room = ap (time_at (set times w x)) same ∙ get_or-set_same times w x None room

-- each net but w is as it was, so what holds of both holds of all
pub each_time : (times : List (Option ℤ)) (w : ℕ) (x : ℤ) (P : ℕ → ℤ → Type 0) → w < length times
    → ((v : ℕ) (a : ℤ) → time_at times v ≡ Some a → P v a) → P w x
    → (v : ℕ) (a : ℤ) → time_at (set times w (Some x)) v ≡ Some a → P v a
each_time times w x P room old new v a at =
    elim (cases_eq v w) [
      | inl e ↦
          let is : x ≡ a = let q : Some x ≡ Some a = sym (at_same times w v (Some x) e room) ∙ at in cc in
          subst (P v) is (subst (λ (u : ℕ). P u x) (sym e) new)
      | inr other ↦ old v a (sym (at_other times w v (Some x) other) ∙ at)
    ]

-- the first net of the next lead has its arrival
pub from_arrived : (g : Graph) (order : List ℕ) (k : ℕ) (times : List (Option ℤ)) → IsGraph g → IsWholeOrder g order → k < length order
    → IsForward g order k times → (a : ℤ) × (time_at times (from_of g (get_or order k 0)) ≡ Some a)
from_arrived g order k times graph o k_n f =
    elim (by_option (time_at times (from_of g (get_or order k 0)))) [
      | inl none ↦
          let lead = get_or order k 0 in
          let (i, i_m, to) = f.waiting (from_of g lead) (graph.owners _ (graph.lead_sinks lead (o.in_order.within k k_n))) none in
          let (h, h_k, is) = o.in_order.ready k k_n i i_m to in
          let t = f.taken h h_k (omega arith) in
          let at : time_at times (to_of g (get_or order h 0)) ≡ None = ap (λ (j : ℕ). time_at times (to_of g j)) is ∙ ap (time_at times) to ∙ none in
          let there = t.at_to in
          absurd (cc)
      | inr (a, at) ↦ (a, at)
    ]

-- a time that is carried over lead i arrives at its second net
arrives : (g : Graph) (i : ℕ) (f d : ℤ) → i < length g.leads → d ≡ lead_delay g i → IsArrival g (from_of g i) f → IsArrival g (to_of g i) (f +ℤ d)
arrives g i f d i_m is a =
    let e = delay_append g a.trail ((lead_at g i).sink ∷ []) in
    let h = a.attained in
    record {
      start = a.start;
      trail = a.trail ++ ((lead_at g i).sink ∷ []);
      starts = a.starts;
      leads = trail_append g a.start (from_of g i) (to_of g i) a.trail ((lead_at g i).sink ∷ []) a.leads (lead_trail g i i_m);
      attained = omega (arith, ints);
    }

-- what is held of the new time and of an old one is held of the later
of_later : (held : Option ℤ) (time x : ℤ) (P : ℤ → Type 0) → IsLater held time x → P time → ((t : ℤ) → held ≡ Some t → P t) → P x
of_later held time x P l new old =
    elim l.one [
      | inl e ↦ subst P (sym e) new
      | inr e ↦ old x e
    ]

pub of_earlier : (held : Option ℤ) (time x : ℤ) (P : ℤ → Type 0) → IsEarlier held time x → P time → ((t : ℤ) → held ≡ Some t → P t) → P x
of_earlier held time x P l new old =
    elim l.one [
      | inl e ↦ subst P (sym e) new
      | inr e ↦ old x e
    ]

sum_within : (b : ℕ) (f d : ℤ) → IsWithin b f → IsWithin 1 d → IsWithin (b + 1) (f +ℤ d)
sum_within b f d u v =
    let p = u.low in
    let q = u.high in
    let r = v.low in
    let s = v.high in
    record { low = omega (arith, ints); high = omega (arith, ints) }

pub difference_within : (b : ℕ) (f d : ℤ) → IsWithin b f → IsWithin 1 d → IsWithin (b + 1) (f -ℤ d)
difference_within b f d u v =
    let p = u.low in
    let q = u.high in
    let r = v.low in
    let s = v.high in
    record { low = omega (arith, ints); high = omega (arith, ints) }

-- the lead i is carried on: no net moves but its second, which moves up
taken_now : (g : Graph) (times : List (Option ℤ)) (i : ℕ) (x f : ℤ) → to_of g i < length times → from_of g i ≢ to_of g i
    → time_at times (from_of g i) ≡ Some f → (f +ℤ lead_delay g i) ≤ℤ x → IsTaken g (set times (to_of g i) (Some x)) i
taken_now g times i x f room apart at le = record {
  from = f;
  to = x;
  at_from = at_other times (to_of g i) (from_of g i) (Some x) apart ∙ at;
  at_to = at_same times (to_of g i) (to_of g i) (Some x) refl room;
  apart = le;
}

taken_stays : (g : Graph) (times : List (Option ℤ)) (w j : ℕ) (x : ℤ) → w < length times → from_of g j ≢ w
    → ((t : ℤ) → time_at times w ≡ Some t → t ≤ℤ x) → IsTaken g times j → IsTaken g (set times w (Some x)) j
taken_stays g times w j x room apart up t =
    elim (cases_eq (to_of g j) w) [
      | inl e ↦
          let le = up t.to (sym (ap (time_at times) e) ∙ t.at_to) in
          let old = t.apart in
          record {
            from = t.from;
            to = x;
            at_from = at_other times w (from_of g j) (Some x) apart ∙ t.at_from;
            at_to = at_same times w (to_of g j) (Some x) e room;
            apart = omega (arith, ints);
          }
      | inr other ↦ record {
        from = t.from;
        to = t.to;
        at_from = at_other times w (from_of g j) (Some x) apart ∙ t.at_from;
        at_to = at_other times w (to_of g j) (Some x) other ∙ t.at_to;
        apart = t.apart;
      }
    ]

forward_at : (g : Graph) (order : List ℕ) (k i : ℕ) (times : List (Option ℤ)) (x f : ℤ) → IsGraph g → IsSmall g → IsWholeOrder g order
    → k < length order → i ≡ get_or order k 0 → i < length g.leads → IsForward g order k times
    → time_at times (from_of g i) ≡ Some f → IsLater (time_at times (to_of g i)) (f +ℤ lead_delay g i) x
    → IsForward g order (k + 1) (set times (to_of g i) (Some x))
forward_at g order k i times x f graph small o k_n is i_m f_k at l = record {
  count = length-set times (to_of g i) (Some x) ∙ f_k.count;
  attained = each_time times (to_of g i) x (IsArrival g) room f_k.attained
      (of_later _ _ x (IsArrival g (to_of g i)) l (arrives g i f (lead_delay g i) i_m refl (f_k.attained _ f at)) (f_k.attained (to_of g i)));
  bounded = each_time times (to_of g i) x (λ v a. IsWithin (k + 1 + 1) a) room (λ v a e. within_more (k + 1) (k + 1 + 1) a (omega arith) (f_k.bounded v a e))
      (of_later _ _ x (IsWithin (k + 1 + 1)) l (sum_within (k + 1) f (lead_delay g i) (f_k.bounded _ f at) (small.delays _ (graph.lead_sinks i i_m)))
      (λ t e. within_more (k + 1) (k + 1 + 1) t (omega arith) (f_k.bounded _ t e)));
  started = λ v start. at_other times (to_of g i) v (Some x) (λ e. start.none (lead_at g i).sink (record { lead = i; number = i_m; by = refl; to = sym e })) ∙ f_k.started v start;
  waiting = λ v v_n none. elim (cases_eq v (to_of g i)) [
    | inl e ↦ (i, i_m, sym e)
    | inr other ↦ f_k.waiting v v_n (sym (at_other times (to_of g i) v (Some x) other) ∙ none)
  ];
  taken = λ h h_k h_n. elim (cases_eq h k) [
    | inl e ↦
        subst (IsTaken g (set times (to_of g i) (Some x))) (is ∙ ap (λ (m : ℕ). get_or order m 0) (sym e))
        (taken_now g times i x f room (λ same. up k k_n (sym same) is (omega arith)) at l.reaches)
    | inr other ↦
        taken_stays g times (to_of g i) (get_or order h 0) x room (λ same. up h h_n (sym same) refl (omega arith)) l.keeps
        (f_k.taken h (omega arith) h_n)
  ];
}
  where
    room : to_of g i < length times
    room = omega (arith, f_k.count, graph.lead_nets i i_m)

    -- a lead that comes from the changed net stands later
    up : (h : ℕ) → h < length order → {j : ℕ} → to_of g i ≡ from_of g j → j ≡ get_or order h 0 → h ≤ k → ⊥
    up h h_n {j} meets at_h low =
        let later = before g order k h o.in_order k_n h_n (ap (to_of g) (sym is) ∙ meets ∙ ap (from_of g) at_h) in
        absurd (omega arith)

pub forward_step : (g : Graph) (order : List ℕ) (k : ℕ) (times after : List (Option ℤ)) → IsGraph g → IsSmall g → IsWholeOrder g order
    → k < length order → IsForward g order k times → IsCarriedOn g (get_or order k 0) times after → IsForward g order (k + 1) after
forward_step g order k times after graph small o k_n f c =
    subst (IsForward g order (k + 1)) (sym c.changed)
    (forward_at g order k (get_or order k 0) times c.later c.from graph small o k_n refl (o.in_order.within k k_n) f c.at_from c.is_later)

-- the step by lead i, as the code takes it
pub carried_on : (g : Graph) (i from to : ℕ) (delay : ℤ) (times : List (Option ℤ)) (f time x y : ℤ) → from ≡ from_of g i → to ≡ to_of g i → delay ≡ lead_delay g i
    → get_or times from None ≡ Some f → time ≡ f +ℤ delay → IsLater (get_or times to None) time x → y ≡ x
    → IsCarriedOn g i times (set times to (Some y))
carried_on g i from to delay times f time x y a b d at is l same = record {
  from = f;
  later = y;
  at_from = sym (ap (time_at times) a) ∙ at;
  is_later =
      subst (λ (z : ℤ). IsLater (time_at times (to_of g i)) (f +ℤ lead_delay g i) z) (sym same)
      (subst (λ (z : ℤ). IsLater (time_at times (to_of g i)) z x) (is ∙ ap (λ (z : ℤ). f +ℤ z) d)
      (subst (λ (w : ℕ). IsLater (time_at times w) time x) b l));
  changed = ap (λ (w : ℕ). set times w (Some y)) b;
}

pub carried_back : (g : Graph) (i from to : ℕ) (delay : ℤ) (times : List (Option ℤ)) (t time x y : ℤ) → from ≡ from_of g i → to ≡ to_of g i → delay ≡ lead_delay g i
    → get_or times to None ≡ Some t → time ≡ t -ℤ delay → IsEarlier (get_or times from None) time x → y ≡ x
    → IsCarriedBack g i times (set times from (Some y))
carried_back g i from to delay times t time x y a b d at is l same = record {
  to = t;
  earlier = y;
  at_to = sym (ap (time_at times) b) ∙ at;
  is_earlier =
      subst (λ (z : ℤ). IsEarlier (time_at times (from_of g i)) (t -ℤ lead_delay g i) z) (sym same)
      (subst (λ (z : ℤ). IsEarlier (time_at times (from_of g i)) z x) (is ∙ ap (λ (z : ℤ). t -ℤ z) d)
      (subst (λ (w : ℕ). IsEarlier (time_at times w) time x) a l));
  changed = ap (λ (w : ℕ). set times w (Some y)) a;
}

-- the second net of the lead before the place k has its required time
pub to_required : (g : Graph) (order : List ℕ) (k b : ℕ) (times : List (Option ℤ)) → IsGraph g → IsWholeOrder g order → k < length order
    → IsBackward g order (k + 1) b times → (r : ℤ) × (time_at times (to_of g (get_or order k 0)) ≡ Some r)
to_required g order k b times graph o k_n f =
    elim (by_option (time_at times (to_of g (get_or order k 0)))) [
      | inl none ↦
          let lead = get_or order k 0 in
          let (i, i_m, from) = f.waiting (to_of g lead) (graph.lead_nets lead (o.in_order.within k k_n)) none in
          let (h, h_n, is) = o.all i i_m in
          let meets : to_of g (get_or order k 0) ≡ from_of g (get_or order h 0) = sym from ∙ ap (from_of g) (sym is) in
          let later = before g order k h o.in_order k_n h_n meets in
          let t = f.taken h (omega arith) h_n in
          let at : time_at times (from_of g (get_or order h 0)) ≡ None = ap (time_at times) (sym meets) ∙ none in
          let there = t.at_from in
          absurd (cc)
      | inr (r, at) ↦ (r, at)
    ]

-- a time that is carried back over lead i is required at its first net
required_at : (g : Graph) (i : ℕ) (r d : ℤ) → i < length g.leads → d ≡ lead_delay g i → IsDeadline g (to_of g i) r → IsDeadline g (from_of g i) (r -ℤ d)
required_at g i r d i_m is a =
    let h = a.attained in
    record {
      last = a.last;
      trail = (lead_at g i).sink ∷ a.trail;
      ends = a.ends;
      leads = (refl, to_of g i, record { lead = i; number = i_m; by = refl; to = refl }, a.leads);
      attained = omega (arith, ints);
    }

taken_back : (g : Graph) (times : List (Option ℤ)) (i : ℕ) (x t : ℤ) → from_of g i < length times → to_of g i ≢ from_of g i
    → time_at times (to_of g i) ≡ Some t → x ≤ℤ (t -ℤ lead_delay g i) → IsTaken g (set times (from_of g i) (Some x)) i
taken_back g times i x t room apart at le = record {
  from = x;
  to = t;
  at_from = at_same times (from_of g i) (from_of g i) (Some x) refl room;
  at_to = at_other times (from_of g i) (to_of g i) (Some x) apart ∙ at;
  apart = omega (arith, ints);
}

taken_back_stays : (g : Graph) (times : List (Option ℤ)) (w j : ℕ) (x : ℤ) → w < length times → to_of g j ≢ w
    → ((t : ℤ) → time_at times w ≡ Some t → x ≤ℤ t) → IsTaken g times j → IsTaken g (set times w (Some x)) j
taken_back_stays g times w j x room apart down t =
    elim (cases_eq (from_of g j) w) [
      | inl e ↦
          let le = down t.from (sym (ap (time_at times) e) ∙ t.at_from) in
          let old = t.apart in
          record {
            from = x;
            to = t.to;
            at_from = at_same times w (from_of g j) (Some x) e room;
            at_to = at_other times w (to_of g j) (Some x) apart ∙ t.at_to;
            apart = omega (arith, ints);
          }
      | inr other ↦ record {
        from = t.from;
        to = t.to;
        at_from = at_other times w (from_of g j) (Some x) other ∙ t.at_from;
        at_to = at_other times w (to_of g j) (Some x) apart ∙ t.at_to;
        apart = t.apart;
      }
    ]

-- a time that moves down is still held where it was
pub held_stays : (g : Graph) (times : List (Option ℤ)) (w j : ℕ) (x : ℤ) → w < length times
    → ((t : ℤ) → time_at times w ≡ Some t → x ≤ℤ t) → IsHeld g times j → IsHeld g (set times w (Some x)) j
held_stays g times w j x room down h =
    elim (cases_eq (owner g j) w) [
      | inl e ↦
          let le = down h.time (sym (ap (time_at times) e) ∙ h.at) in
          let old = h.in_time in
          record { time = x; at = at_same times w (owner g j) (Some x) e room; in_time = omega (arith, ints) }
      | inr other ↦ record { time = h.time; at = at_other times w (owner g j) (Some x) other ∙ h.at; in_time = h.in_time }
    ]

backward_at : (g : Graph) (order : List ℕ) (k i b : ℕ) (times : List (Option ℤ)) (x r : ℤ) → IsGraph g → IsSmall g → IsWholeOrder g order
    → k < length order → i ≡ get_or order k 0 → i < length g.leads → IsBackward g order (k + 1) b times
    → time_at times (to_of g i) ≡ Some r → IsEarlier (time_at times (from_of g i)) (r -ℤ lead_delay g i) x
    → IsBackward g order k (b + 1) (set times (from_of g i) (Some x))
backward_at g order k i b times x r graph small o k_n is i_m f_k at l = record {
  count = length-set times (from_of g i) (Some x) ∙ f_k.count;
  attained = each_time times (from_of g i) x (IsDeadline g) room f_k.attained
      (of_earlier _ _ x (IsDeadline g (from_of g i)) l (required_at g i r (lead_delay g i) i_m refl (f_k.attained _ r at)) (f_k.attained (from_of g i)));
  bounded = each_time times (from_of g i) x (λ v a. IsWithin (b + 1) a) room (λ v a e. within_more b (b + 1) a (omega arith) (f_k.bounded v a e))
      (of_earlier _ _ x (IsWithin (b + 1)) l (difference_within b r (lead_delay g i) (f_k.bounded _ r at) (small.delays _ (graph.lead_sinks i i_m)))
      (λ t e. within_more b (b + 1) t (omega arith) (f_k.bounded _ t e)));
  ended = λ j ends. held_stays g times (from_of g i) j x room l.keeps (f_k.ended j ends);
  waiting = λ v v_n none. elim (cases_eq v (from_of g i)) [
    | inl e ↦ (i, i_m, sym e)
    | inr other ↦ f_k.waiting v v_n (sym (at_other times (from_of g i) v (Some x) other) ∙ none)
  ];
  taken = λ h k_h h_n. elim (cases_eq h k) [
    | inl e ↦
        subst (IsTaken g (set times (from_of g i) (Some x))) (is ∙ ap (λ (m : ℕ). get_or order m 0) (sym e))
        (taken_back g times i x r room (λ same. down k k_n same is (omega arith)) at l.reaches)
    | inr other ↦
        taken_back_stays g times (from_of g i) (get_or order h 0) x room (λ same. down h h_n same refl (omega arith)) l.keeps
        (f_k.taken h (omega arith) h_n)
  ];
}
  where
    room : from_of g i < length times
    room = omega (arith, f_k.count, graph.owners _ (graph.lead_sinks i i_m))

    -- a lead into the changed net stands before
    down : (h : ℕ) → h < length order → {j : ℕ} → to_of g j ≡ from_of g i → j ≡ get_or order h 0 → k ≤ h → ⊥
    down h h_n {j} meets at_h low =
        let earlier = before g order h k o.in_order h_n k_n (ap (to_of g) (sym at_h) ∙ meets ∙ ap (from_of g) is) in
        absurd (omega arith)

pub backward_step : (g : Graph) (order : List ℕ) (k m b c : ℕ) (times after : List (Option ℤ)) → IsGraph g → IsSmall g → IsWholeOrder g order
    → k < length order → m ≡ k + 1 → c ≡ b + 1 → IsBackward g order m b times → IsCarriedBack g (get_or order k 0) times after → IsBackward g order k c after
backward_step g order k m b c times after graph small o k_n next more f by =
    subst (IsBackward g order k c) (sym by.changed)
    (subst (λ (n : ℕ). IsBackward g order k n (set times (from_of g (get_or order k 0)) (Some by.earlier))) (sym more)
    (backward_at g order k (get_or order k 0) b times by.earlier by.to graph small o k_n refl (o.in_order.within k k_n)
    (subst (λ (n : ℕ). IsBackward g order n b times) next f) by.at_to by.is_earlier))

-- what is within a bound on a path's sums fits an i128, with one delay more
pub sum_bound : (b : ℕ) (f d : ℤ) → b ≤ 2 ^ 30 + 2 → IsWithin b f → IsWithin 1 d → IsWithin (2 ^ 30 + 3) (f +ℤ d)
sum_bound b f d le u v = within_more (b + 1) (2 ^ 30 + 3) (f +ℤ d) (omega arith) (sum_within b f d u v)

pub difference_bound : (b : ℕ) (f d : ℤ) → b ≤ 2 ^ 30 + 2 → IsWithin b f → IsWithin 1 d → IsWithin (2 ^ 30 + 3) (f -ℤ d)
difference_bound b f d le u v = within_more (b + 1) (2 ^ 30 + 3) (f -ℤ d) (omega arith) (difference_within b f d u v)

pub fits : (z : ℤ) → IsWithin (2 ^ 30 + 3) z → SFits w128 z
fits z w =
    let l = w.low in
    let h = w.high in
    fits_signed_from_abs w128 z (omega (arith, ints))

whole : (b : ℕ) (z : ℤ) → b ≤ 2 ^ 30 + 3 → IsWithin b z → to_z w128 (of_z w128 z) ≡ z
whole b z le w = to_z-of_z w128 z (fits z (within_more b (2 ^ 30 + 3) z le w))

-- sums and differences as a machine makes them
pub sum_is : (b : ℕ) (f d : ℤ) → b ≤ 2 ^ 30 + 2 → IsWithin b f → IsWithin 1 d
    → SFits w128 (to_z w128 (of_z w128 f) +ℤ to_z w128 (of_z w128 d)) × (to_z w128 (of_z w128 (to_z w128 (of_z w128 f) +ℤ to_z w128 (of_z w128 d))) ≡ f +ℤ d)
sum_is b f d le u v =
    let m = sum_bound b f d le u v in
    let s : to_z w128 (of_z w128 f) +ℤ to_z w128 (of_z w128 d) ≡ f +ℤ d =
    rw (whole b f (omega arith) u, whole 1 d (omega arith) v) refl in
    (subst (SFits w128) (sym s) (fits (f +ℤ d) m), ap (λ (z : ℤ). to_z w128 (of_z w128 z)) s ∙ whole (2 ^ 30 + 3) (f +ℤ d) (omega arith) m)

pub difference_is : (b : ℕ) (f d : ℤ) → b ≤ 2 ^ 30 + 2 → IsWithin b f → IsWithin 1 d
    → SFits w128 (to_z w128 (of_z w128 f) -ℤ to_z w128 (of_z w128 d)) × (to_z w128 (of_z w128 (to_z w128 (of_z w128 f) -ℤ to_z w128 (of_z w128 d))) ≡ f -ℤ d)
difference_is b f d le u v =
    let m = difference_bound b f d le u v in
    let s : to_z w128 (of_z w128 f) -ℤ to_z w128 (of_z w128 d) ≡ f -ℤ d =
    rw (whole b f (omega arith) u, whole 1 d (omega arith) v) refl in
    (subst (SFits w128) (sym s) (fits (f -ℤ d) m), ap (λ (z : ℤ). to_z w128 (of_z w128 z)) s ∙ whole (2 ^ 30 + 3) (f -ℤ d) (omega arith) m)

pub delay_within : (g : Graph) (i : ℕ) (delay : ℤ) → IsGraph g → IsSmall g → i < length g.leads → delay ≡ lead_delay g i → IsWithin 1 delay
delay_within g i delay graph small i_m e = subst (IsWithin 1) (sym e) (small.delays _ (graph.lead_sinks i i_m))
