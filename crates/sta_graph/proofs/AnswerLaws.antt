-- The times of both passes are the latest arrivals and the earliest required times.
use Rattle.std.proofs.Common.{◌≡◌, ℕ, ◌+◌, ◌^◌, ◌<◌, false, Bool, List, [], ◌∷◌, length, get_or, ℤ, ◌+ℤ◌, ◌≤ℤ◌, Option, Some, None, refl, sym, ap, ◌∙◌, subst, arith, inl, inr}
use Rattle.std.proofs.lemmas.Int.{ints}
use Rattle.sta_graph.specs.declared.graph.Graph.{Graph}
use Rattle.sta_graph.specs.Paths.{net_count, owner, delay_of, arrival_of, lead_at, lead_delay, from_of, to_of, IsGraph, LeadsTo, IsTrail, delay_along, IsPath, slack_of, IsLatest, IsEarliest, IsLeastThrough, IsLeast, IsFirstEnd}
use Rattle.sta_graph.specs.Orders.{IsReadyBy, IsLeftNet, IsPeeled, IsWholeOrder}
use Rattle.sta_graph.specs.Passes.{IsSmall, time_at, IsTaken, IsForward, IsBackward}
use Rattle.sta_graph.specs.declared.slacks.End.{End}
use Rattle.sta_graph.specs.Begins.{AreMarked, is_marked, IsHeldWithin, AreDifferences, IsWorstEnd, IsWorstSo, end_slack}
use Rattle.sta_graph.specs.Answers.{IsFirstAfterCycle, AreSlacks}
use Rattle.sta_graph.proofs.CycleLaws.{left_after_cycle, ready_no_cycle, order_count}
use Rattle.sta_graph.proofs.TimeLaws.{least_through, to_end, to_end_attained}
use Rattle.sta_graph.proofs.BeginLaws.{end_free, free_end}
use Rattle.sta_graph.proofs.PassLaws.{by_option, within_more}

-- a lead has its effect, at its nets and by its sink
taken_by : (g : Graph) (order : List ℕ) (times : List (Option ℤ)) (j x : ℕ) → IsWholeOrder g order
    → ((k : ℕ) → k < length order → IsTaken g times (get_or order k 0)) → LeadsTo g j x
    → (f : ℤ) × (t : ℤ) × (time_at times (owner g j) ≡ Some f) × (time_at times x ≡ Some t) × ((f +ℤ delay_of g j) ≤ℤ t)
taken_by g order times j x o taken l =
    let (k, k_n, is) = o.all l.lead l.number in
    let t = subst (IsTaken g times) is (taken k k_n) in
    let same : lead_delay g l.lead ≡ delay_of g j = ap (delay_of g) l.by in
    let old = t.apart in
    (t.from, t.to, ap (λ (s : ℕ). time_at times (owner g s)) (sym l.by) ∙ t.at_from, sym (ap (time_at times) l.to) ∙ t.at_to, omega (arith, ints))

same_time : (times : List (Option ℤ)) (u v : ℕ) (a b : ℤ) → u ≡ v → time_at times u ≡ Some a → time_at times v ≡ Some b → a ≡ b
same_time times u v a b e p q = let r : Some a ≡ Some b = sym p ∙ ap (time_at times) e ∙ q in cc

-- times grow along trails by no less than the delays
grows : (g : Graph) (order : List ℕ) (times : List (Option ℤ)) (u v : ℕ) (a b : ℤ) (trail : List ℕ) → IsWholeOrder g order
    → ((k : ℕ) → k < length order → IsTaken g times (get_or order k 0)) → IsTrail g u trail v
    → time_at times u ≡ Some a → time_at times v ≡ Some b → (a +ℤ delay_along g trail) ≤ℤ b
grows g order times u v a b [] o taken at at_u at_v =
    let e = same_time times u v a b at at_u at_v in
    omega (arith, ints)
grows g order times u v a b (j ∷ trail) o taken (own, x, l, more) at_u at_v =
    let (f, t, at_f, at_t, le) = taken_by g order times j x o taken l in
    let rest = grows g order times x v t b trail o taken more at_t at_v in
    let e = same_time times (owner g j) u f a own at_f at_u in
    omega (arith, ints)

pub latest : (g : Graph) (order : List ℕ) (times : List (Option ℤ)) (v : ℕ) → IsGraph g → IsWholeOrder g order → v < net_count g
    → IsForward g order (length order) times → (a : ℤ) × (time_at times v ≡ Some a) × IsLatest g v a
latest g order times v graph o v_n f =
    elim (by_option (time_at times v)) [
      | inl none ↦
          let (i, i_m, to) = f.waiting v v_n none in
          let (k, k_n, is) = o.all i i_m in
          let t = f.taken k k_n k_n in
          let at : time_at times (to_of g (get_or order k 0)) ≡ None = ap (λ (j : ℕ). time_at times (to_of g j)) is ∙ ap (time_at times) to ∙ none in
          let there = t.at_to in
          absurd (cc)
      | inr (a, at) ↦
          let is = f.attained v a at in (
            a,
            at,
            record {
              start = is.start;
              trail = is.trail;
              starts = is.starts;
              leads = is.leads;
              attained = is.attained;
              latest = λ s others start leads. grows g order times s v (arrival_of g s) a others o (λ k k_n. f.taken k k_n k_n) leads (f.started s start) at;
            },
          )
    ]

pub earliest : (g : Graph) (order : List ℕ) (times : List (Option ℤ)) (b v : ℕ) → IsGraph g → IsWholeOrder g order → v < net_count g
    → IsBackward g order 0 b times → (r : ℤ) × (time_at times v ≡ Some r) × IsEarliest g v r
earliest g order times b v graph o v_n f =
    elim (by_option (time_at times v)) [
      | inl none ↦
          let (i, i_m, from) = f.waiting v v_n none in
          let (k, k_n, is) = o.all i i_m in
          let t = f.taken k (omega arith) k_n in
          let at : time_at times (from_of g (get_or order k 0)) ≡ None = ap (λ (j : ℕ). time_at times (from_of g j)) is ∙ ap (time_at times) from ∙ none in
          let there = t.at_from in
          absurd (cc)
      | inr (r, at) ↦
          let is = f.attained v r at in (
            r,
            at,
            record {
              last = is.last;
              trail = is.trail;
              ends = is.ends;
              leads = is.leads;
              attained = is.attained;
              earliest = λ e others ends leads.
                  let h = f.ended e ends in
                  let le = h.in_time in
                  let on = grows g order times v (owner g e) r h.time others o (λ k k_n. f.taken k (omega arith) k_n) leads at h.at in
                  omega (arith, ints);
            },
          )
    ]

-- where each net is ready, all leads are listed
pub whole_where_none : (g : Graph) (order counts : List ℕ) → IsGraph g → IsPeeled g order
    → ((v : ℕ) → v < net_count g → get_or counts v 0 ≡ 0 → IsReadyBy g order (length order) v)
    → ((v : ℕ) → v < net_count g → get_or counts v 0 ≡ 0) → IsWholeOrder g order
whole_where_none g order counts graph p ready none = record {
  in_order = p.in_order;
  all = λ i i_m. ready (to_of g i) (graph.lead_nets i i_m) (none (to_of g i) (graph.lead_nets i i_m)) i i_m refl;
}

pub first_after_cycle : (g : Graph) (order counts : List ℕ) (v : ℕ) → IsPeeled g order
    → ((v : ℕ) → v < net_count g → get_or counts v 0 ≡ 0 → IsReadyBy g order (length order) v)
    → ((v : ℕ) → v < net_count g → 0 < get_or counts v 0 → IsLeftNet g order v)
    → v < net_count g → 0 < get_or counts v 0 → ((u : ℕ) → u < v → get_or counts u 0 ≡ 0) → IsFirstAfterCycle g v
first_after_cycle g order counts v p ready left v_n some none = record {
  net = v_n;
  after = left_after_cycle g order v p (left v v_n some);
  first = λ u u_v. ready_no_cycle g order u p.in_order (ready u (omega arith) (none u u_v));
}

pub held_forward : (g : Graph) (order : List ℕ) (times : List (Option ℤ)) (v : ℕ) → IsGraph g → IsSmall g → IsWholeOrder g order → IsForward g order (length order) times
    → v < net_count g → IsHeldWithin (time_at times v)
held_forward g order times v graph small o f v_n =
    let (a, at, is) = latest g order times v graph o v_n f in
    record { time = a; is = at; within = within_more (length order + 1) (2 ^ 30 + 2) a (omega (arith, order_count g order o.in_order, small.leads)) (f.bounded v a at) }

pub held_backward : (g : Graph) (order : List ℕ) (times : List (Option ℤ)) (v : ℕ) → IsGraph g → IsSmall g → IsWholeOrder g order → IsBackward g order 0 (length order + 2) times
    → v < net_count g → IsHeldWithin (time_at times v)
held_backward g order times v graph small o f v_n =
    let (r, at, is) = earliest g order times (length order + 2) v graph o v_n f in
    record { time = r; is = at; within = within_more (length order + 2) (2 ^ 30 + 2) r (omega (arith, order_count g order o.in_order, small.leads)) (f.bounded v r at) }

pub all_slacks : (g : Graph) (order : List ℕ) (arrivals required : List (Option ℤ)) (slacks : List ℤ) → IsGraph g → IsWholeOrder g order
    → IsForward g order (length order) arrivals → IsBackward g order 0 (length order + 2) required → AreDifferences arrivals required (length arrivals) slacks → AreSlacks g slacks
all_slacks g order arrivals required slacks graph o f b d = record {
  one_each = d.count ∙ f.count;
  least = λ v v_n.
      let (a, at_a, is_a) = latest g order arrivals v graph o v_n f in
      let (r, at_r, is_r) = earliest g order required (length order + 2) v graph o v_n b in
      subst (IsLeastThrough g v) (sym (d.each v a r (omega (arith, f.count)) at_a at_r)) (least_through g v a r is_a is_r);
}

-- no path is worse than its endpoint

path_bound : (g : Graph) (order : List ℕ) (leading : List Bool) (arrivals : List (Option ℤ)) (s e : ℕ) (trail : List ℕ) → IsGraph g → IsWholeOrder g order
    → AreMarked (length g.sinks) (length g.leads) (λ i. (lead_at g i).sink) leading → IsForward g order (length order) arrivals → IsPath g s trail e
    → (a : ℤ) × (time_at arrivals (owner g e) ≡ Some a) × (is_marked leading e ≡ false) × (end_slack g e a ≤ℤ slack_of g s trail e)
path_bound g order leading arrivals s e trail graph o m f path =
    let (a, at, is) = latest g order arrivals (owner g e) graph o (graph.owners e path.ends.sink) f in
    (a, at, end_free g leading e m path.ends, to_end g e a path.ends is s trail path)

pub worst_least : (g : Graph) (order : List ℕ) (leading : List Bool) (arrivals : List (Option ℤ)) (end : End) → IsGraph g → IsWholeOrder g order
    → AreMarked (length g.sinks) (length g.leads) (λ i. (lead_at g i).sink) leading → IsForward g order (length order) arrivals
    → IsWorstEnd g leading arrivals (length g.sinks) end → IsLeast g end.slack × IsFirstEnd g end.slack end.sink
worst_least g order leading arrivals end graph o m f w =
    let ends = free_end g leading end.sink m w.before w.ends in
    let (a, at, is) = latest g order arrivals (owner g end.sink) graph o (graph.owners end.sink w.before) f in
    let got = to_end_attained g end.sink a ends is in
    let same = same_time arrivals (owner g end.sink) (owner g end.sink) w.time a refl w.at at in
    let attained : end.slack ≡ slack_of g is.start is.trail end.sink = w.slack_is ∙ ap (end_slack g end.sink) same ∙ got.1 in (
      record {
        start = is.start;
        trail = is.trail;
        last = end.sink;
        path = got.0;
        attained = attained;
        least = λ s others e path.
            let (b, at_b, free, bound) = path_bound g order leading arrivals s e others graph o m f path in
            let le = w.least e b path.ends.sink free at_b in
            omega (arith, ints);
      },
      record {
        start = is.start;
        trail = is.trail;
        path = got.0;
        attained = attained;
        first = λ s others e low path hit.
            let (b, at_b, free, bound) = path_bound g order leading arrivals s e others graph o m f path in
            let less = w.first e b low free at_b in
            absurd (omega (arith, ints));
      },
    )

pub worst_found : (g : Graph) (order : List ℕ) (leading marks : List Bool) (arrivals times : List (Option ℤ)) (end : End) → IsGraph g → IsWholeOrder g order
    → AreMarked (length g.sinks) (length g.leads) (λ i. (lead_at g i).sink) leading → IsForward g order (length order) arrivals → marks ≡ leading → times ≡ arrivals
    → IsWorstEnd g marks times (length g.sinks) end → IsLeast g end.slack × IsFirstEnd g end.slack end.sink
worst_found g order leading marks arrivals times end graph o m f same_marks same_times w =
    worst_least g order leading arrivals end graph o m f
    (subst (λ (ms : List Bool). IsWorstEnd g ms arrivals (length g.sinks) end) same_marks
    (subst (λ (ts : List (Option ℤ)). IsWorstEnd g marks ts (length g.sinks) end) same_times w))

-- without a cycle each net has a path
pub some_path : (g : Graph) (v : ℕ) (x : ℤ) → IsLeastThrough g v x → (s : ℕ) × (trail : List ℕ) × (e : ℕ) × IsPath g s trail e
some_path g v x l = (l.start, l.trail, l.last, l.path)

-- where there is a net, there is an endpoint
pub some_end : (g : Graph) (order : List ℕ) (leading marks : List Bool) (arrivals required : List (Option ℤ)) → IsGraph g → IsWholeOrder g order → 0 < net_count g
    → AreMarked (length g.sinks) (length g.leads) (λ i. (lead_at g i).sink) leading → IsBackward g order 0 (length order + 2) required → marks ≡ leading
    → IsWorstSo g marks arrivals (length g.sinks) None → ⊥
some_end g order leading marks arrivals required graph o some m b same all =
    let (r, at, is) = earliest g order required (length order + 2) 0 graph o some b in
    let on = all is.last is.ends.sink in
    let off = ap (λ (ms : List Bool). is_marked ms is.last) same ∙ end_free g leading is.last m is.ends in
    absurd (cc)
