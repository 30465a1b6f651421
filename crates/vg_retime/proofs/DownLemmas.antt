-- The way down, signal by signal.
use Rattle.std.proofs.Common.{◌≡◌, ◌⊎◌, ℕ, zero, suc, ◌+◌, ◌<◌, ◌≤◌, eqb, Bool, true, false, cond, ℤ, List, [], ◌∷◌, ◌++◌, map, take, drop, length, get_or, refl, sym, ap, ◌∙◌, subst, arith, inl, inr, All, Contains, Option, Some, None, option_map}
use Rattle.std.specs.Prelude.{IfSome}
use Rattle.std.specs.List.{cons_option, filter_map, list_any, slice_get, IsDistinct}
use Rattle.std.proofs.lemmas.Bool.{false≢true}
use Rattle.std.proofs.lemmas.List.{get_or-map, get_or-take, get_or_default, length-append, length-map, map-append}
use Rattle.std.proofs.lemmas.List.Elements.{All-append}
use Rattle.std.proofs.lemmas.List.FromFn.{get_or-range_with_len, length-range_with_len}
use Rattle.std.proofs.lemmas.Option.{slice_get-map, slice_get_read, slice_get_within, get_or_from_slice_get}
use Rattle.elmore.specs.Path.{nodes as node_numbers}
use Rattle.cut_laws.specs.Walks.{End, nothing, sink, passes, Signal, end_at, late_at, passed, passed_on, reached, IsStopped}
use Rattle.vg_scan.specs.declared.name.NodeName.{NodeName}
use Rattle.vg_design.specs.Designs.{Design}
use Rattle.spef_wire.specs.declared.refusal.Refusal.TheVariants.{Loop}
use Rattle.spef_wire.specs.declared.refusal.Refused.{Refused}
use Rattle.spef_wire.specs.declared.refusal.Refused.TheVariants.{Net, Memory}
use Rattle.vg_design.proofs.LawLemmas.{few_refusals}
use Rattle.vg_retime.proofs.ClimbLemmas.{few_come, no_net}
use Rattle.vg_retime.proofs.LeastLemmas.{from_some}
use Rattle.vg_retime.proofs.ReachedLemmas.{with_net}
use Rattle.vg_retime.proofs.SizeLemmas.{late_small}
use Rattle.vg_retime.proofs.TurnLemmas.{all_done, came, came_contains, contains_came, done_next, flat_next, once_next, parts_at, passed_next, some_next, taken_all}
use Rattle.vg_retime.specs.Refusals.{IsRefusedHere}
use Rattle.vg_retime.specs.Steps.{signal_of, signals_of, first_of, ArePassedOn, IsKept, IsSizedEnd, IsSizedNet, IsFirstWithin, IsSizedSignal, IsUnderWay, IsVisited}
use Rattle.vg_retime.specs.Stops.{IsRefusedDown, IsStoppedDown}
use Rattle.vg_retime.specs.Times.{lefts_in, lefts_of, IsLeastOf, IsTime}
use Rattle.vg_retime.specs.WalkNets.{WalkNet, net_name, timed, IsNetIn}
use Rattle.vg_retime.specs.Ways.{Nets, begins, timed_nets, wrong_in}
use Rattle.vg_retime.specs.declared.climb.First.{First}
use Rattle.vg_retime.specs.declared.signals.Signal.{Signal as SignalHere}
use Rattle.vg_retime.specs.declared.down.Walk.{Walk}

-- ---- sizes of signals

module _ (count at : ℕ) (net : WalkNet) (s : Signal) (sized : IsSizedNet count net) (small : IsSizedSignal count at s) where
  by_end : (w : ℕ) (end : End) (t : Signal) → w < length net.tree → IsSizedEnd count end → passed (timed net) s w end ≡ Some t → IsSizedSignal count (at + 1) t
  by_end w nothing t low h e = absurd (cc)
  by_end w (sink goal) t low h e = absurd (cc)
  by_end w (passes rep None) t low h e = absurd (cc)
  by_end w (passes rep (Some next)) t low (r, k, within) e =
      let late = late_small (timed net) s sized.a_tree sized.limits small.r w low in
      let odd = one_more rep.inverts in
      subst (IsSizedSignal count (at + 1)) (some_is (record { net = next; r = rep.r; late = late_at (timed net) s w + rep.k; inverters = s.inverters + cond rep.inverts 1 0 }) t e)
      (record { net = within; r = r; late = omega (arith, late, small.late, k); inverters = omega (arith, odd, small.inverters) })
    where
      one_more : (b : Bool) → cond b 1 0 ≤ 1
      one_more true = omega arith
      one_more false = omega arith

      some_is : (a b : Signal) → Some a ≡ Some b → a ≡ b
      some_is a b f = cc

  pub passed_sized : All (IsSizedSignal count (at + 1)) (passed_on (timed net) s)
  passed_sized k d low =
      let t = get_or (passed_on (timed net) s) k d in
      let (w, (i, inside, number), e) = from_some (λ (w : ℕ). passed (timed net) s w (end_at (timed net) w)) (node_numbers (length net.tree)) t
      (k, low, get_or_default (passed_on (timed net) s) k t d low) in
      let size = length-range_with_len 0 (length net.tree) in
      let here : i < length net.tree = omega (arith, size, inside) in
      let same : i ≡ w = (let zero_plus : 0 + i ≡ i = omega arith in sym zero_plus ∙ sym (get_or-range_with_len 0 (length net.tree) i w here) ∙ number) in
      let low_w : w < length net.tree = subst (λ (v : ℕ). v < length net.tree) same here in
      by_end w (end_at (timed net) w) t low_w (sized.ends w nothing (let each = sized.one_each in omega (arith, each, low_w))) e

-- a signal stays within what is more
pub more_signal : (count most at turns : ℕ) (t : Signal) → count ≤ most → at ≤ turns → IsSizedSignal count at t → IsSizedSignal most turns t
more_signal count most at turns t more later h = record {
  net = omega (arith, more, h.net);
  r = h.r;
  late = omega (arith, later, h.late);
  inverters = omega (arith, later, h.inverters);
}

-- ---- the first wrong sink

first_appended : (xs : List NodeName) (o : Option NodeName) → slice_get (xs ++ cons_option o []) 0 ≡ first_of (slice_get xs 0) o
first_appended [] None = refl
first_appended [] (Some x) = refl
first_appended (y ∷ xs) o = refl

-- ---- the turn

-- the walk after its next net was noted
pub record IsNoted (old mid : Walk) (id : ℕ) : Type 0 where
  pub first : mid.first ≡ old.first
  pub signals : mid.signals.items ≡ old.signals.items
  pub least : mid.least ≡ old.least
  pub wrong : mid.wrong ≡ old.wrong
  pub come : mid.come ≡ old.come ++ id ∷ []
  pub once : IsDistinct eqb mid.come

-- the signal of a number, as the walk keeps it
pub signal_at : (walk : Walk) (at : ℕ) (s : SignalHere) → at < length walk.signals.items → s ≡ get_or walk.signals.items at s
    → slice_get (signals_of walk) at ≡ Some (signal_of s)
signal_at walk at s low is = slice_get-map signal_of walk.signals.items at ∙ ap (option_map signal_of) (slice_get_read walk.signals.items (length walk.signals.items) at s refl low is)

module _ (d : Design) (prefix : List ℕ) (at : ℕ) (walk : Walk) (way : IsUnderWay d prefix at walk) where
  within : at ≤ length (signals_of walk)
  within = let size = length-map walk.signals.items signal_of in omega (arith, size, way.within)

  -- so many turns have been made as nets have come
  pub few_turns : at ≤ length d.netlist.nets
  few_turns =
      let few = few_come (length d.netlist.nets) (map (λ (t : Signal). t.net) (take at (signals_of walk))) (subst (IsDistinct eqb) way.kept.come way.kept.once) come_inside in
      let mapped = length-map (take at (signals_of walk)) (λ (t : Signal). t.net) in
      let taken = taken_all (signals_of walk) at within in omega (arith, few, mapped, taken)
    where
      come_inside : All (λ i. i < length d.netlist.nets) (map (λ (t : Signal). t.net) (take at (signals_of walk)))
      come_inside k e low =
          let size = length-map (take at (signals_of walk)) (λ (t : Signal). t.net) in
          let inside : k < length (take at (signals_of walk)) = omega (arith, size, low) in
          let taken = taken_all (signals_of walk) at within in
          let low_at : k < at = omega (arith, taken, inside) in
          let signal : IsSizedSignal (length d.netlist.nets) at (get_or (take at (signals_of walk)) k (begins walk.first))
          = subst (IsSizedSignal (length d.netlist.nets) at) (sym (get_or-take at (signals_of walk) k (begins walk.first) low_at))
          (way.sized k (begins walk.first) (omega (arith, low_at, within))) in
          subst (λ (i : ℕ). i < length d.netlist.nets) (sym (get_or-map (λ (t : Signal). t.net) (take at (signals_of walk)) k (begins walk.first) e inside)) signal.net

module _ (d : Design) (prefix : List ℕ) (at : ℕ) (old : Walk) (s : Signal) (way : IsUnderWay d prefix at old) (here : slice_get (signals_of old) at ≡ Some s) where
  -- the net of the next signal is one of the netlist, and the signal is small
  pub next_sized : IsSizedSignal (length d.netlist.nets) at s
  next_sized =
      let low = slice_get_within (signals_of old) at s here in
      subst (IsSizedSignal (length d.netlist.nets) at) (get_or_from_slice_get (signals_of old) at s s here) (way.sized at s low)

  stopped : ((IsNetIn 17 d prefix s.net (way.nets s.net) → ⊥) ⊎ ((t : Signal) × Contains (take at (signals_of old)) t × (t.net ≡ s.net)))
      → IsStopped (timed_nets way.nets) (λ i. IsNetIn 17 d prefix i (way.nets i)) (begins old.first) s
  stopped stops = record {
    k = at;
    before = take at (signals_of old);
    later = drop (suc at) (signals_of old);
    come = sym way.come ∙ parts_at (signals_of old) at s here;
    enough = (let taken = taken_all (signals_of old) at (within d prefix at old way) in omega (arith, taken));
    accepted = way.passed.accepted;
    once = way.passed.once;
    stops = stops;
  }

  again_by : Contains (map (λ (t : Signal). t.net) (take at (signals_of old))) s.net → (t : Signal) × Contains (take at (signals_of old)) t × (t.net ≡ s.net)
  again_by (k, low, is) =
      let size = length-map (take at (signals_of old)) (λ (t : Signal). t.net) in
      let inside : k < length (take at (signals_of old)) = omega (arith, size, low) in (
        get_or (take at (signals_of old)) k s,
        (k, inside, get_or_default (take at (signals_of old)) k (get_or (take at (signals_of old)) k s) s inside),
        sym (get_or-map (λ (t : Signal). t.net) (take at (signals_of old)) k s s.net inside) ∙ is,
      )

  came_old : came (take at (signals_of old)) s.net ≡ list_any (eqb s.net) old.come
  came_old = ap (list_any (eqb s.net)) (sym way.kept.come)

  -- where its net came before, the walk stops
  pub stops_again : list_any (eqb s.net) old.come ≡ true → IsStoppedDown d prefix old.first Loop
  unfolding stopped
  stops_again again =
      let came_before = came_contains (take at (signals_of old)) s.net (came_old ∙ again) in
      record { nets = way.nets; signal = s; stopped = stopped (inr (again_by came_before)); stops = inl (came_before, refl) }

  module _ (new_net : list_any (eqb s.net) old.come ≡ false) where
    new : came (take at (signals_of old)) s.net ≡ false
    new = came_old ∙ new_net

    -- where it is refused too
    pub stops_refused : (refused : Refused) → IsRefusedHere d prefix (net_name d s.net) refused → IsRefusedDown d prefix old.first refused
    unfolding stopped
    stops_refused (Net r) first = record {
      nets = way.nets;
      signal = s;
      stopped = stopped (inl (λ net. net.accepted r (few_refusals r) first.holds));
      stops = inr (λ before. false≢true (sym new ∙ contains_came (take at (signals_of old)) s.net before), first);
    }
    stops_refused Memory h = tt

    -- and else it is passed on
    module _ (net : WalkNet) (is_net : IsNetIn 17 d prefix s.net net) (sized : IsSizedNet (length d.netlist.nets) net) (mid last : Walk) (noted : IsNoted old mid s.net)
        (visited : IsVisited net s mid last) where
      others : Nets
      others = with_net way.nets s.net net

      signals_are : signals_of last ≡ signals_of old ++ passed_on (timed net) s
      signals_are = visited.signals ∙ ap (λ (xs : List SignalHere). map signal_of xs ++ passed_on (timed net) s) noted.signals

      done_are : take (at + 1) (signals_of last) ≡ take at (signals_of old) ++ s ∷ []
      done_are = ap (take (at + 1)) signals_are ∙ done_next timed way.nets (begins old.first) s at net (signals_of old) way.come here new (passed_on (timed net) s)

      kept : IsKept others (take at (signals_of old) ++ s ∷ []) last
      unfolding others
      kept = record {
        come = visited.come
            ∙ noted.come
            ∙ ap (λ (ids : List ℕ). ids ++ s.net ∷ []) way.kept.come
            ∙ sym (map-append (λ (t : Signal). t.net) (take at (signals_of old)) (s ∷ []));
        once = subst (IsDistinct eqb) (sym visited.come) noted.once;
        least = subst (λ (xs : List ℤ). IsLeastOf xs last.least) (sym (flat_next timed way.nets (begins old.first) s at net (signals_of old) way.come here new (λ n t. lefts_in (timed n) t)))
            (visited.least (lefts_of (timed_nets way.nets) (take at (signals_of old))) (subst (IsLeastOf (lefts_of (timed_nets way.nets) (take at (signals_of old)))) (sym noted.least) way.kept.least));
        small = visited.small (subst (λ (o : Option ℤ). IfSome o IsTime) (sym noted.least) way.kept.small);
        wrong = visited.wrong
            ∙ ap (λ (o : Option NodeName). first_of o (wrong_in net s)) (noted.wrong ∙ way.kept.wrong)
            ∙ sym (first_appended (filter_map (λ t. wrong_in (way.nets t.net) t) (take at (signals_of old))) (wrong_in net s))
            ∙ sym (ap (λ (xs : List NodeName). slice_get xs 0) (some_next timed way.nets (begins old.first) s at net (signals_of old) way.come here new wrong_in));
      }

      passed_more : ArePassedOn d prefix others (take at (signals_of old) ++ s ∷ [])
      unfolding others
      passed_more = record {
        accepted = all_done timed way.nets (begins old.first) s at net (signals_of old) way.come here new (IsNetIn 17 d prefix) way.passed.accepted is_net;
        once = once_next timed way.nets (begins old.first) s at net (signals_of old) way.come here new way.passed.once;
      }

      sized_more : All (IsSizedSignal (length d.netlist.nets) (at + 1)) (signals_of old ++ passed_on (timed net) s)
      sized_more =
          All-append (IsSizedSignal (length d.netlist.nets) (at + 1)) (signals_of old) (passed_on (timed net) s)
          (λ k e low. more_signal (length d.netlist.nets) (length d.netlist.nets) at (at + 1) (get_or (signals_of old) k e) (omega arith) (omega arith) (way.sized k e low))
          (passed_sized (length d.netlist.nets) at net s sized next_sized)

      first_is : last.first ≡ old.first
      first_is = visited.first ∙ noted.first

      within_more : at + 1 ≤ length last.signals.items
      within_more =
          let low = slice_get_within (signals_of old) at s here in
          let size = length-append (signals_of old) (passed_on (timed net) s) in
          let whole = ap {B = ℕ} (λ (xs : List Signal). length xs) signals_are in
          let mapped = length-map last.signals.items signal_of in omega (arith, low, size, whole, mapped)

      pub under_next : IsUnderWay d prefix (at + 1) last
      unfolding others
      under_next = record {
        nets = with_net way.nets s.net net;
        come = signals_are ∙ passed_next timed way.nets (begins old.first) s at net (signals_of old) way.come here new
            ∙ ap (λ (f : First). reached (timed_nets (with_net way.nets s.net net)) (begins f) (at + 1)) (sym first_is);
        within = within_more;
        passed = subst (ArePassedOn d prefix (with_net way.nets s.net net)) (sym done_are) passed_more;
        kept = subst (λ (xs : List Signal). IsKept (with_net way.nets s.net net) xs last) (sym done_are) kept;
        sized = subst (All (IsSizedSignal (length d.netlist.nets) (at + 1))) (sym signals_are) sized_more;
      }

-- ---- the beginning and the end

-- the first signal is the one with which the walk begins
first_signal : (d : Design) (prefix : List ℕ) (walk : Walk) → IsUnderWay d prefix 0 walk → signals_of walk ≡ begins walk.first ∷ []
unfolding reached
first_signal d prefix walk way = way.come

pub some_signal : (d : Design) (prefix : List ℕ) (walk : Walk) → IsUnderWay d prefix 0 walk → 0 < length walk.signals.items
some_signal d prefix walk way =
    let one = ap {B = ℕ} (λ (xs : List Signal). length xs) (first_signal d prefix walk way) in
    let size = length-map walk.signals.items signal_of in omega (arith, one, size)

-- its net is the first net
pub first_known : (d : Design) (prefix : List ℕ) (walk : Walk) (first : First) (net : WalkNet) → IsUnderWay d prefix 0 walk → walk.first ≡ first → IsNetIn 17 d prefix first.net net
    → (s : Signal) → slice_get (signals_of walk) 0 ≡ Some s → IsNetIn 17 d prefix s.net net
first_known d prefix walk first net way is known s here =
    subst (λ (id : ℕ). IsNetIn 17 d prefix id net) (ap (λ (f : First). f.net) (sym is) ∙ ap (λ (t : Signal). t.net) (one_is (begins walk.first) s (sym (ap (λ (xs : List Signal). slice_get xs 0) (first_signal d prefix walk way)) ∙ here))) known
  where
    one_is : (a b : Signal) → Some a ≡ Some b → a ≡ b
    one_is a b e = cc

pub begin_down : (d : Design) (prefix : List ℕ) (walk : Walk) → signals_of walk ≡ begins walk.first ∷ [] → IsFirstWithin (length d.netlist.nets) walk.first
    → walk.come ≡ [] → walk.least ≡ None → walk.wrong ≡ None → IsUnderWay d prefix 0 walk
unfolding reached IsDistinct
begin_down d prefix walk signals within none least wrong = record {
  nets = λ i. no_net;
  come = signals;
  within = omega arith;
  passed = record { accepted = λ k e low. absurd (omega arith); once = λ i j e i_j low. absurd (omega arith) };
  kept = record {
    come = none;
    once = subst (IsDistinct eqb) (sym none) tt;
    least = subst (IsLeastOf []) (sym least) refl;
    small = subst (λ (o : Option ℤ). IfSome o IsTime) (sym least) tt;
    wrong = wrong;
  };
  sized = subst (All (IsSizedSignal (length d.netlist.nets) 0)) (sym signals) first_sized;
}
  where
    first_sized : All (IsSizedSignal (length d.netlist.nets) 0) (begins walk.first ∷ [])
    first_sized zero e low = record { net = within.net; r = within.driver.r; late = omega arith; inverters = omega arith }
    first_sized (suc k) e low = absurd (omega arith)
