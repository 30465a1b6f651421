-- What a signal does at the nodes of a net.
use Rattle.std.proofs.Common.{◌≡◌, ℕ, ◌+◌, ◌*◌, ◌<◌, true, false, ℤ, pos, ◌-ℤ◌, List, [], ◌∷◌, ◌++◌, map, length, get_or, refl, sym, ap, ◌∙◌, subst, arith, Option, Some, None, option_map}
use Rattle.std.specs.List.{cons_option, filter_map, range_with_len}
use Rattle.std.proofs.lemmas.List.{append-nil, append_assoc, get_or-map, length-map, map-append}
use Rattle.std.proofs.lemmas.List.FromFn.{get_or-map-range_with_len, length-map-range_with_len}
use Rattle.elmore.specs.Delay.{is_odd}
use Rattle.cut_laws.specs.Walks.{End, nothing, sink, Signal, TimedNet, end_at, late_at}
use Rattle.elmore.specs.Trees.{total_capacitance, IsTree}
use Rattle.elmore.specs.Wire.{delay_in}
use Rattle.elmore.specs.declared.parts.Sink.{Sink}
use Rattle.elmore.specs.declared.tree.Node.{Node}
use Rattle.vg_retime.proofs.SizeLemmas.{late_value}
use Rattle.vg_retime.specs.declared.walk_net.End.TheVariants.{Nothing, Sink as SinkHere, Passes}
use Rattle.vg_retime.proofs.RangeLemmas.{found_at, found_none, kept_more}
use Rattle.vg_retime.specs.Steps.{signal_of, IsSizedEnd, IsSizedNet}
use Rattle.vg_retime.specs.Times.{lates_in, left_by}
use Rattle.vg_retime.specs.WalkNets.{WalkNet, timed, walk_end}
use Rattle.vg_retime.specs.Ways.{is_wrong, wrong_node}
use Rattle.vg_retime.specs.declared.signals.Signal.{Signal as SignalHere}
use Rattle.vg_retime.specs.declared.walk_net.End.{End as EndHere}

-- what the net keeps at a node
pub end_here : (net : WalkNet) (ends : List EndHere) (i : ℕ) (e : EndHere) → net.ends ≡ map walk_end ends → i < length ends → e ≡ get_or ends i e
    → end_at (timed net) i ≡ walk_end e
end_here net ends i e is low here =
    ap (λ (xs : List End). get_or xs i nothing) is ∙ get_or-map walk_end ends i e nothing low ∙ ap walk_end (sym here)

pub ends_size : (net : WalkNet) (ends : List EndHere) → net.ends ≡ map walk_end ends → length net.ends ≡ length ends
ends_size net ends is = ap (λ (xs : List End). length xs) is ∙ length-map ends walk_end

-- when the signal comes there
pub late_here : (net : TimedNet) (s : Signal) (lates : List ℕ) (i : ℕ) → lates ≡ lates_in net s → i < length net.tree → get_or lates i 0 ≡ late_at net s i
late_here net s lates i is low = ap (λ (xs : List ℕ). get_or xs i 0) is ∙ get_or-map-range_with_len (late_at net s) 0 (length net.tree) i i 0 low (omega arith)

pub lates_size : (net : TimedNet) (s : Signal) (lates : List ℕ) → lates ≡ lates_in net s → length lates ≡ length net.tree
lates_size net s lates is = ap (λ (xs : List ℕ). length xs) is ∙ length-map-range_with_len (late_at net s) 0 (length net.tree)

-- one signal more is passed on, or none
pub pass_next : (f : ℕ → Option Signal) (i : ℕ) (start old : List SignalHere) (o : Option SignalHere)
    → map signal_of old ≡ map signal_of start ++ filter_map f (range_with_len 0 i) → option_map signal_of o ≡ f i
    → map signal_of (old ++ cons_option o []) ≡ map signal_of start ++ filter_map f (range_with_len 0 (i + 1))
pass_next f i start old o before here =
    map-append signal_of old (cons_option o [])
    ∙ (λ k. before k ++ mapped o k)
    ∙ append_assoc (map signal_of start) (filter_map f (range_with_len 0 i)) (cons_option (option_map signal_of o) [])
    ∙ ap (λ (x : Option Signal). map signal_of start ++ (filter_map f (range_with_len 0 i) ++ cons_option x [])) here
    ∙ ap (λ (xs : List Signal). map signal_of start ++ xs) (sym (kept_more f i))
  where
    mapped : (x : Option SignalHere) → map signal_of (cons_option x []) ≡ cons_option (option_map signal_of x) []
    mapped None = refl
    mapped (Some x) = refl

-- the first wrong node
pub wrong_at : (net : WalkNet) (s : Signal) (i : ℕ) → i < length net.ends → ((k : ℕ) → k < i → is_wrong (is_odd s.inverters) (end_at (timed net) k) ≡ false)
    → is_wrong (is_odd s.inverters) (end_at (timed net) i) ≡ true → wrong_node net s ≡ Some i
wrong_at net s i low none here =
    found_at (λ w. is_wrong (is_odd s.inverters) (end_at (timed net) w)) 0 (length net.ends) i (omega arith) (omega arith) (λ k k_low k_high. none k k_high) here

pub none_wrong : (net : WalkNet) (s : Signal) → ((k : ℕ) → k < length net.ends → is_wrong (is_odd s.inverters) (end_at (timed net) k) ≡ false)
    → wrong_node net s ≡ None
none_wrong net s none =
    found_none (λ w. is_wrong (is_odd s.inverters) (end_at (timed net) w)) 0 (length net.ends) (λ k k_low k_high. none k (omega arith))

-- a signal more, or none
pub pass_some : (f : ℕ → Option Signal) (i : ℕ) (start old new : List SignalHere) (o : Option SignalHere) (next : SignalHere) → new ≡ old ++ next ∷ []
    → map signal_of old ≡ map signal_of start ++ filter_map f (range_with_len 0 i) → option_map signal_of o ≡ f i → o ≡ Some next
    → map signal_of new ≡ map signal_of start ++ filter_map f (range_with_len 0 (i + 1))
pass_some f i start old new o next is before here some =
    ap (map signal_of) is ∙ pass_next f i start old (Some next) before (ap (option_map signal_of) (sym some) ∙ here)

none_of : (o : Option SignalHere) → ((x : SignalHere) → o ≡ Some x → ⊥) → o ≡ None
none_of None never = refl
none_of (Some x) never = absurd (never x refl)

pub pass_none : (f : ℕ → Option Signal) (i : ℕ) (start old new : List SignalHere) (o : Option SignalHere) → new ≡ old
    → map signal_of old ≡ map signal_of start ++ filter_map f (range_with_len 0 i) → option_map signal_of o ≡ f i → ((x : SignalHere) → o ≡ Some x → ⊥)
    → map signal_of new ≡ map signal_of start ++ filter_map f (range_with_len 0 (i + 1))
pass_none f i start old new o is before here never =
    ap (map signal_of) (is ∙ sym (append-nil old)) ∙ pass_next f i start old None before (ap (option_map signal_of) (sym (none_of o never)) ∙ here)

-- what stands at a node is within the limits
pub sized_here : (count : ℕ) (net : WalkNet) (ends : List EndHere) (i : ℕ) (e : EndHere) → IsSizedNet count net → net.ends ≡ map walk_end ends → i < length ends
    → e ≡ get_or ends i e → IsSizedEnd count (walk_end e)
sized_here count net ends i e sized is low here =
    subst (IsSizedEnd count) (end_here net ends i e is low here) (sized.ends i nothing (let size = ends_size net ends is in omega (arith, size, low)))

-- what the sink there has left
pub left_here : (net : WalkNet) (s : Signal) (ends : List EndHere) (lates : List ℕ) (i : ℕ) (e : EndHere) (goal : Sink) (left : ℤ) → net.ends ≡ map walk_end ends
    → i < length ends → e ≡ get_or ends i e → walk_end e ≡ sink goal → lates ≡ lates_in (timed net) s → i < length net.tree
    → left ≡ goal.required -ℤ pos (get_or lates i 0) → left_by (end_at (timed net) i) (late_at (timed net) s i) ≡ Some left
left_here net s ends lates i e goal left is low here sink_is lates_are low_tree left_is =
    (λ k. left_by ((end_here net ends i e is low here ∙ sink_is) k) (sym (late_here (timed net) s lates i lates_are low_tree) k)) ∙ ap (λ (x : ℤ). Some x) (sym left_is)

-- or no sink
pub none_here : (net : WalkNet) (s : Signal) (ends : List EndHere) (i : ℕ) (e : EndHere) → net.ends ≡ map walk_end ends → i < length ends → e ≡ get_or ends i e
    → ((goal : Sink) → e ≡ SinkHere goal → ⊥) → left_by (end_at (timed net) i) (late_at (timed net) s i) ≡ None
none_here net s ends i e is low here never =
    ap (λ (x : End). left_by x (late_at (timed net) s i)) (end_here net ends i e is low here) ∙ by_end e never
  where
    by_end : (x : EndHere) → ((goal : Sink) → x ≡ SinkHere goal → ⊥) → left_by (walk_end x) (late_at (timed net) s i) ≡ None
    by_end Nothing h = refl
    by_end (SinkHere goal) h = absurd (h goal refl)
    by_end (Passes rep next) h = refl

-- the time at which a signal comes, as it is computed
pub late_made : (net : TimedNet) (s : Signal) (own nodes : List Node) (i r total delay : ℕ) (delays all : List ℤ) → own ≡ net.tree → nodes ≡ own → IsTree net.tree
    → r ≡ s.r → total ≡ total_capacitance nodes → delays ≡ all → get_or all i (pos 0) ≡ pos (delay_in own i) → get_or delays i (pos 0) ≡ pos delay
    → s.late + r * total + delay ≡ late_at net s i
late_made net s own nodes i r total delay delays all own_is nodes_are a_tree r_is total_is delays_are all_is delay_is =
    let whole : total ≡ total_capacitance net.tree = total_is ∙ ap total_capacitance (nodes_are ∙ own_is) in
    let driven : r * total ≡ s.r * total_capacitance net.tree = λ k. r_is k * whole k in
    let wire : pos (delay_in net.tree i) ≡ pos delay =
    ap (λ (t : List Node). pos (delay_in t i)) (sym own_is) ∙ sym all_is ∙ ap (λ (xs : List ℤ). get_or xs i (pos 0)) (sym delays_are) ∙ delay_is in
    ap (λ (n : ℕ). s.late + n + delay) driven ∙ late_value net s i delay a_tree wire
