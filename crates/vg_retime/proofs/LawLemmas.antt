-- A net that re-times is not refused.
use Rattle.std.proofs.Common.{◌≡◌, ◌≢◌, ◌⊎◌, ℕ, zero, suc, ◌<◌, ◌≤◌, List, [], ◌∷◌, ◌++◌, map, length, get_or, refl, sym, ap, ◌∙◌, subst, arith, All, Contains, inl, inr, Option, Some, None, slice_get}
use Rattle.std.specs.List.{AllPairs}
use Rattle.std.proofs.lemmas.Bool.{cases_lt}
use Rattle.std.proofs.lemmas.List.{get_or_append_left, get_or_at, get_or_default, get_or-map, length-append, length-map}
use Rattle.std.proofs.lemmas.List.Elements.{All-contains, Contains-append_left}
use Rattle.std.proofs.lemmas.Option.{slice_get_within, get_or_from_slice_get}
use Rattle.elmore.specs.declared.parts.Sink.{Sink}
use Rattle.cut_laws.specs.Walks.{Signal, TimedNet, end_at, sink, passed_on, passed_on_by, reached, IsClimb, IsWalk, Meets}
use Rattle.cut_laws.proofs.OneWalkLemmas.{one_walk, one_walk_over, in_walk, reached_grow, walks_go_on}
use Rattle.std.specs.Prelude.{slice_index}
use Rattle.vg_design.specs.Designs.{Design, Joined, name_of}
use Rattle.vg_design.specs.Nets.{names_of}
use Rattle.vg_design.specs.Parts.{driver_of, loaded_tree}
use Rattle.vg_design.specs.declared.time.Timed.{Timed}
use Rattle.vg_design.proofs.LawLemmas.{few_refusals}
use Rattle.vg_design.proofs.NameLemmas.{joined_once}
use Rattle.spef_wire.proofs.AnswerLemmas.{trees_are}
use Rattle.spef_wire.specs.Refusals.{number_of}
use Rattle.spef_wire.specs.declared.refusal.Refusal.{Refusal}
use Rattle.vg_retime.specs.Laws.{RetimedNotRefused}
use Rattle.vg_retime.specs.Passages.{above_at, end_in}
use Rattle.vg_retime.specs.Refusals.{IsFirstHere}
use Rattle.vg_retime.specs.Retimings.{at_end, downward, unknown, upward, IsFirstRefusal, Retimes}
use Rattle.vg_retime.specs.Stops.{IsRise, IsStoppedDown, IsStoppedUp, Stops}
use Rattle.vg_retime.specs.WalkNets.{WalkNet, net_above, net_name, timed, IsNetIn, IsWalkNet}
use Rattle.vg_retime.specs.Ways.{Nets, Way, begins, timed_nets, IsFirstNet, IsWay}
use Rattle.vg_retime.specs.declared.climb.First.{First}
use Rattle.vg_retime.specs.declared.walk_net.Above.TheVariants.{First as IsTop, Open}

-- ---- nets

-- a net of a design is one
same_net : (d : Design) (prefix : List ℕ) (n : Joined) (a b : WalkNet) → IsWalkNet d prefix n a → IsWalkNet d prefix n b → a ≡ b
same_net d prefix n a b p q =
    let trees = trees_are n.par p.tree q.tree p.order q.order p.a_tree q.a_tree in
    let tree : a.tree ≡ b.tree = p.tree_is ∙ (λ i. loaded_tree d n (trees.0 i) (trees.1 i)) ∙ sym q.tree_is in
    let ends : a.ends ≡ b.ends = p.ends_are ∙ ap (map (end_in d prefix n)) trees.1 ∙ sym q.ends_are in
    let names : a.names ≡ b.names = p.names_are ∙ ap (names_of n.par) trees.1 ∙ sym q.names_are in
    let driver : a.driver ≡ b.driver = p.driver_is ∙ ap (driver_of d n) trees.1 ∙ sym q.driver_is in
    let above : a.above ≡ b.above
    = p.above_is ∙ ap (λ (order : List ℕ). above_at d prefix n (name_of n.par (slice_index order 0))) trees.1 ∙ sym q.above_is in
    λ i. record { tree = tree i; ends = ends i; names = names i; driver = driver i; above = above i }

-- so is the net of a number
one_net : (level : ℕ) (d : Design) (prefix : List ℕ) (id : ℕ) (a b : WalkNet) → IsNetIn level d prefix id a → IsNetIn level d prefix id b → a ≡ b
one_net level d prefix id a b p q =
    let joined : p.joined ≡ q.joined = joined_once d (net_name d id) p.joined q.joined p.is_joined q.is_joined in
    same_net d prefix q.joined a b (subst (λ (n : Joined). IsWalkNet d prefix n a) joined p.net_is) q.net_is

-- a net that is accepted is not refused
not_refused : (level : ℕ) (d : Design) (prefix : List ℕ) (id : ℕ) (net : WalkNet) (r : Refusal) → number_of r < level → IsNetIn level d prefix id net
    → IsFirstHere d prefix (net_name d id) r → ⊥
not_refused level d prefix id net r less is first = is.accepted r less first.holds

-- ---- other numbers

-- what no refusal below a number refuses, none of fewer does
module _ (most level : ℕ) (fewer : (r : Refusal) → number_of r < level → number_of r < most) (d : Design) (prefix : List ℕ) where
  less_net : (id : ℕ) (net : WalkNet) → IsNetIn most d prefix id net → IsNetIn level d prefix id net
  less_net id net is = record { accepted = λ r low h. is.accepted r (fewer r low) h; joined = is.joined; is_joined = is.is_joined; net_is = is.net_is }

  less_nets : (nets : Nets) (ids : List ℕ) → All (λ i. IsNetIn most d prefix i (nets i)) ids → All (λ i. IsNetIn level d prefix i (nets i)) ids
  less_nets nets ids all k other low = less_net (get_or ids k other) (nets (get_or ids k other)) (all k other low)

  less_met : (nets : Nets) (signals : List Signal) → All (λ s. IsNetIn most d prefix s.net (nets s.net)) signals
      → All (λ s. IsNetIn level d prefix s.net (nets s.net)) signals
  less_met nets signals all k other low = less_net (get_or signals k other).net (nets (get_or signals k other).net) (all k other low)

  less_first : (id : ℕ) (first : First) → IsFirstNet most d prefix id first → IsFirstNet level d prefix id first
  less_first id first is = record {
    nets = is.nets;
    path = is.path;
    climb = is.climb;
    once = is.once;
    accepted = less_nets is.nets (id ∷ is.path) is.accepted;
    top = is.top;
    driver = is.driver;
  }

  pub less_way : (asked : List ℕ) (way : Way) → IsWay most d prefix asked way → IsWay level d prefix asked way
  less_way asked way is = record {
    id = is.id;
    named = is.named;
    climb = less_first is.id way.first is.climb;
    walk = is.walk;
    met = less_met way.nets way.signals is.met;
  }

abbrev AreAccepted : ℕ → Design → List ℕ → Nets → List ℕ → Type 0
AreAccepted level d prefix nets ids = All (λ i. IsNetIn level d prefix i (nets i)) ids

first_of : (level : ℕ) (d : Design) (prefix : List ℕ) (nets : Nets) (id : ℕ) (ids : List ℕ) → AreAccepted level d prefix nets (id ∷ ids) → IsNetIn level d prefix id (nets id)
first_of level d prefix nets id ids all = all 0 id (omega arith)

rest_of : (level : ℕ) (d : Design) (prefix : List ℕ) (nets : Nets) (id : ℕ) (ids : List ℕ) → AreAccepted level d prefix nets (id ∷ ids) → AreAccepted level d prefix nets ids
rest_of level d prefix nets id ids all k other low = all (suc k) other (omega (arith, low))

some_id : (a b : ℕ) → Some a ≡ Some b → a ≡ b
some_id a b e = cc

-- ---- on the way up

module _ (level : ℕ) (d : Design) (prefix : List ℕ) (nets others : Nets) where
  -- a net that both accept has the same net above
  same_above : (id : ℕ) → IsNetIn level d prefix id (nets id) → IsNetIn level d prefix id (others id) → (timed_nets nets id).above ≡ (timed_nets others id).above
  same_above id p q = ap (λ (n : WalkNet). net_above n.above) (one_net level d prefix id (nets id) (others id) p q)

  -- two climbs from a net end at one net
  same_climb : (id : ℕ) (path more : List ℕ) (first other : ℕ) → IsClimb (timed_nets nets) id path first → IsClimb (timed_nets others) id more other
      → AreAccepted level d prefix nets (id ∷ path) → AreAccepted level d prefix others (id ∷ more) → first ≡ other
  same_climb id [] [] first other a b p q = sym a.0 ∙ b.0
  same_climb id [] (y ∷ more) first other a b p q =
      absurd (let clash : None ≡ Some y = sym a.1 ∙ same_above id (first_of level d prefix nets id [] p) (first_of level d prefix others id (y ∷ more) q) ∙ b.0 in cc)
  same_climb id (x ∷ path) [] first other a b p q =
      absurd (let clash : Some x ≡ None = sym a.0 ∙ same_above id (first_of level d prefix nets id (x ∷ path) p) (first_of level d prefix others id [] q) ∙ b.1 in cc)
  same_climb id (x ∷ path) (y ∷ more) first other a b p q =
      let same : y ≡ x = some_id y x (sym b.0 ∙ sym (same_above id (first_of level d prefix nets id (x ∷ path) p) (first_of level d prefix others id (y ∷ more) q)) ∙ a.0) in
      same_climb x path more first other a.1 (subst (λ z. IsClimb (timed_nets others) z more other) same b.1) (rest_of level d prefix nets id (x ∷ path) p)
      (subst (λ z. AreAccepted level d prefix others (z ∷ more)) same (rest_of level d prefix others id (y ∷ more) q))

  -- what rises over accepted nets stays on the climb
  on_climb : (id : ℕ) (path before : List ℕ) (first at : ℕ) → IsClimb (timed_nets nets) id path first → IsRise (timed_nets others) id before at
      → AreAccepted level d prefix nets (id ∷ path) → AreAccepted level d prefix others before → (later : List ℕ) × (id ∷ path ≡ before ++ at ∷ later)
  on_climb id path [] first at a r p q = (path, ap (λ x. x ∷ path) r)
  on_climb id [] (below ∷ before) first at a (same, (next, up, r)) p q =
      let here : IsNetIn level d prefix id (others id) = subst (λ x. IsNetIn level d prefix x (others x)) (sym same) (first_of level d prefix others below before q) in
      absurd (let clash : None ≡ Some next = sym a.1 ∙ same_above id (first_of level d prefix nets id [] p) here ∙ up in cc)
  on_climb id (x ∷ path) (below ∷ before) first at a (same, (next, up, r)) p q =
      let here : IsNetIn level d prefix id (others id) = subst (λ x. IsNetIn level d prefix x (others x)) (sym same) (first_of level d prefix others below before q) in
      let is : next ≡ x = some_id next x (sym up ∙ sym (same_above id (first_of level d prefix nets id (x ∷ path) p) here) ∙ a.0) in
      let (later, e) = on_climb x path before first at a.1 (subst (λ z. IsRise (timed_nets others) z before at) is r)
      (rest_of level d prefix nets id (x ∷ path) p) (rest_of level d prefix others below before q) in
      (later, ap (λ z. z ∷ x ∷ path) same ∙ ap (λ (l : List ℕ). below ∷ l) e)

-- the climb comes to its end
climb_ends : (nets : ℕ → TimedNet) (id : ℕ) (path : List ℕ) (first : ℕ) → IsClimb nets id path first → Contains (id ∷ path) first
climb_ends nets id [] first a = (0, omega arith, a.0)
climb_ends nets id (x ∷ path) first a = let (i, low, e) = climb_ends nets x path first a.1 in (suc i, omega (arith, low), e)

-- only its end has no net above
top_is_end : (nets : ℕ → TimedNet) (id : ℕ) (path : List ℕ) (first at : ℕ) → IsClimb nets id path first → Contains (id ∷ path) at → (nets at).above ≡ None
    → at ≡ first
top_is_end nets id [] first at a (zero, low, e) none = sym e ∙ a.0
top_is_end nets id [] first at a (suc i, low, e) none = absurd (omega (arith, low))
top_is_end nets id (x ∷ path) first at a (zero, low, e) none =
    absurd (let clash : Some x ≡ None = sym a.0 ∙ ap (λ z. (nets z).above) e ∙ none in cc)
top_is_end nets id (x ∷ path) first at a (suc i, low, e) none = top_is_end nets x path first at a.1 (i, omega (arith, low), e) none

not_twice : (before later : List ℕ) (at : ℕ) → AllPairs (λ a b. a ≢ b) (before ++ at ∷ later) → Contains before at → ⊥
not_twice before later at once (i, low, e) =
    once i (length before) 0 low (omega (arith, length-append before (at ∷ later)))
    (get_or_append_left before (at ∷ later) 0 i low ∙ e' ∙ sym (get_or_at before at later 0 (length before) refl))
  where
    e' : get_or before i 0 ≡ at
    e' = get_or_default before i 0 at low ∙ e

-- a net from which one climbs does not stop on the way up
not_up : (level : ℕ) (d : Design) (prefix : List ℕ) (id : ℕ) (first : First) (r : Refusal) → number_of r < level
    → IsFirstNet level d prefix id first → IsStoppedUp d prefix id r → ⊥
not_up level d prefix id first r less is stop =
    let accepted_before : AreAccepted level d prefix stop.nets stop.before = less_nets 17 level (λ r _. few_refusals r) d prefix stop.nets stop.before stop.accepted in
    let (later, e) = on_climb level d prefix is.nets stop.nets id is.path stop.before first.net stop.at is.climb stop.rise is.accepted accepted_before in
    let here : Contains (id ∷ is.path) stop.at
    = subst (λ (l : List ℕ). Contains l stop.at) (sym e)
    (length stop.before, omega (arith, length-append stop.before (stop.at ∷ later)), get_or_at stop.before stop.at later stop.at (length stop.before) refl) in
    let accepted : IsNetIn level d prefix stop.at (is.nets stop.at)
    = All-contains (λ i. IsNetIn level d prefix i (is.nets i)) (id ∷ is.path) stop.at is.accepted here in
    elim stop.stops [
      | inl (inl (again, _)) ↦ not_twice stop.before later stop.at (subst (AllPairs (λ a b. a ≢ b)) e is.once) again
      | inl (inr (new, refused)) ↦ not_refused level d prefix stop.at (is.nets stop.at) r less accepted refused
      | inr (new, lost, why) ↦
          let same : is.nets stop.at ≡ stop.nets stop.at = one_net level d prefix stop.at (is.nets stop.at) (stop.nets stop.at) accepted
          (less_net 17 level (λ r _. few_refusals r) d prefix stop.at (stop.nets stop.at) lost.accepted) in
          let open_here : (is.nets stop.at).above ≡ Open = ap (λ (n : WalkNet). n.above) same ∙ lost.lost in
          let at_end : stop.at ≡ first.net
          = top_is_end (timed_nets is.nets) id is.path first.net stop.at is.climb here (ap net_above open_here) in
          let clash : Open ≡ IsTop = sym open_here ∙ ap (λ i. (is.nets i).above) at_end ∙ is.top in
          absurd (cc)
    ]

-- the first net, and what drives it, are one
same_first : (level : ℕ) (d : Design) (prefix : List ℕ) (id : ℕ) (a b : First) → IsFirstNet level d prefix id a → IsFirstNet level d prefix id b → a ≡ b
same_first level d prefix id a b p q =
    let net : a.net ≡ b.net = same_climb level d prefix p.nets q.nets id p.path q.path a.net b.net p.climb q.climb p.accepted q.accepted in
    let here : IsNetIn level d prefix a.net (p.nets a.net)
    = All-contains (λ i. IsNetIn level d prefix i (p.nets i)) (id ∷ p.path) a.net p.accepted (climb_ends (timed_nets p.nets) id p.path a.net p.climb) in
    let there : IsNetIn level d prefix b.net (q.nets b.net)
    = All-contains (λ i. IsNetIn level d prefix i (q.nets i)) (id ∷ q.path) b.net q.accepted (climb_ends (timed_nets q.nets) id q.path b.net q.climb) in
    let same : p.nets b.net ≡ q.nets b.net
    = one_net level d prefix b.net (p.nets b.net) (q.nets b.net) (subst (λ i. IsNetIn level d prefix i (p.nets i)) net here) there in
    let driver : a.driver ≡ b.driver
    = p.driver ∙ ap (λ i. (p.nets i).driver) net ∙ ap (λ (n : WalkNet). n.driver) same ∙ sym q.driver in
    λ i. record { net = net i; driver = driver i }

-- ---- on the way down

module _ (level : ℕ) (d : Design) (prefix : List ℕ) (nets others : Nets) (start : Signal) (signals : List Signal) (walk : IsWalk (timed_nets nets) start signals)
    (met : All (λ s. IsNetIn level d prefix s.net (nets s.net)) signals) (before later : List Signal) (s : Signal) (k : ℕ)
    (come : reached (timed_nets others) start k ≡ before ++ s ∷ later) (enough : k ≤ length before)
    (accepted : All (λ t. IsNetIn level d prefix t.net (others t.net)) before) where
  in_signals : (j : ℕ) (t : Signal) → Contains (reached (timed_nets nets) start j) t → IsNetIn level d prefix t.net (nets t.net)
  in_signals j t here = All-contains (λ t. IsNetIn level d prefix t.net (nets t.net)) signals t met (in_walk (timed_nets nets) start signals walk j t here)

  -- the signal at j was passed on
  was_passed : (j : ℕ) (t : Signal) → suc j ≤ k → j < length (reached (timed_nets others) start j) → slice_get (reached (timed_nets others) start j) j ≡ Some t
      → IsNetIn level d prefix t.net (others t.net)
  was_passed j t few low e =
      let (more, grown) = reached_grow (timed_nets others) start j k (omega (arith, few)) in
      let within : j < length before = omega (arith, few, enough) in
      let at : get_or before j t ≡ t
      = sym (get_or_append_left before (s ∷ later) t j within) ∙ ap (λ (xs : List Signal). get_or xs j t) (sym come ∙ grown)
      ∙ get_or_append_left (reached (timed_nets others) start j) more t j low ∙ get_or_from_slice_get (reached (timed_nets others) start j) j t t e in
      All-contains (λ t. IsNetIn level d prefix t.net (others t.net)) before t accepted (j, within, at)

  -- what both have reached is the same
  same_way : (j : ℕ) → j ≤ k → reached (timed_nets others) start j ≡ reached (timed_nets nets) start j
  unfolding reached
  same_way zero few = refl
  same_way (suc j) few =
      ap (λ (xs : List Signal). xs ++ passed_on_by (timed_nets others) (slice_get (reached (timed_nets others) start j) j)) (same_way j (omega (arith, few)))
      ∙ ap (λ (xs : List Signal). reached (timed_nets nets) start j ++ xs) (turn (slice_get (reached (timed_nets others) start j) j) refl (same_way j (omega (arith, few))))
    where
      turn : (o : Option Signal) → slice_get (reached (timed_nets others) start j) j ≡ o → reached (timed_nets others) start j ≡ reached (timed_nets nets) start j
          → passed_on_by (timed_nets others) (slice_get (reached (timed_nets others) start j) j)
          ≡ passed_on_by (timed_nets nets) (slice_get (reached (timed_nets nets) start j) j)
      turn None e same =
          ap (passed_on_by (timed_nets others)) e
          ∙ sym (ap (λ (xs : List Signal). passed_on_by (timed_nets nets) (slice_get xs j)) (sym same) ∙ ap (passed_on_by (timed_nets nets)) e)
      turn (Some t) e same =
          let here : Contains (reached (timed_nets others) start j) t
          = (j, slice_get_within (reached (timed_nets others) start j) j t e, get_or_from_slice_get (reached (timed_nets others) start j) j t t e) in
          let one : timed_nets others t.net ≡ timed_nets nets t.net
          = ap timed (one_net level d prefix t.net (others t.net) (nets t.net) (was_passed j t few here.1 e)
          (in_signals j t (subst (λ (xs : List Signal). Contains xs t) same here))) in
          ap (passed_on_by (timed_nets others)) e ∙ ap (λ (n : TimedNet). passed_on n t) one
          ∙ sym (ap (λ (xs : List Signal). passed_on_by (timed_nets nets) (slice_get xs j)) (sym same) ∙ ap (passed_on_by (timed_nets nets)) e)

  come_here : reached (timed_nets nets) start k ≡ before ++ s ∷ later
  come_here = sym (same_way k (omega arith)) ∙ come

  before_met : All (λ t. IsNetIn level d prefix t.net (nets t.net)) before
  before_met i other low =
      let t = get_or before i other in
      let here : Contains before t = (i, low, get_or_default before i t other low) in
      in_signals k t (subst (λ (xs : List Signal). Contains xs t) (sym come_here) (Contains-append_left before (s ∷ later) t here))

  -- the walk goes on
  goes_on : (r : Refusal) → number_of r < level → AllPairs (λ a b. a.net ≢ b.net) before → Stops d prefix (map (λ t. t.net) before) s.net r → ⊥
  goes_on r less once stops =
      walks_go_on (timed_nets nets) (λ i. IsNetIn level d prefix i (nets i)) start signals s walk met
      (record { k = k; before = before; later = later; come = come_here; enough = enough; accepted = before_met; once = once; stops = why stops })
    where
      why : Stops d prefix (map (λ t. t.net) before) s.net r → (IsNetIn level d prefix s.net (nets s.net) → ⊥) ⊎ ((t : Signal) × Contains before t × (t.net ≡ s.net))
      why (inl ((i, low, e), _)) =
          let within : i < length before = omega (arith, low, length-map before (λ (t : Signal). t.net)) in
          inr (get_or before i s, (i, within, get_or_default before i (get_or before i s) s within), sym (get_or-map (λ (t : Signal). t.net) before i s s.net within) ∙ e)
      why (inr (new, refused)) = inl (λ is. not_refused level d prefix s.net (nets s.net) r less is refused)

-- ---- the whole way

not_down : (level : ℕ) (d : Design) (prefix asked : List ℕ) (way : Way) (r : Refusal) → number_of r < level
    → IsWay level d prefix asked way → IsStoppedDown d prefix way.first r → ⊥
not_down level d prefix asked way r less is stop =
    goes_on level d prefix way.nets stop.nets (begins way.first) way.signals is.walk is.met stop.stopped.before stop.stopped.later stop.signal stop.stopped.k
    stop.stopped.come stop.stopped.enough (less_met 17 level (λ r _. few_refusals r) d prefix stop.nets stop.stopped.before stop.stopped.accepted)
    r less stop.stopped.once stop.stops

-- two ways from one first net have the same signals, and the same nets there
module _ (level : ℕ) (d : Design) (prefix asked : List ℕ) (a b : Way) (p : IsWay level d prefix asked a) (q : IsWay level d prefix asked b) where
  pub one_first : a.first ≡ b.first
  one_first =
      let ids : q.id ≡ p.id = some_id q.id p.id (sym q.named ∙ p.named) in
      same_first level d prefix p.id a.first b.first p.climb (subst (λ i. IsFirstNet level d prefix i b.first) ids q.climb)

  Is : ℕ → TimedNet → Type 0
  Is id net = (n : WalkNet) × IsNetIn level d prefix id n × (timed n ≡ net)

  pub same_signals : a.signals ≡ b.signals
  unfolding Is
  same_signals =
      let one : (id : ℕ) (x y : TimedNet) → Is id x → Is id y → x ≡ y
      = λ id x y (m, m_is, m_e) (n, n_is, n_e). sym m_e ∙ ap timed (one_net level d prefix id m n m_is n_is) ∙ n_e in
      one_walk_over Is one (timed_nets a.nets) (timed_nets b.nets) (begins b.first) a.signals b.signals
      (subst (λ (f : First). IsWalk (timed_nets a.nets) (begins f) a.signals) one_first p.walk) q.walk
      (record { each = λ t here. (a.nets t.net, All-contains (λ t. IsNetIn level d prefix t.net (a.nets t.net)) a.signals t p.met here, refl) })
      (record { each = λ t here. (b.nets t.net, All-contains (λ t. IsNetIn level d prefix t.net (b.nets t.net)) b.signals t q.met here, refl) })

  pub same_at : (s : Signal) → Contains a.signals s → a.nets s.net ≡ b.nets s.net
  same_at s come =
      one_net level d prefix s.net (a.nets s.net) (b.nets s.net) (All-contains (λ t. IsNetIn level d prefix t.net (a.nets t.net)) a.signals s p.met come)
      (All-contains (λ t. IsNetIn level d prefix t.net (b.nets t.net)) b.signals s q.met (subst (λ (xs : List Signal). Contains xs s) same_signals come))

  -- what one meets the other does
  pub same_meets : (s : Signal) (w : ℕ) (goal : Sink) → Meets (timed_nets a.nets) a.signals s w goal → Meets (timed_nets b.nets) b.signals s w goal
  same_meets s w goal meets = record {
    come = subst (λ (xs : List Signal). Contains xs s) same_signals meets.come;
    here = subst (λ (n : WalkNet). end_at (timed n) w ≡ sink goal) (same_at s meets.come) meets.here;
  }

-- the condition of a refusal holds of no way that no refusal of its number refuses
not_first : (level : ℕ) (d : Design) (prefix asked : List ℕ) (timed_as : Timed) (r : Refusal) → Retimes level d prefix asked timed_as
    → IsFirstRefusal d prefix asked r → number_of r < level → ⊥
not_first level d prefix asked timed_as r is (unknown none _) less = let clash : Some is.is_way.id ≡ None = sym is.is_way.named ∙ none in cc
not_first level d prefix asked timed_as r is (upward id named stop) less =
    let same : id ≡ is.is_way.id = some_id id is.is_way.id (sym named ∙ is.is_way.named) in
    not_up level d prefix is.is_way.id is.way.first r less is.is_way.climb (subst (λ i. IsStoppedUp d prefix i r) same stop)
not_first level d prefix asked timed_as r is (downward id first named climb stop) less =
    let same : id ≡ is.is_way.id = some_id id is.is_way.id (sym named ∙ is.is_way.named) in
    let one : first ≡ is.way.first
    = same_first level d prefix is.is_way.id first is.way.first
    (subst (λ i. IsFirstNet level d prefix i first) same (less_first 17 level (λ r _. few_refusals r) d prefix id first climb)) is.is_way.climb in
    not_down level d prefix asked is.way r less is.is_way (subst (λ (f : First). IsStoppedDown d prefix f r) one stop)
not_first level d prefix asked timed_as r is (at_end way is_way none _) less =
    let (s, w, goal, meets, _) = is.slack.met in
    let signals : is.slack.signals ≡ is.way.signals
    = one_walk (timed_nets is.way.nets) (begins is.way.first) is.slack.signals is.way.signals is.slack.walk is.is_way.walk in
    none s w goal
    (same_meets level d prefix asked is.way way is.is_way (less_way 17 level (λ r _. few_refusals r) d prefix asked way is_way) s w goal
    (subst (λ (xs : List Signal). Meets (timed_nets is.way.nets) xs s w goal) signals meets))

pub retimed_not_refused : RetimedNotRefused
retimed_not_refused level d prefix asked timed_as r is first = elim (cases_lt (number_of r) level) [
  | inl less ↦ absurd (not_first level d prefix asked timed_as r is first less)
  | inr past ↦ past
]
