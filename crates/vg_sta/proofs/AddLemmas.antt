-- One more net, with its sinks and where they lead.
use Rattle.std.proofs.Common.{◌≡◌, ◌↔◌, ℕ, zero, suc, ◌+◌, ◌<◌, ◌≤◌, ◌^◌, ◌||◌, Bool, true, false, cond, List, [], ◌∷◌, ◌++◌, map, filter, take, length, get_or, slice_get, inl, inr, ◌⊎◌, add-one, refl, sym, ap, ◌∙◌, subst, arith, Option, Some, None, is_some, IfSome, unwrap_or, ℤ, pos}
use Rattle.std.specs.List.{All, AllPairs, Contains, flat_map, list_any, range_with_len}
use Rattle.std.proofs.lemmas.Bool.{cases_lt, false≢true}
use Rattle.std.proofs.lemmas.Int.{clamps}
use Rattle.std.proofs.lemmas.List.{append_assoc, append-nil, flat_map_more, get_or_append_left, get_or_default, get_or-map, get_or_push, get_or-take, length-append, length-map, length_push, length-take, length-take-le, map-id, map_more, map_push, take_all, take_more}
use Rattle.std.proofs.lemmas.List.Concat.{flat_map-append}
use Rattle.std.proofs.lemmas.List.Elements.{All-append, All-contains, All-map, All-push, All-weaker, Contains-append_cases, Contains-append_left, Contains-append_right, Contains-get_or, Contains-push_cases}
use Rattle.std.proofs.lemmas.List.Folds.{Any-from_list_any, list_any_at}
use Rattle.std.proofs.lemmas.List.FromFn.{fill_by_all, get_or-range_with_len, length-map-range_with_len, length-range_with_len, map-range_with_len_more}
use Rattle.std.proofs.lemmas.List.Kept.{AllPairs-filter}
use Rattle.std.proofs.lemmas.Option.{get_or_from_slice_get, slice_get-get_or, slice_get_within}
use Rattle.sta_graph.specs.declared.graph.Lead.{Lead}
use Rattle.sta_graph.specs.declared.graph.Sink.{Sink}
use Rattle.spef_wire.specs.Wires.{is_sink_node}
use Rattle.spef_wire.specs.declared.refusal.Refusal.{Refusal}
use Rattle.spef_wire.specs.declared.refusal.Refusal.TheVariants.{Unconstrained}
use Rattle.vg_cons.specs.Rows.{required_of}
use Rattle.vg_scan.specs.declared.name.NodeName.{NodeName}
use Rattle.ver_net.specs.Connections.{pins_on}
use Rattle.ver_net.specs.declared.pin_ref.PinRef.{PinRef}
use Rattle.ver_net.proofs.LawLemmas.{pins_are_linked}
use Rattle.vg_scan.specs.Nodes.{same_node}
use Rattle.vg_design.specs.Designs.{Design, net_names, pin_name, pin_on}
use Rattle.vg_design.proofs.ConnectedLemmas.{found_is}
use Rattle.spef_wire.specs.declared.refusal.Refused.{Refused}
use Rattle.spef_wire.specs.declared.refusal.Refused.TheVariants.{Net as NetRefused, Memory as RefusedMemory}
use Rattle.vg_design.specs.Nets.{name_at, IsBareNet, IsBareRefused}
use Rattle.vg_design.specs.declared.bare_parts.BareNet.{BareNet}
use Rattle.vg_design.proofs.LawLemmas.{bare_or_refused, one_bare_net}
use Rattle.vg_sta.specs.Graphs.{Leads, NamedNet, NO_PLACE, SinkPlace, bare_delay, places_in, places_of, sink_of, sinks_from}
use Rattle.vg_sta.specs.Outputs.{Onward, onward_of, outputs_in}
use Rattle.vg_sta.specs.Steps.{AreAdded, AreLeads, AreListed, AreWithin, IsFirstFree, IsSinkAdded, fault_by, is_bound, leads_at, leaf_of, names_pin, outputs_at, pin_of, sink_at}
use Rattle.vg_sta.specs.Timings.{IsFault, IsFirstRefused, IsRefused, IsUnconstrainedEnd}
use Rattle.vg_sta.specs.declared.build.Lists.{Lists}
use Rattle.vg_sta.proofs.LeadLemmas.{leads_by_output, output_by_leads}
use Rattle.vg_sta.proofs.ListLemmas.{contains_get, filter_in, in_filter, in_map, map_in}

-- ---- lists of numbers

range_more : (k : ℕ) → range_with_len 0 (k + 1) ≡ range_with_len 0 k ++ k ∷ []
range_more k = sym (map-id (range_with_len 0 (k + 1))) ∙ map-range_with_len_more (λ (x : ℕ). x) 0 k k (omega arith) ∙ ap (λ (xs : List ℕ). xs ++ k ∷ []) (map-id (range_with_len 0 k))

-- one more number, with what it gives
pub flat_more : {X : Type 0} (f : ℕ → List X) (xs : List X) (k : ℕ) → xs ++ flat_map f (range_with_len 0 (k + 1)) ≡ (xs ++ flat_map f (range_with_len 0 k)) ++ f k
flat_more f xs k = ap (λ (r : List ℕ). xs ++ flat_map f r) (range_more k) ∙ sym (flat_map_more f xs (range_with_len 0 k) k)

pub map_range_more : {X : Type 0} (f : ℕ → X) (xs : List X) (k : ℕ) → xs ++ map f (range_with_len 0 (k + 1)) ≡ (xs ++ map f (range_with_len 0 k)) ++ f k ∷ []
map_range_more {X = X} f xs k = ap (λ (ys : List X). xs ++ ys) (map-range_with_len_more f 0 k k (omega arith)) ∙ sym (append_assoc xs (map f (range_with_len 0 k)) (f k ∷ []))

-- ---- one more sink

lead_more : (d : Design) (places : List SinkPlace) (leads more : List Lead) (place : SinkPlace) → AreLeads d places leads
    → All (λ l. l.sink ≡ length places) more
    → ((v : ℕ) → Contains more (record { sink = length places; net = v }) ↔ Leads d place v)
    → AreLeads d (places ++ place ∷ []) (leads ++ more)
lead_more d places leads more place before own right = record {
  low = All-append (λ l. l.sink < length (places ++ place ∷ [])) leads more
      (All-weaker (λ l. l.sink < length places) (λ l. l.sink < length (places ++ place ∷ [])) (λ l h. omega (arith, h, longer)) leads before.low)
      (All-weaker (λ l. l.sink ≡ length places) (λ l. l.sink < length (places ++ place ∷ [])) (λ l h. omega (arith, h, longer)) more own);
  right = λ j v h. elim (cases_lt j (length places)) [
    | inl low ↦ (
      λ found. subst (λ (p : SinkPlace). Leads d p v) (sym (get_or_append_left places (place ∷ []) NO_PLACE j low)) ((before.right j v low).0 (from_old j v low (Contains-append_cases leads more _ found))),
      λ l. Contains-append_left leads more _ ((before.right j v low).1 (subst (λ (p : SinkPlace). Leads d p v) (get_or_append_left places (place ∷ []) NO_PLACE j low) l)),
    )
    | inr high ↦
        (let same : length places ≡ j = omega (arith, h, high, longer) in (
          λ found. subst (λ (p : SinkPlace). Leads d p v) (sym (get_or_push places place NO_PLACE j same)) ((right v).0 (from_new j v same (Contains-append_cases leads more _ found))),
          λ l. subst (λ (k : ℕ). Contains (leads ++ more) (record { sink = k; net = v })) same
              (Contains-append_right leads more _ ((right v).1 (subst (λ (p : SinkPlace). Leads d p v) (get_or_push places place NO_PLACE j same) l))),
        ))
  ];
}
  where
    longer : length (places ++ place ∷ []) ≡ length places + 1
    longer = length_push places place

    from_old : (j v : ℕ) → j < length places → Contains leads (record { sink = j; net = v }) ⊎ Contains more (record { sink = j; net = v }) → Contains leads (record { sink = j; net = v })
    from_old j v low (inl found) = found
    from_old j v low (inr found) = let at = All-contains (λ l. l.sink ≡ length places) more (record { sink = j; net = v }) own found in absurd (omega (arith, at, low))

    from_new : (j v : ℕ) → length places ≡ j → Contains leads (record { sink = j; net = v }) ⊎ Contains more (record { sink = j; net = v }) → Contains more (record { sink = length places; net = v })
    from_new j v same (inl found) = let at = All-contains (λ l. l.sink < length places) leads (record { sink = j; net = v }) before.low found in absurd (omega (arith, at, same))
    from_new j v same (inr found) = subst (λ (k : ℕ). Contains more (record { sink = k; net = v })) (sym same) found

-- ---- a net

module _ (d : Design) (name : List ℕ) (net : BareNet) (is : IsBareNet d name net) where
  abbrev outputs : List (List Onward)
  outputs = outputs_in d

  abbrev place : ℕ → SinkPlace
  place u = record { net = name; at = name_at net.names u }

  required_is : (i : ℕ) → i < length net.sinks → get_or net.required i None ≡ required_of d.rows (name_at net.names (get_or net.sinks i 0))
  required_is i low = ap (λ xs. get_or xs i None) is.required ∙ get_or-map (λ u. required_of d.rows (name_at net.names u)) net.sinks i 0 None low

  -- the leads of a sink are its leads
  own_leads : (i j : ℕ) → All (λ l. l.sink ≡ j) (leads_at outputs net i j)
  own_leads i j = All-map (λ l. l.sink ≡ j) (λ (o : Onward). record { sink = j; net = o.section }) (filter (names_pin (leaf_of net i)) (outputs_at outputs (pin_of net i))) (λ k e low. refl)

  leads_right : (i j v : ℕ) → i < length net.sinks → Contains (leads_at outputs net i j) (record { sink = j; net = v }) ↔ Leads d (place (get_or net.sinks i 0)) v
  leads_right i j v low = (
    λ found.
        let (o, among, same) = in_map (λ (o : Onward). record { sink = j; net = o.section }) (filter (names_pin (leaf_of net i)) (outputs_at outputs (pin_of net i))) (record { sink = j; net = v }) found in
        let (there, names) = in_filter (names_pin (leaf_of net i)) (outputs_at outputs (pin_of net i)) o among in
        subst (λ (w : ℕ). Leads d (place (get_or net.sinks i 0)) w) (ap (λ (l : Lead). l.net) same) (leads_by_output d name net is i low o there names),
    λ l.
        let (o, there, names, section) = output_by_leads d name net is i low v l in
        subst (λ (w : ℕ). Contains (leads_at outputs net i j) (record { sink = j; net = w })) section
        (map_in (λ (o : Onward). record { sink = j; net = o.section }) (filter (names_pin (leaf_of net i)) (outputs_at outputs (pin_of net i))) o (filter_in (names_pin (leaf_of net i)) (outputs_at outputs (pin_of net i)) o there names)),
  )

  -- all leads of the first sinks
  leads_upto : (places : List SinkPlace) (leads : List Lead) (base k : ℕ) → k ≤ length net.sinks → base ≡ length places → AreLeads d places leads
      → AreLeads d (places ++ map place (take k net.sinks)) (leads ++ flat_map (λ i. leads_at outputs net i (base + i)) (range_with_len 0 k))
  leads_upto places leads base zero few from before = subst (λ ps. AreLeads d ps (leads ++ [])) (sym (append-nil places)) (subst (AreLeads d places) (sym (append-nil leads)) before)
  leads_upto places leads base (suc k) few from before =
      let low : k < length net.sinks = omega (arith, few) in
      let first = leads_upto places leads base k (omega (arith, few)) from before in
      let u = get_or net.sinks k 0 in
      let size : length (places ++ map place (take k net.sinks)) ≡ base + k =
      length-append places (map place (take k net.sinks)) ∙ ap (λ n. length places + n) (length-map (take k net.sinks) place ∙ length-take-le k net.sinks (omega (arith, low))) ∙ ap (λ n. n + k) (sym from) in
      let more = lead_more d (places ++ map place (take k net.sinks)) (leads ++ flat_map (λ i. leads_at outputs net i (base + i)) (range_with_len 0 k)) (leads_at outputs net k (base + k)) (place u) first
      (subst (λ (n : ℕ). All (λ l. l.sink ≡ n) (leads_at outputs net k (base + k))) (sym size) (own_leads k (base + k)))
      (λ v. subst (λ (n : ℕ). Contains (leads_at outputs net k (base + k)) (record { sink = n; net = v }) ↔ Leads d (place u) v) (sym size) (leads_right k (base + k) v low)) in
      let same_places : (places ++ map place (take k net.sinks)) ++ place u ∷ [] ≡ places ++ map place (take (k + 1) net.sinks) =
      append_assoc places (map place (take k net.sinks)) (place u ∷ []) ∙ ap (λ (xs : List SinkPlace). places ++ xs) (sym (map_more place net.sinks k 0 low)) in
      subst (λ (n : ℕ). AreLeads d (places ++ map place (take n net.sinks)) (leads ++ flat_map (λ i. leads_at outputs net i (base + i)) (range_with_len 0 n))) (add-one k)
      (subst (λ (ps : List SinkPlace). AreLeads d ps (leads ++ flat_map (λ i. leads_at outputs net i (base + i)) (range_with_len 0 (k + 1)))) same_places
      (subst (λ (ls : List Lead). AreLeads d ((places ++ map place (take k net.sinks)) ++ place u ∷ []) ls) (sym (flat_more (λ i. leads_at outputs net i (base + i)) leads k)) more))

  -- ---- which sinks are bound

  bound_leads : (i : ℕ) → i < length net.sinks → is_bound outputs net i ≡ true → IsUnconstrainedEnd d name net (get_or net.sinks i 0) → ⊥
  bound_leads i low bound end = elim (either (list_any (names_pin (leaf_of net i)) (outputs_at outputs (pin_of net i))) (is_some (get_or net.required i None)) bound) [
    | inl any ↦
        (let (k, o, there, at, names) = Any-from_list_any (names_pin (leaf_of net i)) (outputs_at outputs (pin_of net i)) any in
        end.end o.section (leads_by_output d name net is i low o (k, there, at) names))
    | inr some ↦ none_some (get_or net.required i None) (required_is i low ∙ end.none) some
  ]
    where
      either : (a b : Bool) → (a || b) ≡ true → (a ≡ true) ⊎ (b ≡ true)
      either true b e = inl refl
      either false b e = inr e

      none_some : (o : Option ℤ) → o ≡ None → is_some o ≡ true → ⊥
      none_some None e some = false≢true some
      none_some (Some x) e some = absurd (cc)

  free_end : (i : ℕ) → i < length net.sinks → is_bound outputs net i ≡ false → IsUnconstrainedEnd d name net (get_or net.sinks i 0)
  free_end i low free = record {
    sink = Contains-get_or net.sinks i 0 low;
    none = sym (required_is i low) ∙ none_there (get_or net.required i None) (both (list_any (names_pin (leaf_of net i)) (outputs_at outputs (pin_of net i))) (is_some (get_or net.required i None)) free).1;
    end = λ v l.
        let (o, there, names, section) = output_by_leads d name net is i low v l in
        let (k, within, at) = there in
        let any = list_any_at (names_pin (leaf_of net i)) (outputs_at outputs (pin_of net i)) k o within (ap (names_pin (leaf_of net i)) at ∙ names) in
        false≢true (sym (both (list_any (names_pin (leaf_of net i)) (outputs_at outputs (pin_of net i))) (is_some (get_or net.required i None)) free).0 ∙ any);
  }
    where
      both : (a b : Bool) → (a || b) ≡ false → (a ≡ false) × (b ≡ false)
      both true b e = absurd (cc)
      both false b e = (refl, e)

      none_there : (o : Option ℤ) → is_some o ≡ false → o ≡ None
      none_there None e = refl
      none_there (Some x) e = absurd (cc)

  -- the sinks stand by rising node
  sinks_rise : AllPairs (λ a b. a < b) net.sinks
  sinks_rise =
      subst (AllPairs (λ a b. a < b)) (sym is.sinks)
      (AllPairs-filter (λ a b. a < b) (λ i. is_sink_node is.net.par (get_or is.order i 0)) (range_with_len 0 (length is.order))
      (λ i j e low high.
      let size = length-range_with_len 0 (length is.order) in
      let a = get_or-range_with_len 0 (length is.order) i e (omega (arith, low, high, size)) in
      let b = get_or-range_with_len 0 (length is.order) j e (omega (arith, high, size)) in
      omega (arith, a, b, low)))

  -- where all are bound, nothing refuses the net
  pub not_refused : ((i : ℕ) → i < length net.sinks → is_bound outputs net i ≡ true) → (refusal : Refusal) → IsRefused d name refusal → ⊥
  not_refused bound refusal (IsRefused.by_itself first) = bare_or_refused d name net refusal is first
  not_refused bound refusal (IsRefused.unconstrained other other_is u end first e) =
      let same = one_bare_net d name other net other_is is in
      let (k, low, at) = subst (λ (sinks : List ℕ). Contains sinks u) same.sinks end.sink in
      let node : get_or net.sinks k 0 ≡ u = get_or_default net.sinks k 0 u low ∙ at in
      bound_leads k low (bound k low) (record {
        sink = Contains-get_or net.sinks k 0 low;
        none = ap (λ (v : ℕ). required_of d.rows (name_at net.names v)) node ∙ ap (λ (names : List NodeName). required_of d.rows (name_at names u)) (sym same.names) ∙ end.none;
        end = λ v l. end.end v (subst (λ (names : List NodeName). Leads d (record { net = name; at = name_at names u }) v) (sym same.names) (subst (λ (w : ℕ). Leads d (place w) v) node l));
      })

  -- and where the first is found that is not, it is named
  pub is_refused : (node : ℕ) → IsFirstFree outputs net node → IsRefused d name (Unconstrained (name_at net.names node))
  is_refused node free =
      IsRefused.unconstrained net is node
      (subst (λ (u : ℕ). IsUnconstrainedEnd d name net u) (sym free.is) (free_end free.place free.low free.free))
      (λ w lower end.
      let (k, low, at) = end.sink in
      let here : get_or net.sinks k 0 ≡ w = get_or_default net.sinks k 0 w low ∙ at in
      elim (cases_lt k free.place) [
        | inl before ↦ bound_leads k low (free.first k before) (subst (λ (u : ℕ). IsUnconstrainedEnd d name net u) (sym here) end)
        | inr after ↦ elim (cases_lt free.place k) [
          | inl behind ↦ (let rise = sinks_rise free.place k 0 behind low in let is = free.is in absurd (omega (arith, rise, here, is, lower)))
          | inr same ↦ (let at_once : k ≡ free.place = omega (arith, after, same) in let node_is = ap (λ (n : ℕ). get_or net.sinks n 0) at_once in let is = free.is in absurd (omega (arith, node_is, here, is, lower)))
        ]
      ]) refl

  -- ---- the lists

  sinks_are : (v : ℕ) → map (sink_at v net) (range_with_len 0 (length net.sinks)) ≡ map (sink_of d v net) net.sinks
  sinks_are v =
      sym (fill_by_all (sink_at v net) (map (sink_of d v net) net.sinks) (length net.sinks) (record { net = v; delay = pos 0; required = pos 0 }) (length-map net.sinks (sink_of d v net))
      (λ k low.
      get_or-map (sink_of d v net) net.sinks k 0 (record { net = v; delay = pos 0; required = pos 0 }) low
      ∙ ap (λ (o : Option ℤ). record { net = v; delay = bare_delay net (get_or net.sinks k 0); required = unwrap_or o (pos 0) }) (sym (required_is k low))))

-- the pins of the sinks are those of instances of the netlist
pub pins_within : (d : Design) (name : List ℕ) (net : BareNet) → IsBareNet d name net → (outputs : List (List Onward)) → outputs ≡ outputs_in d → AreWithin outputs net
pins_within d name net is outputs same k e low =
    let size : length outputs ≡ length d.netlist.instances = ap length same ∙ length-map d.netlist.instances (onward_of d) in
    let pin : get_or net.pins k e ≡ pin_on d.netlist is.net.id (name_at net.names (get_or net.sinks k 0)) =
    ap (λ (pins : List (Option PinRef)). get_or pins k e) is.pins ∙ get_or-map (λ u. pin_on d.netlist is.net.id (name_at net.names u)) net.sinks k 0 e (let each = net.each_pin in omega (arith, low, each)) in
    subst (λ (o : Option PinRef). IfSome o (λ p. p.instance < length outputs)) (sym pin) (found (pin_on d.netlist is.net.id (name_at net.names (get_or net.sinks k 0))) refl size)
  where
    found : (o : Option PinRef) → pin_on d.netlist is.net.id (name_at net.names (get_or net.sinks k 0)) ≡ o → length outputs ≡ length d.netlist.instances → IfSome o (λ p. p.instance < length outputs)
    found None e size = tt
    found (Some p) e size =
        let at = found_is (λ pin. same_node (name_at net.names (get_or net.sinks k 0)) (pin_name d.netlist pin)) (pins_on d.netlist is.net.id) p e in
        let link = (pins_are_linked d.netlist is.net.id p).0 (at.place, at.low, at.is) in
        let low = slice_get_within d.netlist.instances p.instance link.instance link.is_instance in
        omega (arith, low, size)

-- the first net that is refused
pub first_refused : (d : Design) (n : ℕ) (name : List ℕ) (refusal : Refusal) (lists : Lists) → slice_get (net_names d.spef) n ≡ Some name → AreListed d n lists → IsRefused d name refusal → IsFirstRefused d name refusal
first_refused d n name refusal lists named are refused = record {
  at = n;
  named = named;
  refused = refused;
  first = λ before other reason earlier is other_refused.
      are.accepted other reason (contains_get (take n (net_names d.spef)) before other (slice_get_take n (net_names d.spef) before other earlier is)) other_refused;
}
  where
    slice_get_take : (n : ℕ) (xs : List (List ℕ)) (k : ℕ) (x : List ℕ) → k < n → slice_get xs k ≡ Some x → slice_get (take n xs) k ≡ Some x
    slice_get_take n xs k x low is =
        let within = slice_get_within xs k x is in
        slice_get-get_or (take n xs) k x (let size = length-take n xs in omega (arith, clamps, size, within, low)) ∙ ap Some (get_or-take n xs k x low ∙ get_or_from_slice_get xs k x x is)

-- a net that is refused by itself
pub fault_is : (d : Design) (n : ℕ) (name : List ℕ) (refused : Refused) (lists : Lists) → slice_get (net_names d.spef) n ≡ Some name → AreListed d n lists → IsBareRefused d name refused → IsFault d (fault_by name refused)
fault_is d n name (NetRefused refusal) lists named are refused = first_refused d n name refusal lists named are (IsRefused.by_itself refused)
fault_is d n name RefusedMemory lists named are refused = tt

-- no net has come
pub none_listed : (d : Design) (lists : Lists) → lists.arrivals.items ≡ [] → lists.sinks.items ≡ [] → lists.leads.items ≡ [] → lists.nodes.items ≡ [] → AreListed d 0 lists
unfolding sinks_from
none_listed d lists arrivals sinks leads nodes = record {
  nets = [];
  names = refl;
  each = λ k e low. absurd (omega (arith, low));
  accepted = λ name refusal in' refused. absurd (let low = in'.1 in omega (arith, low));
  arrivals = arrivals;
  sinks = sinks;
  nodes = nodes;
  leads = subst (λ (ls : List Lead). AreLeads d [] ls) (sym leads) (record { low = λ k e low. omega (arith, low); right = λ j v low. absurd (omega (arith, low)) });
  few = record { sinks = (let size = ap length sinks in omega (arith, size)); leads = (let size = ap length leads in omega (arith, size)) };
}

-- one more sink in the lists
pub sink_added : (outputs : List (List Onward)) (v : ℕ) (net : BareNet) (k : ℕ) (old mid new : Lists) → k < length net.sinks → AreAdded outputs v net k old mid → IsSinkAdded outputs v net k mid new
    → is_bound outputs net k ≡ true → AreAdded outputs v net (k + 1) old new
sink_added outputs v net k old mid new low before added bound = record {
  arrivals = added.arrivals ∙ before.arrivals;
  sinks = added.sinks ∙ ap (λ (xs : List Sink). xs ++ sink_at v net k ∷ []) before.sinks ∙ sym (map_range_more (sink_at v net) old.sinks.items k);
  nodes = added.nodes ∙ ap (λ (xs : List ℕ). xs ++ get_or net.sinks k 0 ∷ []) before.nodes ∙ append_assoc old.nodes.items (take k net.sinks) (get_or net.sinks k 0 ∷ [])
      ∙ ap (λ (xs : List ℕ). old.nodes.items ++ xs) (sym (take_more net.sinks k 0 low));
  leads = added.leads ∙ (λ i. before.leads i ++ leads_at outputs net k (size i)) ∙ sym (flat_more (λ i. leads_at outputs net i (length old.sinks.items + i)) old.leads.items k);
  few = added.few;
  bound = λ i below. elim (cases_lt i k) [
    | inl earlier ↦ before.bound i earlier
    | inr here ↦ subst (λ (n : ℕ). is_bound outputs net n ≡ true) (let same : k ≡ i = omega (arith, below, here) in same) bound
  ];
}
  where
    size : length mid.sinks.items ≡ length old.sinks.items + k
    size = ap length before.sinks ∙ length-append old.sinks.items (map (sink_at v net) (range_with_len 0 k)) ∙ ap (λ (n : ℕ). length old.sinks.items + n) (length-map-range_with_len (sink_at v net) 0 k)

abbrev lead_to : ℕ → Onward → Lead
lead_to j o = record { sink = j; net = o.section }

-- a sink with a lead is bound, and one without where a time is required
filled : (p : Onward → Bool) (xs : List Onward) → 0 < length (filter p xs) → list_any p xs ≡ true
filled p [] some = absurd (omega (arith, some))
filled p (x ∷ xs) some = either (λ h. filled p xs h) (p x) some
  where
    either : (0 < length (filter p xs) → list_any p xs ≡ true) → (b : Bool) → 0 < length (cond b (x ∷ filter p xs) (filter p xs)) → (b || list_any p xs) ≡ true
    either rest true h = refl
    either rest false h = rest h

empty : (p : Onward → Bool) (xs : List Onward) → length (filter p xs) ≡ 0 → list_any p xs ≡ false
empty p [] none = refl
empty p (x ∷ xs) none = either (λ h. empty p xs h) (p x) none
  where
    either : (length (filter p xs) ≡ 0 → list_any p xs ≡ false) → (b : Bool) → length (cond b (x ∷ filter p xs) (filter p xs)) ≡ 0 → (b || list_any p xs) ≡ false
    either rest true h = absurd (omega (arith, h))
    either rest false h = rest h

pub bound_by_leads : (outputs : List (List Onward)) (net : BareNet) (i j : ℕ) → 0 < length (leads_at outputs net i j) → is_bound outputs net i ≡ true
bound_by_leads outputs net i j some =
    let size = length-map (filter (names_pin (leaf_of net i)) (outputs_at outputs (pin_of net i))) (λ (o : Onward). lead_to j o) in
    ap (λ (b : Bool). b || is_some (get_or net.required i None)) (filled (names_pin (leaf_of net i)) (outputs_at outputs (pin_of net i)) (omega (arith, some, size)))

pub bound_by_time : (outputs : List (List Onward)) (net : BareNet) (i j : ℕ) → length (leads_at outputs net i j) ≡ 0 → is_bound outputs net i ≡ is_some (get_or net.required i None)
bound_by_time outputs net i j none =
    let size = length-map (filter (names_pin (leaf_of net i)) (outputs_at outputs (pin_of net i))) (λ (o : Onward). lead_to j o) in
    ap (λ (b : Bool). b || is_some (get_or net.required i None)) (empty (names_pin (leaf_of net i)) (outputs_at outputs (pin_of net i)) (omega (arith, none, size)))

-- the sinks of one more net
sinks_more : (d : Design) (v : ℕ) (nets : List NamedNet) (n : NamedNet) → sinks_from d v (nets ++ n ∷ []) ≡ sinks_from d v nets ++ map (sink_of d (v + length nets) n.net) n.net.sinks
unfolding sinks_from
sinks_more d v [] n = append-nil (map (sink_of d v n.net) n.net.sinks) ∙ ap (λ (w : ℕ). map (sink_of d w n.net) n.net.sinks) (omega arith)
sinks_more d v (m ∷ nets) n =
    ap (λ (xs : List Sink). map (sink_of d v m.net) m.net.sinks ++ xs) (sinks_more d (v + 1) nets n)
    ∙ sym (append_assoc (map (sink_of d v m.net) m.net.sinks) (sinks_from d (v + 1) nets) (map (sink_of d (v + 1 + length nets) n.net) n.net.sinks))
    ∙ ap (λ (w : ℕ). (map (sink_of d v m.net) m.net.sinks ++ sinks_from d (v + 1) nets) ++ map (sink_of d w n.net) n.net.sinks) (omega arith)

-- each sink has a name
pub one_place_each : (d : Design) (v : ℕ) (nets : List NamedNet) → length (sinks_from d v nets) ≡ length (places_of nets)
unfolding sinks_from
one_place_each d v [] = refl
one_place_each d v (n ∷ nets) =
    length-append (map (sink_of d v n.net) n.net.sinks) (sinks_from d (v + 1) nets)
    ∙ (λ i. length-map n.net.sinks (sink_of d v n.net) i + one_place_each d (v + 1) nets i)
    ∙ sym (length-append (places_in n) (places_of nets) ∙ ap (λ (k : ℕ). k + length (places_of nets)) (length-map n.net.sinks (λ u. record { net = n.name; at = name_at n.net.names u })))

abbrev named_net : List ℕ → BareNet → NamedNet
named_net name net = record { name = name; net = net }

-- one more net, all whose sinks are bound, in the lists
pub net_more : (d : Design) (n : ℕ) (name : List ℕ) (net : BareNet) (old mid new : Lists) → slice_get (net_names d.spef) n ≡ Some name → IsBareNet d name net
    → AreListed d n old → AreAdded (outputs_in d) n net (length net.sinks) old mid
    → new.arrivals.items ≡ mid.arrivals.items ++ net.driver.arrival ∷ [] → new.sinks.items ≡ mid.sinks.items → new.nodes.items ≡ mid.nodes.items → new.leads.items ≡ mid.leads.items
    → AreListed d (n + 1) new
net_more d n name net old mid new named is before added arrivals sinks nodes leads = record {
  nets = before.nets ++ (named_net name net) ∷ [];
  names = map_push (λ (x : NamedNet). x.name) before.nets (named_net name net) ∙ ap (λ (xs : List (List ℕ)). xs ++ name ∷ []) before.names ∙ sym names_more;
  each = All-push (λ x. IsBareNet d x.name x.net) before.nets (named_net name net) before.each is;
  accepted = λ other refusal in' refused. elim (Contains-push_cases (take n (net_names d.spef)) name other (subst (λ (xs : List (List ℕ)). Contains xs other) names_more in')) [
    | inl earlier ↦ before.accepted other refusal earlier refused
    | inr here ↦ not_refused d name net is added.bound refusal (subst (λ (x : List ℕ). IsRefused d x refusal) (sym here) refused)
  ];
  arrivals = arrivals ∙ ap (λ (xs : List ℤ). xs ++ net.driver.arrival ∷ []) (added.arrivals ∙ before.arrivals) ∙ sym (map_push (λ (x : NamedNet). x.net.driver.arrival) before.nets (named_net name net));
  sinks = sinks ∙ added.sinks ∙ (λ i. before.sinks i ++ sinks_are d name net is n i)
      ∙ sym (sinks_more d 0 before.nets (named_net name net) ∙ ap (λ (w : ℕ). sinks_from d 0 before.nets ++ map (sink_of d w net) net.sinks) (omega (arith, count)));
  nodes = nodes ∙ added.nodes ∙ (λ i. before.nodes i ++ take_all (length net.sinks) net.sinks (omega arith) i)
      ∙ ap (λ (xs : List ℕ). flat_map (λ (x : NamedNet). x.net.sinks) before.nets ++ xs) (sym (append-nil net.sinks)) ∙ sym (flat_map-append (λ (x : NamedNet). x.net.sinks) before.nets ((named_net name net) ∷ []));
  leads = subst (λ (ls : List Lead). AreLeads d (places_of (before.nets ++ (named_net name net) ∷ [])) ls) (sym (leads ∙ added.leads))
      (subst (λ (ps : List SinkPlace). AreLeads d ps (old.leads.items ++ flat_map (λ i. leads_at (outputs_in d) net i (length old.sinks.items + i)) (range_with_len 0 (length net.sinks)))) places_more
      (leads_upto d name net is (places_of before.nets) old.leads.items (length old.sinks.items) (length net.sinks) (omega arith) (ap length before.sinks ∙ one_place_each d 0 before.nets) before.leads));
  few = record {
    sinks = subst (λ (xs : List Sink). length xs ≤ 2 ^ 30) (sym sinks) added.few.sinks;
    leads = subst (λ (xs : List Lead). length xs ≤ 2 ^ 30) (sym leads) added.few.leads;
  };
}
  where
    low : n < length (net_names d.spef)
    low = slice_get_within (net_names d.spef) n name named

    names_more : take (n + 1) (net_names d.spef) ≡ take n (net_names d.spef) ++ name ∷ []
    names_more = take_more (net_names d.spef) n [] low ∙ ap (λ (x : List ℕ). take n (net_names d.spef) ++ x ∷ []) (get_or_from_slice_get (net_names d.spef) n name [] named)

    count : length before.nets ≡ n
    count = sym (length-map before.nets (λ (x : NamedNet). x.name)) ∙ ap length before.names ∙ length-take-le n (net_names d.spef) (omega (arith, low))

    places_more : places_of before.nets ++ map (λ u. record { net = name; at = name_at net.names u }) (take (length net.sinks) net.sinks) ≡ places_of (before.nets ++ (named_net name net) ∷ [])
    places_more =
        ap (λ (xs : List ℕ). places_of before.nets ++ map (λ u. record { net = name; at = name_at net.names u }) xs) (take_all (length net.sinks) net.sinks (omega arith))
        ∙ ap (λ (xs : List SinkPlace). places_of before.nets ++ xs) (sym (append-nil (places_in (named_net name net)))) ∙ sym (flat_map-append places_in before.nets ((named_net name net) ∷ []))
