-- Where a sink leads, by the outputs of its instance.
use Rattle.std.proofs.Common.{◌≡◌, ℕ, ◌<◌, true, List, [], ◌∷◌, length, get_or, inl, inr, refl, sym, ap, ◌∙◌, subst, arith, Option, Some, None}
use Rattle.std.specs.List.{Contains, list_any}
use Rattle.std.specs.Str.{bytes_eq}
use Rattle.std.proofs.lemmas.Bool.{cases_lt}
use Rattle.std.proofs.lemmas.List.{get_or-map, get_or_past, length-map}
use Rattle.std.proofs.lemmas.List.Folds.{list_any_at}
use Rattle.std.proofs.lemmas.Map.Views.{Contains-from_any}
use Rattle.std.proofs.lemmas.Slice.Eq.{bytes_eq-Decides}
use Rattle.std.proofs.lemmas.Option.{get_or_from_slice_get, slice_get-get_or, slice_get_within}
use Rattle.lib_linear.specs.Libraries.{related_to}
use Rattle.ver_module.specs.Netlists.{Instance, Pin}
use Rattle.ver_module.specs.declared.link.Link.{Link}
use Rattle.ver_module.specs.declared.link.Link.TheVariants.{Open, One, Many}
use Rattle.ver_net.specs.declared.pin_ref.PinRef.{PinRef}
use Rattle.vg_design.specs.Designs.{Design, NO_INSTANCE, NO_PIN, instance_at, net_number, pin_name, pin_on}
use Rattle.vg_design.specs.Nets.{name_at, IsBareNet}
use Rattle.vg_design.specs.declared.bare_parts.BareNet.{BareNet}
use Rattle.vg_sta.specs.Graphs.{SinkPlace, section_of, Leads}
use Rattle.vg_sta.specs.Outputs.{Onward, onward_by, onward_of, onward_to, outputs_in, section_by}
use Rattle.vg_sta.specs.Steps.{names_pin, outputs_at, pin_of}
use Rattle.vg_sta.proofs.ListLemmas.{contains_get, filter_map_in, get_contained, in_filter_map}

-- ---- outputs

onward_is : (related : List (List ℕ)) (section : Option ℕ) (o : Onward) → onward_to related section ≡ Some o → (section ≡ Some o.section) × (o.related ≡ related)
onward_is related None o e = absurd (cc)
onward_is [] (Some v) o e = absurd (cc)
onward_is (pin ∷ more) (Some v) o e =
    let same : record { section = v; related = pin ∷ more } ≡ o = some_onward (record { section = v; related = pin ∷ more }) o e in
    (ap Some (ap (λ (x : Onward). x.section) same), sym (ap (λ (x : Onward). x.related) same))
  where
    some_onward : (a b : Onward) → Some a ≡ Some b → a ≡ b
    some_onward a b e = cc

is_onward : (related : List (List ℕ)) (v : ℕ) (pin : List ℕ) → Contains related pin → onward_to related (Some v) ≡ Some (record { section = v; related = related })
is_onward [] v pin (i, low, is) = absurd (omega (arith, low))
is_onward (first ∷ more) v pin in' = refl

linked_to : (d : Design) (link : Link) (v : ℕ) → section_by d link ≡ Some v → (to : ℕ) × (link ≡ One to) × (section_of d to ≡ Some v)
linked_to d Open v e = absurd (cc)
linked_to d (One to) v e = (to, refl, e)
linked_to d (Many nets) v e = absurd (cc)

-- a pin that one of some names stands for
names_it : (pin : List ℕ) (related : List (List ℕ)) → list_any (bytes_eq pin) related ≡ true → Contains related pin
names_it pin related any = Contains-from_any (λ x y e. (bytes_eq-Decides x y).0 e) pin related any

it_names : (pin : List ℕ) (related : List (List ℕ)) → Contains related pin → list_any (bytes_eq pin) related ≡ true
it_names pin related (k, low, at) = list_any_at (bytes_eq pin) related k pin low ((bytes_eq-Decides pin (get_or related k pin)).1 (sym at))

-- ---- a sink of a net

module _ (d : Design) (name : List ℕ) (net : BareNet) (is : IsBareNet d name net) (i : ℕ) (low : i < length net.sinks) where
  abbrev pub place : SinkPlace
  place = record { net = name; at = name_at net.names (get_or net.sinks i 0) }

  abbrev pub outputs : List Onward
  outputs = outputs_at (outputs_in d) (pin_of net i)

  pin_is : pin_of net i ≡ pin_on d.netlist is.net.id place.at
  pin_is = ap (λ (pins : List (Option PinRef)). get_or pins i None) is.pins ∙ get_or-map (λ u. pin_on d.netlist is.net.id (name_at net.names u)) net.sinks i 0 None low

  from_is : (from : ℕ) → net_number d.netlist name ≡ Some from → is.net.id ≡ from
  from_is from e = let number = is.joined.number in some_number is.net.id from (sym number ∙ e)
    where
      some_number : (a b : ℕ) → Some a ≡ Some b → a ≡ b
      some_number a b e = cc

  -- the outputs of an instance of the netlist
  outputs_of : (pin : PinRef) → pin_of net i ≡ Some pin → pin.instance < length d.netlist.instances → outputs ≡ onward_of d (instance_at d.netlist pin)
  outputs_of pin e there = ap (outputs_at (outputs_in d)) e ∙ get_or-map (onward_of d) d.netlist.instances pin.instance NO_INSTANCE [] there

  -- an output that names the sink's pin leads it on
  pub leads_by_output : (o : Onward) → Contains outputs o → names_pin place.at.leaf o ≡ true → Leads d place o.section
  leads_by_output o in' names = by_pin (pin_of net i) refl
    where
      by_instance : (pin : PinRef) → pin_of net i ≡ Some pin → pin.instance < length d.netlist.instances → Leads d place o.section
      by_instance pin e there =
          let instance = instance_at d.netlist pin in
          let (p, found, on) = in_filter_map (onward_by d instance.cell) instance.pins o (subst (λ (os : List Onward). Contains os o) (outputs_of pin e there) in') in
          let (at, related) = onward_is (related_to d.library instance.cell p.name) (section_by d p.link) o on in
          let (to, link, section) = linked_to d p.link o.section at in
          let (q, here) = get_contained instance.pins p found in
          let named : (get_or instance.pins q NO_PIN).name ≡ p.name = ap (λ (x : Pin). x.name) (get_or_from_slice_get instance.pins q p NO_PIN here) in
          record {
            from = is.net.id;
            is_from = is.joined.number;
            input = pin;
            is_input = sym pin_is ∙ e;
            output = record { instance = pin.instance; pin = q };
            instance = refl;
            related = subst (λ (n : List ℕ). Contains (related_to d.library instance.cell n) place.at.leaf) (sym named) (subst (λ (r : List (List ℕ)). Contains r place.at.leaf) related (names_it place.at.leaf o.related names));
            to = to;
            linked = record { instance = instance; pin = p; is_instance = slice_get-get_or d.netlist.instances pin.instance NO_INSTANCE there; is_pin = here; has_link = link };
            section = section;
          }

      by_pin : (pin : Option PinRef) → pin_of net i ≡ pin → Leads d place o.section
      by_pin None e = absurd (let there = subst (λ (os : List Onward). Contains os o) (ap (outputs_at (outputs_in d)) e) in' in omega (arith, there.1))
      by_pin (Some pin) e = elim (cases_lt pin.instance (length d.netlist.instances)) [
        | inl there ↦ by_instance pin e there
        | inr past ↦ absurd (
            let none : outputs ≡ [] = ap (outputs_at (outputs_in d)) e ∙ get_or_past (outputs_in d) pin.instance [] (let size = length-map d.netlist.instances (onward_of d) in omega (arith, size, past)) in
            let found = subst (λ (os : List Onward). Contains os o) none in' in omega (arith, found.1))
      ]

  -- and where it leads on, an output does
  pub output_by_leads : (v : ℕ) → Leads d place v → (o : Onward) × Contains outputs o × (names_pin place.at.leaf o ≡ true) × (o.section ≡ v)
  output_by_leads v l =
      let e : pin_of net i ≡ Some l.input = pin_is ∙ ap (λ (id : ℕ). pin_on d.netlist id place.at) (from_is l.from l.is_from) ∙ l.is_input in
      let there : l.input.instance < length d.netlist.instances =
      subst (λ (k : ℕ). k < length d.netlist.instances) l.instance (slice_get_within d.netlist.instances l.output.instance l.linked.instance l.linked.is_instance) in
      let same : instance_at d.netlist l.output ≡ instance_at d.netlist l.input = ap (λ (k : ℕ). get_or d.netlist.instances k NO_INSTANCE) l.instance in
      let here : instance_at d.netlist l.output ≡ l.linked.instance = get_or_from_slice_get d.netlist.instances l.output.instance l.linked.instance NO_INSTANCE l.linked.is_instance in
      let p = l.linked.pin in
      let found : Contains (instance_at d.netlist l.input).pins p =
      subst (λ (x : Instance). Contains x.pins p) (sym here ∙ same) (contains_get l.linked.instance.pins l.output.pin p l.linked.is_pin) in
      let named : (pin_name d.netlist l.output).leaf ≡ p.name =
      ap (λ (x : Instance). (get_or x.pins l.output.pin NO_PIN).name) here ∙ ap (λ (x : Pin). x.name) (get_or_from_slice_get l.linked.instance.pins l.output.pin p NO_PIN l.linked.is_pin) in
      let related : Contains (related_to d.library (instance_at d.netlist l.input).cell p.name) place.at.leaf =
      subst (λ (x : Instance). Contains (related_to d.library x.cell p.name) place.at.leaf) same
      (subst (λ (n : List ℕ). Contains (related_to d.library (instance_at d.netlist l.output).cell n) place.at.leaf) named l.related) in
      let o : Onward = record { section = v; related = related_to d.library (instance_at d.netlist l.input).cell p.name } in
      let on : onward_by d (instance_at d.netlist l.input).cell p ≡ Some o =
      ap (λ (link : Link). onward_to (related_to d.library (instance_at d.netlist l.input).cell p.name) (section_by d link)) l.linked.has_link
      ∙ ap (onward_to (related_to d.library (instance_at d.netlist l.input).cell p.name)) l.section
      ∙ is_onward (related_to d.library (instance_at d.netlist l.input).cell p.name) v place.at.leaf related in
      (o, subst (λ (os : List Onward). Contains os o) (sym (outputs_of l.input e there)) (filter_map_in (onward_by d (instance_at d.netlist l.input).cell) (instance_at d.netlist l.input).pins p o found on), it_names place.at.leaf o.related related, refl)
