-- A design that is timed has no fault.
use Rattle.std.proofs.Common.{◌≡◌, ℕ, ◌+◌, ◌<◌, List, [], ◌∷◌, ◌++◌, map, length, get_or, refl, sym, ap, ◌∙◌, subst, arith, pos, unwrap_or}
use Rattle.std.specs.List.{All}
use Rattle.std.proofs.lemmas.List.{length-map}
use Rattle.std.proofs.lemmas.List.Elements.{All-head, All-tail}
use Rattle.elmore.specs.Placed.{driven_delay}
use Rattle.elmore.specs.declared.parts.Driver.{Driver}
use Rattle.elmore.specs.declared.tree.Node.{Node}
use Rattle.sta_graph.specs.Paths.{IsAfterCycle, IsTrail, LeadsTo, owner}
use Rattle.sta_graph.specs.declared.graph.Graph.{Graph}
use Rattle.sta_graph.specs.declared.graph.Sink.{Sink}
use Rattle.vg_cons.specs.Rows.{required_of}
use Rattle.vg_scan.specs.declared.name.NodeName.{NodeName}
use Rattle.vg_design.specs.Designs.{Design, net_names}
use Rattle.vg_design.specs.Nets.{name_at, IsBareNet}
use Rattle.vg_design.proofs.LawLemmas.{one_bare_net}
use Rattle.vg_sta.specs.Graphs.{NamedNet, NO_PLACE, SinkPlace, place_at, places_of, sinks_from, IsGraphOf, Leads}
use Rattle.vg_sta.specs.Laws.{TimedOrFault}
use Rattle.vg_sta.specs.declared.answer.StaFault.TheVariants.{Net, Cycle, NoPath, Memory}
use Rattle.vg_sta.proofs.ListLemmas.{contains_get}

-- ---- the nets of a design are the same, as far as its graph reads them

abbrev AreBare : Design → List NamedNet → Type 0
AreBare d nets = All (λ n. IsBareNet d n.name n.net) nets

abbrev sink_by : Design → ℕ → Driver → List Node → List NodeName → ℕ → Sink
sink_by d v driver tree names u =
    record { net = v; delay = driven_delay driver tree [] [] u; required = unwrap_or (required_of d.rows (name_at names u)) (pos 0) }

abbrev place_by : List ℕ → List NodeName → ℕ → SinkPlace
place_by name names u = record { net = name; at = name_at names u }

pub same_sinks : (d : Design) (v : ℕ) (a b : List NamedNet) → map (λ n. n.name) a ≡ map (λ n. n.name) b → AreBare d a → AreBare d b → sinks_from d v a ≡ sinks_from d v b
unfolding sinks_from
same_sinks d v [] [] e p q = refl
same_sinks d v [] (n ∷ b) e p q = absurd (cc)
same_sinks d v (m ∷ a) [] e p q = absurd (cc)
same_sinks d v (m ∷ a) (n ∷ b) e p q =
    let name : m.name ≡ n.name = cc in
    let rest : map (λ n. n.name) a ≡ map (λ n. n.name) b = cc in
    let first = All-head (λ n. IsBareNet d n.name n.net) m a p in
    let same = one_bare_net d n.name m.net n.net (subst (λ (name : List ℕ). IsBareNet d name m.net) name first) (All-head (λ n. IsBareNet d n.name n.net) n b q) in
    let others = same_sinks d (v + 1) a b rest (All-tail (λ n. IsBareNet d n.name n.net) m a p) (All-tail (λ n. IsBareNet d n.name n.net) n b q) in
    (λ i. map (sink_by d v (same.driver i) (same.tree i) (same.names i)) (same.sinks i) ++ others i)

pub same_places : (d : Design) (a b : List NamedNet) → map (λ n. n.name) a ≡ map (λ n. n.name) b → AreBare d a → AreBare d b → places_of a ≡ places_of b
same_places d [] [] e p q = refl
same_places d [] (n ∷ b) e p q = absurd (cc)
same_places d (m ∷ a) [] e p q = absurd (cc)
same_places d (m ∷ a) (n ∷ b) e p q =
    let name : m.name ≡ n.name = cc in
    let rest : map (λ n. n.name) a ≡ map (λ n. n.name) b = cc in
    let first = All-head (λ n. IsBareNet d n.name n.net) m a p in
    let same = one_bare_net d n.name m.net n.net (subst (λ (name : List ℕ). IsBareNet d name m.net) name first) (All-head (λ n. IsBareNet d n.name n.net) n b q) in
    let others = same_places d a b rest (All-tail (λ n. IsBareNet d n.name n.net) m a p) (All-tail (λ n. IsBareNet d n.name n.net) n b q) in
    (λ i. map (place_by (name i) (same.names i)) (same.sinks i) ++ others i)

-- ---- and so are the trails of its graphs

module _ (d : Design) (a b : List NamedNet) (g h : Graph) (p : IsGraphOf d a g) (q : IsGraphOf d b h) where
  names : map (λ n. n.name) a ≡ map (λ n. n.name) b
  names = p.names ∙ sym q.names

  sinks : g.sinks ≡ h.sinks
  sinks = p.sinks ∙ same_sinks d 0 a b names p.each q.each ∙ sym q.sinks

  owners : (j : ℕ) → owner h j ≡ owner g j
  owners j = ap (λ (xs : List Sink). (get_or xs j (record { net = 0; delay = pos 0; required = pos 0 })).net) (sym sinks)

  leads : (j v : ℕ) → LeadsTo g j v → LeadsTo h j v
  leads j v to =
      let low : j < length g.sinks = subst (λ (k : ℕ). k < length g.sinks) to.by (p.a_graph.lead_sinks to.lead to.number) in
      let low_too : j < length h.sinks = subst (λ (xs : List Sink). j < length xs) sinks low in
      let place : place_at a j ≡ place_at b j = ap (λ (xs : List SinkPlace). get_or xs j NO_PLACE) (same_places d a b names p.each q.each) in
      (q.leads j v low_too).1 (subst (λ (at : SinkPlace). Leads d at v) place ((p.leads j v low).0 to))

  trails : (v : ℕ) (trail : List ℕ) (w : ℕ) → IsTrail g v trail w → IsTrail h v trail w
  trails v [] w is = is
  trails v (j ∷ trail) w (from, x, to, rest) = (owners j ∙ from, x, leads j x to, trails x trail w rest)

  pub after_cycle : (v : ℕ) → IsAfterCycle g v → IsAfterCycle h v
  after_cycle v is = record {
    net = is.net;
    cycle = record { first = is.cycle.first; more = is.cycle.more; around = trails is.net (is.cycle.first ∷ is.cycle.more) is.net is.cycle.around };
    trail = is.trail;
    reached = trails is.net is.trail v is.reached;
  }

-- ---- the law

pub timed_or_fault : TimedOrFault
timed_or_fault d found (Net name refusal) timed fault =
    absurd (timed.accepted name refusal (contains_get (net_names d.spef) fault.at name fault.named) fault.refused)
timed_or_fault d found (Cycle name) timed fault =
    absurd (timed.acyclic fault.at (after_cycle d fault.nets timed.nets fault.graph timed.graph fault.graph_of timed.graph_of fault.at fault.first.after))
timed_or_fault d found NoPath timed fault =
    let start = timed.worst.path.start.net in
    let nets = ap length timed.graph_of.arrivals ∙ length-map timed.nets (λ n. n.net.driver.arrival) in
    let names = sym (length-map timed.nets (λ n. n.name)) ∙ ap length timed.graph_of.names ∙ ap length fault in
    absurd (omega (arith, start, nets, names))
timed_or_fault d found Memory timed fault = refl
