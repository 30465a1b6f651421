use Rattle.std.proofs.Common.{◌≡◌, ◌<◌, ℕ, ℤ, List, Option, None, filter, get_or, length, map, sym, ap, ◌∙◌, subst, arith}
use Rattle.std.specs.List.{All, range_with_len}
use Rattle.std.proofs.lemmas.List.{length-map}
use Rattle.std.proofs.lemmas.Result.{err_from_is_err_and}
use Rattle.ver_net.specs.declared.pin_ref.PinRef.{PinRef}
use Rattle.vg_cons.specs.Rows.{required_of}
use Rattle.vg_design.specs.Designs.{name_of, pin_on}
use Rattle.vg_design.specs.Nets.{name_at, names_of, sink_nodes}
use Rattle.vg_design.proofs.BareLemmas.{loads_small, names_each, pins_are, sinks_conns, sinks_low, sinks_some, times_small}
use Rattle.elmore.specs.Problems.{is_sink}
use Rattle.elmore.specs.declared.parts.Sink.{Sink}
use Rattle.vg_design.proofs.TimeLemmas.{sinks_are}
use Rattle.vg_design.proofs.AcceptLemmas.{bare_accepted, bare_past}
use Rattle.vg_design.proofs.PartLemmas.{order_within}
use Rattle.vg_design.proofs.ReadyLemmas.{none_there}
use Rattle.vg_design.specs.Steps.{MakesProblem}
use Rattle.vg_design.proofs.bare.bare_net.Goals as goal

pub returns-in_default-clause-refused : goal.returns-in_default-clause-refused
returns-in_default-clause-refused c =
    let ready = c.in_ok-ready.ready in
    bare_past c.args.design.now c.args.net.now ready.pinned.net ready.pinned.pins ready.tree.nodes ready.order c.in_ok-ready.ensures.accepted c.in_ok-ready.ensures.ready
    (none_there (MakesProblem c.args.design.now ready.pinned.net ready.tree.nodes ready.order) c.in_ok-problem.field-0 c.in_default.not-Some c.in_ok-problem.ensures)

pub into_names-names-requires : goal.into_names-names-requires
into_names-names-requires c =
    let ready = c.in_ok-ready.ready in
    order_within c.args.design.now ready.pinned.net ready.pinned.pins ready.tree.nodes ready.order c.in_ok-ready.ensures.ready

pub returns-in_err-sinks-clause-refused : goal.returns-in_err-sinks-clause-refused
returns-in_err-sinks-clause-refused c =
    let p = err_from_is_err_and c.from_residual-in_err-sinks.result c.from_residual-in_err-sinks.ensures.1 in rw (p.1, p.2) tt

pub pins_at-requires-clause-nodes : goal.pins_at-requires-clause-nodes
pins_at-requires-clause-nodes c =
    let ready = c.in_ok-ready.ready in
    let made = rw c.in-Some.is at c.in_ok-problem.ensures in
    let sinks = c.deref.ensures.value ∙ c.in_ok-sinks.ensures ∙ ap (λ (s : List (Option Sink)). filter (is_sink s) (range_with_len 0 (length s))) c.as_slice.ensures
    ∙ sinks_are c.args.design.now.rows ready.pinned.net.par ready.order c.in-Some.problem.sinks made.0.sinks in
    subst (λ (us : List ℕ). All (λ u. u < length c.as_slice-3.result.now) us) (sym sinks)
    (subst (λ (order : List ℕ). All (λ u. u < length order) (sink_nodes ready.pinned.net.par ready.order)) (sym c.as_slice-3.ensures)
    (sinks_low c.args.design.now ready.pinned.net ready.pinned.pins ready.tree.nodes ready.order c.in_ok-ready.ensures.ready))

pub pins_at-requires-clause-conns : goal.pins_at-requires-clause-conns
pins_at-requires-clause-conns c =
    let ready = c.in_ok-ready.ready in
    let made = rw c.in-Some.is at c.in_ok-problem.ensures in
    let sinks = c.deref.ensures.value ∙ c.in_ok-sinks.ensures ∙ ap (λ (s : List (Option Sink)). filter (is_sink s) (range_with_len 0 (length s))) c.as_slice.ensures
    ∙ sinks_are c.args.design.now.rows ready.pinned.net.par ready.order c.in-Some.problem.sinks made.0.sinks in
    subst (λ (us : List ℕ). All (λ u. get_or c.as_slice-3.result.now u 0 < length c.as_slice-2.result.now) us) (sym sinks)
    (subst (λ (order : List ℕ). All (λ u. get_or order u 0 < length c.as_slice-2.result.now) (sink_nodes ready.pinned.net.par ready.order)) (sym c.as_slice-3.ensures)
    (subst (λ (pins : List (Option PinRef)). All (λ u. get_or ready.order u 0 < length pins) (sink_nodes ready.pinned.net.par ready.order)) (sym c.as_slice-2.ensures)
    (sinks_conns c.args.design.now ready.pinned.net ready.pinned.pins ready.tree.nodes ready.order c.in_ok-ready.ensures.ready)))

pub times_at-requires : goal.times_at-requires
times_at-requires c =
    let ready = c.in_ok-ready.ready in
    let made = rw c.in-Some.is at c.in_ok-problem.ensures in
    let sinks = c.deref-2.ensures.value ∙ c.in_ok-sinks.ensures ∙ ap (λ (s : List (Option Sink)). filter (is_sink s) (range_with_len 0 (length s))) c.as_slice.ensures
    ∙ sinks_are c.args.design.now.rows ready.pinned.net.par ready.order c.in-Some.problem.sinks made.0.sinks in
    let size = ap length c.into_names-names.ensures ∙ length-map ready.order (name_of ready.pinned.net.par) in
    subst (λ (us : List ℕ). All (λ u. u < length c.into_names-names.result) us) (sym sinks)
    (subst (λ (n : ℕ). All (λ u. u < n) (sink_nodes ready.pinned.net.par ready.order)) (sym size)
    (sinks_low c.args.design.now ready.pinned.net ready.pinned.pins ready.tree.nodes ready.order c.in_ok-ready.ensures.ready))

sinks_are_here : (c : goal.After-from_vec-3) → c.from_vec.result ≡ sink_nodes c.in_ok-ready.ready.pinned.net.par c.in_ok-ready.ready.order
sinks_are_here c =
    let ready = c.in_ok-ready.ready in
    let made = rw c.in-Some.is at c.in_ok-problem.ensures in
    c.from_vec.ensures ∙ c.in_ok-sinks.ensures ∙ ap (λ (s : List (Option Sink)). filter (is_sink s) (range_with_len 0 (length s))) c.as_slice.ensures
    ∙ sinks_are c.args.design.now.rows ready.pinned.net.par ready.order c.in-Some.problem.sinks made.0.sinks

times_are_here : (c : goal.After-from_vec-3) → c.from_vec-3.result ≡ map (λ u. required_of c.args.design.now.rows (name_at (names_of c.in_ok-ready.ready.pinned.net.par c.in_ok-ready.ready.order) u)) (sink_nodes c.in_ok-ready.ready.pinned.net.par c.in_ok-ready.ready.order)
times_are_here c =
    let sinks = c.deref-2.ensures.value ∙ sym c.from_vec.ensures ∙ sinks_are_here c in
    c.from_vec-3.ensures ∙ c.in_ok-required.ensures ∙ (λ i. map (λ u. required_of (c.cons.ensures i) (name_at (c.into_names-names.ensures i) u)) (sinks i))

pub invariant_of-result : goal.invariant_of-result
invariant_of-result c =
    let ready = c.in_ok-ready.ready in
    let made = rw c.in-Some.is at c.in_ok-problem.ensures in
    let sinks = sinks_are_here c in
    let loaded = made.0.tree_is in
    let low = sinks_low c.args.design.now ready.pinned.net ready.pinned.pins ready.tree.nodes ready.order c.in_ok-ready.ensures.ready in
    let names = names_each c.args.design.now ready.pinned.net ready.pinned.pins ready.tree.nodes ready.order c.in_ok-ready.ensures.ready c.in-Some.problem.tree.nodes loaded in
    let named = ap length c.into_names-names.ensures in
    let size = length-map ready.order (name_of ready.pinned.net.par) in
    record {
      few = c.in-Some.problem.within.nodes;
      limits = loads_small c.in-Some.problem;
      drives = c.in-Some.problem.within.drives;
      named = named ∙ names;
      some_sink = subst (λ (us : List ℕ). 0 < length us) (sinks_are c.args.design.now.rows ready.pinned.net.par ready.order c.in-Some.problem.sinks made.0.sinks ∙ sym sinks)
          (sinks_some c.args.design.now ready.pinned.net ready.pinned.pins ready.tree.nodes ready.order c.in_ok-ready.ensures.ready c.in-Some.problem.sinks made.0.sinks);
      within = subst (λ (us : List ℕ). All (λ u. u < length c.in-Some.problem.tree.nodes) us) (sym sinks) (λ k e h. let l = low k e h in omega (arith, l, names, size));
      each_pin = ap length (c.from_vec-2.ensures ∙ c.in_ok-pins.ensures)
          ∙ length-map c.deref.result.now (λ u. get_or c.as_slice-2.result.now (get_or c.as_slice-3.result.now u 0) None)
          ∙ ap length (c.deref.ensures.value ∙ sym c.from_vec.ensures);
      each_time = ap length (times_are_here c) ∙ length-map (sink_nodes ready.pinned.net.par ready.order) (λ u. required_of c.args.design.now.rows (name_at (names_of ready.pinned.net.par ready.order) u)) ∙ sym (ap length sinks);
      times = λ i time at. times_small c.args.design.now ready.pinned.net.par ready.order c.in-Some.problem made.0.sinks i time (ap (λ (ts : List (Option ℤ)). get_or ts i None) (sym (times_are_here c)) ∙ at);
    }

pub returns-clause-net : goal.returns-clause-net
returns-clause-net c =
    let ready = c.in_ok-ready.ready in
    let made = rw c.in-Some.is at c.in_ok-problem.ensures in
    let sinks = c.from_vec.ensures ∙ c.in_ok-sinks.ensures ∙ ap (λ (s : List (Option Sink)). filter (is_sink s) (range_with_len 0 (length s))) c.as_slice.ensures
    ∙ sinks_are c.args.design.now.rows ready.pinned.net.par ready.order c.in-Some.problem.sinks made.0.sinks in
    let found = c.deref-2.ensures.value ∙ sym c.from_vec.ensures ∙ sinks in
    record {
      accepted = bare_accepted c.args.design.now c.args.net.now ready.pinned.net ready.pinned.pins ready.tree.nodes ready.order c.in_ok-ready.ensures.accepted c.in_ok-ready.ensures.ready made.1;
      net = ready.pinned.net;
      joined = c.in_ok-ready.ensures.accepted.joined;
      tree = ready.tree.nodes;
      order = ready.order;
      a_tree = c.in_ok-ready.ensures.ready.a_tree;
      tree_is = made.0.tree_is;
      driver = made.0.driver;
      names = c.into_names-names.ensures;
      sinks = sinks;
      pins = (let found_first = c.deref.ensures.value ∙ sym c.from_vec.ensures ∙ sinks in
          c.from_vec-2.ensures ∙ c.in_ok-pins.ensures ∙ (λ i. map (λ u. get_or (c.as_slice-2.ensures i) (get_or (c.as_slice-3.ensures i) u 0) None) (found_first i))
          ∙ pins_are c.args.design.now ready.pinned.net ready.pinned.pins ready.tree.nodes ready.order c.in_ok-ready.ensures.ready
          ∙ (λ i. map (λ u. pin_on c.args.design.now.netlist ready.pinned.net.id (name_at (sym c.into_names-names.ensures i) u)) (sym sinks i)));
      required = c.from_vec-3.ensures ∙ c.in_ok-required.ensures ∙ (λ i. map (λ u. required_of (c.cons.ensures i) (name_at (c.into_names-names.ensures i) u)) (found i))
          ∙ (λ i. map (λ u. required_of c.args.design.now.rows (name_at (sym c.into_names-names.ensures i) u)) (sym sinks i));
    }
