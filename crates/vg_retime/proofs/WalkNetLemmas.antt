-- A net on a walk is within the limits.
use Rattle.std.proofs.Common.{◌≡◌, ℕ, ◌^◌, ◌<◌, ◌≤◌, Bool, true, false, cond, List, map, length, get_or, slice_index, refl, sym, ◌∙◌, subst, arith, All, Option, Some, None}
use Rattle.std.specs.Prelude.{IfSome}
use Rattle.std.proofs.lemmas.List.{get_or-map, length-map}
use Rattle.elmore.specs.Problems.{IsDriverWithin, IsSmall}
use Rattle.elmore.specs.Trees.{total_capacitance, total_resistance, IsTree}
use Rattle.elmore.specs.declared.parts.Sink.{Sink}
use Rattle.elmore.specs.declared.tree.Node.{Node}
use Rattle.ver_module.specs.Netlists.{IsSound}
use Rattle.ver_net.specs.declared.pin_ref.PinRef.{PinRef}
use Rattle.cut_laws.specs.Walks.{End, nothing, sink, passes}
use Rattle.spef_net.specs.declared.net.ParNet.{ParNet}
use Rattle.vg_cons.specs.Rows.{Rows}
use Rattle.spef_wire.specs.Refusals.{IsNetTree}
use Rattle.spef_wire.specs.Wires.{is_sink_node}
use Rattle.vg_design.proofs.ReadyLemmas.{sink_within}
use Rattle.vg_design.specs.Refusals.{IsJoined}
use Rattle.vg_retime.specs.Refusals.{PassesHere}
use Rattle.vg_design.proofs.PartLemmas.{loaded_is_tree, one_each}
use Rattle.vg_design.specs.Designs.{Design, Joined, name_of}
use Rattle.vg_design.specs.Nets.{names_of}
use Rattle.vg_design.specs.Parts.{driver_of, loaded_tree, sink_at, sink_given, IsWithinLimits}
use Rattle.vg_design.specs.Steps.{IsReady}
use Rattle.vg_retime.specs.Passages.{above_at, end_in}
use Rattle.vg_retime.specs.Steps.{IsAboveWithin, IsSizedEnd, IsSizedNet}
use Rattle.vg_retime.specs.WalkNets.{WalkNet, IsNetOf}
use Rattle.vg_retime.specs.declared.walk_net.Above.TheVariants.{First as IsTop, Net, Open}
use Rattle.vg_retime.specs.declared.walk_net.Above.{Above}
use Rattle.vg_retime.proofs.PassageLemmas.{above_within, end_sized}

maybe_small : (o : Option Sink) → ((g : Sink) → o ≡ Some g → IsSmall g.required) → IfSome o (λ g. IsSmall g.required)
maybe_small None h = tt
maybe_small (Some g) h = h g refl

-- what a net is made of, by its tree
pub record IsMadeOf (d : Design) (prefix : List ℕ) (n : Joined) (nodes : List Node) (order : List ℕ) (net : WalkNet) : Type 0 where
  pub tree : net.tree ≡ loaded_tree d n nodes order
  pub ends : net.ends ≡ map (end_in d prefix n) order
  pub names : net.names ≡ names_of n.par order
  pub driver : net.driver ≡ driver_of d n order
  pub above : net.above ≡ above_at d prefix n (name_of n.par (slice_index order 0))

pub sized_net : (d : Design) (prefix : List ℕ) (n : Joined) (pins : List (Option PinRef)) (nodes : List Node) (order : List ℕ) (net : WalkNet)
    → IsReady d n pins nodes order → IsWithinLimits d n nodes order → IsSound d.netlist → IsMadeOf d prefix n nodes order net
    → IsSizedNet (length d.netlist.nets) net
sized_net d prefix n pins nodes order net ready within sound is = record {
  a_tree = subst IsTree (sym is.tree) (loaded_is_tree d n pins nodes order ready);
  limits = record {
    resistances = subst (λ (t : List Node). total_resistance t ≤ 10 ^ 12) (sym is.tree) within.sums.resistances;
    capacitances = subst (λ (t : List Node). total_capacitance t ≤ 10 ^ 11) (sym is.tree) (omega (arith, within.sums.capacitances));
  };
  one_each = one_each d n pins nodes order ready (end_in d prefix n) net.ends net.tree is.ends is.tree;
  named = one_each d n pins nodes order ready (name_of n.par) net.names net.tree is.names is.tree;
  ends = subst (All (IsSizedEnd (length d.netlist.nets))) (sym is.ends) each_end;
  driver = subst IsDriverWithin (sym is.driver) within.sums.drives;
  above = subst (IsAboveWithin (length d.netlist.nets)) (sym is.above) (above_within d prefix n sound (name_of n.par (slice_index order 0)));
}
  where
    each_end : All (IsSizedEnd (length d.netlist.nets)) (map (end_in d prefix n) order)
    each_end k e low =
        let size = length-map order (end_in d prefix n) in
        let inside : k < length order = omega (arith, size, low) in
        subst (IsSizedEnd (length d.netlist.nets)) (sym (get_or-map (end_in d prefix n) order k 0 e inside))
        (end_sized d prefix n sound within.sums.each_repeater (get_or order k 0)
        (maybe_small (sink_at d.rows n.par (get_or order k 0))
        (λ g is_sink. within.sums.times k g (get_or-map (sink_at d.rows n.par) order k 0 None inside ∙ is_sink))))

-- a node with a sink is a connection
pub sink_at_conn : (rows : Rows) (net : ParNet) (v : ℕ) (goal : Sink) → sink_at rows net v ≡ Some goal → v < length net.conns
sink_at_conn rows net v goal e = by_mark (is_sink_node net v) refl e
  where
    by_mark : (b : Bool) → is_sink_node net v ≡ b → cond b (Some (sink_given rows (name_of net v))) None ≡ Some goal → v < length net.conns
    by_mark true is found = sink_within net v is
    by_mark false is found = absurd (cc)

-- the net of a name, as it was read
pub net_made : (d : Design) (prefix name : List ℕ) (n : Joined) (nodes : List Node) (order : List ℕ) (net : WalkNet)
    → PassesHere 17 d prefix name → IsJoined d name n → IsNetTree n.par nodes order → IsMadeOf d prefix n nodes order net → IsNetOf 17 d prefix name net
net_made d prefix name n nodes order net accepted joined a_tree is = record {
  accepted = accepted;
  joined = n;
  is_joined = joined;
  net_is = record {
    tree = nodes;
    order = order;
    a_tree = a_tree;
    tree_is = is.tree;
    ends_are = is.ends;
    names_are = is.names;
    driver_is = is.driver;
    above_is = is.above;
  };
}

-- limits for fewer nets are limits for more
pub more_sized : (count most : ℕ) (net : WalkNet) → count ≤ most → IsSizedNet count net → IsSizedNet most net
more_sized count most net less sized = record {
  a_tree = sized.a_tree;
  limits = sized.limits;
  one_each = sized.one_each;
  named = sized.named;
  ends = λ k e low. more_end (get_or net.ends k e) (sized.ends k e low);
  driver = sized.driver;
  above = more_above net.above sized.above;
}
  where
    more_end : (end : End) → IsSizedEnd count end → IsSizedEnd most end
    more_end nothing h = tt
    more_end (sink goal) h = h
    more_end (passes rep None) h = h
    more_end (passes rep (Some id)) (r, k, low) = (r, k, omega arith)

    more_above : (above : Above) → IsAboveWithin count above → IsAboveWithin most above
    more_above IsTop h = tt
    more_above (Net id) h = omega arith
    more_above Open h = tt
