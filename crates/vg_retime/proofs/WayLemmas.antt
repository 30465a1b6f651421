-- A whole way, and what a walk ends with.
use Rattle.std.proofs.Common.{◌≡◌, ◌≢◌, ℕ, ◌<◌, ◌≤◌, ℤ, ◌-ℤ◌, List, [], map, take, length, get_or, refl, sym, ap, ◌∙◌, subst, arith, All, Option, Some, None}
use Rattle.std.specs.List.{AllPairs}
use Rattle.std.specs.Str.{bytes_eq}
use Rattle.std.proofs.lemmas.List.Quantifiers.{position-Some}
use Rattle.std.proofs.lemmas.List.{length-map, take_all}
use Rattle.std.proofs.lemmas.List.FromFn.{length-map-range_with_len}
use Rattle.elmore.specs.Trees.{node_at}
use Rattle.elmore.specs.declared.tree.Node.{Node}
use Rattle.ver_module.specs.Netlists.{Net as ModuleNet, Netlist}
use Rattle.cut_laws.specs.Walks.{End, Signal, IsRetimed}
use Rattle.vg_design.specs.Designs.{Design, Joined, net_number}
use Rattle.vg_design.specs.Parts.{loaded}
use Rattle.vg_design.specs.declared.time.Timed.{Timed}
use Rattle.spef_wire.specs.declared.refusal.Refusal.TheVariants.{NoSink}
use Rattle.spef_wire.specs.declared.refusal.Refused.{Refused}
use Rattle.spef_wire.specs.declared.refusal.Refused.TheVariants.{Net, Memory}
use Rattle.vg_retime.proofs.LeastLemmas.{least_slack, none_met}
use Rattle.vg_retime.specs.Passages.{end_in}
use Rattle.vg_retime.specs.Retimings.{at_end, downward, upward, IsFirstRefusal, IsRefused, Retimes}
use Rattle.vg_retime.specs.Steps.{signal_of, signals_of, IsKept, IsUnderWay}
use Rattle.vg_retime.specs.Stops.{IsRefusedDown, IsRefusedUp}
use Rattle.vg_retime.specs.Times.{lefts_of, IsLeastOf}
use Rattle.vg_retime.specs.WalkNets.{WalkNet, IsNetIn, IsWalkNet}
use Rattle.vg_retime.specs.Ways.{Way, timed_nets, IsFirstNet, IsWay}
use Rattle.vg_retime.specs.declared.climb.First.{First}
use Rattle.vg_retime.specs.declared.down.Walk.{Walk}

-- ---- the asked net

-- the net of a name, where it was found
pub asked_is : (m n : Netlist) (a b : List ℕ) (found number : Option ℕ) → m ≡ n → a ≡ b → found ≡ net_number m a → found ≡ number → net_number n b ≡ number
asked_is m n a b found number m_n a_b is known = sym (is ∙ (λ i. net_number (m_n i) (a_b i))) ∙ known

pub asked_within : (m : Netlist) (name : List ℕ) (id : ℕ) → net_number m name ≡ Some id → id < length m.nets
asked_within m name id e =
    let there = position-Some (bytes_eq name) (map (λ (n : ModuleNet). n.name) m.nets) id [] e in
    let size = length-map m.nets (λ (n : ModuleNet). n.name) in omega (arith, size, there.0)

-- ---- refusals on the way

module _ (d : Design) (prefix asked : List ℕ) (id : ℕ) (named : net_number d.netlist asked ≡ Some id) where
  pub refused_up : (refused : Refused) → IsRefusedUp d prefix id refused → IsRefused d prefix asked refused
  refused_up (Net r) stopped = upward id named stopped
  refused_up Memory stopped = tt

  pub refused_down : (first : First) → IsFirstNet 17 d prefix id first → (refused : Refused) → IsRefusedDown d prefix first refused → IsRefused d prefix asked refused
  refused_down first climb (Net r) stopped = downward id first named climb stopped
  refused_down first climb Memory stopped = tt

-- ---- the end

-- for each end that a net keeps there is a node
few_ends : (d : Design) (prefix : List ℕ) (n : Joined) (net : WalkNet) → IsWalkNet d prefix n net → length net.ends ≤ length net.tree
few_ends d prefix n net is =
    let nodes = length-map-range_with_len (λ i. loaded d n (node_at is.tree i) (get_or is.order i 0)) 0 (length is.tree) in
    let tree = ap {B = ℕ} (λ (xs : List Node). length xs) is.tree_is in
    let ends = ap {B = ℕ} (λ (xs : List End). length xs) is.ends_are in
    let order = length-map is.order (end_in d prefix n) in
    let count = is.a_tree.a_tree.count in
    let listed = is.a_tree.a_tree.lists.count in omega (arith, nodes, tree, ends, order, count, listed)

module _ (d : Design) (prefix asked : List ℕ) (id : ℕ) (walk : Walk) (named : net_number d.netlist asked ≡ Some id) (climb : IsFirstNet 17 d prefix id walk.first)
    (under : IsUnderWay d prefix (length walk.signals.items) walk) where
  all : take (length walk.signals.items) (signals_of walk) ≡ signals_of walk
  all = let size = length-map walk.signals.items signal_of in take_all (length walk.signals.items) (signals_of walk) (omega (arith, size))

  kept : IsKept under.nets (signals_of walk) walk
  kept = subst (λ (xs : List Signal). IsKept under.nets xs walk) all under.kept

  met : All (λ s. IsNetIn 17 d prefix s.net (under.nets s.net)) (signals_of walk)
  met = subst (All (λ s. IsNetIn 17 d prefix s.net (under.nets s.net))) all under.passed.accepted

  few : All (λ s. length (timed_nets under.nets s.net).ends ≤ length (timed_nets under.nets s.net).tree) (signals_of walk)
  few k e low =
      let net : IsNetIn 17 d prefix (get_or (signals_of walk) k e).net (under.nets (get_or (signals_of walk) k e).net) = met k e low in
      few_ends d prefix net.joined (under.nets (get_or (signals_of walk) k e).net) net.net_is

  abbrev way : Way
  way = record { nets = under.nets; first = walk.first; signals = signals_of walk }

  -- when all signals were passed on, the way is whole
  is_way : IsWay 17 d prefix asked way
  is_way = record {
    id = id;
    named = named;
    climb = climb;
    walk = record {
      k = length walk.signals.items;
      come = under.come;
      ended = (let size = length-map walk.signals.items signal_of in omega (arith, size));
      once = subst (AllPairs (λ a b. a.net ≢ b.net)) all under.passed.once;
    };
    met = met;
  }

  pub sinkless : walk.least ≡ None → IsFirstRefusal d prefix asked NoSink
  sinkless none =
      at_end way is_way
      (none_met (timed_nets under.nets) (signals_of walk) few (subst (IsLeastOf (lefts_of (timed_nets under.nets) (signals_of walk))) none kept.least))
      refl

  pub retimed : (left : ℤ) (timed : Timed) → walk.least ≡ Some left → timed.slack ≡ left -ℤ walk.first.driver.arrival -ℤ walk.first.driver.k → timed.wrong ≡ walk.wrong
      → Retimes 17 d prefix asked timed
  retimed left timed least slack wrong = record {
    way = way;
    is_way = is_way;
    slack = subst (IsRetimed (timed_nets under.nets) walk.first.net walk.first.driver) (sym slack)
        (least_slack (timed_nets under.nets) walk.first.net walk.first.driver (signals_of walk) is_way.walk few left
        (subst (IsLeastOf (lefts_of (timed_nets under.nets) (signals_of walk))) least kept.least));
    wrong = wrong ∙ kept.wrong;
  }
