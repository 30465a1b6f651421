-- A net that is accepted, or refused by the constraints or the limits.
use Rattle.std.proofs.Common.{◌≡◌, ℕ, List, sym, ◌∙◌, subst, Option, Some, None}
use Rattle.std.specs.List.{find}
use Rattle.elmore.specs.declared.tree.Node.{Node}
use Rattle.ver_net.specs.declared.pin_ref.PinRef.{PinRef}
use Rattle.vg_scan.specs.declared.name.NodeName.{NodeName}
use Rattle.spef_wire.specs.declared.refusal.Refusal.TheVariants.{TooLarge, Unconstrained}
use Rattle.vg_design.proofs.NameLemmas.{bare_17, bare_large, first_for, joined_once, passes_for}
use Rattle.vg_design.proofs.PassLemmas.{not_past, passes_16, passes_17}
use Rattle.vg_design.specs.Designs.{Design, Joined}
use Rattle.vg_design.specs.Nets.{names_of, IsNetProblem, IsPosedNet}
use Rattle.vg_design.specs.Parts.{IsProblemOf, IsWithinLimits}
use Rattle.vg_design.specs.Refusals.{Holds, IsFirstBareRefusal, IsFirstConn, IsFirstRefusal, PassesBareUpTo, PassesUpTo, is_unconstrained}
use Rattle.vg_design.specs.Steps.{IsAccepted, IsReady, PassesNet}
use Rattle.vg_design.specs.declared.net_problem.NetProblem.{NetProblem}
use Rattle.vg_design.specs.declared.net_problem.PosedNet.{PosedNet}

module _ (d : Design) (name : List ℕ) (n : Joined) where
  pub unconstrained : (sink : NodeName) → IsAccepted 15 d name n → IsFirstConn n.par (is_unconstrained d.rows n.par) sink → IsFirstRefusal d name (Unconstrained sink)
  unconstrained sink accepted first = first_for d name n accepted.joined (Unconstrained sink) (record { holds = first; first = accepted.passes })

  module _ (pins : List (Option PinRef)) (tree : List Node) (order : List ℕ) (accepted : IsAccepted 15 d name n) (ready : IsReady d n pins tree order) where
    large : (IsWithinLimits d n tree order → ⊥) → Holds d n TooLarge
    large past = record { tree = tree; order = order; a_tree = ready.a_tree; past = past }

    -- without the constraints
    pub bare_past : (IsWithinLimits d n tree order → ⊥) → IsFirstBareRefusal d name TooLarge
    bare_past past = bare_large d name (passes_for d name n accepted.joined 15 accepted.passes) (record { net = n; joined = accepted.joined; holds = large past })

    pub bare_accepted : IsWithinLimits d n tree order → PassesBareUpTo 17 d name
    bare_accepted within = bare_17 d name (passes_for d name n accepted.joined 15 accepted.passes) (λ has.
        let nets = joined_once d name has.net n has.joined accepted.joined in
        not_past d n tree order ready.a_tree within (subst (λ (x : Joined). Holds d x TooLarge) nets has.holds))

    module _ (none : find (is_unconstrained d.rows n.par) n.par.conns ≡ None) where
      constrained : PassesNet 16 d n
      constrained = passes_16 d n accepted.passes (λ node first. let e : None ≡ Some first.conn = sym none ∙ first.first in cc)

      pub past_limits : (IsWithinLimits d n tree order → ⊥) → IsFirstRefusal d name TooLarge
      past_limits past = first_for d name n accepted.joined TooLarge (record { holds = large past; first = constrained })

      pub nothing_refuses : IsWithinLimits d n tree order → PassesUpTo 17 d name
      nothing_refuses within = passes_for d name n accepted.joined 17 (passes_17 d n constrained (not_past d n tree order ready.a_tree within))

-- the problem of a posed net is that of the net
pub problem_is : (d : Design) (name : List ℕ) (posed : PosedNet) (found : NetProblem) → IsPosedNet d name posed → found.problem ≡ posed.problem
    → found.names ≡ names_of posed.ready.pinned.net.par posed.ready.order → IsNetProblem d name found
problem_is d name posed found is same names = record {
  accepted = is.accepted;
  net = posed.ready.pinned.net;
  joined = is.joined;
  tree = posed.ready.tree.nodes;
  order = posed.ready.order;
  a_tree = is.ready.a_tree;
  problem = subst (IsProblemOf d posed.ready.pinned.net posed.ready.tree.nodes posed.ready.order) (sym same) is.problem;
  names = names;
}
