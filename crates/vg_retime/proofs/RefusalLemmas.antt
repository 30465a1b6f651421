-- A net on a walk along the refusals.
use Rattle.std.proofs.Common.{◌≡◌, ℕ, ◌<◌, List, arith, sym, ◌∙◌, subst, Some, None}
use Rattle.std.specs.List.{find}
use Rattle.elmore.specs.declared.tree.Node.{Node}
use Rattle.vg_scan.specs.declared.name.NodeName.{NodeName}
use Rattle.spef_wire.specs.Refusals.{number_of, IsNetTree}
use Rattle.spef_wire.specs.declared.refusal.Refusal.{Refusal}
use Rattle.spef_wire.specs.declared.refusal.Refusal.TheVariants.{TooLarge, Unconstrained}
use Rattle.spef_wire.specs.declared.refusal.Refused.{Refused}
use Rattle.spef_wire.specs.declared.refusal.Refused.TheVariants.{Net, Memory}
use Rattle.vg_design.proofs.NameLemmas.{joined_once, passes_for}
use Rattle.vg_design.proofs.PassLemmas.{not_past}
use Rattle.vg_design.specs.Designs.{Design, Joined}
use Rattle.vg_design.specs.Parts.{IsWithinLimits}
use Rattle.vg_design.specs.Refusals.{Holds, IsFirstConn, Refuses}
use Rattle.vg_design.specs.Steps.{IsAccepted, IsRefusedBelow}
use Rattle.vg_retime.specs.Refusals.{is_unconstrained_here, IsFirstHere, IsRefusedHere, PassesHere, RefusesHere}

-- the conditions of a smaller number than 15 are the same
refuses_here : (d : Design) (prefix name : List ℕ) (r : Refusal) → number_of r < 15 → Refuses d name r → RefusesHere d prefix name r
refuses_here d prefix name (Unconstrained at) low h = absurd (omega (arith, low))
refuses_here d prefix name r low h = h

refuses_there : (d : Design) (prefix name : List ℕ) (r : Refusal) → number_of r < 15 → RefusesHere d prefix name r → Refuses d name r
refuses_there d prefix name (Unconstrained at) low h = absurd (omega (arith, low))
refuses_there d prefix name r low h = h

-- so is the first refusal
pub refused_below : (d : Design) (prefix name : List ℕ) (refused : Refused) → IsRefusedBelow 15 d name refused → IsRefusedHere d prefix name refused
refused_below d prefix name (Net r) (first, low) = record {
  holds = refuses_here d prefix name r low first.holds;
  first = λ q less h. first.first q less (refuses_there d prefix name q (omega (arith, less, low)) h);
}
refused_below d prefix name Memory h = tt

module _ (d : Design) (prefix name : List ℕ) (n : Joined) (accepted : IsAccepted 15 d name n) where
  passes_15 : PassesHere 15 d prefix name
  passes_15 r low h = passes_for d name n accepted.joined 15 accepted.passes r low (refuses_there d prefix name r low h)

  pub unconstrained_here : (sink : NodeName) → IsFirstConn n.par (is_unconstrained_here d prefix n) sink → IsFirstHere d prefix name (Unconstrained sink)
  unconstrained_here sink first = record { holds = record { net = n; joined = accepted.joined; first = first }; first = passes_15 }

  module _ (none : find (is_unconstrained_here d prefix n) n.par.conns ≡ None) where
    passes_16 : PassesHere 16 d prefix name
    passes_16 (Unconstrained at) low h =
        let nets = joined_once d name h.net n h.joined accepted.joined in
        let first : IsFirstConn n.par (is_unconstrained_here d prefix n) at =
        subst (λ (m : Joined). IsFirstConn m.par (is_unconstrained_here d prefix m) at) nets h.first in
        let e : None ≡ Some first.conn = sym none ∙ first.first in absurd (cc)
    passes_16 r low h = passes_15 r (omega (arith, low)) h

    module _ (tree : List Node) (order : List ℕ) (a_tree : IsNetTree n.par tree order) where
      pub large_here : (IsWithinLimits d n tree order → ⊥) → IsFirstHere d prefix name TooLarge
      large_here past = record {
        holds = record { net = n; joined = accepted.joined; holds = record { tree = tree; order = order; a_tree = a_tree; past = past } };
        first = passes_16;
      }

      pub passes_17 : IsWithinLimits d n tree order → PassesHere 17 d prefix name
      passes_17 within TooLarge low has =
          let nets = joined_once d name has.net n has.joined accepted.joined in
          not_past d n tree order a_tree within (subst (λ (m : Joined). Holds d m TooLarge) nets has.holds)
      passes_17 within r low h = passes_16 r (omega (arith, low)) h
