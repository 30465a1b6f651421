-- What is true of the problems and the refusals of all nets.
use Rattle.std.specs.Prelude.{◌≡◌, ℕ, List}
use Rattle.vg_scan.specs.declared.name.NodeName.{NodeName}
use Rattle.spef_wire.specs.Refusals.{number_of}
use Rattle.spef_wire.specs.declared.refusal.Refusal.{Refusal}
use Rattle.spef_wire.specs.declared.refusal.Refusal.TheVariants.{Unconstrained}
use Rattle.vg_design.specs.Designs.{Design}
use Rattle.vg_design.specs.Nets.{IsNetProblem, IsBareNet}
use Rattle.vg_design.specs.Refusals.{IsFirstRefusal, IsFirstBareRefusal}
use Rattle.vg_design.specs.declared.bare_parts.BareNet.{BareNet}
use Rattle.vg_design.specs.declared.net_problem.NetProblem.{NetProblem}

-- two problems have the same parts
pub record AreSame (a b : NetProblem) : Type 0 where
  pub tree : a.problem.tree.nodes ≡ b.problem.tree.nodes
  pub driver : a.problem.driver ≡ b.problem.driver
  pub sinks : a.problem.sinks ≡ b.problem.sinks
  pub places : a.problem.places ≡ b.problem.places
  pub reps : a.problem.reps ≡ b.problem.reps
  pub allowed : a.problem.allowed ≡ b.problem.allowed
  pub names : a.names ≡ b.names

-- a net of a design has one problem
abbrev pub OneProblem : Type 0
OneProblem =
    (d : Design) (name : List ℕ) (a b : NetProblem) → IsNetProblem d name a → IsNetProblem d name b → AreSame a b

-- a net that has one is not refused
abbrev pub ProblemOrRefused : Type 0
ProblemOrRefused = (d : Design) (name : List ℕ) (found : NetProblem) (refusal : Refusal) → IsNetProblem d name found
    → IsFirstRefusal d name refusal → ⊥

-- a net has one first refusal
abbrev pub OneRefusal : Type 0
OneRefusal = (d : Design) (name : List ℕ) (a b : Refusal) → IsFirstRefusal d name a → IsFirstRefusal d name b → a ≡ b

-- what is refused for a missing required time alone, is not refused without the constraints, or only for its size
abbrev pub BareAccepts : Type 0
BareAccepts =
    (d : Design) (name : List ℕ) (node : NodeName) (refusal : Refusal) → IsFirstRefusal d name (Unconstrained node)
    → IsFirstBareRefusal d name refusal
    → number_of refusal ≡ 16

-- without the constraints, two nets have the same parts
pub record AreSameBare (a b : BareNet) : Type 0 where
  pub tree : a.tree.nodes ≡ b.tree.nodes
  pub driver : a.driver ≡ b.driver
  pub names : a.names ≡ b.names
  pub sinks : a.sinks ≡ b.sinks

-- a net of a design is one without its constraints
abbrev pub OneBareNet : Type 0
OneBareNet =
    (d : Design) (name : List ℕ) (a b : BareNet) → IsBareNet d name a → IsBareNet d name b → AreSameBare a b

-- and is not refused then
abbrev pub BareOrRefused : Type 0
BareOrRefused = (d : Design) (name : List ℕ) (bare : BareNet) (refusal : Refusal) → IsBareNet d name bare
    → IsFirstBareRefusal d name refusal → ⊥
