-- A net along the sixteen refusals, one after another.
use Rattle.std.proofs.Common.{◌≡◌, ℕ, ◌<◌, ◌≤◌, List, arith, inl, inr, subst, Some}
use Rattle.std.proofs.lemmas.Bool.{cases_lt}
use Rattle.elmore.specs.declared.tree.Node.{Node}
use Rattle.ver_module.specs.declared.direction.PortDir.TheVariants.{Inout}
use Rattle.vg_scan.specs.declared.name.NodeName.{NodeName}
use Rattle.spef_wire.proofs.AnswerLemmas.{trees_are}
use Rattle.spef_wire.specs.Refusals.{number_of, Refuses as WireRefuses, PassesUpTo as PassesWire, IsFirstRefusal as IsFirstInWire, IsNetTree}
use Rattle.spef_wire.specs.declared.refusal.Refusal.{Refusal}
use Rattle.spef_wire.specs.declared.refusal.Refusal.TheVariants.{UnknownNet, Section, Reduced, Inductive, Bidirectional, NoDriver, ManyDrivers, Mismatch, Tied, NoDrive, NoLoad, Floating, Loop, NoSink, Unconstrained, TooLarge}
use Rattle.vg_design.specs.Designs.{Design, Joined, port_of}
use Rattle.vg_design.specs.Parts.{IsWithinLimits}
use Rattle.vg_design.specs.Refusals.{Holds, IsPastLimits}
use Rattle.vg_design.specs.Steps.{IsFirstHeld, PassesNet}

module _ (d : Design) (net : Joined) where
  -- what the parasitics alone are refused for, the net is refused for; but for its size
  held : (r : Refusal) → number_of r < 16 → WireRefuses net.par r → Holds d net r
  held UnknownNet low h = absurd h
  held (Section fault) low h = absurd h
  held Reduced low h = h
  held Inductive low h = h
  held Bidirectional low h = inl h
  held NoDriver low h = h
  held ManyDrivers low h = h
  held Mismatch low h = absurd h
  held Tied low h = absurd h
  held NoDrive low h = absurd h
  held (NoLoad node) low h = absurd h
  held (Floating node) low h = h
  held Loop low h = h
  held NoSink low h = h
  held (Unconstrained node) low h = absurd h
  held TooLarge low h = absurd (omega (arith, low))

  -- the first ones, which the parasitics tell, and whether the net is an inout port
  below : (n : ℕ) → n ≤ 8 → PassesWire n net.par → (5 < n → port_of d.netlist net.id ≡ Some Inout → ⊥) → PassesNet n d net
  below n few passes inout UnknownNet low h = h
  below n few passes inout (Section fault) low h = h
  below n few passes inout Reduced low h = passes Reduced low h
  below n few passes inout Inductive low h = passes Inductive low h
  below n few passes inout Bidirectional low h = elim h [
    | inl both ↦ passes Bidirectional low both
    | inr port ↦ inout low port
  ]
  below n few passes inout NoDriver low h = passes NoDriver low h
  below n few passes inout ManyDrivers low h = passes ManyDrivers low h
  below n few passes inout r low h = absurd (omega (arith, low, few))

  pub passes_8 : PassesWire 12 net.par → (port_of d.netlist net.id ≡ Some Inout → ⊥) → PassesNet 8 d net
  passes_8 passes inout = below 8 (omega arith) (λ r low. passes r (omega (arith, low))) (λ _. inout)

  pub first_of_wire : (r : Refusal) → IsFirstInWire net.par r → number_of r < 8 → (5 < number_of r → port_of d.netlist net.id ≡ Some Inout → ⊥) → IsFirstHeld d net r
  first_of_wire r first low inout = record { holds = held r (omega (arith, low)) first.holds; first = below (number_of r) (omega (arith, low)) first.first inout }

  pub first_inout : (n : ℕ) → 5 ≤ n → PassesWire n net.par → port_of d.netlist net.id ≡ Some Inout → IsFirstHeld d net Bidirectional
  first_inout n some passes port = record { holds = inr port; first = below 5 (omega arith) (λ r low. passes r (omega (arith, low, some))) (λ more. absurd (omega (arith, more))) }

  -- one refusal more
  pub passes_9 : PassesNet 8 d net → (Holds d net Mismatch → ⊥) → PassesNet 9 d net
  passes_9 passes never Mismatch low h = never h
  passes_9 passes never r low h = passes r (omega (arith, low)) h

  pub passes_10 : PassesNet 9 d net → (Holds d net Tied → ⊥) → PassesNet 10 d net
  passes_10 passes never Tied low h = never h
  passes_10 passes never r low h = passes r (omega (arith, low)) h

  pub passes_11 : PassesNet 10 d net → (Holds d net NoDrive → ⊥) → PassesNet 11 d net
  passes_11 passes never NoDrive low h = never h
  passes_11 passes never r low h = passes r (omega (arith, low)) h

  pub passes_12 : PassesNet 11 d net → ((node : NodeName) → Holds d net (NoLoad node) → ⊥) → PassesNet 12 d net
  passes_12 passes never (NoLoad node) low h = never node h
  passes_12 passes never r low h = passes r (omega (arith, low)) h

  pub passes_16 : PassesNet 15 d net → ((node : NodeName) → Holds d net (Unconstrained node) → ⊥) → PassesNet 16 d net
  passes_16 passes never (Unconstrained node) low h = never node h
  passes_16 passes never r low h = passes r (omega (arith, low)) h

  pub passes_17 : PassesNet 16 d net → (Holds d net TooLarge → ⊥) → PassesNet 17 d net
  passes_17 passes never TooLarge low h = never h
  passes_17 passes never r low h = passes r (omega (arith, low)) h

  -- those of the tree, which the parasitics tell
  between : (n : ℕ) → n ≤ 15 → PassesNet 12 d net → PassesWire n net.par → PassesNet n d net
  between n few passes wire (Floating node) low h = wire (Floating node) low h
  between n few passes wire Loop low h = wire Loop low h
  between n few passes wire NoSink low h = wire NoSink low h
  between n few passes wire r low h = passes r (omega (arith, low, few)) h

  pub passes_15 : PassesNet 12 d net → PassesWire 15 net.par → PassesNet 15 d net
  passes_15 = between 15 (omega arith)

  pub first_of_tree : (r : Refusal) → PassesNet 12 d net → PassesWire 12 net.par → IsFirstInWire net.par r → number_of r < 15 → IsFirstHeld d net r
  first_of_tree r passes wire first low =
      elim (cases_lt (number_of r) 12) [
        | inl before ↦ absurd (wire r before first.holds)
        | inr late ↦ record { holds = held r (omega (arith, low)) first.holds; first = between (number_of r) (omega (arith, low)) passes first.first }
      ]

  -- a net has one tree, so where that passes never limit, none does
  pub not_past : (tree : List Node) (order : List ℕ) → IsNetTree net.par tree order → IsWithinLimits d net tree order → IsPastLimits d net → ⊥
  not_past tree order a_tree within past =
      let same = trees_are net.par tree past.tree order past.order a_tree past.a_tree in
      past.past (subst (λ (t : List Node). IsWithinLimits d net t past.order) same.0 (subst (λ (o : List ℕ). IsWithinLimits d net tree o) same.1 within))
