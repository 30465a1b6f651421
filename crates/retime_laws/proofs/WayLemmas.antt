-- The way from the net that keeps the old name: every net on it is that of a stage, and it begins at the old driver.
use Rattle.std.proofs.Common.{◌<◌, ◌≡◌, ℕ, List, [], ◌∷◌, length, sym, ap, ◌∙◌, subst, arith, All, inl, inr, Some}
use Rattle.std.proofs.lemmas.Bool.{cases_eq}
use Rattle.std.proofs.lemmas.List.Elements.{All-cons, All-map, All-nil, All-weaker}
use Rattle.elmore.specs.declared.problem.Problem.{Problem}
use Rattle.elmore.proofs.HeadLemmas.{head_above}
use Rattle.cut_laws.proofs.BreadthLemmas.{found, found_all}
use Rattle.cut_laws.proofs.CutClimbLemmas.{cut_climbs}
use Rattle.cut_laws.proofs.CutWalkLemmas.{are_children, children, reached_are, signal_of}
use Rattle.cut_laws.proofs.ProblemLemmas.{cell_in, parent_in, rooted_in}
use Rattle.cut_laws.specs.CutNets.{AreCut, Begins, Pieces}
use Rattle.cut_laws.specs.Walks.{IsClimb, IsWalk, Signal, start_of}
use Rattle.vg_design.specs.Designs.{Design, Joined, driver_at, net_number}
use Rattle.split_laws.proofs.CutLemmas.{stages_are_cut}
use Rattle.split_laws.specs.Cuts.{pieces_of}
use Rattle.vg_retime.specs.WalkNets.{IsNetIn}
use Rattle.vg_retime.specs.Ways.{IsFirstNet, Nets}
use Rattle.vg_split.proofs.StageNumberLemmas.{head_number, number_below}
use Rattle.vg_split.specs.Splits.{Split, forest, head, net_of, stage_from}
use Rattle.vg_split.proofs.StageLists.{head_below, head_is}
use Rattle.vg_split.specs.Stages.{heads}
use Rattle.retime_laws.specs.Laws.{AreNetsOf, NewNetsAreCut, stages_of}
use Rattle.retime_laws.specs.NetlistStages.{stage_number}
use Rattle.retime_laws.specs.NewStages.{HasStages, IsPut, stage_net}
use Rattle.retime_laws.proofs.DriverLemmas.{old_driver}
use Rattle.retime_laws.proofs.OldLemmas.{none_some}
use Rattle.retime_laws.proofs.TimedLemmas.{above_root, are_timed, driver_name, net_is, root_bare, root_low}

pub new_nets_are_cut : NewNetsAreCut
new_nets_are_cut d n x new put has nets are = stages_are_cut d n x put.split new (stages_of x new nets) (are_timed d n x new put has nets are)

module _ (d : Design) (n : Joined) (x : Split) (new : Design) (put : IsPut d n x) (has : HasStages d n x new) (nets : Nets) (are : AreNetsOf x new nets) where
  abbrev pub p : Problem
  p = x.problem

  abbrev pub pieces : Pieces
  pieces = pieces_of x (stages_of x new nets)

  pub cut : AreCut p x.cells pieces
  cut = new_nets_are_cut d n x new put has nets are

  -- ---- nets of stages

  abbrev pub IsMet : ℕ → Type 0
  IsMet i = IsNetIn 16 new x.prefix i (nets i)

  met_at : (v : ℕ) → Begins p x.cells v → IsMet (pieces.net_of v)
  met_at v begins = are (stage_from x v) (number_below (forest x) v begins.node begins.head)

  -- ---- the way up

  met_up : (path : List ℕ) (v first : ℕ) → Begins p x.cells v → IsClimb pieces.nets (pieces.net_of v) path first → All IsMet (pieces.net_of v ∷ path)
  met_up [] v first begins climb = All-cons IsMet (pieces.net_of v) [] (met_at v begins) (All-nil IsMet)
  met_up (next ∷ path) v first begins (up, climb) = All-cons IsMet (pieces.net_of v) (next ∷ path) (met_at v begins) (elim (cases_eq v 0) [
    | inl root ↦ absurd (none_some (pieces.nets (pieces.net_of v)).above next (ap (λ u. (pieces.nets (pieces.net_of u)).above) root ∙ cut.first) up)
    | inr other ↦
        let (u, e) = head_above (parent_in p) (length p.tree.nodes) (rooted_in p) (cell_in p x.cells) v begins.head (omega (arith, other)) begins.node in
        let above : Begins p x.cells u = record { node = e.within; head = e.head } in
        let same : pieces.net_of u ≡ next = some_is (pieces.net_of u) next (sym ((cut.each v begins).above u above e.ends) ∙ up) in
        subst (λ i. All IsMet (i ∷ path)) same
        (met_up path u first above (subst (λ i. IsClimb pieces.nets i path first) (sym same) climb))
  ])
    where
      some_is : (a b : ℕ) → Some a ≡ Some b → a ≡ b
      some_is a b e = cc

  -- ---- the driver

  -- the first net has the driver of the net that is split
  first_driver : p.driver ≡ (nets (stage_number x new.netlist 0)).driver
  first_driver =
      let low = root_low d n x new put has nets in
      old_driver d n x new put has 0 low (root_bare d n x new put has nets)
      ∙ ap (driver_at new (stage_net has 0 low)) (sym (driver_name d n x new put has nets 0 low (are 0 low)))
      ∙ sym (net_is d n x new put has nets 0 low (are 0 low)).driver_is

  -- ---- the first net

  module _ (k : ℕ) (low : k < length (heads (forest x))) where
    abbrev pub asked : ℕ
    asked = pieces.net_of (head x k)

    pub asked_named : net_number new.netlist (net_of x k) ≡ Some asked
    asked_named = (has.netlist k low).named ∙ ap (λ u. Some (stage_number x new.netlist u)) (sym (head_number (forest x) k low))

    pub climbs : IsFirstNet 16 new x.prefix asked (record { net = pieces.net_of 0; driver = p.driver })
    climbs =
        let begins : Begins p x.cells (head x k) = record { node = head_below (forest x) (forest x).n k low; head = head_is (forest x) (forest x).n k low } in
        let (path, climb, once) = cut_climbs p x.cells pieces cut (head x k) begins in
        let first = root_low d n x new put has nets in
        record {
          nets = nets;
          path = path;
          climb = climb;
          once = once;
          accepted = met_up path (head x k) (pieces.net_of 0) begins climb;
          top = above_root d n x new put has nets 0 first (are 0 first) (root_bare d n x new put has nets);
          driver = first_driver;
        }

  -- ---- the way down

  pub met_down : (signals : List Signal) → IsWalk pieces.nets (start_of (pieces.net_of 0) p.driver) signals → All (λ s. IsMet s.net) signals
  met_down signals walk =
      subst (All (λ (s : Signal). IsMet s.net)) (sym (walk.come ∙ reached_are p x.cells pieces put.split.placed cut walk.k))
      (All-map (λ (s : Signal). IsMet s.net) (signal_of p x.cells pieces) (found (children p x.cells pieces) walk.k)
      (All-weaker (Begins p x.cells) (λ v. IsMet (pieces.net_of v)) met_at (found (children p x.cells pieces) walk.k)
      (found_all (children p x.cells pieces) (Begins p x.cells) (length p.tree.nodes) (are_children p x.cells pieces cut) walk.k)))
