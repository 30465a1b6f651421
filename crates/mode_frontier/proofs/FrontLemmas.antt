-- What mode `frontier` says.
use Rattle.std.proofs.lemmas.Bool.{true≢false}
use Rattle.std.proofs.Common.{◌≡◌, ◌≢◌, ℕ, ◌==◌, false, List, [], length, refl, sym, ap, ◌∙◌, subst, arith, Option, ◌++◌}
use Rattle.std.specs.Prelude.{slice_index}
use Rattle.std.specs.List.{All}
use Rattle.std.proofs.lemmas.List.{length-map}
use Rattle.std.proofs.lemmas.List.Elements.{All-weaker}
use Rattle.std.proofs.lemmas.List.FromFn.{length-map-range_with_len}
use Rattle.elmore.specs.Frontier.{Point as Corner, IsAttained, IsFrontier, IsPointOf}
use Rattle.elmore.specs.Placed.{IsPlacementOf}
use Rattle.elmore.specs.Placements.{cost_of}
use Rattle.elmore.specs.Trees.{node_at}
use Rattle.elmore.specs.declared.problem.Problem.{Problem}
use Rattle.cand_pairs.specs.Candidates.{root_value}
use Rattle.cand_pairs.proofs.CoverLemmas.{root_pairs}
use Rattle.lib_linear.specs.declared.repeater.Repeater.{Repeater}
use Rattle.vg_design.specs.Designs.{Design, name_of}
use Rattle.vg_design.specs.Parts.{cells_of, loaded}
use Rattle.vg_design.proofs.PartLemmas.{order_size, tree_size}
use Rattle.vg_design.specs.declared.net_problem.NetProblem.{NetProblem}
use Rattle.vg_front.specs.Points.{IsFrontierOf, point_in}
use Rattle.vg_front.specs.declared.root.Point.{Point}
use Rattle.vg_report.specs.Reports.{front_report, none_line}
use Rattle.mode_frontier.specs.Answers.{HasNoneWithin, IsFrontSaid, IsPosedIn}
use Rattle.vg_answer.specs.Nets.{problem_in}
use Rattle.vg_answer.specs.Verdicts.{SaysOfNet}
use Rattle.vg_answer.specs.declared.kind.AnswerKind.TheVariants.{Report, NoneGood}

-- the cells of its placements are repeaters of the problem, one for each node at most
pub named : (p : Problem) (cap : Option ℕ) (points : List Point) (nodes reps : ℕ) → IsFrontierOf p cap points → length p.tree.nodes ≡ nodes
    → length p.reps ≡ reps → All (λ (x : Point). IsPlacementOf nodes reps x.placement.cells) points
named p cap points nodes reps front same_nodes same_reps =
    All-weaker (λ (x : Point). IsPointOf p cap x.placement.cells (point_in x)) (λ (x : Point). IsPlacementOf nodes reps x.placement.cells)
    (λ x at.
    subst (λ (n : ℕ). IsPlacementOf n reps x.placement.cells) same_nodes
    (subst (λ (n : ℕ). IsPlacementOf (length p.tree.nodes) n x.placement.cells) same_reps at.good.placement))
    points front.placed

-- every good placement has a slack, and so a point
none_within : (p : Problem) (cap : Option ℕ) → IsFrontier (IsAttained p cap) [] → HasNoneWithin p cap
none_within p cap front cells good within =
    let (x, pair, drives) = (root_pairs p cells).pair good in
    let slack = (root_pairs p cells).slack x pair in
    let point : Corner = record { cost = cost_of p cells; slack = root_value p x } in
    let (other, (k, low, _), _) = front.covers point (cells, record { good = good; within = within; costs = refl; slacks = slack }) in
    absurd (omega (arith, low))

-- a list that is not empty
pub some_points : (points : List Point) → (length points == 0) ≡ false → points ≢ []
some_points points e none = true≢false (sym (ap (λ (some : List Point). length some == 0) none) ∙ e)

-- what is said of a net with a problem
module _ (d : Design) (cap : Option ℕ) (name old new : List ℕ) (net : NetProblem) (points : List Point) (is : IsPosedIn d name net)
    (front : IsFrontierOf net.problem cap points) where
  posed_front : IsFrontierOf is.0.problem cap points
  posed_front = subst (λ (n : NetProblem). IsFrontierOf n.problem cap points) is.2 front

  -- a frontier without a point tells that no good placement is within the cap
  pub says_none : points ≡ [] → new ≡ old ++ none_line name → SaysOfNet (IsFrontSaid d cap name) NoneGood old new
  says_none none text = record {
    text = none_line name;
    says =
        let empty = subst (λ (some : List Point). IsFrontierOf is.0.problem cap some) none posed_front in
        IsFrontSaid.told_no_point is.0 is.1 (none_within is.0.problem cap empty.frontier) refl;
    is = text;
  }

  pub says_points : points ≢ [] → new ≡ old ++ front_report name (cells_of d.library.repeaters) net points
      → SaysOfNet (IsFrontSaid d cap name) Report old new
  says_points some text = record {
    text = front_report name (cells_of d.library.repeaters) (problem_in is.0) points;
    says = IsFrontSaid.told_front is.0 is.1 points posed_front some refl;
    is = subst (λ (n : NetProblem). new ≡ old ++ front_report name (cells_of d.library.repeaters) n points) is.2 text;
  }

  -- the cells of its placements are repeaters of the library, one for each node at most
  pub points_named : All (λ (x : Point). IsPlacementOf (length net.names) (length d.library.repeaters) x.placement.cells) points
  points_named =
      let posed = is.0 in
      let ready = posed.ready in
      let tree = ready.tree.nodes in
      let order = ready.order in
      let joined = ready.pinned.net in
      let all : length posed.problem.tree.nodes ≡ length tree =
      ap length is.1.problem.tree_is ∙ length-map-range_with_len (λ i. loaded d joined (node_at tree i) (slice_index order i)) 0 (length tree) in
      let both : length tree ≡ length order =
      tree_size d joined ready.pinned.pins tree order is.1.ready ∙ sym (order_size d joined ready.pinned.pins tree order is.1.ready) in
      let names : length net.names ≡ length order =
      ap (λ (n : NetProblem). length n.names) is.2 ∙ length-map order (name_of joined.par) in
      let reps : length posed.problem.reps ≡ length d.library.repeaters =
      ap length is.1.problem.reps ∙ length-map d.library.repeaters (λ (r : Repeater). r.rep) in
      named posed.problem cap points (length net.names) (length d.library.repeaters) posed_front (all ∙ both ∙ sym names) reps
