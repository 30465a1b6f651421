-- Problems of the same parts are one.
use mathlib.Core.HLevel.{is_prop→PathP}
use Rattle.std.proofs.Props.{props}
use Rattle.std.proofs.Common.{◌≡◌, ℕ, List, Bool, Option, length, sym, ◌∙◌}
use Rattle.std.specs.Prelude.{true, is_some}
use Rattle.std.specs.List.{list_any}
use Rattle.elmore.specs.Allowances.{AreAllowances}
use Rattle.elmore.specs.Problems.{ArePlaces, AreRising, IsProblemWithin, live_nodes}
use Rattle.elmore.specs.Trees.{IsTree}
use Rattle.elmore.specs.declared.allowed.Allowed.{Allowed}
use Rattle.elmore.specs.declared.parts.Driver.{Driver}
use Rattle.elmore.specs.declared.parts.Sink.{Sink}
use Rattle.elmore.specs.declared.problem.Problem.{Problem}
use Rattle.elmore.specs.declared.rep.Rep.{Rep}
use Rattle.elmore.specs.declared.tree.Node.{Node}
use Rattle.elmore.specs.declared.tree.Tree.{Tree}

sinks_once : (tree : Tree) (sinks : List (Option Sink)) → IsProp (length sinks ≡ length tree.nodes)
sinks_once tree sinks = hlevel props

some_once : (sinks : List (Option Sink)) → IsProp (list_any is_some sinks ≡ true)
some_once sinks = hlevel props

places_once : (tree : List Node) (sinks : List (Option Sink)) (places : List Bool) → IsProp (ArePlaces tree sinks places)
places_once tree sinks places = hlevel props

live_once : (tree : List Node) (sinks : List (Option Sink)) (live : List Bool) → IsProp (live ≡ live_nodes tree sinks)
live_once tree sinks live = hlevel props

rising_once : (reps : List Rep) → IsProp (AreRising reps)
rising_once reps = hlevel props

allowed_once : (n reps : ℕ) (allowed : List Allowed) → IsProp (AreAllowances n reps allowed)
allowed_once n reps allowed = hlevel props

within_once : (tree : List Node) (driver : Driver) (sinks : List (Option Sink)) (places : List Bool) (reps : List Rep) → IsProp (IsProblemWithin tree driver sinks places reps)
within_once tree driver sinks places reps = hlevel props

tree_once : (nodes : List Node) → IsProp (IsTree nodes)
tree_once nodes = hlevel props

one_tree : (a b : Tree) → a.nodes ≡ b.nodes → a ≡ b
one_tree a b e = λ i. record { nodes = e i; a_tree = is_prop→PathP (λ j. IsTree (e j)) (λ j. tree_once (e j)) a.a_tree b.a_tree i }

-- two problems are one where their parts are; which nodes are live follows from them
pub one_of_parts : (a b : Problem) → a.tree.nodes ≡ b.tree.nodes → a.driver ≡ b.driver → a.sinks ≡ b.sinks → a.places ≡ b.places → a.reps ≡ b.reps → a.allowed ≡ b.allowed → a ≡ b
one_of_parts a b nodes d s p r w =
    let t : a.tree ≡ b.tree = one_tree a.tree b.tree nodes in
    let l : a.live ≡ b.live = a.live_are ∙ (λ i. live_nodes (nodes i) (s i)) ∙ sym b.live_are in
    λ i. record {
      tree = t i;
      driver = d i;
      sinks = s i;
      places = p i;
      live = l i;
      reps = r i;
      allowed = w i;
      sinks_each = is_prop→PathP (λ j. length (s j) ≡ length (t j).nodes) (λ j. sinks_once (t j) (s j)) a.sinks_each b.sinks_each i;
      some_sink = is_prop→PathP (λ j. list_any is_some (s j) ≡ true) (λ j. some_once (s j)) a.some_sink b.some_sink i;
      places_are = is_prop→PathP (λ j. ArePlaces (t j).nodes (s j) (p j)) (λ j. places_once (t j).nodes (s j) (p j)) a.places_are b.places_are i;
      live_are = is_prop→PathP (λ j. l j ≡ live_nodes (t j).nodes (s j)) (λ j. live_once (t j).nodes (s j) (l j)) a.live_are b.live_are i;
      rising = is_prop→PathP (λ j. AreRising (r j)) (λ j. rising_once (r j)) a.rising b.rising i;
      allowed_are = is_prop→PathP (λ j. AreAllowances (length (t j).nodes) (length (r j)) (w j)) (λ j. allowed_once (length (t j).nodes) (length (r j)) (w j)) a.allowed_are b.allowed_are i;
      within = is_prop→PathP (λ j. IsProblemWithin (t j).nodes (d j) (s j) (p j) (r j)) (λ j. within_once (t j).nodes (d j) (s j) (p j) (r j)) a.within b.within i;
    }
