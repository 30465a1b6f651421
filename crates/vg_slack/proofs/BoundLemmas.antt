-- How long the lists of a search are.
use Rattle.std.proofs.Common.{◌≡◌, ℕ, ◌+◌, ◌-◌, ◌<◌, ◌≤◌, Bool, List, length, ap, ◌∙◌, arith}
use Rattle.std.proofs.lemmas.List.Sums.{sum_by-cons}
use Rattle.std.specs.List.{sum_by, filter, range_with_len}
use Rattle.elmore.specs.Path.{is_child}
use Rattle.elmore.specs.Problems.{is_sink}
use Rattle.elmore.specs.Trees.{parent_of}
use Rattle.elmore.specs.declared.problem.Problem.{Problem}
use Rattle.elmore.proofs.TreeLemmas.{tree_of}
use Rattle.elmore.proofs.WireLemmas.{downstream_children}
use Rattle.sol_arena.specs.Uses.{one_if}
use Rattle.cand_pairs.specs.Merging.{children_from}
use Rattle.cand_pairs.proofs.ChildLemmas.{IsChild}
use Rattle.cand_pairs.proofs.FromLemmas.{children_here, children_other, children_none, children_all}
use Rattle.wire_widths.specs.declared.width.Width.{Width}
use Rattle.cand_pool.specs.Pools.{Block}
use Rattle.cand_turns.specs.declared.branch.Branch.{Branch}
use Rattle.cand_turns.specs.declared.part.Part.{Part}
use Rattle.cand_turns.specs.declared.part.Part.TheVariants.{Live}
use Rattle.cand_turns.specs.Branches.{classes_in}
use Rattle.cand_turns.specs.Parts.{size_in}
use Rattle.cand_turns.specs.Tooled.{added_at}
use Rattle.vg_slack.specs.Bounds.{worth, most_at, most_from, IsFew}

-- BOUNDS
-- at first none of its children is there
pub most_none : (p : Problem) (v : ℕ) → most_from p (length p.tree.nodes) v ≡ one_if (is_sink p.sinks v)
most_none p v = omega (arith, ap (λ (us : List ℕ). sum_by (most_at p) us) (children_none p v))

-- when a node comes in, all its children are there
pub most_whole : (p : Problem) (v : ℕ) → v < length p.tree.nodes → most_from p (v + 1) v + added_at p v ≡ most_at p v
most_whole p v v_n =
    let whole : length p.tree.nodes - 0 ≡ length p.tree.nodes = omega arith in
    omega (
      arith,
      ap (λ (us : List ℕ). sum_by (most_at p) us)
          (children_all p v (v + 1) (omega arith) v_n
          ∙ ap (λ (k : ℕ). filter (is_child (parent_of p.tree.nodes) v) (range_with_len 0 k)) whole),
      downstream_children (parent_of p.tree.nodes) (length p.tree.nodes) (tree_of p.tree.nodes p.tree.a_tree) (worth p) v v_n,
    )

pub most_child : (p : Problem) (i v : ℕ) → IsChild p.tree.nodes v i → most_from p i v ≡ most_at p i + most_from p (i + 1) v
most_child p i v child =
    omega (
      arith,
      ap (λ (us : List ℕ). sum_by (most_at p) us) (children_here p v i child),
      sum_by-cons (most_at p) i (children_from p v (i + 1)),
    )

pub most_other : (p : Problem) (i v : ℕ) → i < length p.tree.nodes → (IsChild p.tree.nodes v i → ⊥) → most_from p i v ≡ most_from p (i + 1) v
most_other p i v i_n no_child = ap (λ (us : List ℕ). one_if (is_sink p.sinks v) + sum_by (most_at p) us) (children_other p v i i_n no_child)

-- PARTS
-- a part to which no child came in
pub start_few : (p : Problem) (ws : List Width) (v : ℕ) (s : Block) (part : Part) → ((odd : Bool) → size_in s part odd ≤ one_if (is_sink p.sinks v))
    → IsFew p ws (length p.tree.nodes) v s part
start_few p ws v s part few one odd = omega (arith, few odd, most_none p v)

-- a branch with the cells of its node
pub closed_few : (p : Problem) (ws : List Width) (i : ℕ) (s t : Block) (branch closed : Branch) → i < length p.tree.nodes → IsFew p ws (i + 1) i s (Live branch)
    → ((odd : Bool) → length (classes_in t closed odd) ≤ length (classes_in s branch odd) + added_at p i)
    → length ws ≡ 1 → (odd : Bool) → length (classes_in t closed odd) ≤ most_at p i
closed_few p ws i s t branch closed i_n few more one odd = omega (arith, few one odd, more odd, most_whole p i i_n)

-- the part of a node to which a child came in, with as many candidates as the child has or fewer
pub taken_few : (p : Problem) (ws : List Width) (i v : ℕ) (s t : Block) (x y : Part) (added : Bool → ℕ) → IsChild p.tree.nodes v i → IsFew p ws (i + 1) v s x
    → (length ws ≡ 1 → (odd : Bool) → added odd ≤ most_at p i) → (length ws ≡ 1 → (odd : Bool) → size_in t y odd ≤ size_in s x odd + added odd) → IsFew p ws i v t y
taken_few p ws i v s t x y added child few added_few more one odd = omega (arith, few one odd, added_few one odd, more one odd, most_child p i v child)
