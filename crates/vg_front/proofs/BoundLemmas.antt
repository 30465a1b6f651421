-- How large the numbers of candidates can be.
use Rattle.std.proofs.Common.{ℕ, ◌*◌, ◌^◌, ◌<◌, ◌≤◌, Bool, List, length, ap, subst, arith, Option, Some, None}
use Rattle.std.proofs.lemmas.Int.{ints}
use Rattle.std.proofs.lemmas.List.FromFn.{length-range_with_len}
use Rattle.std.proofs.lemmas.List.Sums.{sum_by-le}
use Rattle.std.specs.List.{Contains}
use Rattle.elmore.specs.Cells.{rep_of, cell_cost}
use Rattle.elmore.specs.Pairs.{IsPairAt}
use Rattle.elmore.specs.Path.{nodes as node_numbers}
use Rattle.elmore.specs.Trees.{resistance}
use Rattle.elmore.specs.declared.problem.Problem.{Problem}
use Rattle.elmore.proofs.PlacedTreeLemmas.{rep_within}
use Rattle.sol_arena.specs.declared.slot.Made.{Made}
use Rattle.sol_arena.specs.Meanings.{cells_of}
use Rattle.cand_pairs.specs.Candidates.{IsOpenWith, Fork}
use Rattle.cand_pairs.specs.Merging.{IsSmallPair, live_from, own_from, fork_from}
use Rattle.cand_pairs.specs.Priced.{Priced, IsPricedAt, IsPricedOpenWith}
use Rattle.cand_pairs.proofs.PairPartLemmas.{live_child_parts}
use Rattle.cand_pairs.proofs.SmallPairLemmas.{live_from_in, open_times, open_small, pair_small, charge_small}
use Rattle.vg_front.specs.declared.offer.Candidate.{Candidate}
use Rattle.vg_front.specs.Offers.{priced}
use Rattle.vg_front.specs.Held.{AreBounded, IsPruned, carried_by}
use Rattle.vg_front.specs.Fronts.{cost_by, IsOpenAt, IsClosedAt}
use Rattle.vg_front.specs.Joining.{IsCarriedAt}
use Rattle.vg_front.proofs.FrontLemmas.{in_list}
use Rattle.vg_front.proofs.OfferLemmas.{of_map}

-- no cell costs more than 10^12
cell_small : (p : Problem) (b : Option ℕ) → cell_cost (rep_of p.reps b) ≤ 10 ^ 12
cell_small p None = omega arith
cell_small p (Some b) = (rep_within p.reps p.within.each_repeater b).cost

-- and all cells of a solution
pub cost_small : (p : Problem) (held : ℕ → Option ℕ) → cost_by p held ≤ 10 ^ 17
cost_small p held =
    omega (
      arith,
      p.within.nodes,
      length-range_with_len 0 (length p.tree.nodes),
      sum_by-le (λ u. cell_cost (rep_of p.reps (held u))) (10 ^ 12) (node_numbers (length p.tree.nodes)) (λ k d k_n. cell_small p (held _)),
    )

-- what is open with a cost is open without it
pub open_pair : (p : Problem) (odd : Bool) (fork : Fork) (z : Priced) → IsPricedOpenWith p (IsPricedAt p) odd fork z
    → IsOpenWith p (IsPairAt p) odd fork z.pair
open_pair p odd fork z (pick, is) = (
  λ u. (pick u).pair,
  record {
    chosen = λ u found. let (cells, at) = is.chosen u found in (cells, at.pair);
    wanted = is.wanted;
    joined = is.joined;
  },
)

pub open_bounded : (p : Problem) (cap : Option ℕ) (i v : ℕ) (ms : List Made) (classes : Bool → List Candidate) → v < length p.tree.nodes
    → IsOpenAt p cap i v ms classes → (odd : Bool) → AreBounded (classes odd)
open_bounded p cap i v ms classes v_n at odd x found =
    let is : IsOpenWith p (IsPairAt p) odd (fork_from p v i) (priced x.offer).pair = open_pair p odd (fork_from p v i) (priced x.offer)
    ((at.part odd).part (priced x.offer) (in_list (classes odd) x found)) in
    let times = open_times p v odd (own_from p v i) (live_from p v i) (priced x.offer).pair
    (λ u u_in. (live_child_parts p v u (live_from_in p v i u u_in)).child.node) is in
    record {
      cost = omega (arith, (at.solved odd x found).cost, cost_small p (cells_of ms x.sol.0));
      low = times.0;
      high = times.1;
      load = open_small p v odd i (priced x.offer).pair v_n is;
    }

pub closed_bounded : (p : Problem) (cap : Option ℕ) (v : ℕ) (ms : List Made) (classes : Bool → List Candidate) → IsClosedAt p cap v ms classes
    → (odd : Bool) → AreBounded (classes odd)
closed_bounded p cap v ms classes at odd x found =
    let (cells, is) = (at.part odd).part (priced x.offer) (in_list (classes odd) x found) in
    let small : IsSmallPair (priced x.offer).pair = pair_small p v odd (priced x.offer).pair (cells, is.pair) in
    record {
      cost = omega (arith, (at.solved odd x found).cost, cost_small p (cells_of ms x.sol.0));
      low = omega (arith, ints, small.low);
      high = omega (arith, ints, small.high);
      load = omega (arith, small.load);
    }

-- and above the wire
pub carried_bounded : (p : Problem) (cap : Option ℕ) (v : ℕ) (ms : List Made) (classes : Bool → List Candidate) → v < length p.tree.nodes
    → IsCarriedAt p cap v 0 ms classes
    → (odd : Bool) → AreBounded (classes odd)
carried_bounded p cap v ms classes v_n at odd x found =
    let (h, h_in, x_is) = of_map (carried_by (resistance p.tree.nodes v) 0) (at.below odd) x
    (subst (λ (l : List Candidate). Contains l x) (at.above odd) found) in
    let (cells, is) = (at.closed.part odd).part (priced h.offer) (in_list (at.below odd) h h_in) in
    let small : IsSmallPair (priced h.offer).pair = pair_small p v odd (priced h.offer).pair (cells, is.pair) in
    let charge : resistance p.tree.nodes v * h.offer.c ≤ 10 ^ 23 = charge_small p v h.offer.c v_n small.load in
    record {
      cost = omega (arith, ap (λ (t : Candidate). t.offer.cost) x_is, (at.closed.solved odd h h_in).cost, cost_small p (cells_of ms h.sol.0));
      low = omega (arith, ints, ap (λ (t : Candidate). t.offer.q) x_is, small.low, charge);
      high = omega (arith, ints, ap (λ (t : Candidate). t.offer.q) x_is, small.high);
      load = omega (arith, ap (λ (t : Candidate). t.offer.c) x_is, small.load);
    }

pub pruned_bounded : (xs zs : List Candidate) → IsPruned xs zs → AreBounded xs → AreBounded zs
pruned_bounded xs zs pruned bounded x found = bounded x (pruned.part x found)
