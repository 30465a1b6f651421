-- What a problem says of its placements.
use Rattle.std.proofs.Common.{◌≡◌, ℕ, ◌*◌, ◌<◌, ◌≤◌, ◌^◌, List, length, get_or, slice_index_or, Option, ℤ, pos, ◌+ℤ◌, ◌-ℤ◌, ◌∙◌, sym, arith, Bool, false, Some, None, MatchOption}
use Rattle.std.proofs.lemmas.Int.{ints}
use Rattle.std.proofs.lemmas.List.Sums.{sum_by-le}
use Rattle.elmore.specs.Cells.{rep_at, rep_of, cell_at, input_capacitance}
use Rattle.elmore.specs.Trees.{parent_of, capacitance}
use Rattle.elmore.specs.Problems.{sink_of, IsRepWithin}
use Rattle.elmore.specs.Placed.{IsLeast, IsWanted, IsFirstUnwanted}
use Rattle.elmore.specs.Steps.{IsPlacedTree, placed_capacitance}
use Rattle.elmore.specs.Legal.{IsPlaced}
use Rattle.elmore.specs.Placements.{IsPlacement, IsSlack, IsSinkAt, slack_at, load_of, delay_between, is_inverted, HasPolarity, IsFirstWrong}
use Rattle.elmore.specs.declared.parts.Sink.{Sink}
use Rattle.elmore.specs.declared.problem.Problem.{Problem}
use Rattle.elmore.proofs.CellLemmas.{inputs_le}
use Rattle.elmore.proofs.LoadLemmas.{load_bound}
use Rattle.elmore.proofs.LeastLemmas.{within_sinks}
use Rattle.elmore.proofs.PlacedTreeLemmas.{rep_within, small_sum}

-- a placement with cells only at places is within the limits of its problem
pub placed_tree : (p : Problem) (cells : List (Option ℕ)) → IsPlacement p cells → IsPlaced p cells → IsPlacedTree p.tree.nodes p.reps cells
placed_tree p cells placement placed = record {
  a_tree = p.tree.a_tree;
  placement = placement;
  nodes = p.within.nodes;
  resistances = p.within.resistances;
  capacitances = omega (arith, p.within.capacitances, inputs_le p.reps cells p.places placed);
  each_repeater = p.within.each_repeater;
}

-- the loads of a placement can be computed, wherever it has cells
pub sum_fits : (p : Problem) (cells : List (Option ℕ)) → IsPlacement p cells → placed_capacitance p.tree.nodes p.reps cells ≤ 2 ^ 100
sum_fits p cells placement =
    omega (
      arith,
      p.within.nodes,
      p.within.capacitances,
      placement.one_each,
      sum_by-le (λ cell. input_capacitance (rep_of p.reps cell)) (2 ^ 64) cells (λ v d v_n. input_small (get_or cells v d)),
    )
  where
    input_small : (cell : Option ℕ) → input_capacitance (rep_of p.reps cell) ≤ 2 ^ 64
    input_small None = omega arith
    input_small (Some b) = let within : IsRepWithin (rep_at p.reps b) = rep_within p.reps p.within.each_repeater b in omega (arith, within.cin)

pub load_fits : (p : Problem) (cells : List (Option ℕ)) → IsPlacement p cells → (v : ℕ) → load_of p cells v ≤ 2 ^ 100
load_fits p cells placement v =
    omega (
      arith,
      load_bound (parent_of p.tree.nodes) (capacitance p.tree.nodes) (cell_at p.reps cells) (length p.tree.nodes) v,
      small_sum p.tree.nodes p.reps cells placement (sum_fits p cells placement),
    )

-- the least that the sinks have left, by the delays from the root, is the slack
pub slack_is : (p : Problem) (cells : List (Option ℕ)) (delays : List ℤ) (start x : ℤ)
    → start ≡ p.driver.arrival +ℤ p.driver.k +ℤ pos (p.driver.r * load_of p cells 0)
    → ((v : ℕ) → v < length p.tree.nodes → slice_index_or delays v (pos 0) ≡ pos (delay_between p cells 0 v))
    → IsLeast p.sinks (λ v sink. sink.required -ℤ (start +ℤ slice_index_or delays v (pos 0))) x
    → IsSlack p cells x
slack_is p cells delays start x start_is delays_are least = record {
  least = λ w sink here. rw (← same w sink here) (least.least w sink here);
  met = let (w, sink, here, is) = least.met in (w, sink, here, is ∙ same w sink here);
}
  where
    same : (w : ℕ) (sink : Sink) → IsSinkAt p w sink → sink.required -ℤ (start +ℤ slice_index_or delays w (pos 0)) ≡ slack_at p cells w sink
    same w sink here =
        rw (start_is, delays_are w (omega (arith, within_sinks p.sinks w sink here, p.sinks_each)))
        (omega (arith, ints))

-- a sink is unlike its mark where its polarity is wrong
pub wrong_is : (p : Problem) (cells : List (Option ℕ)) (inverted : List Bool) (found : Option ℕ)
    → ((v : ℕ) → v < length p.tree.nodes → slice_index_or inverted v false ≡ is_inverted p cells v)
    → MatchOption found ((w : ℕ) → IsWanted (sink_of p.sinks w) (slice_index_or inverted w false)) (λ w. IsFirstUnwanted p.sinks (λ v. slice_index_or inverted v false) w)
    → MatchOption found ((w : ℕ) → HasPolarity p cells w) (λ w. IsFirstWrong p cells w)
wrong_is p cells inverted found marks = go found
  where
    marked : (w : ℕ) (sink : Sink) → IsSinkAt p w sink → slice_index_or inverted w false ≡ is_inverted p cells w
    marked w sink here = marks w (omega (arith, within_sinks p.sinks w sink here, p.sinks_each))

    alike : (w : ℕ) → IsWanted (sink_of p.sinks w) (slice_index_or inverted w false) → HasPolarity p cells w
    alike w same sink here = sym (marked w sink here) ∙ same sink here

    go : (found : Option ℕ) → MatchOption found ((w : ℕ) → IsWanted (sink_of p.sinks w) (slice_index_or inverted w false)) (λ w. IsFirstUnwanted p.sinks (λ v. slice_index_or inverted v false) w)
        → MatchOption found ((w : ℕ) → HasPolarity p cells w) (λ w. IsFirstWrong p cells w)
    go None all = λ w. alike w (all w)
    go (Some w) first = record {
      wrong = let (sink, here, other) = first.wrong in (sink, here, λ same. other (marked w sink here ∙ same));
      before = λ v v_w. alike v (first.before v v_w);
    }
