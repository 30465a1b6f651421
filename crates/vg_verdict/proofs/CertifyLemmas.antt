-- The certificate of what a search answered fits the problem and is valid.
use Rattle.std.proofs.Common.{◌≡◌, ℕ, ◌*◌, ◌^◌, ◌<◌, ◌≤◌, Bool, true, false, cond, List, [], length, map, get_or, slice_index_or}
use Rattle.std.proofs.Common.{sym, ap, ◌∙◌, subst, arith, inl, inr, Option, None, ℤ}
use Rattle.std.specs.Prelude.{IfSome}
use Rattle.std.specs.List.{Contains}
use Rattle.std.proofs.lemmas.Bool.{cases_Bool, cases_lt}
use Rattle.std.proofs.lemmas.Int.{ints}
use Rattle.std.proofs.lemmas.List.{length-map, get_or_past}
use Rattle.std.proofs.lemmas.List.Elements.{All-contains, All-get_or}
use Rattle.std.proofs.lemmas.List.FromFn.{length-range_with_len}
use Rattle.std.proofs.lemmas.List.Sums.{sum_by-le}
use Rattle.std.proofs.Math.Nat.{mul-le-mul}
use Rattle.elmore.specs.Best.{IsGood, IsBest}
use Rattle.elmore.specs.Legal.{IsPlaced}
use Rattle.elmore.specs.Pairs.{IsPairAt, IsUndominated}
use Rattle.elmore.specs.Path.{nodes as node_numbers}
use Rattle.elmore.specs.Placements.{IsPlacement, IsSlack, load_of}
use Rattle.elmore.specs.Problems.{IsSmall, IsDriverWithin, is_live, is_sink}
use Rattle.elmore.specs.Steps.{IsPlacedTree}
use Rattle.elmore.specs.Trees.{parent_of}
use Rattle.elmore.specs.declared.pair.Pair.{Pair}
use Rattle.elmore.specs.declared.problem.Problem.{Problem}
use Rattle.elmore.proofs.LeastLemmas.{within_sinks}
use Rattle.elmore.proofs.LegalLemmas.{legal_placed}
use Rattle.elmore.proofs.PathLemmas.{over_le}
use Rattle.elmore.proofs.PlacedTreeLemmas.{load_small, delay_small}
use Rattle.elmore.proofs.ProblemLemmas.{placed_tree}
use Rattle.elmore.proofs.TreeLemmas.{tree_falls}
use Rattle.elmore.proofs.WireLemmas.{downstream_bound}
use Rattle.sol_arena.specs.Uses.{one_if}
use Rattle.cand_pairs.specs.Candidates.{IsLive, IsCover, of_lists, NodeLists}
use Rattle.cand_pairs.specs.Certificates.{IsValidBest, IsValidNone}
use Rattle.cand_pairs.specs.Merging.{IsSmallPair}
use Rattle.cand_pairs.proofs.CoverLemmas.{root_pairs, root_live}
use Rattle.cand_pairs.proofs.ExactLemmas.{exact_lists_cover}
use Rattle.cand_pairs.proofs.LiveChildLemmas.{live_sees}
use Rattle.cand_pairs.proofs.SmallPairLemmas.{pair_small}
use Rattle.vg_cert.specs.Fits.{IsTime, IsEntry, IsList, Fits, list_of, lists_in, lists_of}
use Rattle.vg_cert.specs.declared.certificate.NodeLists.{NodeLists as Moved}
use Rattle.vg_cert.specs.declared.certificate.Certificate.{Certificate}
use Rattle.vg_slack.specs.Bests.{HasNoCell, HasNoGood}
use Rattle.vg_slack.specs.Bounds.{worth, most_at}
use Rattle.vg_slack.specs.Kept.{Classes, IsKeptAt, AreListsOf, kept_in}
use Rattle.vg_slack.specs.declared.lists.Lists.{Lists}
use Rattle.vg_verdict.specs.Claims.{HasKept}

-- HOW LONG a list is
worth_small : (p : Problem) (v : ℕ) → worth p v ≤ 257
worth_small p v = omega (arith, one (is_sink p.sinks v), those (slice_index_or p.places v false), p.within.repeaters)
  where
    one : (b : Bool) → one_if b ≤ 1
    one true = omega arith
    one false = omega arith

    those : (b : Bool) → cond b (length p.reps) 0 ≤ length p.reps
    those true = omega arith
    those false = omega arith

most_small : (p : Problem) (v : ℕ) → most_at p v ≤ 2 ^ 28
most_small p v =
    omega (
      arith,
      downstream_bound (parent_of p.tree.nodes) (worth p) (length p.tree.nodes) v,
      sum_by-le (worth p) 257 (node_numbers (length p.tree.nodes)) (λ k d k_n. worth_small p (get_or (node_numbers (length p.tree.nodes)) k d)),
      length-range_with_len 0 (length p.tree.nodes),
      p.within.nodes,
    )

-- HOW LARGE its numbers are
pair_entry : (p : Problem) (v : ℕ) (odd : Bool) (x : Pair) → IsPairAt p v odd x → IsEntry x
pair_entry p v odd x is =
    let small : IsSmallPair x = pair_small p v odd x is in
    record {
      time = record { low = omega (arith, ints, small.low); high = omega (arith, ints, small.high) };
      load = small.load;
    }

pub slack_time : (p : Problem) (cells : List (Option ℕ)) (x : ℤ) → IsPlacement p cells → IsPlaced p cells → IsSlack p cells x → IsTime x
slack_time p cells x placement placed slack =
    let (w, sink, here, e) = slack.met in
    let tree : IsPlacedTree p.tree.nodes p.reps cells = placed_tree p cells placement placed in
    let drives : IsDriverWithin p.driver = p.within.drives in
    let within : IsSmall sink.required = p.within.times w sink here in
    let charge : p.driver.r * load_of p cells 0 ≤ 10 ^ 9 * 10 ^ 11 = mul-le-mul drives.r (load_small p.tree.nodes p.reps cells tree 0) in
    let delay = delay_small p.tree.nodes p.reps cells tree w (omega (arith, within_sinks p.sinks w sink here, p.sinks_each)) in
    record {
      low = omega (arith, ints, e, within.low, within.high, drives.k.low, drives.k.high, drives.arrival.low, drives.arrival.high, charge, delay);
      high = omega (arith, ints, e, within.low, within.high, drives.k.low, drives.k.high, drives.arrival.low, drives.arrival.high, charge, delay);
    }

-- so is the slack of a good placement
pub good_time : (p : Problem) (cells : List (Option ℕ)) (x : ℤ) → IsGood p cells → IsSlack p cells x → IsTime x
good_time p cells x good = slack_time p cells x good.placement (legal_placed p cells (load_of p cells) good.legal)

empty_list : (xs : List Pair) → xs ≡ [] → IsList xs
empty_list xs none = subst IsList (sym none) (record {
  rising = λ i j d low high. absurd (omega (arith, high));
  entries = λ k d k_n. absurd (omega (arith, k_n));
  few = omega arith;
})

-- THE LISTS of all nodes, and of no more
module _ (p : Problem) (lists : NodeLists) (kept : (v : ℕ) → v < length p.tree.nodes → IsKeptAt p v (lists v))
    (past : (v : ℕ) → length p.tree.nodes ≤ v → (odd : Bool) → lists v odd ≡ []) where
  pub dead_empty : (v : ℕ) → is_live p.tree.nodes p.sinks v ≡ false → (odd : Bool) → lists v odd ≡ []
  dead_empty v dead odd = elim (cases_lt v (length p.tree.nodes)) [
    | inl low ↦ (kept v low).dead dead odd
    | inr high ↦ past v high odd
  ]

  pub all_lists : (v : ℕ) (odd : Bool) → IsList (lists v odd)
  all_lists v odd = elim (cases_lt v (length p.tree.nodes)) [
    | inr high ↦ empty_list (lists v odd) (past v high odd)
    | inl low ↦ elim (cases_Bool (is_live p.tree.nodes p.sinks v)) [
      | inr dead ↦ empty_list (lists v odd) ((kept v low).dead dead odd)
      | inl live ↦
          let exact : IsUndominated (IsPairAt p v odd) (lists v odd) = (kept v low).live live odd in
          record {
            rising = exact.rising;
            entries = λ k d k_n. pair_entry p v odd (get_or (lists v odd) k d) (All-get_or (IsPairAt p v odd) (lists v odd) k d k_n exact.taken);
            few = omega (arith, (kept v low).few odd, most_small p v);
          }
    ]
  ]

-- what they show
module _ (p : Problem) (lists : NodeLists) (kept : (v : ℕ) → v < length p.tree.nodes → IsKeptAt p v (lists v)) where
  live_within : (v : ℕ) → IsLive p v → v < length p.tree.nodes
  live_within v live =
      let (w, seen) = live_sees p.tree.nodes p.sinks v live in
      omega (arith, over_le (parent_of p.tree.nodes) (tree_falls p.tree.nodes p.tree.a_tree) v w seen.over, seen.node)

  -- they cover
  exact_cover : IsCover p (of_lists lists)
  exact_cover = exact_lists_cover p lists (λ v live odd. (kept v (live_within v live)).live live odd)

  root_pair : (x : Pair) → Contains (lists 0 false) x → IsPairAt p 0 false x
  root_pair x found =
      let exact : IsUndominated (IsPairAt p 0 false) (lists 0 false) = (kept 0 (live_within 0 (root_live p))).live (root_live p) false in
      All-contains (IsPairAt p 0 false) (lists 0 false) x exact.taken found

  -- and show that what was found is best
  pub best_valid : (cells : List (Option ℕ)) (x : ℤ) → IsBest p cells x → IsValidBest p cells lists x
  best_valid cells x best = record {
    good = best.good;
    slack = best.slack;
    cover = exact_cover;
    bound = λ y found drives.
        let (others, is) = root_pair y found in
        best.most others _ ((root_pairs p others).good y is drives) ((root_pairs p others).slack y is);
  }

  -- or that nothing is good
  pub none_valid : HasNoGood p → IsValidNone p lists
  none_valid never = record {
    cover = exact_cover;
    empty = λ y found drives.
        let (others, is) = root_pair y found in
        never others ((root_pairs p others).good y is drives);
  }

-- THE CERTIFICATE, which has the lists that were moved
pub moved_count : (p : Problem) (lists : Lists) (moved : List Moved) → AreListsOf p true lists → map list_of moved ≡ map kept_in lists.nodes.items
    → length moved ≡ length p.tree.nodes
moved_count p lists moved all same =
    sym (length-map moved list_of) ∙ ap (λ (xs : List Classes). length xs) same ∙ length-map lists.nodes.items kept_in ∙ all.0

pub moved_kept : (p : Problem) (lists : Lists) (moved : List Moved) → AreListsOf p true lists → map list_of moved ≡ map kept_in lists.nodes.items
    → (v : ℕ) → v < length p.tree.nodes → IsKeptAt p v (lists_in moved v)
moved_kept p lists moved all same v v_n =
    subst (IsKeptAt p v) (sym (ap (λ (xs : List Classes). get_or xs v (λ odd. [])) same)) (all.1 v v_n)

past_end : (p : Problem) (moved : List Moved) → length moved ≡ length p.tree.nodes
    → (v : ℕ) → length p.tree.nodes ≤ v → (odd : Bool) → lists_in moved v odd ≡ []
past_end p moved long v high odd =
    ap (λ (lists : Classes). lists odd) (get_or_past (map list_of moved) v (λ odd. []) (omega (arith, long, high, length-map moved list_of)))

pub certificate_fits : (p : Problem) (cert : Certificate) → HasKept p cert → length cert.lists.items ≡ length p.tree.nodes
    → IsPlacement p cert.placement.cells → IfSome cert.slack IsTime → (cert.slack ≡ None → HasNoCell cert.placement.cells) → Fits p cert
certificate_fits p cert kept long placement time bare = record {
  placement = placement;
  one_each = long;
  lists = all_lists p (lists_of cert) kept (past_end p cert.lists.items long);
  dead = dead_empty p (lists_of cert) kept (past_end p cert.lists.items long);
  slack = time;
  no_cell = bare;
}
