-- The part of a node: its numbers are small, and it takes in another.
use Rattle.std.proofs.Common.{◌≡◌, ℕ, ◌⊎◌, ◌+◌, ◌-◌, ◌*◌, ◌^◌, ◌<◌, ◌≤◌, Bool, true, false, List, [], length, get_or, sym, ap, ◌∙◌, subst, arith, inl, inr, pos, ◌-ℤ◌, ◌≤ℤ◌}
use Rattle.std.proofs.Math.Nat.{mul-le-mul}
use Rattle.std.proofs.lemmas.Int.{ints}
use Rattle.std.proofs.lemmas.List.{get_or-map}
use Rattle.std.proofs.lemmas.List.Elements.{All-contains, Contains-get_or}
use Rattle.std.proofs.lemmas.List.FromFn.{length-range_with_len}
use Rattle.std.proofs.lemmas.List.Sums.{sum_by-le, length-filter, count_by-le-length}
use Rattle.std.specs.List.{Contains, range_with_len, sum_by}
use Rattle.elmore.specs.Pairs.{IsUndominated}
use Rattle.elmore.specs.Path.{is_child}
use Rattle.elmore.specs.Placements.{IsSinkAt}
use Rattle.elmore.specs.Problems.{IsSmall, is_live}
use Rattle.elmore.specs.Trees.{capacitance, parent_of, resistance}
use Rattle.elmore.specs.Wire.{downstream_in}
use Rattle.elmore.specs.declared.pair.Pair.{Pair}
use Rattle.elmore.specs.declared.parts.Sink.{Sink}
use Rattle.elmore.specs.declared.problem.Problem.{Problem}
use Rattle.cand_pairs.specs.Candidates.{NodeLists, IsOpenWith, carried, of_lists}
use Rattle.cand_pairs.specs.Merging.{IsModest, Meets, Raises, Wires, children_from, fork_from, live_from}
use Rattle.cand_pairs.specs.Parts.{AreCarried, IsDeadPart, IsLivePart}
use Rattle.cand_pairs.proofs.FromLemmas.{dead_own}
use Rattle.cand_pairs.proofs.JoinLemmas.{is_child_of, parent_within}
use Rattle.cand_pairs.proofs.MergeLemmas.{rising_exact}
use Rattle.cand_pairs.proofs.PairPartLemmas.{live_child_parts}
use Rattle.cand_pairs.proofs.SmallPairLemmas.{live_from_in, own_small, resistance_small}
use Rattle.cand_pairs.proofs.TurnLemmas.{dead_on_dead, dead_on_live, live_on_dead, live_on_live, start_live_part}
use Rattle.vg_cert.specs.Fits.{IsEntry, IsList, list_of, lists_in}
use Rattle.vg_cert.specs.declared.certificate.NodeLists.{NodeLists as WrittenLists}
use Rattle.vg_check.specs.Covers.{AreWorked, ClassLists, IsWorked}
use Rattle.vg_check.specs.Parts.{AreLists, alone}

-- the lists of a node, as they stand among those of all
pub lists_here : (nodes : List WrittenLists) (v : ℕ) (here : WrittenLists) → v < length nodes → here ≡ get_or nodes v here
    → lists_in nodes v ≡ list_of here
lists_here nodes v here low is = get_or-map list_of nodes v here (λ odd. []) low ∙ ap (λ (x : WrittenLists). list_of x) (sym is)

pub above_here : (nodes : List WrittenLists) (v : ℕ) (here : WrittenLists) (r : ℕ) (above : ClassLists) → v < length nodes
    → here ≡ get_or nodes v here → ((odd : Bool) → IsUndominated (Wires r (list_of here odd)) (above odd))
    → (odd : Bool) → IsUndominated (Wires r (lists_in nodes v odd)) (above odd)
above_here nodes v here r above low is are odd =
    subst (λ (lists : ClassLists). IsUndominated (Wires r (lists odd)) (above odd)) (sym (lists_here nodes v here low is)) (are odd)

-- SMALL NUMBERS
pub list_worked : (xs : List Pair) → IsList xs → IsWorked xs
list_worked xs is = record {
  rising = is.rising;
  modest = λ k d k_n.
      let entry : IsEntry (get_or xs k d) = is.entries k d k_n in
      record { low = omega (arith, ints, entry.time.low); high = omega (arith, ints, entry.time.high); load = omega (arith, entry.load) };
}

-- above a wire
pub wire_worked : (r : ℕ) (xs above : List Pair) → r ≤ 10 ^ 12 → IsList xs → IsUndominated (Wires r xs) above → IsWorked above
wire_worked r xs above r_small is are = record {
  rising = are.rising;
  modest = λ k d k_n.
      let (y, y_in, z_is) = are.taken k d k_n in
      let entry : IsEntry y = All-contains IsEntry xs y is.entries y_in in
      let charge : r * y.c ≤ 10 ^ 12 * 10 ^ 11 = mul-le-mul r_small entry.load in
      record {
        low = omega (arith, ints, ap (λ (t : Pair). t.q) z_is, entry.time.low, charge);
        high = omega (arith, ints, ap (λ (t : Pair). t.q) z_is, entry.time.high);
        load = omega (arith, ap (λ (t : Pair). t.c) z_is, entry.load);
      };
}

-- at most all nodes are children
few_children : (p : Problem) (v i : ℕ) → length (live_from p v i) ≤ length p.tree.nodes
few_children p v i =
    omega (
      arith,
      length-filter (λ u. is_live p.tree.nodes p.sinks u) (children_from p v i),
      count_by-le-length (λ u. is_live p.tree.nodes p.sinks u) (children_from p v i),
      length-filter (is_child (parent_of p.tree.nodes) v) (range_with_len i (length p.tree.nodes - i)),
      count_by-le-length (is_child (parent_of p.tree.nodes) v) (range_with_len i (length p.tree.nodes - i)),
      length-range_with_len i (length p.tree.nodes - i),
    )

-- what is open of the lists
module _ (p : Problem) (lists : NodeLists) (all : AreLists lists) (v i : ℕ) (v_n : v < length p.tree.nodes) where
  open_modest : (odd : Bool) (x : Pair) → IsOpenWith p (of_lists lists) odd (fork_from p v i) x → IsModest x
  open_modest odd x (pick, is) = record { low = (times is.joined.met).0; high = (times is.joined.met).1; load = load }
    where
      entry : (u : ℕ) → Contains (live_from p v i) u → IsEntry (pick u)
      entry u found = All-contains IsEntry (lists u odd) (pick u) (all u odd).entries (is.chosen u found)

      sum_small : sum_by (λ u. (pick u).c) (live_from p v i) ≤ length (live_from p v i) * 10 ^ 11
      sum_small =
          sum_by-le (λ u. (pick u).c) (10 ^ 11) (live_from p v i) (λ k d k_n.
          (entry (get_or (live_from p v i) k d) (Contains-get_or (live_from p v i) k d k_n)).load)

      load : x.c ≤ 10 ^ 18
      load = omega (arith, is.joined.load, own_small p v i v_n, sum_small, few_children p v i, p.within.nodes)

      times : ((u : ℕ) × Contains (live_from p v i) u × (x.q ≡ (carried p u (pick u)).q))
          ⊎ ((sink : Sink) × IsSinkAt p v sink × (x.q ≡ sink.required))
          → ((pos 0 -ℤ pos (10 ^ 30)) ≤ℤ x.q) × (x.q ≤ℤ pos (10 ^ 30))
      times (inl (u, found, e)) =
          let child = (live_child_parts p v u (live_from_in p v i u found)).child in
          let charge : resistance p.tree.nodes u * (pick u).c ≤ 10 ^ 12 * 10 ^ 11
          = mul-le-mul (resistance_small p u child.node) (entry u found).load in
          (omega (arith, ints, e, (entry u found).time.low, charge), omega (arith, ints, e, (entry u found).time.high))
      times (inr (sink, here, e)) =
          let within : IsSmall sink.required = p.within.times v sink here in
          (omega (arith, ints, e, within.low), omega (arith, ints, e, within.high))

  pub part_worked : (joins : ClassLists) → IsLivePart p (of_lists lists) i v joins → AreWorked joins
  part_worked joins part odd = record {
    rising = (part.exact odd).rising;
    modest = λ k d k_n. open_modest odd (get_or (joins odd) k d) ((part.exact odd).taken k d k_n);
  }

  pub dead_small : (c : ℕ) → IsDeadPart p i v c → c ≤ 10 ^ 11
  dead_small c part = omega (arith, part.load, own_small p v i v_n)

-- A NODE COMES IN to its parent
module _ (p : Problem) (i : ℕ) (some : 0 < i) (i_n : i < length p.tree.nodes) where
  abbrev parent : ℕ
  parent = parent_of p.tree.nodes i

  module _ (dead : is_live p.tree.nodes p.sinks i ≡ false) (d : ℕ) (d_is : d ≡ downstream_in p.tree.nodes i) where
    pub dead_load_small : d ≤ 10 ^ 18
    dead_load_small =
        omega (arith, d_is, dead_own p parent i (is_child_of p i some i_n) dead, own_small p parent i (parent_within p i some i_n))

    pub takes_dead : (c : ℕ) → IsDeadPart p (i + 1) parent c → IsDeadPart p i parent (c + d)
    takes_dead c part = dead_on_dead p parent i c d (is_child_of p i some i_n) dead part d_is

    pub sum_small : (c : ℕ) → IsDeadPart p (i + 1) parent c → c + d ≤ 10 ^ 11
    sum_small c part = omega (arith, (takes_dead c part).load, own_small p parent i (parent_within p i some i_n))

    pub live_takes_dead : (lists : NodeLists) (joins made : ClassLists) → IsLivePart p (of_lists lists) (i + 1) parent joins
        → ((odd : Bool) → IsUndominated (Raises d (joins odd)) (made odd)) → IsLivePart p (of_lists lists) i parent made
    live_takes_dead lists joins made part made_are =
        dead_on_live p (of_lists lists) parent i d joins made (is_child_of p i some i_n) dead part d_is made_are

  module _ (live : is_live p.tree.nodes p.sinks i ≡ true) (lists : NodeLists) (all : AreLists lists) (r : ℕ) (r_is : r ≡ resistance p.tree.nodes i)
      (above : ClassLists) (above_are : (odd : Bool) → IsUndominated (Wires r (lists i odd)) (above odd)) where
    seen_above : AreCarried p (of_lists lists) i (lists i) above
    seen_above = record {
      at_node = λ odd. rising_exact (lists i odd) (all i odd).rising;
      at_parent = λ odd. subst (λ (k : ℕ). IsUndominated (Wires k (lists i odd)) (above odd)) r_is (above_are odd);
    }

    pub above_worked : AreWorked above
    above_worked odd = wire_worked r (lists i odd) (above odd) (omega (arith, r_is, resistance_small p i i_n)) (all i odd) (above_are odd)

    pub dead_takes_live : (c : ℕ) (made : ClassLists) → IsDeadPart p (i + 1) parent c
        → ((odd : Bool) → IsUndominated (Raises c (above odd)) (made odd)) → IsLivePart p (of_lists lists) i parent made
    dead_takes_live c made part made_are =
        live_on_dead p (of_lists lists) parent i c (lists i) above made (is_child_of p i some i_n) live part seen_above made_are

    pub live_takes_live : (joins made : ClassLists) → IsLivePart p (of_lists lists) (i + 1) parent joins
        → ((odd : Bool) → IsUndominated (Meets (joins odd) (above odd)) (made odd)) → IsLivePart p (of_lists lists) i parent made
    live_takes_live joins made part made_are =
        live_on_live p (of_lists lists) parent i joins (lists i) above made (is_child_of p i some i_n) live part seen_above made_are

-- THE START: a sink alone
pub sink_starts : (p : Problem) (lists : NodeLists) (v c : ℕ) (sink : Sink) → IsSinkAt p v sink → c ≡ capacitance p.tree.nodes v
    → (pairs : ClassLists) → ((odd : Bool) → pairs odd ≡ alone sink c odd) → IsLivePart p (of_lists lists) (length p.tree.nodes) v pairs
sink_starts p lists v c sink here c_is pairs pairs_are =
    let part : IsLivePart p (of_lists lists) (length p.tree.nodes) v (alone sink c)
    = subst (λ (k : ℕ). IsLivePart p (of_lists lists) (length p.tree.nodes) v (alone sink k)) (sym c_is) (start_live_part p (of_lists lists) v sink here) in
    record {
      end = part.end;
      exact = λ odd.
          subst (IsUndominated (IsOpenWith p (of_lists lists) odd (fork_from p v (length p.tree.nodes)))) (sym (pairs_are odd)) (part.exact odd);
    }
