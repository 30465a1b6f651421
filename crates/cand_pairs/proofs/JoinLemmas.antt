-- A live branch comes in to a live node, by the lists of both.
use Rattle.std.proofs.Common.{◌≡◌, ℕ, ◌+◌, ◌<◌, ◌≤◌, ◌^◌, Bool, true, false, List, length, get_or, refl, ap, ◌∙◌, subst, arith, ◌*◌}
use Rattle.std.proofs.lemmas.List.{get_or_default}
use Rattle.std.proofs.lemmas.List.Elements.{All-contains}
use Rattle.std.specs.List.{All}
use Rattle.elmore.specs.Pairs.{IsPairAt, IsUndominated}
use Rattle.elmore.specs.Problems.{is_live}
use Rattle.elmore.specs.Trees.{parent_of, resistance}
use Rattle.cand_pairs.specs.Merging.{Wires, IsSmallPair, IsModest, own_from, live_from}
use Rattle.cand_pairs.specs.Parts.{AreExactAt, AreOpenFrom, IsLivePart, IsJoined, list_of}
use Rattle.cand_pairs.specs.declared.parts.Classes.{Classes}
use Rattle.elmore.specs.declared.tree.Node.{Node}
use Rattle.elmore.specs.declared.pair.Pair.{Pair}
use Rattle.elmore.specs.declared.problem.Problem.{Problem}
use Rattle.cand_pairs.proofs.ChildLemmas.{IsChild}
use Rattle.cand_pairs.proofs.SmallPairLemmas.{pair_small, open_small, open_times, live_from_in}
use Rattle.cand_pairs.proofs.TurnLemmas.{live_on_live}
use Rattle.std.proofs.lemmas.Int.{ints}
use Rattle.std.proofs.Math.Nat.{mul-le-mul}
use Rattle.cand_pairs.proofs.PairPartLemmas.{live_child_parts}

-- each node but the root is a child
pub is_child_of : (p : Problem) (i : ℕ) → 0 < i → i < length p.tree.nodes → IsChild p.tree.nodes (parent_of p.tree.nodes i) i
is_child_of p i some i_n = record {
  parent = refl;
  other = λ e. omega (arith, p.tree.a_tree.smaller i some i_n);
  node = i_n;
}

pub parent_within : (p : Problem) (i : ℕ) → 0 < i → i < length p.tree.nodes → parent_of p.tree.nodes i < length p.tree.nodes
parent_within p i some i_n = omega (arith, p.tree.a_tree.smaller i some i_n)

-- the numbers are small
pub part_small : (p : Problem) (i v : ℕ) (lists : Bool → List Pair) → v < length p.tree.nodes → IsLivePart p (IsPairAt p) i v lists
    → (odd : Bool) → All IsModest (lists odd)
part_small p i v lists v_n part odd k d k_n =
    let times = open_times p v odd (own_from p v i) (live_from p v i) (get_or (lists odd) k d)
    (λ u found. (live_child_parts p v u (live_from_in p v i u found)).child.node) ((part.exact odd).taken k d k_n) in
    record {
      low = omega (arith, ints, times.0);
      high = omega (arith, ints, times.1);
      load = omega (arith, open_small p v odd i (get_or (lists odd) k d) v_n ((part.exact odd).taken k d k_n));
    }

pub kept_small : (p : Problem) (v : ℕ) (odd : Bool) (kept : List Pair) → IsUndominated (IsPairAt p v odd) kept → All IsSmallPair kept
kept_small p v odd kept are k d k_n = pair_small p v odd (get_or kept k d) (are.taken k d k_n)

pub small_modest : (ys : List Pair) → All IsSmallPair ys → All IsModest ys
small_modest ys small k d k_n =
    let y_small : IsSmallPair (get_or ys k d) = small k d k_n in
    record { low = omega (arith, ints, y_small.low); high = omega (arith, ints, y_small.high); load = omega (arith, y_small.load) }

pub wires_small : (r : ℕ) (ys zs : List Pair) → r ≤ 10 ^ 12 → IsUndominated (Wires r ys) zs → All IsSmallPair ys → All IsModest zs
wires_small r ys zs r_small are small k d k_n =
    let (y, y_in, z_is) = are.taken k d k_n in
    let y_small : IsSmallPair y = All-contains IsSmallPair ys y small y_in in
    let charge : r * y.c ≤ 10 ^ 12 * 10 ^ 11 = mul-le-mul r_small y_small.load in
    record {
      low = omega (arith, ints, ap (λ (t : Pair). t.q) z_is, y_small.low, charge);
      high = omega (arith, ints, ap (λ (t : Pair). t.q) z_is, y_small.high);
      load = omega (arith, ap (λ (t : Pair). t.c) z_is, y_small.load);
    }

-- THE TURN, for both classes
pub joined_part : (p : Problem) (i : ℕ) (upper lower made : Classes) → 0 < i → i < length p.tree.nodes → is_live p.tree.nodes p.sinks i ≡ true
    → AreOpenFrom p (i + 1) (parent_of p.tree.nodes i) upper → AreExactAt p i lower
    → IsJoined (resistance p.tree.nodes i) upper.evens.items lower.evens.items made.evens.items
    → IsJoined (resistance p.tree.nodes i) upper.odds.items lower.odds.items made.odds.items → AreOpenFrom p i (parent_of p.tree.nodes i) made
joined_part p i upper lower made some i_n live part kept evens odds =
    live_on_live p (IsPairAt p) (parent_of p.tree.nodes i) i (list_of upper) (list_of lower) (λ odd. (joined odd).0) (list_of made) (is_child_of p i some i_n) live part
    (record { at_node = kept; at_parent = λ odd. (joined odd).1 })
    (λ odd. (joined odd).2)
  where
    joined : (odd : Bool) → IsJoined (resistance p.tree.nodes i) (list_of upper odd) (list_of lower odd) (list_of made odd)
    joined true = odds
    joined false = evens

-- what the code reads as the resistance
pub resistance_is : (ns nodes : List Node) (i : ℕ) → ns ≡ nodes → (d : Node) → i < length nodes → (get_or ns i d).r ≡ resistance nodes i
resistance_is ns nodes i same d i_n =
    ap (λ (xs : List Node). (get_or xs i d).r) same ∙ ap (λ (n : Node). n.r) (get_or_default nodes i d (record { parent = i; r = 0; c = 0 }) i_n)

pub same_joined : (r q : ℕ) (us vs ls ms joined : List Pair) → r ≡ q → us ≡ vs → ls ≡ ms → IsJoined r us ls joined → IsJoined q vs ms joined
same_joined r q us vs ls ms joined e f g u =
    subst (λ (x : ℕ). IsJoined x vs ms joined) e (subst (λ (x : List Pair). IsJoined r x ms joined) f (subst (λ (x : List Pair). IsJoined r us x joined) g u))
