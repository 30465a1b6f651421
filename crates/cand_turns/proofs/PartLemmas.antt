-- A node comes in to the part of its parent.
use Rattle.std.proofs.Common.{◌≡◌, ℕ, ◌+◌, ◌-◌, ◌^◌, ◌<◌, ◌≤◌, Bool, true, false, List, [], ◌∷◌, ◌++◌, map, length, get_or, zero, suc, refl, sym, ap, ◌∙◌, subst, arith, Result, Ok, Err, MatchResult}
use Rattle.std.specs.List.{Contains}
use Rattle.std.proofs.lemmas.Int.{ints}
use Rattle.std.proofs.lemmas.List.{length-map}
use Rattle.std.proofs.lemmas.List.Elements.{Contains-get_or}
use Rattle.std.specs.Result.{IsErr}
use Rattle.elmore.specs.Pairs.{Dominates, IsBelow, IsUndominated}
use Rattle.elmore.specs.Problems.{is_live}
use Rattle.elmore.specs.Trees.{parent_of}
use Rattle.elmore.specs.Wire.{downstream_in}
use Rattle.elmore.specs.declared.pair.Pair.{Pair}
use Rattle.elmore.specs.declared.problem.Problem.{Problem}
use Rattle.sol_arena.specs.declared.arena.Arena.{Arena}
use Rattle.sol_arena.specs.declared.slot.Made.{Made}
use Rattle.sol_arena.specs.Arenas.{made_of}
use Rattle.sol_arena.specs.Meanings.{cells_of}
use Rattle.cand_pairs.specs.Candidates.{fork_of}
use Rattle.cand_pairs.specs.Merging.{Raises, raised, live_from, own_from, fork_from}
use Rattle.cand_pairs.specs.Parts.{IsDeadPart}
use Rattle.wire_widths.specs.Widths.{AreWidths}
use Rattle.wire_widths.specs.WidePairs.{WideWires}
use Rattle.wire_widths.specs.WideParts.{IsWideOpenFrom}
use Rattle.wire_widths.specs.WideSolutions.{IsWideOpenSolutionOf}
use Rattle.wire_widths.specs.declared.width.Width.{Width}
use Rattle.wire_widths.proofs.WideSolutionLemmas.{wide_first, wide_raised}
use Rattle.wire_widths.proofs.WideWordLemmas.{wide_dead_on_live, wide_live_on_dead}
use Rattle.cand_pairs.proofs.FromLemmas.{live_here, live_own, dead_here, dead_own}
use Rattle.cand_pairs.proofs.JoinLemmas.{is_child_of, parent_within}
use Rattle.cand_pairs.proofs.SmallPairLemmas.{own_small}
use Rattle.cand_pairs.proofs.StepLemmas.{over_self}
use Rattle.cand_pairs.proofs.TurnLemmas.{dead_on_dead}
use Rattle.cand_pool.specs.Candidates.{Candidate, Candidates, AreModest, loaded}
use Rattle.cand_pool.specs.Pools.{Block}
use Rattle.cand_uses.specs.Pairs.{pair_of, pairs_of}
use Rattle.cand_lists.proofs.ExactLemmas.{load_exact}
use Rattle.cand_turns.specs.Swaps.{Search, search, Lists, AreHeld, IsTurn}
use Rattle.cand_turns.specs.Branches.{lists_of, classes_in}
use Rattle.cand_turns.specs.Solved.{CanWiden, AreSolved, Beside, IsOpenAt, IsCarriedAt}
use Rattle.cand_turns.specs.Parts.{IsPart, lists_in, load_beside, size_in}
use Rattle.cand_turns.specs.declared.branch.Branch.{Branch}
use Rattle.cand_turns.specs.declared.part.Part.{Part}
use Rattle.cand_turns.specs.declared.part.Part.TheVariants.{Dead, Live}
use Rattle.cand_turns.proofs.WireLemmas.{taken_pair}
use Rattle.cand_turns.proofs.SwapLemmas.{other_items}
use Rattle.cand_turns.proofs.MeetLemmas.{IsOpenClass, open_beside, open_modest}

-- a candidate of a list with a load more
pub of_loaded : (c : ℕ) (xs : Candidates) (z : Candidate) → Contains (map (loaded c) xs) z → (x : Candidate) × Contains xs x × (z ≡ loaded c x)
of_loaded c [] z (k, k_n, e) = absurd (omega arith)
of_loaded c (x ∷ xs) z (zero, k_n, e) = (x, (0, omega arith, refl), sym e)
of_loaded c (x ∷ xs) z (suc k, k_n, e) = let (y, (j, j_n, f), y_is) = of_loaded c xs z (k, omega arith, e) in (y, (suc j, omega arith, f), y_is)

-- DEAD ON DEAD
pub dead_dead : (p : Problem) (i c d : ℕ) → 0 < i → i < length p.tree.nodes → is_live p.tree.nodes p.sinks i ≡ false
    → IsDeadPart p (i + 1) (parent_of p.tree.nodes i) c → d ≡ downstream_in p.tree.nodes i → IsDeadPart p i (parent_of p.tree.nodes i) (c + d)
dead_dead p i c d some i_n dead part d_is = dead_on_dead p (parent_of p.tree.nodes i) i c d (is_child_of p i some i_n) dead part d_is

pub dead_sum : (p : Problem) (i c d : ℕ) → 0 < i → i < length p.tree.nodes → is_live p.tree.nodes p.sinks i ≡ false
    → IsDeadPart p (i + 1) (parent_of p.tree.nodes i) c → d ≡ downstream_in p.tree.nodes i → c + d ≤ 10 ^ 11
dead_sum p i c d some i_n dead part d_is =
    let both : IsDeadPart p i (parent_of p.tree.nodes i) (c + d) = dead_dead p i c d some i_n dead part d_is in
    omega (arith, both.load, own_small p (parent_of p.tree.nodes i) i (parent_within p i some i_n))

-- what is beside a branch that comes in is small
pub beside_small : (p : Problem) (ws : List Width) (i v : ℕ) (ms : List Made) (s : Block) (part : Part) → v < length p.tree.nodes → IsPart p ws i v ms s part → load_beside part ≤ 10 ^ 11
beside_small p ws i v ms s (Dead c) v_n part = omega (arith, part.load, own_small p v i v_n)
beside_small p ws i v ms s (Live branch) v_n part = omega arith

-- DEAD ON LIVE
module _ (p : Problem) (ws : List Width) (i d : ℕ) (some : 0 < i) (i_n : i < length p.tree.nodes) (dead : is_live p.tree.nodes p.sinks i ≡ false) (d_is : d ≡ downstream_in p.tree.nodes i)
    (ms : List Made) (classes : Bool → Candidates) (part : IsOpenAt p ws (i + 1) (parent_of p.tree.nodes i) ms classes) where
  pub dead_live : IsOpenAt p ws i (parent_of p.tree.nodes i) ms (λ odd. map (loaded d) (classes odd))
  dead_live = record {
    part = wide_dead_on_live p ws (parent_of p.tree.nodes i) i d (λ odd. pairs_of (classes odd)) (λ odd. pairs_of (map (loaded d) (classes odd)))
        (is_child_of p i some i_n) dead part.part d_is (λ odd. load_exact d (classes odd) (part.part.exact odd).rising);
    solved = λ odd z found.
        let (x, x_in, z_is) = of_loaded d (classes odd) z found in
        let v = parent_of p.tree.nodes i in
        let more = wide_raised p ws v odd (own_from p v (i + 1)) d (live_from p v (i + 1)) (cells_of ms x.tag) (pair_of x) (part.solved odd x x_in) in
        let own_is : own_from p v i ≡ own_from p v (i + 1) + d = dead_own p v i (is_child_of p i some i_n) dead ∙ ap (λ (k : ℕ). own_from p v (i + 1) + k) (sym d_is) in
        let lives : live_from p v i ≡ live_from p v (i + 1) = dead_here p v i (is_child_of p i some i_n) dead in
        subst (λ (y : Candidate). IsWideOpenSolutionOf p ws odd (fork_from p v i) (cells_of ms y.tag) (pair_of y)) (sym z_is)
        (subst (λ (us : List ℕ). IsWideOpenSolutionOf p ws odd (fork_of v (own_from p v i) us) (cells_of ms x.tag) (raised d (pair_of x))) (sym lives)
        (subst (λ (own : ℕ). IsWideOpenSolutionOf p ws odd (fork_of v own (live_from p v (i + 1))) (cells_of ms x.tag) (raised d (pair_of x))) (sym own_is) more));
  }

-- the pairs without the load that stands beside them
abbrev pub lowered : ℕ → Pair → Pair
lowered c x = record { q = x.q; c = x.c - c }

lowered_back : (c : ℕ) (x y : Pair) → x ≡ raised c y → lowered c x ≡ y
lowered_back c x y e =
    let q_is : x.q ≡ y.q = ap (λ (t : Pair). t.q) e in
    let c_is : x.c ≡ y.c + c = ap (λ (t : Pair). t.c) e in
    let same : x.c - c ≡ y.c = omega (arith, c_is) in
    λ j. record { q = q_is j; c = same j }

lowered_in : (c : ℕ) (xs : List Pair) (x : Pair) → Contains xs x → Contains (map (lowered c) xs) (lowered c x)
lowered_in c [] x (k, k_n, e) = absurd (omega arith)
lowered_in c (y ∷ xs) x (zero, k_n, e) = (0, omega arith, ap (lowered c) e)
lowered_in c (y ∷ xs) x (suc k, k_n, e) = let (j, j_n, f) = lowered_in c xs x (k, omega arith, e) in (suc j, omega arith, f)

in_lowered : (c : ℕ) (xs : List Pair) (z : Pair) → Contains (map (lowered c) xs) z → (x : Pair) × Contains xs x × (z ≡ lowered c x)
in_lowered c [] z (k, k_n, e) = absurd (omega arith)
in_lowered c (y ∷ xs) z (zero, k_n, e) = (y, (0, omega arith, refl), sym e)
in_lowered c (y ∷ xs) z (suc k, k_n, e) = let (x, (j, j_n, f), is) = in_lowered c xs z (k, omega arith, e) in (x, (suc j, omega arith, f), is)

-- a list that is undominated with a load beside it comes from one that is so without
module _ (c : ℕ) (In : Pair → Type 0) (xs : List Pair) (are : IsUndominated (Beside c In) xs) where
  back : (x : Pair) → Contains xs x → raised c (lowered c x) ≡ x
  back x x_in =
      let (y, y_in, e) = taken_pair (Beside c In) xs are x x_in in
      ap (raised c) (lowered_back c x y e) ∙ sym e

  at : (ys : List Pair) (k : ℕ) (d : Pair) → k < length ys → get_or (map (lowered c) ys) k d ≡ lowered c (get_or ys k d)
  at [] k d k_n = absurd (omega arith)
  at (y ∷ ys) zero d k_n = refl
  at (y ∷ ys) (suc k) d k_n = at ys k d (omega arith)

  below_lowered : (x y : Pair) → Contains xs x → Contains xs y → IsBelow x y → IsBelow (lowered c x) (lowered c y)
  below_lowered x y x_in y_in below =
      let (a, a_in, x_is) = taken_pair (Beside c In) xs are x x_in in
      let (b, b_in, y_is) = taken_pair (Beside c In) xs are y y_in in
      subst (λ (s : Pair). IsBelow s (lowered c y)) (sym (lowered_back c x a x_is))
      (subst (λ (s : Pair). IsBelow a s) (sym (lowered_back c y b y_is))
      (record {
        time = omega (arith, ints, below.time, ap (λ (t : Pair). t.q) x_is, ap (λ (t : Pair). t.q) y_is);
        room = omega (arith, below.room, ap (λ (t : Pair). t.c) x_is, ap (λ (t : Pair). t.c) y_is);
      }))

  pub lowered_exact : IsUndominated In (map (lowered c) xs)
  lowered_exact = record {
    rising = λ i j d i_j j_n.
        let i_m : i < length xs = omega (arith, length-map xs (lowered c)) in
        let j_m : j < length xs = omega (arith, length-map xs (lowered c)) in
        subst (λ (s : Pair). IsBelow s (get_or (map (lowered c) xs) j d)) (sym (at xs i d i_m))
        (subst (λ (s : Pair). IsBelow (lowered c (get_or xs i d)) s) (sym (at xs j d j_m))
        (below_lowered (get_or xs i d) (get_or xs j d) (Contains-get_or xs i d i_m) (Contains-get_or xs j d j_m) (are.rising i j d i_j j_m)));
    taken = λ k d k_n.
        let k_m : k < length xs = omega (arith, length-map xs (lowered c)) in
        let (y, y_in, e) = are.taken k d k_m in
        subst In (sym (at xs k d k_m ∙ lowered_back c (get_or xs k d) y e)) y_in;
    covers = λ y y_in.
        let (x, x_in, over) = are.covers (raised c y) (y, y_in, refl) in
        let (a, a_in, x_is) = taken_pair (Beside c In) xs are x x_in in (
          lowered c x,
          lowered_in c xs x x_in,
          subst (λ (s : Pair). Dominates s y) (sym (lowered_back c x a x_is))
              (record { time = omega (arith, ints, over.time, ap (λ (t : Pair). t.q) x_is); room = omega (arith, over.room, ap (λ (t : Pair). t.c) x_is) }),
        );
  }

  pub raised_exact : IsUndominated (Raises c (map (lowered c) xs)) xs
  raised_exact = record {
    rising = are.rising;
    taken = λ k d k_n.
        let x_in : Contains xs (get_or xs k d) = Contains-get_or xs k d k_n in
        (lowered c (get_or xs k d), lowered_in c xs (get_or xs k d) x_in, sym (back (get_or xs k d) x_in));
    covers = λ z (w, w_in, z_is).
        let (x, x_in, w_is) = in_lowered c xs w w_in in
        (x, x_in, subst (Dominates x) (sym (z_is ∙ ap (raised c) w_is ∙ back x x_in)) (over_self x));
  }

-- LIVE ON DEAD
module _ (p : Problem) (ws : List Width) (are : AreWidths ws) (i c : ℕ) (some : 0 < i) (i_n : i < length p.tree.nodes) (live : is_live p.tree.nodes p.sinks i ≡ true)
    (part : IsDeadPart p (i + 1) (parent_of p.tree.nodes i) c) (ms : List Made) (classes : Bool → Candidates) (above : IsCarriedAt p ws i c ms classes) where
  pub live_dead : IsOpenAt p ws i (parent_of p.tree.nodes i) ms classes
  live_dead = record {
    part = wide_live_on_dead p ws (parent_of p.tree.nodes i) i c above.0 (λ odd. map (lowered c) (pairs_of (classes odd))) (λ odd. pairs_of (classes odd))
        (is_child_of p i some i_n) live part (λ odd. (above.1 odd).below)
        (λ odd. lowered_exact c (WideWires p ws i (above.0 odd)) (pairs_of (classes odd)) (above.1 odd).exact)
        (λ odd. raised_exact c (WideWires p ws i (above.0 odd)) (pairs_of (classes odd)) (above.1 odd).exact);
    solved = λ odd z found.
        let (w, w_is, z_is) = (above.1 odd).solved z found in
        let v = parent_of p.tree.nodes i in
        let first = wide_first p ws v odd c i (cells_of ms z.tag) w are part.no_sink (is_child_of p i some i_n) live w_is in
        let own_is : own_from p v i ≡ c = live_own p v i (is_child_of p i some i_n) live ∙ sym part.load in
        let lives : live_from p v i ≡ i ∷ [] = live_here p v i (is_child_of p i some i_n) live ∙ ap (λ (us : List ℕ). i ∷ us) part.no_child in
        subst (λ (us : List ℕ). IsWideOpenSolutionOf p ws odd (fork_of v (own_from p v i) us) (cells_of ms z.tag) (pair_of z)) (sym lives)
        (subst (λ (own : ℕ). IsWideOpenSolutionOf p ws odd (fork_of v own (i ∷ [])) (cells_of ms z.tag) (pair_of z)) (sym own_is)
        (subst (λ (q : Pair). IsWideOpenSolutionOf p ws odd (fork_of v c (i ∷ [])) (cells_of ms z.tag) q) (sym z_is) first));
  }

-- what is open at a node is modest
pub open_at_modest : (p : Problem) (ws : List Width) (i v : ℕ) (ms : List Made) (classes : Bool → Candidates) → CanWiden p ws → v < length p.tree.nodes → IsOpenAt p ws i v ms classes → (odd : Bool) → AreModest (classes odd)
open_at_modest p ws i v ms classes can v_n at odd = open_modest p ws i v odd (classes odd) can v_n (at.part.exact odd)

-- classes that are the same
pub open_at_as : (p : Problem) (ws : List Width) (i v : ℕ) (ms : List Made) (s : Block) (branch : Branch) (classes : Bool → Candidates) → ((odd : Bool) → classes_in s branch odd ≡ classes odd)
    → IsOpenAt p ws i v ms classes → IsOpenAt p ws i v ms (classes_in s branch)
open_at_as p ws i v ms s branch classes same at = record {
  part = record {
    end = at.part.end;
    exact = λ odd. subst (λ (xs : Candidates). IsUndominated (IsWideOpenFrom p ws i v odd) (pairs_of xs)) (sym (same odd)) (at.part.exact odd);
  };
  solved = λ odd. subst (λ (xs : Candidates). AreSolved (IsWideOpenSolutionOf p ws odd (fork_from p v i)) ms xs) (sym (same odd)) (at.solved odd);
}

-- the part of a node beside a swap
pub open_at_beside : (p : Problem) (ws : List Width) (i v : ℕ) (old new : Arena) (s t : Block) (given made : Lists) (branch : Branch) → AreHeld (search s old) (given ++ lists_of branch)
    → IsTurn (search s old) given (search t new) made → IsOpenAt p ws i v (made_of old) (classes_in s branch) → IsOpenAt p ws i v (made_of new) (classes_in t branch)
open_at_beside p ws i v old new s t given made branch held turn at = record {
  part = record { end = at.part.end; exact = λ odd. (both odd).exact };
  solved = λ odd. (both odd).solved;
} where
  both : (odd : Bool) → IsOpenClass p ws i v odd (made_of new) (classes_in t branch odd)
  both true = open_beside p ws i v true old new s t given made (lists_of branch) held turn branch.odd (1, omega arith, refl) (record { exact = at.part.exact true; solved = at.solved true })
  both false = open_beside p ws i v false old new s t given made (lists_of branch) held turn branch.even (0, omega arith, refl) (record { exact = at.part.exact false; solved = at.solved false })

-- a branch beside a swap has as many candidates as it had
pub class_beside : (old new : Arena) (s t : Block) (given made : Lists) (branch : Branch) → AreHeld (search s old) (given ++ lists_of branch)
    → IsTurn (search s old) given (search t new) made → (odd : Bool) → length (classes_in t branch odd) ≡ length (classes_in s branch odd)
class_beside old new s t given made branch held turn true =
    ap (λ (xs : Candidates). length xs) (other_items (search s old) (search t new) given made (lists_of branch) held turn branch.odd (1, omega arith, refl))
class_beside old new s t given made branch held turn false =
    ap (λ (xs : Candidates). length xs) (other_items (search s old) (search t new) given made (lists_of branch) held turn branch.even (0, omega arith, refl))

-- what holds where an error is answered
pub err_answers : {A E : Type 0} (r : Result A E) (P : A → Type 0) (Q : Type 0) → IsErr r → Q → MatchResult r P (λ _. Q)
err_answers (Ok x) P Q is q = absurd (cc)
err_answers (Err e) P Q is q = q

-- a part beside a swap, and its size
pub part_beside : (p : Problem) (ws : List Width) (i v : ℕ) (old new : Arena) (s t : Block) (given made : Lists) (x : Part) → AreHeld (search s old) (given ++ lists_in x)
    → IsTurn (search s old) given (search t new) made → IsPart p ws i v (made_of old) s x → IsPart p ws i v (made_of new) t x
part_beside p ws i v old new s t given made (Dead c) held turn part = part
part_beside p ws i v old new s t given made (Live branch) held turn part = open_at_beside p ws i v old new s t given made branch held turn part

pub size_beside : (old new : Search) (given made : Lists) (x : Part) → AreHeld old (given ++ lists_in x) → IsTurn old given new made → (odd : Bool)
    → size_in new.pool x odd ≡ size_in old.pool x odd
size_beside old new given made (Dead c) held turn odd = refl
size_beside old new given made (Live branch) held turn true =
    ap (λ (xs : Candidates). length xs) (other_items old new given made (lists_of branch) held turn branch.odd (1, omega arith, refl))
size_beside old new given made (Live branch) held turn false =
    ap (λ (xs : Candidates). length xs) (other_items old new given made (lists_of branch) held turn branch.even (0, omega arith, refl))
