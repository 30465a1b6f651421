-- Two branches meet at a node.
use Rattle.std.proofs.Common.{◌≡◌, ◌≢◌, ℕ, ◌+◌, ◌^◌, ◌<◌, ◌≤◌, Bool, true, false, List, [], ◌∷◌, ◌++◌, length, refl, sym, ap, ◌∙◌, subst, arith, Option, suc}
use Rattle.std.proofs.lemmas.Int.{ints}
use Rattle.std.proofs.lemmas.List.{length-append}
use Rattle.std.proofs.lemmas.List.Sorted.{IsPermutation-refl, IsPermutation-append_comm, IsPermutation-append_left, IsPermutation-cons, IsPermutation-sym}
use Rattle.std.proofs.lemmas.List.Elements.{All-nil, All-contains}
use Rattle.std.specs.List.{All, Contains}
use Rattle.elmore.specs.Pairs.{IsUndominated}
use Rattle.elmore.specs.Problems.{is_live}
use Rattle.elmore.specs.Trees.{parent_of}
use Rattle.elmore.specs.declared.pair.Pair.{Pair}
use Rattle.elmore.specs.declared.problem.Problem.{Problem}
use Rattle.sol_arena.specs.declared.arena.Arena.{Arena}
use Rattle.sol_arena.specs.declared.slot.Made.{Made}
use Rattle.sol_arena.specs.declared.slot.Slot.{Slot}
use Rattle.sol_arena.specs.Arenas.{made_of}
use Rattle.sol_arena.specs.Slots.{made_in}
use Rattle.sol_arena.specs.Meanings.{cells_of, AreApart, joined}
use Rattle.cand_pairs.specs.Candidates.{IsLive as IsLiveNode}
use Rattle.cand_pairs.specs.Merging.{IsSmallPair, fork_from, meet, raised, Meets}
use Rattle.cand_pairs.proofs.JoinLemmas.{is_child_of, parent_within}
use Rattle.cand_pairs.proofs.MergeLemmas.{same_exact}
use Rattle.wire_widths.specs.Widths.{AreWidths, wire_a}
use Rattle.wire_widths.specs.WidePairs.{IsWidePairAt, WideWires, carried_by}
use Rattle.wire_widths.specs.WideParts.{IsWideOpenFrom}
use Rattle.wire_widths.specs.WideSolutions.{IsWideOpenSolutionOf}
use Rattle.wire_widths.specs.declared.width.Width.{Width}
use Rattle.wire_widths.proofs.WideSmallLemmas.{wide_pair_small, wide_carried_small, wide_open_times, wide_open_small}
use Rattle.wire_widths.proofs.WideSolutionLemmas.{wide_from_apart, wide_from_more}
use Rattle.wire_widths.proofs.WideWordLemmas.{wide_live_on_live}
use Rattle.cand_pool.specs.Candidates.{Candidate, Candidates, IsModest, AreModest}
use Rattle.cand_pool.specs.Pools.{Block, IsLive, items_of, spare, name, KeepsOthers}
use Rattle.cand_pool.specs.declared.ends.List.{List as NamedList}
use Rattle.cand_uses.specs.Pairs.{pair_of, pairs_of}
use Rattle.cand_uses.specs.Uses.{HoldsFor, IsExchange, MeanTheSame}
use Rattle.cand_uses.proofs.ExchangeLemmas.{exchange_of, exchange_as, exchanged_held}
use Rattle.vg_merge.specs.Merges.{CanMeet, IsMet}
use Rattle.cand_turns.specs.Swaps.{Search, search, Lists, all_of, AreHeld, IsTurn, AreOf}
use Rattle.cand_turns.specs.Branches.{classes_in}
use Rattle.cand_turns.specs.Solved.{CanWiden, AreSolved, Beside, IsOpenAt, IsBesideSolution, IsCarriedClass, IsCarriedAt}
use Rattle.cand_turns.specs.declared.branch.Branch.{Branch}
use Rattle.cand_turns.proofs.WireLemmas.{taken_of, taken_pair}
use Rattle.cand_turns.proofs.SwapLemmas.{turn_among, other_items, list_meant, front_held, order_held}
use Rattle.cand_turns.proofs.BranchLemmas.{one_all, two_all, one_made, AreTwo, two_held}

-- two lists are given for one
pub merge_turn : (old new : Search) (a b list : NamedList) → HoldsFor old.slots (items_of old.pool a ++ items_of old.pool b)
    → IsExchange old.slots (items_of old.pool a ++ items_of old.pool b) new.slots (items_of new.pool list)
    → KeepsOthers old.pool (name a ∷ name b ∷ []) new.pool (name list ∷ [])
    → spare new.pool + length (items_of new.pool list) ≡ spare old.pool + length (items_of old.pool a) + length (items_of old.pool b)
    → IsLive new.pool list → IsTurn old (a ∷ b ∷ []) new (list ∷ [])
merge_turn old new a b list held uses others free live =
    let uses' : IsExchange old.slots (all_of old.pool (a ∷ b ∷ [])) new.slots (all_of new.pool (list ∷ []))
    = exchange_of _ _ _ _ _ (sym (two_all old.pool a b)) (exchange_as _ _ _ _ _ (sym (one_all new.pool list)) uses) in
    record {
      held = one_made new list live (exchanged_held _ _ _ _ (subst (λ (l : Candidates). HoldsFor old.slots l) (sym (two_all old.pool a b)) held) uses');
      swap = record {
        uses = uses';
        others = others;
        spare = omega (
          arith,
          free,
          ap (λ (l : Candidates). length l) (two_all old.pool a b),
          ap (λ (l : Candidates). length l) (one_all new.pool list),
          length-append (items_of old.pool a) (items_of old.pool b),
        );
      };
    }

-- or for none
pub lost_turn : (old new : Search) (a b : NamedList) → IsExchange old.slots (items_of old.pool a ++ items_of old.pool b) new.slots []
    → KeepsOthers old.pool (name a ∷ name b ∷ []) new.pool [] → spare new.pool ≡ spare old.pool + length (items_of old.pool a) + length (items_of old.pool b)
    → IsTurn old (a ∷ b ∷ []) new []
lost_turn old new a b uses others free = record {
  held = record { live = All-nil (IsLive new.pool); apart = λ k some. omega arith; uses = λ s some. omega arith };
  swap = record {
    uses = exchange_of _ _ _ _ _ (sym (two_all old.pool a b)) uses;
    others = others;
    spare = omega (arith, free, ap (λ (l : Candidates). length l) (two_all old.pool a b), length-append (items_of old.pool a) (items_of old.pool b));
  };
}

-- the lists of two branches, of one class first
pub evens_first : (a b c d : NamedList) → AreOf (a ∷ c ∷ []) (b ∷ d ∷ []) (a ∷ b ∷ c ∷ d ∷ [])
evens_first a b c d =
    IsPermutation-cons a (c ∷ b ∷ d ∷ []) (b ∷ c ∷ d ∷ []) (IsPermutation-append_left (d ∷ []) (c ∷ b ∷ []) (b ∷ c ∷ []) (IsPermutation-append_comm (c ∷ []) (b ∷ [])))

-- the numbers of an open class are small, and those above a wire
pub each : (xs : Candidates) → ((x : Candidate) → Contains xs x → IsModest x) → AreModest xs
each [] is = tt
each (x ∷ xs) is = (is x (0, omega arith, refl), each xs (λ y (k, k_n, e). is y (suc k, omega arith, e)))

pub open_modest : (p : Problem) (ws : List Width) (i v : ℕ) (odd : Bool) (xs : Candidates) → CanWiden p ws → v < length p.tree.nodes
    → IsUndominated (IsWideOpenFrom p ws i v odd) (pairs_of xs) → AreModest xs
open_modest p ws i v odd xs can v_n are = each xs (λ x found.
    let is_open : IsWideOpenFrom p ws i v odd (pair_of x) = taken_of (IsWideOpenFrom p ws i v odd) xs are x found in
    let times = wide_open_times p ws i v odd (pair_of x) can.are can.fits is_open in
    let load : x.c ≤ 10 ^ 11 = wide_open_small p ws i v odd (pair_of x) can.are can.fits v_n is_open in
    record { low = omega (arith, ints, times.0); high = omega (arith, ints, times.1); load = load })

pub above_modest : (p : Problem) (ws : List Width) (i : ℕ) (odd : Bool) (kept : List Pair) (ms : List Made) (xs : Candidates) → CanWiden p ws → i < length p.tree.nodes
    → i ≢ 0 → IsLiveNode p i → IsCarriedClass p ws i 0 odd kept ms xs → AreModest xs
above_modest p ws i odd kept ms xs can i_n some live is = each xs (λ x found.
    let (z, (row, y, row_n, y_in, z_is), x_is) = taken_of (Beside 0 (WideWires p ws i kept)) xs is.exact x found in
    let at = taken_pair (IsWidePairAt p ws i odd) kept is.below y y_in in
    let small : IsSmallPair y = wide_pair_small p ws i odd y can.are can.fits at in
    let charge = wide_carried_small p ws row i odd y can.are can.fits at row_n live some in
    let q_is : x.q ≡ z.q = ap (λ (t : Pair). t.q) x_is in
    let c_is : x.c ≡ z.c + 0 = ap (λ (t : Pair). t.c) x_is in
    let zq_is : z.q ≡ (carried_by p ws i row y).q = ap (λ (t : Pair). t.q) z_is in
    let zc_is : z.c ≡ y.c + wire_a p ws row i = ap (λ (t : Pair). t.c) z_is in
    record { low = omega (arith, ints, small.low, charge.1, q_is, zq_is); high = omega (arith, ints, small.high, q_is, zq_is); load = omega (arith, charge.0, c_is, zc_is) })

-- one class of a branch, with those of its children from number i on
pub record IsOpenClass (p : Problem) (ws : List Width) (i v : ℕ) (odd : Bool) (ms : List Made) (xs : Candidates) : Type 0 where
  pub exact : IsUndominated (IsWideOpenFrom p ws i v odd) (pairs_of xs)
  pub solved : AreSolved (IsWideOpenSolutionOf p ws odd (fork_from p v i)) ms xs

-- solutions of one child and of the others share no site
pub classes_apart : (p : Problem) (ws : List Width) (i : ℕ) (odd : Bool) (ms : List Made) (xs ys : Candidates) → 0 < i → i < length p.tree.nodes
    → AreSolved (IsWideOpenSolutionOf p ws odd (fork_from p (parent_of p.tree.nodes i) (i + 1))) ms xs → AreSolved (IsBesideSolution p ws i 0 odd) ms ys
    → (x y : Candidate) → Contains xs x → Contains ys y → AreApart (cells_of ms x.tag) (cells_of ms y.tag)
classes_apart p ws i odd ms xs ys some i_n upper lower x y x_in y_in =
    let (z, z_is, _) = lower y y_in in
    wide_from_apart p ws (parent_of p.tree.nodes i) i odd odd (cells_of ms x.tag) (cells_of ms y.tag) (pair_of x) z (is_child_of p i some i_n) (upper x x_in) z_is

pub can_meet : (p : Problem) (ws : List Width) (i : ℕ) (odd : Bool) (kept : List Pair) (slots : List Slot) (xs ys : Candidates) → CanWiden p ws → 0 < i → i < length p.tree.nodes
    → IsLiveNode p i → IsOpenClass p ws (i + 1) (parent_of p.tree.nodes i) odd (made_in slots) xs → IsCarriedClass p ws i 0 odd kept (made_in slots) ys → HoldsFor slots (xs ++ ys)
    → CanMeet slots xs ys
can_meet p ws i odd kept slots xs ys can some i_n live upper lower held = record {
  xs_rise = upper.exact.rising;
  ys_rise = lower.exact.rising;
  xs_modest = open_modest p ws (i + 1) (parent_of p.tree.nodes i) odd xs can (parent_within p i some i_n) upper.exact;
  ys_modest = above_modest p ws i odd kept (made_in slots) ys can i_n (λ e. omega (arith, some, e)) live lower;
  held = held;
  apart = classes_apart p ws i odd (made_in slots) xs ys some i_n upper.solved lower.solved;
}

-- what is made of both has solutions
pub met_solved : (p : Problem) (ws : List Width) (i : ℕ) (odd : Bool) (old new : List Made) (xs ys zs : Candidates) → AreWidths ws → 0 < i → i < length p.tree.nodes
    → is_live p.tree.nodes p.sinks i ≡ true
    → AreSolved (IsWideOpenSolutionOf p ws odd (fork_from p (parent_of p.tree.nodes i) (i + 1))) old xs → AreSolved (IsBesideSolution p ws i 0 odd) old ys
    → All (IsMet old new xs ys) zs → AreSolved (IsWideOpenSolutionOf p ws odd (fork_from p (parent_of p.tree.nodes i) i)) new zs
met_solved p ws i odd old new xs ys zs are some i_n live upper lower met z z_in =
    let v = parent_of p.tree.nodes i in
    let child = is_child_of p i some i_n in
    let (x, y, x_in, y_in, is) = All-contains (IsMet old new xs ys) zs z met z_in in
    let (w, w_is, y_is) = lower y y_in in
    let same : raised 0 w ≡ w = let e : w.c + 0 ≡ w.c = omega arith in λ j. record { q = w.q; c = e j } in
    let more = wide_from_more p ws v i odd (cells_of old x.tag) (cells_of old y.tag) (pair_of x) w are child live (upper x x_in) w_is in
    let z_is : pair_of z ≡ meet (pair_of x) w = is.pair ∙ ap (λ (q : Pair). meet (pair_of x) q) (y_is ∙ same) in
    subst (λ held. IsWideOpenSolutionOf p ws odd (fork_from p v i) held (pair_of z)) (sym is.cells)
    (subst (λ (q : Pair). IsWideOpenSolutionOf p ws odd (fork_from p v i) (joined (cells_of old x.tag) (cells_of old y.tag)) q) (sym z_is) more)

-- solutions that mean what they did serve still
pub solved_still : (Is : (ℕ → Option ℕ) → Pair → Type 0) (old new : List Made) (xs : Candidates) → MeanTheSame old new xs → AreSolved Is old xs → AreSolved Is new xs
solved_still Is old new xs same solved x found = subst (λ held. Is held (pair_of x)) (sym (same x found)) (solved x found)

pub solved_beside : (Is : (ℕ → Option ℕ) → Pair → Type 0) (old new : Arena) (s t : Block) (given made others : Lists) → AreHeld (search s old) (given ++ others)
    → IsTurn (search s old) given (search t new) made → (l : NamedList) → Contains others l → AreSolved Is (made_of old) (items_of s l) → AreSolved Is (made_of new) (items_of t l)
solved_beside Is old new s t given made others held turn l found solved =
    subst (λ (xs : Candidates). AreSolved Is (made_of new) xs) (sym (other_items (search s old) (search t new) given made others held turn l found))
    (solved_still Is (made_of old) (made_of new) (items_of s l) (list_meant old new s t given made others held turn l found) solved)

-- the two lists of one class
pub pair_held : (at : Search) (a b : NamedList) (others all : Lists) → AreOf (a ∷ b ∷ []) others all → AreHeld at all → AreHeld at (a ∷ b ∷ [])
pair_held at a b others all of held =
    front_held at (a ∷ b ∷ []) others (order_held at all ((a ∷ b ∷ []) ++ others) (IsPermutation-sym ((a ∷ b ∷ []) ++ others) all of) held)

pub pair_uses : (at : Search) (a b : NamedList) → AreHeld at (a ∷ b ∷ []) → HoldsFor at.slots (items_of at.pool a ++ items_of at.pool b)
pair_uses at a b held = (two_held at a b held).both

pub later_first : (e b d : NamedList) → AreOf (b ∷ d ∷ []) (e ∷ []) (e ∷ b ∷ d ∷ [])
later_first e b d = IsPermutation-append_comm (b ∷ d ∷ []) (e ∷ [])

pub pair_two : (at : Search) (a b : NamedList) (others all : Lists) → AreOf (a ∷ b ∷ []) others all → AreHeld at all → AreTwo at a b
pair_two at a b others all of held = two_held at a b (pair_held at a b others all of held)

pub evens_two : (at : Search) (a b c d : NamedList) → AreHeld at (a ∷ b ∷ c ∷ d ∷ []) → AreTwo at a c
evens_two at a b c d held = pair_two at a c (b ∷ d ∷ []) (a ∷ b ∷ c ∷ d ∷ []) (evens_first a b c d) held

-- the lists of two branches, where those of one class were given for others
pub record IsMetFirst (old new : Search) (a b c d : NamedList) (made : Lists) : Type 0 where
  pub beside : AreHeld old (a ∷ c ∷ b ∷ d ∷ [])
  pub whole : IsTurn old (a ∷ b ∷ c ∷ d ∷ []) new (made ++ (b ∷ d ∷ []))
  pub left : AreTwo new b d

pub met_first : (old new : Search) (a b c d : NamedList) (made : Lists) → AreHeld old (a ∷ b ∷ c ∷ d ∷ []) → IsTurn old (a ∷ c ∷ []) new made → IsMetFirst old new a b c d made
met_first old new a b c d made held one = record {
  beside = order_held old (a ∷ b ∷ c ∷ d ∷ []) (a ∷ c ∷ b ∷ d ∷ []) (IsPermutation-sym (a ∷ c ∷ b ∷ d ∷ []) (a ∷ b ∷ c ∷ d ∷ []) (evens_first a b c d)) held;
  whole = whole;
  left = pair_two new b d made (made ++ (b ∷ d ∷ [])) (IsPermutation-append_comm (b ∷ d ∷ []) made) whole.held;
} where
  whole : IsTurn old (a ∷ b ∷ c ∷ d ∷ []) new (made ++ (b ∷ d ∷ []))
  whole = turn_among old new (a ∷ c ∷ []) made (b ∷ d ∷ []) (a ∷ b ∷ c ∷ d ∷ []) (made ++ (b ∷ d ∷ [])) held (evens_first a b c d) (IsPermutation-refl (made ++ (b ∷ d ∷ []))) one

-- and then those of the other
pub record IsMetThen (old new : Search) (e b d : NamedList) (made : Lists) : Type 0 where
  pub beside : AreHeld old (b ∷ d ∷ e ∷ [])
  pub whole : IsTurn old (e ∷ b ∷ d ∷ []) new (e ∷ made)

pub met_then : (old new : Search) (e b d : NamedList) (made : Lists) → AreHeld old (e ∷ b ∷ d ∷ []) → IsTurn old (b ∷ d ∷ []) new made → IsMetThen old new e b d made
met_then old new e b d made held one = record {
  beside = order_held old (e ∷ b ∷ d ∷ []) (b ∷ d ∷ e ∷ []) (IsPermutation-append_comm (e ∷ []) (b ∷ d ∷ [])) held;
  whole = turn_among old new (b ∷ d ∷ []) made (e ∷ []) (e ∷ b ∷ d ∷ []) (e ∷ made) held (IsPermutation-append_comm (b ∷ d ∷ []) (e ∷ [])) (IsPermutation-append_comm made (e ∷ [])) one;
}

-- a pair with no load beside it
beside_none : (In : Pair → Type 0) (xs : List Pair) → IsUndominated (Beside 0 In) xs → IsUndominated In xs
beside_none In xs are =
    let same : (y : Pair) → raised 0 y ≡ y = λ y. (let e : y.c + 0 ≡ y.c = omega arith in λ j. record { q = y.q; c = e j }) in
    same_exact (Beside 0 In) In xs (λ z (y, y_in, z_is). subst In (sym (z_is ∙ same y)) y_in) (λ z z_in. (z, z_in, sym (same z))) are

-- both classes of two branches together
pub both_met : (p : Problem) (ws : List Width) (i : ℕ) (before after : Arena) (s t : Block) (upper lower made : Branch) → 0 < i → i < length p.tree.nodes → is_live p.tree.nodes p.sinks i ≡ true
    → IsOpenAt p ws (i + 1) (parent_of p.tree.nodes i) (made_of before) (classes_in s upper) → IsCarriedAt p ws i 0 (made_of before) (classes_in s lower)
    → IsUndominated (Meets (pairs_of (items_of s upper.even)) (pairs_of (items_of s lower.even))) (pairs_of (items_of t made.even))
    → IsUndominated (Meets (pairs_of (items_of s upper.odd)) (pairs_of (items_of s lower.odd))) (pairs_of (items_of t made.odd))
    → AreSolved (IsWideOpenSolutionOf p ws false (fork_from p (parent_of p.tree.nodes i) i)) (made_of after) (items_of t made.even)
    → AreSolved (IsWideOpenSolutionOf p ws true (fork_from p (parent_of p.tree.nodes i) i)) (made_of after) (items_of t made.odd)
    → IsOpenAt p ws i (parent_of p.tree.nodes i) (made_of after) (classes_in t made)
both_met p ws i before after s t upper lower made some i_n live open_at (kept, above) evens odds even_solved odd_solved = record {
  part = wide_live_on_live p ws (parent_of p.tree.nodes i) i (λ odd. pairs_of (classes_in s upper odd)) kept (λ odd. pairs_of (classes_in s lower odd)) (λ odd. pairs_of (classes_in t made odd))
      (is_child_of p i some i_n) live open_at.part (λ odd. (above odd).below) (λ odd. beside_none (WideWires p ws i (kept odd)) (pairs_of (classes_in s lower odd)) (above odd).exact) exact;
  solved = solved;
} where
  exact : (odd : Bool) → IsUndominated (Meets (pairs_of (classes_in s upper odd)) (pairs_of (classes_in s lower odd))) (pairs_of (classes_in t made odd))
  exact true = odds
  exact false = evens

  solved : (odd : Bool) → AreSolved (IsWideOpenSolutionOf p ws odd (fork_from p (parent_of p.tree.nodes i) i)) (made_of after) (classes_in t made odd)
  solved true = odd_solved
  solved false = even_solved

-- a class beside a swap is what it was
pub exact_as : (In : Pair → Type 0) (xs ys : Candidates) → xs ≡ ys → IsUndominated In (pairs_of xs) → IsUndominated In (pairs_of ys)
exact_as In xs ys e are = subst (λ (l : Candidates). IsUndominated In (pairs_of l)) e are

pub open_beside : (p : Problem) (ws : List Width) (i v : ℕ) (odd : Bool) (old new : Arena) (s t : Block) (given made others : Lists) → AreHeld (search s old) (given ++ others)
    → IsTurn (search s old) given (search t new) made → (l : NamedList) → Contains others l → IsOpenClass p ws i v odd (made_of old) (items_of s l)
    → IsOpenClass p ws i v odd (made_of new) (items_of t l)
open_beside p ws i v odd old new s t given made others held turn l found is = record {
  exact = exact_as (IsWideOpenFrom p ws i v odd) _ _ (sym (other_items (search s old) (search t new) given made others held turn l found)) is.exact;
  solved = solved_beside (IsWideOpenSolutionOf p ws odd (fork_from p v i)) old new s t given made others held turn l found is.solved;
}

pub carried_beside : (p : Problem) (ws : List Width) (i c : ℕ) (odd : Bool) (kept : List Pair) (old new : Arena) (s t : Block) (given made others : Lists) → AreHeld (search s old) (given ++ others)
    → IsTurn (search s old) given (search t new) made → (l : NamedList) → Contains others l → IsCarriedClass p ws i c odd kept (made_of old) (items_of s l)
    → IsCarriedClass p ws i c odd kept (made_of new) (items_of t l)
carried_beside p ws i c odd kept old new s t given made others held turn l found is = record {
  below = is.below;
  exact = exact_as (Beside c (WideWires p ws i kept)) _ _ (sym (other_items (search s old) (search t new) given made others held turn l found)) is.exact;
  solved = solved_beside (IsBesideSolution p ws i c odd) old new s t given made others held turn l found is.solved;
}
