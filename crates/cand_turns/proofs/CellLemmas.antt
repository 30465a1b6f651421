-- What repeaters make of the candidates of a node.
use Rattle.std.proofs.Common.{◌≡◌, ◌⊎◌, ℕ, zero, suc, [], ◌∷◌, ◌+◌, ◌<◌, ◌≤◌, Bool, true, false, List, length, get_or, slice_index_or, refl, sym, ap, ◌∙◌, subst, arith, inl, inr, Option, Some, None}
use Rattle.std.proofs.lemmas.List.Elements.{All-contains, Contains-get_or}
use Rattle.std.proofs.lemmas.List.{get_or_default}
use Rattle.std.specs.List.{All, AllPairs, Contains}
use Rattle.elmore.specs.Allowances.{allowed_at}
use Rattle.elmore.specs.Cells.{rep_at}
use Rattle.elmore.specs.Legal.{IsFit}
use Rattle.elmore.specs.Pairs.{IsUndominated}
use Rattle.elmore.specs.declared.allowed.Allowed.{Allowed}
use Rattle.elmore.specs.declared.allowed.Allowed.TheVariants.{All as AllOf, Only}
use Rattle.elmore.specs.declared.pair.Pair.{Pair}
use Rattle.elmore.specs.declared.problem.Problem.{Problem}
use Rattle.elmore.specs.declared.rep.Rep.{Rep}
use Rattle.sol_arena.specs.declared.slot.Made.{Made}
use Rattle.sol_arena.specs.Arenas.{slots_of, made_of}
use Rattle.sol_arena.specs.Meanings.{cells_of}
use Rattle.sol_arena.specs.Slots.{IsLive as IsLiveSolution}
use Rattle.sol_arena.specs.declared.arena.Arena.{Arena}
use Rattle.sol_arena.proofs.OneLemmas.{one_same}
use Rattle.sol_arena.proofs.ReachLemmas.{held_live}
use Rattle.cand_pairs.specs.Candidates.{with_cell, own_capacitance, fork_of, whole_fork}
use Rattle.cand_pairs.specs.Merging.{fork_from, live_from, Greatest, Owns, IsChoiceAt}
use Rattle.cand_pairs.specs.Solutions.{cells_by, with_own}
use Rattle.cand_pairs.proofs.FromLemmas.{live_all, own_all}
use Rattle.cand_pairs.proofs.GreatestLemmas.{greatest_dense}
use Rattle.cand_pairs.proofs.MergeLemmas.{IsDense, dense_exact, same_exact}
use Rattle.cand_pairs.proofs.StepLemmas.{over_self}
use Rattle.wire_widths.specs.Widths.{AreWidths}
use Rattle.wire_widths.specs.WidePairs.{IsWidePairAt}
use Rattle.wire_widths.specs.WideParts.{IsWideLivePart}
use Rattle.wire_widths.specs.WideSolutions.{IsWideOpenSolutionOf, IsWideSolutionOf, rows_by, wire_site}
use Rattle.wire_widths.specs.declared.width.Width.{Width}
use Rattle.wire_widths.proofs.WideSmallLemmas.{wide_pair_small}
use Rattle.wire_widths.proofs.WideSolutionLemmas.{wide_from_bare, wide_closed, wide_bare}
use Rattle.wire_widths.proofs.WideWordLemmas.{wide_part_kept, wide_bare_kept}
use Rattle.cand_pool.specs.Candidates.{Candidate, Candidates, AreModest}
use Rattle.cand_pool.specs.Sequences.{union, lowest}
use Rattle.cand_uses.specs.Pairs.{pair_of, pairs_of}
use Rattle.cand_uses.specs.Uses.{uses_by, HoldsFor, MeanTheSame}
use Rattle.cand_uses.proofs.ExchangeLemmas.{uses_of_one}
use Rattle.cand_lists.specs.ListLaws.{Either, both}
use Rattle.cand_lists.proofs.ExactLemmas.{both_exact, both_take}
use Rattle.cand_lists.proofs.KeptLemmas.{kept_length, union_length}
use Rattle.vg_convex.specs.Lists.{MayStand, IsMade, AreBareAt, IsAttained, IsCell}
use Rattle.vg_convex.specs.Orders.{AreRising}
use Rattle.cand_turns.specs.Solved.{CanWiden, AreSolved, IsOpenAt, IsClosedAt}
use Rattle.cand_turns.specs.Celled.{behind, IsMadeOfClasses, IsOpenList, AreBest}
use Rattle.cand_turns.proofs.WireLemmas.{small_modest}

-- what a node allows rises
rising_of : (a : Allowed) → ((numbers : List ℕ) → a ≡ Only numbers → AllPairs (λ b c. b < c) numbers) → AreRising a
rising_of AllOf only = tt
rising_of (Only numbers) only = only numbers refl

pub allowed_rises : (p : Problem) (v : ℕ) → AreRising (allowed_at p.allowed v)
allowed_rises p v = rising_of (allowed_at p.allowed v) (p.allowed_are.rising v)

pub allowed_is : (p : Problem) (v : ℕ) (all : List Allowed) (a : Allowed) → v < length p.tree.nodes → all ≡ p.allowed → a ≡ get_or all v a → a ≡ allowed_at p.allowed v
allowed_is p v all a v_n all_are is =
    is ∙ ap (λ (l : List Allowed). get_or l v a) all_are ∙ get_or_default p.allowed v a AllOf (omega (arith, p.allowed_are.one_each))

-- no cell stands at the node itself
pub open_bare : (p : Problem) (ws : List Width) (v : ℕ) (odd : Bool) (ms : List Made) (xs : Candidates) → IsOpenList p ws v odd ms xs
    → (x : Candidate) → Contains xs x → cells_of ms x.tag v ≡ None
open_bare p ws v odd ms xs opens x found = wide_from_bare p ws v (v + 1) odd (cells_of ms x.tag) (pair_of x) (opens.solved x found)

-- all children of a node came in
pub whole_solution : (p : Problem) (ws : List Width) (v : ℕ) (odd : Bool) (f : ℕ → Option ℕ) (x : Pair) → v < length p.tree.nodes
    → IsWideOpenSolutionOf p ws odd (fork_from p v (v + 1)) f x → IsWideOpenSolutionOf p ws odd (whole_fork p v) f x
whole_solution p ws v odd f x v_n is =
    subst (λ (us : List ℕ). IsWideOpenSolutionOf p ws odd (fork_of v (own_capacitance p v) us) f x) (live_all p v v_n)
    (subst (λ (own : ℕ). IsWideOpenSolutionOf p ws odd (fork_of v own (live_from p v (v + 1))) f x) (own_all p v v_n) is)

-- THE REPEATERS OF A PLACE
-- as many as hold a use of their solutions have live ones, without a cell at the node
uses_of_some : (xs : Candidates) (x : Candidate) → Contains xs x → 0 < uses_by xs x.tag
uses_of_some [] x (k, low, e) = absurd (omega (arith, low))
uses_of_some (y ∷ ys) x (zero, low, e) = omega (arith, uses_of_one y ys x.tag, one_same y.tag x.tag (ap (λ (z : Candidate). z.tag) e))
uses_of_some (y ∷ ys) x (suc k, low, e) = omega (arith, uses_of_one y ys x.tag, uses_of_some ys x (k, omega (arith, low), e))

pub tags_live : (arena : Arena) (xs : Candidates) → HoldsFor (slots_of arena) xs → All (λ (x : Candidate). IsLiveSolution (made_of arena) x.tag) xs
tags_live arena xs held k d low some =
    held_live arena (get_or xs k d).tag some (omega (arith, held (get_or xs k d).tag some, uses_of_some xs (get_or xs k d) (Contains-get_or xs k d low)))

pub bare_at : (p : Problem) (ws : List Width) (v : ℕ) (odd : Bool) (arena : Arena) (xs : Candidates) → HoldsFor (slots_of arena) xs → IsOpenList p ws v odd (made_of arena) xs
    → AreBareAt (made_of arena) v xs
bare_at p ws v odd arena xs held opens = record {
  live = tags_live arena xs held;
  bare = λ k d low. open_bare p ws v odd (made_of arena) xs opens (get_or xs k d) (Contains-get_or xs k d low);
}

-- and none has a width for the wire of the node
pub bare_wire : (p : Problem) (ws : List Width) (v : ℕ) (odd : Bool) (arena : Arena) (xs : Candidates) → HoldsFor (slots_of arena) xs
    → AreSolved (IsWideSolutionOf p ws v odd) (made_of arena) xs → AreBareAt (made_of arena) (wire_site p v) xs
bare_wire p ws v odd arena xs held solved = record {
  live = tags_live arena xs held;
  bare = λ k d low. (solved (get_or xs k d) (Contains-get_or xs k d low)).bare;
}

module _ (p : Problem) (ws : List Width) (are : AreWidths ws) (v : ℕ) (odd : Bool) (place : slice_index_or p.places v false ≡ true) (classes : Bool → Candidates) where
  -- the list behind each kind of repeater
  abbrev pub lists : Bool → Candidates
  lists inverts = classes (behind inverts odd)

  choice_from : (b : ℕ) → MayStand p.reps (allowed_at p.allowed v) b → IsChoiceAt p v b
  choice_from b (low, allows) = record { at_place = place; named = low; allows = allows }

  made_exact : (zs : Candidates) → IsUndominated (IsMade p.reps (allowed_at p.allowed v) lists) (pairs_of zs) → IsUndominated (IsMadeOfClasses p v odd classes) (pairs_of zs)
  made_exact zs all_are =
      same_exact (IsMade p.reps (allowed_at p.allowed v) lists) (IsMadeOfClasses p v odd classes) (pairs_of zs)
      (λ z (b, may, is). (b, choice_from b may, is)) (λ z (b, choice, is). (b, (choice.named, choice.allows), is)) all_are

  -- the solutions of what they make
  made_solved : (old new : List Made) (zs : Candidates) → v < length p.tree.nodes → ((o : Bool) → IsOpenList p ws v o old (classes o))
      → ((z : Candidate) → Contains zs z → (b : ℕ) × (x : Candidate) × MayStand p.reps (allowed_at p.allowed v) b × IsAttained p.reps b lists x z × IsCell old new v b x.tag z.tag)
      → AreSolved (IsWideSolutionOf p ws v odd) new zs
  made_solved old new zs v_n opens each z found =
      let (b, x, may, made, cell) = each z found in
      let choice = choice_from b may in
      let class : Bool = behind (rep_at p.reps b).inverts odd in
      let fit : IsFit (slice_index_or p.places v false) (allowed_at p.allowed v) p.reps b x.c
      = record { at_place = choice.at_place; named = choice.named; allows = choice.allows; limit = made.made.within } in
      let whole : IsWideOpenSolutionOf p ws class (whole_fork p v) (cells_of old x.tag) (pair_of x)
      = whole_solution p ws v class (cells_of old x.tag) (pair_of x) v_n ((opens class).solved x made.among) in
      let closed : IsWideSolutionOf p ws v odd (with_own v (Some b) (cells_of old x.tag)) (with_cell (Some (rep_at p.reps b)) (pair_of x))
      = wide_closed p ws v odd (Some b) (cells_of old x.tag) (pair_of x) are
      (λ d e. let same : b ≡ d = cc (e) in subst (λ (k : ℕ). IsFit (slice_index_or p.places v false) (allowed_at p.allowed v) p.reps k x.c) same fit) whole in
      subst (λ (q : Pair). IsWideSolutionOf p ws v odd (cells_of new z.tag) q) (sym made.made.made)
      (subst (λ held. IsWideSolutionOf p ws v odd held (with_cell (Some (rep_at p.reps b)) (pair_of x))) (sym cell.means) closed)

  -- both, for a list of repeaters
  pub made_best : (old new : List Made) (zs : Candidates) (reps : List Rep) → v < length p.tree.nodes → ((o : Bool) → IsOpenList p ws v o old (classes o)) → reps ≡ p.reps
      → IsUndominated (IsMade reps (allowed_at p.allowed v) lists) (pairs_of zs)
      → All (λ z. (b : ℕ) × (x : Candidate) × MayStand reps (allowed_at p.allowed v) b × IsAttained reps b lists x z × IsCell old new v b x.tag z.tag) zs
      → AreBest p ws v odd (IsMadeOfClasses p v odd classes) new zs
  made_best old new zs reps v_n opens reps_are made_are all = record {
    exact = made_exact zs (subst (λ (r : List Rep). IsUndominated (IsMade r (allowed_at p.allowed v) lists) (pairs_of zs)) reps_are made_are);
    solved = made_solved old new zs v_n opens (λ z found.
        let (b, x, may, made, cell) = All-contains (λ z. (b : ℕ) × (x : Candidate) × MayStand reps (allowed_at p.allowed v) b × IsAttained reps b lists x z × IsCell old new v b x.tag z.tag) zs z all found in (
          b,
          x,
          subst (λ (r : List Rep). MayStand r (allowed_at p.allowed v) b) reps_are may,
          subst (λ (r : List Rep). IsAttained r b lists x z) reps_are made,
          cell,
        ));
  }

-- CLASSES OF A NODE
best_modest : (p : Problem) (ws : List Width) (v : ℕ) (odd : Bool) (ms : List Made) (xs : Candidates) → CanWiden p ws → AreSolved (IsWideSolutionOf p ws v odd) ms xs → AreModest xs
best_modest p ws v odd ms xs can solved =
    small_modest xs (λ x found. wide_pair_small p ws v odd (pair_of x) can.are can.fits (cells_by p (cells_of ms x.tag), rows_by p (cells_of ms x.tag), (solved x found).pair))

pub open_best : (p : Problem) (ws : List Width) (v : ℕ) (odd : Bool) (ms : List Made) (xs : Candidates) → AreWidths ws → v < length p.tree.nodes → IsOpenList p ws v odd ms xs
    → AreBest p ws v odd (λ z. Contains (pairs_of xs) z) ms xs
open_best p ws v odd ms xs are v_n opens = record {
  exact = record {
    rising = opens.exact.rising;
    taken = λ k d k_n. Contains-get_or (pairs_of xs) k d k_n;
    covers = λ y y_in. (y, y_in, over_self y);
  };
  solved = λ x found. wide_bare p ws v odd (cells_of ms x.tag) (pair_of x) are (whole_solution p ws v odd (cells_of ms x.tag) (pair_of x) v_n (opens.solved x found));
}

-- the same set, said otherwise
pub best_as : (p : Problem) (ws : List Width) (v : ℕ) (odd : Bool) (A B : Pair → Type 0) (ms : List Made) (xs : Candidates) → ((z : Pair) → A z → B z) → ((z : Pair) → B z → A z)
    → AreBest p ws v odd A ms xs → AreBest p ws v odd B ms xs
best_as p ws v odd A B ms xs to from are = record { exact = same_exact A B (pairs_of xs) to from are.exact; solved = are.solved }

pub either_dense : (A B : Pair → Type 0) (xs ys : List Pair) → IsUndominated A xs → IsUndominated B ys → IsDense (Either xs ys) (λ z. A z ⊎ B z)
either_dense A B xs ys one two = record {
  part = λ z z_in. elim z_in [
    | inl a ↦ inl (All-contains A xs z one.taken a)
    | inr b ↦ inr (All-contains B ys z two.taken b)
  ];
  covers = λ y y_in. elim y_in [
    | inl a ↦ let (x, x_in, dom) = one.covers y a in (x, inl x_in, dom)
    | inr b ↦ let (x, x_in, dom) = two.covers y b in (x, inr x_in, dom)
  ];
}

-- two lists of one class together
pub both_best : (p : Problem) (ws : List Width) (v : ℕ) (odd : Bool) (A B : Pair → Type 0) (old new : List Made) (xs ys : Candidates) → CanWiden p ws → AreBest p ws v odd A old xs → AreBest p ws v odd B old ys
    → MeanTheSame old new (both xs ys) → AreBest p ws v odd (λ z. A z ⊎ B z) new (both xs ys)
both_best p ws v odd A B old new xs ys can one two same = record {
  exact = dense_exact (Either (pairs_of xs) (pairs_of ys)) (λ z. A z ⊎ B z) (pairs_of (both xs ys)) (either_dense A B (pairs_of xs) (pairs_of ys) one.exact two.exact)
      (both_exact xs ys one.exact.rising two.exact.rising (best_modest p ws v odd old xs can one.solved) (best_modest p ws v odd old ys can two.solved));
  solved = λ z found. subst (λ held. IsWideSolutionOf p ws v odd held (pair_of z)) (sym (same z found)) (elim (both_take xs ys z found) as (λ _. IsWideSolutionOf p ws v odd (cells_of old z.tag) (pair_of z)) [
    | inl a ↦ one.solved z a
    | inr b ↦ two.solved z b
  ]);
}

pub both_few : (xs ys : Candidates) → length (both xs ys) ≤ length xs + length ys
both_few xs ys = omega (arith, kept_length lowest (union xs ys), union_length xs ys)

-- the candidates with and without a cell are those of the node
module _ (p : Problem) (ws : List Width) (are : AreWidths ws) (v : ℕ) (v_n : v < length p.tree.nodes) (classes : Bool → Candidates) (part : IsWideLivePart p ws (v + 1) v (λ odd. pairs_of (classes odd))) where
  to_greatest : (odd : Bool) (z : Pair) → (Contains (pairs_of (classes odd)) z) ⊎ IsMadeOfClasses p v odd classes z → Greatest p v odd (λ o. pairs_of (classes o)) z
  to_greatest odd z (inl a) = inl a
  to_greatest odd z (inr made) = inr made

  from_greatest : (odd : Bool) (z : Pair) → Greatest p v odd (λ o. pairs_of (classes o)) z → (Contains (pairs_of (classes odd)) z) ⊎ IsMadeOfClasses p v odd classes z
  from_greatest odd z (inl a) = inl a
  from_greatest odd z (inr made) = inr made

  pub all_exact : (kept : Bool → Candidates)
      → ((odd : Bool) → IsUndominated (λ z. (Contains (pairs_of (classes odd)) z) ⊎ IsMadeOfClasses p v odd classes z) (pairs_of (kept odd)))
      → (odd : Bool) → IsUndominated (IsWidePairAt p ws v odd) (pairs_of (kept odd))
  all_exact kept all odd =
      wide_part_kept p ws v (λ o. pairs_of (classes o)) (λ o. pairs_of (kept o)) are v_n part
      (λ o. dense_exact (Greatest p v o (λ q. pairs_of (classes q))) (Owns p v o (λ q. pairs_of (classes q))) (pairs_of (kept o)) (greatest_dense p v o (λ q. pairs_of (classes q)))
      (same_exact (λ z. (Contains (pairs_of (classes o)) z) ⊎ IsMadeOfClasses p v o classes z) (Greatest p v o (λ q. pairs_of (classes q))) (pairs_of (kept o)) (to_greatest o) (from_greatest o) (all o))) odd

pub open_list : (p : Problem) (ws : List Width) (v : ℕ) (ms : List Made) (classes : Bool → Candidates) (odd : Bool) → IsOpenAt p ws (v + 1) v ms classes → IsOpenList p ws v odd ms (classes odd)
open_list p ws v ms classes odd at = record { exact = at.part.exact odd; solved = at.solved odd }

-- a node that is no place
pub bare_closed : (p : Problem) (ws : List Width) (v : ℕ) (ms : List Made) (classes : Bool → Candidates) → AreWidths ws → v < length p.tree.nodes → slice_index_or p.places v false ≡ false
    → IsOpenAt p ws (v + 1) v ms classes → IsClosedAt p ws v ms classes
bare_closed p ws v ms classes are v_n no_place at = record {
  exact = wide_bare_kept p ws v (λ o. pairs_of (classes o)) are v_n no_place at.part;
  solved = λ odd. (open_best p ws v odd ms (classes odd) are v_n (open_list p ws v ms classes odd at)).solved;
}

-- the candidates of both lists of a branch, with those that cells make
pub place_closed : (p : Problem) (ws : List Width) (v : ℕ) (old new : List Made) (classes cells kept : Bool → Candidates) → CanWiden p ws → v < length p.tree.nodes
    → IsOpenAt p ws (v + 1) v old classes
    → ((odd : Bool) → AreBest p ws v odd (IsMadeOfClasses p v odd classes) old (cells odd)) → ((odd : Bool) → kept odd ≡ both (classes odd) (cells odd))
    → ((odd : Bool) → MeanTheSame old new (kept odd)) → IsClosedAt p ws v new kept
place_closed p ws v old new classes cells kept can v_n at best kept_is same = record {
  exact = all_exact p ws can.are v v_n classes at.part kept (λ odd. (all odd).exact);
  solved = λ odd. (all odd).solved;
} where
  all : (odd : Bool) → AreBest p ws v odd (λ z. (Contains (pairs_of (classes odd)) z) ⊎ IsMadeOfClasses p v odd classes z) new (kept odd)
  all odd =
      subst (λ (xs : Candidates). AreBest p ws v odd (λ z. (Contains (pairs_of (classes odd)) z) ⊎ IsMadeOfClasses p v odd classes z) new xs) (sym (kept_is odd))
      (both_best p ws v odd (λ z. Contains (pairs_of (classes odd)) z) (IsMadeOfClasses p v odd classes) old new (classes odd) (cells odd) can
      (open_best p ws v odd old (classes odd) can.are v_n (open_list p ws v old classes odd at)) (best odd)
      (subst (λ (xs : Candidates). MeanTheSame old new xs) (kept_is odd) (same odd)))
