-- The candidates with a cell at a place.
use Rattle.std.proofs.Common.{◌≡◌, ℕ, ◌+◌, ◌<◌, Bool, true, false, List, [], ◌++◌, arith, length, slice_index_or, refl, sym, ap, ◌∙◌, subst, Option, Some}
use Rattle.std.proofs.lemmas.List.Elements.{Contains-append_left, Contains-append_right}
use Rattle.std.specs.List.{Contains}
use Rattle.elmore.specs.Allowances.{allowed_at}
use Rattle.elmore.specs.Cells.{rep_at}
use Rattle.elmore.specs.Legal.{IsFit}
use Rattle.elmore.specs.declared.problem.Problem.{Problem}
use Rattle.elmore.specs.declared.pair.Pair.{Pair}
use Rattle.sol_arena.specs.declared.arena.Arena.{Arena}
use Rattle.sol_arena.specs.declared.slot.Made.{Made}
use Rattle.sol_arena.specs.declared.slot.Slot.{Slot}
use Rattle.sol_arena.specs.Arenas.{slots_of, made_of}
use Rattle.cand_pairs.specs.Merging.{fork_from}
use Rattle.cand_pairs.specs.Solutions.{IsOpenSolutionOf, IsSolutionOf}
use Rattle.vg_front.specs.declared.branch.Branch.{Branch}
use Rattle.vg_front.specs.declared.offer.Candidate.{Candidate}
use Rattle.vg_front.specs.declared.offer.Proposal.{Proposal}
use Rattle.vg_front.specs.Branches.{list_of, all_of}
use Rattle.vg_front.specs.Offers.{priced, IsPartOf}
use Rattle.vg_front.specs.Making.{IsFrom, AreFrom, IsMadeOf, AreMadeOf}
use Rattle.vg_front.specs.Driving.{IsCelled, behind}
use Rattle.vg_front.specs.Fronts.{AreSolved, cost_by}
use Rattle.vg_front.specs.Held.{AreHeld, IsGiven, MeanTheSame}
use Rattle.vg_front.proofs.CostLemmas.{free_at, cell_solved}
use Rattle.vg_front.proofs.HeldLemmas.{uses_both, given_then, given_as, given_held, given_beside, held_as, beside_same}

pub in_branch : (branch : Branch) (odd : Bool) (x : Candidate) → Contains (list_of branch odd) x → Contains (all_of branch) x
in_branch branch false x found = Contains-append_left branch.even.items branch.odd.items x found
in_branch branch true x found = Contains-append_right branch.even.items branch.odd.items x found

module _ (p : Problem) (cap : Option ℕ) (v : ℕ) (odd : Bool) (branch : Branch) (ms : List Made) (ps : List Proposal)
    (solved : (o : Bool) → AreSolved p (IsOpenSolutionOf p o (fork_from p v (v + 1))) ms (list_of branch o))
    (is : IsPartOf (IsCelled p v odd cap (list_of branch)) ps) where
  -- they are to be made of candidates that have no cell there
  pub place_from : AreFrom ms (all_of branch) ps
  place_from q q_in =
      let (b, named, allows, driven) = is.part q q_in in
      let (x, x_in, may, q_is) = driven in
      let o : Bool = behind (rep_at p.reps b) odd in
      subst (λ (t : Proposal). IsFrom ms (all_of branch) t.origin) (sym q_is)
      (x, in_branch branch o x x_in, refl, free_at p v o _ (priced x.offer).pair (solved o x x_in).pair)

  pub place_solved : (ms' : List Made) (zs : List Candidate) → v < length p.tree.nodes → slice_index_or p.places v false ≡ true → AreMadeOf ms ms' ps zs
      → AreSolved p (IsSolutionOf p v odd) ms' zs
  place_solved ms' zs v_n place made z found =
      let (q, q_in, z_is) = made.part z found in
      let (b, named, allows, driven) = is.part q q_in in
      let (x, x_in, may, q_is) = driven in
      let o : Bool = behind (rep_at p.reps b) odd in
      cell_solved p v b odd ms ms' x z v_n
      (λ n e. subst (λ (m : ℕ). IsFit (slice_index_or p.places v false) (allowed_at p.allowed v) p.reps m x.offer.c) (one b n e)
      (record { at_place = place; named = named; allows = allows; limit = may.limit }))
      (solved o x x_in) (subst (λ (t : Proposal). IsMadeOf ms ms' t z) q_is z_is)
    where
      one : (b n : ℕ) → Some b ≡ Some n → b ≡ n
      one b n e = cc

-- solutions that mean what they did
pub still_solved : (p : Problem) (Is : (ℕ → Option ℕ) → Pair → Type 0) (ms ms' : List Made) (xs : List Candidate) → MeanTheSame ms ms' xs
    → AreSolved p Is ms xs
    → AreSolved p Is ms' xs
still_solved p Is ms ms' xs same solved x found = record {
  pair = subst (λ (f : ℕ → Option ℕ). Is f (priced x.offer).pair) (sym (same x found)) (solved x found).pair;
  cost = (solved x found).cost ∙ ap (cost_by p) (sym (same x found));
}

-- what others are given does not change what is held
module _ (old new : Arena) (ws zs : List Candidate) (held : AreHeld (slots_of old) ws) (given : IsGiven (slots_of old) [] (slots_of new) zs) where
  held_before : AreHeld (slots_of old) (ws ++ [])
  held_before = held_as (slots_of old) ws (ws ++ []) (λ s. omega (arith, uses_both ws [] s)) held

  pub both_held : AreHeld (slots_of new) (ws ++ zs)
  both_held = given_held (slots_of old) (slots_of new) (ws ++ []) (ws ++ zs) held_before (given_beside (slots_of old) (slots_of new) ws [] zs given)

  pub first_held : AreHeld (slots_of new) ws
  first_held = held_as (slots_of new) (ws ++ zs) ws (λ s. omega (arith, uses_both ws zs s)) both_held

  pub first_same : MeanTheSame (made_of old) (made_of new) ws
  first_same = beside_same old new ws [] zs held_before given

-- the lists of a branch are held one by one
pub branch_same : (ms ms' : List Made) (branch : Branch) → MeanTheSame ms ms' (all_of branch) → (o : Bool) → MeanTheSame ms ms' (list_of branch o)
branch_same ms ms' branch same o x found = same x (in_branch branch o x found)

-- one list and then another one
pub given_both : (old mid new : List Slot) (xs ys : List Candidate) → IsGiven old [] mid xs → IsGiven mid [] new ys → IsGiven old [] new (xs ++ ys)
given_both old mid new xs ys one two =
    given_then old mid new [] xs (xs ++ ys) one
    (given_as mid new (xs ++ []) xs (xs ++ ys) (xs ++ ys) (λ s. omega (arith, uses_both xs [] s)) (λ s. refl) (given_beside mid new xs [] ys two))

-- one list, and then nothing more
pub given_none_more : (old mid new : List Slot) (xs : List Candidate) → IsGiven old [] mid xs → IsGiven mid [] new [] → IsGiven old [] new xs
given_none_more old mid new xs one two =
    given_then old mid new [] xs xs one
    (given_as mid new (xs ++ []) xs (xs ++ []) xs (λ s. omega (arith, uses_both xs [] s)) (λ s. omega (arith, uses_both xs [] s))
    (given_beside mid new xs [] [] two))

pub alone_held : (old new : List Slot) (xs : List Candidate) → IsGiven old [] new xs → AreHeld new xs
alone_held old new xs given = given_held old new [] xs (λ s some. omega arith) given

pub by_class : (P : Bool → List Candidate → Type 0) (branch : Branch) → P false branch.even.items → P true branch.odd.items → (o : Bool)
    → P o (list_of branch o)
by_class P branch even odd false = even
by_class P branch even odd true = odd

-- some are given besides, and then all for others
pub given_more : (old mid new : List Slot) (ws zs ys : List Candidate) → IsGiven old [] mid zs → IsGiven mid (ws ++ zs) new ys → IsGiven old ws new ys
given_more old mid new ws zs ys one two =
    given_then old mid new ws (ws ++ zs) ys
    (given_as old mid (ws ++ []) ws (ws ++ zs) (ws ++ zs) (λ s. omega (arith, uses_both ws [] s)) (λ s. refl) (given_beside old mid ws [] zs one)) two

pub given_after : (old mid new : List Slot) (ws ys : List Candidate) → IsGiven old [] mid [] → IsGiven mid ws new ys → IsGiven old ws new ys
given_after old mid new ws ys one two =
    given_more old mid new ws [] ys one (given_as mid new ws (ws ++ []) ys ys (λ s. omega (arith, uses_both ws [] s)) (λ s. refl) two)
