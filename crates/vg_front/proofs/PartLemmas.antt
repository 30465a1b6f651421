-- A node starts, and comes in to the part of its parent.
use Rattle.std.proofs.Common.{◌≡◌, ℕ, ◌+◌, ◌^◌, ◌<◌, ◌≤◌, Bool, true, false, List, [], ◌∷◌, ◌++◌, map, length, refl, sym, ap, ◌∙◌, subst, arith, inl}
use Rattle.std.proofs.Common.{inr, Option, Result, Ok, Err, MatchResult}
use Rattle.std.proofs.lemmas.Int.{ints}
use Rattle.std.specs.List.{Contains}
use Rattle.std.specs.Result.{IsErr}
use Rattle.elmore.specs.Placements.{IsSinkAt}
use Rattle.elmore.specs.Problems.{is_live}
use Rattle.elmore.specs.Trees.{parent_of, resistance, capacitance}
use Rattle.elmore.specs.Wire.{downstream_in}
use Rattle.elmore.specs.declared.parts.Sink.{Sink}
use Rattle.elmore.specs.declared.problem.Problem.{Problem}
use Rattle.sol_arena.specs.declared.arena.Arena.{Arena}
use Rattle.sol_arena.specs.declared.slot.Made.{Made}
use Rattle.sol_arena.specs.declared.slot.Slot.{Slot}
use Rattle.sol_arena.specs.Arenas.{made_of}
use Rattle.sol_arena.specs.Meanings.{cells_of, bare}
use Rattle.sol_arena.specs.Slots.{none}
use Rattle.cand_uses.proofs.ExchangeLemmas.{empty_cells}
use Rattle.cand_pairs.specs.Candidates.{carried, fork_of, Fork}
use Rattle.cand_pairs.specs.Merging.{HasEnd, raised, live_from, own_from, fork_from}
use Rattle.cand_pairs.specs.Parts.{IsDeadPart}
use Rattle.cand_pairs.specs.Priced.{Priced, IsPricedPart, IsPricedAt, IsPricedOpenWith, PricedFirst, PricedRaises, raise_priced}
use Rattle.cand_pairs.specs.Solutions.{IsOpenSolutionOf}
use Rattle.cand_pairs.proofs.FromLemmas.{live_here, live_own, dead_here, dead_own}
use Rattle.cand_pairs.proofs.JoinLemmas.{is_child_of, parent_within}
use Rattle.cand_pairs.proofs.PricedMergeLemmas.{part_trans, priced_first, priced_raises, priced_sink}
use Rattle.cand_pairs.proofs.SmallPairLemmas.{own_small}
use Rattle.cand_pairs.proofs.SolutionLemmas.{solution_first, solution_raised, solution_sink}
use Rattle.cand_pairs.proofs.TurnLemmas.{start_live, start_own, dead_on_dead}
use Rattle.vg_front.specs.declared.branch.Branch.{Branch}
use Rattle.vg_front.specs.declared.offer.Candidate.{Candidate}
use Rattle.vg_front.specs.declared.offer.Offer.{Offer}
use Rattle.vg_front.specs.declared.part.Part.{Part}
use Rattle.vg_front.specs.declared.part.Part.TheVariants.{Dead, Live}
use Rattle.vg_front.specs.Branches.{list_of, all_of}
use Rattle.vg_front.specs.Offers.{priced}
use Rattle.vg_front.specs.Held.{IsGiven, carried_by, carried_offer}
use Rattle.vg_front.specs.Fronts.{In, cost_by, IsSolved, AreSolved, IsOpenAt, IsClosedAt}
use Rattle.vg_front.specs.Parts.{IsPart}
use Rattle.vg_front.specs.Sinks.{offer_of, IsSinkAlone, load_beside}
use Rattle.vg_front.proofs.CostLemmas.{bare_cost}
use Rattle.vg_front.proofs.FrontLemmas.{in_list, of_list}
use Rattle.vg_front.proofs.HeldLemmas.{uses, uses_cons, uses_both, given_none, given_as}
use Rattle.vg_front.proofs.OfferLemmas.{in_map, of_map}
use Rattle.vg_front.proofs.SeenLemmas.{beats_self}

-- THE USES of a branch above its wire
carried_uses : (r load : ℕ) (xs : List Candidate) (s : ℕ) → uses (map (carried_by r load) xs) s ≡ uses xs s
carried_uses r load [] s = refl
carried_uses r load (x ∷ xs) s =
    omega (arith, uses_cons x xs s, uses_cons (carried_by r load x) (map (carried_by r load) xs) s, carried_uses r load xs s)

pub branch_uses : (r load : ℕ) (old new : Branch) → ((odd : Bool) → list_of new odd ≡ map (carried_by r load) (list_of old odd)) → (s : ℕ)
    → uses (all_of new) s ≡ uses (all_of old) s
branch_uses r load old new are s =
    omega (
      arith,
      uses_both new.even.items new.odd.items s,
      uses_both old.even.items old.odd.items s,
      ap (λ (l : List Candidate). uses l s) (are false),
      ap (λ (l : List Candidate). uses l s) (are true),
      carried_uses r load old.even.items s,
      carried_uses r load old.odd.items s,
    )

pub branch_given : (slots : List Slot) (r load : ℕ) (old new : Branch) → ((odd : Bool) → list_of new odd ≡ map (carried_by r load) (list_of old odd))
    → IsGiven slots (all_of old) slots (all_of new)
branch_given slots r load old new are =
    given_as slots slots (all_of old) (all_of old) (all_of old) (all_of new) (λ s. refl) (λ s. sym (branch_uses r load old new are s))
    (given_none slots (all_of old))

-- beside others
pub beside_given : (slots : List Slot) (ws : List Candidate) (r load : ℕ) (old new : Branch)
    → ((odd : Bool) → list_of new odd ≡ map (carried_by r load) (list_of old odd))
    → IsGiven slots (ws ++ all_of old) slots (ws ++ all_of new)
beside_given slots ws r load old new are =
    given_as slots slots (ws ++ all_of old) (ws ++ all_of old) (ws ++ all_of old) (ws ++ all_of new) (λ s. refl)
    (λ s. omega (arith, uses_both ws (all_of old) s, uses_both ws (all_of new) s, branch_uses r load old new are s)) (given_none slots (ws ++ all_of old))

-- THE SAME SETS are parts of each other
same_part : (cap : Option ℕ) (G S : Priced → Type 0) → ((a : Priced) → G a → S a) → ((a : Priced) → S a → G a) → IsPricedPart cap G S
same_part cap G S to from = record { part = to; covers = λ a found within. (a, from a found, beats_self a) }

-- above the wire of u, with a load
carried_part : (p : Problem) (cap : Option ℕ) (u c : ℕ) (xs : List Candidate)
    → IsPricedPart cap (In (map (carried_by (resistance p.tree.nodes u) c) xs)) (PricedFirst p c u (In xs))
carried_part p cap u c xs =
    same_part cap (In (map (carried_by (resistance p.tree.nodes u) c) xs)) (PricedFirst p c u (In xs))
    (λ a found.
    let (x, x_in, a_is) = of_list (map (carried_by (resistance p.tree.nodes u) c) xs) a found in
    let (h, h_in, x_is) = of_map (carried_by (resistance p.tree.nodes u) c) xs x x_in in
    (priced h.offer, in_list xs h h_in, a_is ∙ ap (λ (t : Candidate). priced t.offer) x_is))
    (λ a (z, z_in, a_is).
    let (h, h_in, z_is) = of_list xs z z_in in
    let is : a ≡ priced (carried_by (resistance p.tree.nodes u) c h).offer
    = a_is ∙ ap (λ (t : Priced). record { cost = t.cost; pair = raised c (carried p u t.pair) }) z_is in
    subst (In (map (carried_by (resistance p.tree.nodes u) c) xs)) (sym is)
    (in_list (map (carried_by (resistance p.tree.nodes u) c) xs) (carried_by (resistance p.tree.nodes u) c h)
    (in_map (carried_by (resistance p.tree.nodes u) c) xs h h_in)))

-- with a load alone
loaded_is : (c : ℕ) (x : Offer) → priced (carried_offer 0 c x) ≡ raise_priced c (priced x)
loaded_is c x =
    let e : (carried_offer 0 c x).q ≡ x.q = omega (arith, ints) in
    λ k. record { cost = x.cost; pair = record { q = e k; c = x.c + c } }

loaded_part : (cap : Option ℕ) (c : ℕ) (xs : List Candidate) → IsPricedPart cap (In (map (carried_by 0 c) xs)) (PricedRaises c (In xs))
loaded_part cap c xs =
    same_part cap (In (map (carried_by 0 c) xs)) (PricedRaises c (In xs))
    (λ a found.
    let (x, x_in, a_is) = of_list (map (carried_by 0 c) xs) a found in
    let (h, h_in, x_is) = of_map (carried_by 0 c) xs x x_in in
    (priced h.offer, in_list xs h h_in, a_is ∙ ap (λ (t : Candidate). priced t.offer) x_is ∙ loaded_is c h.offer))
    (λ a (z, z_in, a_is).
    let (h, h_in, z_is) = of_list xs z z_in in
    let is : a ≡ priced (carried_by 0 c h).offer = a_is ∙ ap (raise_priced c) z_is ∙ sym (loaded_is c h.offer) in
    subst (In (map (carried_by 0 c) xs)) (sym is) (in_list (map (carried_by 0 c) xs) (carried_by 0 c h) (in_map (carried_by 0 c) xs h h_in)))

-- classes that are the same
pub open_as : (p : Problem) (cap : Option ℕ) (i v : ℕ) (ms : List Made) (xs ys : Bool → List Candidate) → ((odd : Bool) → ys odd ≡ xs odd)
    → IsOpenAt p cap i v ms xs
    → IsOpenAt p cap i v ms ys
open_as p cap i v ms xs ys same at = record {
  end = at.end;
  part = λ odd. subst (λ (l : List Candidate). IsPricedPart cap (In l) (IsPricedOpenWith p (IsPricedAt p) odd (fork_from p v i))) (sym (same odd))
      (at.part odd);
  solved = λ odd. subst (AreSolved p (IsOpenSolutionOf p odd (fork_from p v i)) ms) (sym (same odd)) (at.solved odd);
}

-- THE START
module _ (p : Problem) (v c : ℕ) (sink : Sink) (here : IsSinkAt p v sink) (c_is : c ≡ capacitance p.tree.nodes v) where
  -- no child came in yet
  start_fork : (F : Fork → Type 0) → F (fork_of v c []) → F (fork_from p v (length p.tree.nodes))
  start_fork F is =
      subst (λ (us : List ℕ). F (fork_of v (own_from p v (length p.tree.nodes)) us)) (sym (start_live p v))
      (subst (λ (own : ℕ). F (fork_of v own [])) (c_is ∙ sym (start_own p v)) is)

  alone_part : (cap : Option ℕ) (odd : Bool) (xs : List Candidate) → IsSinkAlone sink c odd xs
      → IsPricedPart cap (In xs) (IsPricedOpenWith p (IsPricedAt p) odd (fork_of v c []))
  alone_part cap odd xs alone =
      part_trans cap (In xs) (λ a. (odd ≡ sink.inverted) × (a ≡ priced (offer_of sink c))) (IsPricedOpenWith p (IsPricedAt p) odd (fork_of v c []))
      (same_part cap (In xs) (λ a. (odd ≡ sink.inverted) × (a ≡ priced (offer_of sink c)))
      (λ a found. let (x, x_in, a_is) = of_list xs a found in (alone.wanted x x_in, a_is ∙ ap priced (alone.offer x x_in)))
      (λ a (same, a_is). subst (In xs) (sym a_is) (alone.some same)))
      (priced_sink p cap (IsPricedAt p) v odd c sink here)

  alone_solved : (ms : List Made) (odd : Bool) (xs : List Candidate) → cells_of ms none ≡ bare → IsSinkAlone sink c odd xs
      → AreSolved p (IsOpenSolutionOf p odd (fork_of v c [])) ms xs
  alone_solved ms odd xs bare_is alone x found =
      let cells_is : cells_of ms x.sol.0 ≡ bare = ap (cells_of ms) (alone.bare x found) ∙ bare_is in
      record {
        pair = subst (λ (o : Offer). IsOpenSolutionOf p odd (fork_of v c []) (cells_of ms x.sol.0) (priced o).pair) (sym (alone.offer x found))
            (subst (λ (f : ℕ → Option ℕ). IsOpenSolutionOf p odd (fork_of v c []) f (priced (offer_of sink c)).pair) (sym cells_is)
            (subst (λ (o : Bool). IsOpenSolutionOf p o (fork_of v c []) bare (priced (offer_of sink c)).pair) (sym (alone.wanted x found))
            (solution_sink p v c sink here)));
        cost = ap (λ (o : Offer). o.cost) (alone.offer x found) ∙ sym (bare_cost p) ∙ sym (ap (cost_by p) cells_is);
      }

  pub sink_open : (cap : Option ℕ) (arena : Arena) (classes : Bool → List Candidate) → ((odd : Bool) → IsSinkAlone sink c odd (classes odd))
      → IsOpenAt p cap (length p.tree.nodes) v (made_of arena) classes
  sink_open cap arena classes alone = record {
    end = inr (sink, here);
    part = λ odd. start_fork (λ fork. IsPricedPart cap (In (classes odd)) (IsPricedOpenWith p (IsPricedAt p) odd fork))
        (alone_part cap odd (classes odd) (alone odd));
    solved = λ odd. start_fork (λ fork. AreSolved p (IsOpenSolutionOf p odd fork) (made_of arena) (classes odd))
        (alone_solved (made_of arena) odd (classes odd) (empty_cells arena) (alone odd));
  }

-- DEAD ON DEAD
pub dead_dead : (p : Problem) (i c d : ℕ) → 0 < i → i < length p.tree.nodes → is_live p.tree.nodes p.sinks i ≡ false
    → IsDeadPart p (i + 1) (parent_of p.tree.nodes i) c → d ≡ downstream_in p.tree.nodes i → IsDeadPart p i (parent_of p.tree.nodes i) (c + d)
dead_dead p i c d some i_n dead part d_is = dead_on_dead p (parent_of p.tree.nodes i) i c d (is_child_of p i some i_n) dead part d_is

pub dead_sum : (p : Problem) (i c d : ℕ) → 0 < i → i < length p.tree.nodes → is_live p.tree.nodes p.sinks i ≡ false
    → IsDeadPart p (i + 1) (parent_of p.tree.nodes i) c → d ≡ downstream_in p.tree.nodes i → c + d ≤ 10 ^ 11
dead_sum p i c d some i_n dead part d_is =
    let both : IsDeadPart p i (parent_of p.tree.nodes i) (c + d) = dead_dead p i c d some i_n dead part d_is in
    omega (arith, both.load, own_small p (parent_of p.tree.nodes i) i (parent_within p i some i_n))

-- what is beside a branch that comes in is small
pub beside_small : (p : Problem) (cap : Option ℕ) (i v : ℕ) (ms : List Made) (part : Part) → v < length p.tree.nodes → IsPart p cap i v ms part
    → load_beside part ≤ 10 ^ 11
beside_small p cap i v ms (Dead c) v_n part = omega (arith, part.load, own_small p v i v_n)
beside_small p cap i v ms (Live branch) v_n part = omega arith

-- and what comes in dead
pub dead_small : (p : Problem) (i d : ℕ) → 0 < i → i < length p.tree.nodes → is_live p.tree.nodes p.sinks i ≡ false → d ≡ downstream_in p.tree.nodes i
    → d ≤ 10 ^ 11
dead_small p i d some i_n dead d_is =
    omega (
      arith,
      d_is,
      dead_own p (parent_of p.tree.nodes i) i (is_child_of p i some i_n) dead,
      own_small p (parent_of p.tree.nodes i) i
          (parent_within p i some i_n),
    )

-- DEAD ON LIVE
module _ (p : Problem) (cap : Option ℕ) (i d : ℕ) (some : 0 < i) (i_n : i < length p.tree.nodes) (dead : is_live p.tree.nodes p.sinks i ≡ false)
    (d_is : d ≡ downstream_in p.tree.nodes i) (ms : List Made) (classes : Bool → List Candidate)
    (opens : IsOpenAt p cap (i + 1) (parent_of p.tree.nodes i) ms classes) where
  raised_fork : (F : Fork → Type 0)
      → F (fork_of (parent_of p.tree.nodes i) (own_from p (parent_of p.tree.nodes i) (i + 1) + d) (live_from p (parent_of p.tree.nodes i) (i + 1)))
      → F (fork_from p (parent_of p.tree.nodes i) i)
  raised_fork F is =
      let v = parent_of p.tree.nodes i in
      let own_is : own_from p v i ≡ own_from p v (i + 1) + d
      = dead_own p v i (is_child_of p i some i_n) dead ∙ ap (λ (k : ℕ). own_from p v (i + 1) + k) (sym d_is) in
      subst (λ (us : List ℕ). F (fork_of v (own_from p v i) us)) (sym (dead_here p v i (is_child_of p i some i_n) dead))
      (subst (λ (own : ℕ). F (fork_of v own (live_from p v (i + 1)))) (sym own_is) is)

  raised_solved : (odd : Bool) (h : Candidate) → Contains (classes odd) h
      → IsSolved p (IsOpenSolutionOf p odd
      (fork_of (parent_of p.tree.nodes i) (own_from p (parent_of p.tree.nodes i) (i + 1) + d) (live_from p (parent_of p.tree.nodes i) (i + 1)))) ms
      (carried_by 0 d h)
  raised_solved odd h h_in =
      let v = parent_of p.tree.nodes i in
      let is = opens.solved odd h h_in in
      record {
        pair = subst (λ (a : Priced). IsOpenSolutionOf p odd (fork_of v (own_from p v (i + 1) + d) (live_from p v (i + 1))) (cells_of ms h.sol.0) a.pair)
            (sym (loaded_is d h.offer))
            (solution_raised p v odd (own_from p v (i + 1)) d (live_from p v (i + 1)) (cells_of ms h.sol.0) (priced h.offer).pair is.pair);
        cost = is.cost;
      }

  pub dead_live : IsOpenAt p cap i (parent_of p.tree.nodes i) ms (λ odd. map (carried_by 0 d) (classes odd))
  dead_live =
      let v = parent_of p.tree.nodes i in
      record {
        end = subst (HasEnd p v) (sym (dead_here p v i (is_child_of p i some i_n) dead)) opens.end;
        part = λ odd. raised_fork (λ fork. IsPricedPart cap (In (map (carried_by 0 d) (classes odd))) (IsPricedOpenWith p (IsPricedAt p) odd fork))
            (part_trans cap (In (map (carried_by 0 d) (classes odd))) (PricedRaises d (In (classes odd)))
            (IsPricedOpenWith p (IsPricedAt p) odd (fork_of v (own_from p v (i + 1) + d) (live_from p v (i + 1)))) (loaded_part cap d (classes odd))
            (priced_raises p cap (IsPricedAt p) v odd (own_from p v (i + 1)) d (live_from p v (i + 1)) (In (classes odd)) (opens.part odd)));
        solved = λ odd. raised_fork (λ fork. AreSolved p (IsOpenSolutionOf p odd fork) ms (map (carried_by 0 d) (classes odd))) (λ x found.
            let (h, h_in, x_is) = of_map (carried_by 0 d) (classes odd) x found in
            subst (IsSolved p (IsOpenSolutionOf p odd (fork_of v (own_from p v (i + 1) + d) (live_from p v (i + 1)))) ms) (sym x_is)
            (raised_solved odd h h_in));
      }

-- LIVE ON DEAD
module _ (p : Problem) (cap : Option ℕ) (i c : ℕ) (some : 0 < i) (i_n : i < length p.tree.nodes) (live : is_live p.tree.nodes p.sinks i ≡ true)
    (part : IsDeadPart p (i + 1) (parent_of p.tree.nodes i) c) (ms : List Made) (classes : Bool → List Candidate)
    (closed : IsClosedAt p cap i ms classes) where
  abbrev above : List Candidate → List Candidate
  above xs = map (carried_by (resistance p.tree.nodes i) c) xs

  lives : live_from p (parent_of p.tree.nodes i) i ≡ i ∷ []
  lives = live_here p (parent_of p.tree.nodes i) i (is_child_of p i some i_n) live ∙ ap (λ (us : List ℕ). i ∷ us) part.no_child

  first_fork : (F : Fork → Type 0) → F (fork_of (parent_of p.tree.nodes i) c (i ∷ [])) → F (fork_from p (parent_of p.tree.nodes i) i)
  first_fork F is =
      let v = parent_of p.tree.nodes i in
      let own_is : own_from p v i ≡ c = live_own p v i (is_child_of p i some i_n) live ∙ sym part.load in
      subst (λ (us : List ℕ). F (fork_of v (own_from p v i) us)) (sym lives) (subst (λ (own : ℕ). F (fork_of v own (i ∷ []))) (sym own_is) is)

  first_solved : (odd : Bool) (h : Candidate) → Contains (classes odd) h
      → IsSolved p (IsOpenSolutionOf p odd (fork_of (parent_of p.tree.nodes i) c (i ∷ []))) ms (carried_by (resistance p.tree.nodes i) c h)
  first_solved odd h h_in =
      let is = closed.solved odd h h_in in
      record {
        pair = solution_first p (parent_of p.tree.nodes i) odd c i (cells_of ms h.sol.0) (priced h.offer).pair part.no_sink is.pair;
        cost = is.cost;
      }

  pub live_dead : IsOpenAt p cap i (parent_of p.tree.nodes i) ms (λ odd. above (classes odd))
  live_dead =
      let v = parent_of p.tree.nodes i in
      record {
        end = inl (i, subst (λ (us : List ℕ). Contains us i) (sym lives) (0, omega arith, refl));
        part = λ odd. first_fork (λ fork. IsPricedPart cap (In (above (classes odd))) (IsPricedOpenWith p (IsPricedAt p) odd fork))
            (part_trans cap (In (above (classes odd))) (PricedFirst p c i (In (classes odd))) (IsPricedOpenWith p (IsPricedAt p) odd (fork_of v c (i ∷ [])))
            (carried_part p cap i c (classes odd)) (priced_first p cap (IsPricedAt p) v odd c i (In (classes odd)) part.no_sink (closed.part odd)));
        solved = λ odd. first_fork (λ fork. AreSolved p (IsOpenSolutionOf p odd fork) ms (above (classes odd))) (λ x found.
            let (h, h_in, x_is) = of_map (carried_by (resistance p.tree.nodes i) c) (classes odd) x found in
            subst (IsSolved p (IsOpenSolutionOf p odd (fork_of v c (i ∷ []))) ms) (sym x_is) (first_solved odd h h_in));
      }

-- what holds where an error is answered
pub err_answers : {A E : Type 0} (r : Result A E) (P : A → Type 0) (Q : Type 0) → IsErr r → Q → MatchResult r P (λ _. Q)
err_answers (Ok x) P Q is q = absurd (cc)
err_answers (Err e) P Q is q = q
