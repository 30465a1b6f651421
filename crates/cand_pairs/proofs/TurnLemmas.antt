-- The turns of the loop from the last node to the root.
use Rattle.std.proofs.Common.{◌≡◌, ◌⊎◌, ℕ, zero, suc, ◌+◌, ◌<◌, Bool, true, false, not, cond, List, [], ◌∷◌, length, get_or, refl, sym, ap, ◌∙◌, subst, arith, inl, inr, Option, Some, None, slice_index_or}
use Rattle.std.proofs.lemmas.Bool.{false_from_ne_true, true≢false, false≢true}
use Rattle.std.specs.Bool.{beq}
use Rattle.std.specs.List.{Contains, filter, sum_by}
use Rattle.elmore.specs.Best.{IsGood}
use Rattle.elmore.specs.Cells.{rep_of}
use Rattle.elmore.specs.Laws.{children_of}
use Rattle.elmore.specs.Legal.{MayHave}
use Rattle.elmore.specs.Pairs.{Dominates, IsPairAt, IsUndominated}
use Rattle.elmore.specs.Placements.{IsSinkAt}
use Rattle.elmore.specs.Problems.{sink_of, is_live}
use Rattle.elmore.specs.Trees.{parent_of, capacitance}
use Rattle.elmore.specs.Wire.{downstream_in}
use Rattle.cand_pairs.specs.Candidates.{own_capacitance, IsOpen, IsOpenWith, IsStep, with_cell, past_cell, PairSets, fork_of, IsLive, DrivesNone}
use Rattle.cand_pairs.specs.Merging.{HasEnd, Meets, Raises, Owns, live_from, own_from}
use Rattle.cand_pairs.specs.Parts.{IsLivePart, IsDeadPart, AreCarried}
use Rattle.elmore.specs.declared.parts.Sink.{Sink}
use Rattle.elmore.specs.declared.pair.Pair.{Pair}
use Rattle.elmore.specs.declared.problem.Problem.{Problem}
use Rattle.elmore.proofs.TreeLemmas.{tree_of}
use Rattle.elmore.proofs.WireLemmas.{downstream_children}
use Rattle.cand_pairs.proofs.ChildLemmas.{IsChild}
use Rattle.cand_pairs.proofs.ChoiceLemmas.{sum_of_parts}
use Rattle.cand_pairs.proofs.StepLemmas.{over_self, within_less}
use Rattle.cand_pairs.proofs.CoverLemmas.{pair_steps, root_pairs}
use Rattle.cand_pairs.proofs.SpliceLemmas.{step_pair}
use Rattle.cand_pairs.proofs.FromLemmas.{live_here, live_own, dead_here, dead_own, other_live, other_own, not_yet, children_none, live_all, own_all, live_end, end_live}
use Rattle.cand_pairs.proofs.MergeLemmas.{dense_exact, meets_dense, first_dense, raises_dense, owns_dense, sink_alone, sink_parts}

-- THE START
pub start_live : (p : Problem) (v : ℕ) → live_from p v (length p.tree.nodes) ≡ []
start_live p v = ap (filter (λ u. is_live p.tree.nodes p.sinks u)) (children_none p v)

pub start_own : (p : Problem) (v : ℕ) → own_from p v (length p.tree.nodes) ≡ capacitance p.tree.nodes v
start_own p v =
    omega (
      arith,
      ap (λ (us : List ℕ). sum_by (downstream_in p.tree.nodes) (filter (λ u. not (is_live p.tree.nodes p.sinks u)) us)) (children_none p v),
    )

pub start_dead : (p : Problem) (v : ℕ) → sink_of p.sinks v ≡ None → IsDeadPart p (length p.tree.nodes) v (capacitance p.tree.nodes v)
start_dead p v none = record { no_sink = none; no_child = start_live p v; load = sym (start_own p v) }

-- one pair in the class that the sink wants, none in the other
abbrev pub sink_lists : Sink → ℕ → Bool → List Pair
sink_lists sink c odd = cond (beq odd sink.inverted) (record { q = sink.required; c = c } ∷ []) []

pub start_live_part : (p : Problem) (In : PairSets) (v : ℕ) (sink : Sink) → IsSinkAt p v sink
    → IsLivePart p In (length p.tree.nodes) v (sink_lists sink (capacitance p.tree.nodes v))
start_live_part p In v sink here = record {
  end = inr (sink, here);
  exact = λ odd.
      subst (λ (us : List ℕ). IsUndominated (IsOpenWith p In odd (fork_of v (own_from p v (length p.tree.nodes)) us)) (sink_lists sink (capacitance p.tree.nodes v) odd)) (sym (start_live p v))
      (subst (λ (own : ℕ). IsUndominated (IsOpenWith p In odd (fork_of v own [])) (sink_lists sink (capacitance p.tree.nodes v) odd)) (sym (start_own p v))
      (only odd (cases_same odd sink.inverted)));
}
  where
    cases_same : (a b : Bool) → ((a ≡ b) × (beq a b ≡ true)) ⊎ ((a ≡ b → ⊥) × (beq a b ≡ false))
    cases_same true true = inl (refl, refl)
    cases_same true false = inr (true≢false, refl)
    cases_same false true = inr (false≢true, refl)
    cases_same false false = inl (refl, refl)

    x : Pair
    x = record { q = sink.required; c = capacitance p.tree.nodes v }

    one_taken : (odd : Bool) → odd ≡ sink.inverted → (k : ℕ) (d : Pair) → k < 1 → IsOpenWith p In odd (fork_of v (capacitance p.tree.nodes v) []) (get_or (x ∷ []) k d)
    one_taken odd same zero d k_n =
        subst (λ (o : Bool). IsOpenWith p In o (fork_of v (capacitance p.tree.nodes v) []) x) (sym same) (sink_alone p In v (capacitance p.tree.nodes v) sink here)
    one_taken odd same (suc k) d k_n = absurd (omega arith)

    only : (odd : Bool) → ((odd ≡ sink.inverted) × (beq odd sink.inverted ≡ true)) ⊎ ((odd ≡ sink.inverted → ⊥) × (beq odd sink.inverted ≡ false))
        → IsUndominated (IsOpenWith p In odd (fork_of v (capacitance p.tree.nodes v) [])) (sink_lists sink (capacitance p.tree.nodes v) odd)
    only odd (inl (same, is)) =
        subst (λ (b : Bool). IsUndominated (IsOpenWith p In odd (fork_of v (capacitance p.tree.nodes v) [])) (cond b (x ∷ []) [])) (sym is) (record {
          rising = λ i j d i_j j_n. absurd (omega arith);
          taken = λ k d k_n. one_taken odd same k d k_n;
          covers = λ y y_in.
              let (wanted, y_is) = sink_parts p In v odd (capacitance p.tree.nodes v) sink y here y_in in
              (x, (0, omega arith, refl), subst (Dominates x) (sym y_is) (over_self x));
        })
    only odd (inr (other, is)) =
        subst (λ (b : Bool). IsUndominated (IsOpenWith p In odd (fork_of v (capacitance p.tree.nodes v) [])) (cond b (x ∷ []) [])) (sym is) (record {
          rising = λ i j d i_j j_n. absurd (omega arith);
          taken = λ k d k_n. absurd (omega arith);
          covers = λ y y_in. absurd (other (sink_parts p In v odd (capacitance p.tree.nodes v) sink y here y_in).0);
        })

-- A LIVE NODE COMES IN: its lists meet those of its parent
pub live_on_live : (p : Problem) (In : PairSets) (v i : ℕ) (parts kept above made : Bool → List Pair) → IsChild p.tree.nodes v i
    → IsLive p i → IsLivePart p In (i + 1) v parts → AreCarried p In i kept above
    → ((odd : Bool) → IsUndominated (Meets (parts odd) (above odd)) (made odd)) → IsLivePart p In i v made
live_on_live p In v i parts kept above made child live part are made_are = record {
  end = inl (i, subst (λ (us : List ℕ). Contains us i) (sym (live_here p v i child live)) (0, omega arith, refl));
  exact = λ odd.
      subst (λ (us : List ℕ). IsUndominated (IsOpenWith p In odd (fork_of v (own_from p v i) us)) (made odd)) (sym (live_here p v i child live))
      (subst (λ (own : ℕ). IsUndominated (IsOpenWith p In odd (fork_of v own (i ∷ live_from p v (i + 1)))) (made odd)) (sym (live_own p v i child live))
      (dense_exact (Meets (parts odd) (above odd)) (IsOpenWith p In odd (fork_of v (own_from p v (i + 1)) (i ∷ live_from p v (i + 1)))) (made odd)
      (meets_dense p In v odd (own_from p v (i + 1)) (live_from p v (i + 1)) i (parts odd) (kept odd) (above odd)
      (not_yet p v i) part.end (part.exact odd) (are.at_node odd) (are.at_parent odd)) (made_are odd)));
}

-- and begin them where it had none
pub live_on_dead : (p : Problem) (In : PairSets) (v i c : ℕ) (kept above made : Bool → List Pair) → IsChild p.tree.nodes v i
    → IsLive p i → IsDeadPart p (i + 1) v c → AreCarried p In i kept above
    → ((odd : Bool) → IsUndominated (Raises c (above odd)) (made odd)) → IsLivePart p In i v made
live_on_dead p In v i c kept above made child live part are made_are = record {
  end = inl (i, subst (λ (us : List ℕ). Contains us i) (sym lives) (0, omega arith, refl));
  exact = λ odd.
      subst (λ (us : List ℕ). IsUndominated (IsOpenWith p In odd (fork_of v (own_from p v i) us)) (made odd)) (sym lives)
      (subst (λ (own : ℕ). IsUndominated (IsOpenWith p In odd (fork_of v own (i ∷ []))) (made odd)) (part.load ∙ sym (live_own p v i child live))
      (dense_exact (Raises c (above odd)) (IsOpenWith p In odd (fork_of v c (i ∷ []))) (made odd)
      (first_dense p In v odd c i (kept odd) (above odd) part.no_sink (are.at_node odd) (are.at_parent odd)) (made_are odd)));
}
  where
    lives : live_from p v i ≡ i ∷ []
    lives = live_here p v i child live ∙ ap (λ (us : List ℕ). i ∷ us) part.no_child

-- A DEAD NODE COMES IN: its load is added
pub dead_on_live : (p : Problem) (In : PairSets) (v i d : ℕ) (parts made : Bool → List Pair) → IsChild p.tree.nodes v i
    → is_live p.tree.nodes p.sinks i ≡ false → IsLivePart p In (i + 1) v parts → d ≡ downstream_in p.tree.nodes i
    → ((odd : Bool) → IsUndominated (Raises d (parts odd)) (made odd)) → IsLivePart p In i v made
dead_on_live p In v i d parts made child dead part d_is made_are = record {
  end = subst (HasEnd p v) (sym (dead_here p v i child dead)) part.end;
  exact = λ odd.
      subst (λ (us : List ℕ). IsUndominated (IsOpenWith p In odd (fork_of v (own_from p v i) us)) (made odd)) (sym (dead_here p v i child dead))
      (subst (λ (own : ℕ). IsUndominated (IsOpenWith p In odd (fork_of v own (live_from p v (i + 1)))) (made odd))
      (ap (λ (k : ℕ). own_from p v (i + 1) + k) d_is ∙ sym (dead_own p v i child dead))
      (dense_exact (Raises d (parts odd)) (IsOpenWith p In odd (fork_of v (own_from p v (i + 1) + d) (live_from p v (i + 1)))) (made odd)
      (raises_dense p In v odd (own_from p v (i + 1)) d (live_from p v (i + 1)) (parts odd) (part.exact odd)) (made_are odd)));
}

pub dead_on_dead : (p : Problem) (v i c d : ℕ) → IsChild p.tree.nodes v i → is_live p.tree.nodes p.sinks i ≡ false
    → IsDeadPart p (i + 1) v c → d ≡ downstream_in p.tree.nodes i → IsDeadPart p i v (c + d)
dead_on_dead p v i c d child dead part d_is = record {
  no_sink = part.no_sink;
  no_child = dead_here p v i child dead ∙ part.no_child;
  load = omega (arith, part.load, d_is, dead_own p v i child dead);
}

-- THE OTHER NODES stay as they are
pub live_stays : (p : Problem) (In : PairSets) (v i : ℕ) (parts : Bool → List Pair) → i < length p.tree.nodes
    → (IsChild p.tree.nodes v i → ⊥) → IsLivePart p In (i + 1) v parts → IsLivePart p In i v parts
live_stays p In v i parts i_n no_child part = record {
  end = subst (HasEnd p v) (sym (other_live p v i i_n no_child)) part.end;
  exact = λ odd.
      subst (λ (us : List ℕ). IsUndominated (IsOpenWith p In odd (fork_of v (own_from p v i) us)) (parts odd)) (sym (other_live p v i i_n no_child))
      (subst (λ (own : ℕ). IsUndominated (IsOpenWith p In odd (fork_of v own (live_from p v (i + 1)))) (parts odd)) (sym (other_own p v i i_n no_child)) (part.exact odd));
}

pub dead_stays : (p : Problem) (v i c : ℕ) → i < length p.tree.nodes → (IsChild p.tree.nodes v i → ⊥) → IsDeadPart p (i + 1) v c → IsDeadPart p i v c
dead_stays p v i c i_n no_child part = record {
  no_sink = part.no_sink;
  no_child = other_live p v i i_n no_child ∙ part.no_child;
  load = part.load ∙ sym (other_own p v i i_n no_child);
}

-- A NODE THAT COMES IN has all its children
pub part_is_live : (p : Problem) (In : PairSets) (i : ℕ) (parts : Bool → List Pair) → i < length p.tree.nodes
    → IsLivePart p In (i + 1) i parts → is_live p.tree.nodes p.sinks i ≡ true
part_is_live p In i parts i_n part = end_live p i (subst (HasEnd p i) (live_all p i i_n) part.end)

pub part_is_dead : (p : Problem) (i c : ℕ) → i < length p.tree.nodes → IsDeadPart p (i + 1) i c → is_live p.tree.nodes p.sinks i ≡ false
part_is_dead p i c i_n part = false_from_ne_true (is_live p.tree.nodes p.sinks i) (λ live. elim (live_end p i live) [
  | inl (u, found) ↦
      let (k, k_n, e) = subst (λ (us : List ℕ). Contains us u) (sym (live_all p i i_n) ∙ part.no_child) found in
      absurd (omega arith)
  | inr (sink, here) ↦ absurd (let clash : None ≡ Some sink = sym part.no_sink ∙ here in cc)
])

pub part_load : (p : Problem) (i c : ℕ) → i < length p.tree.nodes → IsDeadPart p (i + 1) i c → c ≡ downstream_in p.tree.nodes i
part_load p i c i_n part =
    omega (
      arith,
      part.load,
      own_all p i i_n,
      downstream_children (parent_of p.tree.nodes) (length p.tree.nodes) (tree_of p.tree.nodes p.tree.a_tree) (capacitance p.tree.nodes) i i_n,
      sum_of_parts (downstream_in p.tree.nodes) (λ u. is_live p.tree.nodes p.sinks u) (children_of p.tree.nodes i),
      ap (sum_by (downstream_in p.tree.nodes)) (sym (live_all p i i_n) ∙ part.no_child),
    )

pub part_open : (p : Problem) (In : PairSets) (i : ℕ) (parts : Bool → List Pair) → i < length p.tree.nodes
    → IsLivePart p In (i + 1) i parts → (odd : Bool) → IsUndominated (IsOpen p In i odd) (parts odd)
part_open p In i parts i_n part odd =
    subst (λ (us : List ℕ). IsUndominated (IsOpenWith p In odd (fork_of i (own_capacitance p i) us)) (parts odd)) (live_all p i i_n)
    (subst (λ (own : ℕ). IsUndominated (IsOpenWith p In odd (fork_of i own (live_from p i (i + 1)))) (parts odd)) (own_all p i i_n) (part.exact odd))

pub part_steps : (p : Problem) (In : PairSets) (i : ℕ) (parts kept : Bool → List Pair) → i < length p.tree.nodes
    → IsLivePart p In (i + 1) i parts → ((odd : Bool) → IsUndominated (Owns p i odd parts) (kept odd))
    → (odd : Bool) → IsUndominated (IsStep p In i odd) (kept odd)
part_steps p In i parts kept i_n part kept_are odd =
    dense_exact (Owns p i odd parts) (IsStep p In i odd) (kept odd) (owns_dense p In i odd parts (part_open p In i parts i_n part)) (kept_are odd)

-- of the pairs of placements, all that come in are the pairs of placements
pub kept_exact : (p : Problem) (i : ℕ) (odd : Bool) (kept : List Pair) → IsUndominated (IsStep p (IsPairAt p) i odd) kept → IsUndominated (IsPairAt p i odd) kept
kept_exact p i odd kept are = record {
  rising = are.rising;
  taken = λ k d k_n. step_pair p i odd _ (are.taken k d k_n);
  covers = λ x x_in. are.covers x (pair_steps p i odd x x_in);
}

-- a node that is no place has no cell
pub bare_steps : (p : Problem) (In : PairSets) (v : ℕ) (odd : Bool) (xs : List Pair) → slice_index_or p.places v false ≡ false
    → IsUndominated (IsOpen p In v odd) xs → IsUndominated (IsStep p In v odd) xs
bare_steps p In v odd xs no_place are = record {
  rising = are.rising;
  taken = λ k d k_n. (None, get_or xs k d, (λ b e. absurd (cc)), are.taken k d k_n, refl);
  covers = λ x (own, y, may, y_in, x_is). bare own y may y_in x_is;
}
  where
    bare : {x : Pair} (own : Option ℕ) (y : Pair) → MayHave p v own y.c → IsOpen p In v (past_cell (rep_of p.reps own) odd) y → x ≡ with_cell (rep_of p.reps own) y
        → (z : Pair) × Contains xs z × Dominates z x
    bare None y may y_in x_is = let (z, z_in, z_y) = are.covers y y_in in (z, z_in, subst (Dominates z) (sym x_is) z_y)
    bare (Some b) y may y_in x_is = absurd (false≢true (sym no_place ∙ (may b refl).at_place))

-- THE END: at the root what is open is exact
pub root_exact : (p : Problem) (parts : Bool → List Pair) → IsLivePart p (IsPairAt p) 1 0 parts → (odd : Bool) → IsUndominated (IsPairAt p 0 odd) (parts odd)
root_exact p parts part odd =
    kept_exact p 0 odd (parts odd)
    (bare_steps p (IsPairAt p) 0 odd (parts odd) p.places_are.root (part_open p (IsPairAt p) 0 parts p.tree.a_tree.some_node part odd))

-- and where its even list is empty no placement is good
pub root_none : (p : Problem) (xs : List Pair) → IsUndominated (IsPairAt p 0 false) xs → DrivesNone p (Contains xs)
    → (cells : List (Option ℕ)) → IsGood p cells → ⊥
root_none p xs are empty cells good =
    let (x, is, drives) = (root_pairs p cells).pair good in
    let (y, y_in, y_x) = are.covers x (cells, is) in
    empty y y_in (within_less p.driver.limit y.c x.c y_x.room drives)
