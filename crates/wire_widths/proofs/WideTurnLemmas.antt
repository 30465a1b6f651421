-- The turns of the loop with widths: those of the problem without resistances, over the pairs above the wires.
use Rattle.std.proofs.Common.{◌≡◌, ℕ, ◌+◌, ◌<◌, length, ◌*◌, Bool, false, Option, ◌≤ℤ◌, List, refl, sym, ap, ◌∙◌, subst, arith, get_or}
use Rattle.std.proofs.lemmas.Int.{ints}
use Rattle.std.proofs.lemmas.List.Elements.{All-contains, Contains-get_or}
use Rattle.std.specs.List.{Contains}
use Rattle.elmore.specs.Trees.{resistance}
use Rattle.elmore.specs.Pairs.{Dominates, IsUndominated}
use Rattle.std.proofs.Math.Nat.{mul-le-mul_left}
use Rattle.elmore.specs.declared.pair.Pair.{Pair}
use Rattle.elmore.specs.declared.problem.Problem.{Problem}
use Rattle.cand_pairs.specs.Candidates.{IsStep, IsLive, root_value, wired, PairSets, Drives, DrivesNone, IsBoundedBy}
use Rattle.cand_pairs.specs.Merging.{Carries, Meets, Raises, Owns}
use Rattle.cand_pairs.specs.Parts.{AreCarried, IsLivePart, IsDeadPart}
use Rattle.cand_pairs.proofs.ChildLemmas.{IsChild}
use Rattle.cand_pairs.proofs.PairPartLemmas.{one_pair}
use Rattle.cand_pairs.proofs.TurnLemmas.{live_on_live, live_on_dead, part_steps, part_open, bare_steps}
use Rattle.cand_pairs.proofs.StepLemmas.{over_trans, over_self, within_less}
use Rattle.wire_widths.specs.Widths.{AreWidths, IsWideGood, IsWideBest}
use Rattle.wire_widths.specs.declared.width.Width.{Width}
use Rattle.wire_widths.specs.WidePairs.{IsWidePairOf, IsWidePairAt, IsWideCover, WideWires, Above, carried_by}
use Rattle.wire_widths.proofs.WideCoverLemmas.{carried_over, wide_best, wide_none}
use Rattle.wire_widths.proofs.WideSpliceLemmas.{wide_steps, step_wide}
use Rattle.wire_widths.proofs.StillLemmas.{still, still_nodes, still_length, still_tree, still_child, still_is_live, still_resistance, steps_still}

-- THE CELLS' TURN: what is undominated for the steps of the problem without resistances is so for the pairs with widths
pub kept_wide : (p : Problem) (widths : List Width) (v : ℕ) (odd : Bool) (kept : List Pair) → AreWidths widths
    → IsUndominated (IsStep (still p) (Above p widths (IsWidePairAt p widths)) v odd) kept → IsUndominated (IsWidePairAt p widths v odd) kept
kept_wide p widths v odd kept are u = record {
  rising = u.rising;
  taken = λ k d k_n.
      step_wide p widths v odd (get_or kept k d) are ((steps_still p widths (IsWidePairAt p widths) v odd (get_or kept k d)).1 (u.taken k d k_n));
  covers = λ y y_in.
      u.covers y ((steps_still p widths (IsWidePairAt p widths) v odd y).0 (wide_steps p widths v odd y are y_in));
}

-- THE WIRE'S TURN: undominated pairs, through all rows, are enough for the pairs above the wire
pub above_exact : (p : Problem) (widths : List Width) (In : PairSets) (u : ℕ) (odd : Bool) (kept above : List Pair)
    → IsUndominated (In u odd) kept → IsUndominated (WideWires p widths u kept) above → IsUndominated (Above p widths In u odd) above
above_exact p widths In u odd kept above kept_are above_are = record {
  rising = above_are.rising;
  taken = λ k d k_n.
      let (i, y, i_n, y_in, e) = above_are.taken k d k_n in
      (i, y, i_n, All-contains (In u odd) kept y kept_are.taken y_in, e);
  covers = λ z (i, x, i_n, x_in, e).
      let (y, y_in, y_x) = kept_are.covers x x_in in
      let (w, w_in, w_y) = above_are.covers (carried_by p widths u i y) (i, y, i_n, y_in, refl) in
      (w, w_in, over_trans z (carried_by p widths u i y) w (subst (Dominates (carried_by p widths u i y)) (sym e) (carried_over p widths u i x y y_x)) w_y);
}

-- and the wire without resistance leaves them as they are
pub still_carries : (p : Problem) (u : ℕ) (In : Pair → Type 0) (above : List Pair) → IsUndominated In above → IsUndominated (Carries (still p) u above) above
unfolding still
still_carries p u In above are = record {
  rising = are.rising;
  taken = λ k d k_n. (get_or above k d, Contains-get_or above k d k_n, sym (as_it_is (get_or above k d)));
  covers = λ z (y, y_in, e). (y, y_in, subst (Dominates y) (sym (as_it_is y) ∙ sym e) (over_self y));
}
  where
    as_it_is : (y : Pair) → wired (resistance (still_nodes p.tree.nodes) u) y ≡ y
    as_it_is y = one_pair (wired (resistance (still_nodes p.tree.nodes) u) y) y (omega (arith, ints, ap (λ k. k * y.c) (still_resistance p.tree.nodes u))) refl

pub are_carried : (p : Problem) (widths : List Width) (u : ℕ) (kept above : Bool → List Pair)
    → ((odd : Bool) → IsUndominated (IsWidePairAt p widths u odd) (kept odd)) → ((odd : Bool) → IsUndominated (WideWires p widths u (kept odd)) (above odd))
    → AreCarried (still p) (Above p widths (IsWidePairAt p widths)) u above above
are_carried p widths u kept above kept_are above_are = record {
  at_node = λ odd. above_exact p widths (IsWidePairAt p widths) u odd (kept odd) (above odd) (kept_are odd) (above_are odd);
  at_parent = λ odd. still_carries p u (WideWires p widths u (kept odd)) (above odd) (above_are odd);
}

-- THE LOOP: a live node comes in, and its lists, through its wire under each row, meet those of its parent
pub wide_on_live : (p : Problem) (widths : List Width) (v i : ℕ) (parts kept above made : Bool → List Pair) → IsChild p.tree.nodes v i → IsLive p i
    → IsLivePart (still p) (Above p widths (IsWidePairAt p widths)) (i + 1) v parts
    → ((odd : Bool) → IsUndominated (IsWidePairAt p widths i odd) (kept odd)) → ((odd : Bool) → IsUndominated (WideWires p widths i (kept odd)) (above odd))
    → ((odd : Bool) → IsUndominated (Meets (parts odd) (above odd)) (made odd))
    → IsLivePart (still p) (Above p widths (IsWidePairAt p widths)) i v made
wide_on_live p widths v i parts kept above made child live part kept_are above_are made_are =
    live_on_live (still p) (Above p widths (IsWidePairAt p widths)) v i parts above above made (still_child p v i child) (still_is_live p i ∙ live) part
    (are_carried p widths i kept above kept_are above_are) made_are

-- and begin them where it had none
pub wide_on_dead : (p : Problem) (widths : List Width) (v i c : ℕ) (kept above made : Bool → List Pair) → IsChild p.tree.nodes v i → IsLive p i
    → IsDeadPart (still p) (i + 1) v c
    → ((odd : Bool) → IsUndominated (IsWidePairAt p widths i odd) (kept odd)) → ((odd : Bool) → IsUndominated (WideWires p widths i (kept odd)) (above odd))
    → ((odd : Bool) → IsUndominated (Raises c (above odd)) (made odd))
    → IsLivePart (still p) (Above p widths (IsWidePairAt p widths)) i v made
wide_on_dead p widths v i c kept above made child live part kept_are above_are made_are =
    live_on_dead (still p) (Above p widths (IsWidePairAt p widths)) v i c above above made (still_child p v i child) (still_is_live p i ∙ live) part
    (are_carried p widths i kept above kept_are above_are) made_are

-- what the cells make of a node's lists is exact for the pairs with widths
pub wide_kept : (p : Problem) (widths : List Width) (i : ℕ) (parts kept : Bool → List Pair) → AreWidths widths → i < length p.tree.nodes
    → IsLivePart (still p) (Above p widths (IsWidePairAt p widths)) (i + 1) i parts
    → ((odd : Bool) → IsUndominated (Owns p i odd parts) (kept odd)) → (odd : Bool) → IsUndominated (IsWidePairAt p widths i odd) (kept odd)
unfolding still
wide_kept p widths i parts kept are i_n part kept_are odd =
    kept_wide p widths i odd (kept odd) are
    (part_steps (still p) (Above p widths (IsWidePairAt p widths)) i parts kept (omega (arith, i_n, still_length p.tree.nodes)) part kept_are odd)

-- and at the root, which has no cell, the lists are so as they stand
pub wide_root : (p : Problem) (widths : List Width) (parts : Bool → List Pair) → AreWidths widths
    → IsLivePart (still p) (Above p widths (IsWidePairAt p widths)) 1 0 parts → (odd : Bool) → IsUndominated (IsWidePairAt p widths 0 odd) (parts odd)
unfolding still
wide_root p widths parts are part odd =
    kept_wide p widths 0 odd (parts odd) are
    (bare_steps (still p) (Above p widths (IsWidePairAt p widths)) 0 odd (parts odd) p.places_are.root
    (part_open (still p) (Above p widths (IsWidePairAt p widths)) 0 parts (still_tree p.tree.nodes p.tree.a_tree).some_node part odd))

-- THE ROOT: all pairs are a cover of their own, so an exact list decides
all_cover : (p : Problem) (widths : List Width) → AreWidths widths → IsWideCover p widths (IsWidePairAt p widths)
all_cover p widths are v live odd x step = (x, step_wide p widths v odd x are step, over_self x)

worth_more : (p : Problem) (x y : Pair) → Dominates y x → root_value p x ≤ℤ root_value p y
worth_more p x y over = omega (arith, ints, over.time, mul-le-mul_left p.driver.r over.room)

pub wide_root_exact : (p : Problem) (widths : List Width) (xs : List Pair) (cells : List (Option ℕ)) (rows : List ℕ) (x : Pair) → AreWidths widths
    → IsUndominated (IsWidePairAt p widths 0 false) xs → IsWidePairOf p widths 0 false cells rows x → Drives p x
    → IsBoundedBy p (Contains xs) (root_value p x) → IsWideBest p widths cells rows (root_value p x)
wide_root_exact p widths xs cells rows x are exact is drives most =
    wide_best p widths (IsWidePairAt p widths) cells rows x are (all_cover p widths are) is drives
    (λ y y_in drive.
    let (z, z_in, z_y) = exact.covers y y_in in
    omega (arith, ints, worth_more p y z z_y, most z z_in (within_less p.driver.limit z.c y.c z_y.room drive)))

pub wide_root_none : (p : Problem) (widths : List Width) (xs : List Pair) → AreWidths widths → IsUndominated (IsWidePairAt p widths 0 false) xs
    → DrivesNone p (Contains xs) → (cells : List (Option ℕ)) (rows : List ℕ) → IsWideGood p widths cells rows → ⊥
wide_root_none p widths xs are exact empty =
    wide_none p widths (IsWidePairAt p widths) are (all_cover p widths are) (λ x x_in drive.
    let (y, y_in, over) = exact.covers x x_in in
    empty y y_in (within_less p.driver.limit y.c x.c over.room drive))
