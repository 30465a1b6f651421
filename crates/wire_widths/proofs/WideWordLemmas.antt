-- The turns of the loop, in the words of parts with widths: what is known of a node as the nodes come in, each to its parent.
-- A part with widths is one of the problem without resistances, over the pairs above the wires; no caller needs to know.
use Rattle.std.proofs.Common.{◌≡◌, ◌-◌, ℕ, ◌+◌, ◌<◌, Bool, true, false, not, List, length, get_or, slice_index_or, sym, ◌∙◌, subst, arith}
use Rattle.std.specs.List.{filter, sum_by, range_with_len}
use Rattle.elmore.specs.Pairs.{IsUndominated}
use Rattle.elmore.specs.Path.{is_child}
use Rattle.elmore.specs.Placements.{IsSinkAt}
use Rattle.elmore.specs.Problems.{is_live}
use Rattle.elmore.specs.Trees.{capacitance}
use Rattle.elmore.specs.Wire.{downstream, downstream_in}
use Rattle.elmore.specs.declared.parts.Sink.{Sink}
use Rattle.elmore.specs.declared.pair.Pair.{Pair}
use Rattle.elmore.specs.declared.problem.Problem.{Problem}
use Rattle.cand_pairs.specs.Candidates.{IsLive, IsOpen, IsOpenWith, PairSets, Fork, fork_of}
use Rattle.cand_pairs.specs.Merging.{HasEnd, Meets, Raises, Owns, live_from, own_from, fork_from}
use Rattle.cand_pairs.specs.Parts.{IsLivePart, IsDeadPart}
use Rattle.cand_pairs.proofs.ChildLemmas.{IsChild}
use Rattle.cand_pairs.proofs.TurnLemmas.{sink_lists, start_live_part, dead_on_live, live_stays, part_is_live, part_open, bare_steps}
use Rattle.wire_widths.specs.Widths.{AreWidths}
use Rattle.wire_widths.specs.WidePairs.{IsWidePairAt, IsWideOpen, WideWires, Above, carried_by}
use Rattle.wire_widths.specs.WideParts.{IsWideOpenWith, IsWideOpenFrom, IsWideLivePart}
use Rattle.wire_widths.specs.declared.width.Width.{Width}
use Rattle.wire_widths.proofs.StillLemmas.{still, still_length, still_capacitance, still_capacitances, still_parents, still_live, still_child, child_still, still_is_live, still_downstream, open_to_still, open_from_still, opens_still}
use Rattle.wire_widths.proofs.WideTurnLemmas.{kept_wide, wide_on_live, wide_on_dead, wide_kept}

-- THE WORDS: children that came in, and what they make, are those of the problem
pub still_live_from : (p : Problem) (v i : ℕ) → live_from (still p) v i ≡ live_from p v i
unfolding still
still_live_from p v i = λ k.
    filter (λ u. still_live p.tree.nodes p.sinks k u) (filter (is_child (still_parents p.tree.nodes k) v) (range_with_len i (still_length p.tree.nodes k - i)))

pub still_own_from : (p : Problem) (v i : ℕ) → own_from (still p) v i ≡ own_from p v i
unfolding still
still_own_from p v i = λ k.
    still_capacitance p.tree.nodes v k
    + sum_by (λ u. downstream (still_parents p.tree.nodes k) (still_capacitances p.tree.nodes k) (still_length p.tree.nodes k) u)
    (filter (λ u. not (still_live p.tree.nodes p.sinks k u)) (filter (is_child (still_parents p.tree.nodes k) v) (range_with_len i (still_length p.tree.nodes k - i))))

pub still_fork_from : (p : Problem) (v i : ℕ) → fork_from (still p) v i ≡ fork_from p v i
still_fork_from p v i = λ k. fork_of v (still_own_from p v i k) (still_live_from p v i k)

-- what one fork makes of pairs and widths is what it makes of the pairs above the wires
pub opens_with : (p : Problem) (widths : List Width) (In : PairSets) (odd : Bool) (fork : Fork) (x : Pair)
    → IsWideOpenWith p widths In odd fork x → IsOpenWith (still p) (Above p widths In) odd fork x
opens_with p widths In odd fork x (pick, row, is) = (
  (λ u. carried_by p widths u (row u) (pick u)),
  open_to_still p widths In odd fork pick row x is,
)

pub with_opens : (p : Problem) (widths : List Width) (In : PairSets) (odd : Bool) (fork : Fork) (x : Pair)
    → IsOpenWith (still p) (Above p widths In) odd fork x → IsWideOpenWith p widths In odd fork x
with_opens p widths In odd fork x (pick, is) = open_from_still p widths In odd fork pick x is

-- a list is undominated for two sets that hold the same pairs, or for none of them
pub undominated_alike : (S T : Pair → Type 0) (xs : List Pair) → ((x : Pair) → S x → T x) → ((x : Pair) → T x → S x)
    → IsUndominated S xs → IsUndominated T xs
undominated_alike S T xs to from are = record {
  rising = are.rising;
  taken = λ k d k_n. to (get_or xs k d) (are.taken k d k_n);
  covers = λ y y_in. are.covers y (from y y_in);
}

-- THE PARTS
pub wide_from_still : (p : Problem) (widths : List Width) (i v : ℕ) (lists : Bool → List Pair)
    → IsLivePart (still p) (Above p widths (IsWidePairAt p widths)) i v lists → IsWideLivePart p widths i v lists
unfolding still
wide_from_still p widths i v lists part = record {
  end = subst (HasEnd p v) (still_live_from p v i) part.end;
  exact = λ odd.
      undominated_alike
      (IsOpenWith (still p) (Above p widths (IsWidePairAt p widths)) odd (fork_from p v i))
      (IsWideOpenFrom p widths i v odd)
      (lists odd)
      (with_opens p widths (IsWidePairAt p widths) odd (fork_from p v i))
      (opens_with p widths (IsWidePairAt p widths) odd (fork_from p v i))
      (subst (λ (fork : Fork). IsUndominated (IsOpenWith (still p) (Above p widths (IsWidePairAt p widths)) odd fork) (lists odd)) (still_fork_from p v i) (part.exact odd));
}

pub still_from_wide : (p : Problem) (widths : List Width) (i v : ℕ) (lists : Bool → List Pair)
    → IsWideLivePart p widths i v lists → IsLivePart (still p) (Above p widths (IsWidePairAt p widths)) i v lists
unfolding still
still_from_wide p widths i v lists part = record {
  end = subst (HasEnd p v) (sym (still_live_from p v i)) part.end;
  exact = λ odd.
      subst (λ (fork : Fork). IsUndominated (IsOpenWith (still p) (Above p widths (IsWidePairAt p widths)) odd fork) (lists odd)) (sym (still_fork_from p v i))
      (undominated_alike
      (IsWideOpenFrom p widths i v odd)
      (IsOpenWith (still p) (Above p widths (IsWidePairAt p widths)) odd (fork_from p v i))
      (lists odd)
      (opens_with p widths (IsWidePairAt p widths) odd (fork_from p v i))
      (with_opens p widths (IsWidePairAt p widths) odd (fork_from p v i))
      (part.exact odd));
}

still_dead : (p : Problem) (i v c : ℕ) → IsDeadPart p i v c → IsDeadPart (still p) i v c
unfolding still
still_dead p i v c part = record {
  no_sink = part.no_sink;
  no_child = still_live_from p v i ∙ part.no_child;
  load = part.load ∙ sym (still_own_from p v i);
}

-- THE START: a node with a sink, when no node has come in
pub wide_start : (p : Problem) (widths : List Width) (v : ℕ) (sink : Sink) → IsSinkAt p v sink
    → IsWideLivePart p widths (length p.tree.nodes) v (sink_lists sink (capacitance p.tree.nodes v))
unfolding still
wide_start p widths v sink here =
    wide_from_still p widths (length p.tree.nodes) v (sink_lists sink (capacitance p.tree.nodes v))
    (subst (λ (c : ℕ). IsLivePart (still p) (Above p widths (IsWidePairAt p widths)) (length p.tree.nodes) v (sink_lists sink c)) (still_capacitance p.tree.nodes v)
    (subst (λ (i : ℕ). IsLivePart (still p) (Above p widths (IsWidePairAt p widths)) i v (sink_lists sink (capacitance (still p).tree.nodes v))) (still_length p.tree.nodes)
    (start_live_part (still p) (Above p widths (IsWidePairAt p widths)) v sink here)))

-- A LIVE NODE COMES IN: its lists, through its wire under each width, meet those of its parent
pub wide_live_on_live : (p : Problem) (widths : List Width) (v i : ℕ) (parts kept above made : Bool → List Pair) → IsChild p.tree.nodes v i → IsLive p i
    → IsWideLivePart p widths (i + 1) v parts
    → ((odd : Bool) → IsUndominated (IsWidePairAt p widths i odd) (kept odd)) → ((odd : Bool) → IsUndominated (WideWires p widths i (kept odd)) (above odd))
    → ((odd : Bool) → IsUndominated (Meets (parts odd) (above odd)) (made odd)) → IsWideLivePart p widths i v made
wide_live_on_live p widths v i parts kept above made child live part kept_are above_are made_are =
    wide_from_still p widths i v made
    (wide_on_live p widths v i parts kept above made child live (still_from_wide p widths (i + 1) v parts part) kept_are above_are made_are)

-- and begin them where it had none
pub wide_live_on_dead : (p : Problem) (widths : List Width) (v i c : ℕ) (kept above made : Bool → List Pair) → IsChild p.tree.nodes v i → IsLive p i
    → IsDeadPart p (i + 1) v c
    → ((odd : Bool) → IsUndominated (IsWidePairAt p widths i odd) (kept odd)) → ((odd : Bool) → IsUndominated (WideWires p widths i (kept odd)) (above odd))
    → ((odd : Bool) → IsUndominated (Raises c (above odd)) (made odd)) → IsWideLivePart p widths i v made
wide_live_on_dead p widths v i c kept above made child live part kept_are above_are made_are =
    wide_from_still p widths i v made
    (wide_on_dead p widths v i c kept above made child live (still_dead p (i + 1) v c part) kept_are above_are made_are)

-- A DEAD NODE COMES IN: its load is added
pub wide_dead_on_live : (p : Problem) (widths : List Width) (v i d : ℕ) (parts made : Bool → List Pair) → IsChild p.tree.nodes v i
    → is_live p.tree.nodes p.sinks i ≡ false → IsWideLivePart p widths (i + 1) v parts → d ≡ downstream_in p.tree.nodes i
    → ((odd : Bool) → IsUndominated (Raises d (parts odd)) (made odd)) → IsWideLivePart p widths i v made
wide_dead_on_live p widths v i d parts made child dead part d_is made_are =
    wide_from_still p widths i v made
    (dead_on_live (still p) (Above p widths (IsWidePairAt p widths)) v i d parts made (still_child p v i child) (still_is_live p i ∙ dead)
    (still_from_wide p widths (i + 1) v parts part) (d_is ∙ sym (still_downstream p i)) made_are)

-- THE OTHER NODES stay as they are
pub wide_live_stays : (p : Problem) (widths : List Width) (v i : ℕ) (parts : Bool → List Pair) → i < length p.tree.nodes
    → (IsChild p.tree.nodes v i → ⊥) → IsWideLivePart p widths (i + 1) v parts → IsWideLivePart p widths i v parts
unfolding still
wide_live_stays p widths v i parts i_n no_child part =
    wide_from_still p widths i v parts
    (live_stays (still p) (Above p widths (IsWidePairAt p widths)) v i parts (omega (arith, i_n, still_length p.tree.nodes)) (λ child. no_child (child_still p v i child))
    (still_from_wide p widths (i + 1) v parts part))

-- A NODE THAT COMES IN has all its children
pub wide_part_is_live : (p : Problem) (widths : List Width) (i : ℕ) (parts : Bool → List Pair) → i < length p.tree.nodes
    → IsWideLivePart p widths (i + 1) i parts → is_live p.tree.nodes p.sinks i ≡ true
unfolding still
wide_part_is_live p widths i parts i_n part =
    sym (still_is_live p i)
    ∙ part_is_live (still p) (Above p widths (IsWidePairAt p widths)) i parts (omega (arith, i_n, still_length p.tree.nodes)) (still_from_wide p widths (i + 1) i parts part)

still_open : (p : Problem) (widths : List Width) (i : ℕ) (parts : Bool → List Pair) → i < length p.tree.nodes
    → IsWideLivePart p widths (i + 1) i parts → (odd : Bool) → IsUndominated (IsOpen (still p) (Above p widths (IsWidePairAt p widths)) i odd) (parts odd)
unfolding still
still_open p widths i parts i_n part odd =
    part_open (still p) (Above p widths (IsWidePairAt p widths)) i parts (omega (arith, i_n, still_length p.tree.nodes)) (still_from_wide p widths (i + 1) i parts part) odd

pub wide_part_open : (p : Problem) (widths : List Width) (i : ℕ) (parts : Bool → List Pair) → IsWideLivePart p widths (i + 1) i parts → i < length p.tree.nodes
    → (odd : Bool) → IsUndominated (IsWideOpen p widths (IsWidePairAt p widths) i odd) (parts odd)
wide_part_open p widths i parts part i_n odd =
    undominated_alike
    (IsOpen (still p) (Above p widths (IsWidePairAt p widths)) i odd)
    (IsWideOpen p widths (IsWidePairAt p widths) i odd)
    (parts odd)
    (λ x. (opens_still p widths (IsWidePairAt p widths) i odd x).1)
    (λ x. (opens_still p widths (IsWidePairAt p widths) i odd x).0)
    (still_open p widths i parts i_n part odd)

-- and what the cells make of its lists is exact for the pairs with widths
pub wide_part_kept : (p : Problem) (widths : List Width) (i : ℕ) (parts kept : Bool → List Pair) → AreWidths widths → i < length p.tree.nodes
    → IsWideLivePart p widths (i + 1) i parts → ((odd : Bool) → IsUndominated (Owns p i odd parts) (kept odd))
    → (odd : Bool) → IsUndominated (IsWidePairAt p widths i odd) (kept odd)
wide_part_kept p widths i parts kept are i_n part kept_are odd =
    wide_kept p widths i parts kept are i_n (still_from_wide p widths (i + 1) i parts part) kept_are odd

-- a node that is no place, as the root, has no cell: its lists are exact as they stand
pub wide_bare_kept : (p : Problem) (widths : List Width) (i : ℕ) (parts : Bool → List Pair) → AreWidths widths → i < length p.tree.nodes
    → slice_index_or p.places i false ≡ false → IsWideLivePart p widths (i + 1) i parts
    → (odd : Bool) → IsUndominated (IsWidePairAt p widths i odd) (parts odd)
unfolding still
wide_bare_kept p widths i parts are i_n no_place part odd =
    kept_wide p widths i odd (parts odd) are
    (bare_steps (still p) (Above p widths (IsWidePairAt p widths)) i odd (parts odd) no_place (still_open p widths i parts i_n part odd))
