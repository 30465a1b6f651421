-- A node comes in to its parent.
use Rattle.std.proofs.Common.{◌≡◌, ◌≢◌, ℕ, zero, suc, ◌+◌, ◌*◌, ◌-◌, ◌<◌, ◌≤◌, Bool, true, false, List, [], ◌∷◌, ◌++◌, length, set}
use Rattle.std.proofs.Common.{refl, sym, ap, ◌∙◌, subst, arith, inl, inr}
use Rattle.std.proofs.lemmas.Bool.{cases_eq, cases_lt}
use Rattle.std.proofs.Math.ListN.{get_or-append}
use Rattle.std.proofs.Math.Seq.{get_or-append_seam}
use Rattle.std.proofs.lemmas.List.{append-nil, length-append, length-set, set-set, get_or-set_same, get_or-set_other}
use Rattle.std.proofs.lemmas.List.Sorted.{IsPermutation-refl, IsPermutation-sym, IsPermutation-append_comm}
use Rattle.std.specs.List.{Contains}
use Rattle.elmore.specs.Problems.{is_live}
use Rattle.elmore.specs.Trees.{parent_of}
use Rattle.elmore.specs.Wire.{downstream_in}
use Rattle.elmore.specs.declared.problem.Problem.{Problem}
use Rattle.sol_arena.specs.declared.arena.Arena.{Arena}
use Rattle.sol_arena.specs.declared.slot.Made.{Made}
use Rattle.sol_arena.specs.Arenas.{made_of}
use Rattle.cand_pairs.proofs.ChildLemmas.{IsChild, child_above}
use Rattle.cand_pairs.proofs.TurnLemmas.{part_is_dead, part_load}
use Rattle.wire_widths.specs.declared.width.Width.{Width}
use Rattle.wire_widths.proofs.WideWordLemmas.{wide_part_is_live}
use Rattle.cand_pool.specs.Pools.{Block, IsLive}
use Rattle.cand_pool.specs.declared.ends.List.{List as NamedList}
use Rattle.cand_uses.specs.Pairs.{pairs_of}
use Rattle.cand_turns.specs.declared.branch.Branch.{Branch}
use Rattle.cand_turns.specs.declared.part.Part.{Part}
use Rattle.cand_turns.specs.declared.part.Part.TheVariants.{Dead, Live}
use Rattle.cand_turns.specs.Swaps.{Search, Lists, search, AreHeld, IsSwap, IsTurn, AreOf}
use Rattle.cand_turns.specs.Branches.{classes_in, list_of, lists_of}
use Rattle.cand_turns.specs.Parts.{lists_in, size_in, HasNoMore, IsPart}
use Rattle.cand_turns.specs.Tooled.{added_at}
use Rattle.cand_turns.proofs.BranchLemmas.{two_held}
use Rattle.cand_turns.proofs.SwapLemmas.{turn_among, order_held, front_held}
use Rattle.vg_slack.specs.declared.waiting.Waiting.{Waiting}
use Rattle.vg_slack.specs.Climbs.{all_lists, part_at, without, IsSoFar, AreBegun, AreParts}
use Rattle.vg_slack.specs.Waits.{last_at, IsThere, IsLastBelow, AreAllWaiting, IsWaiting, IsCrossedOff, IsAtRoot}
use Rattle.vg_slack.proofs.BoundLemmas.{most_other, closed_few, taken_few}
use Rattle.vg_slack.proofs.PartsLemmas.{with_part, two_of_parts, in_all_parts, one_left, given_up, back_held, back_turn, back_lost, part_stays, part_beside, size_beside}
use Rattle.vg_slack.proofs.WaitLemmas.{less, is_last, all_there}

-- FROM ONE NUMBER TO ANOTHER
-- between them no child of the node
moves : (p : Problem) (ws : List Width) (j d v : ℕ) (ms : List Made) (s : Block) (part : Part) → j + d ≤ length p.tree.nodes
    → ((u : ℕ) → IsChild p.tree.nodes v u → u < j + d → u < j) → IsSoFar p ws (j + d) v ms s part → IsSoFar p ws j v ms s part
moves p ws j zero v ms s part within none is = let e : j + 0 ≡ j = omega arith in subst (λ (k : ℕ). IsSoFar p ws k v ms s part) e is
moves p ws j (suc d) v ms s part within none is =
    let e : j + suc d ≡ (j + d) + 1 = omega arith in
    let here : j + d < length p.tree.nodes = omega (arith, within) in
    let no_child : IsChild p.tree.nodes v (j + d) → ⊥ = λ child. omega (arith, none (j + d) child (omega arith)) in
    let last = subst (λ (k : ℕ). IsSoFar p ws k v ms s part) e is in
    moves p ws j d v ms s part (omega (arith, within)) (λ u child low. none u child (omega (arith, low))) (record {
      part = part_stays p ws (j + d) v ms s part here no_child last.part;
      few = λ one odd. omega (arith, last.few one odd, most_other p (j + d) v here no_child);
    })

-- the next child that comes in is the last one below
to_next : (p : Problem) (ws : List Width) (i v last : ℕ) (ms : List Made) (s : Block) (part : Part) → v < i → i ≤ length p.tree.nodes → IsLastBelow p i v last
    → IsSoFar p ws i v ms s part → IsSoFar p ws (last + 1) v ms s part
to_next p ws i v last ms s part v_i i_n is so_far =
    let low : last < i = less p i v last v_i is in
    let e : i ≡ (last + 1) + (i - (last + 1)) = omega (arith, low) in
    moves p ws (last + 1) (i - (last + 1)) v ms s part (omega (arith, e, i_n))
    (λ u child u_low.
    omega (arith, e, is.most u (record { parent = child.parent; above = child_above p.tree.nodes p.tree.a_tree v u child; node = child.node }) (omega (arith, e, u_low))))
    (subst (λ (k : ℕ). IsSoFar p ws k v ms s part) e so_far)

-- PARTS BESIDE A TURN
so_far_beside : (p : Problem) (ws : List Width) (i v : ℕ) (old new : Arena) (s t : Block) (given made others : Lists) → AreHeld (search s old) (given ++ others)
    → IsTurn (search s old) given (search t new) made → (x : Part) → ((l : NamedList) → Contains (lists_in x) l → Contains others l)
    → IsSoFar p ws i v (made_of old) s x → IsSoFar p ws i v (made_of new) t x
so_far_beside p ws i v old new s t given made others held turn x among is = record {
  part = part_beside p ws i v old new s t given made others held turn x among is.part;
  few = λ one odd. omega (arith, is.few one odd, size_beside (search s old) (search t new) given made others held turn x among odd);
}

-- all parts
module _ (p : Problem) (ws : List Width) (old new : Arena) (s t : Block) (given made : Lists) (rest : List Part) (held : AreHeld (search s old) (given ++ all_lists rest))
    (turn : IsTurn (search s old) given (search t new) made) where
  stays : (i v w : ℕ) → w < length rest → IsSoFar p ws i v (made_of old) s (part_at rest w) → IsSoFar p ws i v (made_of new) t (part_at rest w)
  stays i v w w_n is =
      so_far_beside p ws i v old new s t given made (all_lists rest) held turn (part_at rest w) (λ l found. in_all_parts rest w l w_n found) is

  pub begun_beside : AreBegun p ws (made_of old) s rest → AreBegun p ws (made_of new) t rest
  begun_beside are v v_n = stays (length p.tree.nodes) v v v_n (are v v_n)

-- THE START
-- one part more, of the node after them
pub begun_more : (p : Problem) (ws : List Width) (ms : List Made) (s : Block) (parts : List Part) (part : Part) → AreBegun p ws ms s parts
    → IsSoFar p ws (length p.tree.nodes) (length parts) ms s part → AreBegun p ws ms s (parts ++ part ∷ [])
begun_more p ws ms s parts part are is w w_n =
    elim (cases_lt w (length parts)) [
      | inl low ↦ subst (λ (x : Part). IsSoFar p ws (length p.tree.nodes) w ms s x) (sym (get_or-append parts (part ∷ []) (Dead 0) w low)) (are w low)
      | inr high ↦
          let last : w ≡ length parts = omega (arith, high, w_n, length-append parts (part ∷ [])) in
          subst (λ (u : ℕ). IsSoFar p ws (length p.tree.nodes) u ms s (part_at (parts ++ part ∷ []) u)) (sym last)
          (subst (λ (x : Part). IsSoFar p ws (length p.tree.nodes) (length parts) ms s x) (sym (get_or-append_seam parts part [] (Dead 0))) is)
    ]

pub all_parts : (p : Problem) (ws : List Width) (w : Waiting) (ms : List Made) (s : Block) (parts : List Part) → AreAllWaiting p w → length parts ≡ length p.tree.nodes
    → AreBegun p ws ms s parts → AreParts p ws w ms s parts
all_parts p ws w ms s parts waiting one_each are = record {
  one_each = one_each;
  there = λ v v_n _. to_next p ws (length p.tree.nodes) v (last_at w v) ms s (part_at parts v) v_n (omega arith) (waiting.last v v_n) (are v (omega (arith, v_n, one_each)));
  came = λ v v_n gone. absurd (gone (all_there waiting v v_n));
}

-- A PART COMES IN TO ANOTHER: that of node i, to which all its children came in, to the upper one, of its parent
pub record IsComing (p : Problem) (ws : List Width) (i : ℕ) (upper part : Part) (old : Arena) (s : Block) : Type 0 where
  pub some : 0 < i
  pub node : i < length p.tree.nodes
  pub held : AreHeld (search s old) (lists_in upper ++ lists_in part)
  pub above : IsSoFar p ws (i + 1) (parent_of p.tree.nodes i) (made_of old) s upper
  pub whole : IsSoFar p ws (i + 1) i (made_of old) s part

pub coming : {p : Problem} {ws : List Width} {i : ℕ} {upper part : Part} {s : Block} (old : Arena) → 0 < i → i < length p.tree.nodes
    → AreHeld (search s old) (lists_in upper ++ lists_in part) → IsSoFar p ws (i + 1) (parent_of p.tree.nodes i) (made_of old) s upper
    → IsSoFar p ws (i + 1) i (made_of old) s part → IsComing p ws i upper part old s
coming old some node held above whole = record { some = some; node = node; held = held; above = above; whole = whole }

module _ {p : Problem} {ws : List Width} {i : ℕ} {upper part : Part} {old : Arena} {s : Block} (at : IsComing p ws i upper part old s) where
  is_child : IsChild p.tree.nodes (parent_of p.tree.nodes i) i
  is_child = record { parent = refl; other = λ e. omega (arith, p.tree.a_tree.smaller i at.some at.node, e); node = at.node }

  -- a dead one has no lists
  module _ (c : ℕ) (part_is : part ≡ Dead c) where
    alone : lists_in upper ++ lists_in part ≡ lists_in upper
    alone = ap (λ (x : Part). lists_in upper ++ lists_in x) part_is ∙ append-nil (lists_in upper)

    dead_part : IsPart p ws (i + 1) i (made_of old) s (Dead c)
    dead_part = subst (λ (x : Part). IsPart p ws (i + 1) i (made_of old) s x) part_is at.whole.part

    pub is_dead : is_live p.tree.nodes p.sinks i ≡ false
    is_dead = part_is_dead p i c at.node dead_part

    pub has_load : c ≡ downstream_in p.tree.nodes i
    has_load = part_load p i c at.node dead_part

    pub upper_held : AreHeld (search s old) (lists_in upper)
    upper_held = subst (λ (ls : Lists). AreHeld (search s old) ls) alone at.held

    pub dead_turn : (new : Search) (x : Part) → IsTurn (search s old) (lists_in upper) new (lists_in x)
        → IsTurn (search s old) (lists_in upper ++ lists_in part) new (lists_in x)
    dead_turn new x turn = subst (λ (ls : Lists). IsTurn (search s old) ls new (lists_in x)) (sym alone) turn

    pub dead_so_far : (t : Block) (x : Part) → IsPart p ws i (parent_of p.tree.nodes i) (made_of old) t x
        → ((odd : Bool) → size_in t x odd ≡ size_in s upper odd) → IsSoFar p ws i (parent_of p.tree.nodes i) (made_of old) t x
    dead_so_far t x is same = record {
      part = is;
      few = taken_few p ws i (parent_of p.tree.nodes i) s t upper x (λ _. 0) is_child at.above.few (λ one odd. omega arith) (λ one odd. omega (arith, same odd));
    }

  module _ (branch : Branch) (part_is : part ≡ Live branch) where
    live_held : AreHeld (search s old) (lists_in upper ++ lists_of branch)
    live_held = subst (λ (x : Part). AreHeld (search s old) (lists_in upper ++ lists_in x)) part_is at.held

    pub live_whole : IsSoFar p ws (i + 1) i (made_of old) s (Live branch)
    live_whole = subst (λ (x : Part). IsSoFar p ws (i + 1) i (made_of old) s x) part_is at.whole

    pub branch_held : AreHeld (search s old) (lists_of branch)
    branch_held = back_held (search s old) (lists_in upper) (lists_of branch) live_held

    -- it was closed
    module _ (mid : Arena) (m : Block) (closed : Branch) (turn : IsTurn (search s old) (lists_of branch) (search m mid) (lists_of closed)) where
      pub closed_turn : IsTurn (search s old) (lists_in upper ++ lists_in part) (search m mid) (lists_in upper ++ lists_of closed)
      closed_turn =
          subst (λ (x : Part). IsTurn (search s old) (lists_in upper ++ lists_in x) (search m mid) (lists_in upper ++ lists_of closed)) (sym part_is)
          (back_turn (search s old) (search m mid) (lists_in upper) (lists_of branch) (lists_of closed) live_held turn)

      pub upper_beside : IsSoFar p ws (i + 1) (parent_of p.tree.nodes i) (made_of mid) m upper
      upper_beside =
          so_far_beside p ws (i + 1) (parent_of p.tree.nodes i) old mid s m (lists_of branch) (lists_of closed) (lists_in upper)
          (order_held (search s old) (lists_in upper ++ lists_of branch) (lists_of branch ++ lists_in upper)
          (IsPermutation-append_comm (lists_in upper) (lists_of branch)) live_held)
          turn upper (λ l found. found) at.above

      pub live_so_far : (new : Arena) (t : Block) (x : Part)
          → ((odd : Bool) → length (classes_in m closed odd) ≤ length (classes_in s branch odd) + added_at p i)
          → IsPart p ws i (parent_of p.tree.nodes i) (made_of new) t x → HasNoMore (length ws) m upper closed t x
          → IsSoFar p ws i (parent_of p.tree.nodes i) (made_of new) t x
      live_so_far new t x few is no_more = record {
        part = is;
        few = taken_few p ws i (parent_of p.tree.nodes i) m t upper x (λ odd. length (classes_in m closed odd)) is_child upper_beside.few
            (closed_few p ws i s m branch closed at.node live_whole.few few) (λ one odd. omega (arith, no_more odd, ap (λ (n : ℕ). n * length (classes_in m closed odd)) one));
      }

    -- or lost
    pub lost : (mid : Search) → IsSwap (search s old) (lists_of branch) mid []
        → IsTurn (search s old) (lists_in upper ++ lists_in part) mid (lists_in upper)
    lost mid swap =
        subst (λ (x : Part). IsTurn (search s old) (lists_in upper ++ lists_in x) mid (lists_in upper)) (sym part_is)
        (back_lost (search s old) mid (lists_in upper) (lists_of branch) live_held swap)

-- TWO PARTS ARE TAKEN AWAY: the part of node i, and the upper one, of its parent
pub record AreTaken (p : Problem) (i u : ℕ) (parts one both : List Part) (part upper : Part) : Type 0 where
  pub some : 0 < i
  pub node : i < length p.tree.nodes
  pub one_each : length parts ≡ length p.tree.nodes
  pub up_is : u ≡ parent_of p.tree.nodes i
  pub part_is : part ≡ part_at parts i
  pub one_is : one ≡ without parts i
  pub upper_is : upper ≡ part_at one u
  pub both_is : both ≡ without one u

pub taken : (p : Problem) {i u : ℕ} {parts one both : List Part} {part upper : Part} → 0 < i → i < length p.tree.nodes → length parts ≡ length p.tree.nodes
    → u ≡ parent_of p.tree.nodes i → part ≡ part_at parts i → one ≡ without parts i → upper ≡ part_at one u → both ≡ without one u
    → AreTaken p i u parts one both part upper
taken p some node one_each up_is part_is one_is upper_is both_is = record {
  some = some;
  node = node;
  one_each = one_each;
  up_is = up_is;
  part_is = part_is;
  one_is = one_is;
  upper_is = upper_is;
  both_is = both_is;
}

module _ {p : Problem} {i u : ℕ} {parts one both : List Part} {part upper : Part} (at : AreTaken p i u parts one both part upper) where
  abbrev up : ℕ
  up = parent_of p.tree.nodes i

  up_i : up < i
  up_i = p.tree.a_tree.smaller i at.some at.node

  other : up ≢ i
  other e = omega (arith, e, up_i)

  upper_at : upper ≡ part_at parts up
  upper_at = at.upper_is ∙ ap (part_at one) at.up_is ∙ ap (λ (xs : List Part). part_at xs up) at.one_is ∙ get_or-set_other parts i up (Dead 0) (Dead 0) other

  at_up : both ≡ without one up
  at_up = at.both_is ∙ ap (without one) at.up_is

  both_are : both ≡ without (without parts i) up
  both_are = at_up ∙ ap (λ (xs : List Part). without xs up) at.one_is

  length_both : length both ≡ length p.tree.nodes
  length_both =
      ap (λ (xs : List Part). length xs) both_are ∙ length-set (without parts i) up (Dead 0) ∙ length-set parts i (Dead 0) ∙ at.one_each

  of_both : AreOf (lists_in upper ++ lists_in part) (all_lists both) (all_lists parts)
  of_both =
      subst (λ (xs : List Part). AreOf (lists_in upper ++ lists_in part) (all_lists xs) (all_lists parts)) (sym both_are)
      (subst (λ (x : Part). AreOf (lists_in x ++ lists_in part) (all_lists (without (without parts i) up)) (all_lists parts)) (sym upper_at)
      (subst (λ (x : Part). AreOf (lists_in (part_at parts up) ++ lists_in x) (all_lists (without (without parts i) up)) (all_lists parts)) (sym at.part_is)
      (two_of_parts parts i up (omega (arith, at.node, at.one_each)) (omega (arith, at.node, at.one_each, up_i)) other)))

  of_new : (x : Part) → AreOf (lists_in x) (all_lists both) (all_lists (set both up x))
  of_new x =
      subst (λ (xs : List Part). AreOf (lists_in x) (all_lists xs) (all_lists (set both up x))) (again ∙ sym at_up)
      (with_part both up x (omega (arith, length_both, at.node, up_i)))
    where
      again : without both up ≡ without one up
      again = ap (λ (xs : List Part). without xs up) at_up ∙ set-set one up (Dead 0) (Dead 0)

  held_beside : (s : Search) → AreHeld s (all_lists parts) → AreHeld s ((lists_in upper ++ lists_in part) ++ all_lists both)
  held_beside s held =
      order_held s (all_lists parts) ((lists_in upper ++ lists_in part) ++ all_lists both)
      (IsPermutation-sym ((lists_in upper ++ lists_in part) ++ all_lists both) (all_lists parts) of_both) held

  pub both_held : (s : Search) → AreHeld s (all_lists parts) → AreHeld s (lists_in upper ++ lists_in part)
  both_held s held = front_held s (lists_in upper ++ lists_in part) (all_lists both) (held_beside s held)

  -- for both another upper part was given
  pub taken_turn : (old new : Search) (x : Part) → AreHeld old (all_lists parts) → IsTurn old (lists_in upper ++ lists_in part) new (lists_in x)
      → IsTurn old (all_lists parts) new (all_lists (set both u x))
  taken_turn old new x held turn =
      subst (λ (k : ℕ). IsTurn old (all_lists parts) new (all_lists (set both k x))) (sym at.up_is)
      (turn_among old new (lists_in upper ++ lists_in part) (lists_in x) (all_lists both) (all_lists parts) (all_lists (set both up x)) held of_both (of_new x) turn)

  -- or none
  pub lost_turn : (old new : Search) → AreHeld old (all_lists parts) → IsSwap old (lists_in upper ++ lists_in part) new []
      → IsTurn old (all_lists parts) new (all_lists both)
  lost_turn old new held swap =
      turn_among old new (lists_in upper ++ lists_in part) [] (all_lists both) (all_lists parts) (all_lists both) held of_both
      (IsPermutation-refl (all_lists both)) (given_up old new (lists_in upper ++ lists_in part) swap)

  -- the other parts are where they were
  same : (v : ℕ) → v ≢ i → v ≢ up → part_at both v ≡ part_at parts v
  same v v_i v_up =
      ap (λ (xs : List Part). part_at xs v) both_are
      ∙ get_or-set_other (without parts i) up v (Dead 0) (Dead 0) v_up
      ∙ get_or-set_other parts i v (Dead 0) (Dead 0) v_i

  none_at : part_at both i ≡ Dead 0
  none_at =
      ap (λ (xs : List Part). part_at xs i) both_are
      ∙ get_or-set_other (without parts i) up i (Dead 0) (Dead 0) (λ e. other (sym e))
      ∙ get_or-set_same parts i (Dead 0) (Dead 0) (omega (arith, at.node, at.one_each))

  module _ {ws : List Width} {w : Waiting} {ms : List Made} {s : Block} (waiting : IsWaiting p w i) (are : AreParts p ws w ms s parts) where
    pub part_whole : last_at w i ≡ i → IsSoFar p ws (i + 1) i ms s part
    part_whole whole =
        subst (λ (x : Part). IsSoFar p ws (i + 1) i ms s x) (sym at.part_is)
        (subst (λ (k : ℕ). IsSoFar p ws (k + 1) i ms s (part_at parts i)) whole (are.there i at.node (omega (arith, is_last p w i at.some waiting))))

    pub upper_so_far : IsSoFar p ws (i + 1) up ms s upper
    upper_so_far =
        subst (λ (x : Part). IsSoFar p ws (i + 1) up ms s x) (sym upper_at)
        (subst (λ (k : ℕ). IsSoFar p ws (k + 1) up ms s (part_at parts up)) (is_last p w i at.some waiting)
        (are.there up (omega (arith, up_i, at.node)) (waiting.upper i at.node (omega (arith, is_last p w i at.some waiting)))))

  -- node i came in
  module _ (ws : List Width) (old new : Arena) (s t : Block) (x : Part) (w w' : Waiting) (held : AreHeld (search s old) (all_lists parts))
      (turn : IsTurn (search s old) (lists_in upper ++ lists_in part) (search t new) (lists_in x)) (waiting : IsWaiting p w i) (crossed : IsCrossedOff p i w w')
      (are : AreParts p ws w (made_of old) s parts) (is : IsSoFar p ws i up (made_of new) t x) where
    there : (v : ℕ) → v < length p.tree.nodes → IsThere p w' v → IsSoFar p ws (last_at w' v + 1) v (made_of new) t (part_at (set both up x) v)
    there v v_n v_there = elim (cases_eq v up) [
      | inl e ↦
          subst (λ (u : ℕ). IsSoFar p ws (last_at w' u + 1) u (made_of new) t (part_at (set both up x) u)) (sym e)
          (subst (λ (y : Part). IsSoFar p ws (last_at w' up + 1) up (made_of new) t y) (sym (get_or-set_same both up x (Dead 0) (omega (arith, length_both, v_n, e))))
          (to_next p ws i up (last_at w' up) (made_of new) t x up_i (omega (arith, at.node)) crossed.next is))
      | inr apart ↦
          let v_i : v ≢ i = λ e. crossed.came (subst (IsThere p w') e v_there) in
          subst (λ (y : Part). IsSoFar p ws (last_at w' v + 1) v (made_of new) t y) (sym (get_or-set_other both up v x (Dead 0) apart))
          (stays p ws old new s t (lists_in upper ++ lists_in part) (lists_in x) both (held_beside (search s old) held) turn (last_at w' v + 1) v v
          (omega (arith, v_n, length_both))
          (subst (λ (y : Part). IsSoFar p ws (last_at w' v + 1) v (made_of old) s y) (sym (same v v_i apart))
          (subst (λ (k : ℕ). IsSoFar p ws (k + 1) v (made_of old) s (part_at parts v)) (sym (crossed.others v apart)) (are.there v v_n (crossed.was v v_there)))))
    ]

    came : (v : ℕ) → v < length p.tree.nodes → (IsThere p w' v → ⊥) → lists_in (part_at (set both up x) v) ≡ []
    came v v_n gone = elim (cases_eq v up) [
      | inl e ↦
          absurd (gone (subst (IsThere p w') (sym e)
          (crossed.still up other (waiting.upper i at.node (omega (arith, is_last p w i at.some waiting))))))
      | inr apart ↦
          ap (λ (y : Part). lists_in y) (get_or-set_other both up v x (Dead 0) apart)
          ∙ elim (cases_eq v i) [
            | inl e ↦ ap (λ (u : ℕ). lists_in (part_at both u)) e ∙ ap (λ (y : Part). lists_in y) none_at
            | inr v_i ↦ ap (λ (y : Part). lists_in y) (same v v_i apart) ∙ are.came v v_n (λ v_there. gone (crossed.still v v_i v_there))
          ]
    ]

    pub parts_after : AreParts p ws w' (made_of new) t (set both u x)
    parts_after =
        subst (λ (k : ℕ). AreParts p ws w' (made_of new) t (set both k x)) (sym at.up_is)
        (record { one_each = length-set both up x ∙ length_both; there = there; came = came })

-- THE ROOT
module _ {p : Problem} {w : Waiting} (root : IsAtRoot p w) where
  root_there : IsThere p w 0
  root_there = omega arith

  pub root_whole : (ws : List Width) (ms : List Made) (s : Block) (parts : List Part) → AreParts p ws w ms s parts → IsSoFar p ws 1 0 ms s (part_at parts 0)
  root_whole ws ms s parts are =
      let one : last_at w 0 + 1 ≡ 1 = omega (arith, root.whole) in
      subst (λ (k : ℕ). IsSoFar p ws k 0 ms s (part_at parts 0)) one (are.there 0 p.tree.a_tree.some_node root_there)

  pub root_lists : (ws : List Width) (ms : List Made) (s : Block) (parts : List Part) → AreParts p ws w ms s parts → all_lists parts ≡ lists_in (part_at parts 0)
  root_lists ws ms s parts are =
      one_left parts (omega (arith, are.one_each, p.tree.a_tree.some_node))
      (λ v v_n other. are.came v (omega (arith, v_n, are.one_each)) (λ there. other (root.alone v (omega (arith, v_n, are.one_each)) there)))

-- BRANCHES
-- a node is live where its part is
pub node_live : (p : Problem) (ws : List Width) (i : ℕ) (ms : List Made) (s : Block) (branch : Branch) → i < length p.tree.nodes → IsSoFar p ws (i + 1) i ms s (Live branch)
    → is_live p.tree.nodes p.sinks i ≡ true
node_live p ws i ms s branch i_n is = wide_part_is_live p ws i (λ odd. pairs_of (classes_in s branch odd)) i_n is.part.part

-- both lists of a branch are live
pub branch_live : (at : Search) (branch : Branch) → AreHeld at (lists_of branch) → (odd : Bool) → IsLive at.pool (list_of branch odd)
branch_live at branch held true = (two_held at branch.even branch.odd held).two
branch_live at branch held false = (two_held at branch.even branch.odd held).one
