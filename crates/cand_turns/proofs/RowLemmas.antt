-- What the wire of a node makes of a class there under several of its widths.
use Rattle.std.proofs.Common.{◌≡◌, ◌≢◌, ◌⊎◌, ℕ, ◌+◌, ◌<◌, ◌≤◌, Bool, true, false, List, [], ◌∷◌, ◌++◌, length, sym, ap, ◌∙◌, subst, arith, inl, inr}
use Rattle.std.specs.List.{Contains}
use Rattle.std.proofs.lemmas.Bool.{cases_lt}
use Rattle.std.proofs.lemmas.List.Sorted.{IsPermutation-refl, IsPermutation-append_comm}
use Rattle.elmore.specs.Pairs.{IsUndominated}
use Rattle.elmore.specs.declared.pair.Pair.{Pair}
use Rattle.elmore.specs.declared.problem.Problem.{Problem}
use Rattle.sol_arena.specs.declared.arena.Arena.{Arena}
use Rattle.sol_arena.specs.declared.slot.Made.{Made}
use Rattle.sol_arena.specs.Arenas.{slots_of, made_of}
use Rattle.sol_arena.specs.Meanings.{cells_of}
use Rattle.cand_pairs.specs.Candidates.{IsLive as IsLiveNode}
use Rattle.cand_pairs.proofs.MergeLemmas.{dense_exact, same_exact}
use Rattle.wire_widths.specs.WidePairs.{IsWidePairAt, WideWires}
use Rattle.wire_widths.specs.WideSolutions.{IsWideSolutionOf}
use Rattle.wire_widths.specs.declared.width.Width.{Width}
use Rattle.cand_pool.specs.Candidates.{Candidates}
use Rattle.cand_pool.specs.Pools.{Block, Holds, items_of, spare, name, KeepsOthers}
use Rattle.cand_pool.specs.declared.ends.List.{List as NamedList}
use Rattle.cand_pool.proofs.PublicLaws.{held_items, held_named, nothing_held}
use Rattle.cand_uses.specs.Pairs.{pair_of, pairs_of}
use Rattle.cand_uses.specs.Uses.{uses_by, IsExchange, MeanTheSame}
use Rattle.cand_uses.proofs.ExchangeLemmas.{exchange_as, no_exchange}
use Rattle.cand_lists.specs.ListLaws.{Either, both}
use Rattle.cand_lists.proofs.ExactLemmas.{both_over, both_take}
use Rattle.cand_turns.specs.Swaps.{Search, search, Lists, all_of, AreHeld, IsSwap, IsTurn}
use Rattle.cand_turns.specs.Branches.{classes_in}
use Rattle.cand_turns.specs.declared.branch.Branch.{Branch}
use Rattle.cand_turns.specs.Solved.{CanWiden, Beside, IsBesideSolution, IsCarriedClass, IsCarriedAt}
use Rattle.cand_turns.specs.Widened.{IsClosedClass, RowWires, IsUnderRows}
use Rattle.cand_turns.proofs.SwapLemmas.{beside, other_items, turn_among}
use Rattle.cand_turns.proofs.MeetLemmas.{exact_as, merge_turn, solved_beside}
use Rattle.cand_turns.proofs.BranchLemmas.{one_all, one_made, two_held}
use Rattle.cand_turns.proofs.AddLemmas.{none_turn}
use Rattle.cand_turns.proofs.CellLemmas.{either_dense}
use Rattle.cand_turns.proofs.WireLemmas.{rows_over, beside_alike}

-- BESIDE A SWAP a class is what it was
pub closed_beside : (p : Problem) (ws : List Width) (v : ℕ) (odd : Bool) (old new : Arena) (s t : Block) (given made others : Lists) → AreHeld (search s old) (given ++ others)
    → IsTurn (search s old) given (search t new) made → (l : NamedList) → Contains others l → IsClosedClass p ws v odd (made_of old) (items_of s l)
    → IsClosedClass p ws v odd (made_of new) (items_of t l)
closed_beside p ws v odd old new s t given made others held turn l found is = record {
  exact = exact_as (IsWidePairAt p ws v odd) _ _ (sym (other_items (search s old) (search t new) given made others held turn l found)) is.exact;
  solved = solved_beside (IsWideSolutionOf p ws v odd) old new s t given made others held turn l found is.solved;
}

pub rows_beside : (p : Problem) (ws : List Width) (v c : ℕ) (odd : Bool) (kept : List Pair) (from to : ℕ) (old new : Arena) (s t : Block) (given made others : Lists)
    → AreHeld (search s old) (given ++ others) → IsTurn (search s old) given (search t new) made → (l : NamedList) → Contains others l
    → IsUnderRows p ws v c odd kept from to (made_of old) (items_of s l) → IsUnderRows p ws v c odd kept from to (made_of new) (items_of t l)
rows_beside p ws v c odd kept from to old new s t given made others held turn l found is = record {
  exact = exact_as (Beside c (RowWires p ws v from to kept)) _ _ (sym (other_items (search s old) (search t new) given made others held turn l found)) is.exact;
  solved = solved_beside (IsBesideSolution p ws v c odd) old new s t given made others held turn l found is.solved;
}

-- the second of two lists stays where the first is given up
pub pair_lost : (old new : Search) (a b : NamedList) → AreHeld old (a ∷ b ∷ []) → IsSwap old (a ∷ []) new [] → IsTurn old (a ∷ b ∷ []) new (b ∷ [])
pair_lost old new a b held swap = beside old new (a ∷ []) [] (b ∷ []) held (none_turn old new (a ∷ []) swap)

-- UNDER NO WIDTH there is nothing
pub no_rows : (p : Problem) (ws : List Width) (v c : ℕ) (odd : Bool) (kept : List Pair) (from : ℕ) (ms : List Made) → IsUnderRows p ws v c odd kept from from ms []
no_rows p ws v c odd kept from ms = record {
  exact = record {
    rising = λ i j d i_j j_n. absurd (omega arith);
    taken = λ k d k_n. absurd (omega arith);
    covers = λ z (y, (i, w, low, high, w_in, y_is), z_is). absurd (omega (arith, low, high));
  };
  solved = λ x (k, k_n, e). absurd (omega arith);
}

-- UNDER MORE WIDTHS: those from a to b, and those from b to d
module _ (p : Problem) (ws : List Width) (can : CanWiden p ws) (v : ℕ) (odd : Bool) (v_n : v < length p.tree.nodes) (some : v ≢ 0) (live : IsLiveNode p v)
    (kept : List Pair) (closed : IsUndominated (IsWidePairAt p ws v odd) kept) where
  pub rows_both : (c a b d : ℕ) (old new : List Made) (xs ys : Candidates) → a ≤ b → b ≤ d → d ≤ length ws
      → IsUnderRows p ws v c odd kept a b old xs → IsUnderRows p ws v c odd kept b d old ys → MeanTheSame old new (both xs ys)
      → IsUnderRows p ws v c odd kept a d new (both xs ys)
  rows_both c a b d old new xs ys a_b b_d d_n one two same = record {
    exact =
        same_exact (λ z. Beside c (RowWires p ws v a b kept) z ⊎ Beside c (RowWires p ws v b d kept) z) (Beside c (RowWires p ws v a d kept)) (pairs_of (both xs ys)) to from
        (dense_exact (Either (pairs_of xs) (pairs_of ys)) (λ z. Beside c (RowWires p ws v a b kept) z ⊎ Beside c (RowWires p ws v b d kept) z) (pairs_of (both xs ys))
        (either_dense (Beside c (RowWires p ws v a b kept)) (Beside c (RowWires p ws v b d kept)) (pairs_of xs) (pairs_of ys) one.exact two.exact)
        (both_over xs ys one.exact.rising two.exact.rising (rows_over p ws can v odd v_n some live kept closed c a b old xs (omega (arith, b_d, d_n)) one)
        (rows_over p ws can v odd v_n some live kept closed c b d old ys d_n two)));
    solved = λ z found.
        subst (λ held. IsBesideSolution p ws v c odd held (pair_of z)) (sym (same z found)) (elim (both_take xs ys z found) as (λ _. IsBesideSolution p ws v c odd (cells_of old z.tag) (pair_of z)) [
          | inl x_in ↦ one.solved z x_in
          | inr y_in ↦ two.solved z y_in
        ]);
  }
    where
      to : (z : Pair) → Beside c (RowWires p ws v a b kept) z ⊎ Beside c (RowWires p ws v b d kept) z → Beside c (RowWires p ws v a d kept) z
      to z (inl (y, (i, w, low, high, w_in, y_is), z_is)) = (y, (i, w, low, omega (arith, high, b_d), w_in, y_is), z_is)
      to z (inr (y, (i, w, low, high, w_in, y_is), z_is)) = (y, (i, w, omega (arith, low, a_b), high, w_in, y_is), z_is)

      from : (z : Pair) → Beside c (RowWires p ws v a d kept) z → Beside c (RowWires p ws v a b kept) z ⊎ Beside c (RowWires p ws v b d kept) z
      from z (y, (i, w, low, high, w_in, y_is), z_is) = elim (cases_lt i b) [
        | inl less ↦ inl (y, (i, w, low, less, w_in, y_is), z_is)
        | inr more ↦ inr (y, (i, w, more, high, w_in, y_is), z_is)
      ]

  -- under all of them
  pub all_rows : (c : ℕ) (ms : List Made) (xs : Candidates) → IsUnderRows p ws v c odd kept 0 (length ws) ms xs → IsCarriedClass p ws v c odd kept ms xs
  all_rows c ms xs is = record {
    below = closed;
    exact = beside_alike c (RowWires p ws v 0 (length ws) kept) (WideWires p ws v kept) (pairs_of xs)
        (λ z (i, y, low, high, y_in, e). (i, y, high, y_in, e)) (λ z (i, y, high, y_in, e). (i, y, omega arith, high, y_in, e)) is.exact;
    solved = is.solved;
  }

-- TWO LISTS of which the second is taken into the first
pub record AreAbsorbed (old new : Search) (a b list : NamedList) (before after : List Made) : Type 0 where
  pub turn : IsTurn old (a ∷ b ∷ []) new (list ∷ [])
  pub items : items_of new.pool list ≡ both (items_of old.pool a) (items_of old.pool b)
  pub same : MeanTheSame before after (both (items_of old.pool a) (items_of old.pool b))

pub absorbed : (old new : Arena) (s t : Block) (a b list : NamedList) → AreHeld (search s old) (a ∷ b ∷ [])
    → ((xs ys : Candidates) → Holds s a xs → Holds s b ys → Holds t list (both xs ys))
    → ((xs ys : Candidates) → Holds s a xs → Holds s b ys → IsExchange (slots_of old) (xs ++ ys) (slots_of new) (both xs ys))
    → ((xs ys : Candidates) → Holds s a xs → Holds s b ys → MeanTheSame (made_of old) (made_of new) (both xs ys))
    → KeepsOthers s (name a ∷ name b ∷ []) t (name list ∷ [])
    → ((xs ys : Candidates) → Holds s a xs → Holds s b ys → spare t + length (both xs ys) ≡ spare s + length xs + length ys)
    → AreAbsorbed (search s old) (search t new) a b list (made_of old) (made_of new)
absorbed old new s t a b list held list_is uses same others free =
    let two = two_held (search s old) a b held in
    let xs = items_of s a in
    let ys = items_of s b in
    let items : items_of t list ≡ both xs ys = held_items _ _ _ _ (list_is xs ys two.one two.two) in
    record {
      turn = merge_turn (search s old) (search t new) a b list two.both
          (exchange_as (slots_of old) (slots_of new) (xs ++ ys) (both xs ys) (items_of t list) (sym items) (uses xs ys two.one two.two)) others
          (omega (arith, free xs ys two.one two.two, ap (λ (l : Candidates). length l) items)) (held_named _ _ _ _ (list_is xs ys two.one two.two));
      items = items;
      same = same xs ys two.one two.two;
    }

-- an empty list is made
pub none_made : (at : Arena) (s t : Block) (list : NamedList) → t ≡ s → Holds t list [] → IsTurn (search s at) [] (search t at) (list ∷ [])
none_made at s t list same holds = subst (λ (k : Block). IsTurn (search k at) [] (search t at) (list ∷ [])) same (record {
  held = one_made (search t at) list (held_named _ _ _ _ holds) (λ u some. omega (arith, ap (λ (l : Candidates). uses_by l u) (one_all t list ∙ held_items _ _ _ _ holds)));
  swap = record {
    uses = exchange_as (slots_of at) (slots_of at) [] [] (all_of t (list ∷ [])) (sym (one_all t list ∙ held_items _ _ _ _ holds)) (no_exchange (slots_of at) []);
    others = record {
      few = λ few. few;
      stays = λ first last xs h some out. h;
      fresh = λ first last xs h some out m. elim m [ inl e ↦ some (e ∙ nothing_held t list.ends.first list.ends.last holds) | inr o ↦ o ];
    };
    spare = omega (arith, ap (λ (l : Candidates). length l) (one_all t list ∙ held_items _ _ _ _ holds));
  };
})

-- the first of two lists stays where the second is given up
pub second_lost : (old new : Search) (a b : NamedList) → AreHeld old (a ∷ b ∷ []) → IsSwap old (b ∷ []) new [] → IsTurn old (a ∷ b ∷ []) new (a ∷ [])
second_lost old new a b held swap =
    turn_among old new (b ∷ []) [] (a ∷ []) (a ∷ b ∷ []) (a ∷ []) held (IsPermutation-append_comm (b ∷ []) (a ∷ [])) (IsPermutation-refl (a ∷ [])) (none_turn old new (b ∷ []) swap)

-- both classes of a branch above the wire
pub both_carried : (p : Problem) (ws : List Width) (v c : ℕ) (after : Arena) (s t : Block) (branch made : Branch)
    → IsCarriedClass p ws v c false (pairs_of (items_of s branch.even)) (made_of after) (items_of t made.even)
    → IsCarriedClass p ws v c true (pairs_of (items_of s branch.odd)) (made_of after) (items_of t made.odd)
    → IsCarriedAt p ws v c (made_of after) (classes_in t made)
both_carried p ws v c after s t branch made evens odds = ((λ odd. pairs_of (classes_in s branch odd)), each) where
  each : (odd : Bool) → IsCarriedClass p ws v c odd (pairs_of (classes_in s branch odd)) (made_of after) (classes_in t made odd)
  each true = odds
  each false = evens
