-- The parts of all nodes: one is exchanged, and the others stay.
use Rattle.std.proofs.Common.{◌≡◌, ◌≢◌, ℕ, ◌+◌, ◌<◌, Bool, true, false, List, [], ◌∷◌, ◌++◌, length, set, zero, suc}
use Rattle.std.proofs.Common.{refl, sym, ap, ◌∙◌, subst, arith}
use Rattle.std.proofs.lemmas.List.{append-nil, append_assoc, set-get_or, length-set, get_or-set_other}
use Rattle.std.proofs.lemmas.List.Elements.{All-nil, Contains-append_left, Contains-append_right}
use Rattle.std.proofs.lemmas.List.Sorted.{IsPermutation-refl, IsPermutation-trans}
use Rattle.std.proofs.lemmas.List.Sorted.{IsPermutation-append_left, IsPermutation-append_right, IsPermutation-append_comm}
use Rattle.std.specs.List.{Contains}
use Rattle.std.specs.List.Sorted.{IsPermutation}
use Rattle.elmore.specs.declared.problem.Problem.{Problem}
use Rattle.sol_arena.specs.declared.arena.Arena.{Arena}
use Rattle.sol_arena.specs.declared.slot.Made.{Made}
use Rattle.sol_arena.specs.Arenas.{slots_of, made_of}
use Rattle.sol_arena.specs.Reach.{IsRestored}
use Rattle.sol_arena.specs.Uses.{held_of}
use Rattle.sol_arena.proofs.ReachLemmas.{restored}
use Rattle.cand_pairs.specs.Candidates.{fork_of}
use Rattle.cand_pairs.specs.Merging.{live_from, own_from}
use Rattle.wire_widths.specs.WideSolutions.{IsWideOpenSolutionOf}
use Rattle.wire_widths.specs.declared.width.Width.{Width}
use Rattle.wire_widths.proofs.WideWordLemmas.{wide_live_stays}
use Rattle.cand_pairs.proofs.ChildLemmas.{IsChild}
use Rattle.cand_pairs.proofs.FromLemmas.{other_live, other_own}
use Rattle.cand_pairs.proofs.TurnLemmas.{dead_stays}
use Rattle.cand_pool.specs.Candidates.{Candidates}
use Rattle.cand_pool.specs.Pools.{Block, IsLive}
use Rattle.cand_pool.specs.declared.ends.List.{List as NamedList}
use Rattle.cand_pool.proofs.PoolMoves.{keeps_itself}
use Rattle.cand_uses.specs.Pairs.{pairs_of}
use Rattle.cand_uses.specs.Uses.{HoldsBeside}
use Rattle.cand_uses.proofs.ExchangeLemmas.{no_exchange}
use Rattle.cand_turns.specs.declared.branch.Branch.{Branch}
use Rattle.cand_turns.specs.declared.part.Part.{Part}
use Rattle.cand_turns.specs.declared.part.Part.TheVariants.{Dead, Live}
use Rattle.cand_turns.specs.Swaps.{Search, Lists, names, all_of, search, AreHeld, IsSwap, IsTurn, AreOf}
use Rattle.cand_turns.specs.Branches.{classes_in}
use Rattle.cand_turns.specs.Parts.{lists_in, size_in, IsPart}
use Rattle.cand_turns.specs.Solved.{AreSolved, IsOpenAt}
use Rattle.cand_turns.proofs.SwapLemmas.{turn_among, order_held, front_held, other_items}
use Rattle.cand_turns.proofs.MeetLemmas.{IsOpenClass, open_beside}
use Rattle.vg_slack.specs.Climbs.{all_lists, part_at, without}

-- LISTS OF PARTS
pub all_more : (parts : List Part) (part : Part) → all_lists (parts ++ part ∷ []) ≡ all_lists parts ++ lists_in part
all_more [] part = append-nil (lists_in part)
all_more (x ∷ xs) part = ap (λ (ls : Lists). lists_in x ++ ls) (all_more xs part) ∙ sym (append_assoc (lists_in x) (all_lists xs) (lists_in part))

second_first : (xs ys zs : Lists) → IsPermutation (xs ++ (ys ++ zs)) (ys ++ (xs ++ zs))
second_first xs ys zs =
    subst (λ (ls : Lists). IsPermutation ls (ys ++ (xs ++ zs))) (append_assoc xs ys zs)
    (subst (λ (ls : Lists). IsPermutation (xs ++ ys ++ zs) ls) (append_assoc ys xs zs)
    (IsPermutation-append_left zs (xs ++ ys) (ys ++ xs) (IsPermutation-append_comm xs ys)))

-- a part in the place of one that was taken away
pub with_part : (parts : List Part) (v : ℕ) (x : Part) → v < length parts → AreOf (lists_in x) (all_lists (without parts v)) (all_lists (set parts v x))
with_part [] v x v_n = absurd (omega arith)
with_part (y ∷ ys) zero x v_n = IsPermutation-refl (lists_in x ++ all_lists ys)
with_part (y ∷ ys) (suc v) x v_n =
    IsPermutation-trans (lists_in x ++ (lists_in y ++ all_lists (without ys v))) (lists_in y ++ (lists_in x ++ all_lists (without ys v)))
    (lists_in y ++ all_lists (set ys v x))
    (second_first (lists_in x) (lists_in y) (all_lists (without ys v)))
    (IsPermutation-append_right (lists_in y) (lists_in x ++ all_lists (without ys v)) (all_lists (set ys v x)) (with_part ys v x (omega arith)))

of_parts : (parts : List Part) (v : ℕ) → v < length parts → AreOf (lists_in (part_at parts v)) (all_lists (without parts v)) (all_lists parts)
of_parts parts v v_n =
    subst (λ (xs : List Part). AreOf (lists_in (part_at parts v)) (all_lists (without parts v)) (all_lists xs)) (set-get_or parts v (Dead 0))
    (with_part parts v (part_at parts v) v_n)

-- two of the parts
module _ (parts : List Part) (v w : ℕ) (v_n : v < length parts) (w_n : w < length parts) (other : w ≢ v) where
  abbrev upper : Lists
  upper = lists_in (part_at parts w)

  abbrev lower : Lists
  lower = lists_in (part_at parts v)

  abbrev rest : Lists
  rest = all_lists (without (without parts v) w)

  pub two_of_parts : AreOf (upper ++ lower) rest (all_lists parts)
  two_of_parts =
      subst (λ (ls : Lists). IsPermutation ls (all_lists parts)) (sym (append_assoc upper lower rest))
      (IsPermutation-trans (upper ++ (lower ++ rest)) (lower ++ (upper ++ rest)) (all_lists parts) (second_first upper lower rest)
      (IsPermutation-trans (lower ++ (upper ++ rest)) (lower ++ all_lists (without parts v)) (all_lists parts)
      (IsPermutation-append_right lower (upper ++ rest) (all_lists (without parts v))
      (subst (λ (x : Part). AreOf (lists_in x) rest (all_lists (without parts v))) (get_or-set_other parts v w (Dead 0) (Dead 0) other)
      (of_parts (without parts v) w (omega (arith, w_n, length-set parts v (Dead 0))))))
      (of_parts parts v v_n)))

-- each part's lists are among all
pub in_all_parts : (parts : List Part) (w : ℕ) (l : NamedList) → w < length parts → Contains (lists_in (part_at parts w)) l → Contains (all_lists parts) l
in_all_parts [] w l w_n found = absurd (omega arith)
in_all_parts (x ∷ xs) zero l w_n found = Contains-append_left (lists_in x) (all_lists xs) l found
in_all_parts (x ∷ xs) (suc w) l w_n found = Contains-append_right (lists_in x) (all_lists xs) l (in_all_parts xs w l (omega arith) found)

-- where no part has lists
none_left : (parts : List Part) → ((v : ℕ) → v < length parts → lists_in (part_at parts v) ≡ []) → all_lists parts ≡ []
none_left [] none = refl
none_left (x ∷ xs) none =
    ap (λ (ls : Lists). ls ++ all_lists xs) (none 0 (omega arith)) ∙ none_left xs (λ v v_n. none (suc v) (omega arith))

-- or the first alone
pub one_left : (parts : List Part) → 0 < length parts → ((v : ℕ) → v < length parts → v ≢ 0 → lists_in (part_at parts v) ≡ [])
    → all_lists parts ≡ lists_in (part_at parts 0)
one_left [] some none = absurd (omega arith)
one_left (x ∷ xs) some none =
    ap (λ (ls : Lists). lists_in x ++ ls) (none_left xs (λ v v_n. none (suc v) (omega arith) (λ e. omega (arith, e)))) ∙ append-nil (lists_in x)

-- SWAPS
-- lists that were given for none
pub given_up : (old new : Search) (given : Lists) → IsSwap old given new [] → IsTurn old given new []
given_up old new given swap = record {
  held = record { live = All-nil (IsLive new.pool); apart = λ k some. omega arith; uses = λ s some. omega arith };
  swap = swap;
}

-- the later ones of some lists are held, and may be given for others
pub back_held : (at : Search) (xs ys : Lists) → AreHeld at (xs ++ ys) → AreHeld at ys
back_held at xs ys held = front_held at ys xs (order_held at (xs ++ ys) (ys ++ xs) (IsPermutation-append_comm xs ys) held)

pub back_turn : (old new : Search) (others given made : Lists) → AreHeld old (others ++ given) → IsTurn old given new made
    → IsTurn old (others ++ given) new (others ++ made)
back_turn old new others given made held turn =
    turn_among old new given made others (others ++ given) (others ++ made) held (IsPermutation-append_comm given others) (IsPermutation-append_comm made others) turn

-- or for none
pub back_lost : (old new : Search) (others given : Lists) → AreHeld old (others ++ given) → IsSwap old given new [] → IsTurn old (others ++ given) new others
back_lost old new others given held swap =
    subst (λ (lists : Lists). IsTurn old (others ++ given) new lists) (append-nil others)
    (back_turn old new others given [] held (given_up old new given swap))

-- PARTS THAT STAY
pub part_stays : (p : Problem) (ws : List Width) (i w : ℕ) (ms : List Made) (s : Block) (x : Part) → i < length p.tree.nodes → (IsChild p.tree.nodes w i → ⊥)
    → IsPart p ws (i + 1) w ms s x → IsPart p ws i w ms s x
part_stays p ws i w ms s (Dead c) i_n no_child part = dead_stays p w i c i_n no_child part
part_stays p ws i w ms s (Live branch) i_n no_child part = record {
  part = wide_live_stays p ws w i (λ odd. pairs_of (classes_in s branch odd)) i_n no_child part.part;
  solved = λ odd.
      subst (λ (us : List ℕ). AreSolved (IsWideOpenSolutionOf p ws odd (fork_of w (own_from p w i) us)) ms (classes_in s branch odd))
      (sym (other_live p w i i_n no_child))
      (subst (λ (own : ℕ). AreSolved (IsWideOpenSolutionOf p ws odd (fork_of w own (live_from p w (i + 1)))) ms (classes_in s branch odd))
      (sym (other_own p w i i_n no_child)) (part.solved odd));
}

-- a part that stands beside a swap
module _ (p : Problem) (ws : List Width) (i v : ℕ) (old new : Arena) (s t : Block) (given made others : Lists) (held : AreHeld (search s old) (given ++ others))
    (turn : IsTurn (search s old) given (search t new) made) where
  branch_beside : (branch : Branch) → ((l : NamedList) → Contains (lists_in (Live branch)) l → Contains others l)
      → IsOpenAt p ws i v (made_of old) (classes_in s branch) → IsOpenAt p ws i v (made_of new) (classes_in t branch)
  branch_beside branch among at = record {
    part = record { end = at.part.end; exact = λ odd. (both odd).exact };
    solved = λ odd. (both odd).solved;
  } where
    both : (odd : Bool) → IsOpenClass p ws i v odd (made_of new) (classes_in t branch odd)
    both true =
        open_beside p ws i v true old new s t given made others held turn branch.odd (among branch.odd (1, omega arith, refl))
        (record { exact = at.part.exact true; solved = at.solved true })
    both false =
        open_beside p ws i v false old new s t given made others held turn branch.even (among branch.even (0, omega arith, refl))
        (record { exact = at.part.exact false; solved = at.solved false })

  pub part_beside : (x : Part) → ((l : NamedList) → Contains (lists_in x) l → Contains others l) → IsPart p ws i v (made_of old) s x
      → IsPart p ws i v (made_of new) t x
  part_beside (Dead c) among part = part
  part_beside (Live branch) among part = branch_beside branch among part

-- and keeps its size
pub size_beside : (old new : Search) (given made others : Lists) → AreHeld old (given ++ others) → IsTurn old given new made → (x : Part)
    → ((l : NamedList) → Contains (lists_in x) l → Contains others l) → (odd : Bool) → size_in new.pool x odd ≡ size_in old.pool x odd
size_beside old new given made others held turn (Dead c) among odd = refl
size_beside old new given made others held turn (Live branch) among true =
    ap (λ (xs : Candidates). length xs) (other_items old new given made others held turn branch.odd (among branch.odd (1, omega arith, refl)))
size_beside old new given made others held turn (Live branch) among false =
    ap (λ (xs : Candidates). length xs) (other_items old new given made others held turn branch.even (among branch.even (0, omega arith, refl)))

-- a part more beside all that are there
pub start_more : (old new : Search) (parts : List Part) (part : Part) → AreHeld old (all_lists parts) → IsTurn old [] new (lists_in part)
    → IsTurn old (all_lists parts) new (all_lists (parts ++ part ∷ []))
start_more old new parts part held turn =
    subst (λ (lists : Lists). IsTurn old (all_lists parts) new lists) (sym (all_more parts part))
    (turn_among old new [] (lists_in part) (all_lists parts) (all_lists parts) (all_lists parts ++ lists_in part) held (IsPermutation-refl (all_lists parts))
    (IsPermutation-append_comm (lists_in part) (all_lists parts)) turn)

-- the lists of the last part alone
pub last_alone : (at : Search) (rest : List Part) (last : Part) → AreHeld at (all_lists (rest ++ last ∷ [])) → AreHeld at (lists_in last)
last_alone at rest last held = back_held at (all_lists rest) (lists_in last) (subst (AreHeld at) (all_more rest last) held)

-- the last part was given up
pub last_given : (old new : Search) (rest : List Part) (last : Part) → AreHeld old (all_lists (rest ++ last ∷ [])) → IsSwap old (lists_in last) new []
    → IsTurn old (all_lists (rest ++ last ∷ [])) new (all_lists rest)
last_given old new rest last held swap =
    subst (λ (lists : Lists). IsTurn old lists new (all_lists rest)) (sym (all_more rest last))
    (back_lost old new (all_lists rest) (lists_in last) (subst (AreHeld old) (all_more rest last) held) swap)

-- nothing happened yet
pub turn_itself : (at : Search) (lists : Lists) → AreHeld at lists → IsTurn at lists at lists
turn_itself at lists held = record {
  held = held;
  swap = record { uses = no_exchange at.slots (all_of at.pool lists); others = keeps_itself at.pool (names lists); spare = omega arith };
}

-- where no list was given and none is left, the arena is as it was
pub swap_restores : (old new : Arena) (s t : Block) → IsSwap (search s old) [] (search t new) [] → IsRestored (slots_of old) (slots_of new)
swap_restores old new s t swap =
    restored old new (λ u some. omega (arith, swap.uses.held (held_of (slots_of old)) beside u some)) (swap.uses.frame (held_of (slots_of old)) beside)
  where
    beside : HoldsBeside (slots_of old) [] (held_of (slots_of old))
    beside u some = omega arith
