-- The lists that a search keeps of the nodes of a net.
use Rattle.std.proofs.Common.{◌≡◌, ◌≢◌, ℕ, ◌<◌, ◌≤◌, Bool, true, false, List, [], ◌∷◌, ◌++◌, length, map, get_or, refl, sym, ap, ◌∙◌, subst, arith}
use Rattle.std.proofs.Common.{slice_index_or, slice_set, Result, Ok, Err, inl, inr}
use Rattle.std.specs.Prelude.{IfOk, OnOk}
use Rattle.std.proofs.lemmas.Bool.{cases_eq}
use Rattle.std.proofs.lemmas.List.{get_or-map, map-set, get_or-set_same, get_or-set_other, length-map}
use Rattle.vg_num.specs.declared.memory.Memory.{Memory}
use Rattle.elmore.specs.declared.pair.Pair.{Pair}
use Rattle.elmore.specs.declared.problem.Problem.{Problem}
use Rattle.elmore.specs.Pairs.{IsPairAt, IsUndominated}
use Rattle.wire_widths.specs.WidePairs.{IsWidePairAt}
use Rattle.wire_widths.specs.Widths.{plain}
use Rattle.wire_widths.specs.declared.width.Width.{Width}
use Rattle.wire_widths.proofs.PlainLemmas.{plain_pairs}
use Rattle.cand_pairs.proofs.MergeLemmas.{same_exact}
use Rattle.elmore.specs.Problems.{is_live}
use Rattle.sol_arena.specs.declared.slot.Made.{Made}
use Rattle.cand_pairs.specs.Candidates.{IsLive}
use Rattle.cand_pool.specs.Candidates.{Candidates}
use Rattle.cand_uses.specs.Pairs.{pair_of, pairs_of}
use Rattle.cand_turns.specs.Solved.{IsClosedAt}
use Rattle.vg_slack.specs.declared.lists.NodeLists.{NodeLists}
use Rattle.vg_slack.specs.declared.lists.Lists.{Lists}
use Rattle.vg_slack.specs.declared.waiting.Waiting.{Waiting}
use Rattle.vg_slack.specs.Bounds.{most_at}
use Rattle.vg_slack.specs.Kept.{Classes, AreEmpty, kept_in, lists_at, IsKeptAt, IsWideKeptAt, IsKeptOf, AreKept, AreAllKept, AreListsOf}
use Rattle.vg_slack.specs.Waits.{IsThere, AreAllWaiting, IsCrossedOff}
use Rattle.vg_slack.proofs.WaitLemmas.{all_there}

pub on_ok : {P Q : Type 0} (r : Result (Unit {0}) Memory) → (P → Q) → OnOk r P → OnOk r Q
on_ok (Ok x) f p = f p
on_ok (Err e) f p = tt

pub if_ok : {A Q : Type 0} (r : Result A Memory) → Q → IfOk r (λ _. Q)
if_ok (Ok x) q = q
if_ok (Err e) q = tt

-- the lists of node v
abbrev pub at_node : List NodeLists → ℕ → Classes
at_node nodes v = get_or (map kept_in nodes) v (λ odd. [])

-- both lists were empty, and were filled
pub both_kept : (old made : NodeLists) (lists : Classes) → AreEmpty (kept_in old) → made.even.items ≡ old.even.items ++ lists false
    → made.odd.items ≡ old.odd.items ++ lists true → (odd : Bool) → kept_in made odd ≡ lists odd
both_kept old made lists none even is_odd true = is_odd ∙ ap (λ (xs : List Pair). xs ++ lists true) (none true)
both_kept old made lists none even is_odd false = even ∙ ap (λ (xs : List Pair). xs ++ lists false) (none false)

pub kept_here : (nodes : List NodeLists) (v : ℕ) (kept : NodeLists) → v < length nodes → kept ≡ slice_index_or nodes v kept
    → at_node nodes v ≡ kept_in kept
kept_here nodes v kept low is = get_or-map kept_in nodes v kept (λ odd. []) low ∙ ap (λ (x : NodeLists). kept_in x) (sym is)

pub kept_set : (nodes : List NodeLists) (v : ℕ) (kept : NodeLists) → v < length nodes → at_node (slice_set nodes v kept) v ≡ kept_in kept
kept_set nodes v kept low =
    ap (λ (all : List Classes). get_or all v (λ odd. [])) (map-set kept_in nodes v kept)
    ∙ get_or-set_same (map kept_in nodes) v (kept_in kept) (λ odd. []) (omega (arith, low, length-map nodes kept_in))

pub kept_other : (nodes : List NodeLists) (v w : ℕ) (kept : NodeLists) → w ≢ v → at_node (slice_set nodes v kept) w ≡ at_node nodes w
kept_other nodes v w kept other =
    ap (λ (all : List Classes). get_or all w (λ odd. [])) (map-set kept_in nodes v kept)
    ∙ get_or-set_other (map kept_in nodes) v w (kept_in kept) (λ odd. []) other

-- no node came in yet
pub none_kept : (p : Problem) (ws : List Width) (w : Waiting) (lists : Lists) → AreAllWaiting p w → ((v : ℕ) → AreEmpty (lists_at lists v)) → AreKept p ws w lists
none_kept p ws w lists waiting none = record {
  done = λ v v_n gone. absurd (gone (all_there waiting v v_n));
  ahead = λ v there. none v;
}

-- the candidates of node i were kept
pub live_kept : (p : Problem) (ws : List Width) (i : ℕ) (new : Lists) (ms : List Made) (classes : Bool → Candidates) → IsClosedAt p ws i ms classes → IsLive p i
    → (length ws ≡ 1 → (odd : Bool) → length (classes odd) ≤ most_at p i) → ((odd : Bool) → lists_at new i odd ≡ pairs_of (classes odd)) → IsWideKeptAt p ws i (lists_at new i)
live_kept p ws i new ms classes closed live few here = record {
  live = λ again odd. subst (λ (xs : List Pair). IsUndominated (IsWidePairAt p ws i odd) xs) (sym (here odd)) (closed.exact odd);
  dead = λ dead. absurd (cc);
  few = λ one odd. omega (arith, few one odd, ap (λ (xs : List Pair). length xs) (here odd), length-map (classes odd) pair_of);
}

-- no sink is at node i or below it
pub dead_kept : (p : Problem) (ws : List Width) (i : ℕ) (lists : Lists) → AreEmpty (lists_at lists i) → is_live p.tree.nodes p.sinks i ≡ false
    → IsWideKeptAt p ws i (lists_at lists i)
dead_kept p ws i lists none dead = record {
  live = λ live odd. absurd (cc);
  dead = λ again. none;
  few = λ one odd. omega (arith, ap (λ (xs : List Pair). length xs) (none odd));
}

-- those of node i stand beside what was kept
kept_beside : (p : Problem) (ws : List Width) (old new : Lists) (v : ℕ) → length new.nodes.items ≡ length old.nodes.items → lists_at new v ≡ lists_at old v
    → IsKeptOf p ws old v → IsKeptOf p ws new v
kept_beside p ws old new v nodes same kept low = subst (λ (lists : Classes). IsWideKeptAt p ws v lists) (sym same) (kept (omega (arith, low, nodes)))

pub kept_more : (p : Problem) (ws : List Width) (i : ℕ) (w w' : Waiting) (old new : Lists) → IsCrossedOff p i w w' → AreKept p ws w old
    → length new.nodes.items ≡ length old.nodes.items → ((v : ℕ) → v ≢ i → lists_at new v ≡ lists_at old v) → IsKeptOf p ws new i → AreKept p ws w' new
kept_more p ws i w w' old new crossed before nodes others here = record {
  done = λ v v_n gone. elim (cases_eq v i) [
    | inl e ↦ subst (IsKeptOf p ws new) (sym e) here
    | inr other ↦ kept_beside p ws old new v nodes (others v other) (before.done v v_n (λ there. gone (crossed.still v other there)))
  ];
  ahead = λ v there odd.
      ap (λ (lists : Classes). lists odd) (others v (λ e. crossed.came (subst (IsThere p w') e there))) ∙ before.ahead v (crossed.was v there) odd;
}

-- and those of the root
pub root_kept : (p : Problem) (ws : List Width) (old new : Lists) → ((v : ℕ) → v < length p.tree.nodes → v ≢ 0 → IsKeptOf p ws old v)
    → length new.nodes.items ≡ length old.nodes.items → ((v : ℕ) → v ≢ 0 → lists_at new v ≡ lists_at old v) → IsKeptOf p ws new 0 → AreAllKept p ws new
root_kept p ws old new below nodes others here v v_n = elim (cases_eq v 0) [
  | inl e ↦ subst (IsKeptOf p ws new) (sym e) here
  | inr other ↦ kept_beside p ws old new v nodes (others v other) (below v v_n other)
]

-- with one width lists are kept as without widths
pub kept_plain : (p : Problem) (v : ℕ) (lists : Classes) → IsWideKeptAt p (plain ∷ []) v lists → IsKeptAt p v lists
kept_plain p v lists is = record {
  live = λ live odd. same_exact (IsWidePairAt p (plain ∷ []) v odd) (IsPairAt p v odd) (lists odd) (λ x. (plain_pairs p v odd x).0) (λ x. (plain_pairs p v odd x).1) (is.live live odd);
  dead = is.dead;
  few = is.few refl;
}

-- those of all nodes
pub all_listed : (p : Problem) (lists : Lists) → length lists.nodes.items ≡ length p.tree.nodes → AreAllKept p (plain ∷ []) lists → AreListsOf p true lists
all_listed p lists all kept = (all, λ v v_n. kept_plain p v (lists_at lists v) (kept v v_n (omega (arith, all, v_n))))

-- or none
no_items : (xs : List NodeLists) → length xs ≡ 0 → xs ≡ []
no_items [] none = refl
no_items (x ∷ xs) none = absurd (omega (arith, none))

pub none_listed : (p : Problem) (lists : Lists) → length lists.nodes.items ≡ 0 → AreListsOf p false lists
none_listed p lists none = no_items lists.nodes.items none
