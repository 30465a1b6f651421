-- The children of a node from a number on, as the nodes come in from the last to the first.
use Rattle.std.proofs.Common.{◌≡◌, ℕ, zero, suc, ◌+◌, ◌-◌, ◌<◌, ◌≤◌, Bool, true, false, not, cond, List, [], ◌∷◌, length, refl, sym, ap, ◌∙◌, subst, arith, inl, inr}
use Rattle.std.proofs.lemmas.Bool.{cases_eq, eq-eqb, ne_eqb}
use Rattle.std.proofs.lemmas.List.Sums.{sum_by-cons}
use Rattle.std.proofs.lemmas.List.FromFn.{length-range_with_len, get_or-range_with_len}
use Rattle.std.specs.List.{Contains, filter, sum_by, range_with_len}
use Rattle.elmore.specs.Path.{is_child}
use Rattle.elmore.specs.Placements.{IsSinkAt}
use Rattle.elmore.specs.Problems.{is_live}
use Rattle.elmore.specs.Trees.{parent_of, capacitance}
use Rattle.elmore.specs.Wire.{downstream_in}
use Rattle.cand_pairs.specs.Candidates.{live_children, own_capacitance, IsLive}
use Rattle.cand_pairs.specs.Merging.{HasEnd, children_from, live_from, own_from}
use Rattle.elmore.specs.declared.problem.Problem.{Problem}
use Rattle.elmore.proofs.TreeLemmas.{tree_falls}
use Rattle.elmore.proofs.PathLemmas.{over_self, over_trans}
use Rattle.cand_pairs.proofs.ChildLemmas.{IsChild, child_above, child_over, over_child, filter_parts}
use Rattle.cand_pairs.proofs.LiveChildLemmas.{live_sees, seen_live, seen_sink, sink_live}
use Rattle.cand_pairs.proofs.PairPartLemmas.{IsLiveChild, live_child_parts, live_child_from}

pub range_step : (i n : ℕ) → i < n → range_with_len i (n - i) ≡ i ∷ range_with_len (i + 1) (n - (i + 1))
range_step i n i_n =
    let more : n - i ≡ suc (n - (i + 1)) = omega arith in
    ap (range_with_len i) more

range_low : (a n w : ℕ) → Contains (range_with_len a n) w → a ≤ w
range_low a n w (k, k_n, e) =
    omega (arith, length-range_with_len a n, get_or-range_with_len a n k w (omega (arith, length-range_with_len a n)))

-- a node that comes in as a child of v, and one that does not
pub children_here : (p : Problem) (v i : ℕ) → IsChild p.tree.nodes v i → children_from p v i ≡ i ∷ children_from p v (i + 1)
children_here p v i child =
    ap (filter (is_child (parent_of p.tree.nodes) v)) (range_step i (length p.tree.nodes) child.node)
    ∙ ap (λ (b : Bool). cond b (i ∷ children_from p v (i + 1)) (children_from p v (i + 1))) is
  where
    is : is_child (parent_of p.tree.nodes) v i ≡ true
    is = rw (eq-eqb (parent_of p.tree.nodes i) v child.parent, ne_eqb i v child.other) refl

pub children_other : (p : Problem) (v i : ℕ) → i < length p.tree.nodes → (IsChild p.tree.nodes v i → ⊥) → children_from p v i ≡ children_from p v (i + 1)
children_other p v i i_n no_child =
    ap (filter (is_child (parent_of p.tree.nodes) v)) (range_step i (length p.tree.nodes) i_n)
    ∙ ap (λ (b : Bool). cond b (i ∷ children_from p v (i + 1)) (children_from p v (i + 1))) is
  where
    is : is_child (parent_of p.tree.nodes) v i ≡ false
    is =
        elim (cases_eq (parent_of p.tree.nodes i) v) [
          | inr other ↦ rw (ne_eqb (parent_of p.tree.nodes i) v other) refl
          | inl e ↦ elim (cases_eq i v) [
            | inl self ↦ rw (eq-eqb (parent_of p.tree.nodes i) v e, eq-eqb i v self) refl
            | inr other ↦ absurd (no_child (record { parent = e; other = other; node = i_n }))
          ]
        ]

pub live_here : (p : Problem) (v i : ℕ) → IsChild p.tree.nodes v i → is_live p.tree.nodes p.sinks i ≡ true
    → live_from p v i ≡ i ∷ live_from p v (i + 1)
live_here p v i child live =
    ap (filter (λ u. is_live p.tree.nodes p.sinks u)) (children_here p v i child)
    ∙ ap (λ (b : Bool). cond b (i ∷ live_from p v (i + 1)) (live_from p v (i + 1))) live

pub live_own : (p : Problem) (v i : ℕ) → IsChild p.tree.nodes v i → IsLive p i → own_from p v i ≡ own_from p v (i + 1)
live_own p v i child live =
    ap (λ (us : List ℕ). capacitance p.tree.nodes v + sum_by (downstream_in p.tree.nodes) us)
    (ap (filter (λ u. not (is_live p.tree.nodes p.sinks u))) (children_here p v i child)
    ∙ ap (λ (b : Bool). cond (not b) (i ∷ rest) rest) live)
  where
    rest : List ℕ
    rest = filter (λ u. not (is_live p.tree.nodes p.sinks u)) (children_from p v (i + 1))

pub dead_here : (p : Problem) (v i : ℕ) → IsChild p.tree.nodes v i → is_live p.tree.nodes p.sinks i ≡ false → live_from p v i ≡ live_from p v (i + 1)
dead_here p v i child dead =
    ap (filter (λ u. is_live p.tree.nodes p.sinks u)) (children_here p v i child)
    ∙ ap (λ (b : Bool). cond b (i ∷ live_from p v (i + 1)) (live_from p v (i + 1))) dead

pub dead_own : (p : Problem) (v i : ℕ) → IsChild p.tree.nodes v i → is_live p.tree.nodes p.sinks i ≡ false
    → own_from p v i ≡ own_from p v (i + 1) + downstream_in p.tree.nodes i
dead_own p v i child dead =
    omega (
      arith,
      ap (λ (us : List ℕ). sum_by (downstream_in p.tree.nodes) us)
          (ap (filter (λ u. not (is_live p.tree.nodes p.sinks u))) (children_here p v i child)
          ∙ ap (λ (b : Bool). cond (not b) (i ∷ rest) rest) dead),
      sum_by-cons (downstream_in p.tree.nodes) i rest,
    )
  where
    rest : List ℕ
    rest = filter (λ u. not (is_live p.tree.nodes p.sinks u)) (children_from p v (i + 1))

pub other_live : (p : Problem) (v i : ℕ) → i < length p.tree.nodes → (IsChild p.tree.nodes v i → ⊥) → live_from p v i ≡ live_from p v (i + 1)
other_live p v i i_n no_child = ap (filter (λ u. is_live p.tree.nodes p.sinks u)) (children_other p v i i_n no_child)

pub other_own : (p : Problem) (v i : ℕ) → i < length p.tree.nodes → (IsChild p.tree.nodes v i → ⊥) → own_from p v i ≡ own_from p v (i + 1)
other_own p v i i_n no_child =
    ap (λ (us : List ℕ). capacitance p.tree.nodes v + sum_by (downstream_in p.tree.nodes) (filter (λ u. not (is_live p.tree.nodes p.sinks u)) us))
    (children_other p v i i_n no_child)

-- a child that comes in was not there
pub not_yet : (p : Problem) (v i : ℕ) → Contains (live_from p v (i + 1)) i → ⊥
not_yet p v i found =
    let (among, live) = filter_parts (λ u. is_live p.tree.nodes p.sinks u) (children_from p v (i + 1)) i found in
    let (later, is) = filter_parts (is_child (parent_of p.tree.nodes) v) (range_with_len (i + 1) (length p.tree.nodes - (i + 1))) i among in
    absurd (omega (arith, range_low (i + 1) (length p.tree.nodes - (i + 1)) i later))

-- at first none is there, and when v comes in all its children are
pub children_none : (p : Problem) (v : ℕ) → children_from p v (length p.tree.nodes) ≡ []
children_none p v =
    let none : length p.tree.nodes - length p.tree.nodes ≡ 0 = omega arith in
    ap (λ (k : ℕ). filter (is_child (parent_of p.tree.nodes) v) (range_with_len (length p.tree.nodes) k)) none

pub children_all : (p : Problem) (v i : ℕ) → i ≤ v + 1 → v < length p.tree.nodes → children_from p v i ≡ children_from p v 0
children_all p v zero low v_n = refl
children_all p v (suc i) low v_n =
    let next : suc i ≡ i + 1 = omega arith in
    ap (children_from p v) next
    ∙ sym (children_other p v i (omega arith) (λ child. omega (arith, child_above p.tree.nodes p.tree.a_tree v i child)))
    ∙ children_all p v i (omega arith) v_n

whole : (p : Problem) (v : ℕ) → length p.tree.nodes - 0 ≡ length p.tree.nodes
whole p v = omega arith

pub live_all : (p : Problem) (v : ℕ) → v < length p.tree.nodes → live_from p v (v + 1) ≡ live_children p v
live_all p v v_n =
    ap (filter (λ u. is_live p.tree.nodes p.sinks u))
    (children_all p v (v + 1) (omega arith) v_n
    ∙ ap (λ (k : ℕ). filter (is_child (parent_of p.tree.nodes) v) (range_with_len 0 k)) (whole p v))

pub own_all : (p : Problem) (v : ℕ) → v < length p.tree.nodes → own_from p v (v + 1) ≡ own_capacitance p v
own_all p v v_n =
    ap (λ (us : List ℕ). capacitance p.tree.nodes v + sum_by (downstream_in p.tree.nodes) (filter (λ u. not (is_live p.tree.nodes p.sinks u)) us))
    (children_all p v (v + 1) (omega arith) v_n
    ∙ ap (λ (k : ℕ). filter (is_child (parent_of p.tree.nodes) v) (range_with_len 0 k)) (whole p v))

-- a node is live just where a sink is at it or a child is live
pub live_end : (p : Problem) (v : ℕ) → IsLive p v → HasEnd p v (live_children p v)
live_end p v live =
    let (w, is) = live_sees p.tree.nodes p.sinks v live in
    let (sink, here) = seen_sink p.tree.nodes p.sinks v w is in
    elim (cases_eq w v) [
      | inl e ↦ inr (sink, subst (λ (k : ℕ). IsSinkAt p k sink) e here)
      | inr other ↦
          let (u, below) = child_over p.tree.nodes p.tree.a_tree v w is.over other in
          inl (u, live_child_from p v u (record { child = below.child; live = sink_live p u w sink here below.over }))
    ]

pub end_live : (p : Problem) (v : ℕ) → HasEnd p v (live_children p v) → IsLive p v
end_live p v end =
    elim end [
      | inl (u, found) ↦
          let child : IsLiveChild p v u = live_child_parts p v u found in
          let (w, is) = live_sees p.tree.nodes p.sinks u child.live in
          seen_live p.tree.nodes p.sinks v w (record {
            node = is.node;
            sink = is.sink;
            over = over_trans (parent_of p.tree.nodes) (tree_falls p.tree.nodes p.tree.a_tree) v u w (over_child p.tree.nodes p.tree.a_tree v u child.child) is.over;
          })
      | inr (sink, here) ↦ sink_live p v v sink here (over_self (parent_of p.tree.nodes) (tree_falls p.tree.nodes p.tree.a_tree) v)
    ]
