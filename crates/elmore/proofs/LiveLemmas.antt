-- The nodes with a sink below, as edges are added one by one.
use Rattle.std.proofs.Common.{◌≡◌, ℕ, ◌+◌, ◌<◌, ◌≤◌, ◌≢◌, Bool, true, false, not, ◌&&◌, ◌||◌, List, [], ◌∷◌, Option, refl, sym, ap, ◌∙◌, eqb, arith, inl, inr, length, get_or, set}
use Rattle.std.proofs.lemmas.Bool.{cases_eq, cases_lt, cases_Bool, eq-eqb, ne_eqb, or_right, and_parts, false_from_ne_true}
use Rattle.std.proofs.lemmas.List.{get_or-set_same, get_or-set_other, get_or_past}
use Rattle.std.proofs.lemmas.List.Folds.{list_any_at, list_any_none}
use Rattle.std.proofs.lemmas.List.FromFn.{length-range_with_len, get_or-range_with_len, length-map-range_with_len, get_or-map-range_with_len, fill_by_all}
use mathlib.Core.Path.{fun_ext}
use Rattle.std.specs.List.{list_any}
use Rattle.elmore.specs.Path.{Falls, is_over, nodes as node_numbers}
use Rattle.elmore.specs.Trees.{IsTree, parent_of}
use Rattle.elmore.specs.Problems.{ArePlaces, is_sink, is_live, is_above_sink, is_place, live_nodes, places as places_of}
use Rattle.elmore.specs.declared.tree.Node.{Node}
use Rattle.elmore.specs.declared.parts.Sink.{Sink}
use Rattle.elmore.proofs.PathLemmas.{over_self, over_at_root}
use Rattle.elmore.proofs.HangLemmas.{Hung, over_other, over_hung}
use Rattle.elmore.proofs.CutLemmas.{cut, cut_none, cut_hung}
use Rattle.elmore.proofs.TreeLemmas.{tree_falls, cut_past}

any_of_same : {X : Type 0} (f g : X → Bool) (xs : List X) → ((x : X) → f x ≡ g x) → list_any f xs ≡ list_any g xs
any_of_same {X} f g xs same = ap (λ (p : X → Bool). list_any p xs) (fun_ext same)

any_of_both : {X : Type 0} (f g : X → Bool) (xs : List X) → list_any (λ x. f x || g x) xs ≡ (list_any f xs || list_any g xs)
any_of_both f g [] = refl
any_of_both f g (x ∷ xs) =
    ap (λ (b : Bool). (f x || g x) || b) (any_of_both f g xs) ∙ apart (f x) (g x) (list_any f xs) (list_any g xs)
  where
    apart : (a b c d : Bool) → ((a || b) || (c || d)) ≡ ((a || c) || (b || d))
    apart true b c d = refl
    apart false true true d = refl
    apart false true false d = refl
    apart false false c d = refl

any_at : (test : ℕ → Bool) (n i : ℕ) → i < n → list_any (λ w. test w && eqb w i) (node_numbers n) ≡ test i
any_at test n i i_n =
    elim (cases_Bool (test i)) [
      | inl e ↦
          let read : get_or (node_numbers n) i 0 ≡ i = get_or-range_with_len 0 n i 0 i_n ∙ omega arith in
          list_any_at (λ w. test w && eqb w i) (node_numbers n) i 0 (omega (arith, length-range_with_len 0 n))
          (rw (read, e, eq-eqb i i refl) refl)
          ∙ sym e
      | inr e ↦ list_any_none (λ w. test w && eqb w i) (node_numbers n) (λ k d h. none (get_or (node_numbers n) k d) e) ∙ sym e
    ]
  where
    fails : (b : Bool) → (b && false) ≡ false
    fails true = refl
    fails false = refl

    none : (w : ℕ) → test i ≡ false → (test w && eqb w i) ≡ false
    none w e =
        elim (cases_eq w i) [
          | inl w_i ↦ rw (ap test w_i ∙ e) refl
          | inr w_i ↦ rw (ne_eqb w i w_i) (fails (test w))
        ]

-- some node at or below v passes the test
unfoldable pub some_under : (ℕ → ℕ) → (ℕ → Bool) → ℕ → ℕ → Bool
some_under parent test n v = list_any (λ w. test w && is_over parent v w) (node_numbers n)

-- one more edge: what is below its upper end
some_hung : (before after : ℕ → ℕ) (i p : ℕ) → Hung before after i p → (test : ℕ → Bool) (n : ℕ)
    → some_under after test n p ≡ (some_under before test n p || some_under before test n i)
unfolding some_under
some_hung before after i p h test n =
    any_of_same _ _ (node_numbers n) (λ w. either (test w) _ _ _ (over_hung before after i p h w))
    ∙ any_of_both (λ w. test w && is_over before p w) (λ w. test w && is_over before i w) (node_numbers n)
  where
    either : (t a b c : Bool) → a ≡ (b || c) → (t && a) ≡ ((t && b) || (t && c))
    either true a b c e = e
    either false a b c e = refl

-- and below any other node
some_other : (before after : ℕ → ℕ) (i p : ℕ) → Hung before after i p → (test : ℕ → Bool) (n v : ℕ) → v ≢ p
    → some_under after test n v ≡ some_under before test n v
unfolding some_under
some_other before after i p h test n v v_p =
    any_of_same _ _ (node_numbers n) (λ w. ap (λ (b : Bool). test w && b) (over_other before after i p h v v_p w))

some_alone : (parent : ℕ → ℕ) → ((u : ℕ) → parent u ≡ u) → (test : ℕ → Bool) (n v : ℕ) → v < n → some_under parent test n v ≡ test v
unfolding some_under
some_alone parent alone test n v v_n =
    any_of_same _ _ (node_numbers n) (λ w. ap (λ (b : Bool). test w && b) (only w)) ∙ any_at test n v v_n
  where
    falls : Falls parent
    falls u = omega (arith, alone u)

    only : (w : ℕ) → is_over parent v w ≡ eqb w v
    only w =
        elim (cases_eq w v) [
          | inl e ↦ ap (is_over parent v) e ∙ over_self parent falls v ∙ sym (eq-eqb w v e)
          | inr e ↦ over_at_root parent falls v w (alone w) e ∙ sym (ne_eqb w v e)
        ]

-- each mark says whether a node that passes the test is at or below its node
pub record AreMarks (parent : ℕ → ℕ) (test : ℕ → Bool) (n : ℕ) (marks : List Bool) : Type 0 where
  pub each : (v : ℕ) → v < n → get_or marks v false ≡ some_under parent test n v

-- the pass's step at node i, where it marks its parent and where it does not
pub marks_more : (parent : ℕ → ℕ) (test : ℕ → Bool) (n : ℕ) (marks : List Bool) (i j : ℕ) → i + 1 ≡ j → Falls parent → parent i < i → i < n → n ≤ length marks
    → get_or marks i false ≡ true
    → AreMarks (cut j parent) test n marks
    → AreMarks (cut i parent) test n (set marks (parent i) true)
marks_more parent test n marks i j next falls above i_n room marked before = record {
  each = λ v v_n.
      let h : Hung (cut j parent) (cut i parent) i (parent i) = cut_hung parent falls i j next above in
      elim (cases_eq v (parent i)) [
        | inl e ↦
            ap (λ (u : ℕ). get_or (set marks (parent i) true) u false) e
            ∙ get_or-set_same marks (parent i) true false (omega arith)
            ∙ sym (ap (some_under (cut i parent) test n) e ∙ some_hung _ _ i (parent i) h test n
            ∙ or_right (some_under (cut j parent) test n (parent i)) (some_under (cut j parent) test n i) (sym (before.each i i_n) ∙ marked))
        | inr e ↦
            get_or-set_other marks (parent i) v true false e
            ∙ before.each v v_n
            ∙ sym (some_other _ _ i (parent i) h test n v e)
      ];
}

pub marks_same : (parent : ℕ → ℕ) (test : ℕ → Bool) (n : ℕ) (marks : List Bool) (i j : ℕ) → i + 1 ≡ j → Falls parent → parent i < i → i < n
    → get_or marks i false ≡ false
    → AreMarks (cut j parent) test n marks
    → AreMarks (cut i parent) test n marks
marks_same parent test n marks i j next falls above i_n unmarked before = record {
  each = λ v v_n.
      let h : Hung (cut j parent) (cut i parent) i (parent i) = cut_hung parent falls i j next above in
      elim (cases_eq v (parent i)) [
        | inl e ↦
            before.each v v_n
            ∙ ap (some_under (cut j parent) test n) e
            ∙ sym (ap (some_under (cut i parent) test n) e ∙ some_hung _ _ i (parent i) h test n
            ∙ either (some_under (cut j parent) test n (parent i)) (some_under (cut j parent) test n i) (sym (before.each i i_n) ∙ unmarked))
        | inr e ↦ before.each v v_n ∙ sym (some_other _ _ i (parent i) h test n v e)
      ];
}
  where
    either : (b c : Bool) → c ≡ false → (b || c) ≡ b
    either true c e = refl
    either false c e = e

-- the pass's start and its end
pub marks_begin : (nodes : List Node) (test : ℕ → Bool) (marks : List Bool) → ((v : ℕ) → v < length nodes → get_or marks v false ≡ test v)
    → AreMarks (cut (length nodes) (parent_of nodes)) test (length nodes) marks
marks_begin nodes test marks marked = record {
  each = λ v v_n. marked v v_n ∙ sym (some_alone _ (cut_past nodes) test (length nodes) v v_n);
}

pub marks_end : (nodes : List Node) → IsTree nodes → (sinks : List (Option Sink)) (marks : List Bool) (i : ℕ) → i ≤ 1
    → AreMarks (cut i (parent_of nodes)) (is_sink sinks) (length nodes) marks
    → (v : ℕ) → v < length nodes → get_or marks v false ≡ is_live nodes sinks v
unfolding some_under is_live
marks_end nodes t sinks marks i small at_end v v_n =
    at_end.each v v_n
    ∙ ap (λ (parent : ℕ → ℕ). some_under parent (is_sink sinks) (length nodes) v) (cut_none (parent_of nodes) i small t.root)

-- a test at the numbers of which v is one, and at the others
any_apart : (test over : ℕ → Bool) (n v : ℕ) → v < n → over v ≡ true
    → list_any (λ w. test w && over w) (node_numbers n) ≡ (test v || list_any (λ w. test w && (over w && not (eqb w v))) (node_numbers n))
any_apart test over n v v_n over_v =
    any_of_same _ _ (node_numbers n) each
    ∙ any_of_both (λ w. test w && eqb w v) (λ w. test w && (over w && not (eqb w v))) (node_numbers n)
    ∙ ap (λ (b : Bool). b || list_any (λ w. test w && (over w && not (eqb w v))) (node_numbers n)) (any_at test n v v_n)
  where
    at_v : (t : Bool) → (t && true) ≡ ((t && true) || (t && false))
    at_v true = refl
    at_v false = refl

    other : (t o : Bool) → (t && o) ≡ ((t && false) || (t && (o && true)))
    other true true = refl
    other true false = refl
    other false o = refl

    each : (w : ℕ) → (test w && over w) ≡ ((test w && eqb w v) || (test w && (over w && not (eqb w v))))
    each w =
        elim (cases_eq w v) [
          | inl e ↦ rw (eq-eqb w v e, ap over e ∙ over_v) (at_v (test w))
          | inr e ↦ rw (ne_eqb w v e) (other (test w) (over w))
        ]

-- a node is live where it is a sink or above one
pub live_is : (nodes : List Node) → IsTree nodes → (sinks : List (Option Sink)) (v : ℕ) → v < length nodes
    → is_live nodes sinks v ≡ (is_sink sinks v || is_above_sink nodes sinks v)
unfolding is_live is_above_sink
live_is nodes t sinks v v_n =
    any_apart (is_sink sinks) (is_over (parent_of nodes) v) (length nodes) v v_n (over_self (parent_of nodes) (tree_falls nodes t) v)

-- the places, where no sink is free
pub are_places : (nodes : List Node) → IsTree nodes → (sinks : List (Option Sink)) (free live places : List Bool)
    → ((v : ℕ) → is_sink sinks v ≡ true → get_or free v false ≡ false)
    → live ≡ live_nodes nodes sinks
    → length places ≡ length nodes
    → ((v : ℕ) → v < length nodes → get_or places v false ≡ (get_or free v false && get_or live v false))
    → places ≡ places_of nodes sinks free
are_places nodes t sinks free live places no_sink live_are one_each both =
    fill_by_all (is_place nodes sinks free) places (length nodes) false one_each
    (λ v v_n.
    both v v_n
    ∙ ap (λ (b : Bool). get_or free v false && b)
    (ap (λ (bs : List Bool). get_or bs v false) live_are
    ∙ get_or-map-range_with_len (is_live nodes sinks) 0 (length nodes) v v false v_n (omega arith)
    ∙ live_is nodes t sinks v v_n)
    ∙ each (get_or free v false) (is_sink sinks v) (is_above_sink nodes sinks v) (no_sink v))
  where
    each : (f s a : Bool) → (s ≡ true → f ≡ false) → (f && (s || a)) ≡ (f && a)
    each true true a h = absurd (let e : true ≡ false = h refl in cc)
    each true false a h = refl
    each false s a h = refl

-- so are what a problem calls its places
pub places_are : (nodes : List Node) (sinks : List (Option Sink)) (free : List Bool) → 0 < length nodes
    → ((v : ℕ) → is_sink sinks v ≡ true → get_or free v false ≡ false)
    → get_or free 0 false ≡ false
    → ArePlaces nodes sinks (places_of nodes sinks free)
places_are nodes sinks free some no_sink root = record {
  one_each = length-map-range_with_len (is_place nodes sinks free) 0 (length nodes);
  root = read 0 some ∙ rw root refl;
  no_sink = λ v placed. false_from_ne_true _ (λ sink. absurd (let e : false ≡ true = sym (no_sink v sink) ∙ (parts v placed).0 in cc));
  above = λ v placed. (parts v placed).1;
}
  where
    read : (v : ℕ) → v < length nodes → get_or (places_of nodes sinks free) v false ≡ is_place nodes sinks free v
    read v v_n = get_or-map-range_with_len (is_place nodes sinks free) 0 (length nodes) v v false v_n (omega arith)

    parts : (v : ℕ) → get_or (places_of nodes sinks free) v false ≡ true → (get_or free v false ≡ true) × (is_above_sink nodes sinks v ≡ true)
    parts v placed =
        elim (cases_lt v (length nodes)) [
          | inl low ↦ and_parts (get_or free v false) (is_above_sink nodes sinks v) (sym (read v low) ∙ placed)
          | inr high ↦
              let past : get_or (places_of nodes sinks free) v false ≡ false =
              get_or_past _ v false (omega (arith, length-map-range_with_len (is_place nodes sinks free) 0 (length nodes))) in
              absurd (let e : false ≡ true = sym past ∙ placed in cc)
        ]
