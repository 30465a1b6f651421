-- Marks of numbers, and the least numbers without a mark.
use Rattle.std.proofs.Common.{◌≡◌, ◌≢◌, ℕ, zero, suc, ◌+◌, ◌<◌, ◌≤◌, Bool, true, false, cond, List, [], ◌∷◌, ◌++◌, length, get_or, take, refl, sym, ap, ◌∙◌, subst, arith, inl, inr, below_more}
use Rattle.std.proofs.Math.ListN.{set, length-set}
use Rattle.std.specs.List.{All, Contains}
use Rattle.std.proofs.lemmas.Bool.{cases_lt, cases_eq, false≢true}
use Rattle.std.proofs.lemmas.List.{get_or-set_same, get_or-set_other, get_or-take, get_or_past, get_or_default, take-take, length-take-le, length_push, take_all}
use Rattle.std.proofs.lemmas.List.Elements.{All-nil, All-push, All-weaker, All-take, All-more, Contains-push, Contains-append_left}
use Rattle.std.proofs.lemmas.List.Quantifiers.{all_pairs_push}
use Rattle.std.proofs.lemmas.List.Sums.{sum_by-set, count_by_more_yes, count_by_more_no}
use Rattle.spef_nodes.specs.Nodes.{ParNode}
use Rattle.spef_net.specs.declared.net.ParNet.{ParNet}
use Rattle.vg_segment.specs.Segments.{node_of, AreLeastFree}
use Rattle.vg_segment.specs.Leaves.{set_marks, IsFreeAmong, AreMarked, AreUnmarkedBelow, AreLeastUnmarked}

-- a number without a mark is below the end
pub within : (marks : List Bool) (k : ℕ) → get_or marks k true ≡ false → k < length marks
within marks k e = elim (cases_lt k (length marks)) as (λ _. k < length marks) [
  | inl less ↦ less
  | inr more ↦ absurd (false≢true (sym e ∙ get_or_past marks k true more))
]

-- ---- one node more

module _ (net : List ℕ) (nodes : List ParNode) (i last number : ℕ) (marks : List Bool) (d : ParNode) (low : i < length nodes) (few : number ≤ last)
    (is : 0 < number → (get_or nodes i d).name ≡ node_of net number) (found : (k : ℕ) → 0 < k → k ≤ last → (get_or nodes i d).name ≡ node_of net k → number ≡ k)
    (h : AreMarked net (take i nodes) last marks) where
  in_marks : number < length marks
  in_marks = omega (arith, h.size, few)

  start : get_or (set marks number true) 0 false ≡ true
  start = elim (cases_eq number 0) as (λ _. get_or (set marks number true) 0 false ≡ true) [
    | inl same ↦ ap (λ k. get_or (set marks k true) 0 false) same ∙ get_or-set_same marks 0 true false (omega (arith, in_marks))
    | inr differ ↦ get_or-set_other marks number 0 true false (λ e. differ (sym e)) ∙ h.start
  ]

  taken : (k : ℕ) → 0 < k → get_or (set marks number true) k false ≡ true → IsFreeAmong net (take (i + 1) nodes) k → ⊥
  taken k some e all = elim (cases_eq k number) as (λ _. ⊥) [
    | inl same ↦
        all i d (omega (arith, length-take-le (i + 1) nodes (omega arith)))
        (ap (λ (node : ParNode). node.name) (get_or-take (i + 1) nodes i d (omega arith)) ∙ is (omega (arith, same, some)) ∙ ap (node_of net) (sym same))
    | inr differ ↦
        h.taken k some (sym (get_or-set_other marks number k true false differ) ∙ e)
        (subst (λ ns. IsFreeAmong net ns k) (take-take i (i + 1) nodes (omega arith)) (All-take (λ (node : ParNode). node.name ≢ node_of net k) i (take (i + 1) nodes) all))
  ]

  free : (k : ℕ) → 0 < k → get_or (set marks number true) k true ≡ false → IsFreeAmong net (take (i + 1) nodes) k
  free k some e =
      let in_set : k < length marks = omega (arith, within (set marks number true) k e, length-set marks number true) in
      let differ : k ≢ number = λ same. false≢true (sym e ∙ ap (λ n. get_or (set marks number true) n true) same ∙ get_or-set_same marks number true true in_marks) in
      All-more (λ (node : ParNode). node.name ≢ node_of net k) nodes i d low (h.free k some (sym (get_or-set_other marks number k true true differ) ∙ e))
      (λ same. differ (sym (found k some (omega (arith, h.size, in_set)) same)))

  pub marked_more : AreMarked net (take (i + 1) nodes) last (set marks number true)
  marked_more = record {
    size = length-set marks number true ∙ h.size;
    start = start;
    taken = taken;
    free = free;
    few =
        let one : cond (get_or marks number false) 1 0 + 0 ≤ 1 = at_most (get_or marks number false) in
        omega (arith, sum_by-set (λ (mark : Bool). cond mark 1 0) marks number true false in_marks, h.few, length-take-le (i + 1) nodes (omega arith), length-take-le i nodes (omega arith));
  }
    where
      at_most : (b : Bool) → cond b 1 0 + 0 ≤ 1
      at_most true = omega arith
      at_most false = omega arith

-- ---- the least numbers without a mark

pub below_nothing : (marks : List Bool) (count : ℕ) → AreUnmarkedBelow marks count 0 []
below_nothing marks count = record {
  rise = λ i j d l m. absurd (omega (arith, m));
  unmarked = All-nil _;
  all = λ leaf l e. absurd (omega (arith, l));
  few = omega arith;
  many = omega arith;
}

pub below_marked : (marks : List Bool) (count k : ℕ) (leaves : List ℕ) → k < length marks → get_or marks k false ≡ true → AreUnmarkedBelow marks count k leaves → AreUnmarkedBelow marks count (k + 1) leaves
below_marked marks count k leaves l there h = let e : get_or marks k true ≡ true = get_or_default marks k true false l ∙ there in record {
  rise = h.rise;
  unmarked = All-weaker (λ leaf. (leaf < k) × (get_or marks leaf true ≡ false)) (λ leaf. (leaf < k + 1) × (get_or marks leaf true ≡ false)) (λ leaf p. (omega (arith, p.0), p.1)) leaves h.unmarked;
  all = below_more (λ leaf. get_or marks leaf true ≡ false → Contains leaves leaf) k h.all (λ f. absurd (false≢true (sym f ∙ e)));
  few = h.few;
  many = omega (arith, h.many, count_by_more_yes (λ (mark : Bool). mark) marks k true l e);
}

pub below_pushed : (marks : List Bool) (count k : ℕ) (leaves : List ℕ) → k < length marks → get_or marks k false ≡ false → length leaves ≢ count → AreUnmarkedBelow marks count k leaves
    → AreUnmarkedBelow marks count (k + 1) (leaves ++ k ∷ [])
below_pushed marks count k leaves l there room h = let e : get_or marks k true ≡ false = get_or_default marks k true false l ∙ there in record {
  rise = all_pairs_push (λ a b. a < b) leaves k h.rise (λ j d m. (h.unmarked j d m).0);
  unmarked =
      All-push (λ leaf. (leaf < k + 1) × (get_or marks leaf true ≡ false)) leaves k
      (All-weaker (λ leaf. (leaf < k) × (get_or marks leaf true ≡ false)) (λ leaf. (leaf < k + 1) × (get_or marks leaf true ≡ false)) (λ leaf p. (omega (arith, p.0), p.1)) leaves h.unmarked)
      (omega arith, e);
  all = below_more (λ leaf. get_or marks leaf true ≡ false → Contains (leaves ++ k ∷ []) leaf) k (λ leaf m f. Contains-append_left leaves (k ∷ []) leaf (h.all leaf m f)) (λ f. Contains-push leaves k);
  few = omega (arith, h.few, room, length_push leaves k);
  many = omega (arith, h.many, length_push leaves k, count_by_more_no (λ (mark : Bool). mark) marks k true l e);
}

pub below_full : (marks : List Bool) (count k : ℕ) (leaves : List ℕ) → length leaves ≡ count → AreUnmarkedBelow marks count k leaves → AreLeastUnmarked marks count leaves
below_full marks count k leaves e h = record {
  count_is = e;
  rise = h.rise;
  unmarked = All-weaker (λ leaf. (leaf < k) × (get_or marks leaf true ≡ false)) (λ leaf. get_or marks leaf true ≡ false) (λ leaf p. p.1) leaves h.unmarked;
  least = λ leaf f last (j, m, is) l.
      let p = h.unmarked j last m in
      h.all leaf (omega (arith, p.0, is, l)) f;
}

pub below_end : (marks : List Bool) (count k : ℕ) (leaves : List ℕ) → length marks ≤ k → count + set_marks marks ≤ length marks → AreUnmarkedBelow marks count k leaves → AreLeastUnmarked marks count leaves
below_end marks count k leaves l enough h =
    below_full marks count k leaves (omega (arith, l, enough, h.few, h.many, ap set_marks (take_all k marks l))) h

-- they are the least free leaves
pub least_free : (net : ParNet) (last count : ℕ) (marks : List Bool) (leaves : List ℕ) → AreMarked net.name net.nodes last marks → AreLeastUnmarked marks count leaves → AreLeastFree net leaves
least_free net last count marks leaves m h = record {
  rise = h.rise;
  free = All-weaker (λ leaf. get_or marks leaf true ≡ false) (λ leaf. (0 < leaf) × IsFreeAmong net.name net.nodes leaf) (λ leaf e. (some leaf e, m.free leaf (some leaf e) e)) leaves h.unmarked;
  least = λ leaf l f top there below. h.least leaf (unmarked leaf l f (omega (arith, below, in_marks top there))) top there below;
}
  where
    some : (leaf : ℕ) → get_or marks leaf true ≡ false → 0 < leaf
    some zero e = absurd (false≢true (sym e ∙ get_or_default marks 0 true false (omega (arith, m.size)) ∙ m.start))
    some (suc leaf) e = omega arith

    in_marks : (top : ℕ) → Contains leaves top → top < length marks
    in_marks top (j, l, is) = within marks top (ap (λ n. get_or marks n true) (sym is) ∙ h.unmarked j top l)

    by_mark : (leaf : ℕ) (b : Bool) → get_or marks leaf false ≡ b → 0 < leaf → IsFreeAmong net.name net.nodes leaf → leaf < length marks → get_or marks leaf true ≡ false
    by_mark leaf true e l f s = absurd (m.taken leaf l e f)
    by_mark leaf false e l f s = get_or_default marks leaf true false s ∙ e

    unmarked : (leaf : ℕ) → 0 < leaf → IsFreeAmong net.name net.nodes leaf → leaf < length marks → get_or marks leaf true ≡ false
    unmarked leaf l f s = by_mark leaf (get_or marks leaf false) refl l f s

-- none of them is larger than the last marked number
pub few_leaves : (count : ℕ) (marks : List Bool) (leaves : List ℕ) → length marks ≤ 65537 → AreLeastUnmarked marks count leaves → All (λ leaf. leaf ≤ 65536) leaves
few_leaves count marks leaves few h = All-weaker (λ leaf. get_or marks leaf true ≡ false) (λ leaf. leaf ≤ 65536) (λ leaf e. omega (arith, within marks leaf e, few)) leaves h.unmarked
