-- Boxes around boxes.
use Rattle.std.proofs.lemmas.Bool.{cases_lt}
use Rattle.std.proofs.lemmas.List.{get_or_default}
use Rattle.std.proofs.lemmas.List.Folds.{list_any_at, list_any_none, list_any-append}
use Rattle.std.proofs.Common.{ℕ, ◌+◌, ◌<◌, length, subst, ap, ◌∙◌, to_z, of_z, SFits, get_or, ◌≡◌, Bool, true, false, ◌&&◌, ◌||◌, ◌++◌, ◌≤ℤ◌, ℤ, List, inl, inr, refl, sym, arith}
use Rattle.std.proofs.lemmas.Int.{ints, to_z-of_z}
use Rattle.std.specs.Int.{w128}
use Rattle.std.specs.List.{All, list_any}
use Rattle.vg_cons.specs.BoxTrees.{Covers, IsTree, boxes_in, parts_in}
use Rattle.vg_cons.specs.declared.box_tree.BoxTree.{BoxTree, Leaf}
use Rattle.vg_cons.specs.declared.box_tree.BoxTree.TheViews.{Halves}
use Rattle.std.proofs.Common.{Box as Heap, Vec, Global}
use Rattle.vg_cons.specs.Rows.{holds, is_between}
use Rattle.vg_cons.specs.Statements.{Point, Box}

-- what lies between two numbers lies between two that are further apart
pub wider : (l a b r x : ℤ) → l ≤ℤ a → l ≤ℤ b → a ≤ℤ r → b ≤ℤ r → is_between a b x ≡ true → is_between l r x ≡ true
wider l a b r x la lb ar br e = grind (arith, ints)

and_of : (p q : Bool) → (p && q) ≡ true → (p ≡ true) × (q ≡ true)
and_of true q e = (refl, e)
and_of false q e = absurd (cc)

both : (p q : Bool) → p ≡ true → q ≡ true → (p && q) ≡ true
both true q e f = f
both false q e f = absurd (cc)

-- a box whose sides are no nearer than those of another one has all of its points
pub covers : (l b r t : ℤ) (box : Box) → (l ≤ℤ box.0.0) × (l ≤ℤ box.1.0) → (b ≤ℤ box.0.1) × (b ≤ℤ box.1.1) → (box.0.0 ≤ℤ r) × (box.1.0 ≤ℤ r) → (box.0.1 ≤ℤ t) × (box.1.1 ≤ℤ t)
    → Covers ((l, b), (r, t)) box
covers l b r t box left bottom right top point e =
    let in_both = and_of (is_between box.0.0 box.1.0 point.0) (is_between box.0.1 box.1.1 point.1) e in
    both (is_between l r point.0) (is_between b t point.1)
    (wider l box.0.0 box.1.0 r point.0 left.0 left.1 right.0 right.1 in_both.0)
    (wider b box.0.1 box.1.1 t point.1 bottom.0 bottom.1 top.0 top.1 in_both.1)

-- the same with the numbers as the machine keeps them
pub covers_kept : {l b r t : ℤ} {box : Box} → SFits w128 l → SFits w128 b → SFits w128 r → SFits w128 t
    → (l ≤ℤ box.0.0) × (l ≤ℤ box.1.0) → (b ≤ℤ box.0.1) × (b ≤ℤ box.1.1) → (box.0.0 ≤ℤ r) × (box.1.0 ≤ℤ r) → (box.0.1 ≤ℤ t) × (box.1.1 ≤ℤ t)
    → Covers ((to_z w128 (of_z w128 l), to_z w128 (of_z w128 b)), (to_z w128 (of_z w128 r), to_z w128 (of_z w128 t))) box
covers_kept {l} {b} {r} {t} {box} fl fb fr ft left bottom right top =
    rw (to_z-of_z w128 l fl, to_z-of_z w128 b fb, to_z-of_z w128 r fr, to_z-of_z w128 t ft) (covers l b r t box left bottom right top)

-- a bound of a bound, which the machine keeps
pub below : {least at a b : ℤ} → SFits w128 at → least ≤ℤ to_z w128 (of_z w128 at) → (at ≤ℤ a) × (at ≤ℤ b) → (least ≤ℤ a) × (least ≤ℤ b)
below {least} {at} {a} {b} f h k = (omega (arith, ints, h, to_z-of_z w128 at f, k.0), omega (arith, ints, h, to_z-of_z w128 at f, k.1))

pub above : {most at a b : ℤ} → SFits w128 at → to_z w128 (of_z w128 at) ≤ℤ most → (a ≤ℤ at) × (b ≤ℤ at) → (a ≤ℤ most) × (b ≤ℤ most)
above {most} {at} {a} {b} f h k = (omega (arith, ints, h, to_z-of_z w128 at f, k.0), omega (arith, ints, h, to_z-of_z w128 at f, k.1))

-- a box around a box has all of its points
pub covers_trans : (a b c : Box) → Covers a b → Covers b c → Covers a c
covers_trans a b c outer inner point e = outer point (inner point e)

pub all_covered : (a b : Box) (boxes : List Box) → Covers a b → All (Covers b) boxes → All (Covers a) boxes
all_covered a b boxes outer all k d low = covers_trans a b (get_or boxes k d) outer (all k d low)

-- one box more is covered
pub covered_more : (old new : Box) (boxes : List Box) (i : ℕ) (z : Box) → i < length boxes → Covers new old → ((k : ℕ) (d : Box) → k < i → Covers old (get_or boxes k d))
    → Covers new (get_or boxes i z) → (k : ℕ) (d : Box) → k < i + 1 → Covers new (get_or boxes k d)
covered_more old new boxes i z low outer all this k d less =
    elim (cases_lt k i) as (λ _. Covers new (get_or boxes k d)) [
      | inl before ↦ covers_trans new old (get_or boxes k d) outer (all k d before)
      | inr after ↦
          let at : i ≡ k = omega (arith, after, less) in
          let same : get_or boxes i z ≡ get_or boxes k d = get_or_default boxes i z d low ∙ ap (λ j. get_or boxes j d) at in
          subst (Covers new) same this
    ]

-- no box has a point that the box around them has not
pub none_holds : (around : Box) (boxes : List Box) (point : Point) → All (Covers around) boxes → holds point around ≡ false → list_any (holds point) boxes ≡ false
none_holds around boxes point all out = list_any_none (holds point) boxes (λ k d low. absent (holds point (get_or boxes k d)) refl (all k d low point))
  where
    absent : (b : Bool) → b ≡ b → (b ≡ true → holds point around ≡ true) → b ≡ false
    absent false e h = refl
    absent true e h = absurd (let clash : true ≡ false = sym (h refl) ∙ out in cc)

-- the halves of a tree are trees
pub halves_are : (around : Box) (one other : Heap BoxTree Global) → IsTree (Halves around one other) → IsTree one.value × IsTree other.value
unfolding IsTree
halves_are around one other is = (is.1, is.2)

-- a point in a box of a tree is in one of a half
pub either_holds : (around : Box) (one other : Heap BoxTree Global) (point : Point)
    → list_any (holds point) (boxes_in (Halves around one other)) ≡ (list_any (holds point) (boxes_in one.value) || list_any (holds point) (boxes_in other.value))
unfolding boxes_in
either_holds around one other point = list_any-append (holds point) (boxes_in one.value) (boxes_in other.value)

-- and it is in the box around all
pub neither_holds : (around : Box) (one other : Heap BoxTree Global) (point : Point) → IsTree (Halves around one other) → holds point around ≡ false
    → list_any (holds point) (boxes_in (Halves around one other)) ≡ false
unfolding boxes_in IsTree
neither_holds around one other point is out = none_holds around (boxes_in one.value ++ boxes_in other.value) point is.0 out

-- a half has fewer parts
pub fewer : (around : Box) (one other : Heap BoxTree Global)
    → (parts_in one.value < parts_in (Halves around one other)) × (parts_in other.value < parts_in (Halves around one other))
unfolding parts_in
fewer around one other = (omega arith, omega arith)

-- boxes that pass the same tests are in the same boxes around them
pub covers_same : (around : Box) (xs ys : List Box) → ((test : Box → Bool) → list_any test xs ≡ list_any test ys) → All (Covers around) ys → All (Covers around) xs
covers_same around xs ys same all k d low point e = by_test (holds point around) refl
  where
    by_test : (b : Bool) → holds point around ≡ b → holds point around ≡ true
    by_test true is = is
    by_test false is =
        let there : list_any (holds point) xs ≡ true = list_any_at (holds point) xs k d low e in
        let none : list_any (holds point) ys ≡ false = none_holds around ys point all is in
        absurd (let clash : true ≡ false = sym there ∙ same (holds point) ∙ none in cc)

-- the boxes of two halves pass the tests of the boxes that were halved
pub halves_same : (boxes : List Box) (around : Box) (one other : Heap BoxTree Global) (front back : List Box) → boxes ≡ front ++ back
    → ((test : Box → Bool) → list_any test (boxes_in one.value) ≡ list_any test front) → ((test : Box → Bool) → list_any test (boxes_in other.value) ≡ list_any test back)
    → (test : Box → Bool) → list_any test (boxes_in (Halves around one other)) ≡ list_any test boxes
unfolding boxes_in
halves_same boxes around one other front back is same_one same_other test =
    list_any-append test (boxes_in one.value) (boxes_in other.value)
    ∙ ap (λ b. b || list_any test (boxes_in other.value)) (same_one test) ∙ ap (λ b. list_any test front || b) (same_other test)
    ∙ sym (list_any-append test front back) ∙ ap (list_any test) (sym is)

pub halves_tree : (boxes : List Box) (around : Box) (one other : Heap BoxTree Global)
    → ((test : Box → Bool) → list_any test (boxes_in (Halves around one other)) ≡ list_any test boxes) → All (Covers around) boxes
    → IsTree one.value → IsTree other.value → IsTree (Halves around one other)
unfolding boxes_in IsTree
halves_tree boxes around one other same all tree_one tree_other = (covers_same around (boxes_in one.value ++ boxes_in other.value) boxes same all, tree_one, tree_other)

-- the boxes of a leaf
pub in_leaf : (boxes : Vec Box Global) (point : Point) → list_any (holds point) boxes.items ≡ list_any (holds point) (boxes_in (Leaf boxes))
unfolding boxes_in
in_leaf boxes point = refl
