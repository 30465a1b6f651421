-- The lines of a report, one after another.
use Rattle.std.proofs.Common.{◌≡◌, ℕ, ◌+◌, ◌<◌, ℤ, List, [], ◌∷◌, ◌++◌, length, take, get_or, slice_index_or, sym, ap, ◌∙◌, arith, append_assoc, Option, Some, None}
use Rattle.std.proofs.lemmas.List.{take_more, append-nil, map-id}
use Rattle.std.proofs.lemmas.List.Concat.{flat_map-append}
use Rattle.std.proofs.lemmas.List.FromFn.{map-range_with_len_more}
use Rattle.std.specs.List.{flat_map, range_with_len}
use Rattle.vg_design.specs.Nets.{name_at}
use Rattle.vg_scan.specs.declared.name.NodeName.{NodeName}
use Rattle.vg_report.specs.Reports.{at_line, cell_line, node_line, sink_line}

-- the sink of this number, by its owner, its leaf and its delay
sink_is : (sinks : List (NodeName × ℤ)) (at : ℕ) (owner leaf : List ℕ) (delay : ℤ) (other : NodeName × ℤ)
    → owner ≡ (get_or sinks at other).0.owner → leaf ≡ (get_or sinks at other).0.leaf → delay ≡ (get_or sinks at other).1
    → (record { owner = owner; leaf = leaf }, delay) ≡ get_or sinks at other
sink_is sinks at owner leaf delay other e f g = λ i. (record { owner = e i; leaf = f i }, g i)

-- one line more
pub sinks_more : (sinks : List (NodeName × ℤ)) (at : ℕ) (owner leaf : List ℕ) (delay : ℤ) → at < length sinks
    → ((other : NodeName × ℤ) → owner ≡ (get_or sinks at other).0.owner) → ((other : NodeName × ℤ) → leaf ≡ (get_or sinks at other).0.leaf) → ((other : NodeName × ℤ) → delay ≡ (get_or sinks at other).1)
    → flat_map sink_line (take at sinks) ++ sink_line (record { owner = owner; leaf = leaf }, delay) ≡ flat_map sink_line (take (at + 1) sinks)
sinks_more sinks at owner leaf delay h e f g =
    let row : NodeName × ℤ = (record { owner = owner; leaf = leaf }, delay) in
    ap (λ (line : List ℕ). flat_map sink_line (take at sinks) ++ line) (ap sink_line (sink_is sinks at owner leaf delay row (e row) (f row) (g row)) ∙ sym (append-nil (sink_line (get_or sinks at row))))
    ∙ sym (flat_map-append sink_line (take at sinks) (get_or sinks at row ∷ []))
    ∙ ap (flat_map sink_line) (sym (take_more sinks at row h))

-- one report more
pub report_more : {A : Type 0} (report : A → List ℕ) (before text : List ℕ) (xs : List A) (at : ℕ) (x : A) → at < length xs → x ≡ get_or xs at x
    → text ≡ before ++ flat_map report (take at xs) → text ++ report x ≡ before ++ flat_map report (take (at + 1) xs)
report_more report before text xs at x low here is =
    ap (λ (t : List ℕ). t ++ report x) is ∙ append_assoc before (flat_map report (take at xs)) (report x)
    ∙ ap (λ (t : List ℕ). before ++ t)
    (ap (λ (line : List ℕ). flat_map report (take at xs) ++ line) (sym (append-nil (report x)))
    ∙ sym (flat_map-append report (take at xs) (x ∷ []))
    ∙ ap (flat_map report) (ap (λ y. take at xs ++ y ∷ []) here ∙ sym (take_more xs at x low)))

-- ---- cells
pub range_more : (n : ℕ) → range_with_len 0 (n + 1) ≡ range_with_len 0 n ++ n ∷ []
range_more n =
    sym (map-id (range_with_len 0 (n + 1))) ∙ map-range_with_len_more (λ (i : ℕ). i) 0 n n (omega arith) ∙ ap (λ (l : List ℕ). l ++ n ∷ []) (map-id (range_with_len 0 n))

module _ (cells : List (List ℕ)) (names : List NodeName) (placed : List (Option ℕ)) where
  -- those of the first n nodes
  abbrev pub lines_to : ℕ → List ℕ
  lines_to n = flat_map (node_line cells names placed) (range_with_len 0 n)

  -- one node more
  pub lines_more : (at : ℕ) → lines_to at ++ node_line cells names placed at ≡ lines_to (at + 1)
  lines_more at =
      ap (λ (line : List ℕ). lines_to at ++ line) (sym (append-nil (node_line cells names placed at)))
      ∙ sym (flat_map-append (node_line cells names placed) (range_with_len 0 at) (at ∷ []))
      ∙ ap (flat_map (node_line cells names placed)) (sym (range_more at))

  -- a node with a cell, by its owner and its leaf
  pub cell_more : (before text : List ℕ) (at b : ℕ) (owner leaf cell : List ℕ) → slice_index_or placed at None ≡ Some b
      → ((other : NodeName) → owner ≡ (slice_index_or names at other).owner) → ((other : NodeName) → leaf ≡ (slice_index_or names at other).leaf) → cell ≡ slice_index_or cells b []
      → text ≡ before ++ lines_to at → text ++ at_line (record { owner = owner; leaf = leaf }) cell ≡ before ++ lines_to (at + 1)
  cell_more before text at b owner leaf cell has e f g is =
      let name : NodeName = record { owner = owner; leaf = leaf } in
      let same : name ≡ name_at names at = (λ i. record { owner = e (name_at [] 0) i; leaf = f (name_at [] 0) i }) in
      let line : at_line name cell ≡ node_line cells names placed at =
      (λ i. at_line (same i) (g i)) ∙ ap (cell_line cells (name_at names at)) (sym has) in
      ap (λ (t : List ℕ). t ++ at_line name cell) is ∙ append_assoc before (lines_to at) (at_line name cell)
      ∙ ap (λ (t : List ℕ). before ++ t) (ap (λ (l : List ℕ). lines_to at ++ l) line ∙ lines_more at)

  -- a node without one
  pub none_more : (before text : List ℕ) (at : ℕ) → slice_index_or placed at None ≡ None → text ≡ before ++ lines_to at → text ≡ before ++ lines_to (at + 1)
  none_more before text at none is =
      let line : [] ≡ node_line cells names placed at = ap (cell_line cells (name_at names at)) (sym none) in
      is ∙ ap (λ (t : List ℕ). before ++ t) (sym (append-nil (lines_to at)) ∙ ap (λ (l : List ℕ). lines_to at ++ l) line ∙ lines_more at)
