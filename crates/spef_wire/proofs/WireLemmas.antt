-- The rows of sinks, node by node.
use Rattle.std.proofs.Common.{◌≡◌, ℕ, zero, suc, ◌+◌, ◌<◌, ℤ, pos, Bool, true, false, cond, List, [], ◌∷◌, ◌++◌, length, get_or, filter, sym, ap, ◌∙◌, subst, arith, add-one}
use Rattle.std.specs.Prelude.{slice_index}
use Rattle.std.specs.List.{AllZip, range_with_len}
use Rattle.std.proofs.lemmas.List.{append-nil}
use Rattle.std.proofs.lemmas.List.Elements.{filter-append}
use Rattle.std.proofs.lemmas.Option.{slice_get-get_or}
use Rattle.elmore.specs.Wire.{delay_in}
use Rattle.elmore.specs.declared.tree.Node.{Node}
use Rattle.vg_scan.specs.declared.name.NodeName.{NodeName}
use Rattle.spef_nodes.specs.Nodes.{ParNode}
use Rattle.spef_net.specs.declared.net.ParNet.{ParNet}
use Rattle.spef_wire.specs.Refusals.{IsNamed, IsNetTree}
use Rattle.spef_wire.specs.Steps.{IsSinkPushed}
use Rattle.spef_wire.specs.Wires.{is_sink_node, AreMarks, IsDelay}

zip_push : {A B : Type 0} (R : A → B → Type 0) (xs : List A) (ys : List B) (x : A) (y : B) → AllZip R xs ys → R x y → AllZip R (xs ++ x ∷ []) (ys ++ y ∷ [])
zip_push R [] [] x y h r = (r, tt)
zip_push R [] (b ∷ ys) x y h r = absurd h
zip_push R (a ∷ xs) [] x y h r = absurd h
zip_push R (a ∷ xs) (b ∷ ys) x y h r = (h.0, zip_push R xs ys x y h.1 r)

range_more : (a n : ℕ) → range_with_len a (suc n) ≡ range_with_len a n ++ (a + n) ∷ []
range_more a zero = ap (λ k. k ∷ []) (omega arith)
range_more a (suc n) =
    ap (λ (l : List ℕ). a ∷ l) (range_more (a + 1) n)
    ∙ ap (λ k. a ∷ (range_with_len (a + 1) n ++ k ∷ [])) (omega arith)

-- the sinks among the first i nodes of a tree
abbrev pub sinks_below : ParNet → List ℕ → ℕ → List ℕ
sinks_below net order i = filter (λ k. is_sink_node net (slice_index order k)) (range_with_len 0 i)

below_more : (net : ParNet) (order : List ℕ) (i : ℕ) → sinks_below net order (i + 1) ≡ sinks_below net order i ++ cond (is_sink_node net (slice_index order i)) (i ∷ []) []
below_more net order i =
    ap (sinks_below net order) (add-one i)
    ∙ ap (filter (λ k. is_sink_node net (slice_index order k))) (range_more 0 i)
    ∙ filter-append (λ k. is_sink_node net (slice_index order k)) (range_with_len 0 i) ((0 + i) ∷ [])
    ∙ ap (λ j. sinks_below net order i ++ cond (is_sink_node net (slice_index order j)) (j ∷ []) []) (omega arith)

-- a node's row is put behind others
pub is_named : (net : ParNet) (v : ℕ) (name : NodeName) → v < length net.nodes → ((other : ParNode) → name ≡ (get_or net.nodes v other).name) → IsNamed net v name
is_named net v name h is =
    let none : ParNode = record { name = name; inner = false; note = [] } in
    record { node = get_or net.nodes v none; at = slice_get-get_or net.nodes v none h; name_is = is none }

pub is_pushed : (net : ParNet) (v : ℕ) (delay : ℤ) (marked : Bool) (name : NodeName) (before after : List (NodeName × ℤ))
    → marked ≡ true → v < length net.nodes → ((other : ParNode) → name ≡ (get_or net.nodes v other).name) → after ≡ before ++ (name, delay) ∷ []
    → IsSinkPushed net v delay marked before after
is_pushed net v delay marked name before after e h is rows =
    subst (λ (b : Bool). IsSinkPushed net v delay b before after) (sym e) (record { name = name; named = is_named net v name h is; rows = rows })

module _ (net : ParNet) (tree : List Node) (order : List ℕ) (i : ℕ) (delay : ℤ) (before after : List (NodeName × ℤ)) where
  with_row : (marked : Bool) → delay ≡ pos (delay_in tree i) → AllZip (IsDelay net tree order) (sinks_below net order i) before
      → IsSinkPushed net (slice_index order i) delay marked before after
      → AllZip (IsDelay net tree order) (sinks_below net order i ++ cond marked (i ∷ []) []) after
  with_row true e zipped pushed =
      subst (λ (rows : List (NodeName × ℤ)). AllZip (IsDelay net tree order) (sinks_below net order i ++ i ∷ []) rows) (sym pushed.rows)
      (zip_push (IsDelay net tree order) (sinks_below net order i) before i (pushed.name, delay) zipped (record { named = pushed.named; delay = e }))
  with_row false e zipped pushed =
      subst (λ (rows : List (NodeName × ℤ)). AllZip (IsDelay net tree order) (sinks_below net order i ++ []) rows) (sym pushed)
      (subst (λ (sinks : List ℕ). AllZip (IsDelay net tree order) sinks before) (sym (append-nil (sinks_below net order i))) zipped)

  -- the rows of one node more
  pub rows_more : (marked : Bool) → marked ≡ is_sink_node net (slice_index order i) → delay ≡ pos (delay_in tree i)
      → AllZip (IsDelay net tree order) (sinks_below net order i) before
      → IsSinkPushed net (slice_index order i) delay marked before after
      → AllZip (IsDelay net tree order) (sinks_below net order (i + 1)) after
  rows_more marked e d zipped pushed =
      subst (λ (sinks : List ℕ). AllZip (IsDelay net tree order) sinks after)
      (ap (λ b. sinks_below net order i ++ cond b (i ∷ []) []) e ∙ sym (below_more net order i))
      (with_row marked d zipped pushed)

-- the same for the node that is read there
pub read_more : (net : ParNet) (tree : List Node) (order read : List ℕ) (marks : List Bool) (i : ℕ) (delay : ℤ) (before after : List (NodeName × ℤ))
    → read ≡ order → IsNetTree net tree order → i < length read → AreMarks net marks → delay ≡ pos (delay_in tree i)
    → AllZip (IsDelay net tree order) (sinks_below net order i) before
    → IsSinkPushed net (get_or read i 0) delay (get_or marks (get_or read i 0) false) before after
    → AllZip (IsDelay net tree order) (sinks_below net order (i + 1)) after
read_more net tree order read marks i delay before after same a_tree h are d zipped pushed =
    let size : length read ≡ length order = ap length same in
    let count : length order ≡ length net.nodes = a_tree.a_tree.lists.count in
    let node : get_or read i 0 ≡ get_or order i 0 = ap (λ (l : List ℕ). get_or l i 0) same in
    let within : get_or order i 0 < length net.nodes = a_tree.a_tree.lists.within i (omega arith) in
    rows_more net tree order i delay before after (get_or marks (get_or order i 0) false) (are.each (get_or order i 0)) d zipped
    (subst (λ (v : ℕ). IsSinkPushed net v delay (get_or marks v false) before after) node pushed)
