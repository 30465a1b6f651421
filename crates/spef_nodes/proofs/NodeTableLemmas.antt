-- A table of nodes, and one node more.
use Rattle.std.proofs.Common.{◌≡◌, ◌≢◌, ℕ, zero, suc, ◌<◌, ◌≤◌, Bool, true, false, ◌||◌, cond, List, [], ◌∷◌, ◌++◌, length, get_or, refl, sym, ap, ◌∙◌, subst, arith, Some}
use Rattle.std.proofs.lemmas.Slice.Eq.{bytes_eq-Decides}
use Rattle.std.specs.Bool.{Decides}
use Rattle.std.specs.Str.{bytes_eq}
use Rattle.std.specs.List.{slice_get}
use Rattle.vg_scan.specs.declared.name.NodeName.{NodeName}
use Rattle.vg_scan.specs.Nodes.{same_node, has_node}
use Rattle.name_tables.specs.Chains.{buckets_of}
use Rattle.spef_nodes.specs.Members.{with_node}
use Rattle.spef_nodes.specs.NodeTables.{nodes_in, AreRows, IsTable}
use Rattle.spef_nodes.specs.declared.node_rows.NodeRows.{NodeRows}
use Rattle.spef_nodes.specs.Nodes.{ParNode, Note, note_at, noted, noted_all}
use Rattle.std.proofs.Common.{min, drop, take, ◌+◌, ◌-◌, length-append, length-take}
use Rattle.std.proofs.lemmas.List.{take-append-le}
use Rattle.std.proofs.Math.Seq.{take-length}
use Rattle.std.proofs.lemmas.Int.{clamps}
use Rattle.spef_nodes.proofs.NodeListLemmas.{same_is}

pub nodes_get : (owners leaves : List (List ℕ)) (at : ℕ) → at < length owners → at < length leaves
    → slice_get (nodes_in owners leaves) at ≡ Some (record { owner = get_or owners at []; leaf = get_or leaves at [] })
unfolding nodes_in
nodes_get [] leaves at h k = absurd (omega arith)
nodes_get (o ∷ os) [] at h k = absurd (omega arith)
nodes_get (o ∷ os) (l ∷ ls) zero h k = refl
nodes_get (o ∷ os) (l ∷ ls) (suc at) h k = nodes_get os ls at (omega arith) (omega arith)

pub nodes_few : (owners leaves : List (List ℕ)) → (length (nodes_in owners leaves) ≤ length owners) × (length (nodes_in owners leaves) ≤ length leaves)
unfolding nodes_in
nodes_few [] leaves = (omega arith, omega arith)
nodes_few (o ∷ os) [] = (omega arith, omega arith)
nodes_few (o ∷ os) (l ∷ ls) = let h = nodes_few os ls in (omega (arith, h.0), omega (arith, h.1))

pub nodes_count : (owners leaves : List (List ℕ)) → length owners ≡ length leaves → length (nodes_in owners leaves) ≡ length owners
unfolding nodes_in
nodes_count [] leaves e = refl
nodes_count (o ∷ os) [] e = absurd (omega arith)
nodes_count (o ∷ os) (l ∷ ls) e = ap suc (nodes_count os ls (omega arith))

pub nodes_more : (owners leaves : List (List ℕ)) (owner leaf : List ℕ) → length owners ≡ length leaves
    → nodes_in (owners ++ owner ∷ []) (leaves ++ leaf ∷ []) ≡ nodes_in owners leaves ++ record { owner = owner; leaf = leaf } ∷ []
unfolding nodes_in
nodes_more [] [] owner leaf e = refl
nodes_more [] (l ∷ ls) owner leaf e = absurd (omega arith)
nodes_more (o ∷ os) [] owner leaf e = absurd (omega arith)
nodes_more (o ∷ os) (l ∷ ls) owner leaf e = ap (λ ns. record { owner = o; leaf = l } ∷ ns) (nodes_more os ls owner leaf (omega arith))

some_is : {A : Type 0} (a b : A) → Some a ≡ Some b → a ≡ b
some_is a b e = cc

-- nodes that are the same, and that are not
pub same_refl : (node : NodeName) → same_node node node ≡ true
same_refl node =
    let a : bytes_eq node.owner node.owner ≡ true = (bytes_eq-Decides node.owner node.owner).1 refl in
    let b : bytes_eq node.leaf node.leaf ≡ true = (bytes_eq-Decides node.leaf node.leaf).1 refl in
    rw (a, b) refl

pub same_decides : (a b : NodeName) → Decides (same_node a b) (a ≡ b)
same_decides a b = (same_is a b, λ e. ap (same_node a) (sym e) ∙ same_refl a)

pub none_has : (nodes : List NodeName) (node : NodeName) → ((at : ℕ) (q : NodeName) → slice_get nodes at ≡ Some q → same_node node q ≡ false) → has_node nodes node ≡ false
none_has [] node h = refl
none_has (x ∷ xs) node h =
    let a : same_node node x ≡ false = h 0 x refl in
    let b : has_node xs node ≡ false = none_has xs node (λ at q e. h (suc at) q e) in
    ap (λ t. t || has_node xs node) a ∙ b

pub none_there : (nodes : List NodeName) (node : NodeName) → ((row : ℕ) → slice_get nodes row ≢ Some node) → has_node nodes node ≡ false
none_there nodes node absent = none_has nodes node (λ at q e. by_test at q e (same_node node q) refl)
  where
    by_test : (at : ℕ) (q : NodeName) → slice_get nodes at ≡ Some q → (b : Bool) → same_node node q ≡ b → b ≡ false
    by_test at q e false s = refl
    by_test at q e true s = absurd (absent at (e ∙ ap Some (sym (same_is node q s))))

-- places of a list with one item more
pub slice_get_front : {X : Type 0} (xs ys : List X) (i : ℕ) → i < length xs → slice_get (xs ++ ys) i ≡ slice_get xs i
slice_get_front [] ys i h = absurd (omega arith)
slice_get_front (x ∷ xs) ys zero h = refl
slice_get_front (x ∷ xs) ys (suc i) h = slice_get_front xs ys i (omega arith)

pub slice_get_last : {X : Type 0} (xs : List X) (x : X) (n : ℕ) → n ≡ length xs → slice_get (xs ++ x ∷ []) n ≡ Some x
slice_get_last [] x zero e = refl
slice_get_last [] x (suc n) e = absurd (omega arith)
slice_get_last (y ∷ ys) x zero e = absurd (omega arith)
slice_get_last (y ∷ ys) x (suc n) e = slice_get_last ys x n (omega arith)

-- a node that is there, and one that is new
has_at : (xs : List NodeName) (i : ℕ) (x : NodeName) → ((y : NodeName) → same_node y y ≡ true) → slice_get xs i ≡ Some x → has_node xs x ≡ true
has_at [] i x r e = absurd (cc)
has_at (y ∷ xs) zero x r e = let s : y ≡ x = some_is y x e in ap (λ t. t || has_node xs x) (ap (same_node x) s ∙ r x)
has_at (y ∷ xs) (suc i) x r e = or_true (same_node x y) (has_node xs x) (has_at xs i x r e)
  where
    or_true : (a b : Bool) → b ≡ true → (a || b) ≡ true
    or_true true b h = refl
    or_true false b h = h

pub not_there : (nodes : List NodeName) (node : NodeName) → has_node nodes node ≡ false → (row : ℕ) → slice_get nodes row ≢ Some node
not_there nodes node absent row there = let clash : true ≡ false = sym (has_at nodes row node same_refl there) ∙ absent in cc

pub with_there : (nodes : List NodeName) (id : ℕ) (node : NodeName) → ((y : NodeName) → same_node y y ≡ true) → slice_get nodes id ≡ Some node → nodes ≡ with_node nodes node
with_there nodes id node r e = sym (ap (λ b. cond b nodes (nodes ++ node ∷ [])) (has_at nodes id node r e))

pub with_new : (nodes : List NodeName) (node : NodeName) → has_node nodes node ≡ false → with_node nodes node ≡ nodes ++ node ∷ []
with_new nodes node e = ap (λ b. cond b nodes (nodes ++ node ∷ [])) e

-- an empty table
pub no_nodes : (owners leaves : List (List ℕ)) → owners ≡ [] → nodes_in owners leaves ≡ []
unfolding nodes_in
no_nodes owners leaves e = ap (λ os. nodes_in os leaves) e

pub table_none : (owners leaves : List (List ℕ)) (rows : NodeRows) → owners ≡ [] → leaves ≡ [] → AreRows [] rows → 0 < buckets_of rows.chains → IsTable owners leaves rows
table_none owners leaves rows e f h some = record {
  some = some;
  even = ap length e ∙ sym (ap length f);
  rows_are = subst (λ (nodes : List NodeName). AreRows nodes rows) (sym (no_nodes owners leaves e)) h;
}

-- a table whose nodes are these, in these rows
pub table_of : (owners leaves : List (List ℕ)) (nodes : List NodeName) (rows : NodeRows) → 0 < buckets_of rows.chains → length owners ≡ length leaves → nodes_in owners leaves ≡ nodes → AreRows nodes rows
    → IsTable owners leaves rows
table_of owners leaves nodes rows some even is h = record { some = some; even = even; rows_are = subst (λ (ns : List NodeName). AreRows ns rows) (sym is) h }

-- the nodes without the last one
nodes_take : (n : ℕ) (owners leaves : List (List ℕ)) → nodes_in (take n owners) (take n leaves) ≡ take n (nodes_in owners leaves)
unfolding nodes_in
nodes_take zero owners leaves = refl
nodes_take (suc n) [] leaves = refl
nodes_take (suc n) (o ∷ os) [] = refl
nodes_take (suc n) (o ∷ os) (l ∷ ls) = ap (λ ns. record { owner = o; leaf = l } ∷ ns) (nodes_take n os ls)

pub nodes_back : (owners leaves owners' leaves' : List (List ℕ)) (nodes : List NodeName) (node : NodeName) → length owners ≡ length leaves → nodes_in owners leaves ≡ nodes ++ node ∷ []
    → owners' ≡ take (length owners - 1) owners → leaves' ≡ take (length leaves - 1) leaves → (length owners' ≡ length leaves') × (nodes_in owners' leaves' ≡ nodes)
nodes_back owners leaves owners' leaves' nodes node even is o l =
    let count : length owners ≡ length nodes + 1 = omega (arith, nodes_count owners leaves even, ap length is, length-append nodes (node ∷ [])) in
    let n : length owners - 1 ≡ length nodes = omega arith in
    let m : length leaves - 1 ≡ length nodes = omega arith in (
      omega (arith, ap length o, ap length l, length-take (length owners - 1) owners, length-take (length leaves - 1) leaves),
      ap (λ os. nodes_in os leaves') (o ∙ ap (λ k. take k owners) n) ∙ ap (nodes_in (take (length nodes) owners)) (l ∙ ap (λ k. take k leaves) m)
          ∙ nodes_take (length nodes) owners leaves ∙ ap (take (length nodes)) is ∙ take-append-le (length nodes) nodes (node ∷ []) (omega arith) ∙ take-length nodes,
    )

pub nodes_min : (owners leaves : List (List ℕ)) → length (nodes_in owners leaves) ≡ min (length owners) (length leaves)
unfolding nodes_in
nodes_min [] leaves = omega (arith, clamps)
nodes_min (o ∷ os) [] = omega (arith, clamps)
nodes_min (o ∷ os) (l ∷ ls) = omega (arith, clamps, nodes_min os ls)

-- the nodes with their notes
pub noted_count : (names : List NodeName) (notes : List Note) → length (noted_all names notes) ≡ length names
unfolding noted_all
noted_count [] notes = refl
noted_count (x ∷ xs) notes = ap suc (noted_count xs (drop 1 notes))

note_later : (notes : List Note) (i : ℕ) → note_at (drop 1 notes) i ≡ note_at notes (suc i)
note_later [] i = refl
note_later (n ∷ ns) i = refl

pub noted_get : (names : List NodeName) (notes : List Note) (at : ℕ) (name : NodeName) (other : ParNode) → slice_get names at ≡ Some name → get_or (noted_all names notes) at other ≡ noted name (note_at notes at)
unfolding noted_all
noted_get [] notes at name other e = absurd (cc)
noted_get (x ∷ xs) notes zero name other e = ap (λ n. noted n (note_at notes 0)) (some_is x name e)
noted_get (x ∷ xs) notes (suc at) name other e = noted_get xs (drop 1 notes) at name other e ∙ ap (noted name) (note_later notes at)

-- the node of a number, from the buffers
pub node_get : (owners leaves : List (List ℕ)) (notes : List Note) (nodes : List ParNode) (at : ℕ) (other : ParNode) → noted_all (nodes_in owners leaves) notes ≡ nodes → at < length nodes
    → get_or nodes at other ≡ noted (record { owner = get_or owners at []; leaf = get_or leaves at [] }) (note_at notes at)
node_get owners leaves notes nodes at other e low =
    let few = nodes_few owners leaves in
    let low' : at < length (nodes_in owners leaves) = omega (arith, ap length e, noted_count (nodes_in owners leaves) notes) in
    ap (λ ns. get_or ns at other) (sym e) ∙ noted_get (nodes_in owners leaves) notes at _ other (nodes_get owners leaves at (omega (arith, few.0)) (omega (arith, few.1)))

pub within_both : (owners leaves : List (List ℕ)) (notes : List Note) (nodes : List ParNode) (at : ℕ) → noted_all (nodes_in owners leaves) notes ≡ nodes → at < length nodes → (at < length owners) × (at < length leaves)
within_both owners leaves notes nodes at e low =
    let few = nodes_few owners leaves in
    (omega (arith, ap length e, noted_count (nodes_in owners leaves) notes, few.0), omega (arith, ap length e, noted_count (nodes_in owners leaves) notes, few.1))
