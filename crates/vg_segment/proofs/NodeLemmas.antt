-- Lists of nodes that grow.
use Rattle.std.proofs.Common.{◌≡◌, ◌≢◌, ℕ, suc, ◌+◌, ◌<◌, Bool, List, [], ◌∷◌, ◌++◌, length, get_or, take, drop, refl, sym, ap, ◌∙◌, arith}
use Rattle.std.proofs.lemmas.List.{take_more}
use Rattle.vg_scan.specs.declared.name.NodeName.{NodeName}
use Rattle.spef_nodes.specs.Nodes.{ParNode, Note, note_at, noted, noted_all}
use Rattle.spef_nodes.specs.NodeTables.{nodes_in}
use Rattle.spef_nodes.proofs.NodeTableLemmas.{nodes_count, nodes_more}
use Rattle.spef_net.proofs.FinishLemmas.{note_later}
use Rattle.vg_segment.specs.declared.nodes.NodeList.{NodeList}
use Rattle.vg_segment.specs.NodeLists.{IsNotedAs, IsReady, listed}

notes_agree : (names : List NodeName) (notes others : List Note) → ((i : ℕ) → i < length names → note_at others i ≡ note_at notes i) → noted_all names others ≡ noted_all names notes
unfolding noted_all
notes_agree [] notes others h = refl
notes_agree (name ∷ names) notes others h =
    let p : note_at others 0 ≡ note_at notes 0 = h 0 (omega arith) in
    let q : noted_all names (drop 1 others) ≡ noted_all names (drop 1 notes) =
    notes_agree names (drop 1 notes) (drop 1 others) (λ i l. note_later others i ∙ h (suc i) (omega (arith, l)) ∙ sym (note_later notes i)) in
    λ j. noted name (p j) ∷ q j

noted_more : (names : List NodeName) (name : NodeName) (notes : List Note) → noted_all (names ++ name ∷ []) notes ≡ noted_all names notes ++ noted name (note_at notes (length names)) ∷ []
unfolding noted_all
noted_more [] name notes = refl
noted_more (n ∷ names) name notes =
    ap (λ ns. noted n (note_at notes 0) ∷ ns)
    (noted_more names name (drop 1 notes) ∙ ap (λ note. noted_all names (drop 1 notes) ++ noted name note ∷ []) (note_later notes (length names)))

-- one node more
pub pushed : (owners leaves more_owners more_leaves : List (List ℕ)) (notes more_notes : List Note) (owner leaf text : List ℕ) (inner : Bool) → length owners ≡ length leaves
    → more_owners ≡ owners ++ owner ∷ [] → more_leaves ≡ leaves ++ leaf ∷ [] → IsNotedAs (note_at more_notes (length owners)) inner text
    → ((i : ℕ) → i ≢ length owners → note_at more_notes i ≡ note_at notes i)
    → noted_all (nodes_in more_owners more_leaves) more_notes ≡ noted_all (nodes_in owners leaves) notes ++ record { name = record { owner = owner; leaf = leaf }; inner = inner; note = text } ∷ []
pushed owners leaves more_owners more_leaves notes more_notes owner leaf text inner even o l here others =
    let name : NodeName = record { owner = owner; leaf = leaf } in
    let names : List NodeName = nodes_in owners leaves in
    let count : length names ≡ length owners = nodes_count owners leaves even in
    (λ i. noted_all (nodes_in (o i) (l i)) more_notes)
    ∙ ap (λ ns. noted_all ns more_notes) (nodes_more owners leaves owner leaf even)
    ∙ noted_more names name more_notes
    ∙ ap (λ k. noted_all names more_notes ++ noted name (note_at more_notes k) ∷ []) count
    ∙ ap (λ node. noted_all names more_notes ++ node ∷ []) (here name)
    ∙ ap (λ ns. ns ++ record { name = name; inner = inner; note = text } ∷ []) (notes_agree names notes more_notes (λ i m. others i (omega (arith, m, count))))

-- a node is made of its parts
pub node_is : (node : ParNode) (owner leaf text : List ℕ) (inner : Bool) → owner ≡ node.name.owner → leaf ≡ node.name.leaf → inner ≡ node.inner → text ≡ node.note
    → record { name = record { owner = owner; leaf = leaf }; inner = inner; note = text } ≡ node
node_is node owner leaf text inner o l n t = λ i. record { name = record { owner = o i; leaf = l i }; inner = n i; note = t i }

-- no node yet
pub record IsNone (list : NodeList) : Type 0 where
  pub ready : IsReady list
  pub nodes : listed list ≡ []
  pub count : length list.owners ≡ 0

pub none_yet : (list : NodeList) → list.owners ≡ [] → list.leaves ≡ [] → list.notes ≡ [] → IsNone list
unfolding noted_all nodes_in
none_yet list o l n = record {
  ready = record { even = ap length o ∙ sym (ap length l); later = λ i m. ap (λ notes. note_at notes i) n };
  nodes = λ i. noted_all (nodes_in (o i) (l i)) (n i);
  count = ap length o;
}

-- the nodes up to the next one
pub next_node : (nodes front all : List ParNode) (at : ℕ) (d node : ParNode) → at < length nodes → front ≡ take at nodes → all ≡ front ++ node ∷ [] → node ≡ get_or nodes at d → all ≡ take (at + 1) nodes
next_node nodes front all at d node l e f g = f ∙ (λ i. e i ++ g i ∷ []) ∙ sym (take_more nodes at d l)
