-- The names of the nodes that lines name can be words, and the notes of nodes are those of lines.
use Rattle.std.proofs.Common.{◌≡◌, ℕ, zero, suc, ◌+◌, Bool, true, false, cond, List, [], ◌∷◌, ◌++◌, take, drop, get_or, refl, sym, ap, ◌∙◌, subst, Option, Some, None, Ok, Err}
use Rattle.std.proofs.lemmas.Option.{same_Some, slice_get_within, slice_get-get_or}
use Rattle.std.specs.List.{All, AllPass, fold, flat_map}
use Rattle.std.specs.Str.{bytes_eq}
use Rattle.vg_scan.specs.Lines.{words}
use Rattle.vg_scan.specs.Names.{canonical}
use Rattle.vg_scan.specs.Nodes.{has_node, leaf_at, node_of_parts}
use Rattle.vg_scan.specs.Printed.{is_solid, IsPrintable}
use Rattle.vg_scan.specs.References.{is_reference, index_of}
use Rattle.vg_scan.specs.declared.name.NodeName.{NodeName}
use Rattle.vg_scan.proofs.SolidLemmas.{canonical_printable, words_solid}
use Rattle.spef_file.specs.Files.{File}
use Rattle.spef_file.proofs.NamesOfLemmas.{looked_up}
use Rattle.spef_nodes.specs.Members.{with_node}
use Rattle.spef_nodes.specs.Nodes.{ParNode, noted_all}
use Rattle.spef_nodes.specs.Names.{is_own, indexed, owner_in, node_split, node_in}
use Rattle.spef_net.specs.Statements.{Stated, Opens, Nothing, Connects, Star, Ground, Coupling, Resistor, statements}
use Rattle.spef_net.specs.Rows.{connected_of, own_one, named_in}
use Rattle.spef_net.specs.Builders.{PartialNet, IsPartialNet}
use Rattle.spef_net.specs.Nets.{in_line, IsNamed}
use Rattle.spef_net.proofs.SizeLemmas.{all_nil, all_cons, all_head, all_tail}
use Rattle.spef_net.proofs.StatementLemmas.{Fine, AreFine, IsLine, statements_fine}
use Rattle.spef_net.proofs.JoinedLemmas.{all_from, noted_at}

-- an owner and a leaf can be words
pub record IsNodeName (node : NodeName) : Type 0 where
  pub owner : IsPrintable node.owner
  pub leaf : AllPass is_solid node.leaf

pass_take : (n : ℕ) (text : List ℕ) → AllPass is_solid text → AllPass is_solid (take n text)
pass_take zero text h = all_nil _
pass_take (suc n) [] h = all_nil _
pass_take (suc n) (b ∷ bs) h = all_cons (λ b. is_solid b ≡ true) b (take n bs) (all_head (λ b. is_solid b ≡ true) b bs h) (pass_take n bs (all_tail (λ b. is_solid b ≡ true) b bs h))

pass_drop : (n : ℕ) (text : List ℕ) → AllPass is_solid text → AllPass is_solid (drop n text)
pass_drop zero text h = h
pass_drop (suc n) [] h = h
pass_drop (suc n) (b ∷ bs) h = pass_drop n bs (all_tail (λ b. is_solid b ≡ true) b bs h)

indexed_name : (names : List (List ℕ × List ℕ)) (index : Option (List ℕ)) (name : List ℕ) → All (λ row. IsPrintable row.1) names → indexed names index ≡ Some name → IsPrintable name
indexed_name names None name h e = absurd (cc)
indexed_name names (Some digits) name h e = looked_up IsPrintable (bytes_eq digits) names name h e

owner_if : (t : Bool) (a b : Option (List ℕ)) (name : List ℕ) → (a ≡ Some name → IsPrintable name) → (b ≡ Some name → IsPrintable name) → cond t a b ≡ Some name → IsPrintable name
owner_if true a b name f g e = f e
owner_if false a b name f g e = g e

owner_printable : (file : File) (text name : List ℕ) → All (λ row. IsPrintable row.1) file.names → AllPass is_solid text → owner_in file text ≡ Some name → IsPrintable name
unfolding owner_in
owner_printable file text name h k e =
    owner_if (is_reference text) (indexed file.names (index_of text)) (canonical file.chars text) name (indexed_name file.names (index_of text) name h) (canonical_printable file.chars text name k) e

parts_named : (owner leaf : Option (List ℕ)) (node : NodeName) → ((name : List ℕ) → owner ≡ Some name → IsPrintable name) → ((name : List ℕ) → leaf ≡ Some name → AllPass is_solid name)
    → node_of_parts owner leaf ≡ Some node → IsNodeName node
parts_named None leaf node f g e = absurd (cc)
parts_named (Some owner) None node f g e = absurd (cc)
parts_named (Some owner) (Some leaf) node f g e = subst IsNodeName (same_Some _ _ e) (record { owner = f owner refl; leaf = g leaf refl })

no_leaf : (name : List ℕ) → Some [] ≡ Some name → AllPass is_solid name
no_leaf name e = subst (AllPass is_solid) (same_Some _ _ e) (all_nil _)

split_named : (file : File) (text : List ℕ) (at : Option ℕ) (node : NodeName) → All (λ row. IsPrintable row.1) file.names → AllPass is_solid text → node_split file text at ≡ Some node → IsNodeName node
split_named file text None node h k e = parts_named (owner_in file text) (Some []) node (λ name f. owner_printable file text name h k f) no_leaf e
split_named file text (Some at) node h k e =
    parts_named (owner_in file (take at text)) (canonical file.chars (drop (at + 1) text)) node (λ name f. owner_printable file (take at text) name h (pass_take at text k) f)
    (λ name f. (canonical_printable file.chars (drop (at + 1) text) name (pass_drop (at + 1) text k) f).solid) e

-- the node that a word names
node_named : (file : File) (text : List ℕ) (node : NodeName) → All (λ row. IsPrintable row.1) file.names → AllPass is_solid text → node_in file text ≡ Some node → IsNodeName node
unfolding node_in
node_named file text node h k e = split_named file text (leaf_at file.chars text) node h k e

module _ (N : NodeName → Type 0) (M : List ℕ → Type 0) (file : File) where
  one_own : (t : Bool) (a b : NodeName) → N a → N b → N (cond t a b)
  one_own true a b f g = f
  one_own false a b f g = g

  -- the nodes of lines are such where their words name such
  named_fine : (connected : List NodeName) (net : List ℕ) (line : Stated) → Fine N M file line → All N (named_in connected net line)
  named_fine connected net (Err kind) h = all_nil N
  named_fine connected net (Ok (Opens part)) h = all_nil N
  named_fine connected net (Ok Nothing) h = all_nil N
  named_fine connected net (Ok (Connects kind way node note)) h = all_cons N node [] h.fine.1 (all_nil N)
  named_fine connected net (Ok (Star node note)) h = all_cons N node [] h.fine.0 (all_nil N)
  named_fine connected net (Ok (Ground node value)) h = all_cons N node [] h.fine (all_nil N)
  named_fine connected net (Ok (Coupling a b value)) h = all_cons N (own_one connected net a b) [] (one_own (is_own connected net a) a b h.fine.0 h.fine.1) (all_nil N)
  named_fine connected net (Ok (Resistor a b value)) h = all_cons N a (b ∷ []) h.fine.0 (all_cons N b [] h.fine.1 (all_nil N))

  all_append : (xs ys : List NodeName) → All N xs → All N ys → All N (xs ++ ys)
  all_append [] ys h k = k
  all_append (x ∷ xs) ys h k = all_cons N x (xs ++ ys) (all_head N x xs h) (all_append xs ys (all_tail N x xs h) k)

  all_named : (connected : List NodeName) (net : List ℕ) (all : List Stated) → All (Fine N M file) all → All N (flat_map (named_in connected net) all)
  all_named connected net [] h = all_nil N
  all_named connected net (line ∷ all) h =
      all_append (named_in connected net line) (flat_map (named_in connected net) all) (named_fine connected net line (all_head (Fine N M file) line all h)) (all_named connected net all (all_tail (Fine N M file) line all h))

  joined_fine : (all : List Stated) → All (Fine N M file) all → All N (connected_of all)
  joined_fine [] h = all_nil N
  joined_fine (Err kind ∷ all) h = joined_fine all (all_tail (Fine N M file) (Err kind) all h)
  joined_fine (Ok (Opens part) ∷ all) h = joined_fine all (all_tail (Fine N M file) (Ok (Opens part)) all h)
  joined_fine (Ok Nothing ∷ all) h = joined_fine all (all_tail (Fine N M file) (Ok Nothing) all h)
  joined_fine (Ok (Connects kind way node note) ∷ all) h = (let f = all_head (Fine N M file) (Ok (Connects kind way node note)) all h in all_cons N node (connected_of all) f.fine.1 (joined_fine all (all_tail (Fine N M file) (Ok (Connects kind way node note)) all h)))
  joined_fine (Ok (Star node note) ∷ all) h = joined_fine all (all_tail (Fine N M file) (Ok (Star node note)) all h)
  joined_fine (Ok (Ground node value) ∷ all) h = joined_fine all (all_tail (Fine N M file) (Ok (Ground node value)) all h)
  joined_fine (Ok (Coupling a b value) ∷ all) h = joined_fine all (all_tail (Fine N M file) (Ok (Coupling a b value)) all h)
  joined_fine (Ok (Resistor a b value) ∷ all) h = joined_fine all (all_tail (Fine N M file) (Ok (Resistor a b value)) all h)

  with_fine : (t : Bool) (nodes : List NodeName) (node : NodeName) → All N nodes → N node → All N (cond t nodes (nodes ++ node ∷ []))
  with_fine true nodes node h k = h
  with_fine false nodes node h k = all_append nodes (node ∷ []) h (all_cons N node [] k (all_nil N))

  fold_fine : (ys xs : List NodeName) → All N ys → All N xs → All N (fold with_node xs ys)
  fold_fine [] xs h k = k
  fold_fine (y ∷ ys) xs h k = fold_fine ys (with_node xs y) (all_tail N y ys h) (with_fine (has_node xs y) xs y k (all_head N y ys h))

  pub nodes_fine : (net : List ℕ) (all : List Stated) (builder : PartialNet) → IsPartialNet (connected_of all) net all builder → AreFine N M file all → All N builder.nodes
  nodes_fine net all builder s h =
      subst (All N) (sym s.nodes) (fold_fine (connected_of all ++ flat_map (named_in (connected_of all) net) all) []
      (all_append (connected_of all) (flat_map (named_in (connected_of all) net) all) (joined_fine all h.lines) (all_named (connected_of all) net all h.lines)) (all_nil N))

-- the nodes of a builder have names that can be words
pub nodes_named : (net : List ℕ) (file : File) (ls : List (List ℕ)) (builder : PartialNet) → All (AllPass in_line) ls → All (λ row. IsPrintable row.1) file.names
    → IsPartialNet (connected_of (statements file ls)) net (statements file ls) builder → All IsNamed (noted_all builder.nodes builder.notes)
nodes_named net file ls builder inside names s =
    let some : List ℕ → Type 0 = λ _. Unit {0} in
    let here : (line : List ℕ) → AllPass in_line line → IsLine IsNodeName some file line (words line) = λ line h. record {
      names = λ k d l. record { name = λ node e. node_named file (get_or (words line) k d) node names (words_solid line h k d l) e };
      notes = record { conn = λ tag node direction rest name way e f g h. tt; star = λ tag node rest name e f g. tt };
    } in
    let fine = nodes_fine IsNodeName some file net (statements file ls) builder s (statements_fine IsNodeName some file ls (λ k d l. here (get_or ls k d) (inside k d l))) in
    all_from IsNamed (noted_all builder.nodes builder.notes) (λ i node at.
    let n = noted_at builder.nodes builder.notes i node at in
    let low = slice_get_within builder.nodes i n.name n.at in
    let is : get_or builder.nodes i n.name ≡ n.name = same_Some _ _ (sym (slice_get-get_or builder.nodes i n.name low) ∙ n.at) in
    let h : IsNodeName node.name = subst IsNodeName (is ∙ sym (ap (λ (m : ParNode). m.name) n.is)) (fine i n.name low) in
    (h.owner, h.leaf))
