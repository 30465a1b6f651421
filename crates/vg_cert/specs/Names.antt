-- How nodes are written, and which nodes and cells the words name.
use Rattle.std.specs.Prelude.{◌≡◌, ℕ, ◌==◌, ◌||◌, ◌++◌, ◌∷◌, cond, Bool, false, List, [], length, map, get_or, Option}
use Rattle.std.specs.List.{All, AllPairs, position, list_any}
use Rattle.std.specs.Str.{bytes_eq}
use Rattle.elmore.specs.declared.problem.Problem.{Problem}
use Rattle.vg_scan.specs.declared.name.NodeName.{NodeName}
use Rattle.vg_scan.specs.declared.name.NetNames.{NetNames}
use Rattle.vg_scan.specs.Lines.{is_blank, is_newline}
use Rattle.vg_cert.specs.Lines.{is_empty}

-- a colon or a backslash
abbrev pub is_marked : ℕ → Bool
is_marked b = (b == 58) || (b == 92)

-- a byte of a name, with a backslash before a colon or a backslash
abbrev pub marks : ℕ → List ℕ
marks b = cond (is_marked b) (92 ∷ b ∷ []) (b ∷ [])

unfoldable pub escaped : List ℕ → List ℕ
escaped [] = []
escaped (b ∷ bs) = marks b ++ escaped bs

-- a colon and the leaf; nothing where the leaf is empty
abbrev pub leaf_text : List ℕ → List ℕ
leaf_text leaf = cond (is_empty leaf) [] (58 ∷ escaped leaf)

-- `owner:leaf`, or `owner`
unfoldable pub node_text : NodeName → List ℕ
node_text node = escaped node.owner ++ leaf_text node.leaf

-- how a node of a net is written
abbrev pub text_of_node : List NodeName → ℕ → List ℕ
text_of_node nodes v = get_or (map node_text nodes) v []

-- the node of a net that a word names
abbrev pub node_named : List NodeName → List ℕ → Option ℕ
node_named nodes word = position (λ text. bytes_eq text word) (map node_text nodes)

-- the cell that a word names
abbrev pub cell_named : List (List ℕ) → List ℕ → Option ℕ
cell_named cells word = position (λ cell. bytes_eq cell word) cells

-- a blank or the end of a line
abbrev pub is_gap : ℕ → Bool
is_gap b = is_blank b || is_newline b

-- bytes that stand in a line as one word
pub record IsWord (name : List ℕ) : Type 0 where
  pub some : is_empty name ≡ false
  pub solid : list_any is_gap name ≡ false

pub record IsNodeWord (node : NodeName) : Type 0 where
  pub owner : IsWord node.owner
  pub leaf : list_any is_gap node.leaf ≡ false

-- the names are those of a problem's net, nodes and repeaters
pub record AreNamesOf (p : Problem) (names : NetNames) : Type 0 where
  pub nodes_each : length names.nodes ≡ length p.tree.nodes
  pub cells_each : length names.cells ≡ length p.reps
  pub nodes_differ : AllPairs (λ (a b : NodeName). a ≡ b → ⊥) names.nodes
  pub cells_differ : AllPairs (λ (a b : List ℕ). a ≡ b → ⊥) names.cells
  pub net : IsWord names.net
  pub nodes : All IsNodeWord names.nodes
  pub cells : All IsWord names.cells
