-- The certificate that a text without a fault denotes.
use Rattle.std.specs.Prelude.{◌≡◌, ℕ, ◌+◌, ◌==◌, cond, Bool, true, false, List, [], ◌∷◌, map, length, take, drop, slice_index_or, ℤ, Option, Some, None}
use Rattle.std.specs.Option.{unwrap_or}
use Rattle.std.specs.Map.{lookup}
use Rattle.elmore.specs.declared.pair.Pair.{Pair}
use Rattle.elmore.specs.declared.problem.Problem.{Problem}
use Rattle.vg_scan.specs.declared.name.NetNames.{NetNames}
use Rattle.vg_cert.specs.declared.certificate.NodeLists.{NodeLists}
use Rattle.vg_cert.specs.declared.certificate.Certificate.{Certificate}
use Rattle.vg_cert.specs.Lines.{Line, line_at, word, number_in}
use Rattle.vg_cert.specs.Names.{cell_named}
use Rattle.vg_cert.specs.Roles.{cell_count, even_count, odd_count, section_length, body}
use Rattle.vg_cert.specs.Faults.{is_none, node_in, pair_in}

abbrev pub slack_in : Line → Option ℤ
slack_in line = cond (is_none line) None (Some (number_in (word line 1)))

-- the `at` lines
abbrev pub placed_lines : List Line → List Line
placed_lines ls = take (cell_count ls) (drop 4 ls)

-- the node and the cell of an `at` line
abbrev pub placed_in : NetNames → Line → ℕ × ℕ
placed_in names line = (node_in names line, unwrap_or (cell_named names.cells (word line 2)) 0)

-- the cell of a node: that of the `at` line that names it
abbrev pub cell_of : NetNames → List Line → ℕ → Option ℕ
cell_of names placed v = lookup (λ u. u == v) (map (placed_in names) placed)

-- the pairs of the even list and of the odd list
abbrev pub Lists : Type 0
Lists = List Pair × List Pair

-- what a node's section writes, from its `node` line on
abbrev pub section_lists : List Line → Lists
section_lists ls = (
  map pair_in (take (even_count (line_at ls 0)) (drop 1 ls)),
  map pair_in (take (odd_count (line_at ls 0)) (drop (1 + even_count (line_at ls 0)) ls)),
)

-- the lists of each node, from here on: those of its section where it is live, else none
unfoldable pub lists_in : List Bool → List Line → List Lists
lists_in [] ls = []
lists_in (false ∷ live) ls = ([], []) ∷ lists_in live ls
lists_in (true ∷ live) ls = section_lists ls ∷ lists_in live (drop (section_length (line_at ls 0)) ls)

abbrev pub both : NodeLists → Lists
both lists = (lists.even.items, lists.odd.items)

-- the lines denote the certificate
pub record Denotes (p : Problem) (names : NetNames) (ls : List Line) (cert : Certificate) : Type 0 where
  pub slack : cert.slack ≡ slack_in (line_at ls 2)
  pub one_each : length cert.placement.cells ≡ length p.tree.nodes
  pub cells : (v : ℕ) → slice_index_or cert.placement.cells v None ≡ cell_of names (placed_lines ls) v
  pub lists : map both cert.lists.items ≡ lists_in p.live (body ls)
