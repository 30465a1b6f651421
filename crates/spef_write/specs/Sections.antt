-- The section of a net, as it is written. Source: IEEE Std 1481, the sections of `*D_NET`.
use Rattle.std.specs.Prelude.{◌≡◌, ℕ, ◌+◌, ◌==◌, ◌≤◌, ◌<◌, ◌^◌, ◌&&◌, not, Bool, false, List, [], ◌∷◌, ◌++◌, length, map, filter, sum_by, slice_index_or, unsigned_abs, codes}
use Rattle.std.specs.Fmt.{decimal}
use Rattle.vg_num.specs.Printed.{scaled_text}
use Rattle.vg_scan.specs.declared.chars.Chars.{Chars}
use Rattle.vg_scan.specs.Printed.{printed}
use Rattle.spef_file.specs.declared.header.Header.{Header}
use Rattle.spef_nodes.specs.Nodes.{ParNode}
use Rattle.spef_net.specs.declared.net.ParConn.{ParConn}
use Rattle.spef_net.specs.declared.net.ParNet.{ParNet}
use Rattle.spef_write.specs.Texts.{spaced, lined, printed_node, conn_text, star_text}

-- past the last node there is none
abbrev pub NO_NODE : ParNode
NO_NODE = record { name = record { owner = []; leaf = [] }; inner = false; note = [] }

-- the node of a number
abbrev pub node_at : List ParNode → ℕ → ParNode
node_at nodes k = slice_index_or nodes k NO_NODE

-- the values of all capacitors together
abbrev pub total : List (ℕ × ℕ) → ℕ
total caps = sum_by (λ cap. cap.1) caps

-- and of those at a node
abbrev pub total_at : List (ℕ × ℕ) → ℕ → ℕ
total_at caps k = total (filter (λ cap. cap.0 == k) caps)

-- a node that has a capacitance, with it
abbrev pub is_charged : ℕ × ℕ → Bool
is_charged row = not (row.1 == 0)

-- each number once, where it comes first
abbrev pub each_once : List ℕ → List ℕ
each_once [] = []
each_once (k ∷ ks) = k ∷ filter (λ j. not (k == j)) (each_once ks)

-- the nodes that capacitors name, in the order in which they name them first
abbrev pub cap_nodes : List (ℕ × ℕ) → List ℕ
cap_nodes caps = each_once (map (λ cap. cap.0) caps)

-- each of these nodes, with the capacitance there
abbrev pub sums : List (ℕ × ℕ) → List (ℕ × ℕ)
sums caps = map (λ k. (k, total_at caps k)) (cap_nodes caps)

-- the nodes with a capacitance, each with its own, in the order of the net's capacitors
abbrev pub charged : ParNet → List (ℕ × ℕ)
charged net = filter is_charged (sums net.caps)

-- lines with numbers that count from n on
abbrev pub numbered : {X : Type 0} → (ℕ → X → List ℕ) → ℕ → List X → List (List ℕ)
numbered line n [] = []
numbered line n (x ∷ xs) = line n x ∷ numbered line (n + 1) xs

-- the line of a capacitor to the ground
abbrev pub cap_text : Header → List ParNode → ℕ → ℕ × ℕ → List ℕ
cap_text header nodes id cap =
    spaced (
    decimal id ∷ printed_node header.chars (node_at nodes cap.0).name
    ∷ scaled_text cap.1 (unsigned_abs header.c_places) ∷ []
    )

-- the line of a resistor
abbrev pub res_text : Header → List ParNode → ℕ → ℕ × ℕ × ℕ → List ℕ
res_text header nodes id res =
    spaced (
    decimal id ∷ printed_node header.chars (node_at nodes res.0).name
    ∷ printed_node header.chars (node_at nodes res.1).name
    ∷ scaled_text res.2 (unsigned_abs header.r_places) ∷ []
    )

-- the lines of a part behind its head, which is left out where there are none
abbrev pub headed : List ℕ → List (List ℕ) → List (List ℕ)
headed head [] = []
headed head (line ∷ lines) = head ∷ line ∷ lines

-- the line of a connection
abbrev pub conn_line_of : Chars → List ParNode → ParConn → List ℕ
conn_line_of chars nodes conn =
    conn_text chars conn.kind conn.direction (node_at nodes conn.node).name (node_at nodes conn.node).note

-- the lines of the connections
abbrev pub conn_lines : Chars → List ParNode → List ParConn → List (List ℕ)
conn_lines chars nodes conns = map (conn_line_of chars nodes) conns

-- an inner node with a note
abbrev pub has_star : ParNode → Bool
has_star node = node.inner && not (length node.note == 0)

-- its line
abbrev pub star_line_of : Chars → ParNode → List ℕ
star_line_of chars node = star_text chars node.name node.note

-- the lines of the inner nodes with a note
abbrev pub star_lines : Chars → List ParNode → List (List ℕ)
star_lines chars nodes = map (star_line_of chars) (filter has_star nodes)

-- the part of the capacitances
abbrev pub cap_lines : Header → List ParNode → List (ℕ × ℕ) → List (List ℕ)
cap_lines header nodes caps = headed (codes "*CAP") (numbered (cap_text header nodes) 1 caps)

-- the part of the resistors
abbrev pub res_lines : Header → List ParNode → List (ℕ × ℕ × ℕ) → List (List ℕ)
res_lines header nodes ress = headed (codes "*RES") (numbered (res_text header nodes) 1 ress)

-- the lines between a section's first one and its end
abbrev pub inner_lines : Header → ParNet → List (List ℕ)
inner_lines header net =
    codes "*CONN"
    ∷ (conn_lines header.chars net.nodes net.conns
    ++ (star_lines header.chars net.nodes
    ++ (cap_lines header net.nodes (charged net) ++ res_lines header net.nodes net.ress)))

-- the first line of a section
abbrev pub head_line : Header → ParNet → List ℕ
head_line header net =
    spaced (codes "*D_NET" ∷ printed header.chars net.name
    ∷ scaled_text (total net.caps) (unsigned_abs header.c_places) ∷ [])

-- the section, without a newline behind its end
abbrev pub section_text : Header → ParNet → List ℕ
section_text header net = lined (head_line header net ∷ inner_lines header net) ++ codes "*END"

-- a net that can be written: no reduced one, without inductances, and with few capacitances and resistors
pub record IsWritable (net : ParNet) : Type 0 where
  pub whole : net.reduced ≡ false
  pub plain : net.inductive ≡ false
  pub charge : total net.caps ≤ 10 ^ 15
  pub nodes : length net.nodes < 2 ^ 64
  pub resistors : length net.ress < 2 ^ 64
