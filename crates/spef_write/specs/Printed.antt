-- The section of a net, made of what is printed of its nodes.
use Rattle.std.specs.Prelude.{ℕ, zero, suc, ◌+◌, ◌==◌, ◌&&◌, not, Bool, false, List, [], ◌∷◌, length, map, filter, slice_index_or, unsigned_abs, codes}
use Rattle.std.specs.Fmt.{decimal}
use Rattle.vg_num.specs.Printed.{scaled_text}
use Rattle.vg_scan.specs.declared.chars.Chars.{Chars}
use Rattle.vg_scan.specs.Printed.{printed}
use Rattle.spef_file.specs.declared.header.Header.{Header}
use Rattle.spef_nodes.specs.Nodes.{ParNode}
use Rattle.spef_net.specs.declared.net.ParConn.{ParConn}
use Rattle.spef_write.specs.Sections.{headed, numbered, total_at}
use Rattle.spef_write.specs.Texts.{spaced, noted, conn_tag, direction_word, printed_node}

-- what is printed of a node: its name, whether it is no connection, its note, and its capacitance
pub record PrintedNode : Type 0 where
  pub name : List ℕ
  pub inner : Bool
  pub note : List ℕ
  pub charge : ℕ

-- past the last node there is none
abbrev pub NO_PRINTED : PrintedNode
NO_PRINTED = record { name = []; inner = false; note = []; charge = 0 }

abbrev pub printed_at : List PrintedNode → ℕ → PrintedNode
printed_at nodes k = slice_index_or nodes k NO_PRINTED

-- what is printed of a node that has this capacitance
abbrev pub printed_of : Chars → ParNode → ℕ → PrintedNode
printed_of chars node charge =
    record { name = printed_node chars node.name; inner = node.inner; note = node.note; charge = charge }

-- and of nodes whose numbers count from k on, where the net has these capacitors
unfoldable pub printed_all : Chars → List (ℕ × ℕ) → ℕ → List ParNode → List PrintedNode
printed_all chars caps k [] = []
printed_all chars caps k (node ∷ nodes) = printed_of chars node (total_at caps k) ∷ printed_all chars caps (k + 1) nodes

-- ---- lines

abbrev pub head_row : Header → List ℕ → ℕ → List ℕ
head_row header name charge =
    spaced (codes "*D_NET" ∷ printed header.chars name ∷ scaled_text charge (unsigned_abs header.c_places) ∷ [])

abbrev pub conn_row : List PrintedNode → ParConn → List ℕ
conn_row nodes conn =
    noted (spaced (conn_tag conn.kind ∷ (printed_at nodes conn.node).name ∷ direction_word conn.direction ∷ []))
    (printed_at nodes conn.node).note

-- an inner node with a note, and its line
abbrev pub is_starred : PrintedNode → Bool
is_starred node = node.inner && not (length node.note == 0)

abbrev pub star_row : PrintedNode → List ℕ
star_row node = noted (spaced (codes "*N" ∷ node.name ∷ [])) node.note

abbrev pub star_rows : List PrintedNode → List (List ℕ)
star_rows nodes = map star_row (filter is_starred nodes)

-- a node with a capacitance, and its line
abbrev pub is_loaded : PrintedNode → Bool
is_loaded node = not (node.charge == 0)

abbrev pub cap_row : Header → ℕ → PrintedNode → List ℕ
cap_row header id node = spaced (decimal id ∷ node.name ∷ scaled_text node.charge (unsigned_abs header.c_places) ∷ [])

-- the lines of these nodes, in their order
abbrev pub cap_rows : Header → List PrintedNode → List (List ℕ)
cap_rows header nodes = headed (codes "*CAP") (numbered (cap_row header) 1 (filter is_loaded nodes))

abbrev pub res_row : Header → List PrintedNode → ℕ → ℕ × ℕ × ℕ → List ℕ
res_row header nodes id res =
    spaced (
    decimal id ∷ (printed_at nodes res.0).name ∷ (printed_at nodes res.1).name
    ∷ scaled_text res.2 (unsigned_abs header.r_places) ∷ []
    )

abbrev pub res_rows : Header → List PrintedNode → List (ℕ × ℕ × ℕ) → List (List ℕ)
res_rows header nodes ress = headed (codes "*RES") (numbered (res_row header nodes) 1 ress)

-- the lines that a line brings behind so many others of its part: the first one stands behind the part's head
abbrev pub behind : ℕ → List ℕ → List ℕ → List (List ℕ)
behind zero head line = head ∷ line ∷ []
behind (suc _) head line = line ∷ []
