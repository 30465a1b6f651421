-- What the section of a net says is the net again.
use Rattle.std.specs.Prelude.{◌≡◌, ℕ, ◌==◌, ◌||◌, ◌<◌, not, Bool, true, false, List, [], ◌∷◌, ◌++◌, length, map, filter, pos, Some, Ok, codes, unsigned_abs}
use Rattle.std.specs.List.{All, Contains, list_any}
use Rattle.std.specs.Str.Lines.{lines}
use Rattle.vg_num.specs.Printed.{scaled_text}
use Rattle.vg_scan.specs.declared.name.NodeName.{NodeName}
use Rattle.vg_scan.specs.Lines.{words}
use Rattle.vg_scan.specs.Names.{canonical}
use Rattle.vg_scan.specs.Printed.{printed}
use Rattle.vg_scan.specs.References.{is_reference}
use Rattle.spef_file.specs.Files.{File}
use Rattle.spef_file.specs.declared.header.Header.{Header}
use Rattle.spef_nodes.specs.Nodes.{ParNode}
use Rattle.spef_net.specs.declared.net.ParConn.{ParConn}
use Rattle.spef_net.specs.declared.net.ParNet.{ParNet}
use Rattle.spef_net.specs.Lines.{part_named}
use Rattle.spef_net.specs.Statements.{Stated, Nothing, Connects, Star, Ground, Resistor, statement_or_opens, statements}
use Rattle.spef_net.specs.Faults.{IsFaultless}
use Rattle.spef_net.specs.Denoted.{IsNet, conn_at, cap_at, res_at}
use Rattle.spef_write.specs.Sections.{node_at, total_at, has_star, charged, total, head_line, inner_lines, section_text, IsWritable}
use Rattle.spef_write.specs.Texts.{IsQuiet, IsQuietLine}

-- a file whose names and numbers are meant as a header says
pub record IsMeantBy (header : Header) (file : File) : Type 0 where
  pub chars : file.chars ≡ header.chars
  pub c_places : file.c_places ≡ pos (unsigned_abs header.c_places)
  pub r_places : file.r_places ≡ pos (unsigned_abs header.r_places)

-- what the line of a connection says
abbrev pub said_conn : List ParNode → ParConn → Stated
said_conn nodes conn =
    Ok (Connects conn.kind conn.direction (node_at nodes conn.node).name (node_at nodes conn.node).note)

-- that of an inner node with its note
abbrev pub said_star : ParNode → Stated
said_star node = Ok (Star node.name node.note)

-- that of a capacitor to the ground
abbrev pub said_cap : List ParNode → ℕ × ℕ → Stated
said_cap nodes cap = Ok (Ground (node_at nodes cap.0).name (Ok cap.1))

-- and that of a resistor
abbrev pub said_res : List ParNode → ℕ × ℕ × ℕ → Stated
said_res nodes res = Ok (Resistor (node_at nodes res.0).name (node_at nodes res.1).name (Ok res.2))

-- what a part's head says: it opens the part
abbrev pub opens : List ℕ → Stated
opens head = statement_or_opens (part_named head) (Ok Nothing)

-- what a part says with its head, which is left out where there is nothing
abbrev pub opened : List ℕ → List Stated → List Stated
opened head [] = []
opened head (said ∷ more) = opens head ∷ said ∷ more

-- what the lines of a net's section say
abbrev pub said_by : ParNet → List Stated
said_by net =
    opens (codes "*CONN")
    ∷ (map (said_conn net.nodes) net.conns
    ++ (map said_star (filter has_star net.nodes)
    ++ (opened (codes "*CAP") (map (said_cap net.nodes) (charged net))
    ++ opened (codes "*RES") (map (said_res net.nodes) net.ress))))

-- the lines of a section say this, in a file that its header means
abbrev pub InnerLinesSay : Type 0
InnerLinesSay = (file : File) (header : Header) (net : ParNet) → IsMeantBy header file → IsWritable net
    → statements file (inner_lines header net) ≡ said_by net

-- no line of a section has a fault
abbrev pub SaidNetsAreFaultless : Type 0
SaidNetsAreFaultless = (net : ParNet) → IsWritable net → IsFaultless net.name (said_by net)

-- the names of nodes
abbrev pub names_of : List ParNode → List NodeName
names_of nodes = map (λ (node : ParNode). node.name) nodes

-- a node that a section names: a connection, or one with a note, a capacitance or a resistor
abbrev pub is_named : ParNet → ℕ → Bool
is_named net k =
    not (node_at net.nodes k).inner || (not (length (node_at net.nodes k).note == 0)
    || (not (total_at net.caps k == 0) || list_any (λ res. (res.0 == k) || (res.1 == k)) net.ress))

-- Another net is this one again, but for the numbers of nodes, nodes that nothing names, and capacitors of one node,
-- which are one. Nodes keep their names and notes; connections, capacitors and resistors are the same by the names of
-- their nodes, in order.
pub record IsWrittenAgain (net other : ParNet) : Type 0 where
  pub named : other.name ≡ net.name
  pub conns : map (conn_at (names_of other.nodes)) other.conns ≡ map (conn_at (names_of net.nodes)) net.conns
  pub nodes : All (Contains net.nodes) other.nodes
  pub kept : (k : ℕ) → k < length net.nodes → is_named net k ≡ true → Contains other.nodes (node_at net.nodes k)
  pub caps : map (cap_at (names_of other.nodes)) other.caps ≡ map (cap_at (names_of net.nodes)) (charged net)
  pub ress : map (res_at (names_of other.nodes)) other.ress ≡ map (res_at (names_of net.nodes)) net.ress
  pub whole : other.reduced ≡ false
  pub plain : other.inductive ≡ false

-- the net that a section denotes is the net that was written
abbrev pub WrittenNetsAgain : Type 0
WrittenNetsAgain =
    (net other : ParNet) → IsWritable net → IsNet net.name false (said_by net) other → IsWrittenAgain net other

-- a section has the lines of which it is made
abbrev pub SectionsAreLines : Type 0
SectionsAreLines = (header : Header) (net : ParNet) (rest : List ℕ) → IsWritable net
    → lines (section_text header net ++ rest)
    ≡ (head_line header net ∷ inner_lines header net) ++ lines (codes "*END" ++ rest)

-- a section is quiet, where the notes of its nodes are
abbrev pub SectionsAreQuiet : Type 0
SectionsAreQuiet =
    (header : Header) (net : ParNet) → IsWritable net → All (λ (node : ParNode). IsQuietLine node.note) net.nodes
    → IsQuiet (section_text header net)

-- the first line of a section names the net
pub record IsHeadOf (header : Header) (net : ParNet) : Type 0 where
  pub says :
      words (head_line header net)
      ≡ codes "*D_NET" ∷ printed header.chars net.name
      ∷ scaled_text (total net.caps) (unsigned_abs header.c_places) ∷ []
  pub named : canonical header.chars (printed header.chars net.name) ≡ Some net.name
  pub plain : is_reference (printed header.chars net.name) ≡ false

-- so it is of each net that can be written
abbrev pub HeadsNameNets : Type 0
HeadsNameNets = (header : Header) (net : ParNet) → IsWritable net → IsHeadOf header net
