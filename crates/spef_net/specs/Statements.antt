-- What a line says by itself, given the part in which it stands.
use Rattle.std.specs.Prelude.{ℕ, ℤ, ◌==◌, ◌^◌, not, Bool, List, [], ◌∷◌, length, codes, Option, Some, None, Result, Ok, Err, if◌then◌else◌}
use Rattle.std.specs.List.{slice_split}
use Rattle.std.specs.Str.{bytes_eq}
use Rattle.vg_num.specs.Number.{scaled}
use Rattle.vg_num.specs.declared.fault.NumFault.{NumFault}
use Rattle.vg_num.specs.declared.fault.NumFault.TheVariants.{Form}
use Rattle.vg_scan.specs.Lines.{words, Line}
use Rattle.vg_scan.specs.declared.name.NodeName.{NodeName}
use Rattle.spef_file.specs.Files.{File}
use Rattle.spef_net.specs.declared.net.ConnKind.{ConnKind}
use Rattle.spef_net.specs.declared.net.ConnKind.TheVariants.{Pin, Port}
use Rattle.spef_net.specs.declared.net.Direction.{Direction}
use Rattle.spef_net.specs.declared.net.Direction.TheVariants.{In, Out, Both}
use Rattle.spef_net.specs.declared.part.Part.{Part}
use Rattle.spef_net.specs.declared.part.Part.TheVariants.{Nowhere, Conns, Caps, Ress, Inducs}
use Rattle.spef_net.specs.declared.fault.NetKind.{NetKind}
use Rattle.spef_net.specs.declared.fault.NetKind.TheVariants.{Conn, Cap, Res}
use Rattle.spef_nodes.specs.Names.{node_in}
use Rattle.spef_net.specs.Lines.{head_of, note_after}

-- what a line says by itself: it is the head of a part; it has no words, or is not read; a connection with its note; a
-- node inside the net with its note; a capacitor to the ground, or between two nodes; a resistor between two nodes
pub data Statement : Type 0 where
  Opens : Part → Statement
  Nothing : Statement
  Connects : ConnKind → Direction → NodeName → List ℕ → Statement
  Star : NodeName → List ℕ → Statement
  Ground : NodeName → Result ℕ NumFault → Statement
  Coupling : NodeName → NodeName → Result ℕ NumFault → Statement
  Resistor : NodeName → NodeName → Result ℕ NumFault → Statement

-- what a line says, or the fault of its form and names
abbrev pub Stated : Type 0
Stated = Result Statement NetKind

abbrev pub is_colon : ℕ → Bool
is_colon b = b == 58

-- the middle one of three numbers, or the fault of the first that has one
abbrev pub middle : Result ℕ NumFault → Result ℕ NumFault → Result ℕ NumFault → Result ℕ NumFault
middle (Err fault) _ _ = Err fault
middle (Ok _) (Err fault) _ = Err fault
middle (Ok _) (Ok _) (Err fault) = Err fault
middle (Ok _) (Ok n) (Ok _) = Ok n

abbrev pub value_of_parts : ℤ → List (List ℕ) → Result ℕ NumFault
value_of_parts places (text ∷ []) = scaled places (10 ^ 15) text
value_of_parts places (low ∷ typical ∷ high ∷ []) =
    middle (scaled places (10 ^ 15) low) (scaled places (10 ^ 15) typical) (scaled places (10 ^ 15) high)
value_of_parts places _ = Err Form

-- a value is one number, or three joined by colons, of which the middle one is taken
unfoldable pub value_in : ℤ → List ℕ → Result ℕ NumFault
value_in places text = value_of_parts places (slice_split is_colon text)

abbrev pub direction_in : List ℕ → Option Direction
direction_in word =
    if bytes_eq word (codes "I") then Some In
    else (if bytes_eq word (codes "O") then Some Out
    else (if bytes_eq word (codes "B") then Some Both else None))

-- a pin's node has a leaf, and a port's has none
abbrev pub is_at : ConnKind → NodeName → Bool
is_at Pin node = not (length node.leaf == 0)
is_at Port node = length node.leaf == 0

abbrev pub connected : ConnKind → List ℕ → Option NodeName → Option Direction → Stated
connected kind note (Some node) (Some direction) =
    if is_at kind node then Ok (Connects kind direction node note) else Err Conn
connected kind note (Some _) None = Err Conn
connected kind note None _ = Err Conn

-- `*I node direction` or `*P node direction`, with any text after it
abbrev pub connection : File → ConnKind → List ℕ → Line → Stated
connection file kind line (node ∷ direction ∷ _) =
    connected kind (note_after 3 line) (node_in file node) (direction_in direction)
connection file kind line _ = Err Conn

abbrev pub starred : List ℕ → Option NodeName → Stated
starred note (Some node) = Ok (Star node note)
starred note None = Err Conn

-- `*N node`, with any text after it
abbrev pub star : File → List ℕ → Line → Stated
star file line (node ∷ _) = starred (note_after 2 line) (node_in file node)
star file line [] = Err Conn

unfoldable pub conn_line : File → List ℕ → Line → Stated
conn_line file line (tag ∷ rest) =
    if bytes_eq tag (codes "*I") then connection file Pin line rest
    else (if bytes_eq tag (codes "*P") then connection file Port line rest
    else (if bytes_eq tag (codes "*N") then star file line rest else Err Conn))
conn_line file line [] = Err Conn

abbrev pub ground : Option NodeName → Result ℕ NumFault → Stated
ground (Some node) value = Ok (Ground node value)
ground None value = Err Cap

-- two nodes, if both texts name one
abbrev pub both : Option NodeName → Option NodeName → Option (NodeName × NodeName)
both (Some a) (Some b) = Some (a, b)
both (Some _) None = None
both None _ = None

abbrev pub coupling : Option (NodeName × NodeName) → Result ℕ NumFault → Stated
coupling (Some nodes) value = Ok (Coupling nodes.0 nodes.1 value)
coupling None value = Err Cap

abbrev pub resistor : Option (NodeName × NodeName) → Result ℕ NumFault → Stated
resistor (Some nodes) value = Ok (Resistor nodes.0 nodes.1 value)
resistor None value = Err Res

-- `id node value` or `id node node value`
unfoldable pub cap_line : File → Line → Stated
cap_line file (_ ∷ node ∷ value ∷ []) = ground (node_in file node) (value_in file.c_places value)
cap_line file (_ ∷ a ∷ b ∷ value ∷ []) =
    coupling (both (node_in file a) (node_in file b)) (value_in file.c_places value)
cap_line file _ = Err Cap

-- `id node node value`
unfoldable pub res_line : File → Line → Stated
res_line file (_ ∷ a ∷ b ∷ value ∷ []) =
    resistor (both (node_in file a) (node_in file b)) (value_in file.r_places value)
res_line file _ = Err Res

-- a line that is no head, in this part
abbrev pub statement_in : Part → File → List ℕ → Line → Stated
statement_in Nowhere file line line_words = Err Conn
statement_in Conns file line line_words = conn_line file line line_words
statement_in Caps file line line_words = cap_line file line_words
statement_in Ress file line line_words = res_line file line_words
statement_in Inducs file line line_words = Ok Nothing

abbrev pub statement_or_opens : Option Part → Stated → Stated
statement_or_opens (Some part) stated = Ok (Opens part)
statement_or_opens None stated = stated

-- a line, with its words
unfoldable pub statement_of_words : File → Part → List ℕ → Line → Stated
statement_of_words file part line [] = Ok Nothing
statement_of_words file part line (word ∷ rest) =
    statement_or_opens (head_of (word ∷ rest)) (statement_in part file line (word ∷ rest))

abbrev pub statement_of : File → Part → List ℕ → Stated
statement_of file part line = statement_of_words file part line (words line)

-- the part that is open after a line
abbrev pub part_after : Part → Stated → Part
part_after part (Ok (Opens opened)) = opened
part_after part _ = part

-- what lines say one after another, where this part is open before them
unfoldable pub statements_from : File → Part → List (List ℕ) → List Stated
statements_from file part [] = []
statements_from file part (line ∷ lines) =
    statement_of file part line ∷ statements_from file (part_after part (statement_of file part line)) lines

-- what the lines of a section say
abbrev pub statements : File → List (List ℕ) → List Stated
statements file lines = statements_from file Nowhere lines
