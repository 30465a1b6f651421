-- What is written is read again: words, lines, names of nodes, values, notes, and the lines of capacitors, resistors
-- and connections.
use Rattle.std.specs.Prelude.{◌≡◌, ℕ, ◌<◌, ◌≤◌, ◌^◌, true, pos, List, [], ◌∷◌, ◌++◌, length, Some, Ok}
use Rattle.std.specs.List.{All}
use Rattle.std.specs.Str.Lines.{lines}
use Rattle.vg_scan.specs.declared.chars.Chars.{Chars}
use Rattle.vg_scan.specs.declared.name.NodeName.{NodeName}
use Rattle.vg_scan.specs.Lines.{words}
use Rattle.vg_scan.specs.Printed.{printed}
use Rattle.spef_file.specs.Files.{File}
use Rattle.spef_nodes.specs.Names.{node_in}
use Rattle.std.specs.Fmt.{decimal}
use Rattle.vg_num.specs.Printed.{scaled_text}
use Rattle.spef_net.specs.declared.net.ConnKind.{ConnKind}
use Rattle.spef_net.specs.declared.net.Direction.{Direction}
use Rattle.spef_net.specs.Lines.{note_after}
use Rattle.spef_net.specs.Nets.{IsNote}
use Rattle.spef_net.specs.Statements.{value_in, cap_line, res_line, is_at, conn_line, Ground, Resistor, Connects, Star}
use Rattle.spef_write.specs.Texts.{spaced, lined, IsWord, IsLineText, IsNodePrintable, printed_node, noted, conn_text, star_text, IsQuiet, IsQuietLine}

-- a line of words has these words
abbrev pub WordsAgain : Type 0
WordsAgain = (ws : List (List ℕ)) → All IsWord ws → words (spaced ws) ≡ ws

-- a text of lines has these lines, also where it goes on
abbrev pub LinesAgain : Type 0
LinesAgain = (ls : List (List ℕ)) (rest : List ℕ) → All IsLineText ls → lines (lined ls ++ rest) ≡ ls ++ lines rest

-- a printed node names the node, by the bytes that have a meaning in the file's names
abbrev pub NodesAgain : Type 0
NodesAgain =
    (file : File) (node : NodeName) → 0 < length node.owner → node_in file (printed_node file.chars node) ≡ Some node

-- a printed name and a printed node are quiet
abbrev pub NamesAreQuiet : Type 0
NamesAreQuiet = (chars : Chars) (name : List ℕ) → IsQuiet (printed chars name)

abbrev pub NodesAreQuiet : Type 0
NodesAreQuiet = (chars : Chars) (node : NodeName) → IsQuiet (printed_node chars node)

-- a printed value is a word, is quiet, and is read as the value
abbrev pub NumbersAgain : Type 0
NumbersAgain = (n places : ℕ) → n ≤ 10 ^ 15
    → IsWord (scaled_text n places) × IsQuiet (scaled_text n places)
    × (value_in (pos places) (scaled_text n places) ≡ Ok n)

-- the lines of a capacitor to the ground and of a resistor, where the file's values have so many places
abbrev pub CapsAgain : Type 0
CapsAgain = (file : File) (id v places : ℕ) (node : NodeName) → IsNodePrintable node → id < 10 ^ 64 → v ≤ 10 ^ 15
    → file.c_places ≡ pos places
    → cap_line file (words (spaced (decimal id ∷ printed_node file.chars node ∷ scaled_text v places ∷ [])))
    ≡ Ok (Ground node (Ok v))

abbrev pub RessAgain : Type 0
RessAgain = (file : File) (id v places : ℕ) (a b : NodeName) → IsNodePrintable a → IsNodePrintable b → id < 10 ^ 64
    → v ≤ 10 ^ 15 → file.r_places ≡ pos places
    → res_line file
    (words (spaced (decimal id ∷ printed_node file.chars a ∷ printed_node file.chars b ∷ scaled_text v places ∷ [])))
    ≡ Ok (Resistor a b (Ok v))

-- what stands behind the words of a line is its note, and where nothing does, the note is empty
abbrev pub NotesAgain : Type 0
NotesAgain = (ws : List (List ℕ)) (note : List ℕ) → All IsWord ws → IsNote note
    → note_after (length ws) (noted (spaced ws) note) ≡ note

-- the lines of a connection and of a node inside the net, each with its note
abbrev pub ConnsAgain : Type 0
ConnsAgain = (file : File) (kind : ConnKind) (direction : Direction) (node : NodeName) (note : List ℕ)
    → IsNodePrintable node → is_at kind node ≡ true → IsNote note
    → conn_line file (conn_text file.chars kind direction node note)
    (words (conn_text file.chars kind direction node note))
    ≡ Ok (Connects kind direction node note)

abbrev pub StarsAgain : Type 0
StarsAgain = (file : File) (node : NodeName) (note : List ℕ) → IsNodePrintable node → IsNote note
    → conn_line file (star_text file.chars node note) (words (star_text file.chars node note)) ≡ Ok (Star node note)

-- the lines of a net are quiet, each with its newline, those of connections and inner nodes if their note is so; so is
-- a text of such lines, and a quiet text is such a line
pub record HasQuietLines (chars : Chars) : Type 0 where
  pub caps : (id v places : ℕ) (node : NodeName) → id < 10 ^ 64 → v ≤ 10 ^ 15
      → IsQuietLine (spaced (decimal id ∷ printed_node chars node ∷ scaled_text v places ∷ []))
  pub ress : (id v places : ℕ) (a b : NodeName) → id < 10 ^ 64 → v ≤ 10 ^ 15
      → IsQuietLine (spaced (decimal id ∷ printed_node chars a ∷ printed_node chars b ∷ scaled_text v places ∷ []))
  pub conns : (kind : ConnKind) (direction : Direction) (node : NodeName) (note : List ℕ) → IsQuietLine note
      → IsQuietLine (conn_text chars kind direction node note)
  pub stars : (node : NodeName) (note : List ℕ) → IsQuietLine note → IsQuietLine (star_text chars node note)
  pub texts : (text : List ℕ) → IsQuiet text → IsQuietLine text
  pub lines : (ls : List (List ℕ)) → All IsQuietLine ls → IsQuiet (lined ls)

abbrev pub LinesAreQuiet : Type 0
LinesAreQuiet = (chars : Chars) → HasQuietLines chars
