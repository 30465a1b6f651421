-- Texts of lines of words, as they are written.
use Rattle.std.specs.Prelude.{◌≡◌, ℕ, ◌==◌, ◌-◌, not, false, List, [], ◌∷◌, ◌++◌, length, slice_index, codes}
use Rattle.std.specs.List.{flat_map, AllPass}
use Rattle.vg_scan.specs.declared.chars.Chars.{Chars}
use Rattle.vg_scan.specs.declared.name.NodeName.{NodeName}
use Rattle.vg_scan.specs.declared.comments.Comments.TheVariants.{Spef}
use Rattle.vg_scan.specs.Lines.{is_newline}
use Rattle.vg_scan.specs.Comments.{without_comments}
use Rattle.vg_scan.specs.Printed.{printed, is_solid, IsPrintable}
use Rattle.spef_net.specs.declared.net.ConnKind.{ConnKind}
use Rattle.spef_net.specs.declared.net.ConnKind.TheVariants.{Pin, Port}
use Rattle.spef_net.specs.declared.net.Direction.{Direction}
use Rattle.spef_net.specs.declared.net.Direction.TheVariants.{In, Out, Both}

-- words with one blank between
abbrev pub spaced : List (List ℕ) → List ℕ
spaced [] = []
spaced (word ∷ []) = word
spaced (word ∷ next ∷ words) = word ++ 32 ∷ spaced (next ∷ words)

-- lines, each with its newline
abbrev pub ended : List ℕ → List ℕ
ended line = line ++ 10 ∷ []

abbrev pub lined : List (List ℕ) → List ℕ
lined lines = flat_map ended lines

-- bytes that can be a word
abbrev pub IsWord : List ℕ → Type 0
IsWord word = IsPrintable word

-- bytes that can be a line: no newline, and no carriage return at the end
pub record IsLineText (line : List ℕ) : Type 0 where
  pub whole : AllPass (λ b. not (is_newline b)) line
  pub last : (slice_index line (length line - 1) == 13) ≡ false

-- a node: its owner and its leaf with the delimiter between, or a port, its owner alone
abbrev pub printed_node_with : Chars → List ℕ → List ℕ → List ℕ
printed_node_with chars owner [] = printed chars owner
printed_node_with chars owner (b ∷ leaf) = printed chars owner ++ chars.delimiter ∷ printed chars (b ∷ leaf)

abbrev pub printed_node : Chars → NodeName → List ℕ
printed_node chars node = printed_node_with chars node.owner node.leaf

-- a text that is quiet: no comment begins in it, and whatever follows it has the comments that it has alone
abbrev pub IsQuiet : List ℕ → Type 0
IsQuiet text = (rest : List ℕ) → without_comments Spef (text ++ rest) ≡ text ++ without_comments Spef rest

-- a node whose names can stand in a word
pub record IsNodePrintable (node : NodeName) : Type 0 where
  pub owner : IsPrintable node.owner
  pub leaf : AllPass is_solid node.leaf

-- the first word of a connection's line, and the word of its direction
abbrev pub conn_tag : ConnKind → List ℕ
conn_tag Pin = codes "*I"
conn_tag Port = codes "*P"

abbrev pub direction_word : Direction → List ℕ
direction_word In = codes "I"
direction_word Out = codes "O"
direction_word Both = codes "B"

-- a line with a note behind it, after one blank, or alone where the note is empty
abbrev pub noted : List ℕ → List ℕ → List ℕ
noted line [] = line
noted line (b ∷ note) = line ++ 32 ∷ b ∷ note

-- the line of a connection, and that of a node inside the net
abbrev pub conn_text : Chars → ConnKind → Direction → NodeName → List ℕ → List ℕ
conn_text chars kind direction node note =
    noted (spaced (conn_tag kind ∷ printed_node chars node ∷ direction_word direction ∷ [])) note

abbrev pub star_text : Chars → NodeName → List ℕ → List ℕ
star_text chars node note = noted (spaced (codes "*N" ∷ printed_node chars node ∷ [])) note

-- a line that is quiet, with its newline
abbrev pub IsQuietLine : List ℕ → Type 0
IsQuietLine line = IsQuiet (ended line)
