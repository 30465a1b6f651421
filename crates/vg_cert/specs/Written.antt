-- The text of a certificate.
use Rattle.std.specs.Prelude.{ℕ, ◌++◌, ◌∷◌, Bool, false, cond, is_some, List, [], map, flat_map, length, get_or, slice_index_or, codes, ℤ, Option, Some, None, Vec}
use Rattle.std.specs.declared.alloc.Global.{Global}
use Rattle.std.specs.Fmt.{decimal, signed_decimal}
use Rattle.std.specs.List.{join_with_byte, count_by, range_with_len}
use Rattle.elmore.specs.declared.pair.Pair.{Pair}
use Rattle.elmore.specs.declared.problem.Problem.{Problem}
use Rattle.vg_scan.specs.declared.name.NetNames.{NetNames}
use Rattle.vg_cert.specs.declared.certificate.NodeLists.{NodeLists}
use Rattle.vg_cert.specs.declared.certificate.Certificate.{Certificate}
use Rattle.vg_cert.specs.declared.growing.Growing.{Growing}
use Rattle.vg_cert.specs.Lines.{Line}
use Rattle.vg_cert.specs.Names.{text_of_node}
use Rattle.vg_cert.specs.Denoted.{Lists, both}

-- a line, with a space between its words
abbrev pub line_text : Line → List ℕ
line_text words = join_with_byte 32 words ++ 10 ∷ []

abbrev pub slack_word : Option ℤ → List ℕ
slack_word None = codes "none"
slack_word (Some z) = signed_decimal z

abbrev pub net_line : NetNames → Line
net_line names = codes "net" ∷ names.net ∷ []

abbrev pub slack_line : Option ℤ → Line
slack_line slack = codes "slack" ∷ slack_word slack ∷ []

abbrev pub head_lines : NetNames → Option ℤ → List Line
head_lines names slack = (codes "vgcert" ∷ codes "1" ∷ []) ∷ net_line names ∷ slack_line slack ∷ []

abbrev pub count_line : List (Option ℕ) → Line
count_line cells = codes "cells" ∷ decimal (count_by is_some cells) ∷ []

-- the line of a node's cell, if it has one
abbrev pub cell_lines : NetNames → ℕ → Option ℕ → List Line
cell_lines names v None = []
cell_lines names v (Some b) = (codes "at" ∷ text_of_node names.nodes v ∷ get_or names.cells b [] ∷ []) ∷ []

abbrev pub pair_line : Pair → Line
pair_line x = signed_decimal x.q ∷ decimal x.c ∷ []

abbrev pub node_line : NetNames → ℕ → Lists → Line
node_line names v lists =
    codes "node" ∷ text_of_node names.nodes v ∷ decimal (length lists.0) ∷ decimal (length lists.1) ∷ []

-- the section of a node
abbrev pub section_lines : NetNames → ℕ → Lists → List Line
section_lines names v lists = node_line names v lists ∷ (map pair_line lists.0 ++ map pair_line lists.1)

-- the lines of a node's lists: none where it is not live
abbrev pub node_lines : NetNames → ℕ → Bool → Lists → List Line
node_lines names v live lists = cond live (section_lines names v lists) []

abbrev pub cells_part : NetNames → List (Option ℕ) → List Line
cells_part names cells =
    count_line cells
    ∷ flat_map (λ v. cell_lines names v (slice_index_or cells v None)) (range_with_len 0 (length cells))

abbrev pub lists_part : NetNames → List Bool → List NodeLists → List Line
lists_part names live lists =
    flat_map (λ v. node_lines names v (get_or live v false) (get_or (map both lists) v ([], [])))
    (range_with_len 0 (length live))

-- the lines that write a certificate
unfoldable pub lines_written : Problem → NetNames → Certificate → List Line
lines_written p names cert =
    head_lines names cert.slack
    ++ (cells_part names cert.placement.cells ++ (lists_part names p.live cert.lists.items ++ (codes "end" ∷ []) ∷ []))

unfoldable pub text_of : Problem → NetNames → Certificate → List ℕ
text_of p names cert = flat_map line_text (lines_written p names cert)

-- the text whose pieces these are, one after another
abbrev pub joined : List (Vec ℕ Global) → List ℕ
joined pieces = flat_map (λ (piece : Vec ℕ Global). piece.items) pieces

-- what is written of a text that grows
abbrev pub text_in : Growing → List ℕ
text_in made = joined made.closed.items ++ made.last.items
