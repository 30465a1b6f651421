-- Lines of connections are read again, and in the lines of a net no comment begins.
use Rattle.std.proofs.Common.{◌≡◌, ℕ, ◌<◌, ◌==◌, ◌^◌, length, Bool, true, not, ◌&&◌, List, [], ◌∷◌, ◌++◌, refl, sym, ap, ◌∙◌, arith, codes, subst, Some, All}
use Rattle.std.proofs.lemmas.Bool.Decides.{nat_tests}
use Rattle.std.proofs.lemmas.List.{append_assoc}
use Rattle.std.proofs.lemmas.List.Elements.{All-nil, All-cons, All-head, All-tail}
use Rattle.std.proofs.lemmas.List.Sums.{AllPass-from_list_all}
use Rattle.std.specs.Fmt.{decimal}
use Rattle.std.specs.List.{list_all}
use Rattle.vg_num.specs.Printed.{scaled_text}
use Rattle.vg_scan.specs.declared.chars.Chars.{Chars}
use Rattle.vg_scan.specs.declared.name.NodeName.{NodeName}
use Rattle.vg_scan.specs.Lines.{words, Line}
use Rattle.vg_scan.specs.Printed.{is_solid}
use Rattle.spef_file.specs.Files.{File}
use Rattle.spef_net.specs.declared.net.ConnKind.{ConnKind}
use Rattle.spef_net.specs.declared.net.ConnKind.TheVariants.{Pin, Port}
use Rattle.spef_net.specs.declared.net.Direction.{Direction}
use Rattle.spef_net.specs.declared.net.Direction.TheVariants.{In, Out, Both}
use Rattle.spef_net.specs.Lines.{note_after}
use Rattle.spef_net.specs.Statements.{connected, direction_in, starred, conn_line}
use Rattle.spef_nodes.specs.Names.{node_in}
use Rattle.spef_write.specs.Texts.{spaced, ended, lined, noted, conn_tag, direction_word, conn_text, star_text, printed_node, IsWord, IsNodePrintable, IsQuiet, IsQuietLine}
use Rattle.spef_write.specs.TextLaws.{ConnsAgain, StarsAgain, LinesAreQuiet}
use Rattle.spef_write.proofs.WordLemmas.{both_true, word_ended, word_last}
use Rattle.spef_write.proofs.NodeLemmas.{node_again}
use Rattle.spef_write.proofs.QuietLemmas.{quiet_none, quiet_both, quiet_byte, node_quiet}
use Rattle.spef_write.proofs.NumberLemmas.{decimal_number, quiet_all, printed_word, numbers_again}
use Rattle.spef_write.proofs.NoteLemmas.{notes_again}

-- THE WORDS OF A LINE WITH A NOTE
words_noted : (w : List ℕ) (ws : List (List ℕ)) (note : List ℕ) → All IsWord (w ∷ ws)
    → (more : List (List ℕ)) × (words (noted (spaced (w ∷ ws)) note) ≡ w ∷ ws ++ more)
words_noted w [] [] all = ([], word_last w (All-head IsWord w [] all))
words_noted w [] (b ∷ note) all = (words (b ∷ note), word_ended w (b ∷ note) (All-head IsWord w [] all))
words_noted w (next ∷ ws) note all =
    let (more, e) = words_noted next ws note (All-tail IsWord w (next ∷ ws) all) in
    (more, ap words (split note) ∙ word_ended w (noted (spaced (next ∷ ws)) note) (All-head IsWord w (next ∷ ws) all) ∙ ap (λ vs. w ∷ vs) e)
  where
    split : (note : List ℕ) → noted (spaced (w ∷ next ∷ ws)) note ≡ w ++ 32 ∷ noted (spaced (next ∷ ws)) note
    split [] = refl
    split (b ∷ note) = append_assoc w (32 ∷ spaced (next ∷ ws)) (32 ∷ b ∷ note)

pub solid_word : (text : List ℕ) → 0 < length text → list_all is_solid text ≡ true → IsWord text
solid_word text some solid = record { some = some; solid = AllPass-from_list_all is_solid text solid }

pub tag_word : (kind : ConnKind) → IsWord (conn_tag kind)
tag_word Pin = solid_word (codes "*I") (omega arith) refl
tag_word Port = solid_word (codes "*P") (omega arith) refl

pub way_word : (way : Direction) → IsWord (direction_word way)
way_word In = solid_word (codes "I") (omega arith) refl
way_word Out = solid_word (codes "O") (omega arith) refl
way_word Both = solid_word (codes "B") (omega arith) refl

way_again : (way : Direction) → direction_in (direction_word way) ≡ Some way
way_again In = refl
way_again Out = refl
way_again Both = refl

-- THE LINES OF CONNECTIONS
conn_said : (file : File) (kind : ConnKind) (line node way : List ℕ) (more : Line)
    → conn_line file line (conn_tag kind ∷ node ∷ way ∷ more) ≡ connected kind (note_after 3 line) (node_in file node) (direction_in way)
unfolding conn_line
conn_said file Pin line node way more = refl
conn_said file Port line node way more = refl

star_said : (file : File) (line node : List ℕ) (more : Line)
    → conn_line file line (codes "*N" ∷ node ∷ more) ≡ starred (note_after 2 line) (node_in file node)
unfolding conn_line
star_said file line node more = refl

pub conn_all : (chars : Chars) (kind : ConnKind) (way : Direction) (node : NodeName) → IsNodePrintable node
    → All IsWord (conn_tag kind ∷ printed_node chars node ∷ direction_word way ∷ [])
conn_all chars kind way node printable =
    let name = printed_node chars node in
    All-cons IsWord (conn_tag kind) (name ∷ direction_word way ∷ []) (tag_word kind)
    (All-cons IsWord name (direction_word way ∷ []) (printed_word chars node printable)
    (All-cons IsWord (direction_word way) [] (way_word way) (All-nil IsWord)))

pub star_all : (chars : Chars) (node : NodeName) → IsNodePrintable node → All IsWord (codes "*N" ∷ printed_node chars node ∷ [])
star_all chars node printable =
    All-cons IsWord (codes "*N") (printed_node chars node ∷ []) (solid_word (codes "*N") (omega arith) refl)
    (All-cons IsWord (printed_node chars node) [] (printed_word chars node printable) (All-nil IsWord))

-- such lines have two words or more
pub conn_words : (chars : Chars) (kind : ConnKind) (way : Direction) (node : NodeName) (note : List ℕ) → IsNodePrintable node
    → (more : List (List ℕ)) × (words (conn_text chars kind way node note) ≡ conn_tag kind ∷ printed_node chars node ∷ more)
conn_words chars kind way node note printable =
    let (more, e) = words_noted (conn_tag kind) (printed_node chars node ∷ direction_word way ∷ []) note (conn_all chars kind way node printable) in
    (direction_word way ∷ more, e)

pub star_words : (chars : Chars) (node : NodeName) (note : List ℕ) → IsNodePrintable node
    → (more : List (List ℕ)) × (words (star_text chars node note) ≡ codes "*N" ∷ printed_node chars node ∷ more)
star_words chars node note printable = words_noted (codes "*N") (printed_node chars node ∷ []) note (star_all chars node printable)

pub conns_again : ConnsAgain
conns_again file kind way node note printable at is =
    let name = printed_node file.chars node in
    let line = conn_text file.chars kind way node note in
    let all = conn_all file.chars kind way node printable in
    let (more, e) = words_noted (conn_tag kind) (name ∷ direction_word way ∷ []) note all in
    ap (conn_line file line) e
    ∙ conn_said file kind line name (direction_word way) more
    ∙ ap (λ n. connected kind n (node_in file name) (direction_in (direction_word way)))
    (notes_again (conn_tag kind ∷ name ∷ direction_word way ∷ []) note all is)
    ∙ ap (λ o. connected kind note o (direction_in (direction_word way))) (node_again file node.owner node.leaf printable.owner.some)
    ∙ ap (connected kind note (Some node)) (way_again way)
    ∙ rw at refl

pub stars_again : StarsAgain
stars_again file node note printable is =
    let name = printed_node file.chars node in
    let line = star_text file.chars node note in
    let all = star_all file.chars node printable in
    let (more, e) = words_noted (codes "*N") (name ∷ []) note all in
    ap (conn_line file line) e
    ∙ star_said file line name more
    ∙ ap (λ n. starred n (node_in file name)) (notes_again (codes "*N" ∷ name ∷ []) note all is)
    ∙ ap (starred note) (node_again file node.owner node.leaf printable.owner.some)

-- QUIET LINES
abbrev pub is_calm : ℕ → Bool
is_calm b = not (b == 92) && (not (b == 34) && not (b == 47))

pub calm_quiet : (text : List ℕ) → list_all is_calm text ≡ true → IsQuiet text
calm_quiet [] e = quiet_none
calm_quiet (b ∷ bs) e =
    let (first, rest) = both_true (is_calm b) (list_all is_calm bs) e in
    quiet_both (b ∷ []) bs (byte first) (calm_quiet bs rest)
  where
    byte : is_calm b ≡ true → IsQuiet (b ∷ [])
    byte first = quiet_byte b (λ h. grind (arith, nat_tests)) (λ h. grind (arith, nat_tests)) (λ h. grind (arith, nat_tests))

blank_before : (text : List ℕ) → IsQuiet text → IsQuiet (32 ∷ text)
blank_before text q = quiet_both (32 ∷ []) text (calm_quiet (32 ∷ []) refl) q

line_quiet : (text : List ℕ) → IsQuiet text → IsQuietLine text
line_quiet text q = quiet_both text (10 ∷ []) q (calm_quiet (10 ∷ []) refl)

pub spaced_quiet : (ws : List (List ℕ)) → All IsQuiet ws → IsQuiet (spaced ws)
spaced_quiet [] all = quiet_none
spaced_quiet (w ∷ []) all = All-head IsQuiet w [] all
spaced_quiet (w ∷ next ∷ ws) all =
    quiet_both w (32 ∷ spaced (next ∷ ws)) (All-head IsQuiet w (next ∷ ws) all)
    (blank_before (spaced (next ∷ ws)) (spaced_quiet (next ∷ ws) (All-tail IsQuiet w (next ∷ ws) all)))

noted_quiet : (line note : List ℕ) → IsQuiet line → IsQuietLine note → IsQuietLine (noted line note)
noted_quiet line [] q n = line_quiet line q
noted_quiet line (b ∷ note) q n =
    subst IsQuiet (sym (append_assoc line (32 ∷ b ∷ note) (10 ∷ [])))
    (quiet_both line (32 ∷ ended (b ∷ note)) q (blank_before (ended (b ∷ note)) n))

lined_quiet : (ls : List (List ℕ)) → All IsQuietLine ls → IsQuiet (lined ls)
lined_quiet [] all = quiet_none
lined_quiet (l ∷ ls) all = quiet_both (ended l) (lined ls) (All-head IsQuietLine l ls all) (lined_quiet ls (All-tail IsQuietLine l ls all))

tag_quiet : (kind : ConnKind) → IsQuiet (conn_tag kind)
tag_quiet Pin = calm_quiet (codes "*I") refl
tag_quiet Port = calm_quiet (codes "*P") refl

way_quiet : (way : Direction) → IsQuiet (direction_word way)
way_quiet In = calm_quiet (codes "I") refl
way_quiet Out = calm_quiet (codes "O") refl
way_quiet Both = calm_quiet (codes "B") refl

with_word : (w : List ℕ) (ws : List (List ℕ)) → IsQuiet w → All IsQuiet ws → All IsQuiet (w ∷ ws)
with_word w ws q all = All-cons IsQuiet w ws q all

number_quiet : (id : ℕ) → id < 10 ^ 64 → IsQuiet (decimal id)
number_quiet id few = quiet_all (decimal id) (decimal_number id few).all

printed_quiet : (chars : Chars) (node : NodeName) → IsQuiet (printed_node chars node)
printed_quiet chars node = node_quiet chars node.owner node.leaf

pub lines_are_quiet : LinesAreQuiet
lines_are_quiet chars = record {
  caps = λ id v places node few small.
      let name = printed_node chars node in
      let value = scaled_text v places in
      line_quiet (spaced (decimal id ∷ name ∷ value ∷ [])) (spaced_quiet (decimal id ∷ name ∷ value ∷ [])
      (with_word (decimal id) (name ∷ value ∷ []) (number_quiet id few)
      (with_word name (value ∷ []) (printed_quiet chars node)
      (with_word value [] (numbers_again v places small).1 (All-nil IsQuiet)))));
  ress = λ id v places a b few small.
      let from = printed_node chars a in
      let to = printed_node chars b in
      let value = scaled_text v places in
      line_quiet (spaced (decimal id ∷ from ∷ to ∷ value ∷ [])) (spaced_quiet (decimal id ∷ from ∷ to ∷ value ∷ [])
      (with_word (decimal id) (from ∷ to ∷ value ∷ []) (number_quiet id few)
      (with_word from (to ∷ value ∷ []) (printed_quiet chars a)
      (with_word to (value ∷ []) (printed_quiet chars b)
      (with_word value [] (numbers_again v places small).1 (All-nil IsQuiet))))));
  conns = λ kind way node note n.
      let name = printed_node chars node in
      noted_quiet (spaced (conn_tag kind ∷ name ∷ direction_word way ∷ [])) note (spaced_quiet (conn_tag kind ∷ name ∷ direction_word way ∷ [])
      (with_word (conn_tag kind) (name ∷ direction_word way ∷ []) (tag_quiet kind)
      (with_word name (direction_word way ∷ []) (printed_quiet chars node)
      (with_word (direction_word way) [] (way_quiet way) (All-nil IsQuiet))))) n;
  stars = λ node note n.
      let name = printed_node chars node in
      noted_quiet (spaced (codes "*N" ∷ name ∷ [])) note (spaced_quiet (codes "*N" ∷ name ∷ [])
      (with_word (codes "*N") (name ∷ []) (calm_quiet (codes "*N") refl) (with_word name [] (printed_quiet chars node) (All-nil IsQuiet)))) n;
  texts = line_quiet;
  lines = lined_quiet;
}
