-- The lines of a section, as a text.
use Rattle.std.proofs.Common.{◌≡◌, ℕ, ◌+◌, ◌-◌, ◌<◌, ◌≤◌, ◌^◌, ◌==◌, true, false, not, Bool, List, [], ◌∷◌, ◌++◌, filter, refl, ap, ◌∙◌, arith, length, get_or}
use Rattle.std.specs.Prelude.{codes, unsigned_abs, slice_index}
use Rattle.std.specs.Fmt.{decimal}
use Rattle.std.specs.List.{All, list_all}
use Rattle.std.specs.Str.Lines.{lines}
use Rattle.std.proofs.lemmas.Bool.Decides.{nat_tests}
use Rattle.std.proofs.lemmas.List.{append_assoc, length-append, get_or-append_right}
use Rattle.std.proofs.lemmas.List.Elements.{All-nil, All-cons, All-head, All-tail, All-weaker, All-get_or, All-append, All-map, All-filter, filter_passes}
use Rattle.std.proofs.lemmas.List.Folds.{list_all-append}
use Rattle.std.proofs.lemmas.List.Sums.{list_all-from_AllPass, AllPass-from_list_all}
use Rattle.vg_num.specs.Printed.{scaled_text}
use Rattle.vg_scan.specs.declared.chars.Chars.{Chars}
use Rattle.vg_scan.specs.Lines.{is_newline}
use Rattle.vg_scan.specs.Printed.{printed, is_solid}
use Rattle.vg_scan.specs.declared.name.NodeName.{NodeName}
use Rattle.vg_scan.proofs.PrintedLemmas.{reads_again, no_reference}
use Rattle.spef_net.specs.declared.net.Direction.{Direction}
use Rattle.spef_net.specs.declared.net.Direction.TheVariants.{In, Out, Both}
use Rattle.spef_file.specs.declared.header.Header.{Header}
use Rattle.spef_nodes.specs.Nodes.{ParNode}
use Rattle.spef_net.specs.declared.net.ParConn.{ParConn}
use Rattle.spef_net.specs.declared.net.ParNet.{ParNet}
use Rattle.spef_net.specs.Nets.{IsNote, IsNamed, IsResOf}
use Rattle.spef_net.specs.Lines.{is_space}
use Rattle.spef_write.specs.Sections.{NO_NODE, node_at, charged, conn_lines, conn_line_of, star_lines, star_line_of, has_star, cap_text, res_text, numbered, headed, head_line, inner_lines, total, IsWritable}
use Rattle.spef_write.specs.SectionLaws.{SectionsAreLines, SectionsAreQuiet, HeadsNameNets}
use Rattle.spef_write.specs.Texts.{spaced, lined, noted, printed_node, conn_tag, direction_word, star_text, IsWord, IsNodePrintable, IsLineText, IsQuiet, IsQuietLine}
use Rattle.spef_write.proofs.WordLemmas.{both_true, words_again, lines_again}
use Rattle.spef_write.proofs.QuietLemmas.{quiet_both, name_quiet}
use Rattle.spef_write.proofs.LineLemmas.{lines_are_quiet, calm_quiet, spaced_quiet, solid_word, tag_word}
use Rattle.spef_write.proofs.NumberLemmas.{IsNumber, is_numeric, all_weaker, node_word, number_word, printed_word, decimal_number, scaled_number, numbers_again}
use Rattle.spef_write.proofs.NetLemmas.{node_printable, note_is, conns_are, charges_are, charged_few, IsConnOf, IsChargeOf}

-- ---- properties of all lines of a section

numbered_all : {X : Type 0} (P : List ℕ → Type 0) (line : ℕ → X → List ℕ) (limit n : ℕ) (xs : List X) → n + length xs ≤ limit
    → All (λ x. (k : ℕ) → k < limit → P (line k x)) xs → All P (numbered line n xs)
numbered_all P line limit n [] few all = All-nil P
numbered_all P line limit n (x ∷ xs) few all =
    All-cons P (line n x) (numbered line (n + 1) xs) (All-head (λ y. (k : ℕ) → k < limit → P (line k y)) x xs all n (omega (arith, few)))
    (numbered_all P line limit (n + 1) xs (omega (arith, few)) (All-tail (λ y. (k : ℕ) → k < limit → P (line k y)) x xs all))

headed_all : (P : List ℕ → Type 0) (head : List ℕ) (ls : List (List ℕ)) → P head → All P ls → All P (headed head ls)
headed_all P head [] p all = All-nil P
headed_all P head (l ∷ ls) p all = All-cons P head (l ∷ ls) p all

-- what each line of a section is, all are
pub record AreLines (P : List ℕ → Type 0) (header : Header) (net : ParNet) : Type 0 where
  pub first : P (head_line header net)
  pub conn_head : P (codes "*CONN")
  pub cap_head : P (codes "*CAP")
  pub res_head : P (codes "*RES")
  pub conns : All (λ conn. P (conn_line_of header.chars net.nodes conn)) net.conns
  pub stars : All (λ node. P (star_line_of header.chars node)) (filter has_star net.nodes)
  pub caps : All (λ cap. (k : ℕ) → k < 10 ^ 64 → P (cap_text header net.nodes k cap)) (charged net)
  pub ress : All (λ res. (k : ℕ) → k < 10 ^ 64 → P (res_text header net.nodes k res)) net.ress

pub all_lines : (P : List ℕ → Type 0) (header : Header) (net : ParNet) → IsWritable net → AreLines P header net → All P (head_line header net ∷ inner_lines header net)
all_lines P header net writable are =
    let caps = headed (codes "*CAP") (numbered (cap_text header net.nodes) 1 (charged net)) in
    let ress = headed (codes "*RES") (numbered (res_text header net.nodes) 1 net.ress) in
    let conns = conn_lines header.chars net.nodes net.conns in
    let stars = star_lines header.chars net.nodes in
    All-cons P (head_line header net) (inner_lines header net) are.first
    (All-cons P (codes "*CONN") (conns ++ (stars ++ (caps ++ ress))) are.conn_head
    (All-append P conns (stars ++ (caps ++ ress)) (All-map P (conn_line_of header.chars net.nodes) net.conns are.conns)
    (All-append P stars (caps ++ ress)
    (All-map P (star_line_of header.chars) (filter has_star net.nodes) are.stars)
    (All-append P caps ress
    (headed_all P (codes "*CAP") (numbered (cap_text header net.nodes) 1 (charged net)) are.cap_head
    (numbered_all P (cap_text header net.nodes) (10 ^ 64) 1 (charged net) (omega (arith, charged_few net, writable.nodes)) are.caps))
    (headed_all P (codes "*RES") (numbered (res_text header net.nodes) 1 net.ress) are.res_head
    (numbered_all P (res_text header net.nodes) (10 ^ 64) 1 net.ress (omega (arith, writable.resistors)) are.ress))))))

-- ---- texts on one line

abbrev one_line : List ℕ → Bool
one_line text = list_all (λ b. not (is_newline b)) text

not_newline : (b : ℕ) → is_solid b ≡ true → not (is_newline b) ≡ true
not_newline b e = grind (arith, nat_tests)

word_line : (w : List ℕ) → IsWord w → one_line w ≡ true
word_line w is = all_weaker is_solid (λ b. not (is_newline b)) not_newline w (list_all-from_AllPass is_solid w is.solid)

-- more text on a line, before its end
line_after : (xs ys : List ℕ) → one_line xs ≡ true → 0 < length ys → IsLineText ys → IsLineText (xs ++ ys)
line_after xs ys whole some is = record {
  whole =
      AllPass-from_list_all (λ b. not (is_newline b)) (xs ++ ys)
      (list_all-append (λ b. not (is_newline b)) xs ys ∙ rw (whole, list_all-from_AllPass (λ b. not (is_newline b)) ys is.whole) refl);
  last = ap (λ b. b == 13) last_same ∙ is.last;
}
  where
    last_same : slice_index (xs ++ ys) (length (xs ++ ys) - 1) ≡ slice_index ys (length ys - 1)
    last_same =
        let few = length-append xs ys in
        let at : length (xs ++ ys) - 1 - length xs ≡ length ys - 1 = omega (arith, few, some) in
        get_or-append_right xs ys (length xs) (length (xs ++ ys) - 1) 0 refl (omega (arith, few, some)) ∙ ap (λ k. get_or ys k 0) at

word_before : (w rest : List ℕ) → IsWord w → 0 < length rest → IsLineText rest → IsLineText (w ++ 32 ∷ rest)
word_before w rest word some is = line_after w (32 ∷ rest) (word_line w word) (omega arith) (line_after (32 ∷ []) rest refl some is)

some_after : (w rest : List ℕ) → 0 < length (w ++ 32 ∷ rest)
some_after w rest = omega (arith, length-append w (32 ∷ rest))

numeric_line : (b : ℕ) → is_numeric b ≡ true → not (is_newline b) ≡ true
numeric_line b e = grind (arith, nat_tests)

numeric_end : (b : ℕ) → is_numeric b ≡ true → (b == 13) ≡ false
numeric_end b e = grind (arith, nat_tests)

number_line : (text : List ℕ) → IsNumber text → IsLineText text
number_line text is = record {
  whole = AllPass-from_list_all (λ b. not (is_newline b)) text (all_weaker is_numeric (λ b. not (is_newline b)) numeric_line text is.all);
  last = numeric_end (slice_index text (length text - 1)) (AllPass-from_list_all is_numeric text is.all (length text - 1) 0 (omega (arith, is.some)));
}

space_end : (b : ℕ) → is_space b ≡ false → (b == 13) ≡ false
space_end b e = grind (arith, nat_tests)

note_line : (note : List ℕ) → 0 < length note → IsNote note → IsLineText note
note_line note some is = record { whole = is.one_line; last = space_end (slice_index note (length note - 1)) (is.ends some) }

-- a line with a note ends with the note
noted_line : (line : List ℕ) (b : ℕ) (bs : List ℕ) → one_line line ≡ true → IsNote (b ∷ bs) → IsLineText (noted line (b ∷ bs))
noted_line line b bs whole is =
    line_after line (32 ∷ b ∷ bs) whole (omega arith) (line_after (32 ∷ []) (b ∷ bs) refl (omega arith) (note_line (b ∷ bs) (omega arith) is))

-- or as it ended
maybe_noted : (line note : List ℕ) → IsLineText line → IsNote note → IsLineText (noted line note)
maybe_noted line [] is note = is
maybe_noted line (b ∷ bs) is note = noted_line line b bs (list_all-from_AllPass (λ b. not (is_newline b)) line is.whole) note

known_line : (text : List ℕ) → one_line text ≡ true → (slice_index text (length text - 1) == 13) ≡ false → IsLineText text
known_line text whole last = record { whole = AllPass-from_list_all (λ b. not (is_newline b)) text whole; last = last }

way_line : (way : Direction) → (0 < length (direction_word way)) × IsLineText (direction_word way)
way_line In = (omega arith, known_line (codes "I") refl refl)
way_line Out = (omega arith, known_line (codes "O") refl refl)
way_line Both = (omega arith, known_line (codes "B") refl refl)

value_some : (v places : ℕ) → v ≤ 10 ^ 15 → (0 < length (scaled_text v places)) × IsLineText (scaled_text v places)
value_some v places small =
    let number = scaled_number v places (omega (arith, small)) in
    (number.some, number_line (scaled_text v places) number)

-- ---- the lines of a section are texts of one line each

conn_is_line : (chars : Chars) (nodes : List ParNode) (conn : ParConn) → IsNodePrintable (node_at nodes conn.node).name → IsNote (node_at nodes conn.node).note
    → IsLineText (conn_line_of chars nodes conn)
conn_is_line chars nodes conn printable note =
    let node = node_at nodes conn.node in
    let name = printed_node chars node.name in
    let way = direction_word conn.direction in
    let (some, end) = way_line conn.direction in
    maybe_noted (spaced (conn_tag conn.kind ∷ name ∷ way ∷ [])) node.note
    (word_before (conn_tag conn.kind) (name ++ 32 ∷ way) (tag_word conn.kind) (some_after name way)
    (word_before name way (printed_word chars node.name printable) some end)) note

star_is_line : (chars : Chars) (name : NodeName) (note : List ℕ) → IsNodePrintable name → IsNote note → 0 < length note → IsLineText (star_text chars name note)
star_is_line chars name [] printable is some = absurd (omega (arith, some))
star_is_line chars name (b ∷ bs) printable is some =
    noted_line (spaced (codes "*N" ∷ printed_node chars name ∷ [])) b bs
    (list_all-append (λ b. not (is_newline b)) (codes "*N ") (printed_node chars name)
    ∙ rw (word_line (printed_node chars name) (printed_word chars name printable)) refl) is

cap_is_line : (header : Header) (nodes : List ParNode) (cap : ℕ × ℕ) (id : ℕ) → id < 10 ^ 64 → IsNodePrintable (node_at nodes cap.0).name → cap.1 ≤ 10 ^ 15
    → IsLineText (cap_text header nodes id cap)
cap_is_line header nodes cap id few printable small =
    let name = printed_node header.chars (node_at nodes cap.0).name in
    let value = scaled_text cap.1 (unsigned_abs header.c_places) in
    let (some, end) = value_some cap.1 (unsigned_abs header.c_places) small in
    word_before (decimal id) (name ++ 32 ∷ value) (number_word (decimal id) (decimal_number id few)) (some_after name value)
    (word_before name value (printed_word header.chars (node_at nodes cap.0).name printable) some end)

res_is_line : (header : Header) (nodes : List ParNode) (res : ℕ × ℕ × ℕ) (id : ℕ) → id < 10 ^ 64 → IsNodePrintable (node_at nodes res.0).name → IsNodePrintable (node_at nodes res.1).name → res.2 ≤ 10 ^ 15
    → IsLineText (res_text header nodes id res)
res_is_line header nodes res id few first second small =
    let a = printed_node header.chars (node_at nodes res.0).name in
    let b = printed_node header.chars (node_at nodes res.1).name in
    let value = scaled_text res.2 (unsigned_abs header.r_places) in
    let (some, end) = value_some res.2 (unsigned_abs header.r_places) small in
    word_before (decimal id) (a ++ 32 ∷ (b ++ 32 ∷ value)) (number_word (decimal id) (decimal_number id few)) (some_after a (b ++ 32 ∷ value))
    (word_before a (b ++ 32 ∷ value) (printed_word header.chars (node_at nodes res.0).name first) (some_after b value)
    (word_before b value (printed_word header.chars (node_at nodes res.1).name second) some end))

head_is_line : (header : Header) (net : ParNet) → total net.caps ≤ 10 ^ 15 → IsLineText (head_line header net)
head_is_line header net small =
    let name = printed header.chars net.name in
    let value = scaled_text (total net.caps) (unsigned_abs header.c_places) in
    let (some, end) = value_some (total net.caps) (unsigned_abs header.c_places) small in
    word_before (codes "*D_NET") (name ++ 32 ∷ value) (solid_word (codes "*D_NET") (omega arith) refl) (some_after name value)
    (word_before name value (node_word header.chars net.name [] net.sound.named refl) some end)

-- the nodes that have lines of their own: they can be printed, and have notes
starred : (net : ParNet) → All (λ (node : ParNode). IsNodePrintable node.name × IsNote node.note × (0 < length node.note)) (filter has_star net.nodes)
starred net = λ k d l.
    let node = get_or (filter has_star net.nodes) k d in
    let named : IsNamed node = All-filter has_star IsNamed net.nodes net.sound.nodes_named k d l in
    let star : has_star node ≡ true = filter_passes has_star net.nodes k d l in (
      record { owner = named.0; leaf = named.1 },
      All-filter has_star (λ (n : ParNode). IsNote n.note) net.nodes net.sound.notes k d l,
      noted_some node.note (both_true node.inner (not (length node.note == 0)) star).1,
    )
  where
    noted_some : (note : List ℕ) → not (length note == 0) ≡ true → 0 < length note
    noted_some [] e = absurd (cc)
    noted_some (b ∷ bs) e = omega arith

are_line_texts : (header : Header) (net : ParNet) → IsWritable net → AreLines IsLineText header net
are_line_texts header net writable = record {
  first = head_is_line header net writable.charge;
  conn_head = known_line (codes "*CONN") refl refl;
  cap_head = known_line (codes "*CAP") refl refl;
  res_head = known_line (codes "*RES") refl refl;
  conns =
      All-weaker (IsConnOf net.nodes) (λ conn. IsLineText (conn_line_of header.chars net.nodes conn))
      (λ conn is. conn_is_line header.chars net.nodes conn (node_printable net conn.node is.within) (note_is net conn.node is.within))
      net.conns (conns_are net);
  stars =
      All-weaker (λ (node : ParNode). IsNodePrintable node.name × IsNote node.note × (0 < length node.note)) (λ node. IsLineText (star_line_of header.chars node))
      (λ node is. star_is_line header.chars node.name node.note is.0 is.1 is.2)
      (filter has_star net.nodes) (starred net);
  caps =
      All-weaker (IsChargeOf net.nodes) (λ cap. (k : ℕ) → k < 10 ^ 64 → IsLineText (cap_text header net.nodes k cap))
      (λ cap is k l. cap_is_line header net.nodes cap k l (node_printable net cap.0 is.within) is.small)
      (charged net) (charges_are net writable.charge);
  ress =
      All-weaker (IsResOf (length net.nodes)) (λ res. (k : ℕ) → k < 10 ^ 64 → IsLineText (res_text header net.nodes k res))
      (λ res is k l. res_is_line header net.nodes res k l (node_printable net res.0 is.0) (node_printable net res.1 is.1) is.2)
      net.ress net.sound.ress_at;
}

pub sections_are_lines : SectionsAreLines
sections_are_lines header net rest writable =
    let ls = head_line header net ∷ inner_lines header net in
    ap lines (append_assoc (lined ls) (codes "*END") rest)
    ∙ lines_again ls (codes "*END" ++ rest) (all_lines IsLineText header net writable (are_line_texts header net writable))

-- ---- a section is quiet

head_quiet : (header : Header) (net : ParNet) → total net.caps ≤ 10 ^ 15 → IsQuiet (head_line header net)
head_quiet header net small =
    let name = printed header.chars net.name in
    let value = scaled_text (total net.caps) (unsigned_abs header.c_places) in
    spaced_quiet (codes "*D_NET" ∷ name ∷ value ∷ [])
    (All-cons IsQuiet (codes "*D_NET") (name ∷ value ∷ []) (calm_quiet (codes "*D_NET") refl)
    (All-cons IsQuiet name (value ∷ []) (name_quiet header.chars net.name)
    (All-cons IsQuiet value [] (numbers_again (total net.caps) (unsigned_abs header.c_places) small).1 (All-nil IsQuiet))))

are_quiet : (header : Header) (net : ParNet) → IsWritable net → All (λ (node : ParNode). IsQuietLine node.note) net.nodes → AreLines IsQuietLine header net
are_quiet header net writable notes =
    let quiet = lines_are_quiet header.chars in
    record {
      first = quiet.texts (head_line header net) (head_quiet header net writable.charge);
      conn_head = quiet.texts (codes "*CONN") (calm_quiet (codes "*CONN") refl);
      cap_head = quiet.texts (codes "*CAP") (calm_quiet (codes "*CAP") refl);
      res_head = quiet.texts (codes "*RES") (calm_quiet (codes "*RES") refl);
      conns =
          All-weaker (IsConnOf net.nodes) (λ conn. IsQuietLine (conn_line_of header.chars net.nodes conn))
          (λ conn is. quiet.conns conn.kind conn.direction (node_at net.nodes conn.node).name (node_at net.nodes conn.node).note (All-get_or (λ (node : ParNode). IsQuietLine node.note) net.nodes conn.node NO_NODE is.within notes))
          net.conns (conns_are net);
      stars =
          All-weaker (λ (node : ParNode). IsQuietLine node.note) (λ node. IsQuietLine (star_line_of header.chars node))
          (λ node is. quiet.stars node.name node.note is)
          (filter has_star net.nodes) (All-filter has_star (λ (node : ParNode). IsQuietLine node.note) net.nodes notes);
      caps =
          All-weaker (IsChargeOf net.nodes) (λ cap. (k : ℕ) → k < 10 ^ 64 → IsQuietLine (cap_text header net.nodes k cap))
          (λ cap is k l. quiet.caps k cap.1 (unsigned_abs header.c_places) (node_at net.nodes cap.0).name l is.small)
          (charged net) (charges_are net writable.charge);
      ress =
          All-weaker (IsResOf (length net.nodes)) (λ res. (k : ℕ) → k < 10 ^ 64 → IsQuietLine (res_text header net.nodes k res))
          (λ res is k l. quiet.ress k res.2 (unsigned_abs header.r_places) (node_at net.nodes res.0).name (node_at net.nodes res.1).name l is.2)
          net.ress net.sound.ress_at;
    }

pub sections_are_quiet : SectionsAreQuiet
sections_are_quiet header net writable notes =
    let ls = head_line header net ∷ inner_lines header net in
    quiet_both (lined ls) (codes "*END")
    ((lines_are_quiet header.chars).lines ls (all_lines IsQuietLine header net writable (are_quiet header net writable notes)))
    (calm_quiet (codes "*END") refl)

-- ---- the first line

pub heads_name_nets : HeadsNameNets
heads_name_nets header net writable =
    let name = printed header.chars net.name in
    let value = scaled_text (total net.caps) (unsigned_abs header.c_places) in
    record {
      says =
          words_again (codes "*D_NET" ∷ name ∷ value ∷ [])
          (All-cons IsWord (codes "*D_NET") (name ∷ value ∷ []) (solid_word (codes "*D_NET") (omega arith) refl)
          (All-cons IsWord name (value ∷ []) (node_word header.chars net.name [] net.sound.named refl)
          (All-cons IsWord value [] (numbers_again (total net.caps) (unsigned_abs header.c_places) writable.charge).0 (All-nil IsWord))));
      named = reads_again header.chars net.name net.sound.named.some;
      plain = no_reference header.chars net.name;
    }
