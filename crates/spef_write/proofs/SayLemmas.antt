-- What the lines of a section say.
use Rattle.std.proofs.Common.{◌≡◌, ℕ, ◌+◌, ◌<◌, ◌≤◌, ◌^◌, List, [], ◌∷◌, ◌++◌, map, filter, refl, sym, ap, ◌∙◌, arith, length, subst, get_or}
use Rattle.std.specs.Prelude.{codes, unsigned_abs, unwrap_or}
use Rattle.std.specs.Fmt.{decimal}
use Rattle.std.specs.List.{All}
use Rattle.std.proofs.lemmas.List.{append-nil}
use Rattle.std.proofs.lemmas.List.Elements.{All-head, All-tail, All-weaker, All-get_or, All-filter}
use Rattle.vg_num.specs.Printed.{scaled_text}
use Rattle.vg_scan.specs.declared.chars.Chars.{Chars}
use Rattle.vg_scan.specs.Lines.{words}
use Rattle.spef_file.specs.Files.{File}
use Rattle.spef_file.specs.declared.header.Header.{Header}
use Rattle.spef_nodes.specs.Nodes.{ParNode}
use Rattle.spef_net.specs.declared.net.ParConn.{ParConn}
use Rattle.spef_net.specs.declared.net.ParNet.{ParNet}
use Rattle.spef_net.specs.Lines.{part_named}
use Rattle.spef_net.specs.Statements.{Stated, Opens, statement_of, statement_of_words, statement_in, statements_from, part_after}
use Rattle.spef_net.specs.Nets.{IsNote, IsNamed, IsResOf}
use Rattle.spef_write.specs.Sections.{node_at, charged, conn_lines, conn_line_of, star_lines, star_line_of, has_star, cap_text, res_text, numbered, headed, inner_lines, IsWritable}
use Rattle.spef_write.specs.SectionLaws.{InnerLinesSay, IsMeantBy, said_conn, said_star, said_cap, said_res, said_by, opens, opened}
use Rattle.spef_write.specs.Texts.{spaced, printed_node, conn_tag, IsNodePrintable}
use Rattle.spef_write.proofs.NumberLemmas.{caps_again, ress_again, cap_words, res_words}
use Rattle.spef_write.proofs.LineLemmas.{conns_again, stars_again, conn_words, star_words}
use Rattle.spef_write.proofs.NetLemmas.{node_printable, note_is, conns_are, charges_are, charged_few, IsConnOf, IsChargeOf}

-- the parts of a section
abbrev domain : {A B : Type 0} → (A → B) → Type 0
domain {A} f = A

abbrev Part : Type 0
Part = domain Opens

-- the part whose head is this
abbrev part_of : Part → List ℕ → Part
part_of other head = unwrap_or (part_named head) other

-- ---- one line after another

said_next : (file : File) (part : Part) (line : List ℕ) (ls : List (List ℕ)) (said : Stated) → statement_of file part line ≡ said
    → statements_from file part (line ∷ ls) ≡ said ∷ statements_from file (part_after part said) ls
unfolding statements_from
said_next file part line ls said e = ap (λ s. s ∷ statements_from file (part_after part s) ls) e

-- a line that says this, and opens no part
record Says (file : File) (part : Part) (line : List ℕ) (said : Stated) : Type 0 where
  pub is : statement_of file part line ≡ said
  pub stays : part_after part said ≡ part

said_here : (file : File) (part : Part) (line : List ℕ) (ls : List (List ℕ)) (said : Stated) → Says file part line said
    → statements_from file part (line ∷ ls) ≡ said ∷ statements_from file part ls
said_here file part line ls said says = said_next file part line ls said says.is ∙ ap (λ p. said ∷ statements_from file p ls) says.stays

said_all : {X : Type 0} (file : File) (part : Part) (line : X → List ℕ) (say : X → Stated) (xs : List X) (rest : List (List ℕ))
    → All (λ x. Says file part (line x) (say x)) xs
    → statements_from file part (map line xs ++ rest) ≡ map say xs ++ statements_from file part rest
said_all file part line say [] rest all = refl
said_all file part line say (x ∷ xs) rest all =
    said_here file part (line x) (map line xs ++ rest) (say x) (All-head (λ y. Says file part (line y) (say y)) x xs all)
    ∙ ap (λ ls. say x ∷ ls) (said_all file part line say xs rest (All-tail (λ y. Says file part (line y) (say y)) x xs all))

said_numbered : {X : Type 0} (file : File) (part : Part) (line : ℕ → X → List ℕ) (say : X → Stated) (limit n : ℕ) (xs : List X) (rest : List (List ℕ))
    → n + length xs ≤ limit → All (λ x. (k : ℕ) → k < limit → Says file part (line k x) (say x)) xs
    → statements_from file part (numbered line n xs ++ rest) ≡ map say xs ++ statements_from file part rest
said_numbered file part line say limit n [] rest few all = refl
said_numbered file part line say limit n (x ∷ xs) rest few all =
    said_here file part (line n x) (numbered line (n + 1) xs ++ rest) (say x)
    (All-head (λ y. (k : ℕ) → k < limit → Says file part (line k y) (say y)) x xs all n (omega (arith, few)))
    ∙ ap (λ ls. say x ∷ ls) (said_numbered file part line say limit (n + 1) xs rest (omega (arith, few))
    (All-tail (λ y. (k : ℕ) → k < limit → Says file part (line k y) (say y)) x xs all))

-- ---- heads, and lines of more than one word

conns_head : (file : File) (part : Part) → statement_of file part (codes "*CONN") ≡ opens (codes "*CONN")
unfolding statement_of_words words
conns_head file part = refl

caps_head : (file : File) (part : Part) → statement_of file part (codes "*CAP") ≡ opens (codes "*CAP")
unfolding statement_of_words words
caps_head file part = refl

ress_head : (file : File) (part : Part) → statement_of file part (codes "*RES") ≡ opens (codes "*RES")
unfolding statement_of_words words
ress_head file part = refl

-- a line of two words or more is no head
no_head : (file : File) (part : Part) (line v w : List ℕ) (more : List (List ℕ)) → words line ≡ v ∷ w ∷ more
    → statement_of file part line ≡ statement_in part file line (words line)
unfolding statement_of_words
no_head file part line v w more e = ap (statement_of_words file part line) e ∙ sym (ap (statement_in part file line) e)

-- ---- the lines of a section

conn_says : (q : Part) (file : File) (nodes : List ParNode) (conn : ParConn) → IsConnOf nodes conn → IsNodePrintable (node_at nodes conn.node).name
    → IsNote (node_at nodes conn.node).note → Says file (part_of q (codes "*CONN")) (conn_line_of file.chars nodes conn) (said_conn nodes conn)
conn_says q file nodes conn is printable note =
    let node = node_at nodes conn.node in
    let (more, e) = conn_words file.chars conn.kind conn.direction node.name node.note printable in
    record {
      is = no_head file (part_of q (codes "*CONN")) (conn_line_of file.chars nodes conn) (conn_tag conn.kind) (printed_node file.chars node.name) more e
          ∙ conns_again file conn.kind conn.direction node.name node.note printable is.at note;
      stays = refl;
    }

star_says : (q : Part) (file : File) (node : ParNode) → IsNodePrintable node.name → IsNote node.note → Says file (part_of q (codes "*CONN")) (star_line_of file.chars node) (said_star node)
star_says q file node printable note =
    let (more, e) = star_words file.chars node.name node.note printable in
    record {
      is = no_head file (part_of q (codes "*CONN")) (star_line_of file.chars node) (codes "*N") (printed_node file.chars node.name) more e
          ∙ stars_again file node.name node.note printable note;
      stays = refl;
    }

cap_says : (q : Part) (file : File) (header : Header) (nodes : List ParNode) (cap : ℕ × ℕ) (id : ℕ) → IsMeantBy header file → id < 10 ^ 64
    → IsNodePrintable (node_at nodes cap.0).name → cap.1 ≤ 10 ^ 15 → Says file (part_of q (codes "*CAP")) (cap_text header nodes id cap) (said_cap nodes cap)
cap_says q file header nodes cap id meant few printable small =
    let node = node_at nodes cap.0 in
    let places = unsigned_abs header.c_places in
    let line : Chars → List ℕ = λ chars. spaced (decimal id ∷ printed_node chars node.name ∷ scaled_text cap.1 places ∷ []) in
    subst (λ chars. Says file (part_of q (codes "*CAP")) (line chars) (said_cap nodes cap)) meant.chars
    (record {
      is = no_head file (part_of q (codes "*CAP")) (line file.chars) (decimal id) (printed_node file.chars node.name) (scaled_text cap.1 places ∷ []) (cap_words file.chars id cap.1 places node.name printable few small)
          ∙ caps_again file id cap.1 places node.name printable few small meant.c_places;
      stays = refl;
    })

res_says : (q : Part) (file : File) (header : Header) (nodes : List ParNode) (res : ℕ × ℕ × ℕ) (id : ℕ) → IsMeantBy header file → id < 10 ^ 64
    → IsNodePrintable (node_at nodes res.0).name → IsNodePrintable (node_at nodes res.1).name → res.2 ≤ 10 ^ 15 → Says file (part_of q (codes "*RES")) (res_text header nodes id res) (said_res nodes res)
res_says q file header nodes res id meant few first second small =
    let a = (node_at nodes res.0).name in
    let b = (node_at nodes res.1).name in
    let places = unsigned_abs header.r_places in
    let line : Chars → List ℕ = λ chars. spaced (decimal id ∷ printed_node chars a ∷ printed_node chars b ∷ scaled_text res.2 places ∷ []) in
    subst (λ chars. Says file (part_of q (codes "*RES")) (line chars) (said_res nodes res)) meant.chars
    (record {
      is = no_head file (part_of q (codes "*RES")) (line file.chars) (decimal id) (printed_node file.chars a) (printed_node file.chars b ∷ scaled_text res.2 places ∷ []) (res_words file.chars id res.2 places a b first second few small)
          ∙ ress_again file id res.2 places a b first second few small meant.r_places;
      stays = refl;
    })

-- ---- a part with its head, which may be left out

part_says : {X : Type 0} (file : File) (own : Part) (head : List ℕ) → ((p : Part) → statement_of file p head ≡ opens head) → ((p : Part) → part_after p (opens head) ≡ own)
    → (line : ℕ → X → List ℕ) (say : X → Stated) (limit : ℕ) (xs : List X) (tail : List (List ℕ)) (said_tail : List Stated)
    → 1 + length xs ≤ limit → All (λ x. (k : ℕ) → k < limit → Says file own (line k x) (say x)) xs
    → ((p : Part) → statements_from file p tail ≡ said_tail)
    → (part : Part) → statements_from file part (headed head (numbered line 1 xs) ++ tail) ≡ opened head (map say xs) ++ said_tail
part_says file own head heads after line say limit [] tail said_tail few all ends part = ends part
part_says file own head heads after line say limit (x ∷ xs) tail said_tail few all ends part =
    said_next file part head (numbered line 1 (x ∷ xs) ++ tail) (opens head) (heads part)
    ∙ ap (λ p. opens head ∷ statements_from file p (numbered line 1 (x ∷ xs) ++ tail)) (after part)
    ∙ ap (λ ls. opens head ∷ ls)
    (said_numbered file own line say limit 1 (x ∷ xs) tail few all ∙ ap (λ ls. map say (x ∷ xs) ++ ls) (ends own))

none_said : (file : File) (part : Part) → statements_from file part [] ≡ []
unfolding statements_from
none_said file part = refl

module _ (q : Part) (file : File) (header : Header) (net : ParNet) (meant : IsMeantBy header file) (writable : IsWritable net) where
  conns_say : All (λ conn. Says file (part_of q (codes "*CONN")) (conn_line_of header.chars net.nodes conn) (said_conn net.nodes conn)) net.conns
  conns_say =
      All-weaker (IsConnOf net.nodes) (λ conn. Says file (part_of q (codes "*CONN")) (conn_line_of header.chars net.nodes conn) (said_conn net.nodes conn))
      (λ conn is. subst (λ chars. Says file (part_of q (codes "*CONN")) (conn_line_of chars net.nodes conn) (said_conn net.nodes conn)) meant.chars
      (conn_says q file net.nodes conn is (node_printable net conn.node is.within) (note_is net conn.node is.within)))
      net.conns (conns_are net)

  stars_say : All (λ node. Says file (part_of q (codes "*CONN")) (star_line_of header.chars node) (said_star node)) (filter has_star net.nodes)
  stars_say =
      All-filter has_star (λ node. Says file (part_of q (codes "*CONN")) (star_line_of header.chars node) (said_star node)) net.nodes
      (λ k d l. subst (λ chars. Says file (part_of q (codes "*CONN")) (star_line_of chars (get_or net.nodes k d)) (said_star (get_or net.nodes k d))) meant.chars
      (star_says q file (get_or net.nodes k d) (printable k d l) (All-get_or (λ (node : ParNode). IsNote node.note) net.nodes k d l net.sound.notes)))
    where
      printable : (k : ℕ) (d : ParNode) → k < length net.nodes → IsNodePrintable (get_or net.nodes k d).name
      printable k d l =
          let is : IsNamed (get_or net.nodes k d) = All-get_or IsNamed net.nodes k d l net.sound.nodes_named in
          record { owner = is.0; leaf = is.1 }

  caps_say : All (λ cap. (k : ℕ) → k < 10 ^ 64 → Says file (part_of q (codes "*CAP")) (cap_text header net.nodes k cap) (said_cap net.nodes cap)) (charged net)
  caps_say =
      All-weaker (IsChargeOf net.nodes) (λ cap. (k : ℕ) → k < 10 ^ 64 → Says file (part_of q (codes "*CAP")) (cap_text header net.nodes k cap) (said_cap net.nodes cap))
      (λ cap is k l. cap_says q file header net.nodes cap k meant l (node_printable net cap.0 is.within) is.small)
      (charged net) (charges_are net writable.charge)

  ress_say : All (λ res. (k : ℕ) → k < 10 ^ 64 → Says file (part_of q (codes "*RES")) (res_text header net.nodes k res) (said_res net.nodes res)) net.ress
  ress_say =
      All-weaker (IsResOf (length net.nodes)) (λ res. (k : ℕ) → k < 10 ^ 64 → Says file (part_of q (codes "*RES")) (res_text header net.nodes k res) (said_res net.nodes res))
      (λ res is k l. res_says q file header net.nodes res k meant l (node_printable net res.0 is.0) (node_printable net res.1 is.1) is.2)
      net.ress net.sound.ress_at

  ress_part : (part : Part) → statements_from file part (headed (codes "*RES") (numbered (res_text header net.nodes) 1 net.ress)) ≡ opened (codes "*RES") (map (said_res net.nodes) net.ress)
  ress_part part =
      let ls = headed (codes "*RES") (numbered (res_text header net.nodes) 1 net.ress) in
      ap (statements_from file part) (sym (append-nil ls))
      ∙ part_says file (part_of q (codes "*RES")) (codes "*RES") (ress_head file) (λ _. refl) (res_text header net.nodes) (said_res net.nodes) (10 ^ 64) net.ress [] []
      (omega (arith, writable.resistors)) ress_say (none_said file) part
      ∙ append-nil (opened (codes "*RES") (map (said_res net.nodes) net.ress))

  caps_part : (part : Part)
      → statements_from file part (headed (codes "*CAP") (numbered (cap_text header net.nodes) 1 (charged net)) ++ headed (codes "*RES") (numbered (res_text header net.nodes) 1 net.ress))
      ≡ opened (codes "*CAP") (map (said_cap net.nodes) (charged net)) ++ opened (codes "*RES") (map (said_res net.nodes) net.ress)
  caps_part part =
      part_says file (part_of q (codes "*CAP")) (codes "*CAP") (caps_head file) (λ _. refl) (cap_text header net.nodes) (said_cap net.nodes) (10 ^ 64) (charged net)
      (headed (codes "*RES") (numbered (res_text header net.nodes) 1 net.ress)) (opened (codes "*RES") (map (said_res net.nodes) net.ress))
      (omega (arith, charged_few net, writable.nodes)) caps_say ress_part part

inner_says : (q : Part) (file : File) (header : Header) (net : ParNet) → IsMeantBy header file → IsWritable net → statements_from file q (inner_lines header net) ≡ said_by net
inner_says q file header net meant writable =
    let tail = headed (codes "*CAP") (numbered (cap_text header net.nodes) 1 (charged net)) ++ headed (codes "*RES") (numbered (res_text header net.nodes) 1 net.ress) in
    let stars = star_lines header.chars net.nodes ++ tail in
    said_next file q (codes "*CONN") (conn_lines header.chars net.nodes net.conns ++ stars) (opens (codes "*CONN")) (conns_head file q)
    ∙ ap (λ ls. opens (codes "*CONN") ∷ ls)
    (said_all file (part_of q (codes "*CONN")) (conn_line_of header.chars net.nodes) (said_conn net.nodes) net.conns stars (conns_say q file header net meant writable)
    ∙ ap (λ ls. map (said_conn net.nodes) net.conns ++ ls)
    (said_all file (part_of q (codes "*CONN")) (star_line_of header.chars) said_star (filter has_star net.nodes) tail (stars_say q file header net meant writable)
    ∙ ap (λ ls. map said_star (filter has_star net.nodes) ++ ls) (caps_part q file header net meant writable (part_of q (codes "*CONN")))))

pub inner_lines_say : InnerLinesSay
inner_lines_say file header net meant writable = inner_says _ file header net meant writable
