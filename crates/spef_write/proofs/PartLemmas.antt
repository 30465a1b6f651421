-- The section of a net, and the parts of which it is made.
use Rattle.std.proofs.Common.{◌≡◌, ℕ, zero, suc, ◌+◌, ◌<◌, Bool, true, false, cond, List, [], ◌∷◌, ◌++◌, length, get_or, map, filter, codes, refl, sym, subst, ap, ◌∙◌, arith, append_assoc}
use Rattle.std.specs.Prelude.{unsigned_abs}
use Rattle.std.specs.List.{All}
use Rattle.std.specs.Fmt.{decimal}
use Rattle.std.proofs.lemmas.List.Elements.{All-weaker}
use Rattle.vg_num.specs.Printed.{scaled_text}
use Rattle.vg_scan.specs.declared.chars.Chars.{Chars}
use Rattle.spef_file.specs.declared.header.Header.{Header}
use Rattle.spef_nodes.specs.Nodes.{ParNode}
use Rattle.spef_net.specs.declared.net.ParConn.{ParConn}
use Rattle.spef_net.specs.declared.net.ParNet.{ParNet}
use Rattle.spef_net.specs.Nets.{IsResOf}
use Rattle.spef_net.proofs.NetLemmas.{conns_within}
use Rattle.vg_scan.specs.Printed.{IsPrintable}
use Rattle.spef_write.specs.Sections.{cap_lines, cap_nodes, cap_text, charged, conn_line_of, conn_lines, has_star, head_line, headed, inner_lines, is_charged, node_at, numbered, res_lines, res_text, section_text, star_line_of, star_lines, total_at}
use Rattle.spef_write.specs.Texts.{conn_tag, direction_word, ended, lined, noted, printed_node, spaced}
use Rattle.spef_write.specs.Printed.{PrintedNode, cap_row, cap_rows, conn_row, head_row, is_loaded, is_starred, printed_all, printed_at, printed_of, res_row, res_rows, star_row, star_rows}
use Rattle.spef_write.specs.Made.{IsSectionOf}
use Rattle.spef_write.specs.declared.section.Section.{Section}
use Rattle.spef_write.proofs.ChargeLemmas.{cap_nodes_low}
use Rattle.spef_write.proofs.PrintLemmas.{parts_printed, section_lined}

pub printed_none : (chars : Chars) (caps : List (ℕ × ℕ)) (k : ℕ) → printed_all chars caps k [] ≡ []
unfolding printed_all
printed_none chars caps k = refl

pub printed_count : (chars : Chars) (caps : List (ℕ × ℕ)) (k : ℕ) (nodes : List ParNode) → length (printed_all chars caps k nodes) ≡ length nodes
unfolding printed_all
printed_count chars caps k [] = refl
printed_count chars caps k (node ∷ nodes) = ap suc (printed_count chars caps (k + 1) nodes)

-- what is printed of the node of a number
pub printed_is : (chars : Chars) (caps : List (ℕ × ℕ)) (k : ℕ) (nodes : List ParNode) (i : ℕ) → i < length nodes
    → printed_at (printed_all chars caps k nodes) i ≡ printed_of chars (node_at nodes i) (total_at caps (k + i))
unfolding printed_all
printed_is chars caps k [] i low = absurd (omega (arith, low))
printed_is chars caps k (node ∷ nodes) zero low =
    let same : k ≡ k + 0 = omega arith in
    ap (λ n. printed_of chars node (total_at caps n)) same
printed_is chars caps k (node ∷ nodes) (suc i) low =
    let same : k + 1 + i ≡ k + suc i = omega arith in
    printed_is chars caps (k + 1) nodes i (omega (arith, low)) ∙ ap (λ n. printed_of chars (node_at nodes i) (total_at caps n)) same

-- one node more
pub printed_more : (chars : Chars) (caps : List (ℕ × ℕ)) (k : ℕ) (nodes : List ParNode) (node : ParNode)
    → printed_all chars caps k (nodes ++ node ∷ []) ≡ printed_all chars caps k nodes ++ printed_of chars node (total_at caps (k + length nodes)) ∷ []
unfolding printed_all
printed_more chars caps k [] node =
    let same : k ≡ k + 0 = omega arith in
    ap (λ n. printed_of chars node (total_at caps n) ∷ []) same
printed_more chars caps k (first ∷ nodes) node =
    let same : k + 1 + length nodes ≡ k + suc (length nodes) = omega arith in
    ap (λ (rows : List PrintedNode). printed_of chars first (total_at caps k) ∷ rows)
    (printed_more chars caps (k + 1) nodes node
    ∙ ap (λ n. printed_all chars caps (k + 1) nodes ++ printed_of chars node (total_at caps n) ∷ []) same)

-- nodes that are printed one by one
pub printed_each : (chars : Chars) (caps : List (ℕ × ℕ)) (node : ℕ → ParNode) (charge : ℕ → ℕ) (k : ℕ) (ws : List ℕ)
    → ((i : ℕ) → i < length ws → total_at caps (k + i) ≡ charge (get_or ws i 0))
    → printed_all chars caps k (map node ws) ≡ map (λ w. printed_of chars (node w) (charge w)) ws
unfolding printed_all
printed_each chars caps node charge k [] same = refl
printed_each chars caps node charge k (w ∷ ws) same =
    let here : k ≡ k + 0 = omega arith in
    ap (λ n. printed_of chars (node w) n ∷ printed_all chars caps (k + 1) (map node ws)) (ap (total_at caps) here ∙ same 0 (omega arith))
    ∙ ap (λ (rows : List PrintedNode). printed_of chars (node w) (charge w) ∷ rows) (printed_each chars caps node charge (k + 1) ws later)
  where
    later : (i : ℕ) → i < length ws → total_at caps (k + 1 + i) ≡ charge (get_or ws i 0)
    later i low =
        let next : k + 1 + i ≡ k + suc i = omega arith in
        ap (total_at caps) next ∙ same (suc i) (omega (arith, low))

-- ---- lines

map_same : {X : Type 0} (f g : X → List ℕ) (xs : List X) → All (λ x. f x ≡ g x) xs → map f xs ≡ map g xs
map_same f g [] same = refl
map_same f g (x ∷ xs) same = ap (λ l. l ∷ map f xs) (same 0 x (omega arith)) ∙ ap (λ ls. g x ∷ ls) (map_same f g xs (λ i d low. same (suc i) d (omega (arith, low))))

rows_same : (f g : ℕ → PrintedNode) (ks : List ℕ) → All (λ k. f k ≡ g k) ks → map f ks ≡ map g ks
rows_same f g [] same = refl
rows_same f g (k ∷ ks) same =
    ap (λ (row : PrintedNode). row ∷ map f ks) (same 0 k (omega arith))
    ∙ ap (λ (rows : List PrintedNode). g k ∷ rows) (rows_same f g ks (λ i d low. same (suc i) d (omega (arith, low))))

numbered_same : {X : Type 0} (f g : ℕ → X → List ℕ) (n : ℕ) (xs : List X) → All (λ x. (id : ℕ) → f id x ≡ g id x) xs → numbered f n xs ≡ numbered g n xs
numbered_same f g n [] same = refl
numbered_same f g n (x ∷ xs) same =
    ap (λ l. l ∷ numbered f (n + 1) xs) (same 0 x (omega arith) n)
    ∙ ap (λ ls. g n x ∷ ls) (numbered_same f g (n + 1) xs (λ i d low. same (suc i) d (omega (arith, low))))

module _ (header : Header) (caps : List (ℕ × ℕ)) (nodes : List ParNode) where
  abbrev rows : List PrintedNode
  rows = printed_all header.chars caps 0 nodes

  row_name : (k : ℕ) → k < length nodes → (printed_at rows k).name ≡ printed_node header.chars (node_at nodes k).name
  row_name k low = ap (λ (row : PrintedNode). row.name) (printed_is header.chars caps 0 nodes k low)

  row_note : (k : ℕ) → k < length nodes → (printed_at rows k).note ≡ (node_at nodes k).note
  row_note k low = ap (λ (row : PrintedNode). row.note) (printed_is header.chars caps 0 nodes k low)

  pub conns_same : (conns : List ParConn) → All (λ conn. conn.node < length nodes) conns → map (conn_row rows) conns ≡ conn_lines header.chars nodes conns
  conns_same conns within = map_same (conn_row rows) (conn_line_of header.chars nodes) conns (λ i d low. line (get_or conns i d) (within i d low))
    where
      line : (conn : ParConn) → conn.node < length nodes → conn_row rows conn ≡ conn_line_of header.chars nodes conn
      line conn low =
          ap (λ name. noted (spaced (conn_tag conn.kind ∷ name ∷ direction_word conn.direction ∷ [])) (printed_at rows conn.node).note) (row_name conn.node low)
          ∙ ap (λ note. noted (spaced (conn_tag conn.kind ∷ printed_node header.chars (node_at nodes conn.node).name ∷ direction_word conn.direction ∷ [])) note) (row_note conn.node low)

  pub ress_same : (ress : List (ℕ × ℕ × ℕ)) → All (λ res. (res.0 < length nodes) × (res.1 < length nodes)) ress
      → res_rows header rows ress ≡ headed (codes "*RES") (numbered (res_text header nodes) 1 ress)
  ress_same ress within = ap (headed (codes "*RES")) (numbered_same (res_row header rows) (res_text header nodes) 1 ress (λ i d low. line (get_or ress i d) (within i d low)))
    where
      line : (res : ℕ × ℕ × ℕ) → (res.0 < length nodes) × (res.1 < length nodes) → (id : ℕ) → res_row header rows id res ≡ res_text header nodes id res
      line res low id =
          let value = scaled_text res.2 (unsigned_abs header.r_places) in
          ap (λ name. spaced (decimal id ∷ name ∷ (printed_at rows res.1).name ∷ value ∷ [])) (row_name res.0 low.0)
          ∙ ap (λ name. spaced (decimal id ∷ printed_node header.chars (node_at nodes res.0).name ∷ name ∷ value ∷ [])) (row_name res.1 low.1)

pub stars_same : (chars : Chars) (caps : List (ℕ × ℕ)) (k : ℕ) (nodes : List ParNode) → star_rows (printed_all chars caps k nodes) ≡ star_lines chars nodes
unfolding printed_all
stars_same chars caps k [] = refl
stars_same chars caps k (node ∷ nodes) = either (has_star node) (stars_same chars caps (k + 1) nodes)
  where
    either : (t : Bool) → star_rows (printed_all chars caps (k + 1) nodes) ≡ star_lines chars nodes
        → map star_row (cond t (printed_of chars node (total_at caps k) ∷ filter is_starred (printed_all chars caps (k + 1) nodes)) (filter is_starred (printed_all chars caps (k + 1) nodes)))
        ≡ map (star_line_of chars) (cond t (node ∷ filter has_star nodes) (filter has_star nodes))
    either true e = ap (λ ls. star_line_of chars node ∷ ls) e
    either false e = e

-- the capacitances of the net's capacitors, at their nodes
module _ (header : Header) (net : ParNet) where
  abbrev printed_row : ℕ → PrintedNode
  printed_row k = printed_of header.chars (node_at net.nodes k) (total_at net.caps k)

  charges_same : (n : ℕ) (ks : List ℕ) → numbered (cap_row header) n (filter is_loaded (map printed_row ks))
      ≡ numbered (cap_text header net.nodes) n (filter is_charged (map (λ k. (k, total_at net.caps k)) ks))
  charges_same n [] = refl
  charges_same n (k ∷ ks) = either (is_charged (k, total_at net.caps k)) (λ m. charges_same m ks)
    where
      rows : List PrintedNode
      rows = filter is_loaded (map printed_row ks)

      charges : List (ℕ × ℕ)
      charges = filter is_charged (map (λ j. (j, total_at net.caps j)) ks)

      either : (t : Bool) → ((m : ℕ) → numbered (cap_row header) m rows ≡ numbered (cap_text header net.nodes) m charges)
          → numbered (cap_row header) n (cond t (printed_row k ∷ rows) rows)
          ≡ numbered (cap_text header net.nodes) n (cond t ((k, total_at net.caps k) ∷ charges) charges)
      either true later = ap (λ ls. cap_text header net.nodes n (k, total_at net.caps k) ∷ ls) (later (n + 1))
      either false later = later n

  pub caps_same : cap_rows header (map (printed_at (printed_all header.chars net.caps 0 net.nodes)) (cap_nodes net.caps))
      ≡ headed (codes "*CAP") (numbered (cap_text header net.nodes) 1 (charged net))
  caps_same =
      ap (cap_rows header)
      (rows_same (printed_at (printed_all header.chars net.caps 0 net.nodes)) printed_row (cap_nodes net.caps)
      (All-weaker (λ k. k < length net.nodes) (λ k. printed_at (printed_all header.chars net.caps 0 net.nodes) k ≡ printed_row k) row_is
      (cap_nodes net.caps) (cap_nodes_low net)))
      ∙ ap (headed (codes "*CAP")) (charges_same 1 (cap_nodes net.caps))
    where
      row_is : (k : ℕ) → k < length net.nodes → printed_at (printed_all header.chars net.caps 0 net.nodes) k ≡ printed_row k
      row_is k low =
          let at : 0 + k ≡ k = omega arith in
          printed_is header.chars net.caps 0 net.nodes k low ∙ ap (λ n. printed_of header.chars (node_at net.nodes k) (total_at net.caps n)) at

-- ---- the section

ress_within : (net : ParNet) → All (λ res. (res.0 < length net.nodes) × (res.1 < length net.nodes)) net.ress
ress_within net =
    All-weaker (IsResOf (length net.nodes)) (λ res. (res.0 < length net.nodes) × (res.1 < length net.nodes)) (λ res is. (is.0, is.1)) net.ress net.sound.ress_at

pub name_printable : (chars : Chars) (net : ParNet) (section : Section) → IsSectionOf chars net section → IsPrintable section.name.now
name_printable chars net section is = subst IsPrintable (sym is.name) net.sound.named

module _ (chars : Chars) (net : ParNet) (section : Section) (is : IsSectionOf chars net section) where
  count : length net.nodes ≡ length section.nodes.now
  count = sym (ap length is.nodes ∙ printed_count chars net.caps 0 net.nodes)

  pub conns_low : All (λ conn. conn.node < length section.nodes.now) section.conns.now
  conns_low = subst (λ n. All (λ (conn : ParConn). conn.node < n) section.conns.now) count (subst (All (λ (conn : ParConn). conn.node < length net.nodes)) (sym is.conns) (conns_within net))

  pub ress_low : All (λ res. (res.0 < length section.nodes.now) × (res.1 < length section.nodes.now)) section.ress.now
  ress_low =
      subst (λ n. All (λ (res : ℕ × ℕ × ℕ). (res.0 < n) × (res.1 < n)) section.ress.now) count
      (subst (All (λ (res : ℕ × ℕ × ℕ). (res.0 < length net.nodes) × (res.1 < length net.nodes))) (sym is.ress) (ress_within net))

  pub cap_nodes_within : All (λ k. k < length section.nodes.now) section.cap_nodes.now
  cap_nodes_within =
      subst (λ n. All (λ k. k < n) section.cap_nodes.now) count (subst (All (λ k. k < length net.nodes)) (sym is.cap_nodes) (cap_nodes_low net))

-- the texts of the parts, one behind the other, are the section
pub parts_are : (header : Header) (net : ParNet) (section : Section) → IsSectionOf header.chars net section → (old : List ℕ)
    → ((((((old ++ ended (head_row header section.name.now section.charge)) ++ ended (codes "*CONN")) ++ lined (map (conn_row section.nodes.now) section.conns.now))
    ++ lined (star_rows section.nodes.now)) ++ lined (cap_rows header (map (printed_at section.nodes.now) section.cap_nodes.now))) ++ lined (res_rows header section.nodes.now section.ress.now)) ++ codes "*END"
    ≡ old ++ section_text header net
parts_are header net section is old =
    let rows = printed_all header.chars net.caps 0 net.nodes in
    let heads : head_row header section.name.now section.charge ≡ head_line header net
    = ap (λ name. head_row header name section.charge) is.name ∙ ap (head_row header net.name) is.charge in
    let conns : map (conn_row section.nodes.now) section.conns.now ≡ conn_lines header.chars net.nodes net.conns
    = ap (λ nodes. map (conn_row nodes) section.conns.now) is.nodes ∙ ap (map (conn_row rows)) is.conns
    ∙ conns_same header net.caps net.nodes net.conns (conns_within net) in
    let stars : star_rows section.nodes.now ≡ star_lines header.chars net.nodes = ap star_rows is.nodes ∙ stars_same header.chars net.caps 0 net.nodes in
    let caps : cap_rows header (map (printed_at section.nodes.now) section.cap_nodes.now) ≡ cap_lines header net.nodes (charged net)
    = ap (λ nodes. cap_rows header (map (printed_at nodes) section.cap_nodes.now)) is.nodes
    ∙ ap (λ ks. cap_rows header (map (printed_at rows) ks)) is.cap_nodes ∙ caps_same header net in
    let ress : res_rows header section.nodes.now section.ress.now ≡ res_lines header net.nodes net.ress
    = ap (λ nodes. res_rows header nodes section.ress.now) is.nodes ∙ ap (res_rows header rows) is.ress
    ∙ ress_same header net.caps net.nodes net.ress (ress_within net) in
    let whole : List ℕ → List (List ℕ) → List (List ℕ) → List (List ℕ) → List (List ℕ) → List ℕ
    = λ h c s k r. ((((((old ++ ended h) ++ ended (codes "*CONN")) ++ lined c) ++ lined s) ++ lined k) ++ lined r) ++ codes "*END" in
    let h = head_line header net in
    let c = conn_lines header.chars net.nodes net.conns in
    let s = star_lines header.chars net.nodes in
    let k = cap_lines header net.nodes (charged net) in
    let r = res_lines header net.nodes net.ress in
    let same : whole (head_row header section.name.now section.charge) (map (conn_row section.nodes.now) section.conns.now) (star_rows section.nodes.now)
    (cap_rows header (map (printed_at section.nodes.now) section.cap_nodes.now)) (res_rows header section.nodes.now section.ress.now) ≡ whole h c s k r
    = λ i. whole (heads i) (conns i) (stars i) (caps i) (ress i) in
    same
    ∙ ap (λ xs. xs ++ codes "*END")
    (parts_printed old (ended h) (ended (codes "*CONN")) (lined c) (lined s) (lined k) (lined r)
    ∙ ap (λ xs. old ++ xs) (section_lined h (codes "*CONN") c s k r))
    ∙ append_assoc old (lined (h ∷ inner_lines header net)) (codes "*END")
