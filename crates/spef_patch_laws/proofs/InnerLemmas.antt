-- The lines of a written section between its first line and its end.
use Rattle.std.proofs.Common.{◌≡◌, ℕ, ◌+◌, ◌<◌, ◌≤◌, ◌^◌, true, false, List, [], ◌∷◌, ◌++◌, filter, refl, ap, ◌∙◌, arith, length, eqb, codes, All}
use Rattle.std.specs.Prelude.{unsigned_abs}
use Rattle.std.specs.Fmt.{decimal}
use Rattle.std.specs.List.{list_all}
use Rattle.std.specs.Str.{bytes_eq}
use Rattle.std.proofs.lemmas.Bool.Decides.{nat_tests}
use Rattle.std.proofs.lemmas.List.Elements.{All-nil, All-cons, All-head, All-tail, All-weaker, All-append, All-map, All-filter}
use Rattle.vg_scan.specs.Lines.{words}
use Rattle.vg_scan.proofs.ClearedLemmas.{first_of}
use Rattle.spef_file.specs.Keywords.{is_net}
use Rattle.spef_file.specs.Nets.{is_end, is_head}
use Rattle.spef_file.specs.declared.header.Header.{Header}
use Rattle.spef_nodes.specs.Nodes.{ParNode}
use Rattle.spef_net.specs.declared.net.ConnKind.{ConnKind}
use Rattle.spef_net.specs.declared.net.ConnKind.TheVariants.{Pin, Port}
use Rattle.spef_net.specs.declared.net.ParConn.{ParConn}
use Rattle.spef_net.specs.declared.net.ParNet.{ParNet}
use Rattle.spef_net.specs.Nets.{IsNamed, IsResOf}
use Rattle.spef_write.specs.Sections.{node_at, charged, conn_lines, conn_line_of, star_lines, star_line_of, has_star, cap_text, res_text, numbered, headed, inner_lines, IsWritable}
use Rattle.spef_write.specs.Texts.{conn_tag}
use Rattle.spef_write.proofs.LineLemmas.{conn_words, star_words}
use Rattle.spef_write.proofs.NumberLemmas.{IsNumber, is_numeric, decimal_number, cap_words, res_words}
use Rattle.spef_write.proofs.NetLemmas.{node_printable, conns_are, charges_are, charged_few, IsConnOf, IsChargeOf}
use Rattle.spef_patch_laws.specs.Runs.{IsInner}
use Rattle.spef_patch_laws.specs.SectionLaws.{WritableNetsAreWritten}

-- a word that begins no net and ends none
record IsOther (word : List ℕ) : Type 0 where
  no_end : bytes_eq word (codes "*END") ≡ false
  no_head : is_net word ≡ false

inner_by : (line word : List ℕ) (more : List (List ℕ)) → words line ≡ word ∷ more → IsOther word → IsInner (words line)
inner_by line word more e is = record { no_end = ap is_end e ∙ is.no_end; no_head = ap is_head e ∙ is.no_head }

not_star : (b : ℕ) → is_numeric b ≡ true → eqb b 42 ≡ false
not_star b e = grind (arith, nat_tests)

number_other : (word : List ℕ) → IsNumber word → IsOther word
number_other [] is = absurd (let l = is.some in omega (arith, l))
number_other (b ∷ bs) is = (let n = not_star b (first_of (is_numeric b) (list_all is_numeric bs) is.all) in record { no_end = rw n refl; no_head = rw n refl })

tag_other : (kind : ConnKind) → IsOther (conn_tag kind)
tag_other Pin = record { no_end = refl; no_head = refl }
tag_other Port = record { no_end = refl; no_head = refl }

-- what is true of each line is true of all
module _ (P : List ℕ → Type 0) where
  numbered_all : {X : Type 0} (line : ℕ → X → List ℕ) (limit n : ℕ) (xs : List X) → n + length xs ≤ limit → All (λ x. (k : ℕ) → k < limit → P (line k x)) xs → All P (numbered line n xs)
  numbered_all line limit n [] few all = All-nil P
  numbered_all line limit n (x ∷ xs) few all =
      All-cons P (line n x) (numbered line (n + 1) xs) (All-head (λ y. (k : ℕ) → k < limit → P (line k y)) x xs all n (omega (arith, few)))
      (numbered_all line limit (n + 1) xs (omega (arith, few)) (All-tail (λ y. (k : ℕ) → k < limit → P (line k y)) x xs all))

  headed_all : (head : List ℕ) (ls : List (List ℕ)) → P head → All P ls → All P (headed head ls)
  headed_all head [] p all = All-nil P
  headed_all head (l ∷ ls) p all = All-cons P head (l ∷ ls) p all

conn_head : IsInner (words (codes "*CONN"))
unfolding words
conn_head = record { no_end = refl; no_head = refl }

cap_head : IsInner (words (codes "*CAP"))
unfolding words
cap_head = record { no_end = refl; no_head = refl }

res_head : IsInner (words (codes "*RES"))
unfolding words
res_head = record { no_end = refl; no_head = refl }

abbrev Inner : List ℕ → Type 0
Inner line = IsInner (words line)

inner_are : (header : Header) (net : ParNet) → IsWritable net → All Inner (inner_lines header net)
inner_are header net writable =
    let P = Inner in
    let chars = header.chars in
    let caps = headed (codes "*CAP") (numbered (cap_text header net.nodes) 1 (charged net)) in
    let ress = headed (codes "*RES") (numbered (res_text header net.nodes) 1 net.ress) in
    let conns = conn_lines chars net.nodes net.conns in
    let stars = star_lines chars net.nodes in
    let conns_inner : All (λ conn. P (conn_line_of chars net.nodes conn)) net.conns =
    All-weaker (IsConnOf net.nodes) (λ (conn : ParConn). P (conn_line_of chars net.nodes conn))
    (λ conn is. let node = node_at net.nodes conn.node in
    let (more, e) = conn_words chars conn.kind conn.direction node.name node.note (node_printable net conn.node is.within) in
    inner_by (conn_line_of chars net.nodes conn) (conn_tag conn.kind) _ e (tag_other conn.kind))
    net.conns (conns_are net) in
    let stars_inner : All (λ node. P (star_line_of chars node)) (filter has_star net.nodes) =
    All-weaker IsNamed (λ (node : ParNode). P (star_line_of chars node))
    (λ node named. let (more, e) = star_words chars node.name node.note (record { owner = named.0; leaf = named.1 }) in
    inner_by (star_line_of chars node) (codes "*N") _ e (record { no_end = refl; no_head = refl }))
    (filter has_star net.nodes) (All-filter has_star IsNamed net.nodes net.sound.nodes_named) in
    let caps_inner : All (λ cap. (k : ℕ) → k < 10 ^ 64 → P (cap_text header net.nodes k cap)) (charged net) =
    All-weaker (IsChargeOf net.nodes) (λ cap. (k : ℕ) → k < 10 ^ 64 → P (cap_text header net.nodes k cap))
    (λ cap is k l. inner_by (cap_text header net.nodes k cap) (decimal k) _
    (cap_words chars k cap.1 (unsigned_abs header.c_places) (node_at net.nodes cap.0).name (node_printable net cap.0 is.within) l is.small) (number_other (decimal k) (decimal_number k l)))
    (charged net) (charges_are net writable.charge) in
    let ress_inner : All (λ res. (k : ℕ) → k < 10 ^ 64 → P (res_text header net.nodes k res)) net.ress =
    All-weaker (IsResOf (length net.nodes)) (λ res. (k : ℕ) → k < 10 ^ 64 → P (res_text header net.nodes k res))
    (λ res is k l. inner_by (res_text header net.nodes k res) (decimal k) _
    (res_words chars k res.2 (unsigned_abs header.r_places) (node_at net.nodes res.0).name (node_at net.nodes res.1).name
    (node_printable net res.0 is.0) (node_printable net res.1 is.1) l is.2) (number_other (decimal k) (decimal_number k l)))
    net.ress net.sound.ress_at in
    All-cons P (codes "*CONN") (conns ++ (stars ++ (caps ++ ress))) conn_head
    (All-append P conns (stars ++ (caps ++ ress)) (All-map P (conn_line_of chars net.nodes) net.conns conns_inner)
    (All-append P stars (caps ++ ress) (All-map P (star_line_of chars) (filter has_star net.nodes) stars_inner)
    (All-append P caps ress
    (headed_all P (codes "*CAP") (numbered (cap_text header net.nodes) 1 (charged net)) cap_head
    (numbered_all P (cap_text header net.nodes) (10 ^ 64) 1 (charged net) (omega (arith, charged_few net, writable.nodes)) caps_inner))
    (headed_all P (codes "*RES") (numbered (res_text header net.nodes) 1 net.ress) res_head
    (numbered_all P (res_text header net.nodes) (10 ^ 64) 1 net.ress (omega (arith, writable.resistors)) ress_inner)))))

pub writable_nets : WritableNetsAreWritten
writable_nets header net writable = record { writable = writable; inner = All-map IsInner words (inner_lines header net) (inner_are header net writable) }
