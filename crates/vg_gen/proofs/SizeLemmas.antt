-- How long the texts are.
use Rattle.std.proofs.Common.{◌≡◌, ℕ, zero, suc, ◌+◌, ◌-◌, ◌*◌, ◌<◌, ◌≤◌, ◌^◌, ◌==◌, Bool, true, false, List, [], ◌∷◌, ◌++◌, map, length, refl, sym, ap, ◌∙◌, arith, codes, subst, add-one}
use Rattle.std.proofs.lemmas.Fmt.{length-decimal-le}
use Rattle.std.proofs.lemmas.List.{length-append}
use Rattle.std.proofs.lemmas.List.Concat.{flat_map-append, flat_map-cons}
use Rattle.std.specs.Fmt.{decimal}
use Rattle.vg_gen.specs.declared.net.Node.TheVariants.{Inner, Sink, Branch}
use Rattle.vg_gen.specs.declared.net.Resistor.{Resistor}
use Rattle.vg_gen.specs.Nets.{up_to, branch_count, resistance, capacitance, total, before, line_resistor, last_resistor, branch_resistor}
use Rattle.vg_gen.specs.Lines.{spaced, ended, lined, cell_name, node_text, head_line, sink_line, cap_line, res_line, cell_line, want_line}
use Rattle.vg_gen.specs.Texts.{header_lines, branch_sinks, line_caps, line_ress, branch_ress, conn_lines, cap_lines, res_lines, spef_text, branch_cells, netlist_text, is_odd, wants, constraints_text, library_lines, library_text}
use Rattle.vg_gen.specs.Laws.{TextsAreShort}
use Rattle.vg_gen.proofs.NetLemmas.{total_small}
use Rattle.vg_gen.proofs.LineLemmas.{lines_more, wants_more}

-- ---- a line has 63 bytes at most

abbrev IsLine : List ℕ → Type 0
IsLine line = length line ≤ 63

-- a word of it has 15
abbrev IsWord : List ℕ → Type 0
IsWord word = length word ≤ 15

three_words : (a b c : List ℕ) → IsWord a → IsWord b → IsWord c → IsLine (spaced (a ∷ b ∷ c ∷ []))
three_words a b c x y z = omega (arith, x, y, z, length-append a (32 ∷ (b ++ (32 ∷ c))), length-append b (32 ∷ c))

four_words : (a b c d : List ℕ) → IsWord a → IsWord b → IsWord c → IsWord d → IsLine (spaced (a ∷ b ∷ c ∷ d ∷ []))
four_words a b c d x y z u =
    omega (arith, x, y, z, u, length-append a (32 ∷ (b ++ (32 ∷ (c ++ (32 ∷ d))))), length-append b (32 ∷ (c ++ (32 ∷ d))), length-append c (32 ∷ d))

-- numbers below ten to the ninth
digits : (n : ℕ) → n < 10 ^ 9 → length (decimal n) ≤ 9
digits n l = length-decimal-le 9 n (omega arith) l (omega arith)

number : (n : ℕ) → n < 10 ^ 9 → IsWord (decimal n)
number n l = let d = digits n l in omega (arith, d)

inner : (i : ℕ) → i < 10 ^ 9 → IsWord (node_text (Inner i))
inner i l = let d = digits i l in omega (arith, d, length-append (codes "g:") (decimal i))

cell : (j : ℕ) → j < 10 ^ 9 → length (cell_name j) ≤ 10
cell j l = let d = digits j l in omega (arith, d, length-append (codes "s") (decimal j))

branch : (j : ℕ) → j < 10 ^ 9 → IsWord (node_text (Branch j))
branch j l = let d = cell j l in omega (arith, d, length-append (cell_name j) (codes ":A"))

node_before : (i : ℕ) → i < 10 ^ 9 → IsWord (node_text (before i))
node_before i l = go (i == 1) refl
  where
    go : (b : Bool) → (i == 1) ≡ b → IsWord (node_text (before i))
    go true is = rw is (omega arith)
    go false is = rw is (inner (i - 1) (omega arith))

-- ---- so many lines have at most 64 bytes each, with their newlines

abbrev line_bytes : List (List ℕ) → ℕ
line_bytes lines = length (lined lines)

ended_length : (line : List ℕ) → length (ended line) ≡ length line + 1
ended_length line = length-append line (10 ∷ [])

one_line : (line : List ℕ) (lines : List (List ℕ)) → line_bytes (line ∷ lines) ≡ length line + 1 + line_bytes lines
one_line line lines =
    ap length (flat_map-cons ended line lines) ∙ length-append (ended line) (lined lines) ∙ ap (λ n. n + line_bytes lines) (ended_length line)

two_parts : (lines more : List (List ℕ)) → line_bytes (lines ++ more) ≡ line_bytes lines + line_bytes more
two_parts lines more = ap length (flat_map-append ended lines more) ∙ length-append (lined lines) (lined more)

made_lines : (line : ℕ → List ℕ) (n : ℕ) → ((i : ℕ) → i ≤ n → IsLine (line i)) → line_bytes (map line (up_to n)) ≤ 64 * n
made_lines line zero short = omega arith
made_lines line (suc k) short =
    let more : lined (map line (up_to k)) ++ ended (line (k + 1)) ≡ lined (map line (up_to (k + 1))) = lines_more line [] k in
    let e = sym (ap length more) ∙ length-append (lined (map line (up_to k))) (ended (line (k + 1))) in
    let last = short (k + 1) (omega arith) in
    let others = made_lines line k (λ i l. short i (omega arith)) in
    subst (λ n. line_bytes (map line (up_to n)) ≤ 64 * n) (add-one k) (omega (arith, e, ended_length (line (k + 1)), last, others))

one_want : (j : ℕ) → IsLine (want_line j) → line_bytes (wants (j ∷ [])) ≤ 64
one_want j short = go (is_odd j) refl
  where
    go : (b : Bool) → is_odd j ≡ b → line_bytes (wants (j ∷ [])) ≤ 64
    go true is = rw is (omega (arith, short, one_line (want_line j) []))
    go false is = rw is (omega arith)

made_wants : (n : ℕ) → ((j : ℕ) → j ≤ n → IsLine (want_line j)) → line_bytes (wants (up_to n)) ≤ 64 * n
made_wants zero short = omega arith
made_wants (suc k) short =
    let more : lined (wants (up_to k)) ++ lined (wants ((k + 1) ∷ [])) ≡ lined (wants (up_to (k + 1))) = wants_more [] k in
    let e = sym (ap length more) ∙ length-append (lined (wants (up_to k))) (lined (wants ((k + 1) ∷ []))) in
    let last = one_want (k + 1) (short (k + 1) (omega arith)) in
    let others = made_wants k (λ j l. short j (omega arith)) in
    subst (λ n. line_bytes (wants (up_to n)) ≤ 64 * n) (add-one k) (omega (arith, e, last, others))

-- the parts of the texts
few_branches : (size : ℕ) → size ≤ 4000 → branch_count size ≤ 40
few_branches size few = omega arith

sink_short : (j : ℕ) → j < 10 ^ 9 → IsLine (sink_line (Branch j))
sink_short j l = three_words (codes "*I") (node_text (Branch j)) (codes "I") (omega arith) (branch j l) (omega arith)

conns_short : (count : ℕ) → count ≤ 40 → line_bytes (conn_lines count) ≤ 64 * (3 + count)
conns_short count few =
    let all = made_lines (λ j. sink_line (Branch j)) count (λ j l. sink_short j (omega arith)) in
    let start = codes "*CONN" ∷ codes "*I u1:Z O" ∷ sink_line Sink ∷ [] in
    omega (arith, all, two_parts start (branch_sinks count))

cap_short : (i femtofarads : ℕ) → i < 10 ^ 9 → femtofarads < 10 ^ 9 → IsLine (cap_line i femtofarads)
cap_short i femtofarads l m =
    three_words (decimal i) (node_text (Inner i)) (decimal femtofarads) (number i l) (inner i l) (number femtofarads m)

caps_short : (size : ℕ) → size ≤ 4000 → line_bytes (cap_lines size) ≤ 64 * (1 + size)
caps_short size few =
    let all = made_lines (λ i. cap_line i (capacitance size i)) size (λ i l. cap_short i (capacitance size i) (omega arith) (omega arith)) in
    omega (arith, all, one_line (codes "*CAP") (line_caps size))

res_short : (i : ℕ) (resistor : Resistor) → i < 10 ^ 9 → IsWord (node_text resistor.from) → IsWord (node_text resistor.to)
    → resistor.ohms < 10 ^ 9 → IsLine (res_line i resistor)
res_short i resistor l x y z =
    four_words (decimal i) (node_text resistor.from) (node_text resistor.to) (decimal resistor.ohms) (number i l) x y (number resistor.ohms z)

line_res_short : (size i : ℕ) → i < 10 ^ 9 → IsLine (res_line i (line_resistor i (resistance size i)))
line_res_short size i l = res_short i (line_resistor i (resistance size i)) l (node_before i l) (inner i l) (omega arith)

last_res_short : (size : ℕ) → size ≤ 4000 → IsLine (res_line (size + 1) (last_resistor size))
last_res_short size few = res_short (size + 1) (last_resistor size) (omega arith) (inner size (omega arith)) (omega arith) (omega arith)

branch_res_short : (size j : ℕ) → size ≤ 4000 → j ≤ 40 → IsLine (res_line (size + 1 + j) (branch_resistor j))
branch_res_short size j few l =
    res_short (size + 1 + j) (branch_resistor j) (omega arith) (inner (100 * j) (omega arith)) (branch j (omega arith)) (omega arith)

ress_short : (size : ℕ) → size ≤ 4000 → line_bytes (res_lines size) ≤ 64 * (2 + size + branch_count size)
ress_short size few =
    let line = made_lines (λ i. res_line i (line_resistor i (resistance size i))) size (λ i l. line_res_short size i (omega arith)) in
    let last = res_line (size + 1) (last_resistor size) in
    let count = few_branches size few in
    let branches =
    made_lines (λ j. res_line (size + 1 + j) (branch_resistor j)) (branch_count size) (λ j l. branch_res_short size j few (omega (arith, count))) in
    omega (
      arith,
      line,
      branches,
      last_res_short size few,
      one_line (codes "*RES") (line_ress size ++ last ∷ branch_ress size),
      two_parts (line_ress size) (last ∷ branch_ress size),
      one_line last (branch_ress size),
    )

header_short : line_bytes header_lines ≤ 1000
unfolding header_lines
header_short = omega arith

library_short : length library_text ≤ 2 ^ 28
unfolding library_lines
library_short = omega arith

head_short : (size : ℕ) → size ≤ 4000 → IsLine (head_line (total size))
head_short size few =
    let sum = total_small size in
    three_words (codes "*D_NET") (codes "g") (decimal (total size)) (omega arith) (omega arith) (number (total size) (omega (arith, sum)))

spef_short : (size : ℕ) → size ≤ 4000 → length (spef_text size) ≤ 2 ^ 28
spef_short size few =
    let count = few_branches size few in
    let conns = conn_lines (branch_count size) in
    let from_ress = res_lines size ++ codes "*END" ∷ [] in
    let from_conns = conns ++ (cap_lines size ++ from_ress) in
    omega (
      arith,
      count,
      header_short,
      head_short size few,
      conns_short (branch_count size) count,
      caps_short size few,
      ress_short size few,
      two_parts header_lines (head_line (total size) ∷ from_conns),
      one_line (head_line (total size)) from_conns,
      two_parts conns (cap_lines size ++ from_ress),
      two_parts (cap_lines size) from_ress,
      two_parts (res_lines size) (codes "*END" ∷ []),
    )

cell_short : (j : ℕ) → j < 10 ^ 9 → IsLine (cell_line j)
cell_short j l =
    let end = codes " (.A(g), .Z());" in
    omega (arith, cell j l, length-append (codes "BUF ") (cell_name j ++ end), length-append (cell_name j) end)

netlist_short : (count : ℕ) → count ≤ 40 → length (netlist_text count) ≤ 2 ^ 28
netlist_short count few =
    let all = made_lines cell_line count (λ j l. cell_short j (omega arith)) in
    let end = codes "endmodule" ∷ [] in
    let start =
    codes "module gen (i0);"
    ∷ codes "input i0;"
    ∷ codes "wire g;"
    ∷ codes "DRV u1 (.A(i0), .Z(g));"
    ∷ codes "BUF u2 (.A(g), .Z());"
    ∷ [] in
    omega (arith, all, two_parts start (branch_cells count ++ end), two_parts (branch_cells count) end)

want_short : (j : ℕ) → j < 10 ^ 9 → IsLine (want_line j)
want_short j l = three_words (codes "want") (node_text (Branch j)) (codes "inverted") (omega arith) (branch j l) (omega arith)

constraints_short : (count : ℕ) → count ≤ 40 → length (constraints_text count) ≤ 2 ^ 28
constraints_short count few =
    let all = made_wants count (λ j l. want_short j (omega arith)) in
    omega (arith, all, two_parts (codes "vgcons 1" ∷ codes "default required 1000000" ∷ []) (wants (up_to count)))

pub short : (size : ℕ) → size ≤ 4000 → TextsAreShort size
short size few =
    let count = few_branches size few in
    record {
      spef = spef_short size few;
      lib = library_short;
      verilog = netlist_short (branch_count size) count;
      cons = constraints_short (branch_count size) count;
    }
