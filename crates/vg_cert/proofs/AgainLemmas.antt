-- The text of a certificate has no fault, and denotes that certificate.
use Rattle.std.proofs.Common.{◌≡◌, ℕ, zero, suc, ◌+◌, ◌<◌, ◌≤◌, ◌==◌, Bool, true, false, cond, List, [], ◌∷◌, ◌++◌, map, length, drop, take, get_or, refl, sym, ap, ◌∙◌, subst, arith, length-append, ℤ, Option, Some, None, is_some}
use Rattle.std.specs.Prelude.{IfSome}
use Rattle.std.specs.Map.{lookup}
use Rattle.std.specs.List.{All, count_by, join_with_byte, range_with_len}
use Rattle.std.proofs.Math.Seq.{take-append_seam, drop-append_seam}
use Rattle.std.proofs.lemmas.Bool.Decides.{nat_tests}
use Rattle.std.proofs.lemmas.List.{append-nil, length-map, get_or-append-add}
use Rattle.std.proofs.lemmas.List.Elements.{All-head, All-tail}
use Rattle.std.proofs.lemmas.List.FromFn.{get_or-map-range_with_len}
use Rattle.elmore.specs.Problems.{is_live}
use Rattle.elmore.specs.declared.pair.Pair.{Pair}
use Rattle.elmore.specs.declared.problem.Problem.{Problem}
use Rattle.vg_scan.specs.declared.name.NetNames.{NetNames}
use Rattle.vg_cert.specs.declared.certificate.Certificate.{Certificate}
use Rattle.vg_cert.specs.Denoted.{Denotes, Lists, both, lists_in, section_lists, placed_in, cell_of}
use Rattle.vg_cert.specs.Faults.{IsFaultless, is_none, pair_in}
use Rattle.vg_cert.specs.Fits.{Fits, IsTime, IsEntry, IsList, lists_of}
use Rattle.vg_cert.specs.Lines.{Line, parts, lines, line_at}
use Rattle.vg_cert.specs.Names.{AreNamesOf}
use Rattle.vg_cert.specs.Roles.{even_count, odd_count, roles}
use Rattle.vg_cert.specs.Written.{slack_line, pair_line, node_line, lines_written, text_of}
use Rattle.vg_cert.proofs.TextLemmas.{Each, AreWords, no_line, parts_text, lines_text}
use Rattle.vg_cert.proofs.ClearLemmas.{AreClear, text_clear}
use Rattle.vg_cert.proofs.FitLemmas.{live_each, get_both, of_both, no_pairs}
use Rattle.vg_cert.proofs.LineClearLemmas.{pair_again, at_words, at_places, some_slack, slack_again}
use Rattle.vg_cert.proofs.OntoLemmas.{cells_onto, lists_onto, lines_onto, end_line, IsWritten, AreWritten, all_written, lines_are, lines_words}
use Rattle.vg_cert.proofs.SectionClearLemmas.{count_none, count_some, count_of, body_of, evens_again, odds_again, section_onto, section_past, lines_clear}

-- the cells

abbrev rows_of : ℕ → List (Option ℕ) → List (ℕ × ℕ)
rows_of v [] = []
rows_of v (None ∷ cells) = rows_of (suc v) cells
rows_of v (Some b ∷ cells) = (v, b) ∷ rows_of (suc v) cells

row_misses : (v : ℕ) (cells : List (Option ℕ)) (u : ℕ) → u < v → lookup (λ w. w == u) (rows_of v cells) ≡ None
row_misses v [] u l = refl
row_misses v (None ∷ cells) u l = row_misses (suc v) cells u (omega (arith, l))
row_misses v (Some b ∷ cells) u l =
    let other : (v == u) ≡ false = grind (arith, nat_tests) in
    ap (λ t. cond t (Some b) (lookup (λ w. w == u) (rows_of (suc v) cells))) other ∙ row_misses (suc v) cells u (omega (arith, l))

row_found : (v : ℕ) (cells : List (Option ℕ)) (k : ℕ) → lookup (λ w. w == v + k) (rows_of v cells) ≡ get_or cells k None
row_found v [] k = refl
row_found v (None ∷ cells) zero = row_misses (suc v) cells (v + 0) (omega arith)
row_found v (None ∷ cells) (suc k) = ap (λ m. lookup (λ w. w == m) (rows_of (suc v) cells)) (let e : v + suc k ≡ suc v + k = omega arith in e) ∙ row_found (suc v) cells k
row_found v (Some b ∷ cells) zero =
    let same : (v == v + 0) ≡ true = grind (arith, nat_tests) in
    ap (λ t. cond t (Some b) (lookup (λ w. w == v + 0) (rows_of (suc v) cells))) same
row_found v (Some b ∷ cells) (suc k) =
    let other : (v == v + suc k) ≡ false = grind (arith, nat_tests) in
    ap (λ t. cond t (Some b) (lookup (λ w. w == v + suc k) (rows_of (suc v) cells))) other
    ∙ ap (λ m. lookup (λ w. w == m) (rows_of (suc v) cells)) (let e : v + suc k ≡ suc v + k = omega arith in e) ∙ row_found (suc v) cells k

cells_again : (p : Problem) (names : NetNames) → AreNamesOf p names → (v : ℕ) (cells : List (Option ℕ)) (rest : List Line) → v + length cells ≤ length names.nodes → ((k b : ℕ) → get_or cells k None ≡ Some b → b < length names.cells)
    → map (placed_in names) (take (count_by is_some cells) (cells_onto names v cells rest)) ≡ rows_of v cells
cells_again p names are v [] rest l h = refl
cells_again p names are v (None ∷ cells) rest l h =
    ap (λ n. map (placed_in names) (take n (cells_onto names (suc v) cells rest))) (count_none cells) ∙ cells_again p names are (suc v) cells rest (omega (arith, l)) (λ k b e. h (suc k) b e)
cells_again p names are v (Some b ∷ cells) rest l h =
    ap (λ n. map (placed_in names) (take n (at_words names v b ∷ cells_onto names (suc v) cells rest))) (count_some b cells)
    ∙ (λ i. at_places names are.nodes_differ are.cells_differ v b (omega (arith, l)) (h 0 b refl) i ∷ cells_again p names are (suc v) cells rest (omega (arith, l)) (λ k c e. h (suc k) c e) i)

-- the lists

pairs_again : (xs : List Pair) → All IsEntry xs → map pair_in (map pair_line xs) ≡ xs
pairs_again [] h = refl
pairs_again (x ∷ xs) h = λ i. pair_again x (All-head IsEntry x xs h) i ∷ pairs_again xs (All-tail IsEntry x xs h) i

list_again : (xs : List Pair) (rest : List Line) (n : ℕ) → n ≡ length xs → All IsEntry xs → map pair_in (take n (map pair_line xs ++ rest)) ≡ xs
list_again xs rest n e h =
    ap (λ k. map pair_in (take k (map pair_line xs ++ rest))) (let k : n ≡ length (map pair_line xs) = omega (arith, e, length-map xs pair_line) in k)
    ∙ ap (map pair_in) (take-append_seam (map pair_line xs) rest) ∙ pairs_again xs h

section_again : (names : NetNames) (v : ℕ) (x : Lists) (rest : List Line) → IsWritten true x → section_lists (section_onto names v x rest) ≡ x
section_again names v x rest w =
    let evens = list_again x.0 (map pair_line x.1 ++ rest) (even_count (node_line names v x)) (evens_again names v x w) w.evens.entries in
    let past : drop (1 + even_count (node_line names v x)) (section_onto names v x rest) ≡ map pair_line x.1 ++ rest
    = ap (λ k. drop k (section_onto names v x rest)) (let e : 1 + even_count (node_line names v x) ≡ suc (length (map pair_line x.0)) = omega (arith, evens_again names v x w, length-map x.0 pair_line) in e)
    ∙ drop-append_seam (map pair_line x.0) (map pair_line x.1 ++ rest) in
    let odds = ap (λ ls. map pair_in (take (odd_count (node_line names v x)) ls)) past ∙ list_again x.1 rest (odd_count (node_line names v x)) (odds_again names v x w) w.odds.entries in
    λ i. (evens i, odds i)

lists_again : (names : NetNames) (v : ℕ) (live : List Bool) (xs : List Lists) (rest : List Line) → AreWritten live xs → lists_in live (lists_onto names v live xs rest) ≡ xs
unfolding lists_in
lists_again names v [] [] rest h = refl
lists_again names v [] (x ∷ xs) rest h = absurd h
lists_again names v (b ∷ live) [] rest h = absurd h
lists_again names v (false ∷ live) (x ∷ xs) rest h = λ i. sym (h.0.dead refl) i ∷ lists_again names (suc v) live xs rest h.1 i
lists_again names v (true ∷ live) (x ∷ xs) rest h =
    let later = lists_onto names (suc v) live xs rest in
    (λ i. section_again names v x later h.0 i ∷ lists_in live (section_past names v x later h.0 i)) ∙ ap (λ ys. x ∷ ys) (lists_again names (suc v) live xs rest h.1)

-- a certificate that fits

mark_at : (f : ℕ → Bool) (n v : ℕ) → v < n → get_or (map f (range_with_len 0 n)) v false ≡ f v
mark_at f n v l = get_or-map-range_with_len f 0 n v v false l (omega arith)

live_is : (p : Problem) (v : ℕ) → v < length p.live → get_or p.live v false ≡ is_live p.tree.nodes p.sinks v
live_is p v l = ap (λ (bs : List Bool). get_or bs v false) p.live_are ∙ mark_at (is_live p.tree.nodes p.sinks) (length p.tree.nodes) v (omega (arith, l, live_each p))

module _ (p : Problem) (names : NetNames) (cert : Certificate) (are : AreNamesOf p names) (fits : Fits p cert) where
  abbrev cells : List (Option ℕ)
  cells = cert.placement.cells

  abbrev xs : List Lists
  xs = map both cert.lists.items

  list_is : (v : ℕ) (odd : Bool) → lists_of cert v odd ≡ of_both (get_or xs v no_pairs) odd
  list_is v odd = get_both cert.lists.items v odd

  each_list : length xs ≡ length p.live
  each_list = omega (arith, length-map cert.lists.items both, fits.one_each, live_each p)

  written : AreWritten p.live xs
  written = all_written p.live xs each_list (λ v l. record {
    evens = subst IsList (list_is v false) (fits.lists v false);
    odds = subst IsList (list_is v true) (fits.lists v true);
    dead = λ e. (λ i. (
      (sym (list_is v false) ∙ fits.dead v (sym (live_is p v l) ∙ e) false) i,
      (sym (list_is v true) ∙ fits.dead v (sym (live_is p v l) ∙ e) true) i,
    ));
  })

  few : length cells ≤ 65536
  few = omega (arith, fits.placement.one_each, p.within.nodes)

  within : length cells ≤ length names.nodes
  within = omega (arith, fits.placement.one_each, are.nodes_each)

  named : (k b : ℕ) → get_or cells k None ≡ Some b → b < length names.cells
  named k b e = omega (arith, fits.placement.named k b e, are.cells_each)

  slack_some : (slack : Option ℤ) → cert.slack ≡ slack → IfSome slack IsTime → (k b : ℕ) → get_or cells k None ≡ Some b → is_none (slack_line slack) ≡ false
  slack_some None e t k b f = let none = fits.no_cell e k in absurd (cc)
  slack_some (Some z) e t k b f = some_slack z t

  abbrev all : List Line → List Line
  all rest = lines_onto names cert.slack cells p.live xs rest

  are_lines : (rest : List Line) → lines_written p names cert ++ rest ≡ all rest
  are_lines rest = lines_are p names cert rest each_list

  alone : lines_written p names cert ≡ all []
  alone = sym (append-nil (lines_written p names cert)) ∙ are_lines []

  words_all : Each AreWords (lines_written p names cert)
  words_all = subst (Each AreWords) (sym alone)
      (lines_words names are.nodes are.cells cert.slack cells p.live xs are.net fits.slack few within (omega (arith, live_each p, are.nodes_each)) named written)

  lines_read : lines (text_of p names cert) ≡ lines_written p names cert ++ no_line
  unfolding text_of
  lines_read = lines_text (lines_written p names cert) words_all

  parts_read : parts (text_of p names cert) ≡ map (join_with_byte 32) (lines_written p names cert) ++ [] ∷ []
  unfolding text_of
  parts_read = parts_text (lines_written p names cert) words_all

  clear : AreClear names (line_at (lines_written p names cert ++ no_line) 2) None (roles p (lines_written p names cert ++ no_line)) (lines_written p names cert)
  clear =
      subst (λ ls. AreClear names (line_at ls 2) None (roles p ls) (lines_written p names cert)) (sym (are_lines no_line))
      (subst (λ ls. AreClear names (slack_line cert.slack) None (roles p (all no_line)) ls) (sym alone)
      (lines_clear p names cert.slack cells xs no_line are.nodes_differ are.cells_differ fits.slack few within (λ k b e. (named k b e, slack_some cert.slack refl fits.slack k b e)) written))

  count : length (parts (text_of p names cert)) ≡ suc (length (lines_written p names cert))
  count = omega (arith, ap length parts_read, length-append (map (join_with_byte 32) (lines_written p names cert)) ([] ∷ []), length-map (lines_written p names cert) (join_with_byte 32))

  last : get_or (parts (text_of p names cert)) (length (lines_written p names cert)) [] ≡ []
  last =
      let ls = map (join_with_byte 32) (lines_written p names cert) in
      ap (λ ps. get_or ps (length (lines_written p names cert)) []) parts_read
      ∙ ap (λ k. get_or (ls ++ [] ∷ []) k []) (let e : length (lines_written p names cert) ≡ length ls + 0 = omega (arith, length-map (lines_written p names cert) (join_with_byte 32)) in e)
      ∙ get_or-append-add ls ([] ∷ []) 0 []

  pub text_faultless : IsFaultless p names (text_of p names cert)
  text_faultless = text_clear p names (text_of p names cert) (lines_written p names cert) lines_read count last clear

  denoted : Denotes p names (all no_line) cert
  denoted = record {
    slack = slack_again cert.slack fits.slack;
    one_each = fits.placement.one_each;
    cells = λ v. sym (
        ap (λ n. cell_of names (take n (drop 4 (all no_line))) v) (count_of names cert.slack cells p.live xs few no_line)
        ∙ ap (lookup (λ u. u == v)) (cells_again p names are 0 cells (lists_onto names 0 p.live xs (end_line ∷ no_line)) (omega (arith, within)) named)
        ∙ ap (λ m. lookup (λ u. u == m) (rows_of 0 cells)) (let e : v ≡ 0 + v = omega arith in e) ∙ row_found 0 cells v
        );
    lists = sym (ap (lists_in p.live) (body_of names cert.slack cells p.live xs few no_line) ∙ lists_again names 0 p.live xs (end_line ∷ no_line) written);
  }

  pub text_denotes : Denotes p names (lines (text_of p names cert)) cert
  text_denotes = subst (λ ls. Denotes p names ls cert) (sym (lines_read ∙ are_lines no_line)) denoted
