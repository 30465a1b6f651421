-- Where the lines of a part stand.
use Rattle.std.proofs.Common.{◌≡◌, ℕ, zero, suc, ◌+◌, ◌-◌, ◌≤◌, List, [], ◌∷◌, ◌++◌, map, length, get_or, ap, ◌∙◌, codes, arith}
use Rattle.std.proofs.lemmas.List.{length-append, get_or_append_left, get_or-append-add}
use Rattle.std.proofs.lemmas.List.FromFn.{length-map-range_with_len, get_or-map-range_with_len}
use Rattle.vg_gen.specs.Nets.{up_to, branch_count, resistance, capacitance, line_resistor, last_resistor, branch_resistor}
use Rattle.vg_gen.specs.Lines.{cap_line, res_line}
use Rattle.vg_gen.specs.Texts.{line_caps, line_ress, branch_ress}
use Rattle.vg_gen.specs.Laws.{line_at, LinesAreNumbered, ValuesAreSmall}
use Rattle.vg_gen.proofs.NetLemmas.{total_large, total_small}

-- line k behind a title
behind : (title : List ℕ) (lines : List (List ℕ)) (k : ℕ) → 1 ≤ k → line_at (title ∷ lines) k ≡ get_or lines (k - 1) []
behind title lines zero h = absurd (omega arith)
behind title lines (suc k) h = let e : suc k - 1 ≡ k = omega arith in ap (λ n. get_or lines n []) (omega (arith, e))

-- line k of lines that are made from numbers
made_at : (line : ℕ → List ℕ) (n k : ℕ) → 1 ≤ k → k ≤ n → get_or (map line (up_to n)) (k - 1) [] ≡ line k
made_at line n k h l = get_or-map-range_with_len line 1 n (k - 1) k [] (omega arith) (omega arith)

-- the lines of the resistors after those of the line
abbrev later : ℕ → List (List ℕ)
later size = res_line (size + 1) (last_resistor size) ∷ branch_ress size

length_line : (size : ℕ) → length (line_ress size) ≡ size
length_line size = length-map-range_with_len (λ i. res_line i (line_resistor i (resistance size i))) 1 size

length_branches : (size : ℕ) → length (branch_ress size) ≡ branch_count size
length_branches size = length-map-range_with_len (λ j. res_line (size + 1 + j) (branch_resistor j)) 1 (branch_count size)

-- line k of them
later_at : (size n k : ℕ) → n ≡ size + k → get_or (line_ress size ++ later size) n [] ≡ get_or (later size) k []
later_at size n k e =
    let same : n ≡ length (line_ress size) + k = omega (arith, e, length_line size) in
    ap (λ m. get_or (line_ress size ++ later size) m []) same ∙ get_or-append-add (line_ress size) (later size) k []

pub numbered : (size : ℕ) → LinesAreNumbered size
numbered size = record {
  caps = omega (arith, length-map-range_with_len (λ i. cap_line i (capacitance size i)) 1 size);
  cap = λ k h l. behind (codes "*CAP") (line_caps size) k h ∙ made_at (λ i. cap_line i (capacitance size i)) size k h l;
  ress = omega (arith, length_line size, length-append (line_ress size) (later size), length_branches size);
  res =
      λ k h l. behind (codes "*RES") (line_ress size ++ later size) k h
      ∙ get_or_append_left (line_ress size) (later size) [] (k - 1) (omega (arith, length_line size))
      ∙ made_at (λ i. res_line i (line_resistor i (resistance size i))) size k h l;
  last = behind (codes "*RES") (line_ress size ++ later size) (size + 1) (omega arith) ∙ later_at size (size + 1 - 1) 0 (omega arith);
  branch =
      λ j h l. behind (codes "*RES") (line_ress size ++ later size) (size + 1 + j) (omega arith)
      ∙ later_at size (size + 1 + j - 1) j (omega arith)
      ∙ behind (res_line (size + 1) (last_resistor size)) (branch_ress size) j h
      ∙ made_at (λ i. res_line (size + 1 + i) (branch_resistor i)) (branch_count size) j h l;
}

pub small : (size : ℕ) → ValuesAreSmall size
small size = record {
  resistors = λ i. (omega arith, omega arith);
  capacitors = λ i. (omega arith, omega arith);
  sum = (total_large size, total_small size);
}
