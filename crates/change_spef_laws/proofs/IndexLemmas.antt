-- A text has one index.
use mathlib.Core.HLevel.{is_prop→PathP}
use Rattle.std.proofs.Props.{props}
use Rattle.std.proofs.Common.{◌≡◌, ℕ, ◌<◌, ◌≤ℤ◌, ℤ, pos, false, List, [], length, get_or, map, sym, ap, ◌∙◌, arith}
use Rattle.std.proofs.lemmas.List.{ext_get_or, get_or-map, length-map}
use Rattle.std.proofs.lemmas.Option.{slice_get-get_or}
use Rattle.spef_file.specs.Files.{File, file_lines}
use Rattle.spef_file.specs.IndexFiles.{file_of}
use Rattle.spef_file.specs.Indexes.{IsIndexOf}
use Rattle.spef_file.specs.Nets.{NetHead}
use Rattle.spef_file.specs.Tables.{NetRow}
use Rattle.spef_file.specs.Views.{head_in}
use Rattle.spef_file.specs.declared.header.Header.{Header}
use Rattle.spef_file.specs.declared.spef_index.SpefIndex.{SpefIndex}
use Rattle.vg_scan.specs.Comments.{without_comments}
use Rattle.vg_scan.specs.declared.comments.Comments.TheVariants.{Spef}
use Rattle.spef_patch_laws.proofs.IndexLemmas.{row_at, span_at}
use Rattle.change_spef_laws.proofs.SpanLemmas.{same_from, same_to}
use Rattle.change_spef_laws.specs.Laws.{OneIndex}

one_order : (a b : ℤ) → IsProp (a ≤ℤ b)
one_order a b = hlevel props

one_header : (a b : Header) → a.chars ≡ b.chars → a.c_places ≡ b.c_places → a.r_places ≡ b.r_places → a ≡ b
one_header a b e f g = λ i. record {
  chars = e i;
  c_places = f i;
  r_places = g i;
  c_low = is_prop→PathP (λ j. pos 0 ≤ℤ f j) (λ j. one_order (pos 0) (f j)) a.c_low b.c_low i;
  c_high = is_prop→PathP (λ j. f j ≤ℤ pos 9) (λ j. one_order (f j) (pos 9)) a.c_high b.c_high i;
  r_low = is_prop→PathP (λ j. pos 0 ≤ℤ g j) (λ j. one_order (pos 0) (g j)) a.r_low b.r_low i;
  r_high = is_prop→PathP (λ j. g j ≤ℤ pos 9) (λ j. one_order (g j) (pos 9)) a.r_high b.r_high i;
}

-- past the last section there is none
NO_ROW : NetRow
NO_ROW = ([], record { from = 0; to = 0; line = 0; reduced = false })

module _ (text : List ℕ) (a b : SpefIndex) (is_a : IsIndexOf text a) (is_b : IsIndexOf text b) where
  one_file : file_of a ≡ file_of b
  one_file = is_a.said.says ∙ sym is_b.said.says

  heads_same : map head_in a.sections ≡ map head_in b.sections
  heads_same = ap (λ (f : File). f.nets) one_file

  count_same : length a.sections ≡ length b.sections
  count_same = sym (length-map a.sections head_in) ∙ ap (λ (hs : List NetHead). length hs) heads_same ∙ length-map b.sections head_in

  row_same : (i : ℕ) → i < length a.sections → get_or a.sections i NO_ROW ≡ get_or b.sections i NO_ROW
  row_same i low =
      let r = get_or a.sections i NO_ROW in
      let s = get_or b.sections i NO_ROW in
      let low_b : i < length b.sections = omega (arith, low, count_same) in
      let at_a = slice_get-get_or a.sections i NO_ROW low in
      let at_b = slice_get-get_or b.sections i NO_ROW low_b in
      let head : head_in r ≡ head_in s =
      sym (get_or-map head_in a.sections i NO_ROW (head_in NO_ROW) low) ∙ ap (λ (hs : List NetHead). get_or hs i (head_in NO_ROW)) heads_same
      ∙ get_or-map head_in b.sections i NO_ROW (head_in NO_ROW) low_b in
      let name = ap (λ (h : NetHead). h.name) head in
      let reduced = ap (λ (h : NetHead). h.reduced) head in
      let line = ap (λ (h : NetHead). h.line) head in
      let clear = without_comments Spef text in
      let all = file_lines text in
      let pa = (row_at text a is_a i r at_a).placed in
      let pb = (row_at text b is_b i s at_b).placed in
      let sa = span_at text a is_a i r at_a in
      let sb = span_at text b is_b i s at_b in
      let from = same_from clear all r.1 s.1 sa sb pa pb line in
      let to = same_to clear all r.1 s.1 sa sb pa pb line in
      λ k. (name k, record { from = from k; to = to k; line = line k; reduced = reduced k })

  index_same : a ≡ b
  index_same =
      let header = one_header a.header b.header (ap (λ (f : File). f.chars) one_file) (ap (λ (f : File). f.c_places) one_file) (ap (λ (f : File). f.r_places) one_file) in
      let names = ap (λ (f : File). f.names) one_file in
      let sections = ext_get_or NO_ROW a.sections b.sections count_same row_same in
      λ i. record { header = header i; map = names i; sections = sections i }

pub one_index : OneIndex
one_index = index_same
