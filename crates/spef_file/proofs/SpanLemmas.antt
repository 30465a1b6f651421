-- Where the nets of a file stand.
use Rattle.std.proofs.Common.{◌≡◌, ℕ, Bool, false, ◌||◌, ◌⊎◌, inl, inr, ◌+◌, ◌-◌, ◌<◌, ◌≤◌, ◌^◌, true, List, [], ◌∷◌, ◌++◌, take, drop, length, get_or, refl, sym, ap, subst, ◌∙◌, arith, length-drop, length-take, drop-drop}
use Rattle.std.proofs.lemmas.List.{drop-take}
use Rattle.std.proofs.lemmas.List.Elements.{All-append, All-get_or}
use Rattle.std.proofs.lemmas.Option.{get_or_from_slice_get, slice_get_within}
use Rattle.std.specs.List.{slice_get}
use Rattle.std.specs.Prelude.{Option, Some, None, option_map}
use Rattle.vg_scan.specs.Lines.{Line, lines_of, part, is_blank}
use Rattle.vg_scan.specs.Parts.{IsFirstSolid}
use Rattle.vg_scan.specs.Printed.{is_solid}
use Rattle.std.specs.Prelude.{codes, if◌then◌else◌}
use Rattle.std.specs.Str.{bytes_eq}
use Rattle.std.proofs.lemmas.Slice.Eq.{bytes_eq-Decides}
use Rattle.vg_scan.proofs.BlankLemmas.{lines_skip}
use Rattle.vg_scan.proofs.CutLemmas.{get_part}
use Rattle.spef_file.specs.declared.keyword.Keyword.TheVariants.{Map, Passed, Net, Foreign, Nothing}
use Rattle.spef_file.specs.declared.section.Section.{Section}
use Rattle.spef_file.specs.Tables.{NetRow}
use Rattle.spef_file.specs.Keywords.{keyword_of, is_passed, is_net, is_foreign}
use Rattle.spef_file.specs.Words.{first_word, has_words}
use Rattle.spef_file.specs.NetSpans.{net_lines, up_to_end, IsSpan, AreSpans, StaysRight}
use Rattle.spef_file.proofs.EndLemmas.{drop_more}

-- the sections stay the same
pub keeps_same : (clear : List ℕ) (next count new_count : ℕ) (old new : List NetRow) (line : Line) → new ≡ old → new_count ≡ count + 1 → StaysRight clear next next count new_count old new line
keeps_same clear next count new_count old new line same counts = λ lines at spans. (
  subst (AreSpans clear lines) (sym same) spans,
  ap (λ n. drop n lines) counts ∙ sym (drop_more count lines line (lines_of (drop next clear)) (sym at)),
)

-- a part of a text without the blanks before it
pub part_skip : (bytes : List ℕ) (at from m : ℕ) → ((k : ℕ) → at ≤ k → k < from → is_blank (get_or bytes k 0) ≡ true) → at ≤ from → from < m → m ≤ length bytes → lines_of (part bytes from m) ≡ lines_of (part bytes at m)
part_skip bytes at from m all low high within =
    let k = from - at in
    let len : length (part bytes at m) ≡ m - at = simp (length-take, length-drop) (omega arith) in
    let d : drop k (part bytes at m) ≡ part bytes from m =
    ap (λ n. drop k (take n (drop at bytes))) (let x : m - at ≡ k + (m - from) = omega arith in x) ∙ drop-take k (m - from) (drop at bytes)
    ∙ ap (take (m - from)) (drop-drop k at bytes ∙ ap (λ n. drop n bytes) (let y : at + k ≡ from = omega arith in y)) in
    ap lines_of (sym d)
    ∙ lines_skip (part bytes at m) k (omega (arith, len)) (λ j h. ap is_blank (get_part bytes at m j (omega arith)) ∙ all (at + j) (omega arith) (omega arith))

-- a net's head has words
pub net_words : (line : Line) → keyword_of (first_word line) ≡ Net → has_words line ≡ true
unfolding keyword_of
net_words [] e = absurd (cc)
net_words (word ∷ words) e = refl

-- what opens a net passed the test of a head
net_of : (a b c d : Bool) → (if a then Map else (if b then Passed else (if c then Net else (if d then Foreign else Nothing)))) ≡ Net → c ≡ true
net_of true b c d e = absurd (cc)
net_of false true c d e = absurd (cc)
net_of false false true d e = refl
net_of false false false true e = absurd (cc)
net_of false false false false e = absurd (cc)

one_of : (a b : Bool) → (a || b) ≡ true → (a ≡ true) ⊎ (b ≡ true)
one_of true b e = inl refl
one_of false b e = inr e

-- the first word of a net's head begins with a solid byte
pub net_solid : (word : List ℕ) → keyword_of word ≡ Net → is_solid (get_or word 0 0) ≡ true
unfolding keyword_of
net_solid word e =
    elim (one_of (bytes_eq word (codes "*D_NET")) (bytes_eq word (codes "*R_NET")) (net_of (bytes_eq word (codes "*NAME_MAP")) (is_passed word) (is_net word) (is_foreign word) e)) [
      | inl d ↦ ap (λ w. is_solid (get_or w 0 0)) ((bytes_eq-Decides word (codes "*D_NET")).0 d)
      | inr r ↦ ap (λ w. is_solid (get_or w 0 0)) ((bytes_eq-Decides word (codes "*R_NET")).0 r)
    ]

-- the first byte of a line's first word
pub first_byte : (bytes : List ℕ) (line : Line) (from to : ℕ) (rest : List (List ℕ)) → from < to → line ≡ part bytes from to ∷ rest → get_or bytes from 0 ≡ get_or (first_word line) 0 0
first_byte bytes line from to rest l e =
    ap (λ n. get_or bytes n 0) (let z : from ≡ from + 0 = omega arith in z) ∙ sym (get_part bytes from to 0 (omega arith)) ∙ ap (λ ws. get_or (first_word ws) 0 0) (sym e)

-- the last byte of `*END`
pub end_solid : (bytes : List ℕ) (from to : ℕ) → to ≤ length bytes → part bytes from to ≡ codes "*END" → is_solid (get_or bytes (to - 1) 0) ≡ true
end_solid bytes from to l e =
    let len : length (part bytes from to) ≡ to - from = simp (length-take, length-drop) (omega arith) in
    let four : to - from ≡ 4 = sym len ∙ ap length e in
    ap (λ n. is_solid (get_or bytes n 0)) (let z : to - 1 ≡ from + 3 = omega (arith, four) in z)
    ∙ ap is_solid (sym (get_part bytes from to 3 (omega (arith, four))))
    ∙ ap (λ w. is_solid (get_or w 3 0)) e

drop_drop_more : (n m : ℕ) (all : List Line) (line : Line) (rest : List Line) → line ∷ rest ≡ drop n all → drop (n + (m + 2)) all ≡ drop (m + 1) rest
drop_drop_more n m all line rest e =
    ap (λ k. drop k all) (let x : n + (m + 2) ≡ n + 1 + (m + 1) = omega arith in x) ∙ sym (drop-drop (m + 1) (n + 1) all) ∙ ap (drop (m + 1)) (sym (drop_more n all line rest e))

-- one section more
pub keeps_net : (clear : List ℕ) (next to n count new_count : ℕ) (old new : List NetRow) (line : Line) (name : List ℕ) (section : Section)
    → new ≡ old ++ (name, section) ∷ [] → new_count ≡ count + (n + 2) → section.line ≡ count + 1
    → lines_of (part clear section.from section.to) ≡ line ∷ up_to_end (lines_of (drop next clear))
    → lines_of (drop section.from clear) ≡ line ∷ lines_of (drop next clear)
    → IsFirstSolid clear section.from → is_solid (get_or clear (section.to - 1) 0) ≡ true → (section.from < section.to) × (section.to ≤ length clear) → section.line ≤ 2 ^ 28
    → lines_of (drop to clear) ≡ drop (n + 1) (lines_of (drop next clear)) → StaysRight clear next to count new_count old new line
keeps_net clear next to n count new_count old new line name section rows counts number net on first last order few rest = λ lines at spans.
    let later = lines_of (drop next clear) in
    let here : drop (section.line - 1) lines ≡ line ∷ later = ap (λ k. drop k lines) (let x : section.line - 1 ≡ count = omega (arith, number) in x) ∙ at in
    let one : IsSpan clear lines section = record {
      first = first;
      line = on ∙ sym here;
      net = net ∙ ap net_lines (sym here);
      last = last;
      order = order;
      number = (omega (arith, number), few);
    } in (
      subst (AreSpans clear lines) (sym rows) (All-append (λ (net : NetRow). IsSpan clear lines net.1) old ((name, section) ∷ []) spans
          (λ k d l. let z : 0 ≡ k = omega arith in subst (λ j. IsSpan clear lines (get_or ((name, section) ∷ []) j d).1) z one)),
      ap (λ k. drop k lines) counts ∙ drop_drop_more count n lines line later (sym at) ∙ sym rest,
    )

-- the section at a place is one of the text

section_in : (clear : List ℕ) (lines : List Line) (nets : List NetRow) (at : ℕ) (section : Section) (found : Option NetRow) → slice_get nets at ≡ found → option_map (λ (net : NetRow). net.1) found ≡ Some section → AreSpans clear lines nets → IsSpan clear lines section
section_in clear lines nets at section None e f all = absurd (cc)
section_in clear lines nets at section (Some net) e f all =
    let same : net.1 ≡ section = cc in
    let here : IsSpan clear lines (get_or nets at net).1 = All-get_or (λ (net : NetRow). IsSpan clear lines net.1) nets at net (slice_get_within nets at net e) all in
    subst (IsSpan clear lines) (ap (λ (net : NetRow). net.1) (get_or_from_slice_get nets at net net e) ∙ same) here

pub section_at : (clear : List ℕ) (lines : List Line) (nets : List NetRow) (at : ℕ) (section : Section) → AreSpans clear lines nets → option_map (λ (net : NetRow). net.1) (slice_get nets at) ≡ Some section → IsSpan clear lines section
section_at clear lines nets at section all e = section_in clear lines nets at section (slice_get nets at) refl e all
