-- Parts of a list that grows.
use Rattle.std.proofs.Common.{◌≡◌, ℕ, ◌+◌, ◌≤◌, List, [], ◌∷◌, ◌++◌, length, get_or, drop, sym, ap, ◌∙◌, arith}
use Rattle.std.specs.List.{between}
use Rattle.std.proofs.lemmas.List.{drop_at, length-append, map_push, take-append-le, take_all}
use Rattle.std.proofs.lemmas.List.Elements.{All-push, All-weaker}
use Rattle.std.proofs.lemmas.Slice.{between_is}
use Rattle.vg_design.proofs.BareLemmas.{same_map}
use Rattle.vg_sta.specs.Spans.{AreSpans, IsPut, parts_of}
use Rattle.vg_sta.specs.declared.outputs.OutputSpan.{OutputSpan}

-- a part stays where more is put last
part_kept : {X : Type 0} (xs more : List X) (from to : ℕ) → to ≤ length xs → between from to (xs ++ more) ≡ between from to xs
part_kept xs more from to low = between_is (xs ++ more) from to ∙ ap (drop from) (take-append-le to xs more low) ∙ sym (between_is xs from to)

parts_kept : {X : Type 0} (spans : List OutputSpan) (xs more : List X) → AreSpans spans xs → parts_of spans (xs ++ more) ≡ parts_of spans xs
parts_kept spans xs more within =
    same_map (λ (span : OutputSpan). between span.from span.to (xs ++ more)) (λ (span : OutputSpan). between span.from span.to xs) spans
    (λ k e low. part_kept xs more (get_or spans k e).from (get_or spans k e).to (within k e low).1)

-- what was put last is a part
part_put : {X : Type 0} (xs more : List X) (from to : ℕ) → from ≡ length xs → to ≡ length (xs ++ more) → between from to (xs ++ more) ≡ more
part_put xs more from to begins ends =
    between_is (xs ++ more) from to
    ∙ ap (drop from) (take_all to (xs ++ more) (omega (arith, ends)))
    ∙ drop_at xs more from (sym begins)

pub parts_more : {X : Type 0} (spans : List OutputSpan) (span : OutputSpan) (more old new : List X) → AreSpans spans old → IsPut more old new span
    → (parts_of (spans ++ span ∷ []) new ≡ parts_of spans old ++ more ∷ []) × AreSpans (spans ++ span ∷ []) new
parts_more {X = X} spans span more old new within put =
    let length_new : length new ≡ length old + length more = ap length put.last ∙ length-append old more in
    let from = put.from in
    let to = put.to in (
      map_push (λ (s : OutputSpan). between s.from s.to new) spans span
          ∙ ap (λ (xs : List X). parts_of spans xs ++ between span.from span.to xs ∷ []) put.last
          ∙ (λ i. parts_kept spans old more within i ++ part_put old more span.from span.to put.from (put.to ∙ ap length put.last) i ∷ []),
      All-push (λ s. (s.from ≤ s.to) × (s.to ≤ length new)) spans span
          (All-weaker (λ s. (s.from ≤ s.to) × (s.to ≤ length old)) (λ s. (s.from ≤ s.to) × (s.to ≤ length new)) (λ s h. (h.0, let high = h.1 in omega (arith, high, length_new))) spans within)
          (omega (arith, from, to, length_new), omega (arith, to)),
    )
