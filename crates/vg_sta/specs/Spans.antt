-- Where the outputs of instances stand in one list.
use Rattle.std.specs.Prelude.{◌≡◌, ◌≤◌, ◌++◌, List, length, map}
use Rattle.std.specs.List.{All, between}
use Rattle.vg_sta.specs.declared.outputs.OutputSpan.{OutputSpan}

-- the parts of a list, one for each span
abbrev pub parts_of : {X : Type 0} → List OutputSpan → List X → List (List X)
parts_of spans xs = map (λ span. between span.from span.to xs) spans

-- the spans are within the list
abbrev pub AreSpans : {X : Type 0} → List OutputSpan → List X → Type 0
AreSpans spans xs = All (λ span. (span.from ≤ span.to) × (span.to ≤ length xs)) spans

-- these are put last, and stand there
pub record IsPut {X : Type 0} (more old new : List X) (span : OutputSpan) : Type 0 where
  pub last : new ≡ old ++ more
  pub from : span.from ≡ length old
  pub to : span.to ≡ length new
