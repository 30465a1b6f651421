-- A text of which parts are replaced.
use Rattle.std.specs.Prelude.{ℕ, ◌≤◌, List, [], ◌∷◌, ◌++◌, drop}
use Rattle.vg_scan.specs.Lines.{part}
use Rattle.vg_scan.specs.declared.lines.Span.{Span}

-- A part of a text, from one place to another, and what is to stand there.
pub record Edit : Type 0 where
  pub from : ℕ
  pub to : ℕ
  pub text : List ℕ

-- a part, and what is to stand there
abbrev pub edit_of : Span → List ℕ → Edit
edit_of part text = record { from = part.from; to = part.to; text = text }

-- parts stand one after another from a place on, up to another
abbrev pub Rise : ℕ → ℕ → List Edit → Type 0
Rise at end [] = at ≤ end
Rise at end (e ∷ edits) = (at ≤ e.from) × (e.from ≤ e.to) × Rise e.to end edits

-- where the last of some parts ends, or the text's beginning
abbrev pub end_of : List Edit → ℕ
end_of [] = 0
end_of (e ∷ []) = e.to
end_of (e ∷ next ∷ edits) = end_of (next ∷ edits)

-- a text from a place on, with these parts replaced
abbrev pub patched_from : ℕ → List ℕ → List Edit → List ℕ
patched_from at text [] = drop at text
patched_from at text (e ∷ edits) = part text at e.from ++ (e.text ++ patched_from e.to text edits)

-- a text with these parts replaced
abbrev pub patched : List ℕ → List Edit → List ℕ
patched text edits = patched_from 0 text edits
