-- Where the nets of a file stand.
use Rattle.std.specs.Prelude.{◌≡◌, ℕ, ◌-◌, ◌<◌, ◌≤◌, ◌^◌, true, List, [], ◌∷◌, ◌++◌, take, drop, length, slice_index, unwrap_or, codes, Result, Ok, Err}
use Rattle.std.specs.List.{All}
use Rattle.vg_scan.specs.Lines.{Line, lines_of, words, part, BeginsLine}
use Rattle.vg_scan.specs.Parts.{IsFirstSolid}
use Rattle.vg_scan.specs.Printed.{is_solid}
use Rattle.vg_scan.specs.Spans.{part_at}
use Rattle.vg_scan.specs.declared.lines.Span.{Span}
use Rattle.spef_file.specs.declared.fault.SpefKind.{SpefKind}
use Rattle.spef_file.specs.declared.reader.Reader.{Reader}
use Rattle.spef_file.specs.declared.section.Section.{Section}
use Rattle.spef_file.specs.Tables.{NetRow}
use Rattle.spef_file.specs.Nets.{end_at}
use Rattle.spef_file.specs.Words.{first_word, has_words}

-- the lines of a net between its head and its end, where these lines follow its head
abbrev pub inner_lines : List Line → List Line
inner_lines later = take (unwrap_or (end_at later) 0) later

-- the lines that follow a net's head, up to the word `*END`
abbrev pub up_to_end : List Line → List Line
up_to_end later = inner_lines later ++ (codes "*END" ∷ []) ∷ []

-- the lines of a net with its head and its end, up to the word `*END`, where its head is the first of these lines
abbrev pub net_lines : List Line → List Line
net_lines [] = []
net_lines (head ∷ later) = head ∷ up_to_end later

-- a section of a text without comments: it begins with the first word of the line of its number, a net's head, and ends
-- with the word `*END` of that net
pub record IsSpan (clear : List ℕ) (lines : List Line) (section : Section) : Type 0 where
  pub first : IsFirstSolid clear section.from
  pub line : lines_of (drop section.from clear) ≡ drop (section.line - 1) lines
  pub net : lines_of (part clear section.from section.to) ≡ net_lines (drop (section.line - 1) lines)
  pub last : is_solid (slice_index clear (section.to - 1)) ≡ true
  pub order : (section.from < section.to) × (section.to ≤ length clear)
  pub number : (1 ≤ section.line) × (section.line ≤ 2 ^ 28)

abbrev pub AreSpans : List ℕ → List Line → List NetRow → Type 0
AreSpans clear lines nets = All (λ (net : NetRow). IsSpan clear lines net.1) nets

-- where these lines follow so many others, the sections before a line is taken and after it are right, and so is the
-- count of the lines
abbrev pub StaysRight : List ℕ → ℕ → ℕ → ℕ → ℕ → List NetRow → List NetRow → Line → Type 0
StaysRight clear next to count new_count sections new_sections line =
    (lines : List Line) → drop count lines ≡ line ∷ lines_of (drop next clear) → AreSpans clear lines sections
    → AreSpans clear lines new_sections × (drop new_count lines ≡ lines_of (drop to clear))

abbrev pub KeepsSpans : List ℕ → ℕ → Result ℕ SpefKind → Reader → Reader → Line → Type 0
KeepsSpans clear next (Ok to) old new line = StaysRight clear next to old.count new.count old.nets new.nets line
KeepsSpans clear next (Err _) old new line = Unit {0}

-- the text's parts that begin with a line go on with the lines after it
abbrev pub GoesOn : List ℕ → ℕ → ℕ → Line → Type 0
GoesOn clear at next line = (m : ℕ) → next ≤ m → lines_of (part clear at m) ≡ line ∷ lines_of (part clear next m)

-- the text's parts that begin at either place have the same lines
abbrev pub KeepsLines : List ℕ → ℕ → ℕ → Type 0
KeepsLines clear from to =
    (m : ℕ) → to < m → m ≤ length clear → lines_of (part clear to m) ≡ lines_of (part clear from m)

-- the first word of a line, if it has one, begins at a place
abbrev pub BeginsWord : List ℕ → ℕ → Line → Type 0
BeginsWord clear at line = has_words line ≡ true → slice_index clear at ≡ slice_index (first_word line) 0

-- a line of a text, and where the next one begins
pub record IsLine (clear : List ℕ) (span : Span) (next : ℕ) (line : Line) : Type 0 where
  pub here : line ≡ words (part_at clear span)
  pub begins : BeginsLine clear span.from × BeginsLine clear next
  pub order : (span.from ≤ span.to) × (span.to ≤ next) × (next ≤ length clear)
  pub on : GoesOn clear span.from next line
