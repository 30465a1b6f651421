-- Sections of a text, and the sections that are written in their place.
use Rattle.std.specs.Prelude.{◌≡◌, ◌+◌, ◌-◌, ◌<◌, ◌≤◌, ℕ, true, false, List, [], ◌∷◌, ◌++◌, length, take, drop, map, slice_index, codes}
use Rattle.std.specs.List.{All}
use Rattle.std.specs.Str.Lines.{lines}
use Rattle.vg_patch.specs.Edits.{Edit}
use Rattle.vg_scan.specs.Lines.{words, lines_of, part, is_blank}
use Rattle.spef_file.specs.HeaderLines.{chars_of}
use Rattle.spef_file.specs.Nets.{is_end, is_head}
use Rattle.spef_file.specs.declared.header.Header.{Header}
use Rattle.spef_net.specs.declared.net.ParNet.{ParNet}
use Rattle.spef_write.specs.Sections.{inner_lines, section_text, IsWritable}
use Rattle.spef_patch_laws.specs.Runs.{MayBegin, IsInner}
use Rattle.spef_patch_laws.specs.NetTexts.{NetText}

-- only blanks stand from one place of a text to another
abbrev pub AreBlanks : List ℕ → ℕ → ℕ → Type 0
AreBlanks text from to = (k : ℕ) → from ≤ k → k < to → is_blank (slice_index text k) ≡ true

-- Where a section of a text, from its head to its `*END`, stands in the text: the places where its first and its last
-- line begin, and the lines before the last one.
pub record SectionLines (text : List ℕ) (from to : ℕ) : Type 0 where
  pub start : ℕ
  pub last : ℕ
  pub head : List ℕ
  pub inner : List (List ℕ)
  pub order : (start ≤ from) × (from < last) × (last + 4 ≤ to) × (to ≤ length text)
  pub begins : 0 < start → slice_index text (start - 1) ≡ 10
  pub ends : slice_index text (last - 1) ≡ 10
  pub blank : AreBlanks text start from × AreBlanks text last (to - 4)
  pub word : drop (to - 4) text ≡ codes "*END" ++ drop to text
  pub lines_are : lines (part text start last) ≡ head ∷ inner

-- a net may begin there, and these are its lines
pub record IsSectionAt (text : List ℕ) (from to : ℕ) : Type 0 where
  pub at : SectionLines text from to
  pub may : MayBegin (lines_of (take at.start text))
  pub head : is_head (words at.head) ≡ true
  pub inner : All IsInner (map words at.inner)
  pub end : List ℕ
  pub later : List (List ℕ)
  pub end_is : lines (drop at.last text) ≡ end ∷ later
  pub ended : is_end (words end) ≡ true

-- sections, each on its own lines, but the last one's end without a newline
abbrev pub sections_text : Header → List ParNet → List ℕ
sections_text header [] = []
sections_text header (net ∷ []) = section_text header net
sections_text header (net ∷ next ∷ nets) = section_text header net ++ 10 ∷ sections_text header (next ∷ nets)

-- nets that are written in place of a section
pub record Change : Type 0 where
  pub from : ℕ
  pub to : ℕ
  pub nets : List ParNet

abbrev pub edit_of : Header → Change → Edit
edit_of header c = record { from = c.from; to = c.to; text = sections_text header c.nets }

-- a net as it is written
abbrev pub written_text : Header → ParNet → NetText
written_text header net = record { name = net.name; reduced = false; lines = inner_lines header net }

-- its lines are those of a net
pub record IsWrittenNet (header : Header) (net : ParNet) : Type 0 where
  pub writable : IsWritable net
  pub inner : All IsInner (map words (inner_lines header net))

-- a section of a text is replaced by one or more nets
pub record IsChange (text : List ℕ) (header : Header) (c : Change) : Type 0 where
  pub section : IsSectionAt text c.from c.to
  pub chars : chars_of (lines_of (take section.at.start text)) ≡ header.chars
  pub some : 0 < length c.nets
  pub written : All (IsWrittenNet header) c.nets
