-- The parts of a text that spans are, and what the first line and the first word of a part are.
use Rattle.std.specs.Prelude.{◌≡◌, ℕ, ◌<◌, ◌≤◌, true, List, [], ◌∷◌, length, map, drop, slice_index}
use Rattle.std.specs.Str.Lines.{lines}
use Rattle.vg_scan.specs.Lines.{part, words, lines_of, is_blank}
use Rattle.vg_scan.specs.declared.lines.Span.{Span}

abbrev pub part_at : List ℕ → Span → List ℕ
part_at bytes span = part bytes span.from span.to

abbrev pub IsIn : List ℕ → Span → Type 0
IsIn bytes span = (span.from ≤ span.to) × (span.to ≤ length bytes)

-- the words that some spans are
abbrev pub words_at : List ℕ → List Span → List (List ℕ)
words_at bytes spans = map (part_at bytes) spans

-- a line, and where the next one begins
abbrev pub FoundLine : Type 0
FoundLine = Span × ℕ

-- the line is the first of the text from a place on
abbrev pub IsFirstLine : List ℕ → ℕ → FoundLine → Type 0
IsFirstLine bytes at found = lines (drop at bytes) ≡ part_at bytes found.0 ∷ lines (drop found.1 bytes)

-- its words are the first line
abbrev pub AreFirstWords : List ℕ → ℕ → FoundLine → Type 0
AreFirstWords bytes at found = lines_of (drop at bytes) ≡ words (part_at bytes found.0) ∷ lines_of (drop found.1 bytes)

-- so they are where the text ends in a later line
abbrev pub AreFirstOfParts : List ℕ → ℕ → FoundLine → Type 0
AreFirstOfParts bytes at found =
    (m : ℕ) → found.1 ≤ m → lines_of (part bytes at m) ≡ words (part_at bytes found.0) ∷ lines_of (part bytes found.1 m)

-- where the text ends in this line, what is left of it is the only one
abbrev pub IsAloneWhereCut : List ℕ → ℕ → FoundLine → Type 0
IsAloneWhereCut bytes at found =
    (m : ℕ) → at < m → m ≤ found.0.to → lines_of (part bytes at m) ≡ words (part bytes at m) ∷ []

-- the line begins at the place, and has an end before the next one
abbrev pub BeginsAt : List ℕ → ℕ → FoundLine → Type 0
BeginsAt bytes at found =
    (found.0.from ≡ at) × (at ≤ found.0.to) × (found.0.to ≤ found.1) × (at < found.1) × (found.1 ≤ length bytes)

-- a word, and the rest of the part in which it stands
abbrev pub FoundWord : Type 0
FoundWord = Span × Span

-- the word is the first of the part
abbrev pub IsFirstWord : List ℕ → Span → FoundWord → Type 0
IsFirstWord bytes within found = words (part_at bytes within) ≡ part_at bytes found.0 ∷ words (part_at bytes found.1)

-- only blanks stand before it
abbrev pub IsAfterBlanks : List ℕ → Span → FoundWord → Type 0
IsAfterBlanks bytes within found = (k : ℕ) → within.from ≤ k → k < found.0.from → is_blank (slice_index bytes k) ≡ true

-- the word stands in the part, and the rest is what follows it
abbrev pub FollowsWord : Span → FoundWord → Type 0
FollowsWord within found =
    (within.from ≤ found.0.from) × (found.0.from < found.0.to) × (found.1.from ≡ found.0.to)
    × (found.1.from ≤ found.1.to) × (found.1.to ≡ within.to)
