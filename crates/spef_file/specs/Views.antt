-- What the code's values stand for, and what may come where memory is wanted.
use Rattle.std.specs.Prelude.{◌≡◌, ℕ, ◌+◌, ◌≤◌, Bool, true, false, List, ◌∷◌, ◌++◌, [], length, map, drop, Option, Some, None, Result, Ok, Err}
use Rattle.vg_scan.specs.Lines.{Line, lines_of}
use Rattle.vg_scan.specs.Names.{canonical}
use Rattle.vg_scan.specs.References.{is_reference}
use Rattle.vg_scan.specs.declared.chars.Chars.{Chars}
use Rattle.spef_file.specs.declared.fault.SpefKind.{SpefKind}
use Rattle.spef_file.specs.declared.fault.SpefKind.TheVariants.{Memory, MapUnknown}
use Rattle.spef_file.specs.declared.reader.Reader.{Reader}
use Rattle.spef_file.specs.Headers.{IsSmall}
use Rattle.spef_file.specs.Machine.{State}
use Rattle.spef_file.specs.Nets.{NetHead}
use Rattle.spef_file.specs.Rows.{row_of, map_line, head_name}
use Rattle.spef_file.specs.Machine.{given_fault, row_fault, read}
use Rattle.spef_file.specs.Tables.{NetRow}

abbrev pub head_in : NetRow → NetHead
head_in net = record { name = net.0; reduced = net.1.reduced; line = net.1.line }

abbrev pub heads_in : List NetRow → List NetHead
heads_in nets = map head_in nets

abbrev pub state_of : Reader → State
state_of r =
    record { headed = r.headed; heading = r.heading; region = r.region; in_net = false; count = r.count; names = r.map; nets = heads_in r.nets }

-- no count is larger than it may be
pub record IsWhole (r : Reader) : Type 0 where
  pub rows : length r.map ≤ r.count
  pub small : IsSmall r.heading
  pub few : length r.nets ≤ r.count

-- this fault, or out of memory
abbrev pub IsFaultOrMemory : Option SpefKind → SpefKind → Type 0
IsFaultOrMemory fault Memory = Unit {0}
IsFaultOrMemory fault kind = fault ≡ Some kind

-- reading fails at this line, or memory is wanted
abbrev pub Fails : SpefKind → State → Line → List Line → Type 0
Fails Memory s line later = Unit {0}
Fails kind s line later = read s (line ∷ later) ≡ Err (record { kind = kind; line = s.count + 1 })

-- reading passes a line, whatever follows
abbrev pub Passes : Result (Unit {0}) SpefKind → State → State → Line → Type 0
Passes (Ok _) old new line = (later : List Line) → read old (line ∷ later) ≡ read new later
Passes (Err kind) old new line = (later : List Line) → Fails kind old line later

-- reading passes a line, and those after it up to a place
abbrev pub GoesTo : List ℕ → ℕ → Result ℕ SpefKind → State → State → Line → Type 0
GoesTo bytes next (Ok to) old new line =
    read old (line ∷ lines_of (drop next bytes)) ≡ read new (lines_of (drop to bytes))
GoesTo bytes next (Err kind) old new line = Fails kind old line (lines_of (drop next bytes))

-- a row of a name map is added, or its fault is answered
abbrev pub AddsRow : Result (Unit {0}) SpefKind → Option SpefKind → Option (List ℕ × List ℕ) → List (List ℕ × List ℕ)
    → List (List ℕ × List ℕ) → Type 0
AddsRow (Ok _) fault given old new =
    (row : List ℕ × List ℕ) × (given ≡ Some row) × (fault ≡ None) × (new ≡ old ++ row ∷ [])
AddsRow (Err kind) fault given old new = IsFaultOrMemory fault kind

-- the row of an index and a word is added, or its fault is answered
abbrev pub AddsGiven : Result (Unit {0}) SpefKind → Chars → List ℕ → List ℕ → List (List ℕ × List ℕ)
    → List (List ℕ × List ℕ) → Type 0
AddsGiven result chars index word old new =
    AddsRow result (given_fault old (Some index) (canonical chars word))
    (row_of (Some index) (canonical chars word)) old new

-- the row of a line is added, or its fault is answered
abbrev pub AddsLine : Result (Unit {0}) SpefKind → Chars → Line → List (List ℕ × List ℕ)
    → List (List ℕ × List ℕ) → Type 0
AddsLine result chars line old new = AddsRow result (row_fault chars old line) (map_line chars line) old new

-- the name that a head has, none where its text is bad
abbrev pub IsHead : Chars → List (List ℕ × List ℕ) → List ℕ → Option (List ℕ) → Type 0
IsHead chars rows word (Some name) = head_name chars rows word ≡ Some name
IsHead chars rows word None = (head_name chars rows word ≡ None) × (is_reference word ≡ false)

-- this name is that of a head, or it has none, or the fault of a reference is answered
abbrev pub IsHeadName : Chars → List (List ℕ × List ℕ) → List ℕ → List ℕ → Result Bool SpefKind → Type 0
IsHeadName chars rows word name (Ok true) = IsHead chars rows word (Some name)
IsHeadName chars rows word name (Ok false) = IsHead chars rows word None
IsHeadName chars rows word name (Err Memory) = Unit {0}
IsHeadName chars rows word name (Err kind) =
    (kind ≡ MapUnknown) × (head_name chars rows word ≡ None) × (is_reference word ≡ true)

-- this name is what a word stands for, or the word is none
abbrev pub CanonicalName : Chars → List ℕ → List ℕ → Result Bool SpefKind → Type 0
CanonicalName chars word name (Ok true) = canonical chars word ≡ Some name
CanonicalName chars word name (Ok false) = canonical chars word ≡ None
CanonicalName chars word name (Err kind) = kind ≡ Memory
