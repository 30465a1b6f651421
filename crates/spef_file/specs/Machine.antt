-- What the functions that read a file say between its lines: a state, what each line makes of it, and the fault that it
-- has there. `Faults` and `Files` say what a file says, by its lines alone.
use Rattle.std.specs.Prelude.{ℕ, pos, ◌+◌, ◌&&◌, not, nat_lt, Bool, true, false, List, [], ◌∷◌, ◌++◌, if◌then◌else◌, codes, Option, Some, None, unwrap_or, is_some, Result, Ok, Err}
use Rattle.std.specs.Str.{bytes_eq}
use Rattle.vg_scan.specs.Lines.{Line}
use Rattle.vg_scan.specs.Names.{canonical}
use Rattle.vg_scan.specs.References.{is_reference, index_of}
use Rattle.vg_scan.specs.declared.chars.Chars.{Chars}
use Rattle.vg_scan.specs.declared.fault.LineFault.{LineFault}
use Rattle.spef_file.specs.declared.fault.SpefKind.{SpefKind}
use Rattle.spef_file.specs.declared.fault.SpefKind.TheVariants.{MapTwice, MapUnknown, NoEnd, Stray, NetTwice, Unsupported}
use Rattle.spef_file.specs.declared.heading.Heading.{Heading}
use Rattle.spef_file.specs.declared.keyword.Keyword.{Keyword}
use Rattle.spef_file.specs.declared.keyword.Keyword.TheVariants.{Map, Passed, Net, Foreign, Nothing}
use Rattle.spef_file.specs.declared.keyword.Region.{Region}
use Rattle.spef_file.specs.declared.keyword.Region.TheVariants.{Outside, InMap, InPassed}
use Rattle.spef_file.specs.Words.{first_word, second_word, has_words}
use Rattle.spef_file.specs.Keywords.{keyword_of}
use Rattle.spef_file.specs.HeaderChars.{USUAL}
use Rattle.spef_file.specs.Headers.{header_line, is_idle}
use Rattle.spef_file.specs.Rows.{map_line, head_name, is_mapped}
use Rattle.spef_file.specs.Nets.{NetHead, is_end, end_at, is_taken}
use Rattle.spef_file.specs.Files.{File}

pub record State : Type 0 where
  -- how many header lines there were
  pub headed : ℕ
  pub heading : Heading
  -- where the next line stands, and whether in a net
  pub region : Region
  pub in_net : Bool
  -- how many lines there were
  pub count : ℕ
  -- the digits of each index, and its name
  pub names : List (List ℕ × List ℕ)
  pub nets : List NetHead

abbrev pub NO_HEADING : Heading
NO_HEADING = record { chars = USUAL; c_places = 0; r_places = 0 }

-- before the first line
abbrev pub START : State
START = record { headed = 0; heading = NO_HEADING; region = Outside; in_net = false; count = 0; names = []; nets = [] }

-- what is said after one more line

abbrev pub head_of : State → Line → NetHead
head_of s line = record {
  name = unwrap_or (head_name s.heading.chars s.names (second_word line)) [];
  reduced = bytes_eq (first_word line) (codes "*R_NET");
  line = s.count + 1;
}

abbrev pub with_heading : State → Result Heading SpefKind → State
with_heading s (Ok heading) = record s { headed = s.headed + 1; heading = heading }
with_heading s (Err _) = s

abbrev pub with_row : State → Option (List ℕ × List ℕ) → State
with_row s (Some row) = record s { names = s.names ++ row ∷ [] }
with_row s None = s

abbrev pub after_nothing : Region → State → Line → State
after_nothing InMap s line = with_row s (map_line s.heading.chars line)
after_nothing Outside s line = s
after_nothing InPassed s line = s

abbrev pub after_body : Keyword → State → Line → State
after_body Map s line = record s { region = InMap }
after_body Passed s line = record s { region = InPassed }
after_body Net s line = record s { region = Outside; in_net = true; nets = s.nets ++ head_of s line ∷ [] }
after_body Foreign s line = s
after_body Nothing s line = after_nothing s.region s line

abbrev pub after_header : State → Line → State
after_header s line = if is_idle s.headed line then s else with_heading s (header_line s.headed s.heading line)

abbrev pub after_uncounted : State → Line → State
after_uncounted s line =
    if s.in_net then (if is_end line then record s { in_net = false } else s)
    else (if nat_lt s.headed 14 then after_header s line else after_body (keyword_of (first_word line)) s line)

abbrev pub counted : State → State
counted s = record s { count = s.count + 1 }

unfoldable pub after : State → Line → State
after s line = counted (after_uncounted s line)

-- the fault of a line, given what is said before it, and the lines after it

abbrev pub fault_in : {A : Type 0} → Result A SpefKind → Option SpefKind
fault_in (Ok _) = None
fault_in (Err kind) = Some kind

-- the fault of a line `*digits NAME`, by its digits and the name that its second word is
abbrev pub given_fault : List (List ℕ × List ℕ) → Option (List ℕ) → Option (List ℕ) → Option SpefKind
given_fault names (Some index) name =
    if is_mapped names index then Some MapTwice else (if is_some name then None else Some Stray)
given_fault names None name = Some Stray

abbrev pub row_fault : Chars → List (List ℕ × List ℕ) → Line → Option SpefKind
row_fault chars names (index ∷ name ∷ []) = given_fault names (index_of index) (canonical chars name)
row_fault chars names _ = Some Stray

abbrev pub name_fault : List NetHead → Option (List ℕ) → Option SpefKind
name_fault nets (Some name) = if is_taken nets name then Some NetTwice else None
name_fault nets None = Some Stray

abbrev pub head_fault : State → Line → List Line → Option SpefKind
head_fault s line later =
    let word = second_word line in
    let name = head_name s.heading.chars s.names word in
    if is_reference word && not (is_some name) then Some MapUnknown
    else (if is_some (end_at later) then name_fault s.nets name else Some NoEnd)

abbrev pub nothing_fault : Region → State → Line → Option SpefKind
nothing_fault Outside s line = Some Stray
nothing_fault InMap s line = row_fault s.heading.chars s.names line
nothing_fault InPassed s line = None

abbrev pub body_fault : Keyword → State → Line → List Line → Option SpefKind
body_fault Map s line later = None
body_fault Passed s line later = None
body_fault Net s line later = head_fault s line later
body_fault Foreign s line later = Some Unsupported
body_fault Nothing s line later = if has_words line then nothing_fault s.region s line else None

unfoldable pub state_fault : State → Line → List Line → Option SpefKind
state_fault s line later =
    if s.in_net then None
    else
    (if nat_lt s.headed 14 then (if is_idle s.headed line then None else fault_in (header_line s.headed s.heading line))
    else body_fault (keyword_of (first_word line)) s line later)

abbrev pub unless_fault : Option SpefKind → ℕ → Result State (LineFault SpefKind) → Result State (LineFault SpefKind)
unless_fault None number others = others
unless_fault (Some kind) number others = Err (record { kind = kind; line = number })

-- what is said after some lines, or the fault of the first of them that has one
unfoldable pub read : State → List Line → Result State (LineFault SpefKind)
read s [] = Ok s
read s (line ∷ later) = unless_fault (state_fault s line later) (s.count + 1) (read (after s line) later)

-- what is said at the end
abbrev pub said : State → File
said s =
    record { chars = s.heading.chars; c_places = pos s.heading.c_places; r_places = pos s.heading.r_places; names = s.names; nets = s.nets }
