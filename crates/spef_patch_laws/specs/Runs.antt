-- Lines of a file, as a part of them stands after some lines and before others.
use Rattle.std.specs.Prelude.{◌≡◌, ℕ, true, false, List, [], ◌∷◌, ◌++◌, ◌+◌, length, map, unwrap_or, codes, Some, None}
use Rattle.std.specs.List.{All}
use Rattle.std.specs.Str.{bytes_eq}
use Rattle.vg_scan.specs.Lines.{Line}
use Rattle.vg_scan.specs.Names.{canonical}
use Rattle.vg_scan.specs.References.{is_reference}
use Rattle.spef_file.specs.Words.{first_word, second_word}
use Rattle.spef_file.specs.Nets.{NetHead, is_end, is_head}
use Rattle.spef_file.specs.HeaderLines.{in_header, chars_of, c_places_of, r_places_of}
use Rattle.spef_file.specs.Regions.{is_net, place_of}
use Rattle.spef_file.specs.Statements.{rows_of, nets_of, name_in}
use Rattle.spef_file.specs.Faults.{fault_of}

-- lines have no fault, after some lines and before others
abbrev pub IsRun : List Line → List Line → List Line → Type 0
IsRun before [] later = Unit {0}
IsRun before (line ∷ lines) later =
    (fault_of before line (lines ++ later) ≡ None) × IsRun (before ++ line ∷ []) lines later

-- the header is over after these lines and after those, and it and the name map have said the same
pub record SaysSame (old new : List Line) : Type 0 where
  pub old_over : in_header old ≡ false
  pub over : in_header new ≡ false
  pub chars : chars_of new ≡ chars_of old
  pub c_places : c_places_of new ≡ c_places_of old
  pub r_places : r_places_of new ≡ r_places_of old
  pub rows : rows_of new ≡ rows_of old

-- besides, the next line stands in the same part of the file
pub record IsAlike (old new : List Line) : Type 0 where
  pub says : SaysSame old new
  pub place : place_of new ≡ place_of old

-- a net may begin after these lines: the header is over, and the next line stands in no net
pub record MayBegin (before : List Line) : Type 0 where
  pub over : in_header before ≡ false
  pub out : is_net (place_of before) ≡ false

-- the net whose head is this line, behind others
abbrev pub head_in : List Line → Line → NetHead
head_in before line = record {
  name = unwrap_or (name_in before line) [];
  reduced = bytes_eq (first_word line) (codes "*R_NET");
  line = length before + 1;
}

-- the lines of a net: its head, those between, and its end
pub record NetLines : Type 0 where
  pub head : Line
  pub inner : List Line
  pub end : Line

abbrev pub all_of : NetLines → List Line
all_of net = net.head ∷ (net.inner ++ net.end ∷ [])

-- a line between a net's head and its end
pub record IsInner (line : Line) : Type 0 where
  pub no_end : is_end line ≡ false
  pub no_head : is_head line ≡ false

-- they are a head, lines between, and an end
pub record AreNetLines (net : NetLines) : Type 0 where
  pub head : is_head net.head ≡ true
  pub inner : All IsInner net.inner
  pub end : is_end net.end ≡ true

-- the head names a net, and does so without the name map
pub record IsHeadOf (before : List Line) (line : Line) (name : List ℕ) : Type 0 where
  pub opens : first_word line ≡ codes "*D_NET"
  pub plain : is_reference (second_word line) ≡ false
  pub named : canonical (chars_of before) (second_word line) ≡ Some name

abbrev pub names_of : List NetHead → List (List ℕ)
names_of heads = map (λ head. head.name) heads

-- a head so many lines later
abbrev pub shifted : ℕ → NetHead → NetHead
shifted by head = record head { line = head.line + by }

-- these lines add the heads of these nets behind others, whose numbers are counted from the first of the lines
abbrev pub Add : List Line → List Line → List NetHead → Type 0
Add before lines heads = nets_of (before ++ lines) ≡ nets_of before ++ map (shifted (length before)) heads
