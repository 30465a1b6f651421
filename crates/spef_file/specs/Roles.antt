-- What a line is to a net.
use Rattle.std.specs.Prelude.{◌≡◌, ℕ, ◌-◌, ◌≤◌, ◌<◌, slice_index, true, false, List, [], ◌∷◌, codes}
use Rattle.vg_scan.specs.Lines.{Line, words, part}
use Rattle.vg_scan.specs.Printed.{is_solid}
use Rattle.vg_scan.specs.Spans.{part_at}
use Rattle.vg_scan.specs.declared.lines.Span.{Span}
use Rattle.spef_file.specs.declared.net_end.Role.{Role}
use Rattle.spef_file.specs.declared.net_end.Role.TheVariants.{End, Head, Inner}
use Rattle.spef_file.specs.Nets.{is_end, is_head}

abbrev pub IsRoleOf : Line → Role → Type 0
IsRoleOf line (End _) = is_end line ≡ true
IsRoleOf line Head = (is_end line ≡ false) × (is_head line ≡ true)
IsRoleOf line Inner = (is_end line ≡ false) × (is_head line ≡ false)

-- where the first word of an end line ends
abbrev pub IsPlace : List ℕ → Span → Role → Type 0
IsPlace bytes line (End to) = (words (part bytes line.from to) ≡ codes "*END" ∷ [])
    × (is_solid (slice_index bytes (to - 1)) ≡ true) × (line.from < to) × (to ≤ line.to)
IsPlace bytes line Head = Unit {0}
IsPlace bytes line Inner = Unit {0}

-- what a line of a text is
abbrev pub IsRole : List ℕ → Span → Role → Type 0
IsRole bytes line role = IsRoleOf (words (part_at bytes line)) role × IsPlace bytes line role
