-- The part of a file in which a line stands.
use Rattle.std.specs.Prelude.{◌&&◌, not, Bool, true, false, List, if◌then◌else◌}
use Rattle.std.specs.List.{fold}
use Rattle.vg_scan.specs.Lines.{Line}
use Rattle.spef_file.specs.declared.keyword.Keyword.{Keyword}
use Rattle.spef_file.specs.declared.keyword.Keyword.TheVariants.{Map, Passed, Net, Foreign, Nothing}
use Rattle.spef_file.specs.Words.{first_word, has_words}
use Rattle.spef_file.specs.Keywords.{keyword_of}
use Rattle.spef_file.specs.Nets.{is_end}
use Rattle.spef_file.specs.HeaderLines.{in_header}

-- no part, the name map, a part that is passed over, or a net
pub data Place : Type 0 where
  outside : Place
  in_map : Place
  in_passed : Place
  in_net : Place

-- the part that a line opens in this one
abbrev pub opened : Place → Keyword → Place
opened place Map = in_map
opened place Passed = in_passed
opened place Net = in_net
opened place Foreign = place
opened place Nothing = place

-- the part after a line of this one: lines of a net open nothing, and `*END` closes it
-- so `*DEFINE`, `*PORTS` and the like are lines of the net in which they stand
abbrev pub place_after : Place → Line → Place
place_after in_net line = if is_end line then outside else in_net
place_after place line = opened place (keyword_of (first_word line))

-- the part in which the line after these stands; no line of a header opens one
unfoldable pub place_of : List Line → Place
place_of lines = fold place_after outside lines

abbrev pub is_outside : Place → Bool
is_outside outside = true
is_outside _ = false

abbrev pub is_map : Place → Bool
is_map in_map = true
is_map _ = false

abbrev pub is_net : Place → Bool
is_net in_net = true
is_net _ = false

abbrev pub opens_net : Keyword → Bool
opens_net Net = true
opens_net _ = false

abbrev pub opens_foreign : Keyword → Bool
opens_foreign Foreign = true
opens_foreign _ = false

abbrev pub opens_nothing : Keyword → Bool
opens_nothing Nothing = true
opens_nothing _ = false

-- the line after these is after the header, and in no net
abbrev pub is_free : List Line → Bool
is_free before = not (in_header before) && not (is_net (place_of before))

-- a line after these is the head of a net
abbrev pub is_net_head : List Line → Line → Bool
is_net_head before line = is_free before && opens_net (keyword_of (first_word line))

-- a line after these begins a part that is not supported
abbrev pub is_foreign_head : List Line → Line → Bool
is_foreign_head before line = is_free before && opens_foreign (keyword_of (first_word line))

-- a line after these has words and opens nothing
abbrev pub is_plain : List Line → Line → Bool
is_plain before line = is_free before && opens_nothing (keyword_of (first_word line)) && has_words line

-- a line after these stands in no part
abbrev pub is_lost : List Line → Line → Bool
is_lost before line = is_plain before line && is_outside (place_of before)

-- a line after these stands in the name map
abbrev pub is_row : List Line → Line → Bool
is_row before line = is_plain before line && is_map (place_of before)
