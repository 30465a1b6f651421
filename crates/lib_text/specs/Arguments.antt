-- The arguments of a complex attribute or of a group. Source: Liberty User Guide, Synopsys.
use Rattle.std.specs.Prelude.{◌≡◌, ℕ, ◌+◌, ◌-◌, ◌==◌, ◌<◌, ◌≤◌, true, nat_le, nat_lt, Bool, not, ◌&&◌, List, [], ◌∷◌, length, map, take, drop, get_or, if◌then◌else◌}
use Rattle.std.specs.List.{list_all, onto_first, position_or_len, suffix_len}
use Rattle.vg_scan.specs.Lines.{is_blank, is_ink}
use Rattle.vg_scan.specs.Names.{is_quote}
use Rattle.lib_text.specs.declared.quoting.Quoting.{Quoting}
use Rattle.lib_text.specs.declared.quoting.Quoting.TheVariants.{Outside}
use Rattle.lib_text.specs.Strings.{quoting_after, is_quoted}

-- a comma outside strings
abbrev pub is_comma : Quoting → ℕ → Bool
is_comma quoting b = not (is_quoted quoting) && (b == 44)

-- the parts of a list between its commas outside strings
unfoldable pub parts_of : Quoting → List ℕ → List (List ℕ)
parts_of quoting [] = [] ∷ []
parts_of quoting (b ∷ bs) =
    if is_comma quoting b then []
    ∷ parts_of (quoting_after quoting b) bs else onto_first b (parts_of (quoting_after quoting b) bs)

-- a text without the blanks at its end
abbrev pub without_end : List ℕ → List ℕ
without_end text = take (length text - suffix_len is_blank text) text

-- and without those at its beginning
unfoldable pub trimmed : List ℕ → List ℕ
trimmed text = without_end (drop (position_or_len is_ink text) text)

-- a text begins and ends with a quote, and these are two
abbrev pub is_in_quotes : List ℕ → Bool
is_in_quotes text = nat_lt 1 (length text) && (is_quote (get_or text 0 0) && is_quote (get_or text (length text - 1) 0))

-- a text without one pair of quotes around it
unfoldable pub unquoted : List ℕ → List ℕ
unquoted text = if is_in_quotes text then take (length text - 2) (drop 1 text) else text

-- the arguments of a list
abbrev pub arguments_of : List ℕ → List (List ℕ)
arguments_of list = map (λ part. unquoted (trimmed part)) (parts_of Outside list)

-- a byte that a name may have
abbrev pub is_name_byte : ℕ → Bool
is_name_byte b = nat_le 33 b && nat_le b 126

-- a name of a cell or of a pin
unfoldable pub is_name : List ℕ → Bool
is_name text = nat_lt 0 (length text) && list_all is_name_byte text

-- each argument of a list is a name
abbrev pub are_names : List ℕ → Bool
are_names list = list_all is_name (arguments_of list)

-- the first argument from a place on is a name and ends at this place: the list is names where that is its end, and
-- else where those after the comma are
pub record EndsName (list : List ℕ) (at end : ℕ) : Type 0 where
  pub from : at ≤ end
  pub within : end ≤ length list
  pub last : end ≡ length list → are_names (drop at list) ≡ true
  pub more : end < length list → are_names (drop at list) ≡ are_names (drop (end + 1) list)
