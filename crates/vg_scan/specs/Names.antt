-- The names of SPEF: what a text with escapes stands for, and where a node's text is split.
use Rattle.std.specs.Prelude.{◌≡◌, ℕ, zero, suc, ◌<◌, ◌≤◌, ◌==◌, ◌&&◌, ◌||◌, ◌⊎◌, not, Bool, true, false, List, [], ◌∷◌, length, slice_index, Option, Some, None, option_map, if◌then◌else◌}
use Rattle.vg_scan.specs.declared.chars.Chars.{Chars}

abbrev pub is_backslash : ℕ → Bool
is_backslash b = b == 92

abbrev pub is_quote : ℕ → Bool
is_quote b = b == 34

-- what an unescaped byte is in the canonical name: a divider is `/`, and a bus delimiter is `[` or `]`
abbrev pub plain : Chars → ℕ → ℕ
plain chars b =
    if b == chars.divider then 47
    else (if b == chars.bus_left then 91
    else (if b == chars.bus_right then 93 else b))

-- this byte before a name, if there is a name
abbrev pub before : ℕ → Option (List ℕ) → Option (List ℕ)
before b name = option_map (λ bytes. b ∷ bytes) name

-- What the bytes spell from left to right, where the flag says that a backslash escapes the first of them. A backslash
-- is dropped and the byte after it is kept. A bare quote, or a backslash that escapes nothing, spells no name.
unfoldable pub spelled : Chars → Bool → List ℕ → Option (List ℕ)
spelled chars true [] = None
spelled chars true (b ∷ bs) = before b (spelled chars false bs)
spelled chars false [] = Some []
spelled chars false (b ∷ bs) =
    if is_backslash b then spelled chars true bs
    else (if is_quote b then None else before (plain chars b) (spelled chars false bs))

-- the canonical name of a text, if it has one
abbrev pub canonical : Chars → List ℕ → Option (List ℕ)
canonical chars [] = None
canonical chars (b ∷ bs) = spelled chars false (b ∷ bs)

-- a place of a text is escaped where an unescaped backslash stands just before it
abbrev pub is_escaped : List ℕ → ℕ → Bool
is_escaped text zero = false
is_escaped text (suc at) = is_backslash (slice_index text at) && not (is_escaped text at)

-- whether this byte stands unescaped at a place
abbrev pub is_bare : ℕ → List ℕ → ℕ → Bool
is_bare byte text at = (slice_index text at == byte) && not (is_escaped text at)

-- the last of the places below a limit at which this byte stands unescaped
abbrev pub last_bare : ℕ → List ℕ → ℕ → Option ℕ
last_bare byte text zero = None
last_bare byte text (suc at) = if is_bare byte text at then Some at else last_bare byte text at

-- this byte stands unescaped at no place from one place on
abbrev pub IsNowhereBare : ℕ → List ℕ → ℕ → Type 0
IsNowhereBare byte text from = (at : ℕ) → from ≤ at → at < length text → is_bare byte text at ≡ false

-- the byte stands unescaped here, and nowhere later
pub record IsLastBare (byte : ℕ) (text : List ℕ) (at : ℕ) : Type 0 where
  pub within : at < length text
  pub here : is_bare byte text at ≡ true
  pub last : IsNowhereBare byte text (suc at)

-- a text that gives no name: it is empty, its end is escaped, or a quote stands unescaped in it
abbrev pub IsBad : List ℕ → Type 0
IsBad text =
    (text ≡ []) ⊎ (is_escaped text (length text) ≡ true) ⊎ ((at : ℕ) × (at < length text) × (is_bare 34 text at ≡ true))

-- a byte that stands for itself where nothing escapes it
abbrev pub is_ordinary : Chars → ℕ → Bool
is_ordinary chars b =
    not (is_backslash b || is_quote b || (b == chars.divider) || (b == chars.bus_left) || (b == chars.bus_right))
