-- Strings in the text of a library. A string runs from a quote to the next quote, else to its line's end; outside
-- strings a backslash hides the byte after it, so that a quote there begins none. Source: Liberty User Guide, Synopsys.
use Rattle.std.specs.Prelude.{ℕ, suc, Bool, true, false, ◌||◌, List, [], ◌∷◌, if◌then◌else◌}
use Rattle.vg_scan.specs.Lines.{is_newline}
use Rattle.vg_scan.specs.Names.{is_backslash, is_quote}
use Rattle.lib_text.specs.declared.quoting.Quoting.{Quoting}
use Rattle.lib_text.specs.declared.quoting.Quoting.TheVariants.{Outside, Hidden, Inside}

-- what the byte after a byte stands in
abbrev pub quoting_after : Quoting → ℕ → Quoting
quoting_after Outside b = if is_quote b then Inside else (if is_backslash b then Hidden else Outside)
quoting_after Hidden b = Outside
quoting_after Inside b = if is_quote b || is_newline b then Outside else Inside

-- a byte stands in a string
abbrev pub is_quoted : Quoting → Bool
is_quoted Inside = true
is_quoted _ = false

-- how many bytes stand before the first that passes a test, given what it stands in
unfoldable pub until : (Quoting → ℕ → Bool) → Quoting → List ℕ → ℕ
until test quoting [] = 0
until test quoting (b ∷ bs) = if test quoting b then 0 else suc (until test (quoting_after quoting b) bs)
