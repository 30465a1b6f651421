-- One section after another, as the code finds them: for the functions between.
use Rattle.std.specs.Prelude.{◌≡◌, List, [], ◌∷◌, true, false, ◌⊎◌, ⊤}
use Rattle.std.specs.List.{flat_map}
use Rattle.ver_text.specs.declared.kind.Kind.TheVariants.{Semicolon}
use Rattle.ver_syntax.specs.declared.row.Place.TheVariants.{Start}
use Rattle.ver_syntax.specs.declared.row.Row.{Row}
use Rattle.ver_syntax.specs.Grammar.{is}
use Rattle.ver_syntax.specs.Rows.{place_after}
use Rattle.ver_items.specs.Sections.{Section, sections}

-- the section that some tokens are, if there are any
abbrev pub section_in : List Row → List Section
section_in [] = []
section_in (r ∷ rows) = record { head = r; body = rows } ∷ []

-- the tokens of some sections
abbrev pub rows_in : List Section → List Row
rows_in sections = flat_map (λ s. s.head ∷ s.body) sections

-- each token stands in what follows the one before it
unfoldable pub AreLinked : List Row → Type 0
AreLinked [] = ⊤
AreLinked (r ∷ []) = ⊤
AreLinked (r ∷ q ∷ rows) = (q.place ≡ place_after r.place r.kind) × AreLinked (q ∷ rows)

-- a token, if there is one, stands at the start of an item
abbrev pub AtStart : List Row → Type 0
AtStart [] = ⊤
AtStart (r ∷ rows) = r.place ≡ Start

-- no token of these but the last is a `;`, and the last is one where others come after them
unfoldable pub IsItem : List Row → List Row → Type 0
IsItem [] after = after ≡ []
IsItem (r ∷ []) after = (is Semicolon r.kind ≡ true) ⊎ (after ≡ [])
IsItem (r ∷ q ∷ rows) after = (is Semicolon r.kind ≡ false) × IsItem (q ∷ rows) after
