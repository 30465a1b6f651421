-- Items that are kept by their tokens: for the functions between.
use Rattle.std.specs.Prelude.{◌≡◌, ◌<◌, ◌≤◌, ◌++◌, ℕ, List, [], ◌∷◌, length, take, drop}
use Rattle.ver_syntax.specs.declared.row.Row.{Row}
use Rattle.ver_items.specs.Sections.{Section}
use Rattle.ver_items.specs.SectionSteps.{section_in}

-- the items of some tokens, by how many each of them has
unfoldable pub items_by : List ℕ → List Row → List Section
items_by [] rows = []
items_by (n ∷ ns) rows = section_in (take n rows) ++ items_by ns (drop n rows)

-- items of so many tokens, none of which is empty, are all of these
unfoldable pub AreCounts : List ℕ → List Row → Type 0
AreCounts [] rows = rows ≡ []
AreCounts (n ∷ ns) rows = (0 < n) × (n ≤ length rows) × AreCounts ns (drop n rows)
