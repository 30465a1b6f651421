-- One group after another, as the code finds them: for the functions between.
use Rattle.std.specs.Prelude.{◌≡◌, ℕ, List, ◌∷◌}
use Rattle.lib_text.specs.declared.statement.Statement.{Statement}
use Rattle.lib_text.specs.Groups.{Group, groups_from}

-- the first of the groups with a name among these statements, and the statements after its own
abbrev pub IsFirstGroup : Group → List ℕ → List Statement → Group × List Statement → Type 0
IsFirstGroup owner name rest found = groups_from owner name rest ≡ found.0 ∷ groups_from owner name found.1
