-- Identifiers that were looked up: for the functions between.
use Rattle.std.specs.Prelude.{◌≡◌, ℕ, List}
use Rattle.name_tables.specs.Distinct.{number_of}
use Rattle.ver_items.specs.Declarations.{declared_of, direction_in, range_in}
use Rattle.ver_file.specs.declared.scope.Found.{Found}
use Rattle.ver_file.specs.Said.{identifiers_of}

-- this is an identifier's number, its range and its direction
pub record IsLookedUp (text : List ℕ) (found : Found) : Type 0 where
  pub number : found.id ≡ number_of (identifiers_of text) found.name.now
  pub bounds : found.range ≡ range_in (declared_of text) found.name.now
  pub direction : found.direction ≡ direction_in (declared_of text) found.name.now
