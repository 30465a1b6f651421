-- A text with the table of its nets: for the functions between.
use Rattle.std.specs.Prelude.{◌≡◌, ℕ, [], None, Option}
use Rattle.std.specs.List.{All}
use Rattle.ver_file.specs.declared.scope.Scope.{Scope}
use Rattle.ver_file.specs.Firsts.{first_of}
use Rattle.ver_file.specs.Flaws.{name_flaws}
use Rattle.ver_file.specs.Said.{identifiers_of}
use Rattle.ver_file.specs.Tables.{IsNetTable, IsUse}

-- a text with its nets, and where some identifiers stand
pub record HasIdentifiers (scope : Scope) : Type 0 where
  pub table : IsNetTable scope.text.now scope.nets.now
  pub uses : All (IsUse scope.text.now (identifiers_of scope.text.now)) scope.uses.now

-- the same, where no two nets have one name
pub record IsScope (scope : Scope) : Type 0 where
  pub table : HasIdentifiers scope
  pub distinct : name_flaws scope.text.now ≡ []

-- the same, with the first place at which two have
pub record HasClash (scope : Scope) (clash : Option ℕ) : Type 0 where
  pub table : HasIdentifiers scope
  pub first : clash ≡ first_of None (name_flaws scope.text.now)
  pub without : clash ≡ None → IsScope scope
