use Rattle.std.proofs.Common.{◌≡◌, ◌≢◌, ℕ, [], List, ap, ◌∙◌, Option, Some, None}
use Rattle.std.specs.Prelude.{IfSome, IfNone}
use Rattle.std.specs.List.{slice_get}
use Rattle.std.proofs.lemmas.Option.{slice_get-get_or}
use Rattle.name_tables.specs.Distinct.{number_of}
use Rattle.name_tables.specs.NameTables.{AreDistinct}
use Rattle.name_tables.proofs.NameTableLemmas.{is_number, no_number, there_at}
use Rattle.name_tables.proofs.names.Names.find_by_hash.Goals as goal

found_number : (names : List (List ℕ)) (name : List ℕ) (row : Option ℕ) → AreDistinct names
    → IfSome row (λ r. slice_get names r ≡ Some name) → IfNone row ((r : ℕ) → slice_get names r ≢ Some name) → row ≡ number_of names name
found_number names name None distinct found absent = no_number names name (λ r low same. absent r (slice_get-get_or names r [] low ∙ ap Some same))
found_number names name (Some row) distinct found absent = let at = there_at names row name found in is_number names name row distinct at.0 at.1

pub returns : goal.returns
returns c = found_number c.self.inside.texts c.args.name.now c.find.result c.self.invariant.distinct c.find.ensures.found c.find.ensures.absent ∙ ap (λ (names : List (List ℕ)). number_of names c.args.name.now) c.self.view_is
