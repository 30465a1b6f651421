use Rattle.std.proofs.Common.{◌≡◌, Some, subst}
use Rattle.std.specs.Prelude.{IfSome}
use Rattle.name_tables.specs.Distinct.{number_of}
use Rattle.ver_items.specs.Sections.{name_at}
use Rattle.ver_file.specs.Said.{identifiers_of}
use Rattle.ver_file.proofs.scope.Scope.id.Goals as goal

pub returns-in-Some : goal.returns-in-Some
returns-in-Some c =
    let text = c.args.self.now.text.now in
    subst (λ found. IfSome found (λ id. Some id ≡ number_of (identifiers_of text) (name_at text c.args.row))) c.in-Some.is
    (c.find_use-next.ensures text c.requires.uses)
