use Rattle.std.proofs.Common.{◌≡◌, None, Some, sym, ap, ◌∙◌}
use Rattle.name_tables.specs.Distinct.{number_of}
use Rattle.ver_file.specs.Said.{identifiers_of}
use Rattle.ver_file.proofs.NumberLemmas.{looked_up, not_looked_up}
use Rattle.ver_file.proofs.scope.Scope.look_up.Goals as goal

pub returns-in-Some-clause-found : goal.returns-in-Some-clause-found
returns-in-Some-clause-found c =
    let text = c.args.self.now.text.now in
    let name = c.name_at-name.result.now in
    let number : Some c.in-Some.id ≡ number_of (identifiers_of text) name =
    sym c.in-Some.is ∙ c.id.ensures ∙ ap (number_of (identifiers_of text)) (sym c.name_at-name.ensures) in
    let found =
    looked_up text c.args.self.now.nets.now name c.in-Some.id c.identifier-identifier.result c.requires.table number c.identifier-identifier.ensures in
    record { number = number; bounds = found.0; direction = found.1 }

pub returns-in-None-clause-found : goal.returns-in-None-clause-found
returns-in-None-clause-found c =
    let text = c.args.self.now.text.now in
    let name = c.name_at-name.result.now in
    let number : None ≡ number_of (identifiers_of text) name =
    sym c.in-None.is ∙ c.id.ensures ∙ ap (number_of (identifiers_of text)) (sym c.name_at-name.ensures) in
    let found = not_looked_up text c.args.self.now.nets.now name c.requires.table number in
    record { number = number; bounds = found.0; direction = found.1 }
