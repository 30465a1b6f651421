use Rattle.std.proofs.Common.{◌∙◌, sym, ap, length, arith}
use Rattle.std.specs.List.{position}
use Rattle.std.specs.Str.{bytes_eq}
use Rattle.spef_file.specs.Tables.{names_of}
use Rattle.spef_file.proofs.TableLemmas.{some_of}
use Rattle.spef_file.proofs.ZipLemmas.{keys_of, length_of}
use Rattle.spef_file.proofs.sections.Sections.find.Goals as goal

pub returns-in-None-clause-place : goal.returns-in-None-clause-place
returns-in-None-clause-place c =
    sym c.in-None.is ∙ c.find.ensures ∙ ap (position (bytes_eq c.args.name.now)) (sym (keys_of c.self.inside.names c.self.inside.rows.items c.self.invariant.0)) ∙ ap (λ nets. position (bytes_eq c.args.name.now) (names_of nets)) c.self.view_is

pub returns-in-Some-clause-place : goal.returns-in-Some-clause-place
returns-in-Some-clause-place c =
    sym c.in-Some.is ∙ c.find.ensures ∙ ap (position (bytes_eq c.args.name.now)) (sym (keys_of c.self.inside.names c.self.inside.rows.items c.self.invariant.0)) ∙ ap (λ nets. position (bytes_eq c.args.name.now) (names_of nets)) c.self.view_is

pub returns-in-Some-clause-within : goal.returns-in-Some-clause-within
returns-in-Some-clause-within c =
    let s = some_of _ _ c.in-Some.id (sym c.find.ensures ∙ c.in-Some.is) in
    omega (arith, s.0, s.1, c.self.invariant.0, length_of c.self.inside.names c.self.inside.rows.items c.self.invariant.0, ap length c.self.view_is)
