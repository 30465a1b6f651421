use Rattle.std.proofs.Common.{◌≡◌, false, ◌∙◌, sym, ap, ap₂, arith, not, is_some, length, length-append, ◌++◌, ◌∷◌, [], List}
use Rattle.std.specs.List.{zip, list_any}
use Rattle.std.specs.Str.{bytes_eq}
use Rattle.name_tables.specs.Distinct.{number_of}
use Rattle.spef_file.specs.Tables.{NetRow, is_section}
use Rattle.spef_file.proofs.TableLemmas.{position_any}
use Rattle.spef_file.proofs.ZipLemmas.{keys_of, length_of, zip_more, key_more}
use Rattle.spef_file.proofs.sections.Sections.add.Goals as goal

pub returns-then-is_some-clause-fresh : goal.returns-then-is_some-clause-fresh
returns-then-is_some-clause-fresh c =
    ap not (sym c.if-is_some.true ∙ c.is_some.ensures ∙ ap is_some c.find.ensures ∙ position_any (bytes_eq c.args.name.now) c.self.inside.names
    ∙ ap (list_any (bytes_eq c.args.name.now)) (sym (keys_of c.self.inside.names c.self.inside.rows.items c.self.invariant.0)) ∙ ap (λ nets. is_section nets c.args.name.now) c.self.view_is)

pub intern-requires : goal.intern-requires
intern-requires c = omega (arith, c.requires, c.self.invariant, length_of c.self.inside.names c.self.inside.rows.items c.self.invariant.0, ap length c.self.view_is)

pub invariant_of-self-in-Ok-intern : goal.invariant_of-self-in-Ok-intern
invariant_of-self-in-Ok-intern c =
    let keys = c.self.inside.names in
    let new : is_some (number_of keys c.args.name.now) ≡ false = sym (ap is_some c.find.ensures) ∙ sym c.is_some.ensures ∙ c.if-is_some.false in
    let more = ap length (c.in-Ok-intern.ensures.names ∙ key_more keys c.args.name.now new) in
    let last = ap length c.in-Ok.ensures.items in
    let all = length_of c.self.inside.names c.self.inside.rows.items c.self.invariant.0 in (
      omega (arith, more, last, c.self.invariant, length-append keys (c.args.name.now ∷ []), length-append c.self.inside.rows.items (c.args.section ∷ [])),
      omega (arith, more, c.requires, c.self.invariant, all, ap length c.self.view_is, length-append keys (c.args.name.now ∷ [])),
    )

pub returns-clause-fresh : goal.returns-clause-fresh
returns-clause-fresh c =
    ap not (sym c.if-is_some.false ∙ c.is_some.ensures ∙ ap is_some c.find.ensures ∙ position_any (bytes_eq c.args.name.now) c.self.inside.names
    ∙ ap (list_any (bytes_eq c.args.name.now)) (sym (keys_of c.self.inside.names c.self.inside.rows.items c.self.invariant.0)) ∙ ap (λ nets. is_section nets c.args.name.now) c.self.view_is)

pub returns-clause-last : goal.returns-clause-last
returns-clause-last c = λ _.
    let keys = c.self.inside.names in
    let rows = c.self.inside.rows.items in
    let new : is_some (number_of keys c.args.name.now) ≡ false = sym (ap is_some c.find.ensures) ∙ sym c.is_some.ensures ∙ c.if-is_some.false in
    ap₂ zip (c.in-Ok-intern.ensures.names ∙ key_more keys c.args.name.now new) c.in-Ok.ensures.items
    ∙ zip_more keys rows c.args.name.now c.args.section c.self.invariant.0
    ∙ ap (λ (nets : List NetRow). nets ++ (c.args.name.now, c.args.section) ∷ []) c.self.view_is
