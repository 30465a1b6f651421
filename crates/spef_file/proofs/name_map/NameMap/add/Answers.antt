use Rattle.std.proofs.Common.{◌≡◌, false, ◌∙◌, sym, ap, ap₂, arith, not, is_some, length, length-append, ◌++◌, ◌∷◌, [], List, ℕ}
use Rattle.std.specs.List.{zip}
use Rattle.name_tables.specs.Distinct.{number_of}
use Rattle.spef_file.specs.Rows.{is_mapped}
use Rattle.spef_file.proofs.ZipLemmas.{mapped_any, length_of, zip_more, key_more}
use Rattle.spef_file.proofs.name_map.NameMap.add.Goals as goal

pub returns-then-is_some-clause-fresh : goal.returns-then-is_some-clause-fresh
returns-then-is_some-clause-fresh c =
    ap not (sym c.if-is_some.true ∙ c.is_some.ensures ∙ ap is_some c.find.ensures ∙ mapped_any c.self.inside.indices c.self.inside.names c.args.digits.now c.self.invariant ∙ ap (λ rows. is_mapped rows c.args.digits.now) c.self.view_is)

pub intern-requires : goal.intern-requires
intern-requires c = omega (arith, c.requires, c.self.invariant, length_of c.self.inside.indices c.self.inside.names c.self.invariant, ap length c.self.view_is)

pub invariant_of-self-in-Ok-intern : goal.invariant_of-self-in-Ok-intern
invariant_of-self-in-Ok-intern c =
    let keys = c.self.inside.indices in
    let new : is_some (number_of keys c.args.digits.now) ≡ false = sym (ap is_some c.find.ensures) ∙ sym c.is_some.ensures ∙ c.if-is_some.false in
    let more = ap length (c.in-Ok-intern.ensures.names ∙ key_more keys c.args.digits.now new) in
    let last = ap length c.in-Ok.ensures.last in
    omega (arith, more, last, c.self.invariant, length-append keys (c.args.digits.now ∷ []), length-append c.self.inside.names (c.args.name.now ∷ []))

pub returns-clause-fresh : goal.returns-clause-fresh
returns-clause-fresh c =
    ap not (sym c.if-is_some.false ∙ c.is_some.ensures ∙ ap is_some c.find.ensures ∙ mapped_any c.self.inside.indices c.self.inside.names c.args.digits.now c.self.invariant ∙ ap (λ rows. is_mapped rows c.args.digits.now) c.self.view_is)

pub returns-clause-last : goal.returns-clause-last
returns-clause-last c = λ _.
    let keys = c.self.inside.indices in
    let names = c.self.inside.names in
    let new : is_some (number_of keys c.args.digits.now) ≡ false = sym (ap is_some c.find.ensures) ∙ sym c.is_some.ensures ∙ c.if-is_some.false in
    ap₂ zip (c.in-Ok-intern.ensures.names ∙ key_more keys c.args.digits.now new) c.in-Ok.ensures.last
    ∙ zip_more keys names c.args.digits.now c.args.name.now c.self.invariant
    ∙ ap (λ (rows : List (List ℕ × List ℕ)). rows ++ (c.args.digits.now, c.args.name.now) ∷ []) c.self.view_is
