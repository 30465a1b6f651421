use Rattle.std.proofs.Common.{◌<◌, length, sym, ◌∙◌, arith}
use Rattle.std.proofs.lemmas.Option.{slice_get-get_or}
use Rattle.name_tables.proofs.NameTableLemmas.{known_of}
use Rattle.ver_module.proofs.FindLemmas.{firsts_count, no_scalar, not_scalar, one_scalar}
use Rattle.ver_module.proofs.nets.find_scalar.Goals as goal

pub returns-in_err-id : goal.returns-in_err-id
returns-in_err-id c =
    rw c.from_residual.ensures
    (no_scalar c.args.names.now c.args.identifiers.now c.args.firsts.now c.requires.0 c.requires.1 c.args.name.now (sym c.in_err-id.was ∙ c.find.ensures))

pub bounds-firsts-id : goal.bounds-firsts-id
bounds-firsts-id c =
    omega (
      arith,
      firsts_count c.args.names.now c.args.identifiers.now c.args.firsts.now c.requires.0 c.requires.1,
      (known_of c.args.names.now c.args.name.now c.in_ok-id.field-0 (sym c.in_ok-id.was ∙ c.find.ensures)).0,
    )

pub returns-in-None : goal.returns-in-None
returns-in-None c =
    let known = known_of c.args.names.now c.args.name.now c.in_ok-id.field-0 (sym c.in_ok-id.was ∙ c.find.ensures) in
    let low : c.in_ok-id.field-0 < length c.args.identifiers.now = omega (arith, known.0, c.requires.1.named) in
    one_scalar c.args.names.now c.args.identifiers.now c.args.firsts.now c.requires.0 c.requires.1 c.args.name.now c.in_ok-id.field-0 _
    (sym c.in_ok-id.was ∙ c.find.ensures) (slice_get-get_or c.args.identifiers.now c.in_ok-id.field-0 _ low) c.in-None.is

pub returns-in-Some : goal.returns-in-Some
returns-in-Some c =
    let known = known_of c.args.names.now c.args.name.now c.in_ok-id.field-0 (sym c.in_ok-id.was ∙ c.find.ensures) in
    let low : c.in_ok-id.field-0 < length c.args.identifiers.now = omega (arith, known.0, c.requires.1.named) in
    not_scalar c.args.names.now c.args.identifiers.now c.args.firsts.now c.requires.0 c.requires.1 c.args.name.now c.in_ok-id.field-0 _
    (sym c.in_ok-id.was ∙ c.find.ensures) (slice_get-get_or c.args.identifiers.now c.in_ok-id.field-0 _ low) _ c.in-Some.is
