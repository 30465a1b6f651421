use Rattle.std.proofs.Common.{◌<◌, length, sym, ◌∙◌, arith}
use Rattle.std.proofs.lemmas.Option.{slice_get-get_or}
use Rattle.name_tables.proofs.NameTableLemmas.{known_of}
use Rattle.ver_module.specs.Names.{is_bit}
use Rattle.ver_module.proofs.FindLemmas.{below, firsts_count, no_base, no_bit_named, no_vector, one_bit_there, outside}
use Rattle.ver_module.proofs.nets.find_bit.Goals as goal

pub returns-in_err-base : goal.returns-in_err-base
returns-in_err-base c =
    rw c.from_residual.ensures
    (no_bit_named c.args.names.now c.args.identifiers.now c.args.firsts.now c.requires.0 c.requires.1 c.args.name.now c.in_err-base.ensures.is)

pub returns-in_err-id : goal.returns-in_err-id
returns-in_err-id c =
    rw c.from_residual-in_err-id.ensures
    (no_base c.args.names.now c.args.identifiers.now c.args.firsts.now c.requires.0 c.requires.1 c.args.name.now c.in_ok-base.base.now c.in_ok-base.bit
    c.in_ok-base.ensures.is c.in_ok-base.ensures.few (sym c.in_err-id.was ∙ c.find.ensures))

pub returns-in_err-range : goal.returns-in_err-range
returns-in_err-range c =
    let known = known_of c.args.names.now c.in_ok-base.base.now c.in_ok-id.field-0 (sym c.in_ok-id.was ∙ c.find.ensures) in
    let low : c.in_ok-id.field-0 < length c.args.identifiers.now = omega (arith, known.0, c.requires.1.named) in
    rw c.from_residual-in_err-range.ensures
    (no_vector c.args.names.now c.args.identifiers.now c.args.firsts.now c.requires.0 c.requires.1 c.args.name.now c.in_ok-base.base.now c.in_ok-base.bit
    c.in_ok-base.ensures.is c.in_ok-base.ensures.few c.in_ok-id.field-0 _
    (sym c.in_ok-id.was ∙ c.find.ensures) (slice_get-get_or c.args.identifiers.now c.in_ok-id.field-0 _ low) c.in_err-range.was)

pub returns-in_err-place : goal.returns-in_err-place
returns-in_err-place c =
    let known = known_of c.args.names.now c.in_ok-base.base.now c.in_ok-id.field-0 (sym c.in_ok-id.was ∙ c.find.ensures) in
    let low : c.in_ok-id.field-0 < length c.args.identifiers.now = omega (arith, known.0, c.requires.1.named) in
    rw c.from_residual-in_err-place.ensures
    (outside c.args.names.now c.args.identifiers.now c.args.firsts.now c.requires.0 c.requires.1 c.args.name.now c.in_ok-base.base.now c.in_ok-base.bit
    c.in_ok-base.ensures.is c.in_ok-base.ensures.few c.in_ok-id.field-0 _
    (sym c.in_ok-id.was ∙ c.find.ensures) (slice_get-get_or c.args.identifiers.now c.in_ok-id.field-0 _ low) c.in_ok-range.range c.in_ok-range.was c.in_err-place.ensures.none)

pub bounds-firsts-id : goal.bounds-firsts-id
bounds-firsts-id c =
    omega (
      arith,
      firsts_count c.args.names.now c.args.identifiers.now c.args.firsts.now c.requires.0 c.requires.1,
      (known_of c.args.names.now c.in_ok-base.base.now c.in_ok-id.field-0 (sym c.in_ok-id.was ∙ c.find.ensures)).0,
    )

pub overflow_add-result : goal.overflow_add-result
overflow_add-result c =
    let known = known_of c.args.names.now c.in_ok-base.base.now c.in_ok-id.field-0 (sym c.in_ok-id.was ∙ c.find.ensures) in
    let low : c.in_ok-id.field-0 < length c.args.identifiers.now = omega (arith, known.0, c.requires.1.named) in
    let there =
    one_bit_there c.args.names.now c.args.identifiers.now c.args.firsts.now c.requires.0 c.requires.1 c.args.name.now c.in_ok-base.base.now c.in_ok-base.bit
    c.in_ok-base.ensures.is c.in_ok-base.ensures.few c.in_ok-id.field-0 _
    (sym c.in_ok-id.was ∙ c.find.ensures) (slice_get-get_or c.args.identifiers.now c.in_ok-id.field-0 _ low) c.in_ok-range.range c.in_ok-range.was
    c.in_ok-place.place c.in_ok-place.ensures.within c.in_ok-place.ensures.bit
    in
    let low_sum = below c.args.names.now c.args.identifiers.now c.args.firsts.now c.requires.0 c.requires.1 is_bit c.args.name.now _ there.0 in
    omega (arith, low_sum)

pub returns : goal.returns
returns c =
    let known = known_of c.args.names.now c.in_ok-base.base.now c.in_ok-id.field-0 (sym c.in_ok-id.was ∙ c.find.ensures) in
    let low : c.in_ok-id.field-0 < length c.args.identifiers.now = omega (arith, known.0, c.requires.1.named) in
    one_bit_there c.args.names.now c.args.identifiers.now c.args.firsts.now c.requires.0 c.requires.1 c.args.name.now c.in_ok-base.base.now c.in_ok-base.bit
    c.in_ok-base.ensures.is c.in_ok-base.ensures.few c.in_ok-id.field-0 _
    (sym c.in_ok-id.was ∙ c.find.ensures) (slice_get-get_or c.args.identifiers.now c.in_ok-id.field-0 _ low) c.in_ok-range.range c.in_ok-range.was
    c.in_ok-place.place c.in_ok-place.ensures.within c.in_ok-place.ensures.bit
