use Rattle.std.proofs.Common.{◌<◌, [], Some, length, ap, ◌∙◌, sym, arith}
use Rattle.std.proofs.lemmas.Bool.{ltb-true}
use Rattle.std.proofs.lemmas.Option.{get_or_from_slice_get, slice_get-get_or, slice_get_within}
use Rattle.std.proofs.lemmas.Slice.Eq.{bytes_eq-Decides}
use Rattle.ver_module.proofs.name.is_number.Goals as goal

pub returns-then-id-len : goal.returns-then-id-len
returns-then-id-len c =
    let low : c.args.id < length c.args.names.now = omega (arith, c.len.ensures, c.if-id-len.true) in
    let (same, equal) = bytes_eq-Decides c.name.result.now c.args.name.now in (
      λ yes. slice_get-get_or c.args.names.now c.args.id [] low ∙ ap Some (sym c.name.ensures ∙ same (sym c.is_same.ensures ∙ yes)),
      λ found. c.is_same.ensures ∙ equal (c.name.ensures ∙ get_or_from_slice_get c.args.names.now c.args.id c.args.name.now [] found),
    )

pub returns-else-id-len : goal.returns-else-id-len
returns-else-id-len c = (
  λ yes. let low = ltb-true c.args.id c.len.result yes in absurd (omega (arith, low, c.if-id-len.false)),
  λ found. let low = slice_get_within c.args.names.now c.args.id c.args.name.now found in absurd (omega (arith, low, c.len.ensures, c.if-id-len.false)),
)
