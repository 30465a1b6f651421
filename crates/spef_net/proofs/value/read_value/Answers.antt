use Rattle.std.specs.Int.{w32}
use Rattle.std.proofs.lemmas.Int.{to_z-of_z}
use Rattle.std.proofs.Common.{◌≡◌, ◌^◌, sym, ◌∙◌, ap, Ok}
use Rattle.spef_net.specs.Statements.{is_colon, value_in, value_of_parts}
use Rattle.vg_num.specs.Number.{scaled}
use Rattle.spef_net.proofs.PlaceLemmas.{one_part}
use Rattle.spef_net.proofs.ValueLemmas.{number_without_colon}
use Rattle.spef_net.proofs.value.read_value.Goals as goal

pub returns-in-Ok : goal.returns-in-Ok
unfolding value_in
returns-in-Ok c =
    let read : scaled c.args.places (10 ^ 15) c.args.text.now ≡ Ok c.in-Ok.value = sym (rw (to_z-of_z w32 c.args.places c.ranges.places) at c.read_scaled.ensures.exact) ∙ c.in-Ok.is in
    sym read ∙ sym (ap (value_of_parts c.args.places) (one_part is_colon c.args.text.now (number_without_colon c.args.places (10 ^ 15) c.args.text.now c.in-Ok.value read)))

pub returns-in-None : goal.returns-in-None
unfolding value_in
returns-in-None c =
    sym c.in-Err.is ∙ rw (to_z-of_z w32 c.args.places c.ranges.places) at c.read_scaled.ensures.exact
    ∙ sym (ap (value_of_parts c.args.places) (one_part is_colon c.args.text.now (sym c.colon_at.ensures.place ∙ c.in-None.is)))

pub returns-in-None-three_parts : goal.returns-in-None-three_parts
unfolding value_in
returns-in-None-three_parts c = sym (c.in-None-three_parts.ensures c.args.places)

pub returns-in-Some-three_parts : goal.returns-in-Some-three_parts
unfolding value_in
returns-in-Some-three_parts c =
    rw (to_z-of_z w32 c.args.places c.ranges.places) at c.read_middle.ensures
    ∙ sym (ap (value_of_parts c.args.places) c.in-Some-three_parts.ensures)
