use Rattle.std.proofs.Common.{◌≡◌, true, refl, sym, ap, ◌∙◌}
use Rattle.lib_cells.specs.Cells.{direction_of, is_output}
use Rattle.lib_cells.proofs.pin.drive_of.Goals as goal

pub returns : goal.returns
returns c =
    let out : is_output (direction_of c.args.pin.now) ≡ true = sym (ap is_output c.requires.direction) ∙ sym c.is_output.ensures ∙ c.if-not-is_output.false in
    rw (c.both.ensures, c.greatest_in.ensures, c.greatest_in-2.ensures, c.times.ensures.places, c.resistances.ensures.places, out) refl
