use Rattle.std.proofs.Common.{sym, ap, ◌∙◌, arith}
use Rattle.std.specs.Str.{bytes_eq}
use Rattle.lib_cells.proofs.FirstPlaceLemmas.{stops_here, stops_nowhere}
use Rattle.lib_cells.proofs.first_places.first_place.Goals as goal

pub returns-then-is_same : goal.returns-then-is_same
returns-then-is_same c =
    sym (stops_here c.args.names.now c.args.name.now c.name.at (omega arith) c.name.invariant
    (ap (bytes_eq c.args.name.now) (sym c.get.ensures) ∙ sym c.is_same.ensures ∙ c.if-is_same.true))

pub returns : goal.returns
returns c = sym (stops_nowhere c.args.names.now c.args.name.now c.name.at (omega arith) c.name.invariant)
