use Rattle.std.proofs.Common.{sym, ◌∙◌}
use Rattle.spef_file.proofs.CharLemmas.{bus_yes, bus_no}
use Rattle.spef_file.proofs.header_chars.with_bus.Goals as goal

pub returns-then-not-is_bus_pair : goal.returns-then-not-is_bus_pair
returns-then-not-is_bus_pair c = bus_no c.args.chars.now c.args.pair (sym c.is_bus_pair.ensures ∙ c.if-not-is_bus_pair.true)

pub returns : goal.returns
returns c = bus_yes c.args.chars.now c.args.pair _ _ _
