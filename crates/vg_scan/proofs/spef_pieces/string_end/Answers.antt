use Rattle.vg_scan.proofs.SearchLemmas.{string_ends, string_open}
use Rattle.vg_scan.proofs.spef_pieces.string_end.Goals as goal

pub returns-in-None : goal.returns-in-None
returns-in-None c = string_open c.args.text.now c.text_from.result.now c.args.at c.text_from.ensures c.requires c.in-None.ensures

pub returns-in-Some : goal.returns-in-Some
returns-in-Some c = string_ends c.args.text.now c.text_from.result.now c.args.at c.in-Some.offset c.text_from.ensures c.requires c.in-Some.ensures
