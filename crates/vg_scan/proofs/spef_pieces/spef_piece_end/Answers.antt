use Rattle.std.proofs.Common.{arith}
use Rattle.vg_scan.proofs.SearchLemmas.{line_ends}
use Rattle.vg_scan.proofs.spef_pieces.spef_piece_end.Goals as goal

pub returns-then-text-at-eq47-2 : goal.returns-then-text-at-eq47-2
returns-then-text-at-eq47-2 c =
    line_ends c.args.text.now c.args.at c.byte_at.result (omega arith) c.if-text-at-eq47.true c.if-text-at-eq47-2.true
    c.byte_at.ensures.within c.byte_at.ensures.place
