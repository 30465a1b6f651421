use Rattle.std.proofs.Common.{arith}
use Rattle.vg_scan.specs.declared.comments.Comments.TheVariants.{Liberty}
use Rattle.vg_scan.proofs.NextLemmas.{last_length}
use Rattle.vg_scan.proofs.liberty_pieces.liberty_piece_end.Goals as goal

pub returns-then-at-text-clause-place : goal.returns-then-at-text-clause-place
returns-then-at-text-clause-place c = let k = last_length Liberty c.args.text.now c.args.at c.if-at-text.true in omega (arith, k)
