use Rattle.std.proofs.Common.{arith}
use Rattle.ver_module.proofs.RangeLemmas.{bits_count}
use Rattle.ver_module.proofs.range.Range.count.Goals as goal

pub returns : goal.returns
returns c = let e = bits_count c.args.self in omega (arith, e, c.abs_diff.ensures)
