use Rattle.std.proofs.Common.{arith}
use Rattle.spef_file.proofs.OtherLemmas.{begins_other}
use Rattle.spef_file.proofs.net_end.begins_otherwise.Goals as goal

pub returns : goal.returns
returns c = λ _. begins_other c.args.bytes.now c.args.line.from c.args.line.to (omega (arith, c.if-line.false, c.requires.0)) c.requires.1 c.if-byte-eq42.false c.if-byte-eq32.false c.if-byte-eq9.false
