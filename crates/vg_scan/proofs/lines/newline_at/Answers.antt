use Rattle.vg_scan.specs.Lines.{is_newline}
use Rattle.vg_scan.proofs.FirstLemmas.{first_is}
use Rattle.vg_scan.proofs.lines.newline_at.Goals as goal

pub returns : goal.returns
returns c = first_is is_newline c.args.bytes.now c.memchr.result c.memchr.ensures
