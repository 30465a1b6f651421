use Rattle.vg_scan.proofs.FirstLemmas.{first_is}
use Rattle.lib_text.specs.Joined.{is_mark}
use Rattle.lib_text.proofs.join.first_mark.Goals as goal

pub returns : goal.returns
returns c = first_is is_mark c.args.text.now c.memchr2.result c.memchr2.ensures
