use Rattle.std.proofs.Common.{arith}
use Rattle.vg_cert.specs.Readings.{reading}
use Rattle.vg_cert.proofs.SectionLemmas.{role_0, role_1, role_2, role_3}
use Rattle.vg_cert.proofs.read.read_head.Goals as goal

pub read_heading-requires-clause-due : goal.read_heading-requires-clause-due
read_heading-requires-clause-due c = role_0 (reading c.args.source.now) _ c.requires.start

pub read_net-requires-clause-due : goal.read_net-requires-clause-due
read_net-requires-clause-due c = role_1 (reading c.args.source.now) _ (omega (arith, c.in_ok-read_heading.ensures, c.requires.start))

pub read_slack-requires-clause-due : goal.read_slack-requires-clause-due
read_slack-requires-clause-due c = role_2 (reading c.args.source.now) _ (omega (arith, c.in_ok-read_net.ensures, c.in_ok-read_heading.ensures, c.requires.start))

pub read_cell_count-requires-clause-due : goal.read_cell_count-requires-clause-due
read_cell_count-requires-clause-due c = role_3 (reading c.args.source.now) _ (omega (arith, c.in_ok-slack.ensures, c.in_ok-read_net.ensures, c.in_ok-read_heading.ensures, c.requires.start))
