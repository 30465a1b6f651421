use Rattle.std.proofs.Common.{sym, ◌∙◌}
use Rattle.vg_scan.specs.Lines.{is_ink}
use Rattle.vg_scan.proofs.LineLemmas.{first_none}
use Rattle.lib_text.proofs.arguments.ink_at.Goals as goal

pub returns-in-None-clause-place : goal.returns-in-None-clause-place
returns-in-None-clause-place c = sym (first_none is_ink c.args.text.now (sym c.first_ink.ensures ∙ c.in-None.is))
