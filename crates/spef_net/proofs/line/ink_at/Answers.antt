use Rattle.std.proofs.Common.{sym, ◌∙◌, arith}
use Rattle.vg_scan.specs.Lines.{is_ink}
use Rattle.spef_net.proofs.PlaceLemmas.{first_at, first_none}
use Rattle.spef_net.proofs.line.ink_at.Goals as goal

pub returns-in-None-clause-place : goal.returns-in-None-clause-place
returns-in-None-clause-place c = sym (first_none is_ink c.args.text.now (sym c.first_ink.ensures ∙ c.in-None.is))

pub returns-in-Some-clause-place : goal.returns-in-Some-clause-place
returns-in-Some-clause-place c = sym (first_at is_ink c.args.text.now c.in-Some.at (sym c.first_ink.ensures ∙ c.in-Some.is)).0

pub returns-in-Some-clause-within : goal.returns-in-Some-clause-within
returns-in-Some-clause-within c = omega (arith, (first_at is_ink c.args.text.now c.in-Some.at (sym c.first_ink.ensures ∙ c.in-Some.is)).1)
