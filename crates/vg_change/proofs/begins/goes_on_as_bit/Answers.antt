use Rattle.std.proofs.Common.{sym, ◌∙◌}
use Rattle.vg_change.proofs.BeginLemmas.{cut_is, goes_on_behind, goes_on_never}
use Rattle.vg_change.proofs.begins.goes_on_as_bit.Goals as goal

pub returns-in-Some : goal.returns-in-Some
returns-in-Some c =
    let base = c.args.base.now in
    let prefix = c.args.prefix.now in
    let cut = c.in-Some.ensures.cases in
    c.starts_with.ensures.value ∙ goes_on_behind base prefix c.in-Some.rest.now (cut_is prefix base c.in-Some.rest.now cut.0 cut.1)

pub returns-in-None : goal.returns-in-None
returns-in-None c = sym (goes_on_never c.args.base.now c.args.prefix.now c.in-None.ensures.cases)
