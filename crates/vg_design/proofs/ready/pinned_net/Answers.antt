use Rattle.std.proofs.Common.{arith, option_map}
use Rattle.vg_design.proofs.ReadyLemmas.{none_there, not_connected}
use Rattle.vg_design.specs.Steps.{FindsPins}
use Rattle.vg_design.proofs.ready.pinned_net.Goals as goal

pub returns-in_default-clause-refused : goal.returns-in_default-clause-refused
returns-in_default-clause-refused c =
    (record { holds = not_connected c.args.design.now c.args.net (none_there (λ o. FindsPins c.args.design.now c.args.net (option_map (λ pins. pins.items) o)) c.in_ok-pins.field-0 c.in_default.not-Some c.in_ok-pins.ensures); first = c.requires.accepted }, omega arith)
