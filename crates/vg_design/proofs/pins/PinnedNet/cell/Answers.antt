use Rattle.std.proofs.Common.{ap, sym, ◌∙◌, Some}
use Rattle.ver_module.specs.Netlists.{Instance}
use Rattle.vg_design.specs.Steps.{pin_at}
use Rattle.vg_design.proofs.ReadyLemmas.{is_pin, cell_none, cell_some}
use Rattle.vg_design.proofs.pins.PinnedNet.cell.Goals as goal

pub instance_of-requires : goal.instance_of-requires
instance_of-requires c =
    is_pin c.args.design.now c.args.self.now.net c.args.self.now.pins c.args.at c.requires.pins c.requires.at c.in-Some.pin (ap (λ pins. pin_at pins c.args.at) (sym c.as_slice.ensures) ∙ c.in-Some.is)

pub returns-in-None : goal.returns-in-None
returns-in-None c =
    cell_none c.args.design.now c.args.self.now.net c.args.self.now.pins c.args.at c.requires.pins c.requires.at (ap (λ pins. pin_at pins c.args.at) (sym c.as_slice.ensures) ∙ c.in-None.is)

pub returns-in-Some : goal.returns-in-Some
returns-in-Some c =
    cell_some c.args.design.now c.args.self.now.net c.args.self.now.pins c.args.at c.requires.pins c.requires.at c.in-Some.pin (ap (λ pins. pin_at pins c.args.at) (sym c.as_slice.ensures) ∙ c.in-Some.is)
    c.instance_of.result c.instance_of.ensures
    ∙ ap (λ (i : Instance). Some i.cell) (sym c.instance_of-in-Some.view_is)
