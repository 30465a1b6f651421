use Rattle.std.proofs.Common.{ap, sym, subst, ◌∙◌, ◌≡◌, slice_get}
use Rattle.spef_net.specs.declared.net.ParNet.{ParNet}
use Rattle.vg_design.specs.Designs.{Joined}
use Rattle.vg_design.specs.Steps.{AreSame}
use Rattle.vg_design.proofs.ConnectedLemmas.{connected_is}
use Rattle.vg_design.proofs.connected.is_connected.Goals as goal

pub returns : goal.returns
returns c =
    let port = c.net-module_net.result in
    let pins = c.args.pins.now in
    let is =
    connected_is c.args.design.now c.args.net.now pins c.requires.pins port
    (ap (λ (n : Joined). slice_get c.args.design.now.netlist.nets n.id) (sym c.net.view_is) ∙ c.net-module_net.ensures) in
    let par : c.net.inside.par ≡ c.args.net.now.par = ap (λ (n : Joined). n.par) c.net.view_is in (
      λ e. is.0 (subst (λ (p : ParNet). AreSame port p pins) par (c.are_same.ensures.0 e)),
      λ e. c.are_same.ensures.1 (subst (λ (p : ParNet). AreSame port p pins) (sym par) (is.1 e)),
    )
