use Rattle.std.proofs.Common.{ap, sym, ◌∙◌}
use Rattle.std.specs.Prelude.{option_and_then}
use Rattle.vg_design.specs.Designs.{instance_at}
use Rattle.vg_design.specs.Steps.{pin_at}
use Rattle.vg_design.proofs.ReadyLemmas.{is_pin, pin_is}
use Rattle.vg_retime.specs.Passages.{passage_of}
use Rattle.vg_retime.proofs.passages.passage_at.Goals as goal

pub passage_of-requires : goal.passage_of-requires
passage_of-requires c =
    is_pin c.args.design.now c.args.net.now.net c.args.net.now.pins c.args.at c.requires.pins c.requires.at c.in-Some.pin
    (ap (λ pins. pin_at pins c.args.at) (sym c.as_slice.ensures) ∙ c.in-Some.is)

pub returns-in-None : goal.returns-in-None
returns-in-None c =
    ap (option_and_then (λ pin. passage_of c.args.design.now c.args.prefix.now (instance_at c.args.design.now.netlist pin)))
    (sym (ap (λ pins. pin_at pins c.args.at) (sym c.as_slice.ensures) ∙ c.in-None.is)
    ∙ pin_is c.args.design.now c.args.net.now.net c.args.net.now.pins c.args.at c.requires.pins c.requires.at)

pub returns-in-Some : goal.returns-in-Some
returns-in-Some c =
    c.passage_of.ensures
    ∙ ap (option_and_then (λ pin. passage_of c.args.design.now c.args.prefix.now (instance_at c.args.design.now.netlist pin)))
    (sym (ap (λ pins. pin_at pins c.args.at) (sym c.as_slice.ensures) ∙ c.in-Some.is)
    ∙ pin_is c.args.design.now c.args.net.now.net c.args.net.now.pins c.args.at c.requires.pins c.requires.at)
