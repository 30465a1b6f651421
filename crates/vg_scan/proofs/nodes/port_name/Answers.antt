use Rattle.std.proofs.Common.{sym, ◌∙◌, ap, option_map}
use Rattle.vg_scan.proofs.NodeLemmas.{port_of-None, port_of-Some}
use Rattle.vg_scan.proofs.nodes.port_name.Goals as goal

pub returns-in-None-clause-name : goal.returns-in-None-clause-name
returns-in-None-clause-name c =
    rw (port_of-None c.args.chars.now c.args.text.now (sym c.split_node.ensures.place ∙ ap (option_map (λ parts. parts.0.to)) c.in-None.is)) c.spef_name.ensures.name

pub returns-in-None-clause-bad : goal.returns-in-None-clause-bad
returns-in-None-clause-bad c = λ e.
    port_of-None c.args.chars.now c.args.text.now (sym c.split_node.ensures.place ∙ ap (option_map (λ parts. parts.0.to)) c.in-None.is) ∙ (c.spef_name.ensures.bad e).0

pub returns-in-Some-clause-bad : goal.returns-in-Some-clause-bad
returns-in-Some-clause-bad c = λ _.
    port_of-Some c.args.chars.now c.args.text.now c.in-Some.field-0.0.to (sym c.split_node.ensures.place ∙ ap (option_map (λ parts. parts.0.to)) c.in-Some.is)
