use Rattle.std.proofs.Common.{◌≡◌, sym, ◌∙◌, ap, option_map}
use Rattle.vg_scan.proofs.NodeLemmas.{inner_of-None, inner_of-parts, part-owner, part-leaf, named}
use Rattle.vg_scan.specs.Nodes.{inner_of}
use Rattle.vg_scan.proofs.nodes.inner_name.Goals as goal

pub returns-in-None-clause-bad : goal.returns-in-None-clause-bad
returns-in-None-clause-bad c = λ _.
    inner_of-None c.args.chars.now c.args.text.now (sym c.split_node.ensures.place ∙ ap (option_map (λ parts. parts.0.to)) c.in-None.is)

pub returns-in-Some-clause-name : goal.returns-in-Some-clause-name
returns-in-Some-clause-name c =
    let text = c.args.text.now in
    let same : inner_of c.args.chars.now text ≡ named c.args.chars.now c.text_at.result.now c.text_at-in-Some.result.now =
    inner_of-parts c.args.chars.now text c.text_at.result.now c.text_at-in-Some.result.now c.in-Some.owner.to
    (sym c.split_node.ensures.place ∙ ap (option_map (λ parts. parts.0.to)) c.in-Some.is)
    (c.text_at.ensures ∙ part-owner text c.in-Some.owner.from c.in-Some.owner.to c.in-Some.ensures.parts.0)
    (c.text_at-in-Some.ensures ∙ part-leaf text c.in-Some.owner.to c.in-Some.leaf.from c.in-Some.leaf.to c.in-Some.ensures.parts.1 c.in-Some.ensures.parts.2) in
    rw same c.parted_name.ensures.name

pub returns-in-Some-clause-bad : goal.returns-in-Some-clause-bad
returns-in-Some-clause-bad c = λ e.
    let text = c.args.text.now in
    let same : inner_of c.args.chars.now text ≡ named c.args.chars.now c.text_at.result.now c.text_at-in-Some.result.now =
    inner_of-parts c.args.chars.now text c.text_at.result.now c.text_at-in-Some.result.now c.in-Some.owner.to
    (sym c.split_node.ensures.place ∙ ap (option_map (λ parts. parts.0.to)) c.in-Some.is)
    (c.text_at.ensures ∙ part-owner text c.in-Some.owner.from c.in-Some.owner.to c.in-Some.ensures.parts.0)
    (c.text_at-in-Some.ensures ∙ part-leaf text c.in-Some.owner.to c.in-Some.leaf.from c.in-Some.leaf.to c.in-Some.ensures.parts.1 c.in-Some.ensures.parts.2) in
    same ∙ c.parted_name.ensures.bad e
