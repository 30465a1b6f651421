use Rattle.std.proofs.Common.{◌∙◌, subst}
use Rattle.spef_nodes.specs.Nodes.{note_at}
use Rattle.vg_segment.specs.NodeLists.{IsNotedAs}
use Rattle.vg_segment.proofs.NodeLemmas.{pushed}
use Rattle.vg_segment.proofs.nodes.NodeList.push.Goals as goal

pub returns-clause-last : goal.returns-clause-last
returns-clause-last c =
    let list = c.args.self.now in
    let notes = c.set_note.new.notes in
    pushed list.owners list.leaves c.push.new.self c.push-2.new.self list.notes notes c.args.owner.now c.args.leaf.now c.args.note.now c.args.inner c.requires.ready.even
    c.in_ok-push.ensures.last c.in_ok-push-2.ensures.last
    (subst (λ at. IsNotedAs (note_at notes at) c.args.inner c.args.note.now) c.len-at.ensures c.in_ok-set_note.ensures.here)
    (λ i other. c.in_ok-set_note.ensures.others i (λ e. other (e ∙ c.len-at.ensures)))
