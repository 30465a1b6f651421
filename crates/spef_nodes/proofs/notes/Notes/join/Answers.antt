use Rattle.spef_nodes.proofs.NoteLemmas.{notes_same}
use Rattle.spef_nodes.proofs.notes.Notes.join.Goals as goal

pub returns-in_default-put-clause-unchanged : goal.returns-in_default-put-clause-unchanged
returns-in_default-put-clause-unchanged c = notes_same c.self.inside.texts c.add_text.new.texts c.args.note.now c.self.inside.marks.items c.put.new.marks.items c.in-Ok.ensures.last c.in_default-put.ensures.same c.self.invariant c.args.self.now c.self.view_is
