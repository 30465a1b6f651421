use Rattle.std.proofs.Common.{sym, ◌∙◌}
use Rattle.spef_nodes.specs.Spellings.{named_by}
use Rattle.spef_net.proofs.TakeLemmas.{conn_again, takes_conn}
use Rattle.spef_net.proofs.builder.NetBuilder.join.Goals as goal

pub returns-then-is_noted-clause-taken : goal.returns-then-is_noted-clause-taken
returns-then-is_noted-clause-taken c = conn_again c.args.self.now.net c.args.self.now c.intern.new.self c.intern.new.self c.args.kind c.args.direction (named_by c.args.node.now) c.args.note.now c.in-Ok.id c.in-Ok.ensures.nodes c.in-Ok.ensures.number (sym c.is_noted.ensures ∙ c.if-is_noted.true)

pub returns-in-Ok-add_conn-clause-taken : goal.returns-in-Ok-add_conn-clause-taken
returns-in-Ok-add_conn-clause-taken c = takes_conn c.args.self.now.net c.args.self.now c.intern.new.self c.add_conn.new.self c.args.kind c.args.direction (named_by c.args.node.now) c.args.note.now c.in-Ok.id tt c.in-Ok.ensures.nodes c.in-Ok.ensures.number (sym c.is_noted.ensures ∙ c.if-is_noted.false) c.in-Ok-add_conn.ensures
