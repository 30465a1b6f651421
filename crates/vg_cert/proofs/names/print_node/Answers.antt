use Rattle.std.proofs.Common.{rules, refl}
use Rattle.vg_cert.proofs.NameLemmas.{node_port, node_inner}
use Rattle.vg_cert.proofs.names.print_node.Goals as goal

pub returns-else-not-is_empty : goal.returns-else-not-is_empty
returns-else-not-is_empty c = node_port c.args.node.now c.args.to.now.items c.print_escaped.new.to.items (search rules) (search rules)

pub returns-in_ok-print_escaped-2 : goal.returns-in_ok-print_escaped-2
returns-in_ok-print_escaped-2 c = node_inner c.args.node.now c.args.to.now.items c.print_escaped.new.to.items _ c.print_escaped-then-not-is_empty.new.to.items (search rules) (search rules) refl (search rules)
