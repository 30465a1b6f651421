use Rattle.std.proofs.Common.{rules, ◌≡◌, ℕ, subst, Result}
use Rattle.vg_num.specs.declared.fault.NumFault.{NumFault}
use Rattle.spef_nodes.specs.Names.{node_in}
use Rattle.spef_net.specs.Statements.{ground, value_in}
use Rattle.spef_net.specs.Builders.{Takes}
use Rattle.spef_net.proofs.WordLemmas.{ground_bad}
use Rattle.spef_net.proofs.TakeLemmas.{ground_seen, ground_seen_foreign}
use Rattle.spef_net.proofs.take.take_ground.Goals as goal

pub returns-in-Err-Bad-clause-taken : goal.returns-in-Err-Bad-clause-taken
returns-in-Err-Bad-clause-taken c = ground_bad c.args.builder.now.net c.args.builder.now c.args.builder.now _ _ (rw c.in-Err-Bad.field-0-is at c.in-Err-Bad.ensures.seen)

pub returns-in-Ok-None-clause-taken : goal.returns-in-Ok-None-clause-taken
returns-in-Ok-None-clause-taken c = ground_seen_foreign c.args.builder.now.net c.args.builder.now c.see.new.self (node_in (c.args.builder.now.file) c.args.node.now) _ (rw c.in-Ok-None.field-0-is at c.in-Ok-None.ensures.seen)

pub returns-in-Ok-Some-clause-taken : goal.returns-in-Ok-Some-clause-taken
returns-in-Ok-Some-clause-taken c =
    let e : c.read_value.result ≡ value_in c.args.builder.now.file.c_places c.args.value.now = search rules in
    subst (λ (v : Result ℕ NumFault). Takes c.add_cap.result c.args.builder.now.net c.args.builder.now (ground (node_in (c.args.builder.now.file) c.args.node.now) v) c.add_cap.new.self) e
    (ground_seen c.add_cap.result c.args.builder.now.net c.args.builder.now c.see.new.self c.add_cap.new.self (node_in (c.args.builder.now.file) c.args.node.now) c.read_value.result c.in-Ok-Some.id (rw c.in-Ok-Some.field-0-is at c.in-Ok-Some.ensures.seen) c.add_cap.ensures)
