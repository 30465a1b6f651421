use Rattle.std.proofs.Common.{rules, ◌≡◌, ℕ, subst, Result}
use Rattle.vg_num.specs.declared.fault.NumFault.{NumFault}
use Rattle.spef_nodes.specs.Names.{node_in}
use Rattle.spef_net.specs.Statements.{both, resistor, value_in}
use Rattle.spef_net.specs.Builders.{Takes}
use Rattle.spef_net.proofs.WordLemmas.{resistor_bad}
use Rattle.spef_net.proofs.TakeLemmas.{resistor_seen, resistor_seen_first, resistor_seen_second}
use Rattle.spef_net.proofs.take.take_resistor.Goals as goal

pub returns-in-Err-Bad-clause-taken : goal.returns-in-Err-Bad-clause-taken
returns-in-Err-Bad-clause-taken c = resistor_bad c.args.builder.now.net c.args.builder.now c.args.builder.now _ _ (rw c.in-Err-Bad.field-0-is at c.in-Err-Bad.ensures.seen)

pub returns-in-Ok-None-default-clause-taken : goal.returns-in-Ok-None-default-clause-taken
returns-in-Ok-None-default-clause-taken c =
    resistor_seen_first c.args.builder.now.net c.args.builder.now c.see_two.new.self (both (node_in (c.args.builder.now.file) c.args.nodes.0.now) (node_in (c.args.builder.now.file) c.args.nodes.1.now)) _ c.in-Ok-None-default.field-0-1
    (rw c.in-Ok-None-default.field-0-0-is at c.in-Ok-None-default.ensures.seen)

pub returns-in-Ok-Some-None-clause-taken : goal.returns-in-Ok-Some-None-clause-taken
returns-in-Ok-Some-None-clause-taken c =
    resistor_seen_second c.args.builder.now.net c.args.builder.now c.see_two.new.self (both (node_in (c.args.builder.now.file) c.args.nodes.0.now) (node_in (c.args.builder.now.file) c.args.nodes.1.now)) _ c.in-Ok-Some-None.field-0-0-0
    (rw (c.in-Ok-Some-None.field-0-0-is, c.in-Ok-Some-None.field-0-1-is) at c.in-Ok-Some-None.ensures.seen)

pub returns-in-Ok-Some-Some-clause-taken : goal.returns-in-Ok-Some-Some-clause-taken
returns-in-Ok-Some-Some-clause-taken c =
    let e : c.read_value.result ≡ value_in c.args.builder.now.file.r_places c.args.value.now = search rules in
    let o = both (node_in (c.args.builder.now.file) c.args.nodes.0.now) (node_in (c.args.builder.now.file) c.args.nodes.1.now) in
    subst (λ (v : Result ℕ NumFault). Takes c.add_res.result c.args.builder.now.net c.args.builder.now (resistor o v) c.add_res.new.self) e
    (resistor_seen c.add_res.result c.args.builder.now.net c.args.builder.now c.see_two.new.self c.add_res.new.self o c.read_value.result c.in-Ok-Some-Some.a c.in-Ok-Some-Some.b
    (rw (c.in-Ok-Some-Some.field-0-0-is, c.in-Ok-Some-Some.field-0-1-is) at c.in-Ok-Some-Some.ensures.seen) c.add_res.ensures)
