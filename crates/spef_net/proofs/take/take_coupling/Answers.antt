use Rattle.std.proofs.Common.{rules, ◌≡◌, ℕ, subst, Result}
use Rattle.vg_num.specs.declared.fault.NumFault.{NumFault}
use Rattle.spef_nodes.specs.Names.{node_in}
use Rattle.spef_net.specs.Statements.{both, coupling, value_in}
use Rattle.spef_net.specs.Builders.{Takes}
use Rattle.spef_net.proofs.WordLemmas.{coupling_bad}
use Rattle.spef_net.proofs.TakeLemmas.{coupling_seen_foreign, coupling_seen_self, coupling_seen_first, coupling_seen_second}
use Rattle.spef_net.proofs.take.take_coupling.Goals as goal

pub returns-in-Err-Bad-clause-taken : goal.returns-in-Err-Bad-clause-taken
returns-in-Err-Bad-clause-taken c = coupling_bad c.args.builder.now.net c.args.builder.now c.args.builder.now _ _ (rw c.in-Err-Bad.field-0-is at c.in-Err-Bad.ensures.seen)

pub returns-in-Ok-None-None-clause-taken : goal.returns-in-Ok-None-None-clause-taken
returns-in-Ok-None-None-clause-taken c =
    coupling_seen_foreign c.args.builder.now.net c.args.builder.now c.see_two.new.self (both (node_in (c.args.builder.now.file) c.args.nodes.0.now) (node_in (c.args.builder.now.file) c.args.nodes.1.now)) _
    (rw (c.in-Ok-None-None.field-0-0-is, c.in-Ok-None-None.field-0-1-is) at c.in-Ok-None-None.ensures.seen)

pub returns-in-Ok-Some-Some-clause-taken : goal.returns-in-Ok-Some-Some-clause-taken
returns-in-Ok-Some-Some-clause-taken c =
    coupling_seen_self c.args.builder.now.net c.args.builder.now c.see_two.new.self (both (node_in (c.args.builder.now.file) c.args.nodes.0.now) (node_in (c.args.builder.now.file) c.args.nodes.1.now)) _
    c.in-Ok-Some-Some.field-0-0-0 c.in-Ok-Some-Some.field-0-1-0 (rw (c.in-Ok-Some-Some.field-0-0-is, c.in-Ok-Some-Some.field-0-1-is) at c.in-Ok-Some-Some.ensures.seen)

pub returns-in-Ok-Some-None-clause-taken : goal.returns-in-Ok-Some-None-clause-taken
returns-in-Ok-Some-None-clause-taken c =
    let e : c.read_value-in-Ok-Some-None.result ≡ value_in c.args.builder.now.file.c_places c.args.value.now = search rules in
    let o = both (node_in (c.args.builder.now.file) c.args.nodes.0.now) (node_in (c.args.builder.now.file) c.args.nodes.1.now) in
    subst (λ (v : Result ℕ NumFault). Takes c.add_cap-in-Ok-Some-None.result c.args.builder.now.net c.args.builder.now (coupling o v) c.add_cap-in-Ok-Some-None.new.self) e
    (coupling_seen_first c.add_cap-in-Ok-Some-None.result c.args.builder.now.net c.args.builder.now c.see_two.new.self c.add_cap-in-Ok-Some-None.new.self o c.read_value-in-Ok-Some-None.result c.in-Ok-Some-None.id
    (rw (c.in-Ok-Some-None.field-0-0-is, c.in-Ok-Some-None.field-0-1-is) at c.in-Ok-Some-None.ensures.seen) c.add_cap-in-Ok-Some-None.ensures)

pub returns-in-Ok-None-Some-clause-taken : goal.returns-in-Ok-None-Some-clause-taken
returns-in-Ok-None-Some-clause-taken c =
    let e : c.read_value.result ≡ value_in c.args.builder.now.file.c_places c.args.value.now = search rules in
    let o = both (node_in (c.args.builder.now.file) c.args.nodes.0.now) (node_in (c.args.builder.now.file) c.args.nodes.1.now) in
    subst (λ (v : Result ℕ NumFault). Takes c.add_cap.result c.args.builder.now.net c.args.builder.now (coupling o v) c.add_cap.new.self) e
    (coupling_seen_second c.add_cap.result c.args.builder.now.net c.args.builder.now c.see_two.new.self c.add_cap.new.self o c.read_value.result c.in-Ok-None-Some.id
    (rw (c.in-Ok-None-Some.field-0-0-is, c.in-Ok-None-Some.field-0-1-is) at c.in-Ok-None-Some.ensures.seen) c.add_cap.ensures)
