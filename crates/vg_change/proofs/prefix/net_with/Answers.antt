use Rattle.std.proofs.Common.{ℕ, List, Some, map, sym, ap, ◌∙◌, arith}
use Rattle.std.specs.Prelude.{option_map}
use Rattle.std.proofs.lemmas.Option.{slice_get-map}
use Rattle.ver_module.specs.Netlists.{Net}
use Rattle.vg_change.specs.Named.{begins}
use Rattle.vg_change.proofs.FindLemmas.{found_next, none_mapped, none_up_to}
use Rattle.vg_change.proofs.prefix.net_with.Goals as goal

pub returns-then-begins_with : goal.returns-then-begins_with
returns-then-begins_with c =
    let names = map (λ (n : Net). n.name) c.args.netlist.now.nets in
    let here = slice_get-map (λ (n : Net). n.name) c.args.netlist.now.nets c.net.at ∙ ap (option_map (λ (n : Net). n.name)) c.net-net.ensures in
    ap (λ (name : List ℕ). Some name) c.of_net.ensures
    ∙ sym (found_next (λ (name : List ℕ). begins name c.args.prefix.now) names c.net.at c.net-net.result.name here (sym c.begins_with.ensures ∙ c.if-begins_with.true) c.net.invariant)

pub net-preserved : goal.net-preserved
net-preserved c =
    let nets = c.args.netlist.now.nets in
    let test = λ (name : List ℕ). begins name c.args.prefix.now in
    none_up_to test (map (λ (n : Net). n.name) nets) c.net.at c.next_net-at.result (omega (arith, c.next_net-at.ensures.on))
    (none_mapped (λ (n : Net). n.name) test nets c.net.at c.next_net-at.result c.next_net-at.ensures.others) c.net.invariant
