use Rattle.std.proofs.Common.{◌≡◌, ◌++◌, map, ap, ◌∙◌}
use Rattle.name_tables.specs.Distinct.{number_in}
use Rattle.ver_module.specs.Netlists.{Net, net_name}
use Rattle.ver_file.proofs.NetLemmas.{table_nets}
use Rattle.ver_file.proofs.scope.Scope.number.Goals as goal

pub returns : goal.returns
returns c =
    let self = c.args.self.now in
    let nets = table_nets self.text.now self.nets.now c.requires.scope.table.table in
    let name : c.deref.result.now ≡ net_name c.args.found.now.name.now c.args.bit =
    c.deref.ensures.value ∙ c.in_ok-push_name.ensures ∙ ap (λ front. front ++ c.net_of.result.name) c.in_ok-name.ensures.items ∙ c.net_of.ensures in
    c.number.ensures ∙ (λ i. number_in (map (λ (n : Net). n.name) (nets i)) (name i))
