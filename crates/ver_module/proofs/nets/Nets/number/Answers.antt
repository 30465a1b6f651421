use Rattle.std.proofs.Common.{length, map, sym, ap, ◌∙◌}
use Rattle.std.proofs.lemmas.List.{length-map}
use Rattle.name_tables.proofs.NameTableLemmas.{absent_of, no_place}
use Rattle.ver_module.specs.Netlists.{nets_in}
use Rattle.ver_module.proofs.NetLemmas.{count_nets}
use Rattle.ver_module.proofs.nets.Nets.number.Goals as goal

pub returns-in-None : goal.returns-in-None
returns-in-None c =
    c.self.invariant.counts ∙ sym (count_nets c.self.inside.names c.self.inside.identifiers.items c.self.invariant.named) ∙ ap (λ t. length (nets_in t)) c.self.view_is
    ∙ sym (length-map (nets_in c.args.self.now) (λ net. net.name))
    ∙ sym (no_place (map (λ net. net.name) (nets_in c.args.self.now)) c.args.name.now (absent_of (map (λ net. net.name) (nets_in c.args.self.now)) c.args.name.now (sym c.in-None.is ∙ c.find.ensures)))
