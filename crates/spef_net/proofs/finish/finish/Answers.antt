use Rattle.std.proofs.Common.{sym, ap, ◌∙◌, subst}
use Rattle.spef_net.specs.Nets.{IsSound}
use Rattle.spef_net.specs.Builders.{PartialNet}
use Rattle.spef_nodes.specs.Nodes.{noted_all}
use Rattle.spef_net.proofs.FinishLemmas.{sound_as}
use Rattle.spef_net.proofs.finish.finish.Goals as goal

pub invariant_of-result : goal.invariant_of-result
invariant_of-result c =
    let d = c.builder.inside in
    record {
      sound = sound_as _ _ _ _ _ _ _ _ _ _ (sym c.in_ok-name.ensures) (ap (λ nodes. noted_all nodes d.notes) (sym c.into_nodes.ensures ∙ sym c.into_names-owners.ensures) ∙ sym c.new.ensures) (sym c.from_vec.ensures) (sym c.from_vec-2.ensures) (sym c.from_vec-3.ensures)
          (subst (λ (builder : PartialNet). IsSound c.args.net.now (noted_all builder.nodes builder.notes) builder.conns builder.caps builder.ress) (sym c.builder.view_is) c.requires);
    }
