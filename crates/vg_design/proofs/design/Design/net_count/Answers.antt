use Rattle.std.proofs.Common.{sym, ap, ◌∙◌, length}
use Rattle.vg_design.specs.Designs.{Design, net_names}
use Rattle.vg_design.proofs.NameListLemmas.{names_count}
use Rattle.vg_design.proofs.design.Design.net_count.Goals as goal

pub returns : goal.returns
returns c =
    c.net_count.ensures ∙ sym (names_count c.self.inside.text c.self.inside.index c.self.invariant.index_of) ∙ ap (λ (d : Design). length (net_names d.spef)) c.self.view_is
