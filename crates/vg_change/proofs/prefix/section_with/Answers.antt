use Rattle.std.proofs.Common.{ℕ, List, sym, ◌∙◌}
use Rattle.vg_design.specs.Designs.{net_names}
use Rattle.vg_change.specs.Named.{begins}
use Rattle.vg_change.proofs.FindLemmas.{found_next, none_more}
use Rattle.vg_change.proofs.prefix.section_with.Goals as goal

pub returns-then-starts_with : goal.returns-then-starts_with
returns-then-starts_with c =
    sym (found_next (λ (name : List ℕ). begins name c.args.prefix.now) (net_names c.args.design.now.spef) c.net.at c.net_name-name.result.now
    c.net_name-name.ensures (sym c.starts_with.ensures.value ∙ c.if-starts_with.true) c.net.invariant)

pub net-preserved : goal.net-preserved
net-preserved c =
    none_more (λ (name : List ℕ). begins name c.args.prefix.now) (net_names c.args.design.now.spef) c.net.at c.net_name-name.result.now
    c.net_name-name.ensures (sym c.starts_with.ensures.value ∙ c.if-starts_with.false) c.net.invariant
