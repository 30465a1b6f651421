use Rattle.std.proofs.Common.{◌+◌, ◌++◌, ◌∷◌, [], ap, ◌∙◌}
use Rattle.vg_gen.specs.Lines.{lined}
use Rattle.vg_gen.specs.Texts.{wants}
use Rattle.vg_gen.proofs.LineLemmas.{wants_more}
use Rattle.vg_gen.proofs.constraints.print_wants.Goals as goal

pub want-preserved : goal.want-preserved
want-preserved c =
    c.in_ok-print_if_odd.ensures
    ∙ ap (λ xs. xs ++ lined (wants ((c.want.at + 1) ∷ []))) c.want.invariant
    ∙ wants_more c.args.to.now.items c.want.at
