use Rattle.std.proofs.Common.{◌≡◌, false, [], ◌∷◌, ◌++◌, sym, ap, ◌∙◌}
use Rattle.std.proofs.lemmas.Bool.{true≢false}
use Rattle.ver_module.specs.Netlists.{Net}
use Rattle.vg_change.specs.Named.{begins}
use Rattle.vg_change.proofs.BeginLemmas.{run_apart}
use Rattle.vg_change.proofs.prefix.next_net.Goals as goal
use Rattle.vg_change.proofs.prefix.next_net.Goals.{then-is_none, else-is_none}

pub returns-else-goes_on_as_bit-clause-others : goal.returns-else-goes_on_as_bit-clause-others
returns-else-goes_on_as_bit-clause-others c n one low high is =
    let net = c.args.net.now in
    let prefix = c.args.prefix.now in
    let base : c.net.inside.base.now ≡ net.base = ap (λ (x : Net). x.base) c.net.view_is in
    elim c.if-is_none.branch as (λ _. begins one.name prefix ≡ false) [
      | then-is_none w ↦ absurd (true≢false (sym w.if-is_none.true ∙ sym w.value-is ∙ c.if-goes_on_as_bit.false))
      | else-is_none w ↦
          run_apart c.args.netlist.now.nets c.args.at c.run_end.result net prefix c.run_end.ensures c.requires.there c.requires.other
          (ap (λ b. begins prefix (b ++ 91 ∷ [])) (sym base) ∙ sym w.goes_on_as_bit.ensures ∙ sym w.value-is ∙ c.if-goes_on_as_bit.false) n one low high is
    ]
