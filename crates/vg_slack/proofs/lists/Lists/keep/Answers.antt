use Rattle.std.proofs.Common.{◌<◌, length, ap, sym, ◌∙◌, arith, refl}
use Rattle.vg_slack.proofs.KeptLemmas.{kept_here, kept_set, kept_other, on_ok}
use Rattle.vg_slack.proofs.lists.Lists.keep.Goals as goal

pub fill-requires-clause-none : goal.fill-requires-clause-none
fill-requires-clause-none g c = λ odd.
    let low : c.args.node < length c.args.self.now.nodes.items = omega (arith, c.in-Some.ensures.variant.0 refl, c.args.self.now.nodes.ok.0) in
    ap (λ lists. lists odd) (sym (kept_here c.args.self.now.nodes.items c.args.node c.in-Some.kept.now low c.in-Some.ensures.value)) ∙ c.requires.none odd

pub returns-clause-others : goal.returns-clause-others
returns-clause-others g c = λ v other. kept_other c.args.self.now.nodes.items c.args.node v c.fill.new.self other

pub returns-clause-kept : goal.returns-clause-kept
returns-clause-kept g c =
    on_ok c.fill.result (λ kept low odd. ap (λ lists. lists odd) (kept_set c.args.self.now.nodes.items c.args.node c.fill.new.self low) ∙ kept odd)
    c.fill.ensures.kept
