use Rattle.std.proofs.Common.{sym, subst, arith}
use Rattle.wire_widths.proofs.PlainLemmas.{plain_are, plain_fits}
use Rattle.vg_slack.specs.Kept.{AreListsOf}
use Rattle.vg_slack.proofs.KeptLemmas.{all_listed, none_listed}
use Rattle.vg_slack.proofs.search.best_with.Goals.{then-keep, else-keep}
use Rattle.vg_slack.proofs.search.best_with.Goals as goal

pub choices_in-requires-clause-widths : goal.choices_in-requires-clause-widths
choices_in-requires-clause-widths g c = record { are = plain_are; fits = plain_fits c.args.p.now }

pub returns-clause-lists : goal.returns-clause-lists
returns-clause-lists g c = elim c.if-keep.branch [
  | then-keep w ↦
      subst (λ keep. AreListsOf c.args.p.now keep c.choices_in.new.lists) (sym w.if-keep.true)
      (all_listed c.args.p.now c.choices_in.new.lists (omega (arith, c.in_ok-choices.ensures.nodes, c.in_ok-lists.ensures.nodes, w.nodes-is, w.len-nodes.ensures))
      c.in_ok-choices.ensures.kept)
  | else-keep w ↦
      subst (λ keep. AreListsOf c.args.p.now keep c.choices_in.new.lists) (sym w.if-keep.false)
      (none_listed c.args.p.now c.choices_in.new.lists (omega (arith, c.in_ok-choices.ensures.nodes, c.in_ok-lists.ensures.nodes, w.nodes-is)))
]
