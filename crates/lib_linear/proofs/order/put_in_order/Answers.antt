use Rattle.std.proofs.Common.{rules}
use Rattle.std.proofs.lemmas.List.Sorted.{answers_always}
use Rattle.lib_linear.specs.Repeaters.{comes_before}
use Rattle.lib_linear.proofs.RepeaterOrder.{ranks, rises}
use Rattle.lib_linear.proofs.order.put_in_order.Goals as goal

pub returns : goal.returns
returns c = record {
  same = c.in_ok-sort_by.ensures.permutation;
  rising = rises _ (c.in_ok-sort_by.ensures.sorted comes_before ranks (answers_always _ _ _ (λ f a r q k. search rules)));
}
