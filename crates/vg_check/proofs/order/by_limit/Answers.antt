use Rattle.std.proofs.Common.{rules}
use Rattle.std.proofs.lemmas.List.Sorted.{IsNonDecreasingBy-from_sort_by_key}
use Rattle.vg_check.specs.declared.order.Rank.{Rank}
use Rattle.vg_check.proofs.OrderLemmas.{order_from}
use Rattle.vg_check.proofs.order.by_limit.Goals as goal

pub returns : goal.returns
returns c =
    order_from c.args.p.now.reps c.in_ok-ranks.ranks.items c.sort_by_key.new.self.items c.in_ok-ranks.ensures.each c.in_ok-ranks.ensures.all
    c.sort_by_key.ensures.permutation
    (IsNonDecreasingBy-from_sort_by_key (λ (r : Rank). r.key) _ c.in_ok-sort_by_key.ensures.sorted (λ a r q k. search rules))
