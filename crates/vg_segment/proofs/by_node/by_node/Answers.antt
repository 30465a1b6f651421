use Rattle.std.proofs.Common.{rules, sym, subst, List, ℕ}
use Rattle.std.proofs.lemmas.List.Sorted.{answers_always}
use Rattle.vg_segment.specs.Segments.{AreByNode}
use Rattle.vg_segment.proofs.OrderLemmas.{sorted_by_node}
use Rattle.vg_segment.proofs.by_node.by_node.Goals as goal

pub returns-clause-sorted : goal.returns-clause-sorted
returns-clause-sorted c =
    let s = sorted_by_node c.in_ok-sorted.sorted.items c.sort_by_key.new.self.items
    (c.in_ok-sort_by_key.ensures.sorted (λ cap. cap.0) (answers_always _ _ _ (λ f a r g h. search rules)))
    (c.sort_by_key.ensures.stable (λ cap. cap.0) (answers_always _ _ _ (λ f a r g h. search rules))) in
    subst (λ (p : List (ℕ × ℕ) × List (ℕ × ℕ)). AreByNode p.0 p.1) (λ i. (c.in_ok-sorted.ensures.items i, sym c.from_vec.ensures i)) s
