use Rattle.std.proofs.Common.{◌∙◌, ap, ◌++◌, ◌∷◌, [], ◌+◌, ◌%◌}
use Rattle.vg_gen.proofs.NetLemmas.{none_drawn, segments_more, second_drawn}
use Rattle.vg_gen.proofs.net.segments.Goals as goal

pub segment-init : goal.segment-init
segment-init c = record { drawn = none_drawn c.args.size; made = c.in_ok-line.ensures.items }

pub segment-preserved : goal.segment-preserved
segment-preserved c =
    let size = c.args.size in
    let k = c.segment._i in
    let last = c.segment.last in
    let first = c.next_number-first.result in
    let second = c.next_number-last.result in
    let drawn = c.segment.invariant.drawn in
    record {
      drawn = second_drawn size k last first second drawn c.next_number-first.ensures c.next_number-last.ensures;
      made =
          c.in_ok-push.ensures.items
          ∙ ap (λ line. line ++ record { ohms = 100 + first % 100; femtofarads = 10 + second % 10 } ∷ []) c.segment.invariant.made
          ∙ segments_more size k last first second drawn c.next_number-first.ensures c.next_number-last.ensures;
    }
