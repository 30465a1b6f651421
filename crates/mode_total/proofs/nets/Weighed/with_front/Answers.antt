use Rattle.std.proofs.Common.{arith, append-nil, sym}
use Rattle.vg_answer.proofs.VerdictLemmas.{worse_report}
use Rattle.mode_total.proofs.nets.Weighed.with_front.Goals as goal

pub returns : goal.returns
returns c =
    let points = c.in_ok-points.points in
    record {
      front = points;
      front_of = c.in_ok-points.ensures.frontier;
      short = omega (arith, c.if-len.false, points.ok.0);
      more = record {
        kind = worse_report c.args.self.kind;
        text = sym (append-nil c.args.self.text.items);
        nets = c.in_ok-push.ensures.items;
        fronts = c.in_ok-push-2.ensures.items;
      };
    }
