use Rattle.std.proofs.Common.{rules, ◌∙◌}
use Rattle.vg_cons.specs.Rows.{is_between}
use Rattle.vg_cons.proofs.BoxLemmas.{between_kept, both_hold}
use Rattle.vg_cons.proofs.boxes.holds.Goals as goal

pub returns-then-is_between : goal.returns-then-is_between
returns-then-is_between c =
    let one = c.args.corners.0 in
    let other = c.args.corners.1 in
    let point = c.args.point in
    both_hold (is_between one.0 other.0 point.0) (is_between one.1 other.1 point.1) c.is_between-then-is_between.result
    (c.if-is_between.ensures ∙ between_kept {a = one.0} {b = other.0} {x = point.0} (search rules) (search rules) (search rules))
    (c.is_between-then-is_between.ensures ∙ between_kept {a = one.1} {b = other.1} {x = point.1} (search rules) (search rules) (search rules))
