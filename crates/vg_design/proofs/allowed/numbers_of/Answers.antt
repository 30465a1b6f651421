use Rattle.std.proofs.Common.{arith, get_or, []}
use Rattle.std.specs.List.{list_any}
use Rattle.std.specs.Str.{bytes_eq}
use Rattle.vg_design.specs.Parts.{cells_of}
use Rattle.vg_design.proofs.NumberLemmas.{pushed_more, named_at}
use Rattle.vg_design.proofs.allowed.numbers_of.Goals as goal

pub repeater-preserved : goal.repeater-preserved
repeater-preserved c =
    pushed_more (λ b. list_any (bytes_eq (get_or (cells_of c.args.repeaters.now) b [])) c.args.cells.now) c.repeater.at c.is_among-named.result c.repeater.numbers.items c.push_where.new.to.items
    c.repeater.invariant (named_at c.args.repeaters.now c.args.cells.now c.repeater.at (omega (arith, c.repeater-test.true)) c.is_among-named.result _ c.is_among-named.ensures) c.in_ok-push_where.ensures
