use Rattle.std.proofs.Common.{rules, tests, ◌≡◌, sym, refl}
use Rattle.std.specs.List.{list_all}
use Rattle.std.proofs.lemmas.Iterator.Consumers.{YieldsList-from_first}
use Rattle.std.proofs.lemmas.Iterator.Search.{all_from_yields_List}
use Rattle.lib_cells.specs.Cells.{timings}
use Rattle.lib_linear.specs.Repeaters.{is_arc}
use Rattle.lib_linear.proofs.repeater.is_timed.Goals as goal

pub returns-then-has_groups : goal.returns-then-has_groups
returns-then-has_groups c =
    let each : c.all.result ≡ list_all (is_arc c.args.units c.args.input.now) (timings c.args.pin.now) =
    all_from_yields_List (is_arc c.args.units c.args.input.now) _ _ c.all.result c.all.ensures.ran
    (YieldsList-from_first (λ x. x) (λ left. left) (timings c.args.pin.now) c.groups.ensures) (λ x b q k. search (rules, tests)) in
    rw (each, sym c.has_groups.ensures, c.if-has_groups.true) refl
