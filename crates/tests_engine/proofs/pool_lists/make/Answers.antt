use Rattle.std.proofs.Common.{rules, ◌∙◌, arith, to_z-of_z, pos}
use Rattle.std.specs.Int.{w128}
use Rattle.cand_pool.proofs.PublicLaws.{held_named}
use Rattle.tests_engine.proofs.RowLaws.{making_start, making_more, making_rises, making_end}
use Rattle.tests_engine.specs.declared.pool_rows.Row.{Row}
use Rattle.tests_engine.proofs.pool_lists.make.Goals as goal

pub rows-init : goal.rows-init
rows-init c = making_start (λ (row : Row). row.q) _ _ _ c.none-list.result c.none-list.ensures.same c.none-list.ensures.list

pub push-requires-clause-live : goal.push-requires-clause-live
push-requires-clause-live c = held_named _ _ _ _ c.rows.invariant.held

pub rows-preserved : goal.rows-preserved
rows-preserved c =
    let e = to_z-of_z {w = w128} {z = c.numbers-numbers.result.q} (search rules) in
    making_more (λ (row : Row). row.q) _ _ _ _ c.rows.list c.push.new.list c.rows.row-index _ (record { q = pos 0; c = 0; tag = 0 }) c.rows-test.true (e ∙ c.numbers-numbers.ensures.q) c.rows.invariant
    (record { low = rw e c.numbers-numbers.ensures.low; high = rw e c.numbers-numbers.ensures.high; load = c.numbers-numbers.ensures.load })
    c.push.ensures.list c.push.ensures.others c.push.ensures.spare

pub returns-clause-made : goal.returns-clause-made
returns-clause-made c = making_end (λ (row : Row). row.q) _ _ _ c.rows.list c.rows.row-index _ c.rows.invariant (omega arith)

pub returns-clause-rises : goal.returns-clause-rises
returns-clause-rises c = λ all. making_rises (λ (row : Row). row.q) _ _ _ c.rows.list c.rows.row-index c.rows.invariant all
