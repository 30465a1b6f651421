use Rattle.std.proofs.Common.{length, sym, ◌∙◌, arith}
use Rattle.vg_scan.proofs.BareLemmas.{none_bare, some_bare}
use Rattle.vg_scan.proofs.spef.split_node.Goals as goal

pub returns-in-None-clause-last : goal.returns-in-None-clause-last
returns-in-None-clause-last c = none_bare c.args.delimiter c.args.text.now (length c.args.text.now) (sym c.last_bare.ensures ∙ c.in-None.is)

pub returns-in-Some-clause-last : goal.returns-in-Some-clause-last
returns-in-Some-clause-last c =
    let r = some_bare c.args.delimiter c.args.text.now (length c.args.text.now) c.in-Some.at (sym c.last_bare.ensures ∙ c.in-Some.is) in
    record { within = r.within; here = r.here; last = r.last }

pub overflow_add-result : goal.overflow_add-result
overflow_add-result c = omega (arith, (some_bare c.args.delimiter c.args.text.now (length c.args.text.now) c.in-Some.at (sym c.last_bare.ensures ∙ c.in-Some.is)).within)
