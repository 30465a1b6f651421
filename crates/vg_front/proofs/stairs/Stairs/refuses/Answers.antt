use Rattle.std.proofs.Common.{◌-◌, sym, arith, rules}
use Rattle.std.proofs.lemmas.List.Elements.{Contains-append_left}
use Rattle.std.specs.List.{Contains}
use Rattle.vg_front.specs.declared.stairs.Stair.{Stair}
use Rattle.vg_front.proofs.stairs.Stairs.refuses.Goals as goal

pub returns-then-last-offer : goal.returns-then-last-offer
returns-then-last-offer c = λ told.
    let last : Stair = c.index-last.result.now in
    let here : Contains c.args.self.now.passed.items last = (c.len-len.result - 1, search rules, sym c.index-last.ensures) in
    (last, Contains-append_left c.args.self.now.passed.items c.args.self.now.ahead.items last here, omega arith, search rules)
