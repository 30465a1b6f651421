use Rattle.std.proofs.Common.{◌∙◌, ◌+ℤ◌, get_or, pos, rules}
use Rattle.std.proofs.lemmas.Int.{to_z-of_z}
use Rattle.vg_sta.proofs.GraphLemmas.{delay_is, driven_small, wire_small}
use Rattle.vg_sta.proofs.delays.delay_to.Goals as goal
use mir.Val.{SFits}
use mir.Syntax.{w128}

pub sum_of-requires : goal.sum_of-requires
sum_of-requires c =
    let small = driven_small c.args.net.now c.args.driven c.args.delays.now c.requires.delays in
    let wire = wire_small c.args.net.now c.args.driven c.args.delays.now c.args.node c.requires.delays c.requires.node in
    let low = wire.0 in
    let high = wire.1 in
    let f : SFits w128 c.args.driven = c.ranges.driven in
    let g : SFits w128 (get_or c.args.delays.now c.args.node (pos 0)) = search (rules, low, high) in
    rw (to_z-of_z w128 c.args.driven f, to_z-of_z w128 (get_or c.args.delays.now c.args.node (pos 0)) g)
    (record { driven_low = small.low; driven_high = small.high; wire_low = low; wire_high = high })

pub returns : goal.returns
returns c =
    let wire = wire_small c.args.net.now c.args.driven c.args.delays.now c.args.node c.requires.delays c.requires.node in
    let low = wire.0 in
    let high = wire.1 in
    let f : SFits w128 c.args.driven = c.ranges.driven in
    let g : SFits w128 (get_or c.args.delays.now c.args.node (pos 0)) = search (rules, low, high) in
    to_z-of_z w128 c.sum_of.result (search rules) ∙ c.sum_of.ensures
    ∙ (λ i. to_z-of_z w128 c.args.driven f i +ℤ to_z-of_z w128 (get_or c.args.delays.now c.args.node (pos 0)) g i)
    ∙ delay_is c.args.net.now c.args.driven c.args.delays.now c.args.node c.requires.delays c.requires.node
