use Rattle.std.proofs.Common.{rules, length, get_or, ◌-◌, ◌<◌, arith, pos}
use Rattle.std.proofs.lemmas.Int.{to_z-of_z}
use mir.Val.{SFits}
use mir.Syntax.{w128}
use Rattle.elmore.specs.declared.pair.Pair.{Pair}
use Rattle.cand_pairs.proofs.SweepLemmas.{later_is}
use Rattle.cand_pairs.proofs.lists.is_later.Goals as goal

pub returns : goal.returns
returns c =
    let last : Pair = get_or c.args.kept.now (length c.args.kept.now - 1) (record { q = pos 0; c = 0 }) in
    let f : SFits w128 (get_or c.args.kept.now (length c.args.kept.now - 1) (record { q = pos 0; c = 0 })).q = search rules in
    let g : SFits w128 c.args.pair.now.q = search rules in
    let some : 0 < length c.args.kept.now = omega arith in
    rw (to_z-of_z w128 (get_or c.args.kept.now (length c.args.kept.now - 1) (record { q = pos 0; c = 0 })).q f, to_z-of_z w128 c.args.pair.now.q g)
    (later_is c.args.kept.now c.args.pair.now (record { q = pos 0; c = 0 }) c.requires some)
