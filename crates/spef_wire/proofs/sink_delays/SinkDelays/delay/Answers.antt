use Rattle.std.proofs.Common.{ℤ, List, ◌<◌, sym, ap, ◌∙◌, arith, length, get_or, pos, rules}
use Rattle.std.proofs.lemmas.Int.{to_z-of_z}
use mir.Syntax.{w128}
use mir.Val.{SFits}
use Rattle.vg_scan.specs.declared.name.NodeName.{NodeName}
use Rattle.spef_wire.proofs.SinkLemmas.{rows_count, rows_get}
use Rattle.spef_wire.proofs.sink_delays.SinkDelays.delay.Goals as goal

pub offset_bounds-as_slice-at : goal.offset_bounds-as_slice-at
offset_bounds-as_slice-at c =
    let s = c.self.inside in
    omega (arith, c.requires, c.as_slice.type_inv, ap length c.as_slice.ensures.value, rows_count s.owners s.leaves s.delays.items c.self.invariant.0 c.self.invariant.1, ap length c.self.view_is)

pub bounds-as_slice-at : goal.bounds-as_slice-at
bounds-as_slice-at c =
    let s = c.self.inside in
    omega (arith, c.requires, ap length c.as_slice.ensures.value, rows_count s.owners s.leaves s.delays.items c.self.invariant.0 c.self.invariant.1, ap length c.self.view_is)

pub returns : goal.returns
returns c = λ other.
    let s = c.self.inside in
    let h : c.args.at < length s.delays.items = omega (arith, c.requires, rows_count s.owners s.leaves s.delays.items c.self.invariant.0 c.self.invariant.1, ap length c.self.view_is) in
    let delay : ℤ = get_or c.as_slice.result.now c.args.at (pos 0) in
    let fits : SFits w128 delay = search rules in
    to_z-of_z w128 delay fits
    ∙ ap (λ (delays : List ℤ). get_or delays c.args.at (pos 0)) c.as_slice.ensures.value
    ∙ sym (ap (λ (row : NodeName × ℤ). row.1) (rows_get s.owners s.leaves s.delays.items c.args.at other c.self.invariant.0 c.self.invariant.1 h))
    ∙ ap (λ (rows : List (NodeName × ℤ)). (get_or rows c.args.at other).1) c.self.view_is
