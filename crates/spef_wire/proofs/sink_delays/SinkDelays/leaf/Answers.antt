use Rattle.std.proofs.Common.{ℤ, List, ◌<◌, sym, ap, ◌∙◌, arith, length, get_or}
use Rattle.vg_scan.specs.declared.name.NodeName.{NodeName}
use Rattle.spef_wire.proofs.SinkLemmas.{rows_count, rows_get}
use Rattle.spef_wire.proofs.sink_delays.SinkDelays.leaf.Goals as goal

pub get-requires : goal.get-requires
get-requires c =
    let s = c.self.inside in
    omega (arith, c.requires, c.self.invariant, rows_count s.owners s.leaves s.delays.items c.self.invariant.0 c.self.invariant.1, ap length c.self.view_is)

pub returns : goal.returns
returns c = λ other.
    let s = c.self.inside in
    let h : c.args.at < length s.delays.items = omega (arith, c.requires, rows_count s.owners s.leaves s.delays.items c.self.invariant.0 c.self.invariant.1, ap length c.self.view_is) in
    c.get.ensures
    ∙ sym (ap (λ (row : NodeName × ℤ). row.0.leaf) (rows_get s.owners s.leaves s.delays.items c.args.at other c.self.invariant.0 c.self.invariant.1 h))
    ∙ ap (λ (rows : List (NodeName × ℤ)). (get_or rows c.args.at other).0.leaf) c.self.view_is
