use Rattle.std.proofs.Common.{◌≡◌, ◌==◌, ◌&&◌, ℕ, false, length, get_or, take}
use Rattle.std.specs.List.{list_any}
use Rattle.spef_wire.specs.Refusals.{is_sink}
use Rattle.spef_wire.proofs.marks.sink_marks.Given as goal

abbrev pub invariant-connection : goal.invariant-connection
invariant-connection l =
    (length l.marks.items ≡ length l.net.nodes)
    × ((v : ℕ) → get_or l.marks.items v false ≡ list_any (λ conn. is_sink conn && (conn.node == v)) (take l.conn-index l.net.conns))
