use Rattle.std.specs.Io.KnownBytes.{Keeps}
use Rattle.vg_store.proofs.pieces.write_piece.Given as goal

abbrev pub invariant-tries : goal.invariant-tries
invariant-tries g l = Keeps (g.W.Write.contents l.fn.to) (g.W.Write.contents l.to)
