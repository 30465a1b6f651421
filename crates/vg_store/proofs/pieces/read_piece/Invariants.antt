use Rattle.std.specs.Io.KnownBytes.{Keeps}
use Rattle.vg_store.proofs.pieces.read_piece.Given as goal

abbrev pub invariant-tries : goal.invariant-tries
invariant-tries g l = Keeps (g.R.Read.remaining l.fn.from) (g.R.Read.remaining l.from)
