use Rattle.std.proofs.Common.{◌≡◌, ℕ, ◌<◌, ◌&&◌, false, slice_index_or}
use Rattle.elmore.proofs.live.mark_both.Given as goal

abbrev pub invariant-places : goal.invariant-places
invariant-places l = (k : ℕ) → k < l.v → slice_index_or l.places k false ≡ (slice_index_or l.free k false && slice_index_or l.live k false)
