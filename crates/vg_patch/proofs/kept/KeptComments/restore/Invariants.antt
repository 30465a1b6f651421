use Rattle.std.proofs.Common.{drop}
use Rattle.vg_patch.specs.Edits.{patched}
use Rattle.vg_patch.specs.Kept.{Restores}
use Rattle.vg_patch.proofs.kept.KeptComments.restore.Given as goal

abbrev pub invariant-comments : goal.invariant-comments
invariant-comments l = Restores (drop l.number l.self) l.text (patched l.initial.text l.self)
