use Rattle.std.proofs.Common.{◌∙◌, ap}
use Rattle.vg_patch.specs.Edits.{patched}
use Rattle.vg_patch.proofs.PieceLemmas.{concat-pieces}
use Rattle.vg_patch.proofs.patched.Patched.pieces.Goals as goal

pub returns : goal.returns
returns c = concat-pieces 0 c.deref.result.now c.self.inside.patch ∙ ap (λ text. patched text c.self.inside.patch) c.deref.ensures.value ∙ c.self.view_is
