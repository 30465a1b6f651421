use Rattle.std.proofs.Common.{refl}
use Rattle.vg_gen.specs.Texts.{library_lines}
use Rattle.vg_gen.proofs.library.library.Goals as goal

pub returns : goal.returns
unfolding library_lines
returns c = refl
