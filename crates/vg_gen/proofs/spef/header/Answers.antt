use Rattle.std.proofs.Common.{refl}
use Rattle.vg_gen.specs.Texts.{header_lines}
use Rattle.vg_gen.proofs.spef.header.Goals as goal

pub returns : goal.returns
unfolding header_lines
returns c = refl
