use Rattle.std.proofs.Common.{ap, ◌∙◌}
use Rattle.std.specs.Prelude.{option_map}
use Rattle.std.proofs.lemmas.Option.{slice_get-map}
use Rattle.ver_module.specs.Netlists.{net_of}
use Rattle.ver_module.specs.Ranges.{bits_of}
use Rattle.ver_module.proofs.net.Identifier.net.Goals as goal

pub returns : goal.returns
returns c =
    slice_get-map (net_of c.args.base.now c.args.self) (bits_of c.args.self.range) c.args.at
    ∙ ap (option_map (net_of c.args.base.now c.args.self)) c.bit_at.ensures
