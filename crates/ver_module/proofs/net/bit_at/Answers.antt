use Rattle.std.proofs.Common.{Some, sym, ap, ◌∙◌, subst, ◌<◌, length}
use Rattle.std.specs.Prelude.{slice_get}
use Rattle.ver_module.specs.Ranges.{bits_of}
use Rattle.ver_module.proofs.RangeLemmas.{one_net, one_bit_at}
use Rattle.ver_module.proofs.net.bit_at.Goals as goal

pub returns-in-None : goal.returns-in-None
returns-in-None c = one_net c.args.range c.args.at c.in-None.is c.requires

pub returns-in-Some : goal.returns-in-Some
returns-in-Some c =
    ap (λ range. slice_get (bits_of range) c.args.at) c.in-Some.is
    ∙ one_bit_at c.in-Some.range c.args.at (subst (λ range. c.args.at < length (bits_of range)) c.in-Some.is c.requires)
    ∙ ap (λ bit. Some (Some bit)) (sym c.bit.ensures)
