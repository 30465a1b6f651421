use Rattle.std.proofs.lemmas.Bool.{false≢true}
use Rattle.mode_width.proofs.WidthLemmas.{says_too_large}
use Rattle.mode_width.proofs.width.width_posed.Goals as goal

pub returns-then-not-fits : goal.returns-then-not-fits
returns-then-not-fits c =
    says_too_large c.args.design.now c.args.widths.now.rows c.args.name.now c.args.net.now c.requires c.refuse.result
    (λ fits. false≢true (c.if-not-fits.ensures.1 fits)) c.refuse.ensures
