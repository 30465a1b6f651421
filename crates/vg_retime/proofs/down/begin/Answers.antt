use Rattle.std.proofs.Common.{[], ◌∷◌, ◌++◌, map, ap, ◌∙◌, refl}
use Rattle.vg_retime.specs.Steps.{signal_of}
use Rattle.vg_retime.proofs.DownLemmas.{begin_down}
use Rattle.vg_retime.proofs.down.begin.Goals as goal

pub returns-clause-walk : goal.returns-clause-walk
returns-clause-walk c = λ design prefix within.
    begin_down design prefix _
    (ap (map signal_of) (c.in_ok-push.ensures.items ∙ (λ i. c.new-signals.ensures.items i ++ record { net = c.args.first.net; r = c.args.first.driver.r; late = 0; inverters = 0 } ∷ [])))
    within c.none.ensures refl refl
