use Rattle.std.proofs.Common.{◌++◌, ◌∷◌, [], if◌then◌else◌, Bool, subst, sym, ◌∙◌}
use Rattle.spef_wire.specs.Steps.{AreDrivers}
use Rattle.spef_wire.proofs.ends.with_conn.Goals as goal

pub returns-then-drives : goal.returns-then-drives
returns-then-drives c list are =
    subst (λ (b : Bool). AreDrivers (list ++ (if b then c.args.conn ∷ [] else [])) c.with_driver.result) (sym c.if-drives.true ∙ c.drives.ensures)
    (c.with_driver.ensures list are)
