use Rattle.vg_design.proofs.ReadyLemmas.{driver_within}
use Rattle.vg_design.proofs.pins.PinnedNet.is_without_drive.Goals as goal

pub drive-requires-clause-at : goal.drive-requires-clause-at
drive-requires-clause-at c = driver_within c.args.self.now.net.par c.args.driver.now c.requires.driver
