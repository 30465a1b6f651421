use Rattle.std.proofs.Common.{◌≡◌, map}
use Rattle.vg_cert.specs.Fits.{list_of}
use Rattle.vg_slack.specs.Kept.{kept_in}
use Rattle.vg_verdict.proofs.claim.moved.Given as goal

abbrev pub invariant-nodes : goal.invariant-nodes
invariant-nodes l = record { same : map list_of l.moved.items ≡ map kept_in l.yielded }
