use Rattle.std.proofs.Common.{◌≡◌, take}
use Rattle.wire_widths.specs.Fits.{most_added}
use Rattle.vg_width.proofs.limits.most_added.Given as goal

abbrev pub invariant-widths : goal.invariant-widths
invariant-widths l = most_added (take l.width-index l.widths) l.r ≡ l.most
