use Rattle.std.proofs.Common.{arith}
use Rattle.spef_net.proofs.connections.may_connect.Goals as goal

pub returns-in-None : goal.returns-in-None
returns-in-None c = λ e k at. c.in-None.ensures k (omega arith) (omega (arith, at.fits)) at
