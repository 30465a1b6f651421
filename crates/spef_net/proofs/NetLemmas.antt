-- What follows from what the type of a net keeps.
use Rattle.std.proofs.Common.{◌<◌, length, get_or, arith}
use Rattle.std.proofs.lemmas.Option.{slice_get-get_or}
use Rattle.std.specs.List.{All}
use Rattle.spef_net.specs.declared.net.ParNet.{ParNet}

-- each connection is at a node
pub conns_within : (net : ParNet) → All (λ conn. conn.node < length net.nodes) net.conns
conns_within net = λ k d l. omega (arith, l, net.sound.joined.few, net.sound.joined.numbers k (get_or net.conns k d) (slice_get-get_or net.conns k d l))
