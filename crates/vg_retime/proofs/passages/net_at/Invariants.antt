use Rattle.std.proofs.Common.{◌≡◌, drop}
use Rattle.std.specs.Prelude.{option_and_then}
use Rattle.std.specs.List.{find}
use Rattle.std.specs.Str.{bytes_eq}
use Rattle.vg_retime.specs.Passages.{net_at, one_net}
use Rattle.vg_retime.proofs.passages.net_at.Given as goal

abbrev pub invariant-pin : goal.invariant-pin
invariant-pin l = net_at l.instance l.pin ≡ option_and_then (λ p. one_net p.link) (find (λ p. bytes_eq l.pin p.name) (drop l.at l.instance.pins))
