use Rattle.std.proofs.Common.{◌≡◌}
use Rattle.vg_scan.specs.Names.{is_escaped, last_bare}
use Rattle.vg_scan.proofs.spef.last_bare.Given as goal

abbrev pub invariant-place : goal.invariant-place
invariant-place l = record {
  last : l.last ≡ last_bare l.byte l.text l.at;
  escaped : l.escaped ≡ is_escaped l.text l.at;
}
