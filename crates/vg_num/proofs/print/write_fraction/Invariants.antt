use Rattle.std.proofs.Common.{◌≡◌, ◌-◌, ◌++◌, drop}
use Rattle.vg_num.specs.Printed.{with_point}
use Rattle.vg_num.proofs.print.write_fraction.Given as goal

abbrev pub invariant-digits : goal.invariant-digits
invariant-digits l = with_point l.n l.places ≡ with_point l.rest (l.places - l.i) ++ drop (32 - l.i) l.buffer
