-- What is true of the timing of every design.
use Rattle.std.specs.Prelude.{◌≡◌}
use Rattle.vg_design.specs.Designs.{Design}
use Rattle.vg_sta.specs.Timings.{IsTimed, IsFault}
use Rattle.vg_sta.specs.declared.answer.Sta.{Sta}
use Rattle.vg_sta.specs.declared.answer.StaFault.{StaFault}
use Rattle.vg_sta.specs.declared.answer.StaFault.TheVariants.{Memory}

-- a design that is timed has no fault
abbrev pub TimedOrFault : Type 0
TimedOrFault = (d : Design) (found : Sta) (fault : StaFault) → IsTimed d found → IsFault d fault → fault ≡ Memory
