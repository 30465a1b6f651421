-- What is told of an output that never fails.
use Rattle.std.specs.Prelude.{None}
use Rattle.vg_store.specs.Writing.{OutState}
use Rattle.vg_store.specs.declared.sure_out.SureOut.{SureOut}

-- what contracts see of it as an output: no call ever fails, and what was written is not told
abbrev pub state_of : SureOut → OutState
state_of out = record { written = None; faults = 0 }
