-- An example: a driver of 10 ps and 1 kΩ, a wire of 1 kΩ to a node of 100 fF, there a buffer of 20 ps, 0.5 kΩ and 2 fF,
-- and a wire of 1 kΩ on to a sink of 102 fF, which is required at 400 ps and reached after 237 ps. Cut at the buffer it
-- is two nets.
use Rattle.std.proofs.Common.{◌≡◌, ℕ, zero, suc, false, [], ◌∷◌, refl, pos, Some, None}
use Rattle.elmore.specs.Path.{climb, path, is_over, way}
use Rattle.elmore.specs.Wire.{downstream, wire_delay}
use Rattle.elmore.specs.declared.rep.Rep.{Rep}
use Rattle.elmore.specs.declared.parts.Driver.{Driver}
use Rattle.elmore.specs.declared.parts.Sink.{Sink}
use Rattle.cut_laws.specs.Walks.{nothing, sink, passes, TimedNet, reached, start_of, slack_behind}

abbrev buffer : Rep
buffer = record { inverts = false; cin = 2000; k = 20000000000; r = 500000; cost = 2000; limit = None }

abbrev goal : Sink
goal = record { required = pos 400000000000; inverted = false }

abbrev driver : Driver
driver = record { k = pos 10000000000; r = 1000000; arrival = pos 0; limit = None }

abbrev upper : TimedNet
upper = record {
  tree = record { parent = 0; r = 0; c = 0 } ∷ record { parent = 0; r = 1000000; c = 2000 } ∷ [];
  ends = nothing ∷ passes buffer (Some 1) ∷ [];
  above = None;
}

abbrev lower : TimedNet
lower = record {
  tree = record { parent = 0; r = 0; c = 100000 } ∷ record { parent = 0; r = 1000000; c = 102000 } ∷ [];
  ends = nothing ∷ sink goal ∷ [];
  above = Some 0;
}

abbrev nets : ℕ → TimedNet
nets zero = upper
nets (suc n) = lower

-- the signal at the buffer is 24 ps late, without the buffer's load and the driver's own delay
second : reached nets (start_of 0 driver) 2 ≡ start_of 0 driver ∷ record { net = 1; r = 500000; late = 24000000000; inverters = 0 } ∷ []
unfolding reached climb path is_over way downstream wire_delay
second = refl

-- the sink has 163 ps left
left : slack_behind nets driver (record { net = 1; r = 500000; late = 24000000000; inverters = 0 }) 1 goal ≡ pos 163000000000
unfolding reached climb path is_over way downstream wire_delay
left = refl
