-- A net in which cells are put is, in the new design, a chain of nets that re-times to the slack of the placement.
use Rattle.std.specs.Prelude.{◌≡◌, ℕ, ◌<◌, length, ℤ, None}
use Rattle.elmore.specs.Placements.{IsSlack, HasPolarity}
use Rattle.cut_laws.specs.CutNets.{AreCut}
use Rattle.vg_design.specs.Designs.{Design, Joined}
use Rattle.split_laws.specs.Cuts.{AreTimedStages, StageNets, pieces_of}
use Rattle.split_laws.specs.ReadPieces.{HasLoadsOf}
use Rattle.vg_retime.specs.Refusals.{PassesHere}
use Rattle.vg_design.specs.declared.time.Timed.{Timed}
use Rattle.vg_retime.specs.Retimings.{IsFirstRefusal, Retimes}
use Rattle.spef_wire.specs.declared.refusal.Refusal.{Refusal}
use Rattle.spef_wire.specs.declared.refusal.Refusal.TheVariants.{TooLarge}
use Rattle.vg_retime.specs.WalkNets.{IsNetIn}
use Rattle.vg_retime.specs.Ways.{Nets, timed_nets}
use Rattle.vg_split.specs.Splits.{Split, forest, net_of}
use Rattle.vg_split.specs.Stages.{heads}
use Rattle.retime_laws.specs.NetlistStages.{stage_number}
use Rattle.retime_laws.specs.NewStages.{HasStages, IsPut, stage_net}

-- on a walk nothing refuses the net of a stage, but perhaps its size
abbrev pub StagesAreAccepted : Type 0
StagesAreAccepted = (d : Design) (n : Joined) (x : Split) (new : Design) → IsPut d n x → HasStages d n x new
    → (k : ℕ) → k < length (heads (forest x)) → PassesHere 16 new x.prefix (net_of x k)

-- its sinks have the loads that they had, and cells that end the stage those of their inputs
abbrev pub StagesHaveLoads : Type 0
StagesHaveLoads = (d : Design) (n : Joined) (x : Split) (new : Design) → IsPut d n x → (has : HasStages d n x new)
    → (k : ℕ) (low : k < length (heads (forest x))) → HasLoadsOf d n x k new (stage_net has k low)

-- nets by their numbers, of which those of the stages are nets of the new design as a walk comes to them
abbrev pub AreNetsOf : Split → Design → Nets → Type 0
AreNetsOf x new nets = (k : ℕ) → k < length (heads (forest x))
    → IsNetIn 16 new x.prefix (stage_number x new.netlist k) (nets (stage_number x new.netlist k))

-- there are such nets
abbrev pub StagesHaveNets : Type 0
StagesHaveNets = (d : Design) (n : Joined) (x : Split) (new : Design) → IsPut d n x → HasStages d n x new
    → (nets : Nets) × AreNetsOf x new nets

-- the nets of the stages, as they are timed
abbrev pub stages_of : Split → Design → Nets → StageNets
stages_of x new nets =
    record { nets = timed_nets nets; names = λ id. (nets id).names; number = stage_number x new.netlist }

-- they are timed as the stages' pieces
abbrev pub StagesAreTimed : Type 0
StagesAreTimed = (d : Design) (n : Joined) (x : Split) (new : Design) → IsPut d n x → HasStages d n x new
    → (nets : Nets) → AreNetsOf x new nets → AreTimedStages x new (stages_of x new nets)

-- so they are the nets that the placement cuts the net into
abbrev pub NewNetsAreCut : Type 0
NewNetsAreCut = (d : Design) (n : Joined) (x : Split) (new : Design) → IsPut d n x → HasStages d n x new
    → (nets : Nets) → AreNetsOf x new nets → AreCut x.problem x.cells (pieces_of x (stages_of x new nets))

-- From the net of each stage one re-times to the slack of a placement that gives each sink the polarity that it wants,
-- and comes to no sink of the wrong polarity.
abbrev pub StagesRetime : Type 0
StagesRetime = (d : Design) (n : Joined) (x : Split) (new : Design) → IsPut d n x → HasStages d n x new
    → (slack : ℤ) → IsSlack x.problem x.cells slack → ((w : ℕ) → HasPolarity x.problem x.cells w)
    → (k : ℕ) → k < length (heads (forest x))
    → Retimes 16 new x.prefix (net_of x k) (record { slack = slack; wrong = None })

-- so it is from the net of the old name
abbrev pub PlacedNetsRetime : Type 0
PlacedNetsRetime = (d : Design) (n : Joined) (x : Split) (new : Design) → (put : IsPut d n x) → HasStages d n x new
    → (slack : ℤ) → IsSlack x.problem x.cells slack → ((w : ℕ) → HasPolarity x.problem x.cells w)
    → Retimes 16 new x.prefix put.name (record { slack = slack; wrong = None })

-- so this is what mode `time` tells of it
abbrev pub PlacedNetsTime : Type 0
PlacedNetsTime = (d : Design) (n : Joined) (x : Split) (new : Design) → (put : IsPut d n x) → HasStages d n x new
    → (slack : ℤ) → IsSlack x.problem x.cells slack → ((w : ℕ) → HasPolarity x.problem x.cells w)
    → (timed : Timed) → Retimes 17 new x.prefix put.name timed → timed ≡ record { slack = slack; wrong = None }

-- or else that a net on the way is too large
abbrev pub PlacedNetsAreRefused : Type 0
PlacedNetsAreRefused = (d : Design) (n : Joined) (x : Split) (new : Design) → (put : IsPut d n x) → HasStages d n x new
    → (slack : ℤ) → IsSlack x.problem x.cells slack → ((w : ℕ) → HasPolarity x.problem x.cells w)
    → (refusal : Refusal) → IsFirstRefusal new x.prefix put.name refusal → refusal ≡ TooLarge
