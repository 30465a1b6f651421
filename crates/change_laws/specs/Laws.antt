-- The written files of a changed design, read and timed again.
use Rattle.std.specs.Prelude.{◌≡◌, ◌≢◌, ℕ, List, ℤ}
use Rattle.std.specs.List.{Contains}
use Rattle.elmore.specs.Placements.{HasPolarity, IsSlack}
use Rattle.vg_change.specs.Placed.{PlacedNet}
use Rattle.vg_design.specs.Designs.{Design}
use Rattle.vg_design.specs.Nets.{IsNetProblem, IsTimedOf}
use Rattle.vg_design.specs.declared.net_problem.NetProblem.{NetProblem}
use Rattle.vg_design.specs.declared.time.Timed.{Timed}
use Rattle.design_read.specs.Designs.{IsDesign, Texts}
use Rattle.retime_laws.specs.Limits.{AreTimesSmall}
use Rattle.vg_retime.specs.Retimings.{Retimes}
use Rattle.change_laws.specs.Written.{AreWrittenAnew, RetimesTo}

-- texts are a design with the library and the constraints of another
pub record AreDesignLike (d : Design) (texts : Texts) : Type 0 where
  pub design : Design
  pub is : IsDesign texts design
  pub library : design.library ≡ d.library
  pub rows : design.rows ≡ d.rows

-- what is written is a design
abbrev pub ChangedTextsAreADesign : Type 0
ChangedTextsAreADesign = (texts : Texts) (d : Design) (prefix : List ℕ) (nets : List PlacedNet) (new : Texts)
    → AreWrittenAnew texts d prefix nets new
    → AreDesignLike d new

-- in it each net re-times to the slack of its placement, where this gives each sink the polarity that it wants
abbrev pub PlacedNetsRetimeInTexts : Type 0
PlacedNetsRetimeInTexts = (texts : Texts) (d : Design) (prefix : List ℕ) (nets : List PlacedNet) (new : Texts)
    → AreWrittenAnew texts d prefix nets new
    → (again : Design) → IsDesign new again → (p : PlacedNet) → Contains nets p
    → (slack : ℤ) → IsSlack p.problem p.cells slack → ((w : ℕ) → HasPolarity p.problem p.cells w)
    → RetimesTo again prefix p.net.par.name slack

-- ---- other nets

-- a net that nothing refuses, and into which no cells were put, has the same problem in the new design, by the same
-- name
abbrev pub OtherNetsKeepProblems : Type 0
OtherNetsKeepProblems = (texts : Texts) (d : Design) (prefix : List ℕ) (nets : List PlacedNet) (new : Texts)
    → AreWrittenAnew texts d prefix nets new
    → (again : Design) → IsDesign new again → (name : List ℕ)
    → ((p : PlacedNet) → Contains nets p → name ≢ p.net.par.name)
    → (found : NetProblem) → IsNetProblem d name found → IsNetProblem again name found

-- and so the same slack without cells, and the same first sink of the wrong polarity
abbrev pub OtherNetsKeepSlacks : Type 0
OtherNetsKeepSlacks = (texts : Texts) (d : Design) (prefix : List ℕ) (nets : List PlacedNet) (new : Texts)
    → AreWrittenAnew texts d prefix nets new
    → (again : Design) → IsDesign new again → (name : List ℕ)
    → ((p : PlacedNet) → Contains nets p → name ≢ p.net.par.name)
    → (timed : Timed) → IsTimedOf d name timed → IsTimedOf again name timed

-- so it re-times, before and after the change
abbrev pub OtherNetsRetime : Type 0
OtherNetsRetime = (texts : Texts) (d : Design) (prefix : List ℕ) (nets : List PlacedNet) (new : Texts)
    → AreWrittenAnew texts d prefix nets new
    → (again : Design) → IsDesign new again → (name : List ℕ)
    → ((p : PlacedNet) → Contains nets p → name ≢ p.net.par.name)
    → (timed : Timed) → IsTimedOf d name timed → Retimes 17 d prefix name timed × Retimes 17 again prefix name timed

-- the texts are a design, in which the net re-times to this slack
pub record RetimesInTexts (texts : Texts) (prefix name : List ℕ) (slack : ℤ) : Type 0 where
  pub design : Design
  pub is : IsDesign texts design
  pub retimes : RetimesTo design prefix name slack

-- ---- times

-- the times of the constraints of a design are small, as `StagesAreLargeByLoads` of `retime_laws` asks
abbrev pub TimesOfDesignsAreSmall : Type 0
TimesOfDesignsAreSmall = (texts : Texts) (d : Design) → IsDesign texts d → AreTimesSmall d.rows
