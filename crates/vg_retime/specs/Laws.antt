-- A net either re-times or is refused.
use Rattle.std.specs.Prelude.{◌≡◌, ◌≤◌, ℕ, List}
use Rattle.vg_design.specs.Designs.{Design}
use Rattle.vg_design.specs.declared.time.Timed.{Timed}
use Rattle.spef_wire.specs.Refusals.{number_of}
use Rattle.spef_wire.specs.declared.refusal.Refusal.{Refusal}
use Rattle.vg_retime.specs.Retimings.{Retimes, IsFirstRefusal}

-- a net that re-times, where no refusal of a number below k refuses a net on the way, is refused by none of these
abbrev pub RetimedNotRefused : Type 0
RetimedNotRefused =
    (k : ℕ) (d : Design) (prefix asked : List ℕ) (timed : Timed) (refusal : Refusal) → Retimes k d prefix asked timed
    → IsFirstRefusal d prefix asked refusal
    → k ≤ number_of refusal

-- it re-times to one slack and one first sink of the wrong polarity, whatever refusals are left out
abbrev pub OneTiming : Type 0
OneTiming =
    (k m : ℕ) (d : Design) (prefix asked : List ℕ) (a b : Timed) → Retimes k d prefix asked a
    → Retimes m d prefix asked b → a ≡ b
