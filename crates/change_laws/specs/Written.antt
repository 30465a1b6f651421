-- Cells are put into nets of a design of four texts, and those of its parasitics and its netlist are written anew.
use Rattle.std.specs.Prelude.{◌≡◌, ◌≢◌, ℕ, true, List, ℤ, None}
use Rattle.std.specs.List.{All, AllPairs}
use Rattle.vg_change.specs.Changes.{AreTexts, Changes, HavePut, IsChange, nothing}
use Rattle.vg_change.specs.Placed.{PlacedNet}
use Rattle.change_spef_laws.specs.Nets.{IsPlacedNet}
use Rattle.vg_design.specs.Designs.{Design}
use Rattle.vg_design.specs.declared.time.Timed.{Timed}
use Rattle.design_read.specs.Designs.{IsDesign, Texts}
use Rattle.vg_retime.specs.Retimings.{IsFirstRefusal, Retimes}
use Rattle.spef_wire.specs.declared.refusal.Refusal.{Refusal}
use Rattle.spef_wire.specs.declared.refusal.Refusal.TheVariants.{TooLarge}
use Rattle.vg_scan.specs.Prefixes.{is_prefix}

-- Some texts are the texts of a design with its changes: the parasitics and the netlist are written anew, the library
-- and the constraints are as they were.
pub record AreTextsWith (texts : Texts) (c : Changes) (new : Texts) : Type 0 where
  pub written : AreTexts c texts.spef texts.verilog new.spef new.verilog
  pub others : new ≡ record texts { spef = new.spef; verilog = new.verilog }

-- The cells of placements are put into different nets of the design of four texts, one after another, where new names
-- begin with a prefix that may be asked for; and `new` are the texts with these changes.
pub record AreWrittenAnew (texts : Texts) (d : Design) (prefix : List ℕ) (nets : List PlacedNet)
    (new : Texts) : Type 0 where
  pub design : IsDesign texts d
  pub prefix_is : is_prefix prefix ≡ true
  pub nets_are : All (IsPlacedNet d) nets
  pub differ : AllPairs (λ p q. p.net.id ≢ q.net.id) nets
  pub changes : Changes
  pub put : HavePut (nothing d prefix) nets changes
  pub keeps : IsChange changes
  pub texts_are : AreTextsWith texts changes new

-- The net of a name re-times to this slack, with no sink of the wrong polarity, and nothing refuses a net on the way
-- but perhaps its size. So whatever is told of it is this slack and no sink, or that a net on the way is too large.
pub record RetimesTo (d : Design) (prefix name : List ℕ) (slack : ℤ) : Type 0 where
  pub retimes : Retimes 16 d prefix name (record { slack = slack; wrong = None })
  pub told : (timed : Timed) → Retimes 17 d prefix name timed → timed ≡ record { slack = slack; wrong = None }
  pub refused : (refusal : Refusal) → IsFirstRefusal d prefix name refusal → refusal ≡ TooLarge
