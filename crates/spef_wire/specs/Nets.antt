-- The net of a name in a file, and its refusal.
use Rattle.std.specs.Prelude.{◌≡◌, ℕ, ◌<◌, List, Option, Some, None}
use Rattle.std.specs.List.{find}
use Rattle.std.specs.Str.{bytes_eq}
use Rattle.spef_file.specs.Files.{File, IsFileOf}
use Rattle.spef_file.specs.Nets.{NetHead}
use Rattle.spef_net.specs.Sections.{IsNetOf, IsFaultOf}
use Rattle.vg_scan.specs.declared.fault.LineFault.{LineFault}
use Rattle.spef_net.specs.declared.fault.NetKind.{NetKind}
use Rattle.spef_net.specs.declared.net.ParNet.{ParNet}
use Rattle.spef_wire.specs.Refusals.{number_of, IsFirstRefusal}
use Rattle.spef_wire.specs.declared.refusal.Refused.{Refused}
use Rattle.spef_wire.specs.declared.refusal.Refused.TheVariants.{Net, Memory}
use Rattle.spef_wire.specs.declared.refusal.Refusal.{Refusal}
use Rattle.spef_wire.specs.declared.refusal.Refusal.TheVariants.{UnknownNet, Section as Faulty, Reduced, Inductive, Bidirectional, NoDriver, ManyDrivers, Mismatch, Tied, NoDrive, NoLoad, Floating, Loop, NoSink, Unconstrained, TooLarge}

-- the head of the net of this name, if the file has one
abbrev pub head_named : File → List ℕ → Option NetHead
head_named file name = find (λ head. bytes_eq name head.name) file.nets

-- the file has no net of this name
pub record IsMissing (text name : List ℕ) : Type 0 where
  pub file : File
  pub said : IsFileOf text file
  pub none : head_named file name ≡ None

-- it has one with this head
pub record IsHeadOf (text name : List ℕ) (file : File) (head : NetHead) : Type 0 where
  pub said : IsFileOf text file
  pub named : head_named file name ≡ Some head

-- the net of this name
pub record IsNetNamed (text name : List ℕ) (net : ParNet) : Type 0 where
  pub file : File
  pub head : NetHead
  pub head_of : IsHeadOf text name file head
  pub read : IsNetOf text file head net

-- its lines have this first fault
pub record IsFaultNamed (text name : List ℕ) (fault : LineFault NetKind) : Type 0 where
  pub file : File
  pub head : NetHead
  pub head_of : IsHeadOf text name file head
  pub first : IsFaultOf text file head fault

pub record IsNetRefused (text name : List ℕ) (refusal : Refusal) : Type 0 where
  pub net : ParNet
  pub named : IsNetNamed text name net
  pub refused : IsFirstRefusal net refusal

-- why the net of this name is refused, by its parasitics alone
abbrev pub IsRefusalOf : List ℕ → List ℕ → Refusal → Type 0
IsRefusalOf text name Mismatch = ⊥
IsRefusalOf text name Tied = ⊥
IsRefusalOf text name NoDrive = ⊥
IsRefusalOf text name (NoLoad node) = ⊥
IsRefusalOf text name (Unconstrained node) = ⊥
IsRefusalOf text name UnknownNet = IsMissing text name
IsRefusalOf text name (Faulty fault) = IsFaultNamed text name fault
IsRefusalOf text name Reduced = IsNetRefused text name Reduced
IsRefusalOf text name Inductive = IsNetRefused text name Inductive
IsRefusalOf text name Bidirectional = IsNetRefused text name Bidirectional
IsRefusalOf text name NoDriver = IsNetRefused text name NoDriver
IsRefusalOf text name ManyDrivers = IsNetRefused text name ManyDrivers
IsRefusalOf text name (Floating node) = IsNetRefused text name (Floating node)
IsRefusalOf text name Loop = IsNetRefused text name Loop
IsRefusalOf text name NoSink = IsNetRefused text name NoSink
IsRefusalOf text name TooLarge = IsNetRefused text name TooLarge

-- a refusal of a smaller number, or out of memory
abbrev pub IsRefusedBelow : ℕ → List ℕ → List ℕ → Refused → Type 0
IsRefusedBelow n text name (Net refusal) = IsRefusalOf text name refusal × (number_of refusal < n)
IsRefusedBelow n text name Memory = Unit {0}
