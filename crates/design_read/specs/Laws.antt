-- What is true of all designs and their faults.
use Rattle.std.specs.Prelude.{◌≡◌}
use Rattle.vg_design.specs.Designs.{Design}
use Rattle.design_read.specs.Designs.{Texts, IsDesign, IsFirstFault}
use Rattle.design_read.specs.declared.design_fault.DesignFault.{DesignFault}
use Rattle.design_read.specs.declared.design_fault.DesignFault.TheVariants.{Memory}

-- four texts are one design at most
abbrev pub OneDesign : Type 0
OneDesign = (texts : Texts) (a b : Design) → IsDesign texts a → IsDesign texts b → a ≡ b

-- texts that are a design have no fault
abbrev pub DesignsAreFaultless : Type 0
DesignsAreFaultless = (texts : Texts) (design : Design) (fault : DesignFault) → IsDesign texts design
    → (fault ≡ Memory → ⊥) → IsFirstFault texts fault → ⊥
