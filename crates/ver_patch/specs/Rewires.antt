-- A pin that is linked to another net.
use Rattle.std.specs.Prelude.{ℕ, List}
use Rattle.ver_net.specs.declared.pin_ref.PinRef.{PinRef}

-- A pin that is linked to one net, and the text of the net that it is to be linked to.
pub record Rewire : Type 0 where
  pub at : PinRef
  pub net : List ℕ
