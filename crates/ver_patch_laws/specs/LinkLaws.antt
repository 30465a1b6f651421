-- What is true of the declarations and the links of every changed netlist.
use Rattle.std.specs.Prelude.{◌≡◌, ◌≢◌, ℕ, ◌+◌, List, [], ◌∷◌, length, None, Some, slice_get}
use Rattle.std.specs.List.{All, Contains}
use Rattle.ver_items.specs.Declarations.{declared_of, range_in}
use Rattle.ver_module.specs.Netlists.{Netlist}
use Rattle.ver_net.specs.declared.pin_ref.PinRef.{PinRef}
use Rattle.ver_patch.specs.NewCells.{NewCell}
use Rattle.ver_patch.specs.Rewires.{Rewire}
use Rattle.ver_patch_text_laws.specs.Texts.{IsNetText}
use Rattle.ver_patch_text_laws.specs.Laws.{IsChanged}
use Rattle.ver_patch_laws.specs.Declared.{AreDeclared}
use Rattle.ver_patch_laws.specs.Links.{IsLinked, IsOneNet, NamedLink, links_of, name_of_net}
use Rattle.ver_patch_laws.specs.Links.NamedLink.{one}

-- the new text declares what the text does, and the new wires
abbrev pub DeclarationsStay : Type 0
DeclarationsStay =
    (text : List ℕ) (netlist : Netlist) (rewires : List Rewire) (cells : List NewCell)
    (wires : List (List ℕ)) (new : List ℕ)
    → IsChanged text netlist rewires cells wires new → AreDeclared text wires new

-- What the pins of a changed netlist are linked to: those that are not rewired to what they were, those that are to the
-- net that is written, and those of new instances to the nets that are written.
pub record LinksAre (text : List ℕ) (rewires : List Rewire) (cells : List NewCell) (new : List ℕ) : Type 0 where
  pub kept : (at : PinRef) (link : NamedLink) → IsLinked text at link
      → All (λ r. r.at ≢ at) rewires → IsLinked new at link
  pub rewired : (r : Rewire) (t : IsNetText r.net) → Contains rewires r → IsOneNet text t.net
      → IsLinked new r.at (one (name_of_net t.net))
  pub put : (k : ℕ) (c : NewCell) (from : IsNetText c.from) (to : IsNetText c.to) → slice_get cells k ≡ Some c
      → IsOneNet text from.net → IsOneNet text to.net
      → slice_get (links_of new) (length (links_of text) + k)
      ≡ Some (one (name_of_net from.net) ∷ one (name_of_net to.net) ∷ [])

-- so it is where no new wire has the name of a vector of the text
abbrev pub LinksStay : Type 0
LinksStay =
    (text : List ℕ) (netlist : Netlist) (rewires : List Rewire) (cells : List NewCell)
    (wires : List (List ℕ)) (new : List ℕ)
    → IsChanged text netlist rewires cells wires new → All (λ name. range_in (declared_of text) name ≡ None) wires
    → LinksAre text rewires cells new
