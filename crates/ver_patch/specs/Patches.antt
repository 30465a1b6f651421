-- The text of a netlist that is changed: three kinds of edits, and all other bytes as they were.
use Rattle.std.specs.Prelude.{◌≡◌, ℕ, List, [], ◌∷◌, ◌++◌, length, map, IsPermutation}
use Rattle.std.specs.List.{AllPairs}
use Rattle.vg_patch.specs.Edits.{Edit, Rise, patched}
use Rattle.ver_file.specs.Modules.{Denotes}
use Rattle.ver_module.specs.Netlists.{Netlist}
use Rattle.ver_net.specs.Laws.{IsBefore}
use Rattle.ver_patch.specs.Pins.{span_at}
use Rattle.ver_patch.specs.Texts.{wire_texts, cell_texts}
use Rattle.ver_patch.specs.Rewires.{Rewire}
use Rattle.ver_patch.specs.NewCells.{NewCell}

-- its connection is the new net
abbrev pub rewired : Netlist → Rewire → Edit
rewired netlist rewire =
    record { from = (span_at netlist rewire.at).from; to = (span_at netlist rewire.at).to; text = rewire.net }

-- text that is put in at a place
abbrev pub inserted : ℕ → List ℕ → Edit
inserted at text = record { from = at; to = at; text = text }

-- new wires behind the module's head, new connections, and new instances before `endmodule`
abbrev pub edits_of : Netlist → List Rewire → List NewCell → List (List ℕ) → List Edit
edits_of netlist rewires cells wires =
    inserted netlist.head_end (wire_texts wires)
    ∷ (map (rewired netlist) rewires ++ inserted netlist.end_at (cell_texts cells) ∷ [])

-- this is the text with these changes; the pins are taken in the order of the text
pub record IsPatched (text : List ℕ) (netlist : Netlist) (rewires : List Rewire) (cells : List NewCell)
    (wires : List (List ℕ)) (new : List ℕ) : Type 0 where
  pub ordered : List Rewire
  pub same : IsPermutation rewires ordered
  pub rising : AllPairs (λ a b. IsBefore a.at b.at) ordered
  pub is : new ≡ patched text (edits_of netlist ordered cells wires)

-- in every text of the netlist these parts can be replaced, and what comes of it is the text with these changes
pub record AreEditsFor (netlist : Netlist) (rewires : List Rewire) (cells : List NewCell) (wires : List (List ℕ))
    (edits : List Edit) : Type 0 where
  pub fit : (text : List ℕ) → Denotes text netlist → Rise 0 (length text) edits
  pub make : (text : List ℕ) → Denotes text netlist → IsPatched text netlist rewires cells wires (patched text edits)
