-- Sinks with their wire delays.
use Rattle.std.specs.Prelude.{ℕ, ℤ, List, [], ◌∷◌}
use Rattle.vg_scan.specs.declared.name.NodeName.{NodeName}

-- the nodes of these owners and leaves, each with its delay
unfoldable pub sink_rows : List (List ℕ) → List (List ℕ) → List ℤ → List (NodeName × ℤ)
sink_rows (owner ∷ owners) (leaf ∷ leaves) (delay ∷ delays) =
    (record { owner = owner; leaf = leaf }, delay) ∷ sink_rows owners leaves delays
sink_rows _ _ _ = []
