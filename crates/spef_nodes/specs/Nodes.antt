-- The nodes of a net, with what is noted of them.
use Rattle.std.specs.Prelude.{ℕ, not, Bool, true, false, List, [], ◌∷◌, drop, slice_index_or}
use Rattle.vg_scan.specs.declared.name.NodeName.{NodeName}

-- a node of a net: its name, whether it is no connection, and its note
pub record ParNode : Type 0 where
  pub name : NodeName
  pub inner : Bool
  pub note : List ℕ

-- what is noted of a node: nothing, the note of its connection, or that of its first `*N` line
pub data Note : Type 0 where
  fresh : Note
  joined : List ℕ → Note
  starred : List ℕ → Note

abbrev pub is_joined : Note → Bool
is_joined (joined _) = true
is_joined _ = false

abbrev pub is_starred : Note → Bool
is_starred (starred _) = true
is_starred _ = false

abbrev pub text_of : Note → List ℕ
text_of fresh = []
text_of (joined text) = text
text_of (starred text) = text

-- what is noted of the node of a number
abbrev pub note_at : List Note → ℕ → Note
note_at notes i = slice_index_or notes i fresh

abbrev pub noted : NodeName → Note → ParNode
noted name note = record { name = name; inner = not (is_joined note); note = text_of note }

-- each of these nodes, with what is noted of its number
unfoldable pub noted_all : List NodeName → List Note → List ParNode
noted_all [] notes = []
noted_all (name ∷ names) notes = noted name (note_at notes 0) ∷ noted_all names (drop 1 notes)
