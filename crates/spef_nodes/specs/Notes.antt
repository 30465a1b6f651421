-- Notes of nodes by their numbers, whose texts stand in one list.
use Rattle.std.specs.Prelude.{ℕ, ◌<◌, List, [], slice_index_or}
use Rattle.spef_nodes.specs.declared.notes.Mark.{Mark}
use Rattle.spef_nodes.specs.declared.notes.Mark.TheVariants.{Fresh, Joined, Starred}
use Rattle.spef_nodes.specs.Nodes.{Note, fresh, joined, starred}

-- what a mark notes, where its number is that of a text
abbrev pub note_in : List (List ℕ) → Mark → Note
note_in texts Fresh = fresh
note_in texts (Joined id) = joined (slice_index_or texts id [])
note_in texts (Starred id) = starred (slice_index_or texts id [])

-- its number is that of one of so many texts
abbrev pub IsMark : ℕ → Mark → Type 0
IsMark count Fresh = Unit {0}
IsMark count (Joined id) = id < count
IsMark count (Starred id) = id < count

abbrev pub AreMarks : ℕ → List Mark → Type 0
AreMarks count marks = (i : ℕ) → IsMark count (slice_index_or marks i Fresh)
