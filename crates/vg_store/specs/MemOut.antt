-- What an output in memory holds.
use Rattle.std.specs.Prelude.{ℕ, ◌-◌, List, vec_len, vec_capacity, Some}
use Rattle.vg_store.specs.Writing.{OutState}
use Rattle.vg_store.specs.declared.mem_out.MemOut.{MemOut}

-- what was written
abbrev pub written_to : MemOut → List ℕ
written_to out = out.bytes.items

-- how many more bytes fit in the memory that it has
abbrev pub room_of : MemOut → ℕ
room_of out = vec_capacity out.bytes - vec_len out.bytes

-- the most bytes that one call takes
abbrev pub chunk_of : MemOut → ℕ
chunk_of out = out.chunk

-- how many calls were made
abbrev pub calls_of : MemOut → ℕ
calls_of out = out.calls.made

-- the numbers of the calls that fail
abbrev pub fails_of : MemOut → List ℕ
fails_of out = out.calls.fails.items

-- how many calls failed
abbrev pub faults_of : MemOut → ℕ
faults_of out = out.faults

-- what contracts see of it as an output
abbrev pub state_of : MemOut → OutState
state_of out = record { written = Some (written_to out); faults = faults_of out }
