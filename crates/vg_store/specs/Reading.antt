-- Files that are read, by name.
use Rattle.std.specs.Prelude.{◌≡◌, ◌↔◌, ℕ, ◌+◌, ◌^◌, ◌<◌, ◌≤◌, List, length, take, drop, true, Option, Some, IfSome, IsSome}
use Rattle.vg_store.specs.Causes.{Rose}
pub use Rattle.vg_store.specs.States.{FilesState}
use Rattle.vg_store.specs.States.{file_named}

-- the bytes of the file that is read, where its name and they are told
abbrev pub read_file : FilesState → Option (List ℕ)
read_file files = file_named files.holds files.source

-- reading this file has begun at its first byte
pub record Begins (name : List ℕ) (files : FilesState) : Type 0 where
  pub open_now : files.reading ≡ true
  pub first : files.taken ≡ 0
  pub named : IfSome files.source (λ told. told ≡ name)
  pub told : IsSome (files.holds name) → IsSome files.source

-- so many bytes are the next ones of the file from a place on; there are none exactly at its end
pub record IsNextPiece (file : List ℕ) (at count : ℕ) (bytes : List ℕ) : Type 0 where
  pub piece : take count bytes ≡ take count (drop at file)
  pub within : count ≤ length (drop at file)
  pub ended : (count ≡ 0) ↔ (length file ≤ at)

-- these bytes of the open file were taken, all that stand before its place
pub record HasRead (files : FilesState) (bytes : List ℕ) : Type 0 where
  pub open_now : files.reading ≡ true
  pub counted : files.taken ≡ length bytes
  pub first : IfSome (read_file files) (λ whole. (bytes ≡ take files.taken whole) × (files.taken ≤ length whole))

-- opening or reading failed: the count of read faults rose, and this holds of the file that is blamed, where it is told
abbrev pub ReadFaultAt : FilesState → FilesState → (List ℕ → Type 0) → Type 0
ReadFaultAt old new IsBlamed = Rose old.read_faults new.read_faults × IfSome new.read_blame IsBlamed

-- the same of the file that was open
abbrev pub FailsOnOpenFile : FilesState → FilesState → Type 0
FailsOnOpenFile old new = ReadFaultAt old new (λ blamed. old.source ≡ Some blamed)

-- a file is too long to be read: 2^28 + 1 bytes were taken, and the file, where it is told, has more than 2^28
abbrev pub IsTooLong : FilesState → Option (List ℕ) → Type 0
IsTooLong new file = (new.taken ≡ 2 ^ 28 + 1) × IfSome file (λ bytes. 2 ^ 28 < length bytes)
