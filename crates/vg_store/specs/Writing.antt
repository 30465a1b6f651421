-- What an output or a file has gained.
use Rattle.std.specs.Prelude.{◌≡◌, ◌≢◌, ℕ, ◌≤◌, List, [], ◌∷◌, ◌++◌, length, take, true, Option, Some, None, IfSome, IsSome, option_map}
use Rattle.vg_store.specs.Causes.{Rose}
use Rattle.vg_store.specs.States.{Draft, FilesState}

-- what contracts see of an output: all that was written, where it is told, and how often writing failed
pub record OutState : Type 0 where
  pub written : Option (List ℕ)
  pub faults : ℕ

-- where what was written is told, it is told again with these bytes after it
abbrev pub Appends : Option (List ℕ) → Option (List ℕ) → List ℕ → Type 0
Appends None new bytes = Unit {0}
Appends (Some old) new bytes = new ≡ Some (old ++ bytes)

-- these bytes were written
abbrev pub Gains : OutState → OutState → List ℕ → Type 0
Gains old new bytes = Appends old.written new.written bytes

-- some first bytes of these were written
abbrev pub GainsPrefix : OutState → OutState → List ℕ → Type 0
GainsPrefix old new bytes = (count : ℕ) × (count ≤ length bytes) × Gains old new (take count bytes)

-- a draft of this file has begun, and it is empty
pub record BeginsWriting (name : List ℕ) (files : FilesState) : Type 0 where
  pub open_now : files.writing ≡ true
  pub empty : IfSome files.draft (λ bytes. bytes ≡ [])
  pub named : IfSome files.target (λ told. told ≡ name)
  pub told : IsSome (files.holds name) → IsSome files.target

-- all files hold what they held
abbrev pub FilesStay : FilesState → FilesState → Type 0
FilesStay old new = (file : List ℕ) → new.holds file ≡ old.holds file

-- these bytes were written at the end of the draft, where its bytes are told, and all files and the drafts that wait
-- stay
pub record DraftGains (old new : FilesState) (bytes : List ℕ) : Type 0 where
  pub appended : new.draft ≡ option_map (λ draft. draft ++ bytes) old.draft
  pub kept : FilesStay old new
  pub same_drafts : new.drafts ≡ old.drafts

-- some first bytes of these were written there
abbrev pub DraftGainsPrefix : FilesState → FilesState → List ℕ → Type 0
DraftGainsPrefix old new bytes = (count : ℕ) × (count ≤ length bytes) × DraftGains old new (take count bytes)

-- this is a draft of this file with these bytes, as far as it is told; a file whose bytes are told is named by it
pub record IsDraftOf (files : FilesState) (name bytes : List ℕ) (draft : Draft) : Type 0 where
  pub named : IfSome draft.name (λ told. told ≡ name)
  pub told : IsSome (files.holds name) → IsSome draft.name
  pub whole : IfSome draft.bytes (λ told. told ≡ bytes)

-- one more draft waits, of this file with these bytes
abbrev pub OneWaits : FilesState → FilesState → (name bytes : List ℕ) → Type 0
OneWaits old new name bytes =
    (draft : Draft) × (new.drafts ≡ old.drafts ++ draft ∷ []) × IsDraftOf old name bytes draft

-- this draft was the oldest that waited, and stands in the place of the file of its name; all other files stay
pub record Publishes (old new : FilesState) (draft : Draft) : Type 0 where
  pub oldest : old.drafts ≡ draft ∷ new.drafts
  pub whole : (name : List ℕ) → draft.name ≡ Some name → new.holds name ≡ draft.bytes
  pub others : (file : List ℕ) → draft.name ≢ Some file → new.holds file ≡ old.holds file

-- writing failed: the count of write faults rose, and this holds of the file that is blamed, where it is told
abbrev pub WriteFaultAt : FilesState → FilesState → (List ℕ → Type 0) → Type 0
WriteFaultAt old new IsBlamed = Rose old.write_faults new.write_faults × IfSome new.write_blame IsBlamed
