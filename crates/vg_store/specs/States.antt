-- What contracts see of files.
use Rattle.std.specs.Prelude.{◌≡◌, ℕ, List, [], ◌∷◌, Bool, Option, Some, None}

-- a draft of a file, which is not yet in the place of the file: the file's name and the draft's bytes, where they are
-- told
pub record Draft : Type 0 where
  pub name : Option (List ℕ)
  pub bytes : Option (List ℕ)

-- the bytes of each file by its name, where they are told. Of reading: how often it failed, and the file at which it
-- failed last; the file that was opened last, how many of its bytes were taken, and whether it is open. Of writing: how
-- often it failed, and the file at which it failed last; the file of which a draft was begun last, whether that draft
-- is being written, and its bytes; the drafts that are finished and wait to be published, the oldest first
pub record FilesState : Type 0 where
  pub holds : List ℕ → Option (List ℕ)
  pub read_faults : ℕ
  pub read_blame : Option (List ℕ)
  pub source : Option (List ℕ)
  pub taken : ℕ
  pub reading : Bool
  pub write_faults : ℕ
  pub write_blame : Option (List ℕ)
  pub target : Option (List ℕ)
  pub writing : Bool
  pub draft : Option (List ℕ)
  pub drafts : List Draft

-- files of which neither names nor bytes are told
abbrev pub untold : (read_faults taken : ℕ) (reading : Bool) (write_faults : ℕ) (writing : Bool) → List Draft
    → FilesState
untold read_faults taken reading write_faults writing drafts = record {
  holds = λ _. None;
  read_faults = read_faults;
  read_blame = None;
  source = None;
  taken = taken;
  reading = reading;
  write_faults = write_faults;
  write_blame = None;
  target = None;
  writing = writing;
  draft = None;
  drafts = drafts;
}

-- a draft of which nothing is told
abbrev pub untold_draft : Draft
untold_draft = record { name = None; bytes = None }

-- the draft that is written
abbrev pub this_draft : FilesState → Draft
this_draft files = record { name = files.target; bytes = files.draft }

-- the name of the file of the first of these drafts, where there is one and it is told
abbrev pub first_name : List Draft → Option (List ℕ)
first_name [] = None
first_name (draft ∷ drafts) = draft.name

-- the bytes of the file of this name, where both are told
abbrev pub file_named : (List ℕ → Option (List ℕ)) → Option (List ℕ) → Option (List ℕ)
file_named holds None = None
file_named holds (Some name) = holds name

-- all that is told of reading stays
pub record KeepsReading (old new : FilesState) : Type 0 where
  pub same_faults : new.read_faults ≡ old.read_faults
  pub same_blame : new.read_blame ≡ old.read_blame
  pub same_source : new.source ≡ old.source
  pub same_taken : new.taken ≡ old.taken
  pub same_reading : new.reading ≡ old.reading

-- all that is told of writing stays, but for the bytes of files
pub record KeepsWriting (old new : FilesState) : Type 0 where
  pub same_faults : new.write_faults ≡ old.write_faults
  pub same_blame : new.write_blame ≡ old.write_blame
  pub same_target : new.target ≡ old.target
  pub same_writing : new.writing ≡ old.writing
  pub same_draft : new.draft ≡ old.draft
  pub same_drafts : new.drafts ≡ old.drafts
