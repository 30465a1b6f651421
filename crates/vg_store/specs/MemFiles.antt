-- What files in memory hold.
use Rattle.std.specs.Prelude.{ℕ, ◌-◌, Bool, List, [], drop, map, Option, Some, unwrap_or, vec_capacity, vec_len}
use Rattle.vg_store.specs.Contents.{draft_of, named, told_of}
use Rattle.vg_store.specs.Reading.{read_file}
use Rattle.vg_store.specs.States.{Draft, FilesState}
use Rattle.vg_store.specs.declared.mem_files.MemFiles.{MemFiles}

-- the bytes of the file of this name
abbrev pub held : MemFiles → List ℕ → Option (List ℕ)
held files name = told_of files.files name

-- the name of the file that was opened last
abbrev pub source_of : MemFiles → Option (List ℕ)
source_of files = named files.files files.source

-- the name of the file at which the last read fault came
abbrev pub read_blame_of : MemFiles → Option (List ℕ)
read_blame_of files = named files.files files.read_faults.blamed

-- how many bytes were taken since the last open
abbrev pub taken_of : MemFiles → ℕ
taken_of files = files.place

-- whether a file is open
abbrev pub is_reading : MemFiles → Bool
is_reading files = files.reading

-- the name of the file of which a draft was begun last
abbrev pub target_of : MemFiles → Option (List ℕ)
target_of files = named files.files files.target

-- the name of the file at which the last write fault came
abbrev pub write_blame_of : MemFiles → Option (List ℕ)
write_blame_of files = named files.files files.write_faults.blamed

-- whether a draft is being written
abbrev pub is_writing : MemFiles → Bool
is_writing files = files.writing

-- the bytes of the draft that was begun last
abbrev pub drafted : MemFiles → List ℕ
drafted files = files.draft.items

-- the drafts that wait, the oldest first
abbrev pub drafts_of : MemFiles → List Draft
drafts_of files = map (draft_of files.files) files.waiting.items

-- how many more bytes fit in the memory that the draft has
abbrev pub room_of : MemFiles → ℕ
room_of files = vec_capacity files.draft - vec_len files.draft

-- how many more drafts fit in the memory that those that wait have
abbrev pub places_of : MemFiles → ℕ
places_of files = vec_capacity files.waiting - vec_len files.waiting

-- the most bytes that one call moves
abbrev pub chunk_of : MemFiles → ℕ
chunk_of files = files.chunk

-- how many calls were made
abbrev pub calls_of : MemFiles → ℕ
calls_of files = files.calls.made

-- the numbers of the calls that fail
abbrev pub fails_of : MemFiles → List ℕ
fails_of files = files.calls.fails.items

-- how many calls that read failed
abbrev pub read_faults_of : MemFiles → ℕ
read_faults_of files = files.read_faults.count

-- how many calls that write failed
abbrev pub write_faults_of : MemFiles → ℕ
write_faults_of files = files.write_faults.count

-- what contracts see of them as files
abbrev pub state_of : MemFiles → FilesState
state_of files = record {
  holds = held files;
  read_faults = read_faults_of files;
  read_blame = read_blame_of files;
  source = source_of files;
  taken = taken_of files;
  reading = is_reading files;
  write_faults = write_faults_of files;
  write_blame = write_blame_of files;
  target = target_of files;
  writing = is_writing files;
  draft = Some (drafted files);
  drafts = drafts_of files;
}

-- what was not taken yet of the file that is read
abbrev pub left_of : MemFiles → List ℕ
left_of files = drop files.place (unwrap_or (read_file (state_of files)) [])
