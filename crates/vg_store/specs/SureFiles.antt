-- What files that never fail hold.
use Rattle.std.specs.Prelude.{ℕ, List, [], drop, map, Option, None, unwrap_or}
use Rattle.vg_store.specs.Contents.{draft_named, named, told_of}
use Rattle.vg_store.specs.Reading.{read_file}
use Rattle.vg_store.specs.States.{FilesState}
use Rattle.vg_store.specs.declared.sure_files.SureFiles.{SureFiles}

-- the bytes of the file of this name, where they are told: it was added, and no draft of it was published since
abbrev pub told_in : SureFiles → List ℕ → Option (List ℕ)
told_in files name = told_of files.files name

-- what contracts see of them as files: no call to read ever fails, and the bytes of no draft are told
abbrev pub state_of : SureFiles → FilesState
state_of files = record {
  holds = told_in files;
  read_faults = 0;
  read_blame = None;
  source = named files.files files.source;
  taken = files.place;
  reading = files.reading;
  write_faults = files.write_faults;
  write_blame = None;
  target = named files.files files.target;
  writing = files.writing;
  draft = None;
  drafts = map (draft_named files.files) files.waiting.items;
}

-- what was not taken yet of the file that is read: nothing, where it is not told
abbrev pub left_of : SureFiles → List ℕ
left_of files = drop files.place (unwrap_or (read_file (state_of files)) [])
