-- What is told of the files of the system.
use Rattle.std.specs.Prelude.{is_some, map}
use Rattle.vg_store.specs.States.{FilesState, untold, untold_draft}
use Rattle.vg_store.specs.declared.real_files.RealFiles.{RealFiles}

-- what contracts see of them as files
abbrev pub state_of : {R F D : Type 0} → RealFiles R F D → FilesState
state_of files =
    untold files.read_faults files.taken (is_some files.reader) files.write_faults (is_some files.writer)
    (map (λ _. untold_draft) files.waiting.items)
