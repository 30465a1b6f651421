use Rattle.std.proofs.Common.{◌≡◌, ◌≤◌, false, map, take}
use Rattle.vg_store.specs.Writing.{FilesStay}
use Rattle.vg_run.specs.Drafts.{AreDrafts}
use Rattle.vg_answer.specs.Answers.{written_by}
use Rattle.vg_run.proofs.publish.draft_files.Given as goal

abbrev pub invariant-file : goal.invariant-file
invariant-file g l = record {
  drafted : AreDrafts (g.F.Files.state l.fn.files) l.ask (take l.file-index (map written_by l.written)) (g.F.Files.state l.files).drafts;
  shut : (g.F.Files.state l.files).writing ≡ false;
  kept : FilesStay (g.F.Files.state l.fn.files) (g.F.Files.state l.files);
  later : (g.F.Files.state l.fn.files).write_faults ≤ (g.F.Files.state l.files).write_faults;
}
