use Rattle.std.proofs.Common.{◌≡◌, ◌≤◌, false, drop, map, take}
use Rattle.vg_run.specs.Drafts.{AreDrafts}
use Rattle.vg_run.specs.Run.{AreHeld, OthersStay}
use Rattle.vg_answer.specs.Answers.{written_by}
use Rattle.vg_run.proofs.publish.publish_files.Given as goal

abbrev pub invariant-file : goal.invariant-file
invariant-file g l = record {
  held : AreHeld (g.F.Files.state l.fn.files, g.F.Files.state l.files) l.ask (take l.file-index (map written_by l.written));
  others : OthersStay (g.F.Files.state l.fn.files, g.F.Files.state l.files) l.ask (take l.file-index (map written_by l.written));
  waiting : AreDrafts (g.F.Files.state l.fn.files) l.ask (drop l.file-index (map written_by l.written)) (g.F.Files.state l.files).drafts;
  shut : (g.F.Files.state l.files).writing ≡ false;
  later : (g.F.Files.state l.fn.files).write_faults ≤ (g.F.Files.state l.files).write_faults;
}
