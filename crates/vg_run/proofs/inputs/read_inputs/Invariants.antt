use Rattle.std.proofs.Common.{◌≤◌, take}
use Rattle.std.specs.List.{All}
use Rattle.vg_store.specs.States.{KeepsWriting}
use Rattle.vg_store.specs.Writing.{FilesStay}
use Rattle.vg_run.specs.Inputs.{texts_read}
use Rattle.vg_run.specs.Inputs.{told, IsRead}
use Rattle.vg_run.proofs.inputs.read_inputs.Given as goal

abbrev pub invariant-input : goal.invariant-input
invariant-input g l = record {
  read : All (λ input. IsRead (told (g.F.Files.state l.fn.files) l.ask input) (texts_read l.texts input)) (take l.input-index l.order);
  kept : FilesStay (g.F.Files.state l.fn.files) (g.F.Files.state l.files);
  writing : KeepsWriting (g.F.Files.state l.fn.files) (g.F.Files.state l.files);
  later : (g.F.Files.state l.fn.files).read_faults ≤ (g.F.Files.state l.files).read_faults;
}
