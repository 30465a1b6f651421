use Rattle.std.proofs.Common.{◌≡◌, ◌++◌, ◌≤◌, ℕ, List, true}
use Rattle.std.specs.List.{concat}
use Rattle.vg_answer.specs.NewTexts.{pieces_left}
use Rattle.vg_store.specs.States.{KeepsReading}
use Rattle.vg_store.specs.Writing.{DraftGains}
use Rattle.vg_run.proofs.write.append_pieces.Given as goal

abbrev pub invariant-piece : goal.invariant-piece
invariant-piece g l = record {
  gained : (done : List ℕ) × (done ++ (l.waiting.items ++ concat (pieces_left l.piece-iterator)) ≡ concat (pieces_left l.initial.piece-iterator)) × DraftGains (g.F.Files.state l.fn.files) (g.F.Files.state l.files) done;
  later : (g.F.Files.state l.fn.files).write_faults ≤ (g.F.Files.state l.files).write_faults;
  still_writing : (g.F.Files.state l.files).writing ≡ true;
  same_target : (g.F.Files.state l.files).target ≡ (g.F.Files.state l.fn.files).target;
  same_blame : (g.F.Files.state l.files).write_blame ≡ (g.F.Files.state l.fn.files).write_blame;
  reading : KeepsReading (g.F.Files.state l.fn.files) (g.F.Files.state l.files);
}
