use Rattle.std.proofs.Common.{◌≡◌, ◌-◌, ◌≤◌, length, take, true}
use Rattle.vg_store.specs.States.{KeepsReading}
use Rattle.vg_store.specs.Writing.{DraftGains}
use Rattle.vg_store.proofs.write.append.Given as goal

abbrev pub invariant-pieces : goal.invariant-pieces
invariant-pieces g l = record {
  within : l.done ≤ length l.bytes;
  gained : DraftGains (g.F.Files.state l.fn.files) (g.F.Files.state l.files) (take l.done l.bytes);
  later : (g.F.Files.state l.fn.files).write_faults ≤ (g.F.Files.state l.files).write_faults;
  still_writing : (g.F.Files.state l.files).writing ≡ true;
  same_target : (g.F.Files.state l.files).target ≡ (g.F.Files.state l.fn.files).target;
  same_blame : (g.F.Files.state l.files).write_blame ≡ (g.F.Files.state l.fn.files).write_blame;
  reading : KeepsReading (g.F.Files.state l.fn.files) (g.F.Files.state l.files);
}

abbrev pub decreases-pieces : goal.decreases-pieces
decreases-pieces g l = length l.bytes - l.done
