use Rattle.std.proofs.Common.{◌≡◌, ◌+◌, ◌-◌, ◌^◌, ◌≤◌, ℕ, List, vec_len}
use Rattle.vg_store.specs.Reading.{HasRead, read_file}
use Rattle.vg_store.specs.States.{KeepsWriting}
use Rattle.vg_store.proofs.read.take_pieces.Given as goal

abbrev pub invariant-pieces : goal.invariant-pieces
invariant-pieces g l = record {
  read : HasRead (g.F.Files.state l.files) l.bytes.items;
  bound : vec_len l.bytes ≤ 2 ^ 28 + 1;
  same_source : (g.F.Files.state l.files).source ≡ (g.F.Files.state l.fn.files).source;
  same_file : read_file (g.F.Files.state l.files) ≡ read_file (g.F.Files.state l.fn.files);
  later : (g.F.Files.state l.fn.files).read_faults ≤ (g.F.Files.state l.files).read_faults;
  kept : (file : List ℕ) → (g.F.Files.state l.files).holds file ≡ (g.F.Files.state l.fn.files).holds file;
  writing : KeepsWriting (g.F.Files.state l.fn.files) (g.F.Files.state l.files);
}

abbrev pub decreases-pieces : goal.decreases-pieces
decreases-pieces g l = 2 ^ 28 + 1 - vec_len l.bytes
