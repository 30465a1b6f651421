use Rattle.std.proofs.Common.{◌≡◌, ℕ, List, map, take, find, None}
use Rattle.spef_file.specs.Files.{file_lines, said_by}
use Rattle.vg_change.specs.Named.{begins}
use Rattle.vg_change.proofs.prefix.mapped_with.Given as goal

abbrev pub invariant-row : goal.invariant-row
invariant-row l = find (λ (name : List ℕ). begins name l.prefix) (take l.at (map (λ (row : List ℕ × List ℕ). row.1) (said_by (file_lines l.design.spef)).names)) ≡ None
