-- The lines of mode `segment`.
use Rattle.std.specs.Prelude.{ℕ, List, ◌++◌, codes}
use Rattle.std.specs.Fmt.{decimal}

-- `net NAME parts M nodes K`
abbrev pub segment_line : List ℕ → ℕ → ℕ → List ℕ
segment_line name parts nodes =
    codes "net " ++ (name ++ (codes " parts " ++ (decimal parts ++ (codes " nodes " ++ (decimal nodes ++ codes "\n")))))
