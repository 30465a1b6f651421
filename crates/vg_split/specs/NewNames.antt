-- The names of cells that are put in, and of the nets behind them.
use Rattle.std.specs.Prelude.{ℕ, List, ◌++◌, codes}
use Rattle.std.specs.Fmt.{decimal}

-- the instance of the cell of a number
abbrev pub cell_name : List ℕ → ℕ → List ℕ
cell_name prefix number = prefix ++ codes "u" ++ decimal number

-- the new net of a number
abbrev pub net_name : List ℕ → ℕ → List ℕ
net_name prefix number = prefix ++ codes "n" ++ decimal number
