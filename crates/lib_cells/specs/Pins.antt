-- What the code gathers of a pin's timing groups: for the functions between.
use Rattle.std.specs.Prelude.{ℕ, max, List, [], Option, Some, None}
use Rattle.std.specs.List.{cons_option}
use Rattle.lib_text.specs.Groups.{Group}
use Rattle.lib_cells.specs.Values.{given}

-- the greater of two numbers, or the one that is there
abbrev pub greater : Option ℕ → Option ℕ → Option ℕ
greater None b = b
greater (Some a) None = Some a
greater (Some a) (Some b) = Some (max a b)

-- the numbers that two attributes of a group give
abbrev pub pair_in : List ℕ → List ℕ → ℕ → Group → List ℕ
pair_in rise fall places group = cons_option (given group rise places) (cons_option (given group fall places) [])
