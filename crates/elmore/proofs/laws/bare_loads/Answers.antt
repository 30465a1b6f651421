use Rattle.std.proofs.Common.{◌≡◌, ℕ, ap, length, List, Option, None}
use Rattle.elmore.specs.Cells.{cell_at, rep_of}
use Rattle.elmore.specs.Trees.{parent_of, resistance, capacitance}
use Rattle.elmore.specs.PlacedLaws.{HasNoCell}
use Rattle.elmore.specs.declared.rep.Rep.{Rep}
use Rattle.elmore.proofs.WireLemmas.{bare_load, bare_delay}
use Rattle.elmore.proofs.laws.bare_loads.Goals as goal

bare : (reps : List Rep) (cells : List (Option ℕ)) → HasNoCell cells → (u : ℕ) → cell_at reps cells u ≡ None
bare reps cells none u = ap (rep_of reps) (none u)

pub returns : goal.returns
returns c = λ tree reps cells none. record {
  loads = λ v. bare_load (parent_of tree) (capacitance tree) (cell_at reps cells) (bare reps cells none) (length tree) v;
  delays = λ w. bare_delay (parent_of tree) (resistance tree) (capacitance tree) (cell_at reps cells) (bare reps cells none) (length tree) w;
}
