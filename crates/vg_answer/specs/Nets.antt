-- The nets that are asked for, and the problems of posed nets.
use Rattle.std.specs.Prelude.{ℕ, List, [], ◌∷◌, Option, Some, None, option_map}
use Rattle.std.specs.Borrow.{Bor}
use Rattle.vg_design.specs.Designs.{Design, net_names}
use Rattle.vg_design.specs.Nets.{names_of}
use Rattle.vg_design.specs.declared.net_problem.NetProblem.{NetProblem}
use Rattle.vg_design.specs.declared.net_problem.PosedNet.{PosedNet}

-- the nets that are asked for, in the order in which they are answered: all of them as the parasitics have them
abbrev pub nets_for : Design → Option (List ℕ) → List (List ℕ)
nets_for d (Some name) = name ∷ []
nets_for d None = net_names d.spef

-- the problem of a posed net, and the names of the nodes of its tree
abbrev pub problem_in : PosedNet → NetProblem
problem_in posed = record { problem = posed.problem; names = names_of posed.ready.pinned.net.par posed.ready.order }

-- the one net that is asked for, by its name, or none where all are
abbrev pub named : Option (Bor (List ℕ)) → Option (List ℕ)
named net = option_map (λ name. name.now) net
