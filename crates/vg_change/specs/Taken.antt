-- The names of a design that a new name could meet, and the first of them that begins with a prefix.
use Rattle.std.specs.Prelude.{ℕ, List, ◌++◌, map, find, Option}
use Rattle.spef_file.specs.Files.{file_lines, said_by}
use Rattle.vg_design.specs.Designs.{Design, net_names}
use Rattle.vg_change.specs.Named.{begins}

-- the instances and the nets of the netlist, the names that the SPEF file maps, and its nets, each in the order of its
-- file
abbrev pub names_of : Design → List (List ℕ)
names_of d =
    map (λ instance. instance.name) d.netlist.instances
    ++ (map (λ net. net.name) d.netlist.nets
    ++ (map (λ row. row.1) (said_by (file_lines d.spef)).names ++ net_names d.spef))

-- the first that begins with the prefix
abbrev pub taken : Design → List ℕ → Option (List ℕ)
taken d prefix = find (λ name. begins name prefix) (names_of d)
