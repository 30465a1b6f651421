-- What is said of identifiers, as the code keeps it: for the functions between.
use Rattle.std.specs.Prelude.{ℕ, List, map, Bool, ◌||◌, is_some, if◌then◌else◌}
use Rattle.std.specs.Option.{option_or}
use Rattle.ver_items.specs.declared.heading.Heading.{Heading}
use Rattle.ver_module.specs.declared.net.Identifier.{Identifier}
use Rattle.ver_items.specs.Declarations.{Declared, first_declared}
use Rattle.ver_file.specs.Nets.{tokens_of_nets}
use Rattle.ver_items.specs.Sections.{name_at}

-- the names of the identifiers of nets, in the order in which they come first
abbrev pub identifiers_of : List ℕ → List (List ℕ)
identifiers_of text = map (name_at text) (tokens_of_nets text)

-- one of these declares this name
abbrev pub is_declared : List Declared → List ℕ → Bool
is_declared ds name = is_some (first_declared ds name)

-- what holds of an identifier, declared so far or not, where one declaration more says this
abbrev pub with_heading : Identifier → Bool → Heading → Identifier
with_heading identifier declared heading = record {
  range = if declared then identifier.range else heading.range;
  escaped = identifier.escaped;
  port = option_or identifier.port heading.direction;
  supply = identifier.supply || heading.supply;
}
