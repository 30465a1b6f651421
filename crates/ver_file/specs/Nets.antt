-- The nets of a module. Source: IEEE Std 1364-2005, clauses 4.2 and 4.5 (implicit declarations): an identifier that is
-- not declared and stands in a connection or an assignment is a scalar.
use Rattle.std.specs.Prelude.{ℕ, Bool, not, ◌&&◌, ◌++◌, List, [], ◌∷◌, map, Option, if◌then◌else◌}
use Rattle.std.specs.List.{flat_map, list_any}
use Rattle.std.specs.Str.{bytes_eq}
use Rattle.ver_text.specs.Names.{is_escaped}
use Rattle.ver_syntax.specs.declared.row.Row.{Row}
use Rattle.ver_syntax.specs.Rows.{rows_of}
use Rattle.ver_items.specs.Sections.{is_net_name, bytes_at, name_at}
use Rattle.ver_items.specs.Declarations.{Declared, declared_of, direction_in, is_supply_in, range_in}
use Rattle.ver_module.specs.Netlists.{Net, net_name}
use Rattle.ver_module.specs.Ranges.{bits_of}

-- a token is an identifier of nets that is none of these
abbrev pub is_first : List ℕ → List (List ℕ) → Row → Bool
is_first text names r = is_net_name r && not (list_any (bytes_eq (name_at text r)) names)

-- the first token of each identifier of nets, where these are the identifiers before
unfoldable pub first_tokens : List ℕ → List (List ℕ) → List Row → List Row
first_tokens text names [] = []
first_tokens text names (r ∷ rows) =
    if is_first text names r
    then r ∷ first_tokens text (names ++ name_at text r ∷ []) rows
    else first_tokens text names rows

-- the first tokens of all
abbrev pub tokens_of_nets : List ℕ → List Row
tokens_of_nets text = first_tokens text [] (rows_of text)

-- a net of the identifier whose first token this is
abbrev pub net : List ℕ → List Declared → Row → Option ℕ → Net
net text ds r bit = record {
  name = net_name (name_at text r) bit;
  base = name_at text r;
  bit = bit;
  escaped = is_escaped (bytes_at text r);
  port = direction_in ds (name_at text r);
  supply = is_supply_in ds (name_at text r);
}

-- its nets: a vector gives its bits from its left bound
abbrev pub nets_at : List ℕ → List Declared → Row → List Net
nets_at text ds r = map (net text ds r) (bits_of (range_in ds (name_at text r)))

-- the nets of a text, in the order in which their identifiers come first
abbrev pub nets_of : List ℕ → List Net
nets_of text = flat_map (nets_at text (declared_of text)) (tokens_of_nets text)

-- their names
abbrev pub net_names : List ℕ → List (List ℕ)
net_names text = map (λ n. n.name) (nets_of text)
