-- What an item has besides instances: for the functions between.
use Rattle.std.specs.Prelude.{◌≡◌, Bool, ◌||◌, List, drop, filter, find}
use Rattle.ver_text.specs.declared.kind.Kind.TheVariants.{EndModule}
use Rattle.ver_syntax.specs.declared.row.Place.TheVariants.{Ports, Assignment}
use Rattle.ver_syntax.specs.declared.row.Row.{Row}
use Rattle.ver_syntax.specs.Grammar.{is}
use Rattle.ver_items.specs.Sections.{is_name_in, sections}
use Rattle.ver_items.specs.Declarations.{begins_declaration}

-- a token begins a declaration, ends the module, or is an identifier of a port or in an assignment
abbrev pub is_of_others : Row → Bool
is_of_others r = begins_declaration r || (is EndModule r.kind || (is_name_in Ports r || is_name_in Assignment r))

-- of what is none of instances, these tokens have all that the tokens of an item have
pub record HasOthers (rows others : List Row) : Type 0 where
  pub declarations : sections begins_declaration others ≡ sections begins_declaration rows
  pub ports : filter (is_name_in Ports) (drop 1 others) ≡ filter (is_name_in Ports) (drop 1 rows)
  pub assigned : sections (is_name_in Assignment) (drop 1 others) ≡ sections (is_name_in Assignment) (drop 1 rows)
  pub end : find (λ r. is EndModule r.kind) others ≡ find (λ r. is EndModule r.kind) rows
