-- What begins sections, as the code names it: for the functions between.
use Rattle.std.specs.Prelude.{Bool, not}
use Rattle.ver_syntax.specs.declared.row.Place.TheVariants.{Assignment, Instances, Pins, Connection}
use Rattle.ver_syntax.specs.declared.row.Row.{Row}
use Rattle.ver_items.specs.declared.begin.Begin.{Begin}
use Rattle.ver_items.specs.declared.begin.Begin.TheVariants.{Declaration, Assigned, Identifier, Instance, Pin, Outside}
use Rattle.ver_items.specs.Sections.{is_identifier, is_name_in, stands_in}
use Rattle.ver_items.specs.Declarations.{begins_declaration}

-- a token begins a section
abbrev pub begins : Begin → Row → Bool
begins Declaration r = begins_declaration r
begins Assigned r = is_name_in Assignment r
begins Identifier r = is_identifier r
begins Instance r = is_name_in Instances r
begins Pin r = is_name_in Pins r
begins Outside r = not (stands_in Connection r)
