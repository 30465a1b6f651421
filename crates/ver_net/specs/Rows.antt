-- The pins on each net, however they are kept: for the functions between.
use Rattle.std.specs.Prelude.{List}
use Rattle.ver_net.specs.declared.pin_ref.PinRef.{PinRef}
use Rattle.ver_net.specs.declared.rows.Rows.{Rows}
use Rattle.ver_net.specs.declared.rows.Rows.TheVariants.{Dense, Sparse}

-- the pins on each net
abbrev pub rows_by : Rows → List (List PinRef)
rows_by (Dense rows) = rows
rows_by (Sparse rows) = rows
