-- The connections of pins. Source: IEEE Std 1364-2005, clause 12.3.6 (connections by name).
use Rattle.std.specs.Prelude.{ℕ, ◌-◌, List, [], ◌∷◌, drop, length, take}
use Rattle.std.specs.List.{take_while}
use Rattle.vg_scan.specs.declared.lines.Span.{Span}
use Rattle.ver_syntax.specs.declared.row.Place.TheVariants.{Connection}
use Rattle.ver_syntax.specs.declared.row.Row.{Row}
use Rattle.ver_items.specs.Sections.{Section, stands_in}

-- the tokens of a connection, in its brackets, and the bracket that ends it
abbrev pub connection_of : Section → List Row
connection_of p = take_while (stands_in Connection) (drop 1 p.body)

-- the same without the bracket
abbrev pub expression_in : List Row → List Row
expression_in connection = take (length connection - 1) connection

-- the tokens of a pin's expression
abbrev pub expression_of : Section → List Row
expression_of p = expression_in (connection_of p)

-- where an expression ends, of these tokens and the bracket after them; an empty one ends where the bracket begins
abbrev pub end_of : ℕ → List Row → ℕ
end_of at [] = at
end_of at (r ∷ []) = at
end_of at (r ∷ q ∷ rows) = end_of r.to (q ∷ rows)

-- where an expression begins
abbrev pub start_of : List Row → ℕ
start_of [] = 0
start_of (r ∷ rows) = r.from

-- where the expression of a connection stands, without blanks and comments at its ends
abbrev pub span_of : List Row → Span
span_of rows = record { from = start_of rows; to = end_of (start_of rows) rows }
