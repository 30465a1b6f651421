-- The lines of the last capacitor and of the first connection in examples/fork.spef, as they are written: the delimiter
-- is `:`, and femtofarads have three decimal places of attofarads.
use Rattle.std.proofs.Common.{◌≡◌, [], ◌∷◌, ◌++◌, refl, ap, ◌∙◌, codes}
use Rattle.std.specs.Fmt.{decimal, digits}
use Rattle.vg_num.specs.Printed.{scaled_text}
use Rattle.vg_scan.specs.declared.chars.Chars.{Chars}
use Rattle.vg_scan.specs.declared.name.NodeName.{NodeName}
use Rattle.spef_net.specs.declared.net.ConnKind.TheVariants.{Pin}
use Rattle.spef_net.specs.declared.net.Direction.TheVariants.{Out}
use Rattle.spef_write.specs.Texts.{spaced, printed_node, conn_text}

value : scaled_text 50000 3 ≡ codes "50"
unfolding scaled_text digits
value = refl

abbrev node : NodeName
node = record { owner = codes "u3"; leaf = codes "A" }

number : decimal 3 ≡ codes "3"
unfolding digits
number = refl

line : (chars : Chars) → chars.delimiter ≡ 58 → spaced (decimal 3 ∷ printed_node chars node ∷ scaled_text 50000 3 ∷ []) ≡ codes "3 u3:A 50"
line chars e =
    ap (λ v. spaced (decimal 3 ∷ printed_node chars node ∷ v ∷ [])) value
    ∙ ap (λ v. spaced (v ∷ printed_node chars node ∷ codes "50" ∷ [])) number
    ∙ ap (λ d. codes "3 u3" ++ d ∷ codes "A 50") e

abbrev driver : NodeName
driver = record { owner = codes "u1"; leaf = codes "Z" }

connection : (chars : Chars) → chars.delimiter ≡ 58 → conn_text chars Pin Out driver [] ≡ codes "*I u1:Z O"
connection chars e = ap (λ d. codes "*I u1" ++ d ∷ codes "Z O") e

-- the same with a note
with_note : (chars : Chars) → chars.delimiter ≡ 58 → conn_text chars Pin Out driver (codes "*D BUF") ≡ codes "*I u1:Z O *D BUF"
with_note chars e = ap (λ d. codes "*I u1" ++ d ∷ codes "Z O *D BUF") e
