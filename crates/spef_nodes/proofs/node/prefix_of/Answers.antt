use Rattle.std.proofs.Common.{sym, refl}
use Rattle.spef_file.specs.IndexFiles.{file_of}
use Rattle.spef_nodes.specs.Spellings.{is_itself}
use Rattle.spef_nodes.proofs.NodeLemmas.{prefix_names}
use Rattle.spef_nodes.proofs.SpellLemmas.{unescaped, all_take}
use Rattle.spef_nodes.proofs.node.prefix_of.Goals as goal

pub last_of-requires : goal.last_of-requires
last_of-requires c = unescaped c.args.index.now.header.chars c.args.text.now (sym c.if-not-is_plain.ensures)

pub is_name_of-requires : goal.is_name_of-requires
is_name_of-requires c = all_take (is_itself c.args.index.now.header.chars) c.in-Some.at c.args.text.now (sym c.if-not-is_plain.ensures)

pub returns-then-is_name_of : goal.returns-then-is_name_of
returns-then-is_name_of c = λ leaf some digits.
    prefix_names (file_of c.args.index.now) c.args.net.now c.args.text.now leaf c.in-Some.at (sym c.if-not-is_plain.ensures) (c.if-not-are_digits_plain.ensures refl)
    (sym c.in-Some.ensures.place) c.in-Some.ensures.within (c.if-is_name_of.ensures refl) digits
