use Rattle.std.proofs.Common.{ap, length, arith}
use Rattle.name_tables.proofs.TextsLemmas.{length-texts_of}
use Rattle.name_tables.proofs.texts.Texts.len.Goals as goal

pub returns : goal.returns
returns c = omega (arith, length-texts_of c.self.inside.bytes.items 0 c.self.inside.ends.items, ap length c.self.view_is)
