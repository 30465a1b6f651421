use Rattle.std.proofs.Common.{◌∙◌, sym, ap, length}
use Rattle.spef_file.proofs.ZipLemmas.{length_of}
use Rattle.spef_file.proofs.name_map.NameMap.len.Goals as goal

pub returns : goal.returns
returns c = c.len.ensures ∙ sym (length_of c.self.inside.indices c.self.inside.names c.self.invariant) ∙ ap length c.self.view_is
