use Rattle.std.proofs.Common.{ap, arith, length}
use Rattle.spef_file.proofs.ZipLemmas.{length_of}
use Rattle.spef_file.proofs.sections.Sections.len.Goals as goal

pub returns : goal.returns
returns c =
    let all = length_of c.self.inside.names c.self.inside.rows.items c.self.invariant.0 in
    omega (arith, c.len.ensures, all, ap length c.self.view_is)
