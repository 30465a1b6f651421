-- Written nets, read again by their lines.
use Rattle.std.proofs.Common.{◌≡◌, false, sym, subst}
use Rattle.spef_net.specs.Denoted.{IsNet}
use Rattle.spef_net.specs.Faults.{IsFaultless}
use Rattle.spef_net.specs.Statements.{statements}
use Rattle.spef_write.specs.Sections.{inner_lines}
use Rattle.spef_write.specs.SectionLaws.{said_by}
use Rattle.spef_write.proofs.AgainLemmas.{written_nets_again}
use Rattle.spef_write.proofs.ClearLemmas.{said_nets_are_faultless}
use Rattle.spef_write.proofs.SayLemmas.{inner_lines_say}
use Rattle.spef_patch_laws.specs.SectionLaws.{WrittenTextsAreRead}

pub written_texts : WrittenTextsAreRead
written_texts file header net meant writable =
    let say : statements file (inner_lines header net) ≡ said_by net = inner_lines_say file header net meant writable in (
      subst (IsFaultless net.name) (sym say) (said_nets_are_faultless net writable),
      λ other is. written_nets_again net other writable (subst (λ ls. IsNet net.name false ls other) say is.denoted),
    )
