use Rattle.std.proofs.Common.{ap, sym, ◌∙◌}
use Rattle.std.specs.Str.Lines.{lines}
use Rattle.vg_scan.specs.Lines.{part}
use Rattle.spef_file.specs.Indexes.{between}
use Rattle.spef_file.proofs.TextLemmas.{inner_is}
use Rattle.spef_file.proofs.text.net_lines.Goals as goal

pub returns-clause-lines : goal.returns-clause-lines
returns-clause-lines c =
    let section = c.args.section.now in
    c.inner_text.ensures.lines
    ∙ ap (λ t. between (lines t)) c.text_at.ensures
    ∙ ap (λ t. between (lines (part t section.from section.to))) (c.as_bytes-bytes.ensures.text ∙ sym c.as_bytes-bytes.ensures.clear)
    ∙ inner_is c.args.text.now section c.requires
