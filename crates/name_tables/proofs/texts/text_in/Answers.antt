use Rattle.std.proofs.Common.{sym, ◌∙◌, ap, get_or}
use Rattle.vg_scan.specs.Lines.{part}
use Rattle.name_tables.proofs.TextsLemmas.{get-texts_of}
use Rattle.name_tables.proofs.texts.text_in.Goals as goal

pub returns : goal.returns
returns c = c.text_at.ensures ∙ ap (λ k. part c.args.bytes.now k (get_or c.args.ends.now c.args.at 0)) c.start_of.ensures ∙ sym (get-texts_of c.args.bytes.now 0 c.args.ends.now c.args.at c.requires)
