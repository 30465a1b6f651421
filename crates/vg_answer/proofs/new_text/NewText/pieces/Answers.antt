use Rattle.std.proofs.Common.{◌∙◌, ap, sym}
use Rattle.vg_answer.specs.NewTexts.{joined, text_of}
use Rattle.vg_answer.proofs.NewTextLemmas.{concat-made}
use Rattle.vg_answer.proofs.new_text.NewText.pieces.Goals as goal

pub returns-in-Made : goal.returns-in-Made
returns-in-Made c = concat-made c.deref.result.now ∙ ap joined c.deref.ensures.value ∙ ap text_of (sym c.in-Made.is)
