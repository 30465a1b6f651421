use Rattle.std.proofs.Common.{◌+◌, ◌∷◌, ◌∙◌, List, ℕ, ap, drop, sym}
use Rattle.vg_scan.specs.Lines.{part}
use Rattle.vg_patch.specs.Edits.{edit_of}
use Rattle.vg_patch.proofs.EditLemmas.{next_edit}
use Rattle.vg_patch.proofs.patch.Patch.part.Goals as goal

pub returns : goal.returns
returns c =
    let row = c.index-row.result.now in
    next_edit c.self.inside.text.items c.self.inside.rows.items c.args.self.now c.args.number row c.self.view_is c.requires c.index-row.ensures
    ∙ ap (λ (text : List ℕ). edit_of row.part text ∷ drop (c.args.number + 1) c.args.self.now) (sym (c.text_at.ensures ∙ ap (λ (text : List ℕ). part text row.from row.to) c.deref.ensures.value))
