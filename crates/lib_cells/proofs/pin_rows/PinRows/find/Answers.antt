use Rattle.std.proofs.Common.{◌∙◌, sym}
use Rattle.std.specs.Str.{bytes_eq}
use Rattle.lib_cells.proofs.LookUpLemmas.{absent, present}
use Rattle.lib_cells.specs.PinInfos.{PinInfo}
use Rattle.lib_cells.proofs.pin_rows.PinRows.find.Goals as goal

pub returns-in_err-at : goal.returns-in_err-at
returns-in_err-at c =
    c.from_residual.ensures
    ∙ sym (absent (λ (p : PinInfo). bytes_eq c.args.name.now p.name) c.args.self.now (sym c.place_of.ensures ∙ c.in_err-at.was))

pub returns : goal.returns
returns c =
    sym (present (λ (p : PinInfo). bytes_eq c.args.name.now p.name) c.args.self.now c.in_ok-at.at (sym c.place_of.ensures ∙ c.in_ok-at.was)
    ∙ c.get.ensures)
