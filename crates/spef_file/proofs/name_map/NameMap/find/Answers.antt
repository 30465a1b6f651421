use Rattle.std.proofs.Common.{◌∙◌, sym, ap, Some}
use Rattle.spef_file.specs.Rows.{mapped}
use Rattle.spef_file.proofs.ZipLemmas.{not_mapped, mapped_at}
use Rattle.spef_file.proofs.name_map.NameMap.find.Goals as goal

pub returns-in-None : goal.returns-in-None
returns-in-None c =
    not_mapped c.self.inside.indices c.self.inside.names c.args.digits.now c.self.invariant (sym c.find.ensures ∙ c.in-None.is) ∙ ap (λ rows. mapped rows c.args.digits.now) c.self.view_is

pub returns-in-Some : goal.returns-in-Some
returns-in-Some c =
    ap Some c.get.ensures
    ∙ mapped_at c.self.inside.indices c.self.inside.names c.args.digits.now c.in-Some.row c.self.invariant (sym c.find.ensures ∙ c.in-Some.is)
    ∙ ap (λ rows. mapped rows c.args.digits.now) c.self.view_is
