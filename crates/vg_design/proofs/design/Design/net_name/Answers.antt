use Rattle.std.proofs.Common.{sym, ap, ◌∙◌, length, slice_get, arith}
use Rattle.vg_design.specs.Designs.{Design, net_names}
use Rattle.vg_design.proofs.NameListLemmas.{names_at, names_count}
use Rattle.vg_design.proofs.design.Design.net_name.Goals as goal

pub name-requires : goal.name-requires
name-requires c =
    let count = names_count c.self.inside.text c.self.inside.index c.self.invariant.index_of in
    let same = ap (λ (d : Design). length (net_names d.spef)) c.self.view_is in
    omega (arith, c.requires, count, same)

pub returns : goal.returns
returns c =
    ap (λ (d : Design). slice_get (net_names d.spef) c.args.at) (sym c.self.view_is)
    ∙ names_at c.self.inside.text c.self.inside.index c.self.invariant.index_of c.args.at c.name.result.now c.name.ensures
