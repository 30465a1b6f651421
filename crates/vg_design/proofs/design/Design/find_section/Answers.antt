use Rattle.std.proofs.Common.{sym, ap, ◌∙◌, ℕ, List, ◌<◌, length, IfSome, subst}
use Rattle.name_tables.specs.Distinct.{number_of}
use Rattle.vg_design.specs.Designs.{Design, net_names}
use Rattle.vg_design.proofs.NameListLemmas.{names_count, names_same}
use Rattle.vg_design.proofs.design.Design.find_section.Goals as goal

pub returns-clause-place : goal.returns-clause-place
returns-clause-place c =
    c.find.ensures.place
    ∙ ap (λ (names : List (List ℕ)). number_of names c.args.name.now) (names_same c.self.inside.text c.self.inside.index c.self.invariant.index_of)
    ∙ ap (λ (d : Design). number_of (net_names d.spef) c.args.name.now) c.self.view_is

pub returns-clause-within : goal.returns-clause-within
returns-clause-within c =
    subst (λ (n : ℕ). IfSome c.find.result (λ at. at < n))
    (sym (names_count c.self.inside.text c.self.inside.index c.self.invariant.index_of) ∙ ap (λ (d : Design). length (net_names d.spef)) c.self.view_is)
    c.find.ensures.within
