use Rattle.std.proofs.Common.{ℕ, List, sym, ap, ◌∙◌}
use Rattle.std.specs.List.{slice_get}
use Rattle.std.proofs.lemmas.Option.{slice_get-map}
use Rattle.spef_file.specs.Files.{File}
use Rattle.vg_change.specs.Named.{begins}
use Rattle.vg_change.proofs.FindLemmas.{found_next, none_more}
use Rattle.vg_change.proofs.prefix.mapped_with.Goals as goal

pub returns-then-starts_with : goal.returns-then-starts_with
returns-then-starts_with c =
    let said = ap (λ (f : File). f.names) c.index.ensures.said.says in
    let here = slice_get-map (λ (row : List ℕ × List ℕ). row.1) _ c.row.at ∙ c.name-name.ensures in
    sym (found_next (λ (name : List ℕ). begins name c.args.prefix.now) _ c.row.at c.name-name.result.now
    (ap (λ (rows : List (List ℕ × List ℕ)). slice_get (Rattle.std.specs.Prelude.map (λ (row : List ℕ × List ℕ). row.1) rows) c.row.at) (sym said) ∙ here)
    (sym c.starts_with.ensures.value ∙ c.if-starts_with.true) c.row.invariant)

pub row-preserved : goal.row-preserved
row-preserved c =
    let said = ap (λ (f : File). f.names) c.index.ensures.said.says in
    let here = slice_get-map (λ (row : List ℕ × List ℕ). row.1) _ c.row.at ∙ c.name-name.ensures in
    none_more (λ (name : List ℕ). begins name c.args.prefix.now) _ c.row.at c.name-name.result.now
    (ap (λ (rows : List (List ℕ × List ℕ)). slice_get (Rattle.std.specs.Prelude.map (λ (row : List ℕ × List ℕ). row.1) rows) c.row.at) (sym said) ∙ here)
    (sym c.starts_with.ensures.value ∙ c.if-starts_with.false) c.row.invariant
