use Rattle.std.proofs.Common.{◌∙◌, ◌<◌, sym, ap, length, arith, Some, ℕ, List, []}
use Rattle.std.specs.List.{slice_get}
use Rattle.std.specs.Prelude.{option_map}
use Rattle.spef_file.proofs.ZipLemmas.{length_of, zip_at}
use Rattle.spef_file.proofs.name_map.NameMap.name.Goals as goal

pub get-requires : goal.get-requires
get-requires c = omega (arith, c.requires, c.self.invariant, length_of c.self.inside.indices c.self.inside.names c.self.invariant, ap length c.self.view_is)

pub returns : goal.returns
returns c =
    let low : c.args.at < length c.self.inside.names = omega (arith, c.requires, length_of c.self.inside.indices c.self.inside.names c.self.invariant, ap length c.self.view_is) in
    ap (λ (rows : List (List ℕ × List ℕ)). option_map (λ (row : List ℕ × List ℕ). row.1) (slice_get rows c.args.at)) (sym c.self.view_is)
    ∙ ap (option_map (λ (row : List ℕ × List ℕ). row.1)) (zip_at c.self.inside.indices c.self.inside.names c.args.at [] [] c.self.invariant low)
    ∙ ap Some (sym c.get.ensures)
