-- The names of the nets of a SPEF text are those of its index.
use Rattle.std.proofs.Common.{◌≡◌, ℕ, List, [], ◌∷◌, map, length, slice_get, sym, ap, ◌∙◌, Option, Some, None, option_map, refl}
use Rattle.std.proofs.lemmas.List.{length-map}
use Rattle.std.proofs.lemmas.Option.{slice_get-map}
use Rattle.spef_file.specs.Files.{File}
use Rattle.spef_file.specs.Indexes.{IsIndexOf}
use Rattle.spef_file.specs.Nets.{NetHead}
use Rattle.spef_file.specs.Tables.{NetRow, names_of}
use Rattle.spef_file.specs.Views.{head_in, heads_in}
use Rattle.spef_file.specs.declared.spef_index.SpefIndex.{SpefIndex}
use Rattle.vg_design.specs.Designs.{net_names}

module _ (text : List ℕ) (index : SpefIndex) (of : IsIndexOf text index) where
  names_are : net_names text ≡ map (λ (head : NetHead). head.name) (heads_in index.sections)
  names_are = ap (λ (file : File). map (λ (head : NetHead). head.name) file.nets) (sym of.said.says)

  pub names_count : length (net_names text) ≡ length index.sections
  names_count = ap length names_are ∙ length-map (heads_in index.sections) (λ (head : NetHead). head.name) ∙ length-map index.sections head_in

  pub names_at : (at : ℕ) (name : List ℕ) → option_map (λ (net : NetRow). net.0) (slice_get index.sections at) ≡ Some name → slice_get (net_names text) at ≡ Some name
  names_at at name e =
      ap (λ (names : List (List ℕ)). slice_get names at) names_are
      ∙ slice_get-map (λ (head : NetHead). head.name) (heads_in index.sections) at
      ∙ ap (option_map (λ (head : NetHead). head.name)) (slice_get-map head_in index.sections at)
      ∙ same (slice_get index.sections at)
      ∙ e
    where
      same : (o : Option NetRow) → option_map (λ (head : NetHead). head.name) (option_map head_in o) ≡ option_map (λ (net : NetRow). net.0) o
      same None = refl
      same (Some net) = refl

  -- so a name has the place that the index gives it
  pub names_same : names_of index.sections ≡ net_names text
  names_same = rows index.sections ∙ sym names_are
    where
      rows : (nets : List NetRow) → names_of nets ≡ map (λ (head : NetHead). head.name) (heads_in nets)
      rows [] = refl
      rows (net ∷ nets) = ap (λ (names : List (List ℕ)). net.0 ∷ names) (rows nets)
