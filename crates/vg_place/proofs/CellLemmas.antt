-- The cells of placements.
use Rattle.std.proofs.Common.{◌≡◌, ℕ, zero, suc, List, [], ◌∷◌, refl, Option, Some, None}
use Rattle.std.specs.List.{All}
use Rattle.std.proofs.lemmas.List.Elements.{All-weaker}
use Rattle.elmore.specs.Best.{IsGood}
use Rattle.elmore.specs.Legal.{IsPlaced}
use Rattle.elmore.specs.declared.problem.Problem.{Problem}
use Rattle.lib_linear.specs.Libraries.{Cells, Denotes as DenotesLibrary}
use Rattle.lib_laws.specs.NameLaws.{HasPrintableNames}
use Rattle.lib_laws.proofs.NameLemmas.{are_words}
use Rattle.vg_report.specs.Reports.{cell_count}
use Rattle.vg_slack.specs.Bests.{HasNoCell}
use Rattle.vg_split.specs.Conditions.{IsNamed}

-- where their count is zero, no node has a cell
pub without_cells : (cells : List (Option ℕ)) → cell_count cells ≡ 0 → HasNoCell cells
without_cells [] none v = refl
without_cells (None ∷ cells) none zero = refl
without_cells (None ∷ cells) none (suc v) = without_cells cells none v
without_cells (Some b ∷ cells) none v = absurd cc

-- the cells of a good placement stand at places
pub good_is_placed : (p : Problem) (cells : List (Option ℕ)) → IsGood p cells → IsPlaced p cells
good_is_placed p cells good v b has = ((good.legal v).cell b has).at_place

-- the names of a library's repeaters can be words
pub repeaters_are_named : (lib : List ℕ) (library : Cells) → DenotesLibrary lib library → All IsNamed library.repeaters
repeaters_are_named lib library said =
    All-weaker HasPrintableNames IsNamed (λ r n. record { cell = n.cell; ends = n.ends; input = n.input; output = n.output }) library.repeaters (are_words lib library said)
