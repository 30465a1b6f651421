-- What a best solution chooses at the sites of nodes are the cells, and at those of wires their widths.
use Rattle.std.proofs.Common.{◌≡◌, ℕ, ◌+◌, ◌^◌, ◌<◌, List, [], ◌∷◌, ◌++◌, map, take, length, Option, sym, ap, ◌∙◌, subst, arith}
use Rattle.std.specs.List.{range_with_len}
use Rattle.std.proofs.lemmas.List.FromFn.{map-range_with_len_more}
use Rattle.elmore.specs.declared.problem.Problem.{Problem}
use Rattle.cand_pairs.specs.Solutions.{cells_by}
use Rattle.wire_widths.specs.Widths.{AreWidths, IsWideBest}
use Rattle.wire_widths.specs.WideSolutions.{wire_site, row_of, rows_by}
use Rattle.wire_widths.specs.declared.width.Width.{Width}
use Rattle.wire_widths.proofs.WideSolutionLemmas.{row_read}
use Rattle.vg_slack.specs.Choices.{AreBestChoices, choice_at}
use Rattle.vg_slack.specs.declared.choices.Choices.{Choices}
use Rattle.vg_slack.proofs.BestLemmas.{first_sites}
use Rattle.vg_width.specs.WideBests.{AreFew}

-- the widths of the first wires
abbrev pub first_rows : Problem → List (Option ℕ) → ℕ → List ℕ
first_rows p sites k = map (λ u. row_of (choice_at sites (wire_site p u))) (range_with_len 0 k)

pub one_row : (p : Problem) (sites : List (Option ℕ)) (rows rows' : List ℕ) (u row : ℕ) → rows ≡ first_rows p sites u
    → rows' ≡ rows ++ row ∷ [] → row ≡ row_of (choice_at sites (wire_site p u)) → rows' ≡ first_rows p sites (u + 1)
one_row p sites rows rows' u row are more is =
    more
    ∙ ap (λ xs. xs ++ row ∷ []) are
    ∙ ap (λ x. first_rows p sites u ++ x ∷ []) is
    ∙ sym (map-range_with_len_more (λ v. row_of (choice_at sites (wire_site p v))) 0 u u (omega arith))

pub few_row : (p : Problem) (sites : List (Option ℕ)) (u : ℕ) → AreFew (rows_by p (choice_at sites)) → u < length p.tree.nodes
    → row_of (choice_at sites (wire_site p u)) < 2 ^ 8
few_row p sites u few u_n = subst (λ row. row < 2 ^ 8) (row_read p (choice_at sites) u u_n) (few u)

pub are_few : (p : Problem) (widths : List Width) (choices : Choices) → AreWidths widths → AreBestChoices p widths choices
    → AreFew (rows_by p (choice_at choices.sites))
are_few p widths choices are best = λ u. omega (arith, are.few, best.best.good.lawful.rows u)

pub split_best : (p : Problem) (widths : List Width) (choices : Choices) (cells : List (Option ℕ)) (rows : List ℕ) → AreBestChoices p widths choices
    → cells ≡ take (length p.tree.nodes) choices.sites → rows ≡ rows_by p (choice_at choices.sites) → IsWideBest p widths cells rows choices.slack
split_best p widths choices cells rows best cells_are rows_are =
    subst (λ at. IsWideBest p widths at rows choices.slack) (first_sites p choices.sites best.each ∙ sym cells_are)
    (subst (λ chosen. IsWideBest p widths (cells_by p (choice_at choices.sites)) chosen choices.slack) (sym rows_are) best.best)
