-- What is true of each of the nets that are split, one after another.
use Rattle.std.proofs.Common.{◌≡◌, ℕ, ◌+◌, List, [], ◌∷◌, length, sym, subst, inl, inr}
use Rattle.std.specs.List.{All, AllZip}
use Rattle.std.proofs.lemmas.List.Elements.{All-head, All-tail}
use Rattle.std.proofs.lemmas.List.FromFn.{length-range_with_len}
use Rattle.ver_patch_laws.proofs.RelinkedLemmas.{In}
use Rattle.vg_change.specs.Placed.{PlacedNet, cell_stages, split_of}
use Rattle.change_spef_laws.specs.Nets.{splits}
use Rattle.vg_design.specs.Designs.{Design}
use Rattle.change_netlist_laws.proofs.PutLemmas.{Placing, count, placings}
use Rattle.vg_split.specs.Splits.{Split}

module _ (d : Design) (prefix : List ℕ) where
  -- cells are numbered on by either count
  same_count : (x : Split) → length (cell_stages x) ≡ count x
  same_count x = length-range_with_len 1 (count x)

  pub of_zipped : (P : PlacedNet → Split → Type 0) (first : ℕ) (nets : List PlacedNet) (s : Placing) → In s (placings d prefix first nets)
      → AllZip P nets (splits d prefix first nets) → P s.p s.x
  unfolding placings
  of_zipped P first [] s i all = absurd i
  of_zipped P first (p ∷ nets) s i all =
      let x = split_of d prefix first p in
      elim i as (λ _. P s.p s.x) [
        | inl e ↦ subst (λ (t : Placing). P t.p t.x) (sym e) all.0
        | inr j ↦ of_zipped P (first + count x) nets s j (subst (λ n. AllZip P nets (splits d prefix (first + n) nets)) (same_count x) all.1)
      ]

  pub of_splits : (Q : Split → Type 0) (first : ℕ) (nets : List PlacedNet) (s : Placing) → In s (placings d prefix first nets)
      → All Q (splits d prefix first nets) → Q s.x
  unfolding placings
  of_splits Q first [] s i all = absurd i
  of_splits Q first (p ∷ nets) s i all =
      let x = split_of d prefix first p in
      let more = splits d prefix (first + length (cell_stages x)) nets in
      elim i as (λ _. Q s.x) [
        | inl e ↦ subst (λ (t : Placing). Q t.x) (sym e) (All-head Q x more all)
        | inr j ↦ of_splits Q (first + count x) nets s j (subst (λ n. All Q (splits d prefix (first + n) nets)) (same_count x) (All-tail Q x more all))
      ]
