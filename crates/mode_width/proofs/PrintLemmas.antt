-- The lines of wires, one after another.
use Rattle.std.proofs.Common.{◌≡◌, ◌≢◌, ℕ, ◌+◌, Bool, cond, List, [], ◌∷◌, ◌++◌, slice_index_or, sym, ap, ◌∙◌, append_assoc}
use Rattle.std.specs.List.{flat_map, range_with_len}
use Rattle.std.proofs.lemmas.Bool.{eq-eqb, ne_eqb}
use Rattle.std.proofs.lemmas.List.{append-nil}
use Rattle.std.proofs.lemmas.List.Concat.{flat_map-append}
use Rattle.vg_design.specs.Nets.{name_at}
use Rattle.vg_report.proofs.ReportLemmas.{range_more}
use Rattle.vg_scan.specs.declared.name.NodeName.{NodeName}
use Rattle.wire_widths.specs.Widths.{chosen_at}
use Rattle.mode_width.specs.Lines.{row_line, width_line, wire_line}

module _ (names : List NodeName) (chosen : List ℕ) where
  -- those of the first n wires
  abbrev pub rows_to : ℕ → List ℕ
  rows_to n = flat_map (wire_line names chosen) (range_with_len 0 n)

  -- one wire more
  rows_more : (at : ℕ) → rows_to at ++ wire_line names chosen at ≡ rows_to (at + 1)
  rows_more at =
      ap (λ (line : List ℕ). rows_to at ++ line) (sym (append-nil (wire_line names chosen at)))
      ∙ sym (flat_map-append (wire_line names chosen) (range_with_len 0 at) (at ∷ []))
      ∙ ap (flat_map (wire_line names chosen)) (sym (range_more at))

  -- a wire with another width than the first, by the owner and the leaf of its lower end
  pub wide_more : (before text : List ℕ) (at : ℕ) (owner leaf : List ℕ) → chosen_at chosen at ≢ 0
      → ((other : NodeName) → owner ≡ (slice_index_or names at other).owner) → ((other : NodeName) → leaf ≡ (slice_index_or names at other).leaf)
      → text ≡ before ++ rows_to at → text ++ width_line (record { owner = owner; leaf = leaf }) (chosen_at chosen at) ≡ before ++ rows_to (at + 1)
  wide_more before text at owner leaf wide e f is =
      let row = chosen_at chosen at in
      let name : NodeName = record { owner = owner; leaf = leaf } in
      let same : name ≡ name_at names at = (λ i. record { owner = e (name_at [] 0) i; leaf = f (name_at [] 0) i }) in
      let printed : width_line name row ≡ row_line name row = ap (λ (b : Bool). cond b [] (width_line name row)) (sym (ne_eqb row 0 wide)) in
      let line : width_line name row ≡ wire_line names chosen at = printed ∙ ap (λ (node : NodeName). row_line node row) same in
      ap (λ (t : List ℕ). t ++ width_line name row) is ∙ append_assoc before (rows_to at) (width_line name row)
      ∙ ap (λ (t : List ℕ). before ++ t) (ap (λ (l : List ℕ). rows_to at ++ l) line ∙ rows_more at)

  -- a wire with the first
  pub plain_more : (before text : List ℕ) (at : ℕ) → chosen_at chosen at ≡ 0 → text ≡ before ++ rows_to at → text ≡ before ++ rows_to (at + 1)
  plain_more before text at plain is =
      let line : [] ≡ wire_line names chosen at =
      ap (λ (b : Bool). cond b [] (width_line (name_at names at) (chosen_at chosen at))) (sym (eq-eqb (chosen_at chosen at) 0 plain)) in
      is ∙ ap (λ (t : List ℕ). before ++ t) (sym (append-nil (rows_to at)) ∙ ap (λ (l : List ℕ). rows_to at ++ l) line ∙ rows_more at)
