-- What comes of a change when a net is put.
use Rattle.std.proofs.Common.{◌≡◌, ℕ, ◌≤◌, List, [], ◌∷◌, ◌++◌, ap, ◌∙◌, subst, arith}
use Rattle.ver_patch.specs.NewCells.{NewCell}
use Rattle.ver_patch.specs.Rewires.{Rewire}
use Rattle.vg_design.specs.Designs.{Design, Joined}
use Rattle.vg_patch.specs.Edits.{Edit, Rise, end_of}
use Rattle.vg_split.specs.Splits.{Split}
use Rattle.vg_change.specs.Changes.{Changes, HasPut, IsSectionEdit}
use Rattle.vg_change.specs.Placed.{cells_of, rewires_of, wires_of}
use Rattle.vg_change.specs.Steps.{IsSplitOf, placed_by}

-- ---- parts one after another

reaches : (at : ℕ) (f : Edit) (edits : List Edit) (end : ℕ) → Rise at end (f ∷ edits) → at ≤ end_of (f ∷ edits)
reaches at f [] end h = omega (arith, h.0, h.1)
reaches at f (g ∷ edits) end h = let more = reaches f.to g edits end h.2 in omega (arith, h.0, h.1, more)

pub rise_last : (at : ℕ) (edits : List Edit) (e : Edit) (end : ℕ) → Rise at end edits → at ≤ e.from → end_of edits ≤ e.from → e.from ≤ e.to → e.to ≤ end
    → Rise at end (edits ++ e ∷ [])
rise_last at [] e end h low behind own high = (low, own, high)
rise_last at (f ∷ []) e end h low behind own high = (h.0, h.1, (behind, own, high))
rise_last at (f ∷ g ∷ edits) e end h low behind own high =
    let more = reaches f.to g edits end h.2 in
    (h.0, h.1, rise_last f.to (g ∷ edits) e end h.2 (omega (arith, more, behind)) behind own high)

-- ---- the change

pub has_put : (old : Changes) (n : Joined) (x : Split) (e : Edit) (d : Design) (prefix : List ℕ) (sections : List Edit) (rewires : List Rewire) (cells : List NewCell)
    (wires : List (List ℕ)) → IsSplitOf old n x → IsSectionEdit old.design.spef x e → d ≡ old.design → prefix ≡ old.prefix → sections ≡ old.sections ++ e ∷ []
    → rewires ≡ old.rewires ++ rewires_of old.design.netlist (placed_by n x) x → cells ≡ old.cells ++ cells_of old.design.netlist n.id x
    → wires ≡ old.wires ++ wires_of x
    → HasPut old (placed_by n x) (record { design = d; prefix = prefix; sections = sections; rewires = rewires; cells = cells; wires = wires })
has_put old n x e d prefix sections rewires cells wires split edit d_is prefix_is sections_are rewires_are cells_are wires_are = record {
  section = e;
  is_section = subst (λ y. IsSectionEdit old.design.spef y e) split.is edit;
  is = together d_is prefix_is sections_are
      (rewires_are ∙ ap (λ y. old.rewires ++ rewires_of old.design.netlist (placed_by n x) y) split.is)
      (cells_are ∙ ap (λ y. old.cells ++ cells_of old.design.netlist n.id y) split.is)
      (wires_are ∙ ap (λ y. old.wires ++ wires_of y) split.is);
}
  where
    together : {a b : Design} {p q : List ℕ} {s t : List Edit} {r u : List Rewire} {c f : List NewCell} {w v : List (List ℕ)} → a ≡ b → p ≡ q → s ≡ t → r ≡ u → c ≡ f → w ≡ v
        → ◌≡◌ {A = Changes} (record { design = a; prefix = p; sections = s; rewires = r; cells = c; wires = w }) (record { design = b; prefix = q; sections = t; rewires = u; cells = f; wires = v })
    together d p s r c w = λ j. record { design = d j; prefix = p j; sections = s j; rewires = r j; cells = c j; wires = w j }
