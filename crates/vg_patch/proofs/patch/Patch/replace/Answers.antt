use Rattle.std.proofs.Common.{◌≡◌, ◌++◌, ◌∷◌, [], ◌∙◌, List, ℕ, ◌≤◌, length, map, arith, subst, sym, ap}
use Rattle.std.specs.List.{All}
use Rattle.vg_patch.specs.Edits.{Edit, Rise, edit_of, end_of}
use Rattle.vg_patch.specs.Rows.{AreRows, IsRow, edit_in}
use Rattle.vg_patch.specs.declared.patch.Row.{Row}
use Rattle.vg_patch.proofs.EditLemmas.{edits_more, end_more, rise_more, stand_more}
use Rattle.vg_patch.proofs.patch.Patch.replace.Goals as goal

-- one part and its text more
seen : (text more new : List ℕ) (rows new_rows : List Row) (old : List Edit) (r : Row) → AreRows text rows → map (edit_in text) rows ≡ old
    → r.from ≡ length text → r.to ≡ length new → new ≡ text ++ more → new_rows ≡ rows ++ r ∷ [] → map (edit_in new) new_rows ≡ old ++ edit_of r.part more ∷ []
seen text more new rows new_rows old r is v from to longer one_more =
    ap (λ xs. map (edit_in xs) new_rows) longer ∙ ap (map (edit_in (text ++ more))) one_more
    ∙ edits_more text more rows r is.stand from (to ∙ ap length longer)
    ∙ ap (λ (edits : List Edit). edits ++ edit_of r.part more ∷ []) v

grown : (text more new : List ℕ) (rows new_rows : List Row) (old : List Edit) (r : Row) → AreRows text rows → map (edit_in text) rows ≡ old
    → r.from ≡ length text → r.to ≡ length new → new ≡ text ++ more → new_rows ≡ rows ++ r ∷ [] → end_of old ≤ r.part.from → r.part.from ≤ r.part.to → AreRows new new_rows
grown text more new rows new_rows old r is v from to longer one_more behind own =
    let edit = edit_of r.part more in
    let rise : Rise 0 (end_of old) old = subst (λ (edits : List Edit). Rise 0 (end_of edits) edits) v is.rise in
    record {
      stand =
          subst (λ (bytes : List ℕ). All (IsRow (length bytes)) new_rows) (sym longer)
          (subst (λ (all : List Row). All (IsRow (length (text ++ more))) all) (sym one_more) (stand_more text more rows r is.stand from (to ∙ ap length longer)));
      rise =
          subst (λ (edits : List Edit). Rise 0 (end_of edits) edits) (sym (seen text more new rows new_rows old r is v from to longer one_more))
          (subst (λ (end : ℕ). Rise 0 end (old ++ edit ∷ [])) (sym (end_more old edit)) (rise_more 0 (end_of old) old edit rise behind own));
    }

pub invariant_of-self-in-Ok-push : goal.invariant_of-self-in-Ok-push
invariant_of-self-in-Ok-push c =
    grown c.self.inside.text.items c.args.text.now c.extend_from_slice.new.self.items c.self.inside.rows.items c.push.new.self.items c.args.self.now
    (record { part = c.args.part; from = c.len-from.result; to = c.len-to.result }) c.self.invariant c.self.view_is
    (omega (arith, c.len-from.ensures, c.self.inside.text.ok)) (omega (arith, c.len-to.ensures, c.extend_from_slice.new.self.ok))
    c.in-Ok.ensures.items c.in-Ok-push.ensures.items c.requires.behind c.requires.part

pub returns-in-Ok-push-clause-last : goal.returns-in-Ok-push-clause-last
returns-in-Ok-push-clause-last c =
    seen c.self.inside.text.items c.args.text.now c.extend_from_slice.new.self.items c.self.inside.rows.items c.push.new.self.items c.args.self.now
    (record { part = c.args.part; from = c.len-from.result; to = c.len-to.result }) c.self.invariant c.self.view_is
    (omega (arith, c.len-from.ensures, c.self.inside.text.ok)) (omega (arith, c.len-to.ensures, c.extend_from_slice.new.self.ok))
    c.in-Ok.ensures.items c.in-Ok-push.ensures.items
