-- The comments of a text of which parts are replaced.
use Rattle.std.proofs.Common.{◌≡◌, ℕ, ◌+◌, ◌-◌, ◌≤◌, false, eqb, ◌||◌, List, [], ◌∷◌, ◌++◌, length, take, drop, codes, refl, sym, ap, ◌∙◌, arith, append_assoc, All}
use Rattle.std.proofs.Math.Seq.{take-add}
use Rattle.std.proofs.lemmas.Bool.Decides.{nat_tests}
use Rattle.std.proofs.lemmas.List.{drop_at, take_at, drop-drop}
use Rattle.std.proofs.lemmas.List.Elements.{All-head, All-tail}
use Rattle.vg_patch.specs.Edits.{Edit, Rise, patched_from}
use Rattle.vg_scan.specs.Comments.{without_comments}
use Rattle.vg_scan.specs.Lines.{part}
use Rattle.vg_scan.specs.declared.comments.Comments.TheVariants.{Spef}
use Rattle.spef_write.specs.Splices.{IsCutAt}
use Rattle.spef_write.specs.Texts.{IsQuiet}
use Rattle.spef_write.proofs.QuietLemmas.{quiet_both, quiet_byte}
use Rattle.spef_write.proofs.SpliceLemmas.{cuts_keep_comments}
use Rattle.spef_patch_laws.specs.PatchLaws.{EndsKeepComments, IsQuietEdit, PatchesKeepComments}
use Rattle.spef_patch_laws.proofs.SpliceLemmas.{cancel}

abbrev clear : List ℕ → List ℕ
clear text = without_comments Spef text

pub take_part : (text : List ℕ) (a b : ℕ) → a ≤ b → take b text ≡ take a text ++ part text a b
take_part text a b l = ap (λ k. take k text) (let x : b ≡ a + (b - a) = omega arith in x) ∙ take-add a (b - a) text

end_quiet : IsQuiet (codes "*END")
end_quiet =
    quiet_both (42 ∷ []) (69 ∷ 78 ∷ 68 ∷ []) (own 42 refl)
    (quiet_both (69 ∷ []) (78 ∷ 68 ∷ []) (own 69 refl) (quiet_both (78 ∷ []) (68 ∷ []) (own 78 refl) (own 68 refl)))
  where
    own : (b : ℕ) → (eqb b 92 || eqb b 34 || eqb b 47) ≡ false → IsQuiet (b ∷ [])
    own b e = quiet_byte b (λ h. grind (arith, nat_tests)) (λ h. grind (arith, nat_tests)) (λ h. grind (arith, nat_tests))

pub ends_keep : EndsKeepComments
ends_keep text end first l here =
    let cut = cuts_keep_comments text end first l in
    let word = codes "*END" in
    let rest = drop (end + 4) text in
    let there : drop end (clear text) ≡ word ++ clear rest = cut.after ∙ ap clear here ∙ end_quiet rest in
    let front : take (end + 4) text ≡ take end text ++ word = take-add end 4 text ∙ ap (λ xs. take end text ++ take 4 xs) here ∙ ap (λ xs. take end text ++ xs) (take_at word rest 4 refl) in
    let clear_front : take (end + 4) (clear text) ≡ take end (clear text) ++ word =
    take-add end 4 (clear text) ∙ ap (λ xs. take end (clear text) ++ take 4 xs) there ∙ ap (λ xs. take end (clear text) ++ xs) (take_at word (clear rest) 4 refl) in
    record {
      before = λ xs.
          ap (λ ys. clear (ys ++ xs)) front ∙ ap clear (append_assoc (take end text) word xs) ∙ cut.before (word ++ xs)
          ∙ ap (λ ys. take end (clear text) ++ ys) (end_quiet xs)
          ∙ sym (append_assoc (take end (clear text)) word (clear xs)) ∙ ap (λ ys. ys ++ clear xs) (sym clear_front);
      after = sym (drop-drop 4 end (clear text)) ∙ ap (drop 4) there ∙ drop_at word (clear rest) 4 refl;
    }

-- a part between two cuts
part_keeps : (text xs : List ℕ) (a b : ℕ) → IsCutAt text a → IsCutAt text b → a ≤ b → clear (part text a b ++ xs) ≡ part (clear text) a b ++ clear xs
part_keeps text xs a b cut_a cut_b l =
    cancel (take a (clear text)) (clear (part text a b ++ xs)) (part (clear text) a b ++ clear xs)
    (sym (cut_a.before (part text a b ++ xs))
    ∙ ap clear (sym (append_assoc (take a text) (part text a b) xs) ∙ ap (λ ys. ys ++ xs) (sym (take_part text a b l)))
    ∙ cut_b.before xs
    ∙ ap (λ ys. ys ++ clear xs) (take_part (clear text) a b l)
    ∙ append_assoc (take a (clear text)) (part (clear text) a b) (clear xs))

patched_keeps : (text : List ℕ) (at : ℕ) (edits : List Edit) → IsCutAt text at → Rise at (length text) edits → All (IsQuietEdit text) edits
    → clear (patched_from at text edits) ≡ patched_from at (clear text) edits
patched_keeps text at [] cut rise all = sym cut.after
patched_keeps text at (e ∷ edits) cut rise all =
    let is : IsQuietEdit text e = All-head (IsQuietEdit text) e edits all in
    part_keeps text (e.text ++ patched_from e.to text edits) at e.from cut is.from rise.0
    ∙ ap (λ xs. part (clear text) at e.from ++ xs)
    (is.quiet (patched_from e.to text edits)
    ∙ ap (λ xs. e.text ++ xs) (patched_keeps text e.to edits is.to rise.2 (All-tail (IsQuietEdit text) e edits all)))

pub patches_keep : PatchesKeepComments
patches_keep text edits rise all = patched_keeps text 0 edits (record { before = λ xs. refl; after = refl }) rise all
