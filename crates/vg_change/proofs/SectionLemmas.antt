-- Sections of stages, one after another.
use Rattle.std.proofs.Common.{◌≡◌, ℕ, ◌+◌, ◌<◌, List, [], ◌∷◌, ◌++◌, length, refl, sym, ap, ◌∙◌, subst, arith, inl, inr, Some}
use Rattle.std.proofs.lemmas.Bool.{cases_eq}
use Rattle.std.proofs.lemmas.List.{append_assoc, length-append, nil_from_length}
use Rattle.std.proofs.lemmas.Option.{slice_get_within}
use Rattle.spef_file.specs.declared.header.Header.{Header}
use Rattle.spef_net.specs.declared.net.ParNet.{ParNet}
use Rattle.spef_nodes.proofs.NodeTableLemmas.{slice_get_front, slice_get_last}
use Rattle.vg_scan.specs.declared.chars.Chars.{Chars}
use Rattle.vg_split.specs.Splits.{Split, IsStageNet}
use Rattle.spef_patch_laws.specs.Sections.{sections_text}
use Rattle.spef_write.specs.Sections.{section_text}
use Rattle.vg_change.specs.Changes.{AreStageNets}
use Rattle.vg_change.specs.Steps.{SaysStages}

sections_more : (header : Header) (nets : List ParNet) (net : ParNet) → 0 < length nets
    → sections_text header (nets ++ net ∷ []) ≡ sections_text header nets ++ 10 ∷ section_text header net
sections_more header [] net some = absurd (omega arith)
sections_more header (a ∷ []) net some = refl
sections_more header (a ∷ b ∷ nets) net some =
    ap (λ t. section_text header a ++ 10 ∷ t) (sections_more header (b ∷ nets) net (omega arith))
    ∙ sym (append_assoc (section_text header a) (10 ∷ sections_text header (b ∷ nets)) (10 ∷ section_text header net))

nets_more : (chars : Chars) (x : Split) (n : ℕ) (nets : List ParNet) (net : ParNet) → AreStageNets chars x n nets → IsStageNet chars x n net
    → AreStageNets chars x (n + 1) (nets ++ net ∷ [])
nets_more chars x n nets net are is = record {
  count = length-append nets (net ∷ []) ∙ ap (λ k. k + 1) are.count;
  each = λ k other at. elim (cases_eq k n) [
    | inl e ↦
        let same : Some net ≡ Some other = sym (slice_get_last nets net k (e ∙ sym are.count)) ∙ at in
        let net_is : net ≡ other = cc in
        subst (λ j. IsStageNet chars x j other) (sym e) (subst (IsStageNet chars x n) net_is is)
    | inr apart ↦
        let low : k < length nets = omega (arith, apart, slice_get_within (nets ++ net ∷ []) k other at, length-append nets (net ∷ []), are.count) in
        are.each k other (sym (slice_get_front nets (net ∷ []) k low) ∙ at)
  ];
}

pub no_stages : (header : Header) (x : Split) → SaysStages header x 0 []
no_stages header x = record { nets = []; stages = record { count = refl; each = λ k net at. absurd (cc) }; is = refl }

-- one stage more: its section stands behind the others', and behind a line's end where there are others
pub stages_more : (header : Header) (x : Split) (n : ℕ) (old new : List ℕ) (net : ParNet) → SaysStages header x n old → IsStageNet header.chars x n net
    → (n ≡ 0 → new ≡ old ++ section_text header net) → (0 < n → new ≡ (old ++ 10 ∷ []) ++ section_text header net) → SaysStages header x (n + 1) new
stages_more header x n old new net says is first later = record {
  nets = says.nets ++ net ∷ [];
  stages = nets_more header.chars x n says.nets net says.stages is;
  is = elim (cases_eq n 0) [
    | inl e ↦
        let none : says.nets ≡ [] = nil_from_length says.nets (says.stages.count ∙ e) in
        first e ∙ ap (λ t. t ++ section_text header net) (says.is ∙ ap (sections_text header) none)
        ∙ ap (λ nets. sections_text header (nets ++ net ∷ [])) (sym none)
    | inr other ↦
        later (omega (arith, other)) ∙ append_assoc old (10 ∷ []) (section_text header net) ∙ ap (λ t. t ++ 10 ∷ section_text header net) says.is
        ∙ sym (sections_more header says.nets net (omega (arith, other, says.stages.count)))
  ];
}
