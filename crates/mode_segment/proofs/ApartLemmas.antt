-- Of the nets of a text one kind is said, and none where the text is faulty.
use Rattle.std.proofs.Common.{◌≡◌, ℕ, List, sym, ◌∙◌, Option}
use Rattle.spef_net.specs.declared.net.ParNet.{ParNet}
use Rattle.spef_wire.specs.declared.refusal.Refusal.{Refusal}
use Rattle.vg_segment.specs.Texts.{IsFit, IsSegmentRefusal}
use Rattle.vg_segment.proofs.FitLemmas.{fit_not_refused}
use Rattle.vg_answer.specs.Answers.{Said}
use Rattle.vg_answer.specs.Verdicts.{Verdict}
use Rattle.vg_answer.specs.declared.input.Input.{Input}
use Rattle.vg_answer.specs.declared.kind.AnswerKind.{AnswerKind}
use Rattle.vg_answer.proofs.ApartLemmas.{few_refusals, kind_is, no_both}
use Rattle.vg_answer.proofs.VerdictLemmas.{one_kind_of_all}
use Rattle.spef_file.specs.IndexFiles.{file_of}
use Rattle.mode_segment.specs.Answers.{IsSegmentAnswer, IsSegmentFault, IsSegmentSaid, nets_in}

abbrev Bytes : Type 0
Bytes = List ℕ

no_both_said : (text : Bytes) (parts : ℕ) (name : Bytes) (net : ParNet) (refusal : Refusal) → IsFit text parts name net → IsSegmentRefusal text parts name refusal → ⊥
no_both_said text parts name net refusal fit refused = fit_not_refused text parts name net refusal (few_refusals refusal) fit refused

one_said : (text : Bytes) (parts : ℕ) (name : Bytes) (u v : Verdict) → IsSegmentSaid text parts name u → IsSegmentSaid text parts name v → u.kind ≡ v.kind
one_said text parts name u v (IsSegmentSaid.told_cut net fit is) (IsSegmentSaid.told_cut other fit_other is_other) = kind_is u _ is ∙ sym (kind_is v _ is_other)
one_said text parts name u v (IsSegmentSaid.told_cut net fit is) (IsSegmentSaid.told_refusal refusal refused is_other) =
    absurd (no_both_said text parts name net refusal fit refused)
one_said text parts name u v (IsSegmentSaid.told_refusal refusal refused is) (IsSegmentSaid.told_cut net fit is_other) =
    absurd (no_both_said text parts name net refusal fit refused)
one_said text parts name u v (IsSegmentSaid.told_refusal refusal refused is) (IsSegmentSaid.told_refusal other refused_other is_other) =
    kind_is u _ is ∙ sym (kind_is v _ is_other)

-- of one text one kind is said
pub one_kind : (text : Bytes) (net : Option Bytes) (parts : ℕ) (a b : AnswerKind) (t u : Said) → IsSegmentAnswer text net parts a t
    → IsSegmentAnswer text net parts b u → a ≡ b
one_kind text net parts a b t u p q =
    one_kind_of_all (IsSegmentSaid text parts) (one_said text parts) (nets_in text net) a b t.text u.text p.nets q.nets

-- a text of whose nets something is said has no fault
pub not_faulty : (text : Bytes) (net : Option Bytes) (parts : ℕ) (kind : AnswerKind) (t : Said) (line : Bytes) (input : Input)
    → IsSegmentAnswer text net parts kind t → IsSegmentFault text line input → ⊥
not_faulty text net parts kind t line input d (_, f) = no_both (file_of d.index) f.fault text d.index_of.said f.found
