-- Of the same texts mode `width` says one kind, and none where a text is faulty.
use Rattle.std.proofs.Common.{◌≡◌, inl, inr, ℕ, List, sym, ◌∙◌, subst, Option}
use Rattle.elmore.specs.declared.problem.Problem.{Problem}
use Rattle.vg_design.specs.Designs.{Design}
use Rattle.vg_design.specs.Nets.{IsPosedNet}
use Rattle.vg_design.specs.declared.net_problem.PosedNet.{PosedNet}
use Rattle.design_read.specs.Designs.{Texts, IsDesign}
use Rattle.design_read.proofs.LawLemmas.{apart_faults, library_apart, module_apart, one_is}
use Rattle.vg_answer.specs.Answers.{Said}
use Rattle.vg_answer.specs.Faults.{DenotesWidths}
use Rattle.vg_answer.specs.Verdicts.{Verdict, bare_verdict}
use Rattle.vg_answer.specs.declared.input.Input.{Input}
use Rattle.vg_answer.specs.declared.kind.AnswerKind.{AnswerKind}
use Rattle.vg_answer.proofs.ApartLemmas.{kind_is, no_both, not_refused, one_posed}
use Rattle.vg_answer.proofs.WidthLemmas.{one_widths, widths_not_faulty}
use Rattle.wire_widths.specs.Fits.{Fits}
use Rattle.wire_widths.specs.Widths.{IsWideGood}
use Rattle.wire_widths.specs.declared.width.Width.{Width}
use Rattle.mode_width.specs.Answers.{IsWidthAnswer, IsWidthFault, IsWidthSaid}
use Rattle.vg_slack.specs.Choices.{HasNoWideGood}

abbrev Bytes : Type 0
Bytes = List ℕ

module _ (d : Design) (widths : List Width) (name : Bytes) where
  -- a net that fits does, whatever problem it is read as
  fits_alike : (net other : PosedNet) → IsPosedNet d name net → IsPosedNet d name other → Fits net.problem widths → Fits other.problem widths
  fits_alike net other of of_other fits = subst (λ (p : Problem). Fits p widths) (one_posed d name net other of of_other) fits

  -- what is good with widths is so
  good_alike : (net other : PosedNet) (cells : List (Option ℕ)) (rows : List ℕ) → IsPosedNet d name net → IsPosedNet d name other
      → IsWideGood net.problem widths cells rows → HasNoWideGood other.problem widths → ⊥
  good_alike net other cells rows of of_other good none =
      none cells rows (subst (λ (p : Problem). IsWideGood p widths cells rows) (one_posed d name net other of of_other) good)

  one_said : (u v : Verdict) → IsWidthSaid d widths name u → IsWidthSaid d widths name v → u.kind ≡ v.kind
  one_said u v (IsWidthSaid.told_best net of fits best wide is) (IsWidthSaid.told_best other of_other fit more wide_too is_other) =
      kind_is u _ is ∙ sym (kind_is v _ is_other)
  one_said u v (IsWidthSaid.told_best net of fits best wide is) (IsWidthSaid.told_none other of_other fit none is_other) =
      absurd (good_alike net other best.placement.cells best.chosen of of_other wide.good none)
  one_said u v (IsWidthSaid.told_best net of fits best wide is) (IsWidthSaid.told_too_large other of_other large is_other) =
      absurd (large (fits_alike net other of of_other fits))
  one_said u v (IsWidthSaid.told_best net of fits best wide is) (IsWidthSaid.told_refusal refusal refused is_other) =
      absurd (not_refused d name net refusal of refused)
  one_said u v (IsWidthSaid.told_none net of fits none is) (IsWidthSaid.told_best other of_other fit best wide is_other) =
      absurd (good_alike other net best.placement.cells best.chosen of_other of wide.good none)
  one_said u v (IsWidthSaid.told_none net of fits none is) (IsWidthSaid.told_none other of_other fit neither is_other) =
      kind_is u _ is ∙ sym (kind_is v _ is_other)
  one_said u v (IsWidthSaid.told_none net of fits none is) (IsWidthSaid.told_too_large other of_other large is_other) =
      absurd (large (fits_alike net other of of_other fits))
  one_said u v (IsWidthSaid.told_none net of fits none is) (IsWidthSaid.told_refusal refusal refused is_other) =
      absurd (not_refused d name net refusal of refused)
  one_said u v (IsWidthSaid.told_too_large net of large is) (IsWidthSaid.told_best other of_other fit best wide is_other) =
      absurd (large (fits_alike other net of_other of fit))
  one_said u v (IsWidthSaid.told_too_large net of large is) (IsWidthSaid.told_none other of_other fit none is_other) =
      absurd (large (fits_alike other net of_other of fit))
  one_said u v (IsWidthSaid.told_too_large net of large is) (IsWidthSaid.told_too_large other of_other too is_other) =
      kind_is u _ is ∙ sym (kind_is v _ is_other)
  one_said u v (IsWidthSaid.told_too_large net of large is) (IsWidthSaid.told_refusal refusal refused is_other) =
      absurd (not_refused d name net refusal of refused)
  one_said u v (IsWidthSaid.told_refusal refusal refused is) (IsWidthSaid.told_best other of_other fit best wide is_other) =
      absurd (not_refused d name other refusal of_other refused)
  one_said u v (IsWidthSaid.told_refusal refusal refused is) (IsWidthSaid.told_none other of_other fit none is_other) =
      absurd (not_refused d name other refusal of_other refused)
  one_said u v (IsWidthSaid.told_refusal refusal refused is) (IsWidthSaid.told_too_large other of_other large is_other) =
      absurd (not_refused d name other refusal of_other refused)
  one_said u v (IsWidthSaid.told_refusal refusal refused is) (IsWidthSaid.told_refusal other refused_other is_other) =
      kind_is u _ is ∙ sym (kind_is v _ is_other)

-- of the same texts one kind is said
pub one_kind : (texts : Texts) (file name : Bytes) (a b : AnswerKind) (t u : Said) → IsWidthAnswer texts file name a t → IsWidthAnswer texts file name b u → a ≡ b
one_kind texts file name a b t u p q =
    let same : q.design ≡ p.design = one_is texts q.design p.design q.design_of p.design_of in
    let wide : q.widths ≡ p.widths = one_widths file q.widths p.widths q.widths_of p.widths_of in
    one_said p.design p.widths name (bare_verdict a t.text) (bare_verdict b u.text) p.says
    (subst (λ (d : Design). IsWidthSaid d p.widths name (bare_verdict b u.text)) same
    (subst (λ (ws : List Width). IsWidthSaid q.design ws name (bare_verdict b u.text)) wide q.says))

-- texts in their form have no fault
pub in_form_not_faulty : (texts : Texts) (file : Bytes) (d : Design) (widths : List Width) (line : Bytes) (input : Input) → IsDesign texts d
    → DenotesWidths file widths → IsWidthFault texts file line input → ⊥
in_form_not_faulty texts file d widths line input is wide (inl (_, f)) = no_both is.is_spef.0 f.fault texts.spef is.is_spef.1 f.found
in_form_not_faulty texts file d widths line input is wide (inr (_, inl (_, f))) = library_apart texts.lib d.library f.fault is.library f.found
in_form_not_faulty texts file d widths line input is wide (inr (_, inr (_, inl (_, f)))) = module_apart texts.verilog d.netlist f.fault is.netlist f.found
in_form_not_faulty texts file d widths line input is wide (inr (_, inr (_, inr (_, inl (_, f))))) = apart_faults texts.cons f.fault is.rows.faultless f.found
in_form_not_faulty texts file d widths line input is wide (inr (_, inr (_, inr (_, inr (_, inl (_, f)))))) = widths_not_faulty file widths line wide f
in_form_not_faulty texts file d widths line input is wide (inr (_, inr (_, inr (_, inr (_, inr (_, none)))))) = none

-- nor have texts with an answer
pub not_faulty : (texts : Texts) (file name : Bytes) (kind : AnswerKind) (t : Said) (line : Bytes) (input : Input) → IsWidthAnswer texts file name kind t
    → IsWidthFault texts file line input → ⊥
not_faulty texts file name kind t line input p f = in_form_not_faulty texts file p.design p.widths line input p.design_of p.widths_of f
