-- Why the resistors of a net are not cut.
use Rattle.std.proofs.Common.{◌≡◌, ℕ, zero, suc, ◌<◌, List, [], ◌∷◌, ap, subst, arith, inl, inr}
use Rattle.std.specs.List.{All, Contains}
use Rattle.std.proofs.lemmas.List.Elements.{All-head, All-tail}
use Rattle.spef_file.specs.declared.spef_index.SpefIndex.{SpefIndex}
use Rattle.spef_net.specs.declared.net.ParNet.{ParNet}
use Rattle.spef_wire.specs.Nets.{IsNetNamed}
use Rattle.spef_wire.specs.Refusals.{number_of}
use Rattle.spef_wire.specs.declared.refusal.Refused.{Refused}
use Rattle.spef_wire.specs.declared.refusal.Refused.TheVariants.{Net, Memory}
use Rattle.spef_wire.specs.declared.refusal.Refusal.{Refusal}
use Rattle.spef_wire.proofs.AnswerLemmas.{nets_are, passed_is}
use Rattle.spef_wire.proofs.RefusedLemmas.{refused_below}
use Rattle.spef_patch_laws.specs.Replacements.{Replacement}
use Rattle.spef_patch_laws.specs.ReplacementLaws.{replaced_names}
use Rattle.vg_segment.specs.Fits.{IsUnfit, MayNotBeCut}
use Rattle.vg_segment.specs.Texts.{IsCutSection, IsFit, IsSegmentRefusal, cut_count}

-- a net that is fit is not refused
pub fit_not_refused : (text : List ℕ) (parts : ℕ) (name : List ℕ) (net : ParNet) (refusal : Refusal) → number_of refusal < 17
    → IsFit text parts name net → IsSegmentRefusal text parts name refusal → ⊥
fit_not_refused text parts name net refusal few fit (inl refused) =
    passed_is text name net 17 refusal fit.named fit.accepted (omega arith) refused few
fit_not_refused text parts name net refusal few fit (inr (is, large)) =
    let same : large.net ≡ net = nets_are text name large.net net large.named fit.named in
    absurd (omega (arith, large.many, fit.few, ap (cut_count parts) same))

-- a net whose section is replaced is fit
pub replaced_is_fit : (text : List ℕ) (index : SpefIndex) (parts : ℕ) (rs : List Replacement) → All (IsCutSection text index parts) rs
    → (name : List ℕ) → Contains (replaced_names rs) name → (net : ParNet) × IsFit text parts name net
replaced_is_fit text index parts [] each name (k, low, at) = absurd (omega (arith, low))
replaced_is_fit text index parts (r ∷ rs) each name (zero, low, at) =
    let cut : IsCutSection text index parts r = All-head (IsCutSection text index parts) r rs each in
    (cut.net, subst (λ (n : List ℕ). IsFit text parts n cut.net) at cut.fit)
replaced_is_fit text index parts (r ∷ rs) each name (suc k, low, at) =
    replaced_is_fit text index parts rs (All-tail (IsCutSection text index parts) r rs each) name (k, omega (arith, low), at)

-- why the net of a name is refused, from what is against it
pub refused_named : (text : List ℕ) (parts : ℕ) (name : List ℕ) (net : ParNet) (refused : Refused) → IsNetNamed text name net
    → MayNotBeCut parts net refused → IsUnfit text parts name refused
refused_named text parts name net (Net refusal) named (inl first) = inl (refused_below 17 text name net (Net refusal) named first).0
refused_named text parts name net (Net refusal) named (inr (is, accepted, many)) =
    inr (is, record { net = net; named = named; accepted = accepted; many = many })
refused_named text parts name net Memory named may = tt
