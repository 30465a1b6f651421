-- What is said of a text without its comments is said of the text.
use Rattle.std.proofs.Common.{◌≡◌, ℕ, List, [], ◌∷◌, map, refl, ap, subst, inl, inr, Some, None, Option}
use Rattle.std.specs.List.{AllZip}
use Rattle.change_spef_laws.proofs.ClearLemmas.{net_stays}
use Rattle.spef_file.specs.Files.{said_by as said_in_file}
use Rattle.spef_file.specs.declared.spef_index.SpefIndex.{SpefIndex}
use Rattle.spef_net.specs.declared.net.ParNet.{ParNet}
use Rattle.spef_patch_laws.specs.Replacements.{Replacement}
use Rattle.spef_wire.specs.declared.refusal.Refusal.{Refusal}
use Rattle.vg_scan.specs.Comments.{without_comments}
use Rattle.vg_scan.specs.Lines.{lines_of}
use Rattle.vg_scan.specs.declared.comments.Comments.TheVariants.{Spef}
use Rattle.vg_segment.specs.Texts.{AreCutSections, IsCutSection, IsFit, IsSegmentRefusal}
use Rattle.vg_answer.specs.Verdicts.{AreSaid, Verdict}
use Rattle.vg_answer.specs.declared.kind.AnswerKind.{AnswerKind}
use Rattle.mode_wire.proofs.ClearLemmas.{refusal_same}
use Rattle.mode_segment.specs.Answers.{IsSegmentSaid, nets_in}

module _ (clear raw : List ℕ) (same : without_comments Spef clear ≡ without_comments Spef raw) (parts : ℕ) where
  pub fit_stays : (name : List ℕ) (net : ParNet) → IsFit clear parts name net → IsFit raw parts name net
  fit_stays name net fit = record {
    named = net_stays clear raw same name net fit.named;
    accepted = fit.accepted;
    tree = fit.tree;
    order = fit.order;
    a_tree = fit.a_tree;
    within = fit.within;
    few = fit.few;
  }

  refusal_stays : (name : List ℕ) (refusal : Refusal) → IsSegmentRefusal clear parts name refusal → IsSegmentRefusal raw parts name refusal
  refusal_stays name refusal (inl refused) = inl (refusal_same raw clear same name refusal refused)
  refusal_stays name refusal (inr (is, large)) =
      inr (is, record { net = large.net; named = net_stays clear raw same name large.net large.named; accepted = large.accepted; many = large.many })

  said_stays : (name : List ℕ) (v : Verdict) → IsSegmentSaid clear parts name v → IsSegmentSaid raw parts name v
  said_stays name v (IsSegmentSaid.told_cut net fit is) = IsSegmentSaid.told_cut net (fit_stays name net fit) is
  said_stays name v (IsSegmentSaid.told_refusal refusal refused is) = IsSegmentSaid.told_refusal refusal (refusal_stays name refusal refused) is

  all_stay : (names : List (List ℕ)) (vs : List Verdict) → AllZip (IsSegmentSaid clear parts) names vs → AllZip (IsSegmentSaid raw parts) names vs
  all_stay [] [] each = tt
  all_stay [] (v ∷ vs) each = absurd each
  all_stay (n ∷ names) [] each = absurd each
  all_stay (n ∷ names) (v ∷ vs) each = (said_stays n v each.0, all_stay names vs each.1)

  names_stay : (net : Option (List ℕ)) → nets_in clear net ≡ nets_in raw net
  names_stay (Some name) = refl
  names_stay None = ap (λ t. map (λ head. head.name) (said_in_file (lines_of t)).nets) same

  pub all_said : (net : Option (List ℕ)) (kind : AnswerKind) (lines : List ℕ) → AreSaid (IsSegmentSaid clear parts) (nets_in clear net) kind lines
      → AreSaid (IsSegmentSaid raw parts) (nets_in raw net) kind lines
  all_said net kind lines said = record {
    verdicts = said.verdicts;
    each =
        subst (λ names. AllZip (IsSegmentSaid raw parts) names said.verdicts) (names_stay net)
        (all_stay (nets_in clear net) said.verdicts said.each);
    kind_is = said.kind_is;
    text_is = said.text_is;
  }

  section_stays : (index : SpefIndex) (r : Replacement) → IsCutSection clear index parts r → IsCutSection raw index parts r
  section_stays index r is =
      record { at = is.at; net = is.net; fit = fit_stays r.row.0 is.net is.fit; cut = is.cut; cut_of = is.cut_of; is = is.is }

  pub sections_stay : (index : SpefIndex) (net : Option (List ℕ)) (rs : List Replacement)
      → ((name : List ℕ) (par : ParNet) → IsFit raw parts name par → IsFit clear parts name par) → AreCutSections clear index parts (nets_in clear net) rs
      → AreCutSections raw index parts (nets_in raw net) rs
  sections_stay index net rs back cut =
      subst (λ names. AreCutSections raw index parts names rs) (names_stay net)
      (record {
        rise = cut.rise;
        each = λ i d low. section_stays index _ (cut.each i d low);
        asked = cut.asked;
        all = λ name there par fit. cut.all name there par (back name par fit);
      })
