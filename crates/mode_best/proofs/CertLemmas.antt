-- What is said of a net with its certificate.
use Rattle.std.proofs.Common.{Result, Ok, Err, ◌≡◌, ℕ, Bool, List, [], ◌∷◌, ◌++◌, map, true, false, refl, sym, ap, ◌∙◌, subst, Option, Some, None}
use Rattle.std.specs.Prelude.{IfOk}
use Rattle.std.specs.List.{AllZip, flat_map}
use Rattle.std.specs.declared.alloc.Global.{Global}
use Rattle.std.specs.declared.vec.Vec.{Vec}
use Rattle.vg_design.specs.Designs.{Design}
use Rattle.vg_design.specs.Nets.{IsPosedNet}
use Rattle.vg_design.specs.Refusals.{IsFirstRefusal}
use Rattle.vg_design.specs.declared.net_problem.PosedNet.{PosedNet}
use Rattle.vg_num.specs.declared.memory.Memory.{Memory}
use Rattle.vg_report.specs.Reports.{refusal_line}
use Rattle.vg_slack.specs.Bests.{IsAnswer}
use Rattle.vg_slack.specs.declared.answer.Best.{Best}
use Rattle.vg_verdict.specs.Judged.{IsCertificateOf}
use Rattle.vg_verdict.specs.Laws.{names_in}
use Rattle.spef_wire.specs.declared.refusal.Refusal.{Refusal}
use Rattle.vg_place.proofs.JudgedLemmas.{judged_more}
use Rattle.vg_place.specs.Steps.{IsOneMore}
use Rattle.mode_best.specs.Steps.{AreBestJudged, AreCertified, JudgesOne, cert_in, IsCertOf}
use Rattle.mode_best.specs.Answers.{Asked, IsBestSaid, IsCertFor, found_verdict, Certifies}
use Rattle.vg_answer.specs.NewTexts.{joined}
use Rattle.vg_answer.specs.Nets.{nets_for}
use Rattle.vg_answer.specs.Verdicts.{Verdict, AreSaid, bare_verdict, kind_in, kind_of, text_in, worse}
use Rattle.vg_answer.specs.declared.kind.AnswerKind.{AnswerKind}
use Rattle.vg_answer.specs.declared.kind.AnswerKind.TheVariants.{Report, NoneGood, Refusal as Refused, Invalid}
use Rattle.mode_best.specs.declared.nets.Certified.{Certified}
use Rattle.vg_place.specs.declared.judging.Judging.{Judging}

nothing_said : (Says : List ℕ → Verdict → Type 0) (kind : AnswerKind) (text : List ℕ) → AreSaid Says [] kind text → (kind ≡ Report) × (text ≡ [])
nothing_said Says kind text said = by_none said.verdicts said.each said.kind_is said.text_is
  where
    by_none : (vs : List Verdict) → AllZip Says [] vs → kind ≡ kind_of (map kind_in vs) → text ≡ flat_map text_in vs → (kind ≡ Report) × (text ≡ [])
    by_none [] each k t = (k, t)
    by_none (v ∷ vs) each k t = absurd each

worse_report : (k : AnswerKind) → worse Report k ≡ k
worse_report Report = refl
worse_report NoneGood = refl
worse_report Refused = refl
worse_report Invalid = refl

module _ (d : Design) (prefix : List ℕ) (old new : Judging) (v : Verdict) (are : AreBestJudged d prefix [] old) (more : IsOneMore old v new) where
  first_kind : new.kind ≡ v.kind
  first_kind = more.kind ∙ ap (λ (k : AnswerKind). worse k v.kind) (nothing_said (IsBestSaid d) old.kind old.text.items are.nets).0 ∙ worse_report v.kind

  first_text : new.text.items ≡ v.text
  first_text = more.text ∙ ap (λ (t : List ℕ). t ++ v.text) (nothing_said (IsBestSaid d) old.kind old.text.items are.nets).1

-- ---- what was found

says_found : (d : Design) (name : List ℕ) (net : PosedNet) (found : Option Best) → IsPosedNet d name net → IsAnswer net.problem found
    → IsBestSaid d name (found_verdict d name net found)
says_found d name net None of none = IsBestSaid.told_none net of none refl
says_found d name net (Some best) of found = IsBestSaid.told_best net of best found refl

-- a certificate of what was found
found_cert : (d : Design) (name : List ℕ) (net : PosedNet) (found : Option Best) (text : List ℕ) → IsPosedNet d name net → IsAnswer net.problem found
    → IsCertificateOf net.problem (names_in d name net) found text
    → Certifies d name (found_verdict d name net found).kind (found_verdict d name net found).text text
found_cert d name net found text of is cert = record {
  net = net;
  net_of = of;
  found = found;
  found_of = is;
  kind_is = refl;
  said_is = refl;
  cert_of = cert;
}

-- what was found is said, without a certificate
pub found_bare : (d : Design) (name : List ℕ) (net : PosedNet) (old new : Judging) (found : Option Best) → IsPosedNet d name net → IsAnswer net.problem found
    → IsOneMore old (found_verdict d name net found) new → JudgesOne d name false old (record { judging = new; cert = None })
found_bare d name net old new found of is more = record {
  verdict = found_verdict d name net found;
  says = says_found d name net found of is;
  more = more;
  cert = IsCertOf.unasked refl refl;
}

-- and with one
pub found_certified : (d : Design) (name : List ℕ) (net : PosedNet) (old new : Judging) (found shown : Option Best) (text : Vec (Vec ℕ Global) Global) → IsPosedNet d name net
    → IsAnswer net.problem found → shown ≡ found → IsCertificateOf net.problem (names_in d name net) found (joined text.items)
    → IsOneMore old (found_verdict d name net shown) new → JudgesOne d name true old (record { judging = new; cert = Some text })
found_certified d name net old new found shown text of is same cert more = record {
  verdict = found_verdict d name net found;
  says = says_found d name net found of is;
  more = subst (λ (f : Option Best). IsOneMore old (found_verdict d name net f) new) same more;
  cert = IsCertOf.of_found refl (joined text.items) refl (found_cert d name net found (joined text.items) of is cert);
}

-- a net that is refused has none
pub refused_one : (d : Design) (name : List ℕ) (certified : Bool) (refusal : Refusal) (old new : Judging) → IsFirstRefusal d name refusal
    → IsOneMore old (bare_verdict Refused (refusal_line name refusal)) new → JudgesOne d name certified old (record { judging = new; cert = None })
refused_one d name certified refusal old new first more = record {
  verdict = bare_verdict Refused (refusal_line name refusal);
  says = IsBestSaid.told_refusal refusal first refl;
  more = more;
  cert = IsCertOf.of_refused refl refl;
}

-- ---- the nets that are asked for

-- one net, with nothing before
pub one_certified : (d : Design) (prefix name : List ℕ) (old : Judging) (made : Certified) (asked : Asked) → AreBestJudged d prefix [] old
    → JudgesOne d name asked.certified old made → asked.net ≡ Some name → AreCertified d prefix asked made
one_certified d prefix name old made asked are one named = record {
  nets = subst (λ (names : List (List ℕ)). AreBestJudged d prefix names made.judging) (sym (ap (nets_for d) named)) (judged_more (IsBestSaid d) d prefix [] old made.judging name one.verdict are one.says one.more);
  cert = by_cert one.cert;
}
  where
    kind : made.judging.kind ≡ one.verdict.kind
    kind = first_kind d prefix old made.judging one.verdict are one.more

    text : made.judging.text.items ≡ one.verdict.text
    text = first_text d prefix old made.judging one.verdict are one.more

    by_cert : IsCertOf d name asked.certified one.verdict (cert_in made.cert)
        → IsCertFor d asked made.judging.kind made.judging.text.items (cert_in made.cert)
    by_cert (IsCertOf.unasked unwanted none) = IsCertFor.not_asked unwanted none
    by_cert (IsCertOf.of_refused refused none) = IsCertFor.of_refused (kind ∙ refused) none
    by_cert (IsCertOf.of_found wanted cert is certifies) =
        IsCertFor.of_one wanted name cert named is
        (subst (λ (k : AnswerKind). Certifies d name k made.judging.text.items cert) (sym kind)
        (subst (λ (t : List ℕ). Certifies d name one.verdict.kind t cert) (sym text) certifies))

-- all nets are asked for
pub all_certified : (d : Design) (prefix : List ℕ) (asked : Asked) (names : List (List ℕ)) (all : Judging) → asked.net ≡ None → names ≡ nets_for d None
    → AreBestJudged d prefix names all → AreCertified d prefix asked (record { judging = all; cert = None })
all_certified d prefix asked names all none same are = record {
  nets = subst (λ (some : List (List ℕ)). AreBestJudged d prefix some all) (same ∙ sym (ap (nets_for d) none)) are;
  cert = IsCertFor.of_all none refl;
}

-- out of memory or not
pub asked_certified : (d : Design) (prefix name : List ℕ) (certified : Bool) (old : Judging) (asked : Asked) (result : Result Certified Memory) → AreBestJudged d prefix [] old
    → asked.net ≡ Some name → asked.certified ≡ certified → IfOk result (JudgesOne d name certified old) → IfOk result (AreCertified d prefix asked)
asked_certified d prefix name certified old asked (Ok made) are named wanted one =
    one_certified d prefix name old made asked are (subst (λ (b : Bool). JudgesOne d name b old made) (sym wanted) one) named
asked_certified d prefix name certified old asked (Err memory) are named wanted one = tt
