-- What is found in a text is one thing, and in a written certificate that it is valid.
use Rattle.std.proofs.Common.{◌≡◌, ℕ, Bool, true, cond, List, [], length, map, get_or, sym, ap, ◌∙◌, subst, Option, Some, None}
use Rattle.std.specs.Prelude.{option_map}
use Rattle.std.proofs.lemmas.List.{ext_get_or}
use Rattle.std.proofs.lemmas.Simd.{map-map}
use Rattle.elmore.specs.declared.pair.Pair.{Pair}
use Rattle.elmore.specs.declared.problem.Problem.{Problem}
use Rattle.vg_scan.specs.declared.fault.LineFault.{LineFault}
use Rattle.vg_scan.specs.declared.name.NetNames.{NetNames}
use Rattle.vg_scan.proofs.FaultLemmas.{first_fault-unique, never_both}
use Rattle.vg_cert.specs.Denoted.{Denotes, Lists, both}
use Rattle.vg_cert.specs.Faults.{IsFaultIn, IsFaultless, fault_at}
use Rattle.vg_cert.specs.Fits.{list_of}
use Rattle.vg_cert.specs.Lines.{Line, lines, parts}
use Rattle.vg_cert.specs.Names.{AreNamesOf}
use Rattle.vg_cert.specs.declared.certificate.Certificate.{Certificate}
use Rattle.vg_cert.specs.declared.certificate.NodeLists.{NodeLists}
use Rattle.vg_cert.specs.declared.fault.CertKind.{CertKind}
use Rattle.vg_cert.proofs.AgainLemmas.{text_denotes, text_faultless}
use Rattle.vg_verdict.specs.Claims.{IsClaimOf}
use Rattle.vg_check.specs.declared.verdict.Verdict.TheVariants.{Yes}
use Rattle.vg_check.proofs.VerdictLemmas.{valid_verdict}
use Rattle.vg_slack.specs.declared.answer.Best.{Best}
use Rattle.vg_verdict.specs.Judged.{IsCertificateOf, IsJudged, Writes, is_yes}
use Rattle.vg_verdict.specs.Judged.IsJudged.{told_fault, told_verdict}
use Rattle.vg_verdict.specs.Laws.{OneJudgement, WrittenAreValid}
use Rattle.vg_verdict.specs.Lines.{fault_line, verdict_line}
use Rattle.vg_verdict.proofs.VerdictLemmas.{AreAlike, verdicts_alike}

-- ---- lines denote one certificate

abbrev Classes : Type 0
Classes = Bool → List Pair

-- the two lists of a node, by class
abbrev by_class : Lists → Classes
by_class lists odd = cond odd lists.1 lists.0

lists_alike : (a b : List NodeLists) → map both a ≡ map both b → map list_of a ≡ map list_of b
lists_alike a b same = sym (map-map by_class both a) ∙ ap (map by_class) same ∙ map-map by_class both b

denoted_alike : (p : Problem) (names : NetNames) (ls : List Line) (a b : Certificate) → Denotes p names ls a → Denotes p names ls b → AreAlike a b
denoted_alike p names ls a b is js = record {
  slack = is.slack ∙ sym js.slack;
  cells = ext_get_or None a.placement.cells b.placement.cells (is.one_each ∙ sym js.one_each) (λ v v_n. is.cells v ∙ sym (js.cells v));
  lists = ap (λ (xs : List Classes). λ (v : ℕ). get_or xs v (λ (odd : Bool). [])) (lists_alike a.lists.items b.lists.items (is.lists ∙ sym js.lists));
}

-- ---- a text is no certificate or a certificate, and not both

one_fault : (p : Problem) (names : NetNames) (text : List ℕ) (a b : LineFault CertKind) → IsFaultIn p names text a → IsFaultIn p names text b → a ≡ b
one_fault p names text a b = first_fault-unique (fault_at p names text) (length (parts text)) 1 a b

not_both : (p : Problem) (names : NetNames) (text : List ℕ) (fault : LineFault CertKind) → IsFaultless p names text → IsFaultIn p names text fault → ⊥
not_both p names text fault = never_both (fault_at p names text) (length (parts text)) 1 fault

pub one_judgement : OneJudgement
one_judgement p names text valid again line told (told_fault a a_is v l) (told_fault b b_is w m) =
    (v ∙ sym w, l ∙ ap (fault_line names) (one_fault p names text a b a_is b_is) ∙ sym m)
one_judgement p names text valid again line told (told_fault a a_is v l) (told_verdict cert writes verdict is shown w m) =
    absurd (not_both p names text a writes.faultless a_is)
one_judgement p names text valid again line told (told_verdict cert writes verdict is shown v l) (told_fault b b_is w m) =
    absurd (not_both p names text b writes.faultless b_is)
one_judgement p names text valid again line told (told_verdict a a_is x x_is x_shown v l) (told_verdict b b_is y y_is y_shown w m) =
    let alike : AreAlike a b = denoted_alike p names (lines text) a b a_is.denotes b_is.denotes in
    let same : x ≡ y = verdicts_alike p a b alike x y x_is y_is in
    (v ∙ ap is_yes same ∙ sym w, l ∙ (λ i. verdict_line names (alike.slack i) (same i)) ∙ sym m)

-- ---- a written certificate is found valid

claimed_slack : (found : Option Best) (cert : Certificate) → IsClaimOf found cert → cert.slack ≡ option_map (λ (best : Best). best.slack) found
claimed_slack None cert is = is.0
claimed_slack (Some best) cert is = is.0

module _ (p : Problem) (names : NetNames) (found : Option Best) (text : List ℕ) (named : AreNamesOf p names) (is : IsCertificateOf p names found text) where
  written : Writes p names text is.cert
  written = record {
    faultless = subst (λ (bytes : List ℕ). IsFaultless p names bytes) (sym is.text_is) (text_faultless p names is.cert named is.fits);
    denotes = subst (λ (bytes : List ℕ). Denotes p names (lines bytes) is.cert) (sym is.text_is) (text_denotes p names is.cert named is.fits);
  }

  found_valid : (valid : Bool) (line : List ℕ) → IsJudged p names text valid line
      → (valid ≡ true) × (line ≡ verdict_line names (option_map (λ (best : Best). best.slack) found) Yes)
  found_valid valid line (told_fault fault first v l) = absurd (not_both p names text fault written.faultless first)
  found_valid valid line (told_verdict cert writes verdict of shown v l) =
      let alike : AreAlike cert is.cert = denoted_alike p names (lines text) cert is.cert writes.denotes written.denotes in
      let yes : verdict ≡ Yes = verdicts_alike p cert is.cert alike verdict Yes of (valid_verdict p is.cert is.valid) in
      let slack = alike.slack ∙ claimed_slack found is.cert is.claims in
      (v ∙ ap is_yes yes, l ∙ (λ i. verdict_line names (slack i) (yes i)))

pub written_valid : WrittenAreValid
written_valid p names found text valid line named is = found_valid p names found text named is valid line
