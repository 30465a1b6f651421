-- Certificates that mode `best` has written, what mode `check` tells of them, and what those show that it finds valid.
use Rattle.std.proofs.Common.{◌≡◌, ℕ, Bool, List, [], true, false, refl, sym, ap, ◌∙◌, subst, inl, Option, Some, None}
use Rattle.std.specs.Prelude.{is_some, unwrap_or}
use Rattle.elmore.specs.declared.problem.Problem.{Problem}
use Rattle.vg_design.specs.Designs.{Design}
use Rattle.design_read.specs.Designs.{Texts, IsDesign}
use Rattle.design_read.proofs.LawLemmas.{one_is}
use Rattle.vg_scan.specs.declared.name.NetNames.{NetNames}
use Rattle.vg_verdict.specs.Judged.{IsJudged}
use Rattle.vg_verdict.specs.Laws.{names_in, ShowsBest}
use Rattle.vg_verdict.proofs.NameLemmas.{names_fit}
use Rattle.vg_verdict.proofs.ShownLemmas.{valid_best}
use Rattle.vg_verdict.proofs.TextLemmas.{written_valid}
use Rattle.vg_words.specs.Laws.{AsksAsIn, AsksForNet}
use Rattle.vg_words.specs.declared.ask.Mode.{Mode}
use Rattle.vg_words.proofs.JudgeLemmas.{certs, one_or_all}
use Rattle.vg_run.specs.Modes.{IsAnswerIn, design_texts, one_net}
use Rattle.vg_run.specs.Modes.{best_asked}
use Rattle.vg_run.specs.Inputs.{cert_in, written_cert}
use Rattle.mode_best.specs.Answers.{Certifies, IsCertFor}
use Rattle.mode_check.specs.Answers.{IsCheckAnswer, IsCheckSaid, kind_judged}
use Rattle.vg_answer.specs.Verdicts.{Verdict, bare_verdict, kind_in, text_in}
use Rattle.vg_answer.specs.declared.kind.AnswerKind.{AnswerKind}
use Rattle.vg_answer.specs.declared.kind.AnswerKind.TheVariants.{Report, Refusal}
use Rattle.vg_answer.specs.declared.input.Input.TheVariants.{Cert}
use Rattle.vg_answer.proofs.ApartLemmas.{not_refused, one_posed}
use Rattle.mode_check.proofs.ApartLemmas.{one_names}
use Rattle.run_laws.specs.Laws.{CertificatesAreWritten, IsFoundAndValid, ShowsOfNet, ValidCertificatesAreBest, WritesCertificate, WrittenCertificatesCheck}

abbrev Bytes : Type 0
Bytes = List ℕ

-- ---- one is written

some_net : (net : Option Bytes) → is_some net ≡ true → net ≡ None → ⊥
some_net None some none = absurd cc
some_net (Some name) some none = cc

pub certificates_are_written : CertificatesAreWritten
certificates_are_written words ask texts kind said request mode file named answer accepted = by_cert answer.best_of.cert_of
  where
    to_write : written_cert ask ≡ Some file
    to_write = ap (λ (m : Mode). cert_in m ask) mode ∙ named

    asks : AsksForNet ask
    asks = certs words ask request (λ none. (let e : Some file ≡ None = sym named ∙ none in cc))

    by_cert : IsCertFor answer.design (best_asked ask) kind said.text answer.best_of.cert → WritesCertificate answer
    by_cert (IsCertFor.not_asked unwanted none) = (let e : false ≡ true = sym unwanted ∙ ap (λ (o : Option Bytes). is_some o) to_write in absurd cc)
    by_cert (IsCertFor.of_all all none) = absurd (some_net ask.net asks.0 all)
    by_cert (IsCertFor.of_refused refused none) = absurd (accepted refused)
    by_cert (IsCertFor.of_one wanted name text net written certifies) = record { name = name; named = net; text = text; written = written; certifies = certifies }

-- ---- and it is valid

-- what is judged of a certificate of a net
judged_valid : (texts : Texts) (d : Design) (name text reported : Bytes) (kind : AnswerKind) (v : Verdict) → IsDesign texts d → Certifies d name kind reported text → IsCheckSaid d name text v
    → (v.kind ≡ Report) × IsFoundAndValid d name reported v.text
judged_valid texts d name text reported kind v of c (IsCheckSaid.told_refusal refusal refused is) = absurd (not_refused d name c.net refusal c.net_of refused)
judged_valid texts d name text reported kind v of c (IsCheckSaid.told_judgement other other_of valid line judged is) =
    let here : IsJudged c.net.problem (names_in d name c.net) text valid line =
    subst (λ (names : NetNames). IsJudged c.net.problem names text valid line) (one_names d name other c.net other_of c.net_of)
    (subst (λ (p : Problem). IsJudged p (names_in d name other) text valid line) (one_posed d name other c.net other_of c.net_of) judged) in
    let (holds, told) = written_valid c.net.problem (names_in d name c.net) c.found text valid line (names_fit texts d name c.net of c.net_of) c.cert_of here in (
      ap kind_in is ∙ ap kind_judged holds,
      record { net = c.net; net_of = c.net_of; found = c.found; found_of = c.found_of; reported_is = c.said_is; told_is = ap text_in is ∙ told },
    )

pub written_certificates_check : WrittenCertificatesCheck
written_certificates_check texts asked kind also said told answer made checked =
    let same : checked.design ≡ answer.design = one_is texts checked.design answer.design checked.design_of answer.design_of.design_of in
    judged_valid texts answer.design made.name made.text said.text kind (bare_verdict also told.text) answer.design_of.design_of made.certifies
    (subst (λ (d : Design). IsCheckSaid d made.name made.text (bare_verdict also told.text)) same checked.says)

-- ---- what a valid one shows

only_valid : (valid : Bool) → kind_judged valid ≡ Report → valid ≡ true
only_valid true report = refl
only_valid false report = absurd cc

valid_shows : (d : Design) (name cert : Bytes) (v : Verdict) → IsCheckSaid d name cert v → v.kind ≡ Report → ShowsOfNet d name cert v.text
valid_shows d name cert v (IsCheckSaid.told_refusal refusal refused is) report = absurd (let clash : Refusal ≡ Report = sym (ap kind_in is) ∙ report in cc)
valid_shows d name cert v (IsCheckSaid.told_judgement net of valid line judged is) report =
    let holds : valid ≡ true = only_valid valid (sym (ap kind_in is) ∙ report) in
    record {
      net = net;
      net_of = of;
      shows = subst (λ (text : Bytes). ShowsBest net.problem (names_in d name net) cert text) (sym (ap text_in is))
          (valid_best net.problem (names_in d name net) cert valid line judged (inl holds));
    }

its_name : (net : Option Bytes) → is_some net ≡ true → net ≡ Some (unwrap_or net [])
its_name None some = absurd cc
its_name (Some name) some = refl

pub valid_certificates_are_best : ValidCertificatesAreBest
valid_certificates_are_best words ask files out request mode (texts, read, (said, says, gained, written)) =
    let asks : AsksForNet ask = subst (λ (m : Mode). AsksAsIn m ask) mode (one_or_all words ask request) in
    let answer : IsCheckAnswer (design_texts texts) (texts Cert) (one_net ask) Report said =
    subst (λ (m : Mode). IsAnswerIn m ask texts Report said) mode says in
    record {
      texts = texts;
      read = read;
      design = answer.design;
      design_of = answer.design_of;
      name = one_net ask;
      named = its_name ask.net asks.0;
      line = said.text;
      printed = gained;
      shows = valid_shows answer.design (one_net ask) (texts Cert) (bare_verdict Report said.text) answer.says refl;
    }
