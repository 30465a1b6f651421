-- What follows of a run of the program.
use Rattle.std.specs.Prelude.{◌≡◌, ◌≢◌, ℕ, List, Option, Some, option_map, slice_get}
use Rattle.vg_design.specs.Nets.{IsPosedNet}
use Rattle.vg_design.specs.declared.net_problem.PosedNet.{PosedNet}
use Rattle.design_read.specs.Designs.{Texts, IsDesign}
use Rattle.change_laws.specs.Laws.{RetimesInTexts}
use Rattle.vg_check.specs.declared.verdict.Verdict.TheVariants.{Yes}
use Rattle.vg_design.specs.Designs.{Design}
use Rattle.vg_slack.specs.Bests.{IsAnswer, IsFound}
use Rattle.vg_slack.specs.declared.answer.Best.{Best}
use Rattle.vg_store.specs.Reading.{FilesState}
use Rattle.vg_store.specs.Writing.{OutState, Gains}
use Rattle.vg_verdict.specs.Laws.{names_in, ShowsBest}
use Rattle.vg_verdict.specs.Lines.{verdict_line}
use Rattle.vg_words.specs.Request.{IsRequest, prefix_of}
use Rattle.vg_words.specs.declared.ask.Mode.TheVariants.{Best as BestMode, Check}
use Rattle.vg_words.specs.declared.ask.Ask.{Ask}
use Rattle.vg_place.specs.Placings.{placed_verdict}
use Rattle.place_laws.specs.Laws.{with_files}
use Rattle.mode_best.specs.Answers.{Asked, Certifies, IsBestAnswer, found_verdict}
use Rattle.mode_check.specs.Answers.{IsCheckAnswer}
use Rattle.vg_answer.specs.Answers.{Said}
use Rattle.vg_answer.specs.Nets.{nets_for}
use Rattle.vg_run.specs.Modes.{design_texts}
use Rattle.vg_run.specs.Modes.{best_asked}
use Rattle.vg_run.specs.Inputs.{AreRead, Change}
use Rattle.vg_run.specs.Run.{Prints}
use Rattle.vg_answer.specs.declared.input.Input.{Input}
use Rattle.vg_answer.specs.declared.input.Input.TheVariants.{Cert}
use Rattle.vg_answer.specs.declared.kind.AnswerKind.{AnswerKind}
use Rattle.vg_answer.specs.declared.kind.AnswerKind.TheVariants.{Report, Refusal}

-- an answer tells of the net of a name, which it is asked for, that a placement of it is best
pub record TellsBest {texts : Texts} {asked : Asked} {kind : AnswerKind} {said : Said}
    (answer : IsBestAnswer texts asked kind said)
    (name : List ℕ) (best : Best) : Type 0 where
  pub place : ℕ
  pub named : slice_get (nets_for answer.design asked.net) place ≡ Some name
  pub net : PosedNet
  pub net_of : IsPosedNet answer.design name net
  pub found : IsFound net.problem best
  pub told : slice_get answer.best_of.nets.verdicts place ≡ Some (placed_verdict Report answer.design name net best)

-- Where best placements are reported, of one net or of all, the written files are a design, in which each net of which
-- one is reported re-times to its reported slack.
abbrev pub WrittenFilesRetime : Type 0
WrittenFilesRetime =
    (words : List (List ℕ)) (ask : Ask) (texts : Texts) (kind : AnswerKind) (said : Said) → IsRequest words ask
    → (answer : IsBestAnswer texts (best_asked ask) kind said) → (name : List ℕ) (best : Best)
    → TellsBest answer name best
    → RetimesInTexts (with_files texts answer.best_of.files) (prefix_of ask) name best.slack

-- ---- certificates

-- a certificate of the net that is asked for is written
pub record WritesCertificate {texts : Texts} {asked : Asked} {kind : AnswerKind} {said : Said}
    (answer : IsBestAnswer texts asked kind said) : Type 0 where
  pub name : List ℕ
  pub named : asked.net ≡ Some name
  pub text : List ℕ
  pub written : answer.best_of.cert ≡ Some text
  pub certifies : Certifies answer.design name kind said.text text

-- Where a request in mode `best` names a certificate, and the net is not refused, one is written.
abbrev pub CertificatesAreWritten : Type 0
CertificatesAreWritten = (words : List (List ℕ)) (ask : Ask) (texts : Texts) (kind : AnswerKind) (said : Said)
    → IsRequest words ask → ask.mode ≡ BestMode
    → (file : List ℕ) → ask.cert ≡ Some file → (answer : IsBestAnswer texts (best_asked ask) kind said) → kind ≢ Refusal
    → WritesCertificate answer

-- of a net this was found, one text reports it, and the other tells that a certificate of it is valid
pub record IsFoundAndValid (d : Design) (name reported told : List ℕ) : Type 0 where
  pub net : PosedNet
  pub net_of : IsPosedNet d name net
  pub found : Option Best
  pub found_of : IsAnswer net.problem found
  pub reported_is : reported ≡ (found_verdict d name net found).text
  pub told_is : told ≡ verdict_line (names_in d name net) (option_map (λ best. best.slack) found) Yes

-- Where mode `best` has written a certificate, mode `check` tells of it, with the same four files, that it is valid,
-- with the slack that was reported, or none.
abbrev pub WrittenCertificatesCheck : Type 0
WrittenCertificatesCheck = (texts : Texts) (asked : Asked) (kind also : AnswerKind) (said told : Said)
    → (answer : IsBestAnswer texts asked kind said)
    → (made : WritesCertificate answer) → IsCheckAnswer texts made.text made.name also told
    → (also ≡ Report) × IsFoundAndValid answer.design made.name said.text told.text

-- a line says that a text is a valid certificate of the net of this name, and the text shows that its placement is
-- best, or that none is good
pub record ShowsOfNet (d : Design) (name cert line : List ℕ) : Type 0 where
  pub net : PosedNet
  pub net_of : IsPosedNet d name net
  pub shows : ShowsBest net.problem (names_in d name net) cert line

-- so of the certificate and the net of a request, by the texts that were read; the line is what an output gained
pub record ShowsInFiles (files : FilesState) (out : Change OutState) (ask : Ask) : Type 0 where
  pub texts : Input → List ℕ
  pub read : AreRead files ask texts
  pub design : Design
  pub design_of : IsDesign (design_texts texts) design
  pub name : List ℕ
  pub named : ask.net ≡ Some name
  pub line : List ℕ
  pub printed : Gains out.0 out.1 line
  pub shows : ShowsOfNet design name (texts Cert) line

-- Where a request in mode `check` is answered by a report, the certificate is valid, and shows that its placement is
-- best, or that none is good, whoever made it.
abbrev pub ValidCertificatesAreBest : Type 0
ValidCertificatesAreBest =
    (words : List (List ℕ)) (ask : Ask) (files : Change FilesState) (out : Change OutState) → IsRequest words ask
    → ask.mode ≡ Check → Prints Report files (Gains out.0 out.1) ask → ShowsInFiles files.0 out ask
