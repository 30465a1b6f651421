-- What mode `best` answers: best placements, the files in which their cells are put, and the certificate.
use Rattle.std.specs.Prelude.{◌≡◌, ℕ, Bool, true, false, List, [], ◌∷◌, ◌++◌, Option, Some, None}
use Rattle.std.specs.List.{flat_map}
use Rattle.vg_design.specs.Designs.{Design}
use Rattle.vg_design.specs.Nets.{IsPosedNet}
use Rattle.vg_design.specs.Refusals.{IsFirstRefusal}
use Rattle.design_read.specs.Designs.{Texts}
use Rattle.vg_verdict.specs.Laws.{names_in}
use Rattle.vg_verdict.specs.Judged.{IsCertificateOf}
use Rattle.spef_wire.specs.declared.refusal.Refusal.{Refusal}
use Rattle.vg_design.specs.declared.net_problem.PosedNet.{PosedNet}
use Rattle.vg_slack.specs.Bests.{HasNoGood, IsAnswer, IsFound}
use Rattle.vg_slack.specs.declared.answer.Best.{Best}
use Rattle.vg_report.specs.Reports.{none_line, refusal_line}
use Rattle.vg_answer.specs.Verdicts.{Verdict, AreSaid, bare_verdict, put_in}
use Rattle.vg_answer.specs.declared.kind.AnswerKind.{AnswerKind}
use Rattle.vg_answer.specs.declared.kind.AnswerKind.TheVariants.{Report, NoneGood, Refusal as Refused}
use Rattle.vg_answer.specs.Answers.{Written, Said}
use Rattle.vg_answer.specs.Nets.{nets_for}
use Rattle.vg_answer.specs.declared.output.Output.TheVariants.{Certificate}
use Rattle.vg_place.specs.Placings.{AreFilesOf, Files, IsFreeDesign, changed_files, kept, placed_verdict}

-- What is asked: one net by its name, or all nets of the parasitics; what the names of new cells and nets begin with;
-- and whether a certificate is to be written.
pub record Asked : Type 0 where
  pub net : Option (List ℕ)
  pub prefix : List ℕ
  pub certified : Bool

-- a best placement of the net is reported, without a cell where one without a cell is best; or no placement is good; or
-- the net is refused
pub data IsBestSaid (d : Design) (name : List ℕ) (said : Verdict) : Type 0 where
  told_best : (net : PosedNet) → IsPosedNet d name net → (best : Best) → IsFound net.problem best
      → said ≡ placed_verdict Report d name net best → IsBestSaid d name said
  told_none : (net : PosedNet) → IsPosedNet d name net → HasNoGood net.problem
      → said ≡ bare_verdict NoneGood (none_line name) → IsBestSaid d name said
  told_refusal : (refusal : Refusal) → IsFirstRefusal d name refusal
      → said ≡ bare_verdict Refused (refusal_line name refusal) → IsBestSaid d name said

-- what is said of a posed net of which this was found
abbrev pub found_verdict : Design → List ℕ → PosedNet → Option Best → Verdict
found_verdict d name net None = bare_verdict NoneGood (none_line name)
found_verdict d name net (Some best) = placed_verdict Report d name net best

-- a text is a certificate of what was found for the net of this name, of which this is said
pub record Certifies (d : Design) (name : List ℕ) (kind : AnswerKind) (said text : List ℕ) : Type 0 where
  pub net : PosedNet
  pub net_of : IsPosedNet d name net
  pub found : Option Best
  pub found_of : IsAnswer net.problem found
  pub kind_is : kind ≡ (found_verdict d name net found).kind
  pub said_is : said ≡ (found_verdict d name net found).text
  pub cert_of : IsCertificateOf net.problem (names_in d name net) found text

-- which certificate is written beside what is said: that of the one net that is asked for, where a certificate is asked
-- for and the net is not refused; else none
pub data IsCertFor (d : Design) (asked : Asked) (kind : AnswerKind) (said : List ℕ)
    (cert : Option (List ℕ)) : Type 0 where
  not_asked : asked.certified ≡ false → cert ≡ None → IsCertFor d asked kind said cert
  of_all : asked.net ≡ None → cert ≡ None → IsCertFor d asked kind said cert
  of_refused : kind ≡ Refused → cert ≡ None → IsCertFor d asked kind said cert
  of_one : asked.certified ≡ true → (name text : List ℕ) → asked.net ≡ Some name → cert ≡ Some text
      → Certifies d name kind said text → IsCertFor d asked kind said cert

-- a certificate is written last, where there is one
abbrev pub cert_files : Option (List ℕ) → List Written
cert_files None = []
cert_files (Some text) = record { output = Certificate; text = text } ∷ []

-- the netlist and the parasitics are written before it
abbrev pub written_files : Files → Option (List ℕ) → List Written
written_files files cert = changed_files files ++ cert_files cert

-- this is said of the nets that are asked for, the files have the new cells of all of them, and a certificate is
-- written where one is asked for
pub record IsBestOf (read : Files) (design : Design) (asked : Asked) (kind : AnswerKind) (said : Said) : Type 0 where
  pub nets : AreSaid (IsBestSaid design) (nets_for design asked.net) kind said.text
  pub files : Files
  pub files_of : AreFilesOf read design asked.prefix (flat_map put_in nets.verdicts) files
  pub cert : Option (List ℕ)
  pub cert_of : IsCertFor design asked kind said.text cert
  pub files_are : said.files ≡ written_files files cert

-- so of four texts that are a design, none of whose names begins with the prefix
pub record IsBestAnswer (texts : Texts) (asked : Asked) (kind : AnswerKind) (said : Said) : Type 0 where
  pub design : Design
  pub design_of : IsFreeDesign texts asked.prefix design
  pub best_of : IsBestOf (kept texts) design asked kind said
