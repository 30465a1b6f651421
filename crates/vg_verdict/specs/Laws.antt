-- What is true of all judgements of certificates.
use Rattle.std.specs.Prelude.{◌≡◌, ◌⊎◌, ℕ, ℤ, Bool, true, List, Option, option_map}
use Rattle.elmore.specs.declared.problem.Problem.{Problem}
use Rattle.cand_pairs.specs.Certificates.{IsShown}
use Rattle.vg_scan.specs.declared.name.NetNames.{NetNames}
use Rattle.vg_cert.specs.Names.{AreNamesOf}
use Rattle.vg_cert.specs.declared.certificate.Certificate.{Certificate}
use Rattle.vg_check.specs.declared.verdict.Verdict.TheVariants.{Yes}
use Rattle.vg_design.specs.Designs.{Design}
use Rattle.vg_design.specs.Nets.{IsPosedNet, names_of}
use Rattle.vg_design.specs.Parts.{cells_of}
use Rattle.vg_design.specs.declared.net_problem.PosedNet.{PosedNet}
use Rattle.design_read.specs.Designs.{Texts, IsDesign}
use Rattle.vg_slack.specs.declared.answer.Best.{Best}
use Rattle.vg_verdict.specs.Judged.{IsCertificateOf, IsJudged, Writes}
use Rattle.vg_verdict.specs.Lines.{names_for, verdict_line}

-- the names of a net of a design
abbrev pub names_in : Design → List ℕ → PosedNet → NetNames
names_in d name posed =
    names_for name (cells_of d.library.repeaters) (names_of posed.ready.pinned.net.par posed.ready.order)

-- the names of each posed net of a design can stand in a certificate
abbrev pub AreFitNames : Design → Type 0
AreFitNames d = (name : List ℕ) (net : PosedNet) → IsPosedNet d name net → AreNamesOf net.problem (names_in d name net)

-- a certificate of a net of a design can be written with its names
abbrev pub NamesFit : Type 0
NamesFit = (texts : Texts) (d : Design) (name : List ℕ) (posed : PosedNet) → IsDesign texts d → IsPosedNet d name posed
    → AreNamesOf posed.problem (names_in d name posed)

-- what is written of a best placement is found to be valid, with the slack that was found
abbrev pub WrittenAreValid : Type 0
WrittenAreValid = (p : Problem) (names : NetNames) (found : Option Best) (text : List ℕ) (valid : Bool) (line : List ℕ)
    → AreNamesOf p names
    → IsCertificateOf p names found text → IsJudged p names text valid line
    → (valid ≡ true) × (line ≡ verdict_line names (option_map (λ best. best.slack) found) Yes)

-- in a text one thing is found
abbrev pub OneJudgement : Type 0
OneJudgement = (p : Problem) (names : NetNames) (text : List ℕ) (valid again : Bool) (line told : List ℕ)
    → IsJudged p names text valid line → IsJudged p names text again told → (valid ≡ again) × (line ≡ told)

-- it is answered that a text is a valid certificate, or a line says so
abbrev pub IsCalledValid : NetNames → Bool → List ℕ → Type 0
IsCalledValid names valid line = (valid ≡ true) ⊎ ((slack : Option ℤ) × (line ≡ verdict_line names slack Yes))

-- The text is a certificate, and the line says that it is a valid one, with its slack. Its placement is good, has this
-- slack, and no good placement has more; or, where it has no slack, no placement is good.
pub record ShowsBest (p : Problem) (names : NetNames) (text line : List ℕ) : Type 0 where
  pub cert : Certificate
  pub writes : Writes p names text cert
  pub line_is : line ≡ verdict_line names cert.slack Yes
  pub shown : IsShown p cert.slack cert.placement.cells

-- what is called a valid certificate shows that its placement is best, or that none is good, whoever made it
abbrev pub ValidAreBest : Type 0
ValidAreBest =
    (p : Problem) (names : NetNames) (text : List ℕ) (valid : Bool) (line : List ℕ) → IsJudged p names text valid line
    → IsCalledValid names valid line → ShowsBest p names text line
