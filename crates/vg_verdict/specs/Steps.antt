-- What the functions between say; what the crate promises does not rest on it.
use Rattle.std.specs.Prelude.{◌≡◌, ℕ, ◌<◌, ◌++◌, Bool, List, Option, option_map}
use Rattle.elmore.specs.declared.problem.Problem.{Problem}
use Rattle.cand_pairs.specs.Certificates.{IsShown}
use Rattle.vg_scan.specs.declared.name.NetNames.{NetNames}
use Rattle.vg_cert.specs.declared.certificate.Certificate.{Certificate}
use Rattle.vg_check.specs.Verdicts.{IsVerdict}
use Rattle.vg_check.specs.declared.verdict.Verdict.{Verdict}
use Rattle.vg_check.specs.declared.verdict.Verdict.TheVariants.{Yes, Illegal, WrongPolarity, WrongSlack, Uncovered, NotBest}
use Rattle.vg_slack.specs.declared.answer.Best.{Best}
use Rattle.vg_verdict.specs.Judged.{is_yes}
use Rattle.vg_verdict.specs.Lines.{verdict_line}

-- of a net of so many nodes a verdict names a node
abbrev pub NamesWithin : ℕ → Verdict → Type 0
NamesWithin n Yes = Unit {0}
NamesWithin n (Illegal v) = v < n
NamesWithin n (WrongPolarity w) = w < n
NamesWithin n (WrongSlack written real) = Unit {0}
NamesWithin n (Uncovered v) = v < n
NamesWithin n (NotBest written bound) = Unit {0}

-- the line of the verdict on a certificate was appended
pub record TellsVerdict (p : Problem) (names : NetNames) (cert : Certificate) (old new : List ℕ)
    (valid : Bool) : Type 0 where
  pub verdict : Verdict
  pub is : IsVerdict p cert verdict
  pub shown : verdict ≡ Yes → IsShown p cert.slack cert.placement.cells
  pub valid_is : valid ≡ is_yes verdict
  pub text : new ≡ old ++ verdict_line names cert.slack verdict

-- the slack (zs) and the placement that a certificate claims, if it claims one
abbrev pub claim_of : Certificate → Option Best
claim_of cert = option_map (λ slack. record { slack = slack; placement = cert.placement }) cert.slack
