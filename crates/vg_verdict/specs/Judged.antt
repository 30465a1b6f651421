-- Certificates of nets as texts: which are written, what is found in one, and how many pairs one has.
use Rattle.std.specs.Prelude.{◌≡◌, ℕ, ◌+◌, ◌<◌, ◌++◌, Bool, true, false, List, length, Option}
use Rattle.std.specs.List.{range_with_len, sum_by}
use Rattle.elmore.specs.declared.pair.Pair.{Pair}
use Rattle.elmore.specs.declared.problem.Problem.{Problem}
use Rattle.cand_pairs.specs.Candidates.{NodeLists}
use Rattle.cand_pairs.specs.Certificates.{IsShown, IsValid}
use Rattle.vg_scan.specs.declared.fault.LineFault.{LineFault}
use Rattle.vg_scan.specs.declared.name.NetNames.{NetNames}
use Rattle.vg_cert.specs.Denoted.{Denotes}
use Rattle.vg_cert.specs.Faults.{IsFaultIn, IsFaultless}
use Rattle.vg_cert.specs.Fits.{Fits, lists_of}
use Rattle.vg_cert.specs.Lines.{lines}
use Rattle.vg_cert.specs.Written.{text_of}
use Rattle.vg_cert.specs.declared.certificate.Certificate.{Certificate}
use Rattle.vg_cert.specs.declared.fault.CertKind.{CertKind}
use Rattle.vg_verdict.specs.Claims.{HasKept, IsClaimOf}
use Rattle.vg_check.specs.Verdicts.{IsVerdict}
use Rattle.vg_check.specs.declared.verdict.Verdict.{Verdict}
use Rattle.vg_check.specs.declared.verdict.Verdict.TheVariants.{Yes}
use Rattle.vg_slack.specs.Kept.{IsKeptAt}
use Rattle.vg_slack.specs.declared.answer.Best.{Best}
use Rattle.vg_verdict.specs.Lines.{fault_line, verdict_line}

-- ---- what is found in a text

abbrev pub is_yes : Verdict → Bool
is_yes Yes = true
is_yes _ = false

-- the text is this certificate
pub record Writes (p : Problem) (names : NetNames) (text : List ℕ) (cert : Certificate) : Type 0 where
  pub faultless : IsFaultless p names text
  pub denotes : Denotes p names (lines text) cert

-- The line tells the first fault of a text, or the verdict on the certificate that the text is; and whether it is a
-- valid one. Whoever made it, a valid one shows that its placement is best, with its slack, or, where it has none, that
-- no placement is good.
pub data IsJudged (p : Problem) (names : NetNames) (text : List ℕ) (valid : Bool) (line : List ℕ) : Type 0 where
  told_fault : (fault : LineFault CertKind) → IsFaultIn p names text fault → valid ≡ false
      → line ≡ fault_line names fault
      → IsJudged p names text valid line
  told_verdict : (cert : Certificate) → Writes p names text cert → (verdict : Verdict) → IsVerdict p cert verdict
      → (verdict ≡ Yes → IsShown p cert.slack cert.placement.cells) → valid ≡ is_yes verdict
      → line ≡ verdict_line names cert.slack verdict → IsJudged p names text valid line

-- the line of what is found in a text was appended
pub record Judges (p : Problem) (names : NetNames) (text old new : List ℕ) (valid : Bool) : Type 0 where
  pub line : List ℕ
  pub judged : IsJudged p names text valid line
  pub appended : new ≡ old ++ line

-- ---- what is written of a best placement

-- the text of a valid certificate of what was found, with all undominated pairs
pub record IsCertificateOf (p : Problem) (names : NetNames) (found : Option Best) (text : List ℕ) : Type 0 where
  pub cert : Certificate
  pub fits : Fits p cert
  pub valid : IsValid p cert.slack cert.placement.cells (lists_of cert)
  pub claims : IsClaimOf found cert
  pub kept : HasKept p cert
  pub text_is : text ≡ text_of p names cert

-- ---- how many pairs there are

-- the pairs of a node, in both classes together
abbrev pub pairs_at : NodeLists → ℕ → ℕ
pairs_at lists v = length (lists v false) + length (lists v true)

-- those of the first n nodes
abbrev pub pairs_in : NodeLists → ℕ → ℕ
pairs_in lists n = sum_by (pairs_at lists) (range_with_len 0 n)

-- so many pairs are undominated at the nodes of the net, in both classes together
pub record CountsEntries (p : Problem) (n : ℕ) : Type 0 where
  pub lists : ℕ → Bool → List Pair
  pub kept : (v : ℕ) → v < length p.tree.nodes → IsKeptAt p v (lists v)
  pub count : n ≡ pairs_in lists (length p.tree.nodes)
