-- What a certificate has of the answer of a search.
use Rattle.std.specs.Prelude.{◌≡◌, ℕ, ◌<◌, length, Option, Some, None, MatchOption}
use Rattle.elmore.specs.declared.problem.Problem.{Problem}
use Rattle.vg_cert.specs.Fits.{lists_of}
use Rattle.vg_cert.specs.declared.certificate.Certificate.{Certificate}
use Rattle.vg_slack.specs.Bests.{HasNoCell}
use Rattle.vg_slack.specs.Kept.{IsKeptAt}
use Rattle.vg_slack.specs.declared.answer.Best.{Best}

-- the slack and the placement that were found, or no slack and no cell
abbrev pub IsClaimOf : Option Best → Certificate → Type 0
IsClaimOf found cert =
    MatchOption found ((cert.slack ≡ None) × HasNoCell cert.placement.cells)
    (λ (best : Best). (cert.slack ≡ Some best.slack) × (cert.placement ≡ best.placement))

-- of a node with a sink at or below it its lists are all undominated pairs, and of another none; and they are not too
-- long
abbrev pub HasKept : Problem → Certificate → Type 0
HasKept p cert = (v : ℕ) → v < length p.tree.nodes → IsKeptAt p v (lists_of cert v)
