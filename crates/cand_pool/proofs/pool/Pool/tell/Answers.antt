use Rattle.std.proofs.Common.{rules, ap, ◌∙◌, to_z-of_z}
use Rattle.std.specs.Int.{w128}
use Rattle.cand_pool.specs.Candidates.{Candidate}
use Rattle.cand_pool.proofs.PublicLaws.{place_low, place_is}
use Rattle.cand_pool.proofs.pool.Pool.tell.Goals as goal

pub candidate-x-requires : goal.candidate-x-requires
candidate-x-requires g c = let (xs, place) = c.requires in record { there = place_low _ c.args.cand.slot xs place }

pub returns-clause-told : goal.returns-clause-told
returns-clause-told g c = λ x xs place.
    let same = c.candidate-x.ensures ∙ place_is _ c.args.cand.slot x xs place in (
      to_z-of_z {w = w128} {z = c.candidate-x.result.now.q} (search rules) ∙ ap (λ (k : Candidate). k.q) same,
      ap (λ (k : Candidate). k.c) same,
      ap (λ (k : Candidate). k.tag) same,
    )
