use Rattle.std.proofs.Common.{rules, ℕ, ◌<◌, List, length, get_or, subst, refl, inl, inr}
use Rattle.std.proofs.lemmas.List.{take_all}
use Rattle.std.proofs.lemmas.List.Elements.{Contains-get_or}
use Rattle.elmore.specs.Cells.{rep_at}
use Rattle.elmore.specs.Legal.{IsWithin}
use Rattle.vg_front.specs.Tries.{DriveAll}
use Rattle.vg_front.proofs.TakenLemmas.{taken_one}
use Rattle.vg_front.proofs.tries.drive_all.Goals as goal

pub bounds-reps-number : goal.bounds-reps-number
bounds-reps-number c =
    let inside : c.numbers.number-index < length c.args.numbers.now = search rules in
    c.requires (get_or c.args.numbers.now c.numbers.number-index _) (Contains-get_or c.args.numbers.now c.numbers.number-index _ inside)

pub numbers-preserved : goal.numbers-preserved
numbers-preserved c = λ b found. elim (taken_one c.args.numbers.now c.numbers.number-index 0 c.numbers-test.true b found) [
  | inl early ↦ c.numbers.invariant b early
  | inr e ↦ subst (λ (n : ℕ). IsWithin (rep_at c.args.reps.now n).limit c.args.c) e (c.if-not-is_within.ensures.0 refl)
]

pub returns : goal.returns
returns c = λ told.
    subst (λ (l : List ℕ). DriveAll c.args.reps.now l c.args.c) (take_all c.numbers.number-index c.args.numbers.now (search rules)) c.numbers.invariant
