use Rattle.std.proofs.Common.{◌≤◌, ◌<◌, ◌+◌, ◌*◌, length, refl, sym, subst, arith}
use Rattle.std.proofs.lemmas.Bool.Decides.{nat_tests}
use Rattle.vg_segment.proofs.LeafLemmas.{AreDigits, text_of_number, digits_more, not_empty, first_other, no_other, no_larger, number_is}
use Rattle.vg_segment.proofs.leaves.leaf_number.Goals as goal
use Rattle.vg_segment.proofs.leaves.leaf_number.Goals.{then-is_empty-via-then-is_empty, then-is_empty-via-else-is_empty+then-leaf-eq48, then-byte-lt48-via-then-byte-lt48, then-byte-lt48-via-else-byte-lt48+then-byte-gt57}

pub returns-then-is_empty-clause-found : goal.returns-then-is_empty-clause-found
returns-then-is_empty-clause-found c = λ k some few is.
    let low : k ≤ 65536 = omega arith in
    elim c.then-is_empty.branch [
      | then-is_empty-via-then-is_empty w ↦ (let n = not_empty c.args.leaf.now k some low is in absurd (grind (arith, nat_tests)))
      | then-is_empty-via-else-is_empty+then-leaf-eq48 w ↦ absurd (first_other c.args.leaf.now k some low is w.if-leaf-eq48.true)
    ]

pub returns-then-byte-lt48-clause-found : goal.returns-then-byte-lt48-clause-found
returns-then-byte-lt48-clause-found c = λ k some few is.
    let other = no_other c.args.leaf.now k some (omega arith) is c.digit.at c.digit-test.true in
    elim c.then-byte-lt48.branch [
      | then-byte-lt48-via-then-byte-lt48 w ↦ absurd (other.0 w.if-byte-lt48.true)
      | then-byte-lt48-via-else-byte-lt48+then-byte-gt57 w ↦ absurd (other.1 w.if-byte-gt57.true)
    ]

pub returns-then-number-last-clause-found : goal.returns-then-number-last-clause-found
returns-then-number-last-clause-found c = λ k some few is.
    let more = digits_more c.args.leaf.now c.digit.at c.digit.number _ c.digit-test.true refl c.if-byte-lt48.false c.if-byte-gt57.false c.digit.invariant.digits in
    let most = no_larger c.args.leaf.now k some (omega arith) is _ _ more in
    absurd (omega (arith, most, c.from.ensures))

pub digit-preserved : goal.digit-preserved
digit-preserved c = record {
  digits =
      subst (λ v. AreDigits c.args.leaf.now (c.digit.at + 1) (c.digit.number * 10 + v)) (sym c.from.ensures)
      (digits_more c.args.leaf.now c.digit.at c.digit.number _ c.digit-test.true refl c.if-byte-lt48.false c.if-byte-gt57.false c.digit.invariant.digits);
  within = omega arith;
}

pub returns-clause-text : goal.returns-clause-text
returns-clause-text c = λ some.
    let any : 0 < length c.args.leaf.now = grind (arith, nat_tests) in
    text_of_number c.args.leaf.now c.digit.at c.digit.number (omega arith) any c.if-leaf-eq48.false (omega arith) c.digit.invariant.digits

pub returns-clause-found : goal.returns-clause-found
returns-clause-found c = λ k some few is. number_is c.args.leaf.now k some (omega arith) is c.digit.at c.digit.number (omega arith) c.digit.invariant.digits
