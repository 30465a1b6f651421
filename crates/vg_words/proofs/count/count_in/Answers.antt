use Rattle.std.proofs.Common.{◌∙◌, ◌<◌, ◌^◌, ◌<ℤ◌, ◌≤ℤ◌, pos, sym, arith, rules}
use Rattle.std.proofs.lemmas.Int.{ints, to_z-of_z}
use mir.Syntax.{w128}
use mir.Val.{SFits}
use Rattle.vg_words.proofs.CountLemmas.{count_read, fault_none, large_none, long_none, small_none}
use Rattle.vg_words.proofs.count.count_in.Goals.{then-text-digits-via-then-text-digits, then-text-digits-via-else-text-digits+then-number-lt1, then-text-digits-via-else-text-digits+else-number-lt1+then-number-from}
use Rattle.vg_words.proofs.count.count_in.Goals as goal

pub returns-in_default : goal.returns-in_default
returns-in_default c =
    let few : c.args.most < 2 ^ 32 = search rules in
    fault_none c.args.digits c.args.most c.args.text.now c.in_default.field-0 few (sym c.in_default.is ∙ c.read_whole.ensures)

pub returns-then-text-digits : goal.returns-then-text-digits
returns-then-text-digits c =
    let text = c.args.text.now in
    let digits = c.args.digits in
    let most = c.args.most in
    let number = c.in-Ok.number in
    let fits : SFits w128 number = search rules in
    let same = to_z-of_z w128 number fits in
    let read = sym c.in-Ok.is ∙ c.read_whole.ensures in
    elim c.then-text-digits.branch [
      | then-text-digits-via-then-text-digits w ↦ long_none digits most text w.if-text-digits.true
      | then-text-digits-via-else-text-digits+then-number-lt1 w ↦
          let test = w.if-number-lt1.true in
          let small : number <ℤ pos 1 = omega (arith, ints, same, test) in
          small_none digits most text number read small
      | then-text-digits-via-else-text-digits+else-number-lt1+then-number-from w ↦
          let few : most < 2 ^ 32 = search rules in
          let fits_most : SFits w128 (pos most) = search rules in
          let same_most = to_z-of_z w128 (pos most) fits_most in
          let test = w.if-number-from.true in
          let large : pos most <ℤ number = omega (arith, ints, same, same_most, test) in
          large_none digits most text number read large
    ]

pub returns : goal.returns
returns c =
    let text = c.args.text.now in
    let number = c.in-Ok.number in
    let fits : SFits w128 number = search rules in
    let same = to_z-of_z w128 number fits in
    let fits_most : SFits w128 (pos c.args.most) = search rules in
    let same_most = to_z-of_z w128 (pos c.args.most) fits_most in
    let low = c.if-number-lt1.false in
    let high = c.if-number-from.false in
    let least : pos 1 ≤ℤ number = omega (arith, ints, same, low) in
    let most : number ≤ℤ pos c.args.most = omega (arith, ints, same, same_most, high) in
    rw same (count_read c.args.digits c.args.most text number (sym c.in-Ok.is ∙ c.read_whole.ensures) c.if-text-digits.false least most)
