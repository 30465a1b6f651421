use Rattle.std.proofs.Common.{◌≡◌, ℕ, ◌+◌, ◌-◌, ◌++◌, length, take, min, arith, sym, ◌∙◌, ap}
use Rattle.std.proofs.Math.Seq.{take-append-add}
use Rattle.vg_num.specs.Number.{value_of, value_after}
use Rattle.vg_num.proofs.CapLemmas.{capped_on, value_after-append}
use Rattle.vg_num.proofs.read.front_value.Goals as goal

pub returns-else-kept-whole : goal.returns-else-kept-whole
returns-else-kept-whole c =
    let whole = c.args.whole.now in
    let fraction = c.args.fraction.now in
    let rest = take (c.args.kept - length whole) fraction in
    let cap : ℕ = 1000000000000000000000000000000 in
    let k : c.args.kept ≡ length whole + (c.args.kept - length whole) = omega arith in
    let t : take c.args.kept (whole ++ fraction) ≡ whole ++ rest = ap (λ n. take n (whole ++ fraction)) k ∙ take-append-add whole fraction (c.args.kept - length whole) in
    let v : value_of (take c.args.kept (whole ++ fraction)) ≡ value_after (value_of whole) rest = ap value_of t ∙ value_after-append whole rest 0 in
    let same = capped_on cap rest c.capped_value-else-kept-whole.result (value_of whole) (omega arith) in
    c.capped_value-else-kept-whole-2.ensures ∙ same ∙ ap (λ n. min n cap) (sym v)
