use Rattle.std.proofs.Common.{ℕ, ◌+◌, ◌-◌, ◌*◌, ◌<◌, drop, length, get_or, min, arith, sym, ◌∙◌, ap}
use Rattle.std.proofs.lemmas.List.{at_drop_more}
use Rattle.vg_num.specs.Number.{value_after}
use Rattle.vg_num.proofs.CapLemmas.{capped_on}
use Rattle.vg_num.proofs.read.capped_value.Goals as goal
use Rattle.vg_num.proofs.read.capped_value.Goals.{then-more-lt-CAP, else-more-lt-CAP}

pub loop-byte-preserved : goal.loop-byte-preserved
loop-byte-preserved c =
    let cap : ℕ = 1000000000000000000000000000000 in
    let ds = c.args.digits.now in
    let i = c.loop-byte.byte-index in
    let b = get_or ds i 0 in
    let at : i < length ds = omega arith in
    let step = ap (λ n. min n cap) (at_drop_more (value_after c.loop-byte.value) ds i 0 at) in
    elim c.if-more-lt-CAP.branch [
      | then-more-lt-CAP w ↦ record {
        small = omega arith;
        rest = capped_on cap (drop (i + 1) ds) c.if-more-lt-CAP.value (c.loop-byte.value * 10 + (b - 48)) (omega arith) ∙ sym step ∙ c.loop-byte.invariant.rest;
      }
      | else-more-lt-CAP w ↦ record {
        small = omega arith;
        rest = capped_on cap (drop (i + 1) ds) c.if-more-lt-CAP.value (c.loop-byte.value * 10 + (b - 48)) (omega arith) ∙ sym step ∙ c.loop-byte.invariant.rest;
      }
    ]
