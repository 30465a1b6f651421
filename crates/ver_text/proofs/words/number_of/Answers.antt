use Rattle.std.proofs.Common.{◌+◌, ◌-◌, ◌*◌, ◌<◌, drop, length, get_or, min, arith, sym, ◌∙◌, ap}
use Rattle.std.proofs.lemmas.List.{at_drop_more}
use Rattle.vg_num.specs.Number.{value_after}
use Rattle.vg_num.proofs.CapLemmas.{capped_on}
use Rattle.ver_text.proofs.words.number_of.Goals as goal

pub digit-preserved : goal.digit-preserved
digit-preserved c =
    let ds = c.args.digits.now in
    let i = c.digit.digit-index in
    let at : i < length ds = omega arith in
    let step = ap (λ n. min n 1048577) (at_drop_more (value_after c.digit.value) ds i 0 at) in
    record {
      small = omega arith;
      rest =
          capped_on 1048577 (drop (i + 1) ds) c.min-value.result (c.digit.value * 10 + (get_or ds i 0 - 48)) (omega arith)
          ∙ sym step ∙ c.digit.invariant.rest;
    }
