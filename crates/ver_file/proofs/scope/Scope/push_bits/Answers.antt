use Rattle.std.proofs.Common.{◌<◌, ◌+◌, ◌++◌, ◌∷◌, [], Some, drop, map, length, sym, ap, ◌∙◌, arith, append_assoc}
use Rattle.ver_module.specs.Ranges.{bits_from}
use Rattle.ver_file.specs.Netlists.{number_of_bit}
use Rattle.ver_file.proofs.FirstLemmas.{next_bit}
use Rattle.ver_file.proofs.scope.Scope.push_bits.Goals as goal

pub turn-preserved : goal.turn-preserved
turn-preserved c =
    let f = number_of_bit c.args.self.now.text.now c.args.found.now.name.now in
    let bits = bits_from c.args.range in
    let low : c.turn.at < length bits = omega (arith, c.turn-test.true, c.count-at-end.ensures) in
    let e = next_bit f bits c.turn.at c.bit.result low c.bit.ensures in
    let rest = map f (map Some (drop (c.turn.at + 1) bits)) in
    record {
      left =
          ap (λ items. items ++ rest) (c.in_ok-push.ensures.last ∙ ap (λ n. c.turn.to ++ n ∷ []) c.in_ok-number.ensures)
          ∙ append_assoc c.turn.to (f (Some c.bit.result) ∷ []) rest
          ∙ ap (λ ns. c.turn.to ++ ns) (sym e)
          ∙ c.turn.invariant.left;
    }
