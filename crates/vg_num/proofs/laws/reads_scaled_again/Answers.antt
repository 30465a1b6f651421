use Rattle.std.proofs.Common.{◌≡◌, ◌+◌, arith, ap, ◌∙◌, pos}
use Rattle.vg_num.specs.Number.{scaled}
use Rattle.vg_num.specs.Printed.{scaled_text}
use Rattle.vg_num.proofs.AgainLemmas.{scaled_reads}
use Rattle.vg_num.proofs.laws.reads_scaled_again.Goals as goal

pub returns : goal.returns
returns c = λ n places most h small.
    let same : places ≡ places + 0 = omega arith in
    ap (λ p. scaled (pos p) most (scaled_text n places)) same ∙ scaled_reads places n 0 n most (omega arith) (omega arith) small
