use Rattle.std.proofs.Common.{◌≡◌, ◌*◌, ◌^◌, min, arith, ◌∙◌}
use Rattle.vg_num.proofs.CapLemmas.{grow_step, grow_past}
use Rattle.vg_num.proofs.read.times_power.Goals as goal
use Rattle.vg_num.proofs.read.times_power.Goals.{then-more-lt-CAP, else-more-lt-CAP, then-power-lt30, else-power-lt30}

pub loop-i-preserved : goal.loop-i-preserved
loop-i-preserved c =
    let p = c.args.front in
    let step = grow_step 1000000000000000000000000000000 p c.loop-i.i c.loop-i.value c.loop-i.invariant in
    elim c.if-more-lt-CAP.branch [ then-more-lt-CAP w ↦ omega arith | else-more-lt-CAP w ↦ omega arith ]

pub returns : goal.returns
returns c =
    elim c.if-power-lt30.branch [
      | then-power-lt30 w ↦ (let e : c.loop-i.i ≡ c.args.power = omega arith in rw e at c.loop-i.invariant)
      | else-power-lt30 w ↦ (let e : c.loop-i.i ≡ 30 = omega arith in let i : c.loop-i.value ≡ min (c.args.front * 10 ^ 30) 1000000000000000000000000000000 = rw e at c.loop-i.invariant in i ∙ grow_past c.args.front c.args.power (omega arith))
    ]
