use Rattle.std.proofs.Common.{◌≡◌, ◌+◌, ◌-◌, ◌^◌, ◌<◌, ◌++◌, length, drop, get_or, arith, refl, length-append, length-drop, drop-cons, suc, inl, inr}
use Rattle.std.proofs.lemmas.Bool.{cases_lt}
use Rattle.vg_num.specs.Number.{value_of}
use Rattle.vg_num.proofs.CapLemmas.{rounds, below_half, near_zero}
use Rattle.vg_num.proofs.read.digits_over_power.Goals as goal
use Rattle.vg_num.proofs.read.digits_over_power.Goals.{else-value-lt-CAP-via-then-value-lt-CAP+else-next-ge53, else-value-lt-CAP-via-else-value-lt-CAP}

pub returns-then-power-count : goal.returns-then-power-count
returns-then-power-count c =
    let ds = c.args.whole.now ++ c.args.fraction.now in
    (0, near_zero (value_of ds) (10 ^ c.args.power) (below_half ds c.args.power c.requires.digits (omega (arith, length-append c.args.whole.now c.args.fraction.now))), refl)

pub returns-then-next-ge53 : goal.returns-then-next-ge53
returns-then-next-ge53 c =
    let ds = c.args.whole.now ++ c.args.fraction.now in
    let kept = length c.args.whole.now + length c.args.fraction.now - c.args.power in
    let all = length-append c.args.whole.now c.args.fraction.now in
    let at : kept < length ds = omega arith in
    let len : length (drop kept ds) ≡ c.args.power = omega (arith, length-drop kept ds) in
    let e = drop-cons ds kept 0 at in
    let (n, near, down, up) = rounds ds kept (get_or ds kept 0) (drop (suc kept) ds) c.requires.digits e in
    (n, rw len at near, omega arith)

pub returns-else-value-lt-CAP : goal.returns-else-value-lt-CAP
returns-else-value-lt-CAP c =
    let ds = c.args.whole.now ++ c.args.fraction.now in
    let kept = length c.args.whole.now + length c.args.fraction.now - c.args.power in
    let all = length-append c.args.whole.now c.args.fraction.now in
    let at : kept < length ds = omega arith in
    let len : length (drop kept ds) ≡ c.args.power = omega (arith, length-drop kept ds) in
    let e = drop-cons ds kept 0 at in
    let (n, near, down, up) = rounds ds kept (get_or ds kept 0) (drop (suc kept) ds) c.requires.digits e in
    elim c.else-value-lt-CAP.branch [
      | else-value-lt-CAP-via-then-value-lt-CAP+else-next-ge53 w ↦ (n, rw len at near, omega arith)
      | else-value-lt-CAP-via-else-value-lt-CAP w ↦ (n, rw len at near, elim (cases_lt (get_or ds kept 0) 53) [ inl l ↦ omega arith | inr g ↦ omega arith ])
    ]
