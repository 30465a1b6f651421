use Rattle.std.proofs.Common.{◌≡◌, ◌+◌, ◌≤◌, ◌^◌, get_or, arith}
use Rattle.std.proofs.lemmas.List.{get_or_read}
use Rattle.std.proofs.lemmas.List.Elements.{All-get_or}
use Rattle.spef_net.specs.Nets.{IsCapOf}
use Rattle.spef_write.proofs.ChargeLemmas.{sum_fits}
use Rattle.spef_write.proofs.charge.sums.Goals as goal

pub overflow_add-index_mut : goal.overflow_add-index_mut
overflow_add-index_mut c =
    let caps = c.args.caps.now in
    let i = c.cap.cap-index in
    let is : IsCapOf c.args.count (get_or caps i (0, 0)) = All-get_or (IsCapOf c.args.count) caps i (0, 0) c.cap-test.true c.requires.within in
    let sum : c.index_mut.result.now ≡ get_or c.cap.sums.items (get_or caps i (0, 0)).0 0 =
    get_or_read c.cap.sums.items (get_or caps i (0, 0)).0 c.index_mut.result.now (omega (arith, c.cap.invariant.even, is.0)) c.index_mut.ensures.value 0 in
    let small : get_or c.cap.sums.items (get_or caps i (0, 0)).0 0 + (get_or caps i (0, 0)).1 ≤ 10 ^ 15 =
    sum_fits c.args.count caps c.cap.sums.items i (get_or caps i (0, 0)).0 (0, 0) c.cap-test.true c.requires.few is.0 c.cap.invariant in
    omega (arith, sum, small)
