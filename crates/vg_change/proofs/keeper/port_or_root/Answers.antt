use Rattle.std.proofs.Common.{◌≡◌, ℕ, ◌<◌, Bool, length, find, Option, Some, None, sym, arith}
use Rattle.std.specs.Prelude.{unwrap_or}
use Rattle.std.proofs.lemmas.List.FromFn.{get_or-range_with_len, length-range_with_len}
use Rattle.elmore.specs.Path.{nodes}
use Rattle.vg_change.proofs.NameLemmas.{found_in}
use Rattle.vg_change.proofs.keeper.port_or_root.Goals as goal

-- what is found among the first n numbers is one of them
below : (test : ℕ → Bool) (n : ℕ) (o : Option ℕ) → 0 < n → find test (nodes n) ≡ o → unwrap_or o 0 < n
below test n None some found = some
below test n (Some w) some found =
    let (i, low, at) = (found_in test (nodes n) w found).0 in
    let size = length-range_with_len 0 n in
    omega (arith, low, size, at, get_or-range_with_len 0 n i w (omega (arith, low, size)))

pub returns-clause-node : goal.returns-clause-node
returns-clause-node c = omega (arith, c.unwrap_or.ensures, below _ (length c.args.order.now) c.port_node.result c.requires.some (sym c.port_node.ensures))
