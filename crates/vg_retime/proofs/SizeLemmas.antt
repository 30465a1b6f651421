-- The sizes of what a walk computes with.
use Rattle.std.proofs.Common.{◌≡◌, ℕ, ◌+◌, ◌*◌, ◌^◌, ◌<◌, ◌≤◌, ℤ, pos, List, length, get_or, subst, sym, ap, arith, inl, inr}
use Rattle.std.proofs.Math.Nat.{mul-le-mul}
use Rattle.std.proofs.lemmas.Bool.{cases_lt}
use Rattle.std.proofs.lemmas.Int.{ints}
use Rattle.std.proofs.lemmas.List.{get_or_past}
use Rattle.std.proofs.lemmas.List.FromFn.{get_or-map-range_with_len, length-map-range_with_len}
use Rattle.elmore.proofs.TreeLemmas.{delay_bound, load_bound, root_load}
use Rattle.elmore.specs.Steps.{IsSum}
use Rattle.elmore.specs.Trees.{total_capacitance, total_resistance, IsTree, IsWithinLimits}
use Rattle.elmore.specs.Wire.{delay_in, downstream_in}
use Rattle.elmore.specs.declared.tree.Node.{Node}
use Rattle.cut_laws.specs.Walks.{Signal, TimedNet, late_at}
use Rattle.vg_retime.specs.Times.{lates_in}

sum_small : (late r load delay c whole : ℕ) → r ≤ 10 ^ 9 → load ≤ c → delay ≤ c * whole → c ≤ 10 ^ 11 → whole ≤ 10 ^ 12
    → late + (r * load + delay) ≤ late + 2 * 10 ^ 23
sum_small late r load delay c whole r_small load_c delay_small c_small whole_small =
    let small : load ≤ 10 ^ 11 = omega arith in
    let driven : r * load ≤ 10 ^ 9 * 10 ^ 11 = mul-le-mul r_small small in
    let wire : c * whole ≤ 10 ^ 11 * 10 ^ 12 = mul-le-mul c_small whole_small in
    omega (arith, driven, wire)

-- a net adds less than 10^24 zs
pub late_small : (net : TimedNet) (s : Signal) → IsTree net.tree → IsWithinLimits net.tree → s.r ≤ 10 ^ 9 → (w : ℕ) → w < length net.tree
    → late_at net s w ≤ s.late + 2 * 10 ^ 23
late_small net s tree limits r w low =
    sum_small s.late s.r (downstream_in net.tree 0) (delay_in net.tree w) (total_capacitance net.tree) (total_resistance net.tree) r
    (load_bound net.tree 0) (delay_bound net.tree tree w low) limits.capacitances limits.resistances

pub lates_small : (net : TimedNet) (s : Signal) → IsTree net.tree → IsWithinLimits net.tree → s.r ≤ 10 ^ 9 → (i : ℕ)
    → get_or (lates_in net s) i 0 ≤ s.late + 2 * 10 ^ 23
lates_small net s tree limits r i =
    elim (cases_lt i (length net.tree)) [
      | inl low ↦
          subst (λ (n : ℕ). n ≤ s.late + 2 * 10 ^ 23) (sym (get_or-map-range_with_len (late_at net s) 0 (length net.tree) i i 0 low (omega arith))) (late_small net s tree limits r i low)
      | inr high ↦
          (let size = length-map-range_with_len (late_at net s) 0 (length net.tree) in
          let past = get_or_past (lates_in net s) i 0 (omega (arith, size, high)) in omega (arith, past))
    ]

-- a delay is a small number
pub delay_sum : (tree : List Node) (i : ℕ) (z : ℤ) → IsTree tree → IsWithinLimits tree → i < length tree → z ≡ pos (delay_in tree i) → IsSum z
delay_sum tree i z a_tree limits low is = subst IsSum (sym is) (small (delay_in tree i) (total_capacitance tree) (total_resistance tree) (delay_bound tree a_tree i low) limits.capacitances limits.resistances)
  where
    small : (delay c whole : ℕ) → delay ≤ c * whole → c ≤ 10 ^ 11 → whole ≤ 10 ^ 12 → IsSum (pos delay)
    small delay c whole delay_small c_small whole_small =
        let wire : c * whole ≤ 10 ^ 11 * 10 ^ 12 = mul-le-mul c_small whole_small in
        record { low = omega (arith, ints); high = omega (arith, ints, wire, delay_small) }

-- what the driver does to the whole net, and then the wire
pub late_value : (net : TimedNet) (s : Signal) (i delay : ℕ) → IsTree net.tree → pos (delay_in net.tree i) ≡ pos delay
    → s.late + s.r * total_capacitance net.tree + delay ≡ late_at net s i
late_value net s i delay a_tree is =
    let same : delay_in net.tree i ≡ delay = cc in
    let load = ap (λ (n : ℕ). s.r * n) (root_load net.tree a_tree) in
    omega (arith, same, load)
