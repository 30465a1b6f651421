-- The first fault of a text's lines.
use Rattle.std.proofs.Common.{◌≡◌, ℕ, ◌+◌, ◌-◌, ◌<◌, Option, Some, None, arith, ap, below_more}
use Rattle.vg_scan.specs.declared.fault.LineFault.{LineFault}
use Rattle.vg_scan.specs.Faults.{IsClear, IsFirstFault}

-- before the first line nothing is faulty
pub clear_none : {K : Type 0} (fault_at : ℕ → Option K) → IsClear fault_at 0
clear_none fault_at = λ i l. absurd (omega arith)

-- one line more has no fault
pub clear_more : {K : Type 0} (fault_at : ℕ → Option K) (n : ℕ) → IsClear fault_at n → fault_at n ≡ None → IsClear fault_at (n + 1)
clear_more fault_at n clear here = below_more (λ i. fault_at i ≡ None) n clear here

-- a line has a fault, and none before it
pub first_fault : {K : Type 0} (fault_at : ℕ → Option K) (count first n line : ℕ) (kind : K) → IsClear fault_at n → fault_at n ≡ Some kind → n < count → line ≡ first + n
    → IsFirstFault fault_at count first (record { kind = kind; line = line })
first_fault fault_at count first n line kind clear here within is =
    let m : line - first ≡ n = omega arith in
    record {
      counted = omega arith;
      within = omega arith;
      before = rw m clear;
      here = rw m here;
    }

-- where no line has a fault there is no first one
pub never_both : {K : Type 0} (fault_at : ℕ → Option K) (count first : ℕ) (fault : LineFault K) → IsClear fault_at count → IsFirstFault fault_at count first fault → ⊥
never_both fault_at count first fault clear found =
    let none = clear (fault.line - first) (omega (arith, found.counted, found.within)) in
    let here = found.here in
    cc

-- a fault stands at no line before the first fault
not_before : {K : Type 0} (fault_at : ℕ → Option K) (count first : ℕ) (a b : LineFault K) → IsFirstFault fault_at count first a → IsFirstFault fault_at count first b → a.line < b.line → ⊥
not_before fault_at count first a b x y l =
    let none = y.before (a.line - first) (omega (arith, x.counted, y.counted)) in
    let here = x.here in
    cc

-- there is one first fault
pub first_fault-unique : {K : Type 0} (fault_at : ℕ → Option K) (count first : ℕ) (a b : LineFault K) → IsFirstFault fault_at count first a → IsFirstFault fault_at count first b → a ≡ b
first_fault-unique fault_at count first a b x y =
    let line : a.line ≡ b.line = omega (arith, not_before fault_at count first a b x y, not_before fault_at count first b a y x) in
    let e = x.here in
    let f = y.here in
    let g : fault_at (a.line - first) ≡ fault_at (b.line - first) = ap (λ n. fault_at (n - first)) line in
    let kind : a.kind ≡ b.kind = cc in
    λ i. record { kind = kind i; line = line i }
