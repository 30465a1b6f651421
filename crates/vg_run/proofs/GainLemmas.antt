-- Outputs that gain pieces one after another.
use Rattle.std.proofs.Common.{◌≡◌, ℕ, ◌+◌, List, ◌++◌, length, take, sym, ap, ◌∙◌, subst, arith, append_assoc, length-append, Option, Some, None, Result, Ok, Err, OnErr}
use Rattle.std.proofs.Math.Seq.{take-append-add}
use Rattle.std.proofs.lemmas.List.{take-append-le}
use Rattle.vg_store.specs.Writing.{OutState, Appends, Gains, GainsPrefix}

abbrev Bytes : Type 0
Bytes = List ℕ

pub on_err : {T E P : Type 0} (r : Result T E) → P → OnErr r P
on_err (Ok x) p = tt
on_err (Err e) p = p

appends_then : (a b c : Option Bytes) (x y : Bytes) → Appends a b x → Appends b c y → Appends a c (x ++ y)
appends_then None b c x y g h = tt
appends_then (Some old) b c x y g h =
    subst (λ (o : Option Bytes). Appends o c y → c ≡ Some (old ++ (x ++ y))) (sym g) (λ k. k ∙ ap (λ (l : Bytes). Some l) (append_assoc old x y)) h

gains_then : (a b c : OutState) (x y : Bytes) → Gains a b x → Gains b c y → Gains a c (x ++ y)
gains_then a b c x y g h = appends_then a.written b.written c.written x y g h

-- a piece, and then a part of the next
pub prefix_after : (a b c : OutState) (x y : Bytes) → Gains a b x → GainsPrefix b c y → GainsPrefix a c (x ++ y)
prefix_after a b c x y g p =
    (length x + p.0, omega (arith, p.1, length-append x y), subst (λ (l : Bytes). Gains a c l) (sym (take-append-add x y p.0)) (gains_then a b c x (take p.0 y) g p.2))

-- a part of the first piece
pub prefix_within : (a b : OutState) (x y : Bytes) → GainsPrefix a b x → GainsPrefix a b (x ++ y)
prefix_within a b x y p =
    (p.0, omega (arith, p.1, length-append x y), subst (λ (l : Bytes). Gains a b l) (sym (take-append-le p.0 x y p.1)) p.2)

-- three pieces, and then the rest
pub five : (a b c rest : Bytes) → (a ++ (b ++ c)) ++ rest ≡ a ++ (b ++ (c ++ rest))
five a b c rest = append_assoc a (b ++ c) rest ∙ ap (λ (l : Bytes). a ++ l) (append_assoc b c rest)
