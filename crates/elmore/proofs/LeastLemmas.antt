-- The least of what the sinks of some nodes have left.
use Rattle.std.proofs.Common.{◌≡◌, ◌⊎◌, ℕ, suc, ◌+◌, ◌<◌, ◌≤◌, ◌^◌, Bool, true, List, [], ◌∷◌, length, Option, Some, None, is_some, ℤ, pos, ◌≤ℤ◌, ◌<ℤ◌, ◌-ℤ◌, int_lt, cond, refl, sym, ap, ◌∙◌, arith, inl, inr}
use Rattle.std.proofs.lemmas.Bool.{cases_eq, cases_lt, cases_Bool, false≢true}
use Rattle.std.proofs.lemmas.Int.{ints, int_min_is}
use Rattle.std.proofs.lemmas.List.{get_or_past}
use Rattle.std.specs.Int.{int_min}
use Rattle.std.specs.List.{list_any}
use Rattle.elmore.specs.Problems.{sink_of}
use Rattle.elmore.specs.Placed.{IsLeast}
use Rattle.elmore.specs.declared.parts.Sink.{Sink}

-- the greatest number of the type
abbrev pub greatest : ℤ
greatest = pos (2 ^ 127) -ℤ pos 1

-- x is the least of what the sinks of the first n nodes have left; without a sink it is the greatest number
pub record IsLeastOf (sinks : List (Option Sink)) (left : ℕ → Sink → ℤ) (n : ℕ) (x : ℤ) : Type 0 where
  pub least : (w : ℕ) (sink : Sink) → w < n → sink_of sinks w ≡ Some sink → x ≤ℤ left w sink
  pub met : (x ≡ greatest) ⊎ ((w : ℕ) × (sink : Sink) × (sink_of sinks w ≡ Some sink) × (x ≡ left w sink))

-- a node without a sink
pub least_none : (sinks : List (Option Sink)) (left : ℕ → Sink → ℤ) (n : ℕ) (x : ℤ) → sink_of sinks n ≡ None
    → IsLeastOf sinks left n x → IsLeastOf sinks left (n + 1) x
least_none sinks left n x none before = record {
  least = λ w sink low here.
      elim (cases_eq w n) [
        | inl e ↦ absurd (cc (ap (sink_of sinks) e, none, here))
        | inr other ↦ before.least w sink (omega arith) here
      ];
  met = before.met;
}

-- a node with a sink
pub least_some : (sinks : List (Option Sink)) (left : ℕ → Sink → ℤ) (n : ℕ) (x y z : ℤ) (here : Sink) → sink_of sinks n ≡ Some here
    → y ≡ left n here → z ≡ int_min x y → IsLeastOf sinks left n x → IsLeastOf sinks left (n + 1) z
least_some sinks left n x y z here some y_is z_is before = record {
  least = λ w sink low there.
      elim (cases_eq w n) [
        | inl e ↦
            let both : Some sink ≡ Some here = sym there ∙ ap (sink_of sinks) e ∙ some in
            let same : sink ≡ here = cc (both) in
            rw (e, same) (omega (arith, ints, int_min_is x y))
        | inr other ↦ omega (arith, ints, int_min_is x y, before.least w sink (omega arith) there)
      ];
  met = elim (cases_Bool (int_lt y x)) [
    | inl less ↦ inr (n, here, some, z_is ∙ ap (λ (b : Bool). cond b y x) less ∙ y_is)
    | inr more ↦
        let same : z ≡ x = z_is ∙ ap (λ (b : Bool). cond b y x) more in
        rw same before.met
  ];
}

pub within_sinks : (sinks : List (Option Sink)) (w : ℕ) (sink : Sink) → sink_of sinks w ≡ Some sink → w < length sinks
within_sinks sinks w sink here =
    elim (cases_lt w (length sinks)) [
      | inl low ↦ low
      | inr high ↦ absurd (cc (get_or_past sinks w None high, here))
    ]

pub some_sink : (sinks : List (Option Sink)) → list_any is_some sinks ≡ true → (w : ℕ) × (sink : Sink) × (sink_of sinks w ≡ Some sink)
some_sink [] e = absurd (false≢true e)
some_sink (Some sink ∷ sinks) e = (0, sink, refl)
some_sink (None ∷ sinks) e = let (w, sink, here) = some_sink sinks e in (suc w, sink, here)

-- with some sink, all of which have less left than the greatest number, that is the least
pub least_end : (sinks : List (Option Sink)) (left : ℕ → Sink → ℤ) (n : ℕ) (x : ℤ) → length sinks ≤ n → list_any is_some sinks ≡ true
    → ((w : ℕ) (sink : Sink) → sink_of sinks w ≡ Some sink → left w sink <ℤ greatest)
    → IsLeastOf sinks left n x → IsLeast sinks left x
least_end sinks left n x all some small last = record {
  least = λ w sink here. last.least w sink (omega (arith, within_sinks sinks w sink here)) here;
  met = elim last.met [
    | inl top ↦
        let (w, sink, here) = some_sink sinks some in
        absurd (omega (arith, ints, top, small w sink here, last.least w sink (omega (arith, within_sinks sinks w sink here)) here))
    | inr met ↦ met
  ];
}
