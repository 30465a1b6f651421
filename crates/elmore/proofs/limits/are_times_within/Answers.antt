use Rattle.std.proofs.Common.{◌≡◌, ◌<◌, ℕ, List, Option, Some, None, arith, refl, sym, ◌∙◌, length, inl, inr}
use Rattle.std.proofs.lemmas.Bool.{cases_lt}
use Rattle.std.proofs.lemmas.List.{get_or_past}
use Rattle.elmore.specs.Problems.{sink_of}
use Rattle.elmore.specs.declared.parts.Sink.{Sink}
use Rattle.elmore.proofs.limits.are_times_within.Goals as goal

-- past the end is no sink
within : (sinks : List (Option Sink)) (v : ℕ) (sink : Sink) → sink_of sinks v ≡ Some sink → v < length sinks
within sinks v sink is =
    elim (cases_lt v (length sinks)) [
      | inl low ↦ low
      | inr high ↦ let none : None ≡ Some sink = sym (get_or_past sinks v None high) ∙ is in absurd (cc)
    ]

pub returns : goal.returns
returns c = (λ f v sink is. c.sinks.invariant v sink (omega (arith, within c.args.sinks.now v sink is)) is, λ all. refl)
