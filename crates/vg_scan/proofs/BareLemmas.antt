-- Where a byte stands unescaped for the last time.
use Rattle.std.proofs.Common.{◌≡◌, ℕ, zero, suc, ◌<◌, ◌≤◌, Bool, true, false, cond, List, Some, None, arith, ap, ◌∙◌, refl, inl, inr, subst}
use Rattle.std.proofs.lemmas.Bool.{cases_lt}
use Rattle.vg_scan.specs.Names.{is_bare, last_bare}

-- no place from one place on and below a limit
abbrev pub NoneBetween : ℕ → List ℕ → ℕ → ℕ → Type 0
NoneBetween byte text from limit = (at : ℕ) → from ≤ at → at < limit → is_bare byte text at ≡ false

-- a place below a limit, unescaped, and the last one
pub record LastBelow (byte : ℕ) (text : List ℕ) (limit at : ℕ) : Type 0 where
  pub within : at < limit
  pub here : is_bare byte text at ≡ true
  pub last : NoneBetween byte text (suc at) limit

one_more : (byte : ℕ) (text : List ℕ) (from limit : ℕ) → NoneBetween byte text from limit → is_bare byte text limit ≡ false → NoneBetween byte text from (suc limit)
one_more byte text from limit none here at low high =
    elim (cases_lt at limit) [
      | inl below ↦ none at low below
      | inr above ↦ (let same : at ≡ limit = omega arith in ap (is_bare byte text) same ∙ here)
    ]

none_step : (byte : ℕ) (text : List ℕ) (limit : ℕ) (t : Bool) → is_bare byte text limit ≡ t
    → (last_bare byte text limit ≡ None → NoneBetween byte text 0 limit)
    → cond t (Some limit) (last_bare byte text limit) ≡ None → NoneBetween byte text 0 (suc limit)
none_step byte text limit true e earlier h = absurd (cc)
none_step byte text limit false e earlier h = one_more byte text 0 limit (earlier h) e

pub none_bare : (byte : ℕ) (text : List ℕ) (limit : ℕ) → last_bare byte text limit ≡ None → NoneBetween byte text 0 limit
none_bare byte text zero e = λ at low high. absurd (omega arith)
none_bare byte text (suc limit) e = none_step byte text limit (is_bare byte text limit) refl (none_bare byte text limit) e

some_step : (byte : ℕ) (text : List ℕ) (limit at : ℕ) (t : Bool) → is_bare byte text limit ≡ t
    → (last_bare byte text limit ≡ Some at → LastBelow byte text limit at)
    → cond t (Some limit) (last_bare byte text limit) ≡ Some at → LastBelow byte text (suc limit) at
some_step byte text limit at true e earlier h =
    let same : limit ≡ at = cc in
    let P : ℕ → Type 0 = λ place. LastBelow byte text (suc limit) place in
    subst P same (record { within = omega arith; here = e; last = λ place low high. absurd (omega arith) })
some_step byte text limit at false e earlier h =
    let r : LastBelow byte text limit at = earlier h in
    record { within = omega (arith, r.within); here = r.here; last = one_more byte text (suc at) limit r.last e }

pub some_bare : (byte : ℕ) (text : List ℕ) (limit at : ℕ) → last_bare byte text limit ≡ Some at → LastBelow byte text limit at
some_bare byte text zero at e = absurd (cc)
some_bare byte text (suc limit) at e = some_step byte text limit at (is_bare byte text limit) refl (some_bare byte text limit at) e
