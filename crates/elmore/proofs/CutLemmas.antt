-- The forest that keeps only the edges of the nodes from i on, and what one more edge changes.
use Rattle.std.proofs.Common.{◌≡◌, ℕ, ◌+◌, ◌<◌, ◌≤◌, refl, sym, ap, ◌∙◌, arith, inl, inr, cond, ltb}
use Rattle.std.proofs.lemmas.Bool.{cases_lt, lt-ltb, le-ltb}
use mathlib.Core.Path.{fun_ext}
use Rattle.elmore.specs.Path.{Falls}
use Rattle.elmore.proofs.HangLemmas.{Hung}

-- the forest that keeps only the edges of the nodes from i on
abbrev pub cut : ℕ → (ℕ → ℕ) → ℕ → ℕ
cut i parent u = cond (ltb u i) u (parent u)

pub cut_below : (i : ℕ) (parent : ℕ → ℕ) (u : ℕ) → u < i → cut i parent u ≡ u
cut_below i parent u h = rw (lt-ltb u i h) refl

pub cut_from : (i : ℕ) (parent : ℕ → ℕ) (u : ℕ) → i ≤ u → cut i parent u ≡ parent u
cut_from i parent u h = rw (le-ltb u i h) refl

pub cut_falls : (i : ℕ) (parent : ℕ → ℕ) → Falls parent → Falls (cut i parent)
cut_falls i parent falls u =
    elim (cases_lt u i) [
      | inl h ↦ let e : cut i parent u ≡ u = cut_below i parent u h in omega arith
      | inr h ↦ let e : cut i parent u ≡ parent u = cut_from i parent u h in omega (arith, falls u)
    ]

-- the edge of node i comes in
pub cut_hung : (parent : ℕ → ℕ) → Falls parent → (i j : ℕ) → i + 1 ≡ j → parent i < i → Hung (cut j parent) (cut i parent) i (parent i)
cut_hung parent falls i j next above = record {
  falls = cut_falls j parent falls;
  falls_after = cut_falls i parent falls;
  apart = λ e. omega arith;
  root = cut_below j parent i (omega arith);
  root_above = cut_below j parent (parent i) (omega arith);
  edge = cut_from i parent i (omega arith);
  others = λ w w_i.
      elim (cases_lt w i) [
        | inl h ↦ cut_below i parent w h ∙ sym (cut_below j parent w (omega arith))
        | inr h ↦ cut_from i parent w h ∙ sym (cut_from j parent w (omega arith))
      ];
}

-- every edge is in once node 1 is, where node 0 is the root
pub cut_none : (parent : ℕ → ℕ) (i : ℕ) → i ≤ 1 → parent 0 ≡ 0 → cut i parent ≡ parent
cut_none parent i small root = fun_ext (λ u.
    elim (cases_lt u i) [
      | inl h ↦ let zero_is : u ≡ 0 = omega arith in cut_below i parent u h ∙ zero_is ∙ sym root ∙ ap parent (sym zero_is)
      | inr h ↦ cut_from i parent u h
    ])
