-- Why the functions that look for repeaters find them.
use Rattle.std.proofs.Common.{◌≡◌, ℕ, ◌==◌, Bool, true, false, ◌⊎◌, inl, inr, nat_lt, List, [], ◌∷◌, Option, Some, None, find, length, slice_get, option_map, refl, sym, ap, ◌∙◌, arith}
use Rattle.std.proofs.lemmas.Bool.Decides.{nat_tests}
use Rattle.std.specs.Option.{MatchOption}
use Rattle.lib_text.specs.Groups.{Group}
use Rattle.lib_cells.specs.declared.pin.PinDir.TheVariants.{Input, Output}
use Rattle.lib_cells.specs.PinInfos.{PinInfo}
use Rattle.lib_cells.specs.Cells.{direction_of, is_output, pin_groups}
use Rattle.lib_cells.specs.declared.units.Units.{Units}
use Rattle.lib_linear.specs.Repeaters.{AreTwoPins, IsFunction, Follows, is_timed}

pub there : (n : ℕ) → (n == 0) ≡ false → nat_lt 0 n ≡ true
there n e = grind (arith, nat_tests)

pub mapped_same : {X : Type 0} (o : Option X) → option_map (λ x. x) o ≡ o
mapped_same None = refl
mapped_same (Some x) = refl

module _ (units : Units) (cell : Group) (input : List ℕ) where
  pub no_output : find (λ pin. is_output (direction_of pin)) (pin_groups cell) ≡ None → (inverted : Bool) → Follows units cell input inverted → ⊥
  no_output e inverted f = let g = sym e ∙ f.group in absurd (cc)

  module _ (output : Group) (e : find (λ pin. is_output (direction_of pin)) (pin_groups cell) ≡ Some output) where
    same_output : (inverted : Bool) (f : Follows units cell input inverted) → f.output ≡ output
    same_output inverted f = let g = sym f.group ∙ e in grind arith

    pub not_timed : is_timed units input output ≡ false → (inverted : Bool) → Follows units cell input inverted → ⊥
    not_timed t inverted f = let g = sym t ∙ rw (same_output inverted f) at f.timed in absurd (cc)

    pub follows_as : is_timed units input output ≡ true → (r : Option Bool)
        → MatchOption r ((inverted : Bool) → IsFunction output input inverted → ⊥) (IsFunction output input)
        → MatchOption r ((inverted : Bool) → Follows units cell input inverted → ⊥) (Follows units cell input)
    follows_as t None h = λ inverted f. h inverted (rw (same_output inverted f) at f.function)
    follows_as t (Some inverted) h = record { output = output; group = e; function = h; timed = t }

list_two : {X : Type 0} (a b c d : X) → a ∷ b ∷ [] ≡ c ∷ d ∷ [] → (a ≡ c) × (b ≡ d)
list_two a b c d e = (grind arith, grind arith)

-- a list of two elements
pub are_two : {X : Type 0} (xs : List X) (a b : X) → length xs ≡ 2 → slice_get xs 0 ≡ Some a → slice_get xs 1 ≡ Some b → xs ≡ a ∷ b ∷ []
are_two [] a b n e f = absurd (omega (arith, n))
are_two (x ∷ []) a b n e f = absurd (omega (arith, n))
are_two (x ∷ y ∷ []) a b n e f = let g : Some x ≡ Some a = e in let h : Some y ≡ Some b = f in cc
are_two (x ∷ y ∷ z ∷ xs) a b n e f = absurd (omega (arith, n))

no_both : (a b : PinInfo) → a.direction ≡ Input → b.direction ≡ Output → a ≡ b → ⊥
no_both a b i o e = let f : Input ≡ Output = sym i ∙ ap (λ p. p.direction) e ∙ o in absurd (cc)

-- the input and the output of a cell are one pin each
pub same_pins : (pins : List PinInfo) (a b c d : PinInfo) → AreTwoPins pins a b → AreTwoPins pins c d → (a ≡ c) × (b ≡ d)
same_pins pins a b c d h k = by_cases h.two k.two
  where
    by_cases : (pins ≡ a ∷ b ∷ []) ⊎ (pins ≡ b ∷ a ∷ []) → (pins ≡ c ∷ d ∷ []) ⊎ (pins ≡ d ∷ c ∷ []) → (a ≡ c) × (b ≡ d)
    by_cases (inl e) (inl f) = list_two a b c d (sym e ∙ f)
    by_cases (inl e) (inr f) = let (x, y) = list_two a b d c (sym e ∙ f) in absurd (no_both a d h.ways.is_in k.ways.is_out x)
    by_cases (inr e) (inl f) = let (x, y) = list_two b a c d (sym e ∙ f) in absurd (no_both c b k.ways.is_in h.ways.is_out (sym x))
    by_cases (inr e) (inr f) = let (x, y) = list_two b a d c (sym e ∙ f) in (y, x)
