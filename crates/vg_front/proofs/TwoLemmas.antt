-- Two lists that are worked on one after the other.
use Rattle.std.proofs.Common.{◌≡◌, ℕ, List, ◌++◌, refl, sym, subst, ◌∙◌, arith, inl, inr}
use Rattle.std.proofs.lemmas.List.Elements.{Contains-append_left, Contains-append_right, Contains-append_cases}
use Rattle.std.specs.List.{Contains}
use Rattle.sol_arena.specs.declared.arena.Arena.{Arena}
use Rattle.sol_arena.specs.declared.slot.Slot.{Slot}
use Rattle.sol_arena.specs.Arenas.{slots_of, made_of}
use Rattle.vg_front.specs.declared.offer.Candidate.{Candidate}
use Rattle.vg_front.specs.Held.{AreHeld, IsGiven, MeanTheSame, IsBlend}
use Rattle.vg_front.proofs.HeldLemmas.{uses, uses_both, given_then, given_as, given_held, given_beside, held_as, beside_same}

pub swapped : (slots : List Slot) (xs ys : List Candidate) → AreHeld slots (xs ++ ys) → AreHeld slots (ys ++ xs)
swapped slots xs ys held = held_as slots (xs ++ ys) (ys ++ xs) (λ s. omega (arith, uses_both xs ys s, uses_both ys xs s)) held

pub front_held : (slots : List Slot) (xs ys : List Candidate) → AreHeld slots (xs ++ ys) → AreHeld slots xs
front_held slots xs ys held = held_as slots (xs ++ ys) xs (λ s. omega (arith, uses_both xs ys s)) held

module _ (old mid : Arena) (xs xs' ys : List Candidate) (held : AreHeld (slots_of old) (xs ++ ys)) (one : IsGiven (slots_of old) xs (slots_of mid) xs')
  where
    pub mid_given : IsGiven (slots_of old) (xs ++ ys) (slots_of mid) (xs' ++ ys)
    mid_given =
        given_as (slots_of old) (slots_of mid) (ys ++ xs) (xs ++ ys) (ys ++ xs') (xs' ++ ys) (λ s. omega (arith, uses_both xs ys s, uses_both ys xs s))
        (λ s. omega (arith, uses_both xs' ys s, uses_both ys xs' s)) (given_beside (slots_of old) (slots_of mid) ys xs xs' one)

    pub mid_held : AreHeld (slots_of mid) (xs' ++ ys)
    mid_held = given_held (slots_of old) (slots_of mid) (xs ++ ys) (xs' ++ ys) held mid_given

    pub second_held : AreHeld (slots_of mid) ys
    second_held = front_held (slots_of mid) ys xs' (swapped (slots_of mid) xs' ys mid_held)

    pub second_same : MeanTheSame (made_of old) (made_of mid) ys
    second_same = beside_same old mid ys xs xs' (swapped (slots_of old) xs ys held) one

    module _ (new : Arena) (ys' : List Candidate) (two : IsGiven (slots_of mid) ys (slots_of new) ys') where
      pub both_given : IsGiven (slots_of old) (xs ++ ys) (slots_of new) (xs' ++ ys')
      both_given =
          given_then (slots_of old) (slots_of mid) (slots_of new) (xs ++ ys) (xs' ++ ys) (xs' ++ ys') mid_given
          (given_beside (slots_of mid) (slots_of new) xs' ys ys' two)

      pub both_same : MeanTheSame (made_of old) (made_of mid) xs' → MeanTheSame (made_of mid) (made_of new) ys'
          → ((y : Candidate) → Contains ys' y → Contains ys y)
          → MeanTheSame (made_of old) (made_of new) (xs' ++ ys')
      both_same first second part x found =
          elim (Contains-append_cases xs' ys' x found) [
            | inl in_xs ↦ beside_same mid new xs' ys ys' mid_held two x in_xs ∙ first x in_xs
            | inr in_ys ↦ second x in_ys ∙ second_same x (part x in_ys)
          ]

-- those of two branches, class by class
pub crossed_uses : (a b c d : List Candidate) (s : ℕ) → uses ((a ++ c) ++ (b ++ d)) s ≡ uses ((a ++ b) ++ (c ++ d)) s
crossed_uses a b c d s =
    omega (arith, uses_both (a ++ c) (b ++ d) s, uses_both (a ++ b) (c ++ d) s, uses_both a c s, uses_both b d s, uses_both a b s, uses_both c d s)

pub crossed_held : (slots : List Slot) (a b c d : List Candidate) → AreHeld slots ((a ++ b) ++ (c ++ d)) → AreHeld slots ((a ++ c) ++ (b ++ d))
crossed_held slots a b c d held = held_as slots ((a ++ b) ++ (c ++ d)) ((a ++ c) ++ (b ++ d)) (λ s. omega (arith, crossed_uses a b c d s)) held

pub crossed_given : (old new : List Slot) (a b c d zs : List Candidate) → IsGiven old ((a ++ c) ++ (b ++ d)) new zs → IsGiven old
    ((a ++ b) ++ (c ++ d)) new zs
crossed_given old new a b c d zs one =
    given_as old new ((a ++ c) ++ (b ++ d)) ((a ++ b) ++ (c ++ d)) zs zs (λ s. sym (crossed_uses a b c d s)) (λ s. refl) one

-- one list of a blend is of both
pub blend_part : (xs ys zs : List Candidate) → IsBlend xs ys zs → (z : Candidate) → Contains zs z → Contains (xs ++ ys) z
blend_part xs ys zs blend z found = elim (blend.part z found) [
  | inl first ↦ Contains-append_left xs ys z first
  | inr second ↦ Contains-append_right xs ys z second
]

-- two lists by other names
pub given_named : (old new : List Slot) (xs xs' ys ys' zs : List Candidate) → xs ≡ xs' → ys ≡ ys' → IsGiven old (xs ++ ys) new zs → IsGiven old
    (xs' ++ ys') new zs
given_named old new xs xs' ys ys' zs xs_are ys_are one =
    subst (λ (l : List Candidate). IsGiven old (l ++ ys') new zs) xs_are (subst (λ (l : List Candidate). IsGiven old (xs ++ l) new zs) ys_are one)

pub held_named : (slots : List Slot) (xs xs' ys ys' : List Candidate) → xs ≡ xs' → ys ≡ ys' → AreHeld slots (xs' ++ ys') → AreHeld slots (xs ++ ys)
held_named slots xs xs' ys ys' xs_are ys_are held =
    subst (λ (l : List Candidate). AreHeld slots (l ++ ys)) (sym xs_are) (subst (λ (l : List Candidate). AreHeld slots (xs' ++ l)) (sym ys_are) held)
