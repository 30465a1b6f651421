-- The repeaters of a library: few, and by rising resistance.
use Rattle.std.proofs.Common.{◌≡◌, ℕ, ◌≤◌, true, false, List, [], length, get_or, refl, sym, ap, ◌∙◌, arith, inl, inr}
use Rattle.std.specs.declared.cmp.Ordering.TheVariants.{Less}
use Rattle.std.specs.Cmp.{nat_cmp_is}
use Rattle.std.proofs.lemmas.Bool.{cases_lt, false≢true}
use Rattle.std.proofs.lemmas.List.{get_or-map, length-map}
use Rattle.std.proofs.lemmas.List.Sorted.{length_permutation}
use Rattle.elmore.specs.Problems.{AreRising}
use Rattle.elmore.specs.declared.rep.Rep.{Rep}
use Rattle.lib_linear.specs.Libraries.{Cells, Denotes}
use Rattle.lib_linear.specs.Repeaters.{comes_before}
use Rattle.lib_linear.specs.declared.repeater.Repeater.{Repeater}
use Rattle.vg_design.specs.Parts.{reps_of}

pub few : (text : List ℕ) (said : Cells) → Denotes text said → length said.repeaters ≤ 256
few text said is =
    let are = is.says.repeaters in
    let size = length_permutation are.found said.repeaters are.order.same in
    omega (arith, size, are.few)

-- what does not come before has no smaller resistance
no_less : (a b : Repeater) → comes_before b a ≡ false → a.rep.r ≤ b.rep.r
no_less a b later = elim (cases_lt b.rep.r a.rep.r) [
  | inl less ↦ (let first : comes_before b a ≡ true = rw (sym (nat_cmp_is b.rep.r a.rep.r Less less)) refl in absurd (false≢true (sym later ∙ first)))
  | inr more ↦ more
]

pub rising : (text : List ℕ) (said : Cells) → Denotes text said → AreRising (reps_of said.repeaters)
rising text said is i j d low high =
    let size = length-map said.repeaters (λ (r : Repeater). r.rep) in
    let none : Repeater = record { cell = []; input = []; output = []; rep = d } in
    let a = get_or-map (λ (r : Repeater). r.rep) said.repeaters i none d (omega (arith, low, high, size)) in
    let b = get_or-map (λ (r : Repeater). r.rep) said.repeaters j none d (omega (arith, high, size)) in
    let order = no_less (get_or said.repeaters i none) (get_or said.repeaters j none) (is.says.repeaters.order.rising i j none low (omega (arith, high, size))) in
    omega (arith, ap (λ (r : Rep). r.r) a, ap (λ (r : Rep). r.r) b, order)
