-- Of each repeater the greatest pair alone is needed.
use Rattle.std.proofs.Common.{◌≡◌, ℕ, ◌<◌, Bool, true, List, length, get_or, refl, sym, ap, ◌∙◌, subst, arith, inl, inr, ℤ, pos, ◌-ℤ◌, Option, None, Some, leb, false}
use Rattle.std.proofs.lemmas.Int.{ints}
use Rattle.std.proofs.lemmas.List.{get_or_default}
use Rattle.std.proofs.lemmas.List.Elements.{Contains-get_or}
use Rattle.std.specs.List.{Contains, filter}
use Rattle.elmore.specs.Allowances.{allowed_at}
use Rattle.elmore.specs.Cells.{rep_of, rep_at}
use Rattle.elmore.specs.Legal.{IsWithin, IsFit, MayHave}
use Rattle.elmore.specs.Pairs.{Dominates}
use Rattle.elmore.specs.Path.{nodes as node_numbers}
use Rattle.cand_pairs.specs.Candidates.{with_cell, past_cell}
use Rattle.cand_pairs.specs.Merging.{IsGreatestBy, Greatest, Owns}
use Rattle.elmore.specs.declared.rep.Rep.{Rep}
use Rattle.elmore.specs.declared.problem.Problem.{Problem}
use Rattle.elmore.specs.declared.pair.Pair.{Pair}
use Rattle.cand_pairs.proofs.ChildLemmas.{in_nodes, nodes_in, in_filter, filter_parts}
use Rattle.cand_pairs.proofs.ChoiceLemmas.{least_in}
use Rattle.cand_pairs.proofs.StepLemmas.{over_self, within_less}
use Rattle.cand_pairs.proofs.MergeLemmas.{IsDense}
use Rattle.std.proofs.lemmas.Bool.{le-leb, leb-true}

-- a limit as a test
abbrev is_within : Option ℕ → ℕ → Bool
is_within None n = true
is_within (Some most) n = leb n most

from_within : (limit : Option ℕ) (n : ℕ) → IsWithin limit n → is_within limit n ≡ true
from_within None n within = refl
from_within (Some most) n within = le-leb n most within

within_from : (limit : Option ℕ) (n : ℕ) → is_within limit n ≡ true → IsWithin limit n
within_from None n e = tt
within_from (Some most) n e = leb-true n most e

-- a list that has a pair within the limit of a repeater has a greatest pair for it
pub greatest_exists : (rep : Rep) (xs : List Pair) (y : Pair) → Contains xs y → IsWithin rep.limit y.c → (z : Pair) × IsGreatestBy rep xs z
greatest_exists rep xs y (k, k_n, e) fits =
    elim (least_in left (filter test (node_numbers (length xs)))) [
      | inl none ↦ absurd (none k (within k k_n (within_less rep.limit (get_or xs k y).c y.c (omega (arith, ap (λ (t : Pair). t.c) e)) fits)))
      | inr (q, is) ↦
          let (j, found, q_is) = is.met in
          let (among, passes) = filter_parts test (node_numbers (length xs)) j found in
          let j_n : j < length xs = nodes_in (length xs) j among in (
            with_cell (Some rep) (get_or xs j y),
            record {
              made = (get_or xs j y, Contains-get_or xs j y j_n, within_from rep.limit (get_or xs j y).c passes, refl);
              most = λ x (i, i_n, x_is) x_fits.
                  let at : get_or xs i y ≡ x = get_or_default xs i y x i_n ∙ x_is in
                  omega (arith, ints, q_is, is.least i (within i i_n (within_less rep.limit (get_or xs i y).c x.c (omega (arith, ap (λ (t : Pair). t.c) at)) x_fits)), ap (λ (t : Pair). (with_cell (Some rep) t).q) at);
            },
          )
    ]
  where
    left : ℕ → ℤ
    left i = pos 0 -ℤ (with_cell (Some rep) (get_or xs i y)).q

    test : ℕ → Bool
    test i = is_within rep.limit (get_or xs i y).c

    within : (i : ℕ) → i < length xs → IsWithin rep.limit (get_or xs i y).c
        → Contains (filter (λ i. is_within rep.limit (get_or xs i y).c) (node_numbers (length xs))) i
    within i i_n low =
        in_filter (λ i. is_within rep.limit (get_or xs i y).c) (node_numbers (length xs)) i (in_nodes (length xs) i i_n)
        (from_within rep.limit (get_or xs i y).c low)

pub greatest_dense : (p : Problem) (v : ℕ) (odd : Bool) (lists : Bool → List Pair) → IsDense (Greatest p v odd lists) (Owns p v odd lists)
greatest_dense p v odd lists = record {
  part = λ z z_in. elim z_in [
    | inl same ↦ (None, z, (λ b e. absurd (cc)), same, refl)
    | inr (b, choice, is) ↦
        let (y, y_in, fits, z_is) = is.made in
        let fit : IsFit (get_or p.places v false) (allowed_at p.allowed v) p.reps b y.c =
        record { at_place = choice.at_place; named = choice.named; allows = choice.allows; limit = fits } in
        (Some b, y, (λ d e. let same : b ≡ d = cc (e) in subst (λ (k : ℕ). IsFit (get_or p.places v false) (allowed_at p.allowed v) p.reps k y.c) same fit), y_in, z_is)
  ];
  covers = λ a (own, y, may, y_in, a_is). covered a own y may y_in a_is;
}
  where
    covered : (a : Pair) (own : Option ℕ) (y : Pair) → MayHave p v own y.c → Contains (lists (past_cell (rep_of p.reps own) odd)) y
        → a ≡ with_cell (rep_of p.reps own) y → (z : Pair) × Greatest p v odd lists z × Dominates z a
    covered a None y may y_in a_is = (a, inl (subst (Contains (lists odd)) (sym a_is) y_in), over_self a)
    covered a (Some b) y may y_in a_is =
        let fit : IsFit (get_or p.places v false) (allowed_at p.allowed v) p.reps b y.c = may b refl in
        let (z, is) = greatest_exists (rep_at p.reps b) (lists (past_cell (Some (rep_at p.reps b)) odd)) y y_in fit.limit in
        let (x, x_in, fits, z_is) = is.made in (
          z,
          inr (b, record { at_place = fit.at_place; named = fit.named; allows = fit.allows }, is),
          record {
            time = omega (arith, ints, is.most y y_in fit.limit, ap (λ (t : Pair). t.q) a_is);
            room = omega (arith, ap (λ (t : Pair). t.c) a_is, ap (λ (t : Pair). t.c) z_is);
          },
        )
