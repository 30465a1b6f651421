-- A scan of a list for the greatest time that a repeater makes of its candidates.
use Rattle.std.specs.Prelude.{◌-ℤ◌, MatchOption}
use Rattle.std.proofs.Common.{◌≡◌, ◌⊎◌, ℕ, ◌+◌, ◌*◌, ◌<◌, ◌≤◌, [], ◌∷◌, length, drop, refl, sym, ◌∙◌, subst, arith, inl, inr, Option, Some, None, pos, ◌≤ℤ◌}
use Rattle.std.proofs.lemmas.Bool.{cases_lt}
use Rattle.std.proofs.lemmas.Int.{ints}
use Rattle.std.proofs.lemmas.List.{drop_more}
use Rattle.elmore.specs.Legal.{IsWithin}
use Rattle.elmore.specs.declared.rep.Rep.{Rep}
use Rattle.cand_pool.specs.Candidates.{Candidates}
use Rattle.cand_pool.specs.Pools.{Block, IsPlace}
use Rattle.cand_pool.specs.declared.ends.Cand.{Cand}
use Rattle.vg_convex.specs.Answers.{IsFoundFor}
use Rattle.vg_convex.specs.Hulls.{value, Rise, IsGreatest}
use Rattle.vg_convex.specs.Places.{candidate_at, row, IsNext, AreWithin}
use Rattle.vg_convex.specs.declared.work.Found.{Found}
use Rattle.vg_convex.proofs.Numbers.{inside, at_place}
use Rattle.vg_convex.proofs.Finds.{none_from, best_found}
use Rattle.vg_convex.proofs.Walks.{IsAfter}

-- the time before a repeater that drives candidate i, and the candidate's tag
pub record IsTimeOf (rep : Rep) (xs : Candidates) (i : ℕ) (found : Found) : Type 0 where
  pub tag : found.tag ≡ (candidate_at xs i).tag
  pub time : found.time ≡ (candidate_at xs i).q -ℤ pos (rep.k + rep.r * (candidate_at xs i).c)

-- what was found among the first n candidates: nothing where there were none
abbrev pub IsFoundAmong : Rep → Candidates → ℕ → Option Found → Type 0
IsFoundAmong rep xs n found = MatchOption found (n ≡ 0) (λ best. (i : ℕ) × IsGreatest (row xs) n rep.r i × IsTimeOf rep xs i best)

-- the scan has seen the first candidates, which are within the limit, with a step for each; `before` is what the steps
-- were
pub record IsScan (s : Block) (xs : Candidates) (rep : Rep) (next : Option Cand) (found : Option Found) (before steps : ℕ) : Type 0 where
  pub seen : ℕ
  pub few : seen ≤ length xs
  pub within : (i : ℕ) → i < seen → IsWithin rep.limit (row xs i).c
  pub more : IsNext s xs seen next
  pub among : IsFoundAmong rep xs seen found
  pub cost : steps ≤ before + seen

pub scan_begins : (s : Block) (xs : Candidates) (rep : Rep) (next : Option Cand) (steps : ℕ) → MatchOption next (xs ≡ []) (λ (p : Cand). IsPlace s p xs)
    → IsScan s xs rep next None steps steps
scan_begins s xs rep next steps first = record {
  seen = 0;
  few = omega arith;
  within = λ i low. absurd (omega (arith, low));
  more = first;
  among = refl;
  cost = omega arith;
}

-- which of two times stays
abbrev pub IsLater : Option Found → Found → Found → Type 0
IsLater found made result = MatchOption found (result ≡ made)
    (λ best. ((result ≡ best) × (made.time ≤ℤ best.time)) ⊎ ((result ≡ made) × (best.time ≤ℤ made.time)))

-- the greatest of one candidate more
among_more : (xs : Candidates) (rep : Rep) (n : ℕ) (found : Option Found) (made result : Found) → IsFoundAmong rep xs n found → IsTimeOf rep xs n made
    → IsLater found made result → IsFoundAmong rep xs (n + 1) (Some result)
among_more xs rep n None made result none told same = (
  n,
  record {
    inside = omega arith;
    most = λ j low. let e : j ≡ n = omega (arith, low, none) in subst (λ k. value rep.r (row xs k) ≤ℤ value rep.r (row xs n)) (sym e) (omega (arith, ints));
  },
  subst (IsTimeOf rep xs n) (sym same) told,
)
among_more xs rep n (Some best) made result (i, most, is) told which = elim which [
  | inl (same, less) ↦ (
    i,
    record {
      inside = omega (arith, most.inside);
      most = λ j low. elim (cases_lt j n) [
        | inl old ↦ most.most j old
        | inr new ↦
            let e : j ≡ n = omega (arith, low, new) in
            subst (λ k. value rep.r (row xs k) ≤ℤ value rep.r (row xs i)) (sym e) (omega (arith, ints, less, is.time, told.time))
      ];
    },
    subst (IsTimeOf rep xs i) (sym same) is,
  )
  | inr (same, less) ↦ (
    n,
    record {
      inside = omega arith;
      most = λ j low. elim (cases_lt j n) [
        | inl old ↦ let up : value rep.r (row xs j) ≤ℤ value rep.r (row xs i) = most.most j old in omega (arith, ints, up, less, is.time, told.time)
        | inr new ↦
            let e : j ≡ n = omega (arith, low, new) in
            subst (λ k. value rep.r (row xs k) ≤ℤ value rep.r (row xs n)) (sym e) (omega (arith, ints))
      ];
    },
    subst (IsTimeOf rep xs n) (sym same) told,
  )
]

-- one candidate more is seen
pub scan_more : (s : Block) (xs : Candidates) (rep : Rep) (place : Cand) (next : Option Cand) (found : Option Found) (made result : Found) (before steps steps' c : ℕ)
    → (w : IsScan s xs rep (Some place) found before steps) → c ≡ (candidate_at xs w.seen).c → IsWithin rep.limit c → IsTimeOf rep xs w.seen made
    → IsLater found made result → IsAfter s place next → steps' ≡ steps + 1 → IsScan s xs rep next (Some result) before steps'
scan_more s xs rep place next found made result before steps steps' c w c_is within told which after step = record {
  seen = w.seen + 1;
  few = omega (arith, inside s xs place w.seen w.more);
  within = λ i low. elim (cases_lt i w.seen) [
    | inl old ↦ w.within i old
    | inr new ↦ let e : i ≡ w.seen = omega (arith, low, new) in subst (λ k. IsWithin rep.limit (row xs k).c) (sym e) (subst (λ k. IsWithin rep.limit k) c_is within)
  ];
  more = after (candidate_at xs w.seen) (drop (w.seen + 1) xs) (at_place s xs place w.seen w.more);
  among = among_more xs rep w.seen found made result w.among told which;
  cost = omega (arith, w.cost, step);
}

-- the greatest among those within the limit
found_for : (xs : Candidates) (rep : Rep) (n : ℕ) (found : Option Found) → Rise (row xs) (length xs) → AreWithin rep.limit xs n → n ≤ length xs
    → IsFoundAmong rep xs n found → IsFoundFor rep xs found
found_for xs rep n None rise cut few none = none_from xs rep rise (subst (AreWithin rep.limit xs) none cut)
found_for xs rep n (Some best) rise cut few (i, most, is) = best_found xs n rep i best rise cut (omega (arith, most.inside, few)) most is.tag is.time

-- the candidate that comes next is over the limit
pub scan_to : (s : Block) (xs : Candidates) (rep : Rep) (place : Cand) (found : Option Found) (before steps c : ℕ) → Rise (row xs) (length xs)
    → (w : IsScan s xs rep (Some place) found before steps) → c ≡ (candidate_at xs w.seen).c → (IsWithin rep.limit c → ⊥) → IsFoundFor rep xs found
scan_to s xs rep place found before steps c rise w c_is over =
    found_for xs rep w.seen found rise
    (record { within = w.within; past = λ low within. over (subst (λ k. IsWithin rep.limit k) (sym c_is) within) }) w.few w.among

-- there is no more candidate
pub scan_ends : (s : Block) (xs : Candidates) (rep : Rep) (next : Option Cand) (found : Option Found) (before steps : ℕ) → Rise (row xs) (length xs) → next ≡ None
    → IsScan s xs rep next found before steps → IsFoundFor rep xs found
scan_ends s xs rep next found before steps rise e w =
    found_for xs rep w.seen found rise (record { within = w.within; past = λ low within. none_left low }) w.few w.among
  where
    none_left : w.seen < length xs → ⊥
    none_left low =
        let end : drop w.seen xs ≡ [] = subst (λ (o : Option Cand). IsNext s xs w.seen o) e w.more in
        let e : [] ≡ candidate_at xs w.seen ∷ drop (w.seen + 1) xs = sym end ∙ drop_more xs w.seen (record { q = pos 0; c = 0; tag = 0 }) low in
        absurd (cc)
