-- Cells that are proposed at a node.
use Rattle.std.proofs.Common.{◌↔◌, Bool, true, false, IsTrue, MatchBool, ◌≡◌, ◌⊎◌, ℕ, ◌+◌, ◌<◌, ◌≤◌, List, [], ◌∷◌, ◌++◌, length, take, get_or, refl, sym, ap, ◌∙◌, subst, arith, inl, inr, Option, Some, None}
use mathlib.Core.Bool.{beq}
use Rattle.std.proofs.lemmas.Bool.{cases_lt, cases_eq, false≢true}
use Rattle.std.proofs.lemmas.List.{take_more, take_all, get_or_default}
use Rattle.std.proofs.lemmas.List.Elements.{Contains-append_left, Contains-get_or, Contains-push, Contains-push_cases}
use Rattle.std.proofs.lemmas.List.Quantifiers.{all_pairs_push}
use Rattle.std.specs.List.{Contains, AllPairs}
use Rattle.elmore.specs.Allowances.{allowed_at, Allows}
use Rattle.elmore.specs.Cells.{rep_at}
use Rattle.elmore.specs.Legal.{IsWithin}
use Rattle.elmore.specs.declared.allowed.Allowed.{Allowed}
use Rattle.elmore.specs.declared.allowed.Allowed.TheVariants.{All as AllOf}
use Rattle.elmore.specs.declared.problem.Problem.{Problem}
use Rattle.elmore.specs.declared.rep.Rep.{Rep}
use Rattle.vg_front.specs.declared.offer.Candidate.{Candidate}
use Rattle.vg_front.specs.declared.offer.Proposal.{Proposal}
use Rattle.vg_front.specs.Offers.{priced, proposed_by, IsBeaten, IsPartOf, Adds, OfSome}
use Rattle.vg_front.specs.declared.offer.Offer.{Offer}
use Rattle.vg_front.specs.Driving.{Stand, driven_at, BeatsBy, IsReached, IsDrivable, IsDriven, IsTried, IsCelled, stand_of, behind}
use Rattle.vg_front.specs.Tries.{IsUsable, AreUsable, IsUsed, IsTriedBy}
use Rattle.vg_front.proofs.SeenLemmas.{beaten_over}
use Rattle.vg_front.proofs.OfferLemmas.{beaten_itself, adds_none, adds_then, adds_as, adds_alone}

-- ONE REPEATER
-- after the first k candidates
pub drive_begins : (at : Stand) (cap : Option ℕ) (xs : List Candidate) (made : List Proposal) → Adds (IsDriven at cap (take 0 xs)) made made
drive_begins at cap xs made = adds_none (IsDriven at cap (take 0 xs)) made (λ q (x, (k, k_n, e), may, is). absurd (omega arith))

module _ (at : Stand) (cap : Option ℕ) (xs : List Candidate) (k : ℕ) (d : Candidate) (old before after : List Proposal) (inside : k < length xs)
    (so_far : Adds (IsDriven at cap (take k xs)) old before) (tried : IsTried at cap (get_or xs k d) before after) where
  more_in : (y : Candidate) → Contains (take k xs) y → Contains (take (k + 1) xs) y
  more_in y found = subst (λ (l : List Candidate). Contains l y) (sym (take_more xs k d inside))
      (Contains-append_left (take k xs) (get_or xs k d ∷ []) y found)

  last_in : Contains (take (k + 1) xs) (get_or xs k d)
  last_in = subst (λ (l : List Candidate). Contains l (get_or xs k d)) (sym (take_more xs k d inside)) (Contains-push (take k xs) (get_or xs k d))

  either_in : (y : Candidate) → Contains (take (k + 1) xs) y → Contains (take k xs) y ⊎ (get_or xs k d ≡ y)
  either_in y found = Contains-push_cases (take k xs) (get_or xs k d) y (subst (λ (l : List Candidate). Contains l y) (take_more xs k d inside) found)

  pub drive_more : IsDrivable at.rep cap (get_or xs k d) → Adds (IsDriven at cap (take (k + 1) xs)) old after
  drive_more may =
      adds_then (IsDriven at cap (take k xs)) (λ q. q ≡ driven_at at (get_or xs k d)) (IsDriven at cap (take (k + 1) xs)) old before after so_far
      (tried.drives may)
      (λ q (y, y_in, y_may, q_is). (y, more_in y y_in, y_may, q_is)) (λ q q_is. (get_or xs k d, last_in, may, q_is))
      (λ q (y, y_in, y_may, q_is). elim (either_in y y_in) [
        | inl early ↦ inl (y, early, y_may, q_is)
        | inr e ↦ inr (q_is ∙ ap (driven_at at) (sym e))
      ])

  pub drive_pass : (IsDrivable at.rep cap (get_or xs k d) → ⊥) → Adds (IsDriven at cap (take (k + 1) xs)) old after
  drive_pass never =
      subst (Adds (IsDriven at cap (take (k + 1) xs)) old) (sym (tried.passes never))
      (adds_as (IsDriven at cap (take k xs)) (IsDriven at cap (take (k + 1) xs)) old before so_far
      (λ q (y, y_in, y_may, q_is). (y, more_in y y_in, y_may, q_is))
      (λ q (y, y_in, y_may, q_is). elim (either_in y y_in) [
        | inl early ↦ (y, early, y_may, q_is)
        | inr e ↦ absurd (never (subst (IsDrivable at.rep cap) (sym e) y_may))
      ]))

-- what is proposed already beats it
pub tried_beaten : (at : Stand) (cap : Option ℕ) (x : Candidate) (made : List Proposal) → IsBeaten (proposed_by made) (priced (driven_at at x).offer)
    → IsTried at cap x made made
tried_beaten at cap x made beaten = record {
  drives = λ may. record {
    part = λ q found. inl found;
    covers = λ q among. elim among [
      | inl found ↦ beaten_itself made q found
      | inr e ↦ subst (λ (t : Proposal). IsBeaten (proposed_by made) (priced t.offer)) (sym e) beaten
    ];
  };
  passes = λ never. refl;
}

-- by the best of before
pub reached_beats : (made : List Proposal) (best : Option Offer) (x : Offer) → IsReached made best → BeatsBy best x → IsBeaten (proposed_by made) (priced x)
reached_beats made None x reached beats = absurd beats
reached_beats made (Some best) x reached beats = beaten_over (proposed_by made) (priced best) (priced x) reached beats

pub within_cases : (limit : Option ℕ) (n : ℕ) → IsWithin limit n ⊎ (IsWithin limit n → ⊥)
within_cases None n = inl tt
within_cases (Some most) n =
    elim (cases_lt most n) [
      | inl over ↦ inr (λ within. omega (arith, over, within))
      | inr within ↦ inl within
    ]

pub drivable_cases : (rep : Rep) (cap : Option ℕ) (x : Candidate) → IsDrivable rep cap x ⊎ (IsDrivable rep cap x → ⊥)
drivable_cases rep cap x =
    elim (within_cases rep.limit x.offer.c) [
      | inr over ↦ inr (λ is. over is.limit)
      | inl within ↦ elim (within_cases cap (x.offer.cost + rep.cost)) [
        | inr over ↦ inr (λ is. over is.costs)
        | inl costs ↦ inl (record { limit = within; costs = costs })
      ]
    ]

pub drive_next : (at : Stand) (cap : Option ℕ) (xs : List Candidate) (k : ℕ) (d : Candidate) (old before after : List Proposal) → k < length xs
    → Adds (IsDriven at cap (take k xs)) old before → IsTried at cap (get_or xs k d) before after → Adds (IsDriven at cap (take (k + 1) xs)) old after
drive_next at cap xs k d old before after inside so_far tried =
    elim (drivable_cases at.rep cap (get_or xs k d)) [
      | inl may ↦ drive_more at cap xs k d old before after inside so_far tried may
      | inr never ↦ drive_pass at cap xs k d old before after inside so_far tried never
    ]

pub drive_ends : (at : Stand) (cap : Option ℕ) (xs : List Candidate) (k : ℕ) (old made : List Proposal) → length xs ≤ k → Adds
    (IsDriven at cap (take k xs)) old made
    → Adds (IsDriven at cap xs) old made
drive_ends at cap xs k old made all is = subst (λ (l : List Candidate). Adds (IsDriven at cap l) old made) (take_all k xs all) is

-- what a node allows
pub allowed_is : (p : Problem) (v : ℕ) (all : List Allowed) (a : Allowed) → v < length p.tree.nodes → all ≡ p.allowed → a ≡ get_or all v a → a ≡
    allowed_at p.allowed v
allowed_is p v all a v_n all_are is =
    is ∙ ap (λ (l : List Allowed). get_or l v a) all_are ∙ get_or_default p.allowed v a AllOf (omega (arith, p.allowed_are.one_each))

pub allows_cases : (r : Bool) (a b : Allowed) (n : ℕ) → a ≡ b → IsTrue r ↔ Allows a n → MatchBool r (Allows b n) (Allows b n → ⊥)
allows_cases true a b n e is = subst (λ (x : Allowed). Allows x n) e (is.0 refl)
allows_cases false a b n e is = λ there. false≢true (is.1 (subst (λ (x : Allowed). Allows x n) (sym e) there))

-- ALL REPEATERS
-- of the first k repeaters those that are usable, by rising resistance
pub record AreUsableBelow (p : Problem) (v : ℕ) (odd below : Bool) (k : ℕ) (numbers : List ℕ) : Type 0 where
  pub part : (b : ℕ) → Contains numbers b → IsUsable p v odd below b
  pub early : (b : ℕ) → Contains numbers b → b < k
  pub whole : (b : ℕ) → b < k → IsUsable p v odd below b → Contains numbers b
  pub rising : AllPairs (λ a b. (rep_at p.reps a).r ≤ (rep_at p.reps b).r) numbers

pub usable_cases : (p : Problem) (v k : ℕ) (odd r below : Bool) → r ≡ behind (rep_at p.reps k) odd → k < length p.reps → Allows (allowed_at p.allowed v) k
    → MatchBool (beq r below) (IsUsable p v odd below k) (IsUsable p v odd below k → ⊥)
usable_cases p v k odd true true same named allows = record { named = named; allows = allows; class = sym same }
usable_cases p v k odd false false same named allows = record { named = named; allows = allows; class = sym same }
usable_cases p v k odd true false same named allows = λ is. false≢true (sym (same ∙ is.class))
usable_cases p v k odd false true same named allows = λ is. false≢true (same ∙ is.class)

module _ (p : Problem) (v : ℕ) (odd below : Bool) where
  pub usable_begins : (numbers : List ℕ) → numbers ≡ [] → AreUsableBelow p v odd below 0 numbers
  usable_begins numbers none = subst (AreUsableBelow p v odd below 0) (sym none) (record {
    part = λ b (k, k_n, e). absurd (omega arith);
    early = λ b (k, k_n, e). absurd (omega arith);
    whole = λ b low is. absurd (omega arith);
    rising = λ i j d less j_n. absurd (omega arith);
  })

  pub usable_more : (k : ℕ) (numbers : List ℕ) → IsUsable p v odd below k → AreUsableBelow p v odd below k numbers
      → AreUsableBelow p v odd below (k + 1) (numbers ++ k ∷ [])
  usable_more k numbers is so_far = record {
    part = λ b found. elim (Contains-push_cases numbers k b found) [
      | inl there ↦ so_far.part b there
      | inr e ↦ subst (IsUsable p v odd below) e is
    ];
    early = λ b found. elim (Contains-push_cases numbers k b found) [
      | inl there ↦ omega (arith, so_far.early b there)
      | inr e ↦ omega (arith, e)
    ];
    whole = λ b low usable. elim (cases_eq b k) [
      | inl e ↦ subst (Contains (numbers ++ k ∷ [])) (sym e) (Contains-push numbers k)
      | inr other ↦ Contains-append_left numbers (k ∷ []) b (so_far.whole b (omega (arith, low, other)) usable)
    ];
    rising =
        all_pairs_push (λ a b. (rep_at p.reps a).r ≤ (rep_at p.reps b).r) numbers k so_far.rising
        (λ i d i_n. p.rising (get_or numbers i d) k _ (so_far.early (get_or numbers i d) (Contains-get_or numbers i d i_n)) is.named);
  }

  pub usable_pass : (k : ℕ) (numbers : List ℕ) → (IsUsable p v odd below k → ⊥) → AreUsableBelow p v odd below k numbers
      → AreUsableBelow p v odd below (k + 1) numbers
  usable_pass k numbers never so_far = record {
    part = so_far.part;
    early = λ b found. omega (arith, so_far.early b found);
    whole = λ b low usable. elim (cases_eq b k) [
      | inl e ↦ absurd (never (subst (IsUsable p v odd below) e usable))
      | inr other ↦ so_far.whole b (omega (arith, low, other)) usable
    ];
    rising = so_far.rising;
  }

  pub usable_all : (k : ℕ) (numbers : List ℕ) → length p.reps ≤ k → AreUsableBelow p v odd below k numbers → AreUsable p v odd below numbers
  usable_all k numbers all are = record {
    part = are.part;
    whole = λ b usable. are.whole b (omega (arith, all, usable.named)) usable;
    rising = record { named = λ b found. (are.part b found).named; rising = are.rising };
  }

  -- all of them were tried
  pub usable_tried : (cap : Option ℕ) (xs from : List Candidate) (reps : List Rep) (numbers named : List ℕ) (old new : List Proposal) → reps ≡ p.reps
      → named ≡ numbers → from ≡ xs → AreUsable p v odd below numbers
      → Adds (OfSome named (IsTriedBy (record { node = v; cap = cap }) reps from)) old new → Adds (IsUsed p v odd below cap xs) old new
  usable_tried cap xs from reps numbers named old new reps_are named_are from_is are tried =
      adds_as (OfSome numbers (IsTriedBy (record { node = v; cap = cap }) p.reps xs)) (IsUsed p v odd below cap xs) old new
      (subst (λ (l : List Candidate). Adds (OfSome numbers (IsTriedBy (record { node = v; cap = cap }) p.reps l)) old new) from_is
      (subst (λ (l : List ℕ). Adds (OfSome l (IsTriedBy (record { node = v; cap = cap }) p.reps from)) old new) named_are
      (subst (λ (l : List Rep). Adds (OfSome named (IsTriedBy (record { node = v; cap = cap }) l from)) old new) reps_are tried)))
      (λ q (b, b_in, driven). (b, are.part b b_in, driven)) (λ q (b, usable, driven). (b, are.whole b usable, driven))

-- with either class behind them
pub celled_all : (p : Problem) (v : ℕ) (odd : Bool) (cap : Option ℕ) (classes : Bool → List Candidate) (none one both : List Proposal) → none ≡ []
    → Adds (IsUsed p v odd false cap (classes false)) none one → Adds (IsUsed p v odd true cap (classes true)) one both
    → IsPartOf (IsCelled p v odd cap classes) both
celled_all p v odd cap classes none one both none_is first second =
    adds_alone (IsCelled p v odd cap classes) none both none_is
    (adds_then (IsUsed p v odd false cap (classes false)) (IsUsed p v odd true cap (classes true)) (IsCelled p v odd cap classes) none one both first second
    (celled false) (celled true) (λ q (b, named, allows, driven). cases q b named allows (behind (rep_at p.reps b) odd) refl driven))
  where
    celled : (o : Bool) (q : Proposal) → IsUsed p v odd o cap (classes o) q → IsCelled p v odd cap classes q
    celled o q (b, usable, driven) =
        (b, usable.named, usable.allows, subst (λ (c : Bool). IsDriven (stand_of p v b) cap (classes c) q) (sym usable.class) driven)

    cases : (q : Proposal) (b : ℕ) → b < length p.reps → Allows (allowed_at p.allowed v) b → (o : Bool) → behind (rep_at p.reps b) odd ≡ o
        → IsDriven (stand_of p v b) cap (classes o) q
        → IsUsed p v odd false cap (classes false) q ⊎ IsUsed p v odd true cap (classes true) q
    cases q b named allows false class driven = inl (b, record { named = named; allows = allows; class = class }, driven)
    cases q b named allows true class driven = inr (b, record { named = named; allows = allows; class = class }, driven)
