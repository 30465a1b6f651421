-- The greatest time of a repeater, from the worth of the candidates within its limit.
use Rattle.std.proofs.Common.{◌≡◌, ℕ, ◌+◌, ◌*◌, ◌<◌, ◌≤◌, pos, ◌≤ℤ◌, List, length, slice_index, get_or, set, refl, sym, ap, ◌∙◌, subst, arith, inl, inr, Option, Some, None}
use Rattle.std.specs.Prelude.{◌-ℤ◌}
use Rattle.std.specs.List.{Contains}
use Rattle.std.proofs.lemmas.Bool.{cases_lt, cases_eq}
use Rattle.std.proofs.lemmas.Int.{ints}
use Rattle.std.proofs.lemmas.List.{get_or-map, length-map, length-set, get_or_default, get_or-set_same, get_or-set_other}
use Rattle.std.proofs.lemmas.List.Elements.{Contains-get_or}
use Rattle.elmore.specs.Legal.{IsWithin}
use Rattle.elmore.specs.declared.pair.Pair.{Pair}
use Rattle.elmore.specs.declared.rep.Rep.{Rep}
use Rattle.cand_pairs.specs.Candidates.{with_cell}
use Rattle.cand_pairs.specs.Merging.{NoneFits}
use Rattle.cand_pool.specs.Candidates.{Candidate, Candidates}
use Rattle.vg_convex.specs.declared.shelf.Driver.{Driver}
use Rattle.vg_convex.specs.declared.work.Point.{Point}
use Rattle.cand_uses.specs.Pairs.{pair_of, pairs_of}
use Rattle.vg_convex.specs.Hulls.{value, Rise, IsGreatest}
use Rattle.vg_convex.specs.Places.{candidate_at, row, IsPointOf, IsHullOf, AreWithin}
use Rattle.elmore.specs.Allowances.{Allows}
use Rattle.elmore.specs.declared.allowed.Allowed.{Allowed}
use Rattle.vg_convex.specs.Answers.{IsBestOf, IsAnswer, found_at, IsRow, AreServed}
use Rattle.vg_convex.specs.Orders.{IsDriverOf}
use Rattle.elmore.specs.Cells.{rep_at}
use Rattle.vg_convex.specs.declared.work.Found.{Found}
use Rattle.vg_convex.proofs.Stacks.{hull_size}

-- a pair of a list has a number
pub numbered : (xs : Candidates) (y : Pair) → Contains (pairs_of xs) y → (i : ℕ) × (i < length xs) × (row xs i ≡ y)
numbered xs y (i, low, e) =
    let low_x : i < length xs = omega (arith, low, length-map xs pair_of) in
    (i, low_x, sym (get_or-map pair_of xs i (record { q = pos 0; c = 0; tag = 0 }) y low_x) ∙ e)

-- a load within a limit: a lesser one is too
within_less : (limit : Option ℕ) (a b : ℕ) → a ≤ b → IsWithin limit b → IsWithin limit a
within_less None a b less is = is
within_less (Some most) a b less is = omega (arith, less, is)

-- past the first candidate that is over the limit there is none within it
none_past : (xs : Candidates) (m : ℕ) (limit : Option ℕ) → Rise (row xs) (length xs) → (m < length xs → IsWithin limit (row xs m).c → ⊥)
    → (i : ℕ) → m ≤ i → i < length xs → IsWithin limit (row xs i).c → ⊥
none_past xs m limit rise past i from low is = elim (cases_lt m i) [
  | inl later ↦ past (omega arith) (within_less limit (row xs m).c (row xs i).c (omega (arith, (rise m i later low).room)) is)
  | inr same ↦ let at : i ≡ m = omega arith in past (omega arith) (subst (λ k. IsWithin limit (row xs k).c) at is)
]

-- no candidate is within the limit where the first one is not
pub none_from : (xs : Candidates) (rep : Rep) → Rise (row xs) (length xs) → AreWithin rep.limit xs 0 → NoneFits rep (pairs_of xs)
none_from xs rep rise cut y y_in within =
    let (i, low, e) = numbered xs y y_in in
    none_past xs 0 rep.limit rise cut.past i (omega arith) low (subst (λ (p : Pair). IsWithin rep.limit p.c) (sym e) within)

-- no candidate is within the limit where none came on
pub none_found : (xs : Candidates) (n : ℕ) (stack : List Point) (rep : Rep) → IsHullOf xs n stack → AreWithin rep.limit xs n → length stack ≡ 0 → NoneFits rep (pairs_of xs)
none_found xs n stack rep h cut empty =
    let none : n ≡ 0 = elim (cases_lt 0 n) [
      | inl on ↦ let some = (h.hull.some on).chain.some in absurd (omega (arith, some, empty))
      | inr off ↦ omega arith
    ] in
    none_from xs rep h.rise (subst (AreWithin rep.limit xs) none cut)

-- where there is no limit, each candidate is within it
pub all_within : (xs : Candidates) (rep : Rep) → rep.limit ≡ None → AreWithin rep.limit xs (length xs)
all_within xs rep free = record {
  within = λ i low. subst (λ limit. IsWithin limit (row xs i).c) (sym free) tt;
  past = λ low. absurd (omega (arith, low));
}

-- the greatest worth of those within the limit gives the greatest time
pub best_found : (xs : Candidates) (n : ℕ) (rep : Rep) (i : ℕ) (found : Found) → Rise (row xs) (length xs) → AreWithin rep.limit xs n → i < length xs
    → IsGreatest (row xs) n rep.r i → found.tag ≡ (candidate_at xs i).tag → found.time ≡ (candidate_at xs i).q -ℤ pos (rep.k + rep.r * (candidate_at xs i).c) → IsBestOf rep xs found
best_found xs n rep i found rise cut i_low best tag time = record {
  from = candidate_at xs i;
  among = Contains-get_or xs i (record { q = pos 0; c = 0; tag = 0 }) i_low;
  tag = tag;
  made = record { within = cut.within i best.inside; made = made };
  greatest = record {
    made = (row xs i, among, cut.within i best.inside, made);
    most = λ y y_in within.
        let (j, low, e) = numbered xs y y_in in
        let j_in : IsWithin rep.limit (row xs j).c = subst (λ (p : Pair). IsWithin rep.limit p.c) (sym e) within in
        elim (cases_lt j n) [
          | inl seen ↦
              let more : value rep.r (row xs j) ≤ℤ value rep.r (row xs i) = best.most j seen in
              subst (λ (p : Pair). (with_cell (Some rep) p).q ≤ℤ found.time) e (omega (arith, ints, more, time))
          | inr past ↦ absurd (none_past xs n rep.limit rise cut.past j past low j_in)
        ];
  };
}
  where
    made : record { q = found.time; c = rep.cin } ≡ with_cell (Some rep) (pair_of (candidate_at xs i))
    made = ap (λ q. record { q = q; c = rep.cin }) time

    among : Contains (pairs_of xs) (row xs i)
    among = (i, omega (arith, i_low, length-map xs pair_of), get_or-map pair_of xs i (record { q = pos 0; c = 0; tag = 0 }) (row xs i) i_low)

-- the same where a point tells of the candidate
pub point_found : (xs : Candidates) (n : ℕ) (rep : Rep) (i : ℕ) (point : Point) (found : Found) → Rise (row xs) (length xs) → AreWithin rep.limit xs n → IsPointOf xs point i
    → IsGreatest (row xs) n rep.r i → found.tag ≡ point.tag → found.time ≡ point.q -ℤ pos (rep.k + rep.r * point.c) → IsBestOf rep xs found
point_found xs n rep i point found rise cut at best tag time =
    best_found xs n rep i found rise cut at.inside best (tag ∙ ap (λ (x : Candidate). x.tag) at.told)
    (time ∙ ap (λ (x : Candidate). x.q -ℤ pos (rep.k + rep.r * x.c)) at.told)

-- the same for a driver
pub driver_found : (xs : Candidates) (reps : List Rep) (driver : Driver) (i : ℕ) (point : Point) (found : Found) → IsDriverOf reps driver → Rise (row xs) (length xs)
    → IsPointOf xs point i → IsGreatest (row xs) (length xs) driver.r i → found.tag ≡ point.tag → found.time ≡ point.q -ℤ pos (driver.k + driver.r * point.c)
    → IsBestOf (rep_at reps driver.rep) xs found
driver_found xs reps driver i point found is rise at best tag time =
    point_found xs (length xs) (rep_at reps driver.rep) i point found rise (all_within xs (rep_at reps driver.rep) is.free) at
    (subst (λ r. IsGreatest (row xs) (length xs) r i) is.resistance best) tag
    (time ∙ ap (λ k. point.q -ℤ pos (k + driver.r * point.c)) is.delay ∙ ap (λ r. point.q -ℤ pos ((rep_at reps driver.rep).k + r * point.c)) is.resistance)

-- a hull has no more points than the list has candidates
pub stack_size : (xs : Candidates) (n : ℕ) (stack : List Point) → IsHullOf xs n stack → length stack ≤ length xs
stack_size xs n stack h = omega (arith, hull_size (row xs) n h.numbers (length stack) h.hull, h.few)

-- a row with one answer more
row_none : (allowed : Allowed) (reps : List Rep) (xs : Candidates) (b : ℕ) (found : Option Found) → IsAnswer allowed reps xs b found → (Allows allowed b → ⊥) → found ≡ None
row_none allowed reps xs b None is not_so = refl
row_none allowed reps xs b (Some best) is not_so = absurd (not_so is.0)

-- nothing is the answer of a repeater that is not allowed
pub none_allowed : (allowed : Allowed) (reps : List Rep) (xs : Candidates) (found : List (Option Found)) (b : ℕ) → IsRow allowed reps found → (Allows allowed b → ⊥)
    → IsAnswer allowed reps xs b (found_at found b)
none_allowed allowed reps xs found b row not_so = subst (IsAnswer allowed reps xs b) (sym (row.none b not_so)) (λ may. absurd (not_so may))

pub written_same : (old new : List (Option Found)) (b : ℕ) (found : Option Found) → new ≡ set old b found → b < length old → found_at new b ≡ found
written_same old new b found e low = ap (λ l. found_at l b) e ∙ get_or-set_same old b found None low

written_other : (old new : List (Option Found)) (b : ℕ) (found : Option Found) → new ≡ set old b found → (k : ℕ) → (k ≡ b → ⊥) → found_at new k ≡ found_at old k
written_other old new b found e k differ = ap (λ l. found_at l k) e ∙ get_or-set_other old b k found None differ

written_none : (allowed : Allowed) (reps : List Rep) (xs : Candidates) (b : ℕ) (found : Option Found) (old new : List (Option Found)) → IsAnswer allowed reps xs b found
    → new ≡ set old b found → b < length old → ((k : ℕ) → (Allows allowed k → ⊥) → found_at old k ≡ None) → (k : ℕ) → (Allows allowed k → ⊥) → found_at new k ≡ None
written_none allowed reps xs b found old new is e low none k not_so = elim (cases_eq k b) [
  | inl same ↦
      subst (λ m. found_at new m ≡ None) (sym same)
      (written_same old new b found e low ∙ row_none allowed reps xs b found is (λ may. not_so (subst (λ m. Allows allowed m) (sym same) may)))
  | inr differ ↦ written_other old new b found e k differ ∙ none k not_so
]

pub written_row : (allowed : Allowed) (reps : List Rep) (xs : Candidates) (b : ℕ) (found : Option Found) (old new : List (Option Found)) → IsAnswer allowed reps xs b found
    → new ≡ set old b found → b < length old → IsRow allowed reps old → IsRow allowed reps new
written_row allowed reps xs b found old new is e low before = record {
  room = omega (arith, ap length e ∙ length-set old b found, before.room);
  none = written_none allowed reps xs b found old new is e low before.none;
}

-- an answer that stood stands
pub kept_answer : (allowed : Allowed) (reps : List Rep) (xs : Candidates) (b : ℕ) (found : Option Found) (old new : List (Option Found)) → IsAnswer allowed reps xs b found
    → new ≡ set old b found → b < length old → (k : ℕ) → IsAnswer allowed reps xs k (found_at old k) → IsAnswer allowed reps xs k (found_at new k)
kept_answer allowed reps xs b found old new is e low k before = elim (cases_eq k b) [
  | inl same ↦
      subst (λ m. IsAnswer allowed reps xs m (found_at new m)) (sym same)
      (subst (IsAnswer allowed reps xs b) (sym (written_same old new b found e low)) is)
  | inr differ ↦ subst (IsAnswer allowed reps xs k) (sym (written_other old new b found e k differ)) before
]

pub written_answer : (allowed : Allowed) (reps : List Rep) (xs : Candidates) (order : List ℕ) (i : ℕ) (found : Option Found) (old new : List (Option Found))
    → IsAnswer allowed reps xs (slice_index order i) found → new ≡ set old (slice_index order i) found → slice_index order i < length old
    → ((j : ℕ) → j < i → IsAnswer allowed reps xs (slice_index order j) (found_at old (slice_index order j)))
    → (j : ℕ) → j < i + 1 → IsAnswer allowed reps xs (slice_index order j) (found_at new (slice_index order j))
written_answer allowed reps xs order i found old new is e low before j j_low = elim (cases_lt j i) [
  | inl less ↦ kept_answer allowed reps xs (slice_index order i) found old new is e low (slice_index order j) (before j less)
  | inr more ↦
      let at : j ≡ i = omega arith in
      subst (λ m. IsAnswer allowed reps xs (slice_index order m) (found_at new (slice_index order m))) (sym at)
      (subst (IsAnswer allowed reps xs (slice_index order i)) (sym (written_same old new (slice_index order i) found e low)) is)
]

-- the result of one driver more
pub served_more : (allowed : Allowed) (reps : List Rep) (xs : Candidates) (drivers : List Driver) (from at : ℕ) (driver : Driver) (answer : Option Found)
    (old mid new : List (Option Found)) → at < length drivers → driver ≡ get_or drivers at driver → driver.rep < length reps
    → IsAnswer allowed reps xs driver.rep answer → new ≡ set mid driver.rep answer → AreServed allowed reps xs drivers from at old mid
    → AreServed allowed reps xs drivers from (at + 1) old new
served_more allowed reps xs drivers from at driver answer old mid new low read named is e s = record {
  row = written_row allowed reps xs driver.rep answer mid new is e room s.row;
  each = λ i d later i_low. elim (cases_lt i at) [
    | inl before ↦ kept_answer allowed reps xs driver.rep answer mid new is e room (get_or drivers i d).rep (s.each i d later before)
    | inr back ↦
        let here : i ≡ at = omega (arith, back, i_low) in
        let same : driver.rep ≡ (get_or drivers i d).rep =
        ap (λ (x : Driver). x.rep) read ∙ ap (λ (x : Driver). x.rep) (get_or_default drivers at driver d low) ∙ ap (λ m. (get_or drivers m d).rep) (sym here) in
        subst (λ b. IsAnswer allowed reps xs b (found_at new b)) same
        (subst (IsAnswer allowed reps xs driver.rep) (sym (written_same mid new driver.rep answer e room)) is)
  ];
  others = λ b before. kept_answer allowed reps xs driver.rep answer mid new is e room b (s.others b before);
}
  where
    room : driver.rep < length mid
    room = omega (arith, named, s.row.room)
