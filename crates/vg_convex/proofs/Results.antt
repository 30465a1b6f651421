-- The swept results are the undominated pairs that the repeaters make of the lists that they drive.
use Rattle.std.proofs.Common.{◌≡◌, ℕ, ◌<◌, Bool, true, false, cond, List, [], ◌∷◌, length, Option, Some, None, ◌≤ℤ◌, refl, sym, ap, ◌∙◌, subst, arith}
use Rattle.std.specs.List.{All, range_with_len}
use Rattle.std.specs.List.Sorted.{IsPermutation}
use Rattle.std.proofs.lemmas.Int.{ints}
use Rattle.std.proofs.lemmas.List.Elements.{All-contains, All-weaker, All-cons, All-head, All-tail}
use Rattle.elmore.specs.Cells.{rep_at}
use Rattle.elmore.specs.Pairs.{IsUndominated}
use Rattle.elmore.specs.declared.allowed.Allowed.{Allowed}
use Rattle.elmore.specs.declared.pair.Pair.{Pair}
use Rattle.elmore.specs.declared.rep.Rep.{Rep}
use Rattle.sol_arena.specs.declared.slot.Made.{Made}
use Rattle.cand_pairs.specs.Candidates.{with_cell}
use Rattle.cand_pairs.specs.Merging.{IsGreatestBy}
use Rattle.cand_pool.specs.Candidates.{Candidate, Candidates}
use Rattle.cand_uses.specs.Pairs.{pair_of, pairs_of}
use Rattle.vg_convex.specs.Answers.{IsBestOf, IsAnswer, found_at, HaveFound, found_by, IsResultOf, IsResult, made_pairs, AreSwept}
use Rattle.vg_convex.specs.Lists.{driven, MayStand, IsMade, IsAttained, IsCell, IsWithCell, AreWithCells}
use Rattle.vg_convex.specs.Orders.{reps_of_pins}
use Rattle.vg_convex.specs.declared.shelf.Pin.{Pin}
use Rattle.vg_convex.specs.declared.work.Found.{Found}
use Rattle.vg_convex.specs.declared.work.Made.{Made as Result}
use Rattle.vg_convex.specs.declared.work.Work.{Work}
use Rattle.vg_convex.proofs.Numberings.{of_all, in_all}

-- a repeater makes no two greatest pairs
one_greatest : (rep : Rep) (xs : List Pair) (y z : Pair) → IsGreatestBy rep xs y → IsGreatestBy rep xs z → y ≡ z
one_greatest rep xs y z a b =
    let (x, x_in, x_within, y_is) = a.made in
    let (w, w_in, w_within, z_is) = b.made in
    let y_q : (with_cell (Some rep) x).q ≡ y.q = ap (λ (p : Pair). p.q) (sym y_is) in
    let z_q : (with_cell (Some rep) w).q ≡ z.q = ap (λ (p : Pair). p.q) (sym z_is) in
    let le : (with_cell (Some rep) x).q ≤ℤ z.q = b.most x x_in x_within in
    let ge : (with_cell (Some rep) w).q ≤ℤ y.q = a.most w w_in w_within in
    let q : y.q ≡ z.q = omega (arith, ints, y_q, z_q, le, ge) in
    let c : y.c ≡ z.c = ap (λ (p : Pair). p.c) y_is ∙ ap (λ (p : Pair). p.c) (sym z_is) in
    λ i. record { q = q i; c = c i }

result_pair : (rep : Rep) (r : Result) → r.pair.c ≡ rep.cin → record { q = r.pair.q; c = rep.cin } ≡ r.pair
result_pair rep r e = λ i. record { q = r.pair.q; c = sym e i }

-- the candidates with cells have the pairs of the results
pub pairs_same : (old new : List Made) (node : ℕ) (results : List Result) (zs : Candidates) → AreWithCells old new node results zs → made_pairs results ≡ pairs_of zs
pairs_same old new node [] [] all = refl
pairs_same old new node [] (z ∷ zs) all = absurd all
pairs_same old new node (r ∷ results) [] all = absurd all
pairs_same old new node (r ∷ results) (z ∷ zs) all =
    ap (λ (p : Pair). p ∷ made_pairs results) (sym all.0.pair) ∙ ap (λ (l : List Pair). pair_of z ∷ l) (pairs_same old new node results zs all.1)

-- what a candidate of the answer stands for
abbrev pub IsAttainedBy : List Rep → Allowed → (Bool → Candidates) → List Made → List Made → ℕ → Candidate → Type 0
IsAttainedBy reps allowed lists old new node z =
    (b : ℕ) × (x : Candidate) × MayStand reps allowed b × IsAttained reps b lists x z × IsCell old new node b x.tag z.tag

-- the answer behind a result
record IsBehind (reps : List Rep) (allowed : Allowed) (lists : Bool → Candidates) (r : Result) : Type 0 where
  stands : MayStand reps allowed r.rep
  best : IsBestOf (rep_at reps r.rep) (driven reps lists r.rep) (record { time = r.pair.q; tag = r.tag })

-- each row has the answers for the repeaters of its kind
pub answers_by : (reps : List Rep) (allowed : Allowed) (lists : Bool → Candidates) (buffers inverters : Work) → HaveFound allowed reps lists buffers inverters
    → (b : ℕ) → b < length reps → IsAnswer allowed reps (driven reps lists b) b (found_by reps buffers.found.items inverters.found.items b)
answers_by reps allowed lists buffers inverters are b low = of_kind (rep_at reps b).inverts where
  of_kind : (inverts : Bool) → IsAnswer allowed reps (lists inverts) b (cond inverts (found_at inverters.found.items b) (found_at buffers.found.items b))
  of_kind true = are.by_inverters.each b low
  of_kind false = are.by_buffers.each b low

-- an order of all repeaters, and what was found for each
module _ (reps : List Rep) (order : List ℕ) (of : IsPermutation (range_with_len 0 (length reps)) order) (allowed : Allowed) (lists : Bool → Candidates)
    (found : ℕ → Option Found) (are : (b : ℕ) → b < length reps → IsAnswer allowed reps (driven reps lists b) b (found b)) where
  behind : (r : Result) → IsResultOf reps found order r → IsBehind reps allowed lists r
  behind r is =
      let low = of_all reps order r.rep of is.among in
      let (allows, best) = subst (IsAnswer allowed reps (driven reps lists r.rep) r.rep) is.found_is (are r.rep low) in
      record { stands = (low, allows); best = best }

  made_by_result : (z : Pair) → IsResult reps found order z → IsMade reps allowed lists z
  made_by_result z (r, is, e) =
      let b = behind r is in
      (r.rep, b.stands, subst (IsGreatestBy (rep_at reps r.rep) (pairs_of (driven reps lists r.rep))) (result_pair (rep_at reps r.rep) r is.input ∙ sym e) b.best.greatest)

  result_of : (z : Pair) (b : ℕ) → MayStand reps allowed b → IsGreatestBy (rep_at reps b) (pairs_of (driven reps lists b)) z → (f : Option Found) → found b ≡ f
      → IsAnswer allowed reps (driven reps lists b) b f → IsResult reps found order z
  result_of z b (low, allows) greatest None e is =
      let (y, y_in, within, _) = greatest.made in absurd (is allows y y_in within)
  result_of z b (low, allows) greatest (Some f) e is = (
    record { pair = record { q = f.time; c = (rep_at reps b).cin }; rep = b; tag = f.tag },
    record { among = in_all reps order b of low; found_is = e; input = refl },
    one_greatest (rep_at reps b) (pairs_of (driven reps lists b)) z (record { q = f.time; c = (rep_at reps b).cin }) greatest is.1.greatest,
  )

  -- the results are what the repeaters make
  pub made_undominated : (pairs : List Pair) → IsUndominated (IsResult reps found order) pairs → IsUndominated (IsMade reps allowed lists) pairs
  made_undominated pairs u = record {
    rising = u.rising;
    taken = All-weaker (IsResult reps found order) (IsMade reps allowed lists) made_by_result pairs u.taken;
    covers = λ z (b, stands, greatest). u.covers z (result_of z b stands greatest (found b) refl (are b stands.0));
  }

  -- a fact of each result is one of the tag of a candidate of the list
  pub tags_of : (P : ℕ → Type 0) (results : List Result) → All (IsResultOf reps found order) results → ((inverts : Bool) → All (λ x. P x.tag) (lists inverts)) → All (λ r. P r.tag) results
  tags_of P results all holds =
      All-weaker (IsResultOf reps found order) (λ r. P r.tag) (λ r is.
      let b = behind r is in
      subst P (sym b.best.tag) (All-contains (λ (x : Candidate). P x.tag) (driven reps lists r.rep) b.best.from (holds (rep_at reps r.rep).inverts) b.best.among)) results all

  attained_one : (old new : List Made) (node : ℕ) (r : Result) (z : Candidate) → IsResultOf reps found order r → IsWithCell old new node r z
      → IsAttainedBy reps allowed lists old new node z
  attained_one old new node r z is cell =
      let b = behind r is in (
        r.rep,
        b.best.from,
        b.stands,
        record {
          among = b.best.among;
          made = record {
            within = b.best.made.within;
            made = cell.pair ∙ sym (result_pair (rep_at reps r.rep) r is.input) ∙ b.best.made.made;
          };
        },
        subst (λ t. IsCell old new node r.rep t z.tag) b.best.tag cell.cell,
      )

  pub all_attained : (old new : List Made) (node : ℕ) (results : List Result) (zs : Candidates) → All (IsResultOf reps found order) results
      → AreWithCells old new node results zs → All (IsAttainedBy reps allowed lists old new node) zs
  all_attained old new node [] [] all cells = λ k d low. absurd (omega (arith, low))
  all_attained old new node [] (z ∷ zs) all cells = absurd cells
  all_attained old new node (r ∷ results) [] all cells = absurd cells
  all_attained old new node (r ∷ results) (z ∷ zs) all cells =
      All-cons (IsAttainedBy reps allowed lists old new node) z zs
      (attained_one old new node r z (All-head (IsResultOf reps found order) r results all) cells.0)
      (all_attained old new node results zs (All-tail (IsResultOf reps found order) r results all) cells.1)

-- of no candidate nothing is made
pub none_attained : (reps : List Rep) (allowed : Allowed) (old new : List Made) (node : ℕ) (zs : Candidates)
    → All (IsAttainedBy reps allowed (λ _. []) old new node) zs → zs ≡ []
none_attained reps allowed old new node [] all = refl
none_attained reps allowed old new node (z ∷ zs) all =
    let (b, x, _, attained, _) = All-head (IsAttainedBy reps allowed (λ _. []) old new node) z zs all in
    let (k, low, _) = attained.among in
    absurd (omega (arith, low))

-- the same of rows and orders that are equal
pub swept_as : (reps : List Rep) (buffers buffers' inverters inverters' : List (Option Found)) (pins pins' : List Pin) (kept kept' : List Result)
    → buffers ≡ buffers' → inverters ≡ inverters' → pins ≡ pins' → kept' ≡ kept
    → AreSwept reps (found_by reps buffers inverters) (reps_of_pins pins) kept → AreSwept reps (found_by reps buffers' inverters') (reps_of_pins pins') kept'
swept_as reps buffers buffers' inverters inverters' pins pins' kept kept' buffers_are inverters_are pins_are kept_is swept =
    subst (λ l. AreSwept reps (found_by reps buffers' inverters') (reps_of_pins pins') l) (sym kept_is)
    (subst (λ l. AreSwept reps (found_by reps buffers' inverters') (reps_of_pins l) kept) pins_are
    (subst (λ l. AreSwept reps (found_by reps buffers' l) (reps_of_pins pins) kept) inverters_are
    (subst (λ l. AreSwept reps (found_by reps l inverters) (reps_of_pins pins) kept) buffers_are swept)))
