-- What the turns of a merge keep: how far it has come, and what is made at the end.
use Rattle.std.proofs.Common.{◌≡◌, ◌⊎◌, ℕ, suc, ◌+◌, ◌-◌, ◌<◌, ◌≤◌, Bool, true, false, cond, List, [], ◌∷◌, ◌++◌, length, get_or, refl, sym, ap, ◌∙◌}
use Rattle.std.proofs.Common.{subst, inl, inr, arith, append_assoc, int_lt, ℤ, ◌||◌, Option}
use Rattle.std.proofs.Math.Seq.{get_or-append_seam}
use Rattle.std.proofs.lemmas.Bool.{cases_Bool}
use Rattle.std.proofs.lemmas.Int.{ints, clamps}
use Rattle.std.proofs.lemmas.List.{append-nil, length-append, map-append, length-map}
use Rattle.std.proofs.lemmas.List.Elements.{All-nil, All-push, Contains-append_left, Contains-append_right, Contains-get_or}
use Rattle.std.specs.List.{All, Contains}
use Rattle.elmore.specs.declared.pair.Pair.{Pair}
use Rattle.sol_arena.specs.declared.arena.Arena.{Arena}
use Rattle.sol_arena.specs.declared.slot.Made.{Made}
use Rattle.sol_arena.specs.declared.slot.Slot.{Slot}
use Rattle.sol_arena.specs.Arenas.{slots_of, made_of}
use Rattle.sol_arena.specs.Meanings.{joined, cells_of, AreApart}
use Rattle.sol_arena.specs.Slots.{made_in}
use Rattle.cand_pairs.proofs.MeetLemmas.{nil, meet_at, Merging, Moved, merging_none, merging_more, merging_all}
use Rattle.cand_pairs.specs.Merging.{meet}
use Rattle.cand_pool.specs.Candidates.{Candidate, Candidates, AreModest, formed}
use Rattle.cand_pool.specs.Sequences.{left_of, spare_after}
use Rattle.cand_uses.proofs.ExchangeLemmas.{uses_of_one, uses_of_both, no_exchange, exchange_then, exchange_among}
use Rattle.cand_uses.proofs.ExchangeLemmas.{exchanged_held, stays_same}
use Rattle.cand_uses.specs.Pairs.{pair_of, pairs_of}
use Rattle.cand_uses.specs.Uses.{uses_by, HoldsFor, IsExchange}
use Rattle.vg_merge.specs.Branches.{taken_from, IsFirst, IsJoined}
use Rattle.vg_merge.specs.Merges.{CanMeet, IsMet, IsMergeOf}

-- How far a merge of the branches all_x and all_y has come: zs are made, and xs and ys are left.
pub record IsMerging (start now : List Slot) (all_x all_y zs xs ys : Candidates) : Type 0 where
  pub gone_x : Candidates
  pub gone_y : Candidates
  pub x_is : gone_x ++ xs ≡ all_x
  pub y_is : gone_y ++ ys ≡ all_y
  pub x_modest : AreModest xs
  pub y_modest : AreModest ys
  pub pairs : Merging (pairs_of all_x) (pairs_of all_y) (length gone_x) (length gone_y) (pairs_of zs)
  pub solutions : All (IsMet (made_in start) (made_in now) all_x all_y) zs
  pub x_same : (w : Candidate) → Contains xs w → cells_of (made_in now) w.tag ≡ cells_of (made_in start) w.tag
  pub y_same : (w : Candidate) → Contains ys w → cells_of (made_in now) w.tag ≡ cells_of (made_in start) w.tag
  pub uses : IsExchange start (all_x ++ all_y) now (zs ++ (xs ++ ys))
  pub few : length zs ≤ length gone_x + length gone_y
  pub fewer : length zs ≤ length all_x + length all_y - 1

pub merging_start : (slots : List Slot) (xs ys : Candidates) → CanMeet slots xs ys → IsMerging slots slots xs ys [] xs ys
merging_start slots xs ys can = record {
  gone_x = [];
  gone_y = [];
  x_is = refl;
  y_is = refl;
  x_modest = can.xs_modest;
  y_modest = can.ys_modest;
  pairs = merging_none (pairs_of xs) (pairs_of ys);
  solutions = All-nil (IsMet (made_in slots) (made_in slots) xs ys);
  x_same = λ w found. refl;
  y_same = λ w found. refl;
  uses = no_exchange slots (xs ++ ys);
  few = omega arith;
  fewer = omega arith;
}

-- WHERE THE FIRST OF A BRANCH, x, STAYS OR GOES
went : (stays : Bool) (gone : Candidates) (x : Candidate) (xs : Candidates) → (gone ++ cond stays [] (x ∷ [])) ++ cond stays (x ∷ xs) xs ≡ gone ++ (x ∷ xs)
went true gone x xs = ap (λ (l : Candidates). l ++ (x ∷ xs)) (append-nil gone)
went false gone x xs = append_assoc gone (x ∷ []) xs

pub went_uses : (stays : Bool) (x : Candidate) (xs : Candidates) (s : ℕ)
    → uses_by (x ∷ xs) s ≡ uses_by (cond stays [] (x ∷ [])) s + uses_by (cond stays (x ∷ xs) xs) s
went_uses true x xs s = omega arith
went_uses false x xs s = omega (arith, uses_of_one x xs s, uses_of_one x [] s)

went_in : (stays : Bool) (x : Candidate) (xs : Candidates) (w : Candidate) → Contains (cond stays (x ∷ xs) xs) w → Contains (x ∷ xs) w
went_in true x xs w found = found
went_in false x xs w (k, k_n, e) = (suc k, omega arith, e)

went_modest : (stays : Bool) (x : Candidate) (xs : Candidates) → AreModest (x ∷ xs) → AreModest (cond stays (x ∷ xs) xs)
went_modest true x xs modest = modest
went_modest false x xs modest = modest.1

went_length : (stays : Bool) (gone : Candidates) (x : Candidate) → length (gone ++ cond stays [] (x ∷ [])) ≡ length gone + cond stays 0 1
went_length true gone x = omega (arith, length-append gone [])
went_length false gone x = omega (arith, length-append gone (x ∷ []))

-- THE PAIRS
pub pairs_long : (xs : Candidates) → length (pairs_of xs) ≡ length xs
pairs_long xs = length-map xs pair_of

-- the pair at the first place that is left
pair_here : (gone : Candidates) (x : Candidate) (xs all : Candidates) → gone ++ (x ∷ xs) ≡ all → get_or (pairs_of all) (length gone) nil ≡ pair_of x
pair_here gone x xs all e =
    let split : pairs_of all ≡ pairs_of gone ++ (pair_of x ∷ pairs_of xs)
    = ap (λ (l : Candidates). pairs_of l) (sym e) ∙ map-append pair_of gone (x ∷ xs) in
    let at : length gone ≡ length (pairs_of gone) = sym (pairs_long gone) in
    rw (split, at) (get_or-append_seam (pairs_of gone) (pair_of x) (pairs_of xs) nil)

pair_within : (gone : Candidates) (x : Candidate) (xs all : Candidates) → gone ++ (x ∷ xs) ≡ all → length gone < length (pairs_of all)
pair_within gone x xs all e = omega (arith, pairs_long all, ap (λ (l : Candidates). length l) e, length-append gone (x ∷ xs))

-- the two that are not over the other go
moved : (pxs pys : List Pair) (i j k l : ℕ) (x y : Pair) (x_stays y_stays : Bool) → get_or pxs i nil ≡ x → get_or pys j nil ≡ y
    → int_lt y.q x.q ≡ x_stays → int_lt x.q y.q ≡ y_stays → k ≡ i + cond x_stays 0 1 → l ≡ j + cond y_stays 0 1 → Moved pxs pys i j k l
moved pxs pys i j k l x y true true x_is y_is less more k_is l_is = absurd (omega (arith, ints, less, more))
moved pxs pys i j k l x y true false x_is y_is less more k_is l_is = record {
  x_near = (omega arith, omega arith);
  y_near = (omega arith, omega arith);
  x_left = λ on. absurd (omega arith);
  y_left = λ on. omega (arith, ints, less, more, ap (λ (p : Pair). p.q) x_is, ap (λ (p : Pair). p.q) y_is);
  x_stays = λ same. omega (arith, ints, less, more, ap (λ (p : Pair). p.q) x_is, ap (λ (p : Pair). p.q) y_is);
  y_stays = λ same. absurd (omega arith);
}
moved pxs pys i j k l x y false true x_is y_is less more k_is l_is = record {
  x_near = (omega arith, omega arith);
  y_near = (omega arith, omega arith);
  x_left = λ on. omega (arith, ints, less, more, ap (λ (p : Pair). p.q) x_is, ap (λ (p : Pair). p.q) y_is);
  y_left = λ on. absurd (omega arith);
  x_stays = λ same. absurd (omega arith);
  y_stays = λ same. omega (arith, ints, less, more, ap (λ (p : Pair). p.q) x_is, ap (λ (p : Pair). p.q) y_is);
}
moved pxs pys i j k l x y false false x_is y_is less more k_is l_is = record {
  x_near = (omega arith, omega arith);
  y_near = (omega arith, omega arith);
  x_left = λ on. omega (arith, ints, less, more, ap (λ (p : Pair). p.q) x_is, ap (λ (p : Pair). p.q) y_is);
  y_left = λ on. omega (arith, ints, less, more, ap (λ (p : Pair). p.q) x_is, ap (λ (p : Pair). p.q) y_is);
  x_stays = λ same. absurd (omega arith);
  y_stays = λ same. absurd (omega arith);
}

one_goes : (x y : ℤ) (x_stays y_stays : Bool) → int_lt y x ≡ x_stays → int_lt x y ≡ y_stays → 0 < cond x_stays 0 1 + cond y_stays 0 1
one_goes x y true true less more = absurd (omega (arith, ints, less, more))
one_goes x y true false less more = omega arith
one_goes x y false true less more = omega arith
one_goes x y false false less more = omega arith

-- what is formed of two candidates is their pairs together
formed_pair : (x y : Candidate) (sol : ℕ) → pair_of (formed x y sol) ≡ meet (pair_of x) (pair_of y)
formed_pair x y sol =
    let q_is : (pair_of (formed x y sol)).q ≡ (meet (pair_of x) (pair_of y)).q = elim (cases_Bool (int_lt y.q x.q)) [
      | inl less ↦ rw less (omega (arith, ints, clamps, less))
      | inr more ↦ rw more (omega (arith, ints, clamps, more))
    ] in
    λ i. record { q = q_is i; c = x.c + y.c }

pairs_turn : (start now : List Slot) (all_x all_y zs xs ys : Candidates) (x y : Candidate) (sol : ℕ) → CanMeet start all_x all_y
    → (w : IsMerging start now all_x all_y zs (x ∷ xs) (y ∷ ys))
    → Merging (pairs_of all_x) (pairs_of all_y) (length (w.gone_x ++ taken_from x y)) (length (w.gone_y ++ taken_from y x))
    (pairs_of (zs ++ (formed x y sol ∷ [])))
pairs_turn start now all_x all_y zs xs ys x y sol can w =
    let x_here : get_or (pairs_of all_x) (length w.gone_x) nil ≡ pair_of x = pair_here w.gone_x x xs all_x w.x_is in
    let y_here : get_or (pairs_of all_y) (length w.gone_y) nil ≡ pair_of y = pair_here w.gone_y y ys all_y w.y_is in
    let z_is : pair_of (formed x y sol) ≡ meet_at (pairs_of all_x) (pairs_of all_y) (length w.gone_x) (length w.gone_y)
    = formed_pair x y sol ∙ sym (λ i. meet (x_here i) (y_here i)) in
    merging_more (pairs_of all_x) (pairs_of all_y) (pairs_of zs) (pairs_of (zs ++ (formed x y sol ∷ []))) (length w.gone_x) (length w.gone_y)
    (length (w.gone_x ++ taken_from x y)) (length (w.gone_y ++ taken_from y x)) can.xs_rise can.ys_rise
    (pair_within w.gone_x x xs all_x w.x_is) (pair_within w.gone_y y ys all_y w.y_is) w.pairs
    (map-append pair_of zs (formed x y sol ∷ []) ∙ ap (λ (p : Pair). pairs_of zs ++ (p ∷ [])) z_is)
    (moved (pairs_of all_x) (pairs_of all_y) (length w.gone_x) (length w.gone_y) (length (w.gone_x ++ taken_from x y)) (length (w.gone_y ++ taken_from y x))
    (pair_of x) (pair_of y) (int_lt y.q x.q) (int_lt x.q y.q) x_here y_here refl refl (went_length (int_lt y.q x.q) w.gone_x x)
    (went_length (int_lt x.q y.q) w.gone_y y))

-- THE SOLUTIONS
-- a candidate whose solution keeps its cells is still made of two
pub met_still : (start : List Slot) (old new : Arena) (xs ys : Candidates) (z : Candidate) → cells_of (made_of new) z.tag ≡ cells_of (made_of old) z.tag
    → IsMet (made_in start) (made_of old) xs ys z → IsMet (made_in start) (made_of new) xs ys z
met_still start old new xs ys z same (x, y, x_in, y_in, of_both) = (x, y, x_in, y_in, record { pair = of_both.pair; cells = same ∙ of_both.cells })

-- what stays, and what is taken off, are all
turn_uses : (zs xs ys : Candidates) (x y : Candidate) (s : ℕ)
    → uses_by (zs ++ ((x ∷ xs) ++ (y ∷ ys))) s ≡ uses_by (zs ++ (left_of x y xs ++ left_of y x ys)) s + uses_by (taken_from x y ++ taken_from y x) s
turn_uses zs xs ys x y s =
    omega (
      arith,
      uses_of_both zs ((x ∷ xs) ++ (y ∷ ys)) s,
      uses_of_both (x ∷ xs) (y ∷ ys) s,
      uses_of_both zs (left_of x y xs ++ left_of y x ys) s,
      uses_of_both (left_of x y xs) (left_of y x ys) s,
      uses_of_both (taken_from x y) (taken_from y x) s,
      went_uses (int_lt y.q x.q) x xs s,
      went_uses (int_lt x.q y.q) y ys s,
    )

turn_exchange : (old new : List Slot) (zs xs ys : Candidates) (x y : Candidate) (sol : ℕ) → IsJoined old new x y sol
    → IsExchange old (zs ++ ((x ∷ xs) ++ (y ∷ ys))) new ((zs ++ (formed x y sol ∷ [])) ++ (left_of x y xs ++ left_of y x ys))
turn_exchange old new zs xs ys x y sol joined =
    exchange_among old new (zs ++ (left_of x y xs ++ left_of y x ys)) (taken_from x y ++ taken_from y x) (formed x y sol ∷ [])
    (zs ++ ((x ∷ xs) ++ (y ∷ ys))) ((zs ++ (formed x y sol ∷ [])) ++ (left_of x y xs ++ left_of y x ys))
    (λ s. turn_uses zs xs ys x y s)
    (λ s. omega (
      arith,
      uses_of_both (zs ++ (formed x y sol ∷ [])) (left_of x y xs ++ left_of y x ys) s,
      uses_of_both zs (formed x y sol ∷ []) s,
      uses_of_both zs (left_of x y xs ++ left_of y x ys) s,
    )) joined.uses

in_first : (gone : Candidates) (x : Candidate) (xs all : Candidates) → gone ++ (x ∷ xs) ≡ all → Contains all x
in_first gone x xs all e = subst (λ (l : Candidates). Contains l x) e (Contains-append_right gone (x ∷ xs) x (0, omega arith, refl))

-- a turn
pub merging_turn : (start : List Slot) (old new : Arena) (all_x all_y zs xs ys : Candidates) (x y : Candidate) (sol : ℕ) → CanMeet start all_x all_y
    → IsMerging start (slots_of old) all_x all_y zs (x ∷ xs) (y ∷ ys) → IsJoined (slots_of old) (slots_of new) x y sol
    → IsMerging start (slots_of new) all_x all_y (zs ++ (formed x y sol ∷ [])) (left_of x y xs) (left_of y x ys)
merging_turn start old new all_x all_y zs xs ys x y sol can w together =
    let left = left_of x y xs ++ left_of y x ys in
    let taken = taken_from x y ++ taken_from y x in
    let held : HoldsFor (slots_of old) (zs ++ ((x ∷ xs) ++ (y ∷ ys)))
    = exchanged_held start (slots_of old) (all_x ++ all_y) (zs ++ ((x ∷ xs) ++ (y ∷ ys))) can.held w.uses in
    let held' : HoldsFor (slots_of old) ((zs ++ left) ++ taken)
    = λ s some. omega (arith, held s some, turn_uses zs xs ys x y s, uses_of_both (zs ++ left) taken s) in
    let same : (v : Candidate) → Contains (zs ++ left) v → cells_of (made_of new) v.tag ≡ cells_of (made_of old) v.tag
    = λ v found. stays_same old new (zs ++ left) taken (formed x y sol ∷ []) held' together.uses v found in
    let x_in : Contains (x ∷ xs) x = (0, omega arith, refl) in
    let y_in : Contains (y ∷ ys) y = (0, omega arith, refl) in
    let x_went = went_length (int_lt y.q x.q) w.gone_x x in
    let y_went = went_length (int_lt x.q y.q) w.gone_y y in
    record {
      gone_x = w.gone_x ++ taken_from x y;
      gone_y = w.gone_y ++ taken_from y x;
      x_is = went (int_lt y.q x.q) w.gone_x x xs ∙ w.x_is;
      y_is = went (int_lt x.q y.q) w.gone_y y ys ∙ w.y_is;
      x_modest = went_modest (int_lt y.q x.q) x xs w.x_modest;
      y_modest = went_modest (int_lt x.q y.q) y ys w.y_modest;
      pairs = pairs_turn start (slots_of old) all_x all_y zs xs ys x y sol can w;
      solutions = All-push (IsMet (made_in start) (made_of new) all_x all_y) zs (formed x y sol)
          (λ k d k_n. met_still start old new all_x all_y (get_or zs k d)
          (same (get_or zs k d) (Contains-append_left zs left (get_or zs k d) (Contains-get_or zs k d k_n))) (w.solutions k d k_n)) (
            x,
            y,
            in_first w.gone_x x xs all_x w.x_is,
            in_first w.gone_y y ys all_y w.y_is,
            record {
              pair = formed_pair x y sol;
              cells = together.cells ∙ (λ i. joined (w.x_same x x_in i) (w.y_same y y_in i));
            },
          );
      x_same = λ v found.
          same v (Contains-append_right zs left v (Contains-append_left (left_of x y xs) (left_of y x ys) v found)) ∙ w.x_same v
          (went_in (int_lt y.q x.q) x xs v found);
      y_same = λ v found.
          same v (Contains-append_right zs left v (Contains-append_right (left_of x y xs) (left_of y x ys) v found)) ∙ w.y_same v
          (went_in (int_lt x.q y.q) y ys v found);
      uses = exchange_then start (slots_of old) (slots_of new) (all_x ++ all_y) (zs ++ ((x ∷ xs) ++ (y ∷ ys)))
          ((zs ++ (formed x y sol ∷ [])) ++ left) w.uses (turn_exchange (slots_of old) (slots_of new) zs xs ys x y sol together);
      few = omega (arith, length-append zs (formed x y sol ∷ []), w.few, x_went, y_went, one_goes x.q y.q (int_lt y.q x.q) (int_lt x.q y.q) refl refl);
      fewer = omega (
        arith,
        length-append zs (formed x y sol ∷ []),
        w.few,
        length-append w.gone_x (x ∷ xs),
        length-append w.gone_y (y ∷ ys),
        ap (λ (l : Candidates). length l) w.x_is,
        ap (λ (l : Candidates). length l) w.y_is,
      );
    }

all_gone : (gone xs all : Candidates) → gone ++ xs ≡ all → xs ≡ [] → length (pairs_of all) ≤ length gone
all_gone gone xs all e none =
    omega (arith, pairs_long all, ap (λ (l : Candidates). length l) e, length-append gone xs, ap (λ (l : Candidates). length l) none)

-- of no candidates none is made
in_none : (xs : Candidates) (x : Candidate) → xs ≡ [] → Contains xs x → ⊥
in_none xs x e found = let (k, k_n, at) = subst (λ (l : Candidates). Contains l x) e found in absurd (omega arith)

pub none_made : (old new : List Made) (xs ys : Candidates) (zs : List Candidate) → All (IsMet old new xs ys) zs → (xs ≡ []) ⊎ (ys ≡ []) → zs ≡ []
none_made old new xs ys [] all empty = refl
none_made old new xs ys (z ∷ zs) all empty =
    let (x, y, x_in, y_in, of_both) = all 0 z (omega arith) in
    elim empty [ inl e ↦ absurd (in_none xs x e x_in) | inr e ↦ absurd (in_none ys y e y_in) ]

-- said of equal sequences, and of equal slots
pub merging_of : (start now : List Slot) (all_x all_y zs xs xs' ys ys' : Candidates) → xs ≡ xs' → ys ≡ ys'
    → IsMerging start now all_x all_y zs xs ys → IsMerging start now all_x all_y zs xs' ys'
merging_of start now all_x all_y zs xs xs' ys ys' e f w =
    subst (λ (l : Candidates). IsMerging start now all_x all_y zs l ys') e (subst (λ (l : Candidates). IsMerging start now all_x all_y zs xs l) f w)

pub merging_still : (start now now' : List Slot) (all_x all_y zs xs ys : Candidates) → now' ≡ now
    → IsMerging start now all_x all_y zs xs ys → IsMerging start now' all_x all_y zs xs ys
merging_still start now now' all_x all_y zs xs ys e w = subst (λ (slots : List Slot). IsMerging start slots all_x all_y zs xs ys) (sym e) w

-- the solutions of the first candidates share no node
pub first_apart : (start now : List Slot) (all_x all_y zs : Candidates) (xs ys : List Candidate) (a b : ℕ) → CanMeet start all_x all_y
    → IsMerging start now all_x all_y zs xs ys → IsFirst xs a → IsFirst ys b → AreApart (cells_of (made_in now) a) (cells_of (made_in now) b)
first_apart start now all_x all_y zs [] ys a b can w first_a first_b = absurd first_a
first_apart start now all_x all_y zs (x ∷ xs) [] a b can w first_a first_b = absurd first_b
first_apart start now all_x all_y zs (x ∷ xs) (y ∷ ys) a b can w first_a first_b =
    let a_is : cells_of (made_in now) a ≡ cells_of (made_in start) x.tag = ap (cells_of (made_in now)) (sym first_a) ∙ w.x_same x (0, omega arith, refl) in
    let b_is : cells_of (made_in now) b ≡ cells_of (made_in start) y.tag = ap (cells_of (made_in now)) (sym first_b) ∙ w.y_same y (0, omega arith, refl) in
    let apart : AreApart (cells_of (made_in start) x.tag) (cells_of (made_in start) y.tag)
    = can.apart x y (in_first w.gone_x x xs all_x w.x_is) (in_first w.gone_y y ys all_y w.y_is) in
    λ v r t in_a in_b. apart v r t (sym (ap (λ (f : ℕ → Option ℕ). f v) a_is) ∙ in_a) (sym (ap (λ (f : ℕ → Option ℕ). f v) b_is) ∙ in_b)

-- callers hold the uses of what is left
pub left_held : (start now : List Slot) (all_x all_y zs xs ys : Candidates) → CanMeet start all_x all_y → IsMerging start now all_x all_y zs xs ys
    → HoldsFor now (xs ++ ys)
left_held start now all_x all_y zs xs ys can w s some =
    omega (arith, exchanged_held start now (all_x ++ all_y) (zs ++ (xs ++ ys)) can.held w.uses s some, uses_of_both zs (xs ++ ys) s)

-- HOW MANY ARE LEFT
left_length : (stays : Bool) (x : Candidate) (xs : Candidates) → length (cond stays (x ∷ xs) xs) + cond stays 0 1 ≡ suc (length xs)
left_length true x xs = omega arith
left_length false x xs = omega arith

pub fewer_left : (x y : Candidate) (xs ys : Candidates) → length (left_of x y xs) + length (left_of y x ys) + 1 ≤ length (x ∷ xs) + length (y ∷ ys)
fewer_left x y xs ys =
    omega (
      arith,
      left_length (int_lt y.q x.q) x xs,
      left_length (int_lt x.q y.q) y ys,
      one_goes x.q y.q (int_lt y.q x.q) (int_lt x.q y.q) refl refl,
    )

-- the slot of one that is taken off serves the one that is made; if two are, one is spare
spare_on : (n : ℕ) (x y : ℤ) (x_stays y_stays : Bool) → int_lt y x ≡ x_stays → int_lt x y ≡ y_stays
    → cond (x_stays || y_stays) n (suc n) + 1 ≡ n + (cond x_stays 0 1 + cond y_stays 0 1)
spare_on n x y true true less more = absurd (omega (arith, ints, less, more))
spare_on n x y true false less more = omega arith
spare_on n x y false true less more = omega arith
spare_on n x y false false less more = omega arith

pub spare_turn : (n : ℕ) (zs xs ys : Candidates) (x y z : Candidate)
    → spare_after x y n + (length (zs ++ (z ∷ [])) + (length (left_of x y xs) + length (left_of y x ys))) ≡ n +
    (length zs + (length (x ∷ xs) + length (y ∷ ys)))
spare_turn n zs xs ys x y z =
    omega (
      arith,
      left_length (int_lt y.q x.q) x xs,
      left_length (int_lt x.q y.q) y ys,
      spare_on n x.q y.q (int_lt y.q x.q) (int_lt x.q y.q) refl refl,
      length-append zs (z ∷ []),
    )

-- the end: one of the branches is empty
pub merging_end : (start now : List Slot) (all_x all_y zs xs ys : Candidates) → IsMerging start now all_x all_y zs xs ys → (xs ≡ []) ⊎ (ys ≡ [])
    → IsMergeOf (made_in start) (made_in now) all_x all_y zs
merging_end start now all_x all_y zs xs ys w done = record {
  pairs = merging_all (pairs_of all_x) (pairs_of all_y) (pairs_of zs) (length w.gone_x) (length w.gone_y) w.pairs
      (elim done as (λ _. (length (pairs_of all_x) ≤ length w.gone_x) ⊎ (length (pairs_of all_y) ≤ length w.gone_y)) [
        | inl e ↦ inl (all_gone w.gone_x xs all_x w.x_is e)
        | inr e ↦ inr (all_gone w.gone_y ys all_y w.y_is e)
      ]);
  solutions = w.solutions;
  empty = λ empty. none_made (made_in start) (made_in now) all_x all_y zs w.solutions empty;
  few = w.fewer;
}

-- AFTER THE END: the uses of what was left are given up
pub merge_still : (start : List Slot) (old new : Arena) (xs ys zs left : Candidates) → HoldsFor (slots_of old) (zs ++ left) → IsExchange
    (slots_of old) left (slots_of new) []
    → IsMergeOf (made_in start) (made_of old) xs ys zs → IsMergeOf (made_in start) (made_of new) xs ys zs
merge_still start old new xs ys zs left held ended w = record {
  pairs = w.pairs;
  solutions = λ k d k_n. met_still start old new xs ys (get_or zs k d)
      (stays_same old new zs left [] held ended (get_or zs k d) (Contains-get_or zs k d k_n)) (w.solutions k d k_n);
  empty = w.empty;
  few = w.few;
}

pub merge_of : (old new : List Made) (xs xs' ys ys' zs zs' : Candidates) → xs ≡ xs' → ys ≡ ys' → zs ≡ zs' → IsMergeOf old new xs ys zs
    → IsMergeOf old new xs' ys' zs'
merge_of old new xs xs' ys ys' zs zs' e f g w =
    subst (λ (l : Candidates). IsMergeOf old new l ys' zs') e
    (subst (λ (l : Candidates). IsMergeOf old new xs l zs') f (subst (λ (l : Candidates). IsMergeOf old new xs ys l) g w))
