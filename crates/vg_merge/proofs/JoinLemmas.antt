-- One join: the solution of two first candidates, and the uses of those that are taken off their branches.
use Rattle.std.proofs.Common.{◌≡◌, ◌≢◌, ℕ, ◌<◌, Bool, true, false, cond, List, [], ◌∷◌, ◌++◌, Option, Some, None, MatchOption, refl, sym, ap, ◌∙◌}
use Rattle.std.proofs.Common.{subst, inl, inr, arith, int_lt}
use Rattle.std.proofs.lemmas.Bool.{cases_eq}
use Rattle.std.proofs.lemmas.Option.{MatchOption-at_none, MatchOption-at_some}
use Rattle.std.specs.List.{Contains}
use Rattle.std.specs.Option.{ForSome}
use Rattle.sol_arena.specs.declared.arena.Arena.{Arena}
use Rattle.sol_arena.specs.declared.slot.Made.TheVariants.{Join}
use Rattle.sol_arena.specs.declared.slot.Slot.{Slot}
use Rattle.sol_arena.specs.Arenas.{slots_of, made_of}
use Rattle.sol_arena.specs.Changes.{IsNew, IsReleased}
use Rattle.sol_arena.specs.Meanings.{bare, joined, cells_of}
use Rattle.sol_arena.specs.Slots.{none, IsLive}
use Rattle.sol_arena.specs.Uses.{held_of}
use Rattle.sol_arena.proofs.OneLemmas.{one_same}
use Rattle.sol_arena.proofs.ReachLemmas.{held_live}
use Rattle.cand_pool.specs.Candidates.{Candidate, Candidates, formed}
use Rattle.cand_pool.specs.Pools.{Block, Holds, items_of}
use Rattle.cand_pool.specs.declared.ends.List.{List as NamedList}
use Rattle.cand_pool.specs.declared.join_pair.Taken.{Taken}
use Rattle.cand_pool.proofs.PublicLaws.{held_items}
use Rattle.cand_uses.proofs.ExchangeLemmas.{uses_of_one, uses_of_both, no_exchange, exchange_then, exchange_among, exchanged_held, first_use, new_one}
use Rattle.cand_uses.proofs.ExchangeLemmas.{empty_one, empty_cells, released_one, stays_same}
use Rattle.cand_uses.specs.Uses.{uses_by, HoldsFor, IsExchange}
use Rattle.vg_merge.specs.Branches.{AreAt, AreLive, IsFirst, taken_from, IsJoined}
use Rattle.vg_merge.specs.declared.branches.Branches.{Branches}
use Rattle.vg_merge.proofs.MergingLemmas.{went_uses}

-- THE FIRST CANDIDATES
-- x and y are the first of both branches, and have these solutions
pub record AreFirsts (s : Block) (at : Branches) (a b : ℕ) : Type 0 where
  pub x : Candidate
  pub y : Candidate
  pub xs : Candidates
  pub ys : Candidates
  pub x_tag : x.tag ≡ a
  pub y_tag : y.tag ≡ b
  pub a_is : items_of s at.a ≡ x ∷ xs
  pub b_is : items_of s at.b ≡ y ∷ ys

pub split_first : (xs : List Candidate) (sol : ℕ) → IsFirst xs sol → (x : Candidate) × (rest : Candidates) × (xs ≡ x ∷ rest) × (x.tag ≡ sol)
split_first [] sol is = absurd is
split_first (x ∷ xs) sol is = (x, xs, refl, is)

pub firsts : (s : Block) (at : Branches) (a b : ℕ) → IsFirst (items_of s at.a) a → IsFirst (items_of s at.b) b → AreFirsts s at a b
firsts s at a b first_a first_b =
    let (x, xs, a_is, x_tag) = split_first (items_of s at.a) a first_a in
    let (y, ys, b_is, y_tag) = split_first (items_of s at.b) b first_b in
    record { x = x; y = y; xs = xs; ys = ys; x_tag = x_tag; y_tag = y_tag; a_is = a_is; b_is = b_is }

-- lists whose sequences are known
pub are_as : (s : Block) (at : Branches) (xs ys : Candidates) → items_of s at.a ≡ xs → items_of s at.b ≡ ys → AreLive s at → AreAt s at
    (items_of s at.list) xs ys
are_as s at xs ys a_is b_is live = subst (λ (l : Candidates). AreAt s at (items_of s at.list) l ys) a_is
    (subst (λ (l : Candidates). AreAt s at (items_of s at.list) (items_of s at.a) l) b_is live)

pub are_held : (slots : List Slot) (xs xs' ys ys' : Candidates) → xs ≡ xs' → ys ≡ ys' → HoldsFor slots (xs ++ ys) → HoldsFor slots (xs' ++ ys')
are_held slots xs xs' ys ys' e f held = subst (λ (l : Candidates). HoldsFor slots (l ++ ys')) e
    (subst (λ (l : Candidates). HoldsFor slots (xs ++ l)) f held)

pub not_empty : (s : Block) (list : NamedList) (sol : ℕ) → IsFirst (items_of s list) sol → Holds s list [] → ⊥
not_empty s list sol first h = subst (λ (l : Candidates). IsFirst l sol) (held_items s list.ends.first list.ends.last [] h) first

-- the solution of a first candidate is that which was told
pub first_is : (s : Block) (list : NamedList) (x : Candidate) (xs : Candidates) (sol : ℕ) → IsFirst (items_of s list) sol → Holds s list (x ∷ xs)
    → x.tag ≡ sol
first_is s list x xs sol first h = subst (λ (l : Candidates). IsFirst l sol) (held_items s list.ends.first list.ends.last (x ∷ xs) h) first

uses_of_first : (xs : List Candidate) (sol : ℕ) → IsFirst xs sol → 0 < uses_by xs sol
uses_of_first [] sol is = absurd is
uses_of_first (x ∷ xs) sol is = omega (arith, uses_of_one x xs sol, one_same x.tag sol is)

pub first_live_a : (arena : Arena) (xs ys : Candidates) (sol : ℕ) → HoldsFor (slots_of arena) (xs ++ ys) → IsFirst xs sol → IsLive (made_of arena) sol
first_live_a arena xs ys sol held first some = held_live arena sol some (omega (arith, held sol some, uses_of_both xs ys sol, uses_of_first xs sol first))

pub first_live_b : (arena : Arena) (xs ys : Candidates) (sol : ℕ) → HoldsFor (slots_of arena) (xs ++ ys) → IsFirst ys sol → IsLive (made_of arena) sol
first_live_b arena xs ys sol held first some = held_live arena sol some (omega (arith, held sol some, uses_of_both xs ys sol, uses_of_first ys sol first))

-- WHAT IS TAKEN OFF
pub taken_is : (r : Option Taken) (t : Taken) (p q : Option ℕ) → r ≡ Some t → r ≡ Some (record { a = p; b = q }) → (t.a ≡ p) × (t.b ≡ q)
taken_is r t p q is both =
    let e : ◌≡◌ {A = Taken} t (record { a = p; b = q }) = cc in (ap (λ (k : Taken). k.a) e, ap (λ (k : Taken). k.b) e)

pub taken_held : (slots : List Slot) (stays : Bool) (x : Candidate) (tag : Option ℕ) → tag ≡ cond stays None (Some x.tag) → HoldsFor slots
    (cond stays [] (x ∷ []))
    → ForSome tag (λ sol. sol ≢ none → 0 < held_of slots sol)
taken_held slots true x tag e held sol is some = let clash : None ≡ Some sol = sym e ∙ is in absurd (cc)
taken_held slots false x tag e held sol is some =
    let same : x.tag ≡ sol = cc in subst (λ (k : ℕ). 0 < held_of slots k) same (first_use slots x [] held (λ f. some (sym same ∙ f)))

pub taken_released : (old new : Arena) (stays : Bool) (x : Candidate) (tag : Option ℕ) → tag ≡ cond stays None (Some x.tag)
    → MatchOption tag (slots_of new ≡ slots_of old) (λ sol. IsReleased (slots_of old) (slots_of new) sol)
    → IsExchange (slots_of old) (cond stays [] (x ∷ [])) (slots_of new) []
taken_released old new true x tag e released =
    let same : slots_of new ≡ slots_of old = MatchOption-at_none _ _ e released in
    subst (λ (slots : List Slot). IsExchange (slots_of old) [] slots []) (sym same) (no_exchange (slots_of old) [])
taken_released old new false x tag e released = released_one old new x (MatchOption-at_some _ _ x.tag e released)

-- THE NEW SOLUTION
-- a join makes a solution with the cells of both, of which callers hold a use
pub record IsMade (old mid : Arena) (a b : ℕ) (z : Candidate) : Type 0 where
  pub uses : IsExchange (slots_of old) [] (slots_of mid) (z ∷ [])
  pub cells : cells_of (made_of mid) z.tag ≡ joined (cells_of (made_of old) a) (cells_of (made_of old) b)

pub joined_new : (old mid : Arena) (a b : ℕ) (z : Candidate) → (a ≡ none → b ≡ none → z.tag ≡ none) → (a ≡ none → b ≡ none → slots_of mid ≡ slots_of old)
    → (((a ≡ none) × (b ≡ none) → ⊥) → IsNew (slots_of old) (slots_of mid) z.tag (Join a b)) → IsMade old mid a b z
joined_new old mid a b z empty same is_new =
    elim (cases_eq a none) [
      | inr some ↦ new (λ both. some both.0)
      | inl a_none ↦ elim (cases_eq b none) [
        | inr some ↦ new (λ both. some both.1)
        | inl b_none ↦
            let a_bare : cells_of (made_of old) a ≡ bare = ap (cells_of (made_of old)) a_none ∙ empty_cells old in
            let b_bare : cells_of (made_of old) b ≡ bare = ap (cells_of (made_of old)) b_none ∙ empty_cells old in
            let both_bare : joined (cells_of (made_of old) a) (cells_of (made_of old) b) ≡ bare = λ i. joined (a_bare i) (b_bare i) in
            record {
              uses = subst (λ (slots : List Slot). IsExchange (slots_of old) [] slots (z ∷ [])) (sym (same a_none b_none))
                  (empty_one (slots_of old) z (empty a_none b_none));
              cells = ap (cells_of (made_of mid)) (empty a_none b_none) ∙ empty_cells mid ∙ sym both_bare;
            }
      ]
    ]
  where
    new : ((a ≡ none) × (b ≡ none) → ⊥) → IsMade old mid a b z
    new some = record { uses = new_one old mid z (Join a b) (is_new some); cells = (is_new some).means }

-- THE WHOLE JOIN
-- of both branches
abbrev pub taken_both : Candidate → Candidate → Candidates
taken_both x y = taken_from x y ++ taken_from y x

both_held : (slots : List Slot) (x y : Candidate) (xs ys : Candidates) → HoldsFor slots ((x ∷ xs) ++ (y ∷ ys)) → HoldsFor slots (taken_both x y)
both_held slots x y xs ys held s some =
    omega (
      arith,
      held s some,
      uses_of_both (x ∷ xs) (y ∷ ys) s,
      uses_of_both (taken_from x y) (taken_from y x) s,
      went_uses (int_lt y.q x.q) x xs s,
      went_uses (int_lt x.q y.q) y ys s,
    )

made_beside : (old mid : List Slot) (x y z : Candidate) → IsExchange old [] mid (z ∷ []) → IsExchange old (taken_both x y) mid ((z ∷ []) ++ taken_both x y)
made_beside old mid x y z made =
    exchange_among old mid (taken_both x y) [] (z ∷ []) (taken_both x y) ((z ∷ []) ++ taken_both x y) (λ s. omega arith)
    (λ s. omega (arith, uses_of_both (z ∷ []) (taken_both x y) s)) made

-- after the join callers hold the uses of what was taken off, and that of the new solution
pub mid_held : (old mid : List Slot) (x y z : Candidate) (xs ys : Candidates) → HoldsFor old ((x ∷ xs) ++ (y ∷ ys)) → IsExchange old [] mid (z ∷ [])
    → HoldsFor mid ((z ∷ []) ++ taken_both x y)
mid_held old mid x y z xs ys held made =
    exchanged_held old mid (taken_both x y) ((z ∷ []) ++ taken_both x y) (both_held old x y xs ys held) (made_beside old mid x y z made)

first_beside : (mid later : List Slot) (x y z : Candidate) → IsExchange mid (taken_from x y) later [] → IsExchange mid
    ((z ∷ []) ++ taken_both x y) later ((z ∷ []) ++ taken_from y x)
first_beside mid later x y z one =
    exchange_among mid later ((z ∷ []) ++ taken_from y x) (taken_from x y) [] ((z ∷ []) ++ taken_both x y) ((z ∷ []) ++ taken_from y x)
    (λ s. omega (
      arith,
      uses_of_both (z ∷ []) (taken_both x y) s,
      uses_of_both (taken_from x y) (taken_from y x) s,
      uses_of_both (z ∷ [])
          (taken_from y x) s,
    ))
    (λ s. omega arith) one

pub later_held : (mid later : List Slot) (x y z : Candidate) → HoldsFor mid ((z ∷ []) ++ taken_both x y) → IsExchange mid (taken_from x y) later []
    → HoldsFor later ((z ∷ []) ++ taken_from y x)
later_held mid later x y z held one =
    exchanged_held mid later ((z ∷ []) ++ taken_both x y) ((z ∷ []) ++ taken_from y x) held (first_beside mid later x y z one)

second_beside : (later new : List Slot) (x y z : Candidate) → IsExchange later (taken_from y x) new [] → IsExchange later
    ((z ∷ []) ++ taken_from y x) new (z ∷ [])
second_beside later new x y z two =
    exchange_among later new (z ∷ []) (taken_from y x) [] ((z ∷ []) ++ taken_from y x) (z ∷ [])
    (λ s. omega (arith, uses_of_both (z ∷ []) (taken_from y x) s)) (λ s. omega arith) two

part_held : (slots : List Slot) (xs ys : Candidates) → HoldsFor slots (xs ++ ys) → HoldsFor slots xs
part_held slots xs ys held s some = omega (arith, held s some, uses_of_both xs ys s)

pub rest_held : (slots : List Slot) (xs ys : Candidates) → HoldsFor slots (xs ++ ys) → HoldsFor slots ys
rest_held slots xs ys held s some = omega (arith, held s some, uses_of_both xs ys s)

pub first_taken_held : (slots : List Slot) (x y z : Candidate) → HoldsFor slots ((z ∷ []) ++ taken_both x y) → HoldsFor slots (taken_from x y)
first_taken_held slots x y z held = part_held slots (taken_from x y) (taken_from y x) (rest_held slots (z ∷ []) (taken_both x y) held)

-- the join, and what was taken off released
pub whole_join : (old mid later new : Arena) (x y : Candidate) (xs ys : Candidates) (a b sol : ℕ) → x.tag ≡ a → y.tag ≡ b → HoldsFor (slots_of old)
    ((x ∷ xs) ++ (y ∷ ys))
    → IsMade old mid a b (formed x y sol) → IsExchange (slots_of mid) (taken_from x y) (slots_of later) [] → IsExchange (slots_of later)
    (taken_from y x) (slots_of new) []
    → IsJoined (slots_of old) (slots_of new) x y sol
whole_join old mid later new x y xs ys a b sol x_tag y_tag held made one two =
    let z = formed x y sol in
    let z_in : Contains (z ∷ []) z = (0, omega arith, refl) in
    let held_mid : HoldsFor (slots_of mid) ((z ∷ []) ++ taken_both x y) = mid_held (slots_of old) (slots_of mid) x y z xs ys held made.uses in
    let held_later : HoldsFor (slots_of later) ((z ∷ []) ++ taken_from y x) = later_held (slots_of mid) (slots_of later) x y z held_mid one in
    let held_one : HoldsFor (slots_of mid) ((z ∷ []) ++ taken_from x y)
    = λ s some. omega (
      arith,
      held_mid s some,
      uses_of_both (z ∷ []) (taken_both x y) s,
      uses_of_both (taken_from x y)
          (taken_from y x) s,
      uses_of_both (z ∷ []) (taken_from x y) s,
    ) in
    record {
      cells = stays_same later new (z ∷ []) (taken_from y x) [] held_later two z z_in
          ∙ stays_same mid later (z ∷ []) (taken_from x y) [] held_one one z z_in
          ∙ made.cells
          ∙ (λ i. joined (cells_of (made_of old) (sym x_tag i)) (cells_of (made_of old) (sym y_tag i)));
      uses =
          exchange_then (slots_of old) (slots_of mid) (slots_of new) (taken_both x y) ((z ∷ []) ++ taken_both x y) (z ∷ [])
          (made_beside (slots_of old) (slots_of mid) x y z made.uses)
          (exchange_then (slots_of mid) (slots_of later) (slots_of new) ((z ∷ []) ++ taken_both x y) ((z ∷ []) ++ taken_from y x) (z ∷ [])
          (first_beside (slots_of mid) (slots_of later) x y z one) (second_beside (slots_of later) (slots_of new) x y z two));
    }
