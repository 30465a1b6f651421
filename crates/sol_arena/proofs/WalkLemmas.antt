-- One turn of the walk over a solution.
use Rattle.std.proofs.Common.{◌≡◌, ◌≢◌, ◌⊎◌, ℕ, zero, suc, ◌+◌, ◌<◌, ◌≤◌, Bool, true, false, ◌==◌, cond, List, [], ◌∷◌, ◌++◌, length, Option, Some, None, refl, sym, ap, ◌∙◌, arith, inl, inr, subst, get_or, eq-eqb}
use Rattle.std.proofs.lemmas.Bool.{cases_eq}
use Rattle.std.proofs.lemmas.List.Sums.{sum_by_push}
use Rattle.std.proofs.Math.Logic.{∥∥₁_elim}
use Rattle.std.proofs.Props.{props}
use Rattle.std.specs.List.{Contains}
use Rattle.sol_arena.specs.declared.slot.Made.{Made}
use Rattle.sol_arena.specs.declared.slot.Made.TheVariants.{Free, Owed, Cell, Join}
use Rattle.sol_arena.specs.declared.slot.Slot.{Slot}
use Rattle.sol_arena.specs.Slots.{none, made_in, made_at, is_solution, IsLive}
use Rattle.sol_arena.specs.Uses.{uses_in}
use Rattle.sol_arena.specs.Meanings.{joined, either_of, with_own, cells_by, cells_of, bare}
use Rattle.sol_arena.specs.Invariant.{IsArena, IsOrder}
use Rattle.sol_arena.specs.Walk.{size_by, size_within, size_of, cells_left, turns_left, cell_so_far, AreLive, IsVisit}
use Rattle.sol_arena.proofs.OneLemmas.{one_same, in_cases, in_rest}
use Rattle.sol_arena.proofs.CountLemmas.{length-made_in, is_there}
use Rattle.sol_arena.proofs.MeaningLemmas.{none_made, none_bare}
use Rattle.sol_arena.proofs.OrderLemmas.{order_short}
use Rattle.sol_arena.proofs.MakeLemmas.{closed_live, cells_step}

sized_alike : (m : Made) (f g : ℕ → ℕ) → ((x : ℕ) → 0 < uses_in m x → f x ≡ g x) → size_by m f ≡ size_by m g
sized_alike (Free next) f g alike = refl
sized_alike (Owed to next) f g alike = refl
sized_alike (Cell node rep below) f g alike = ap (λ k. 1 + k) (alike below (omega (arith, one_same below below refl)))
sized_alike (Join a b) f g alike =
    omega (arith, alike a (omega (arith, one_same a a refl)), alike b (omega (arith, one_same b b refl)))

none_size : (ms : List Made) → length ms ≤ none → (n : ℕ) → size_within n ms none ≡ 1
none_size ms room zero = refl
none_size ms room (suc n) = ap (λ m. size_by m (size_within n ms)) (none_made ms room)

steady_size : (ms : List Made) → length ms ≤ none → (order : List ℕ) → IsOrder ms order → (s : ℕ) → Contains order s
    → (n : ℕ) → length order ≤ n → size_within n ms s ≡ size_within (suc n) ms s
steady_size ms room [] ordered s (k, k_n, e) n enough = absurd (omega arith)
steady_size ms room (y ∷ rest) ordered s found zero enough = absurd (omega arith)
steady_size ms room (y ∷ rest) ordered s found (suc n) enough =
    elim (in_cases y rest s found) [
      | inl e ↦ sized_alike (made_at ms s) (size_within n ms) (size_within (suc n) ms)
          (λ x x_of. elim (cases_eq x none) [
            | inl is_none ↦ ap (size_within n ms) is_none ∙ none_size ms room n ∙ sym (ap (size_within (suc n) ms) is_none ∙ none_size ms room (suc n))
            | inr some ↦
                let x_of_y : 0 < uses_in (made_at ms y) x = rw e x_of in
                steady_size ms room rest ordered.3 x (ordered.2 x some x_of_y) n (omega arith)
          ])
      | inr later ↦ steady_size ms room rest ordered.3 s later (suc n) (omega arith)
    ]

-- a live solution's cells and size by those of what it was made of
pub size_step : (slots : List Slot) (free : ℕ) → IsArena slots free → (s : ℕ) → s ≢ none → IsLive (made_in slots) s → size_of (made_in slots) s ≡ size_by (made_at (made_in slots) s) (size_of (made_in slots))
unfolding size_of
size_step slots free arena s some s_live =
    ∥∥₁_elim arena.acyclic (hlevel props) (λ (order, orders).
    steady_size (made_in slots) (omega (arith, length-made_in slots, arena.kept.room)) order orders.ordered s (orders.whole s (s_live some)) (length (made_in slots)) (order_short (made_in slots) order orders.ordered))

pub size_some : (slots : List Slot) (free : ℕ) → IsArena slots free → size_of (made_in slots) none ≡ 1
unfolding size_of
size_some slots free arena = none_size (made_in slots) (omega (arith, length-made_in slots, arena.kept.room)) (length (made_in slots))

pub meaning_step : (slots : List Slot) (free : ℕ) → IsArena slots free → (s : ℕ) → IsLive (made_in slots) s → cells_of (made_in slots) s ≡ cells_by (made_at (made_in slots) s) (cells_of (made_in slots))
unfolding cells_of
meaning_step slots free arena s s_live =
    ∥∥₁_elim arena.acyclic (hlevel props) (λ (order, orders). cells_step (made_in slots) (omega (arith, length-made_in slots, arena.kept.room)) order orders s s_live)

pub none_means : (slots : List Slot) (free : ℕ) → IsArena slots free → cells_of (made_in slots) none ≡ bare
unfolding cells_of
none_means slots free arena = none_bare (made_in slots) (omega (arith, length-made_in slots, arena.kept.room)) (length (made_in slots))

pub left_push : (ms : List Made) (left : List ℕ) (s : ℕ) (rest : ℕ → Option ℕ) → cells_left ms (left ++ s ∷ []) rest ≡ joined (cells_of ms s) (cells_left ms left rest)
left_push ms [] s rest = refl
left_push ms (x ∷ left) s rest = left_push ms left s (joined (cells_of ms x) rest)

pub turns_push : (ms : List Made) (left : List ℕ) (s : ℕ) → turns_left ms (left ++ s ∷ []) ≡ turns_left ms left + size_of ms s
turns_push ms left s = sum_by_push (size_of ms) left s

either_none : (x : Option ℕ) → either_of x None ≡ x
either_none None = refl
either_none (Some a) = refl

either_three : (x y z : Option ℕ) → either_of (either_of x y) z ≡ either_of x (either_of y z)
either_three None y z = refl
either_three (Some a) y z = refl

either_some : (c : Option ℕ) (y : ℕ) → (x : ℕ) × (either_of c (Some y) ≡ Some x)
either_some None y = (y, refl)
either_some (Some a) y = (a, refl)

cell_turn : (b : Bool) (c y z : Option ℕ) (rep : ℕ) → either_of (either_of c (cond b (Some rep) None)) (either_of y z) ≡ either_of c (either_of (cond b (Some rep) y) z)
cell_turn true None y z rep = refl
cell_turn true (Some c) y z rep = refl
cell_turn false None y z rep = refl
cell_turn false (Some c) y z rep = refl

pub in_push : (xs : List ℕ) (y x : ℕ) → Contains (xs ++ y ∷ []) x → Contains xs x ⊎ (y ≡ x)
in_push [] y x found = elim (in_cases y [] x found) [ inl e ↦ inr e | inr later ↦ absurd (omega (arith, later.1)) ]
in_push (z ∷ xs) y x found =
    elim (in_cases z (xs ++ y ∷ []) x found) [
      | inl e ↦ inl (0, omega arith, e)
      | inr later ↦ elim (in_push xs y x later) [
        | inl before ↦ inl (in_rest z xs x before)
        | inr e ↦ inr e
      ]
    ]

pub before_push : (xs : List ℕ) (y x : ℕ) → Contains xs x → Contains (xs ++ y ∷ []) x
before_push [] y x (k, k_n, e) = absurd (omega arith)
before_push (z ∷ xs) y x found =
    elim (in_cases z xs x found) [
      | inl e ↦ (0, omega arith, e)
      | inr later ↦ in_rest z (xs ++ y ∷ []) x (before_push xs y x later)
    ]

pub last_push : (xs : List ℕ) (y : ℕ) → Contains (xs ++ y ∷ []) y
last_push [] y = (0, omega arith, refl)
last_push (z ∷ xs) y = in_rest z (xs ++ y ∷ []) y (last_push xs y)

live_push : (ms : List Made) (left : List ℕ) (x : ℕ) → AreLive ms left → IsLive ms x → AreLive ms (left ++ x ∷ [])
live_push ms left x live x_live t found =
    elim (in_push left x t found) [ inl before ↦ live t before | inr e ↦ subst (IsLive ms) e x_live ]

module _ (slots : List Slot) (free : ℕ) (arena : IsArena slots free) (cells : List (Option ℕ)) (left : List ℕ) where
  pub visited_none : (s : ℕ) → s ≡ none → AreLive (made_in slots) (left ++ s ∷ []) → IsVisit (made_in slots) cells (left ++ s ∷ []) cells left
  visited_none s is live =
      record {
        room = refl;
        live = λ t found. live t (before_push left s t found);
        same = λ v. ap (either_of (get_or cells v None)) (ap (λ f. either_of (f v) (cells_left (made_in slots) left bare v)) (sym (ap (cells_of (made_in slots)) is ∙ none_means slots free arena)) ∙ ap (λ f. f v) (sym (left_push (made_in slots) left s bare)));
        less = omega (arith, turns_push (made_in slots) left s, ap (size_of (made_in slots)) is, size_some slots free arena);
      }

  pub visited_join : (s a b : ℕ) → s ≢ none → made_at (made_in slots) s ≡ Join a b → AreLive (made_in slots) (left ++ s ∷ [])
      → IsVisit (made_in slots) cells (left ++ s ∷ []) cells ((left ++ b ∷ []) ++ a ∷ [])
  visited_join s a b some is live =
      let s_live : IsLive (made_in slots) s = live s (last_push left s) in
      let a_live : IsLive (made_in slots) a = closed_live slots free arena.kept s a s_live (rw is (omega (arith, one_same a a refl))) in
      let b_live : IsLive (made_in slots) b = closed_live slots free arena.kept s b s_live (rw is (omega (arith, one_same b b refl))) in
      let means : cells_of (made_in slots) s ≡ joined (cells_of (made_in slots) a) (cells_of (made_in slots) b) = meaning_step slots free arena s s_live ∙ ap (λ m. cells_by m (cells_of (made_in slots))) is in
      let size : size_of (made_in slots) s ≡ 1 + (size_of (made_in slots) a + size_of (made_in slots) b) = size_step slots free arena s some s_live ∙ ap (λ m. size_by m (size_of (made_in slots))) is in
      let left_live : AreLive (made_in slots) left = λ t found. live t (before_push left s t found) in
      record {
        room = refl;
        live = live_push (made_in slots) (left ++ b ∷ []) a (live_push (made_in slots) left b left_live b_live) a_live;
        same = λ v. ap (either_of (get_or cells v None)) (
            ap (λ f. f v) (left_push (made_in slots) (left ++ b ∷ []) a bare)
            ∙ ap (λ f. either_of (cells_of (made_in slots) a v) (f v)) (left_push (made_in slots) left b bare)
            ∙ sym (either_three (cells_of (made_in slots) a v) (cells_of (made_in slots) b v) (cells_left (made_in slots) left bare v))
            ∙ ap (λ f. either_of (f v) (cells_left (made_in slots) left bare v)) (sym means)
            ∙ ap (λ f. f v) (sym (left_push (made_in slots) left s bare)));
        less = omega (arith, turns_push (made_in slots) left s, turns_push (made_in slots) left b, turns_push (made_in slots) (left ++ b ∷ []) a, size);
      }

  pub visited_cell : (s node rep below : ℕ) (cells' : List (Option ℕ)) → s ≢ none → made_at (made_in slots) s ≡ Cell node rep below → AreLive (made_in slots) (left ++ s ∷ [])
      → length cells' ≡ length cells → ((v : ℕ) → get_or cells' v None ≡ either_of (get_or cells v None) (cond (v == node) (Some rep) None))
      → IsVisit (made_in slots) cells (left ++ s ∷ []) cells' (left ++ below ∷ [])
  visited_cell s node rep below cells' some is live room put =
      let s_live : IsLive (made_in slots) s = live s (last_push left s) in
      let below_live : IsLive (made_in slots) below = closed_live slots free arena.kept s below s_live (rw is (omega (arith, one_same below below refl))) in
      let means : cells_of (made_in slots) s ≡ with_own node (Some rep) (cells_of (made_in slots) below) = meaning_step slots free arena s s_live ∙ ap (λ m. cells_by m (cells_of (made_in slots))) is in
      let size : size_of (made_in slots) s ≡ 1 + size_of (made_in slots) below = size_step slots free arena s some s_live ∙ ap (λ m. size_by m (size_of (made_in slots))) is in
      let left_live : AreLive (made_in slots) left = λ t found. live t (before_push left s t found) in
      record {
        room = room;
        live = live_push (made_in slots) left below left_live below_live;
        same = λ v.
            ap (λ c. either_of c (cells_left (made_in slots) (left ++ below ∷ []) bare v)) (put v)
            ∙ ap (λ f. either_of (either_of (get_or cells v None) (cond (v == node) (Some rep) None)) (f v)) (left_push (made_in slots) left below bare)
            ∙ cell_turn (v == node) (get_or cells v None) (cells_of (made_in slots) below v) (cells_left (made_in slots) left bare v) rep
            ∙ ap (either_of (get_or cells v None)) (
            ap (λ f. either_of (f v) (cells_left (made_in slots) left bare v)) (sym means)
            ∙ ap (λ f. f v) (sym (left_push (made_in slots) left s bare)));
        less = omega (arith, turns_push (made_in slots) left s, turns_push (made_in slots) left below, size);
      }

  -- a solution that is left and has a slot is there
  pub left_within : (s : ℕ) → s ≢ none → AreLive (made_in slots) (left ++ s ∷ []) → s < length slots
  left_within s some live = omega (arith, length-made_in slots, is_there (made_in slots) s is_solution refl (live s (last_push left s) some))

  -- its own cell is one of those that are found in the end
  pub own_found : (s node rep below : ℕ) → made_at (made_in slots) s ≡ Cell node rep below → AreLive (made_in slots) (left ++ s ∷ []) → (x : ℕ) × (cell_so_far (made_in slots) cells (left ++ s ∷ []) node ≡ Some x)
  own_found s node rep below is live =
      let means : cells_of (made_in slots) s ≡ with_own node (Some rep) (cells_of (made_in slots) below) = meaning_step slots free arena s (live s (last_push left s)) ∙ ap (λ m. cells_by m (cells_of (made_in slots))) is in
      let own : cells_of (made_in slots) s node ≡ Some rep = ap (λ f. f node) means ∙ ap (λ b. cond b (Some rep) (cells_of (made_in slots) below node)) (eq-eqb node node refl) in
      let all : cells_left (made_in slots) (left ++ s ∷ []) bare node ≡ Some rep = ap (λ f. f node) (left_push (made_in slots) left s bare) ∙ ap (λ c. either_of c (cells_left (made_in slots) left bare node)) own in
      let (x, is_x) = either_some (get_or cells node None) rep in
      (x, ap (either_of (get_or cells node None)) all ∙ is_x)

pub made_form : (m : Made) → is_solution m ≡ true → ((x y z : ℕ) → m ≡ Cell x y z → ⊥) → ((x y : ℕ) → m ≡ Join x y → ⊥) → ⊥
made_form (Free next) is no_cell no_join = cc
made_form (Owed to next) is no_cell no_join = cc
made_form (Cell node rep below) is no_cell no_join = no_cell node rep below refl
made_form (Join a b) is no_cell no_join = no_join a b refl
