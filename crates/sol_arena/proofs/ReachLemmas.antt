-- What uses reach: what is live, what a call leaves, and when all is as it was.
use Rattle.std.proofs.Common.{◌≡◌, ◌≢◌, ℕ, suc, ◌<◌, ◌≤◌, true, false, List, [], ◌∷◌, length, refl, sym, ap, ◌∙◌, arith, inl, inr, subst, get_or}
use Rattle.std.proofs.lemmas.Bool.{cases_eq, cases_lt, cases_Bool}
use Rattle.std.proofs.lemmas.List.Sums.{sum_by-cons}
use Rattle.std.proofs.Math.Logic.{∥∥₁_elim, ∥∥₁_map}
use Rattle.std.proofs.Props.{props}
use Rattle.std.specs.List.{sum_by, Contains}
use Rattle.sol_arena.specs.declared.arena.Arena.{Arena}
use Rattle.sol_arena.specs.declared.slot.Made.{Made}
use Rattle.sol_arena.specs.declared.slot.Made.TheVariants.{Free, Owed, Cell, Join}
use Rattle.sol_arena.specs.Slots.{none, made_at, is_solution, IsSolution}
use Rattle.sol_arena.specs.Uses.{held_of, one_if, uses_in, inner_uses, live_count}
use Rattle.sol_arena.specs.Meanings.{cells_of}
use Rattle.sol_arena.specs.Invariant.{is_owed, owed_count, IsOrder}
use Rattle.sol_arena.specs.Changes.{IsNew, GainsUse, IsReleased}
use Rattle.sol_arena.specs.Arenas.{slots_of, made_of}
use Rattle.sol_arena.specs.Reach.{IsReached, root, through, IsFrame, AreHeld, IsRestored}
use Rattle.sol_arena.proofs.OneLemmas.{one_other, in_rest, in_cases}
use Rattle.sol_arena.proofs.CountLemmas.{length-made_in, past_owed, owed_count-set}
use Rattle.sol_arena.proofs.MakeLemmas.{closed_live, made_some}

-- what held uses reach is live
pub reached_live : (arena : Arena) (held : ℕ → ℕ) → AreHeld held (slots_of arena) → (s : ℕ) → IsReached (made_of arena) held s → IsSolution (made_of arena) s
reached_live arena held are s (root _ some positive) =
    elim (cases_Bool (is_solution (made_at (made_of arena) s))) [
      | inl is ↦ is
      | inr not ↦ absurd (omega (arith, are s some, positive, arena.sound.kept.unused s not))
    ]
reached_live arena held are s (through t _ before some x_of) =
    closed_live arena.slots.items arena.free arena.sound.kept t s (λ _. reached_live arena held are t before) x_of some

-- what is reached stays reached, where it was made of the same
pub reached_too : (old new : List Made) (held held' : ℕ → ℕ) → ((s : ℕ) → s ≢ none → held s ≤ held' s) → ((s : ℕ) → IsReached old held s → made_at new s ≡ made_at old s)
    → (s : ℕ) → IsReached old held s → IsReached new held' s
reached_too old new held held' more same s (root _ some positive) = root s some (omega (arith, more s some))
reached_too old new held held' more same s (through t _ before some x_of) =
    through t s (reached_too old new held held' more same t before) some (subst (λ m. 0 < uses_in m s) (sym (same t before)) x_of)

-- frames follow each other
pub frames : (held : ℕ → ℕ) (a b c : List Made) → IsFrame held a b → IsFrame held b c → IsFrame held a c
frames held a b c one two =
    let on : (s : ℕ) → IsReached a held s → IsReached b held s = reached_too a b held held (λ s some. omega arith) one.made in
    record {
      made = λ s reached. two.made s (on s reached) ∙ one.made s reached;
      cells = λ s reached. two.cells s (on s reached) ∙ one.cells s reached;
    }

-- a new solution, a held use and a release are frames of all uses that stay held
pub new_frame : (old new : Arena) (held : ℕ → ℕ) (s : ℕ) (made_so : Made) → AreHeld held (slots_of old) → IsNew (slots_of old) (slots_of new) s made_so
    → IsFrame held (made_of old) (made_of new)
new_frame old new held s made_so are is_new =
    record {
      made = λ t reached.
          let t_live : IsSolution (made_of old) t = reached_live old held are t reached in
          is_new.others t (λ e. let clash : true ≡ false = sym t_live ∙ ap (λ x. is_solution (made_at (made_of old) x)) e ∙ is_new.fresh in absurd (cc));
      cells = λ t reached. is_new.cells t (λ _. reached_live old held are t reached);
    }

pub used_frame : (old new : Arena) (held : ℕ → ℕ) (s : ℕ) → GainsUse (slots_of old) (slots_of new) s → IsFrame held (made_of old) (made_of new)
used_frame old new held s once =
    record {
      made = λ t reached. ap (λ ms. made_at ms t) once.same;
      cells = λ t reached. ap (λ ms. cells_of ms t) once.same;
    }

stays_live : (old new : Arena) (held : ℕ → ℕ) (s : ℕ) → AreHeld held (slots_of new) → IsReleased (slots_of old) (slots_of new) s
    → (t : ℕ) → IsReached (made_of old) held t → IsSolution (made_of new) t
stays_live old new held s are released t (root _ some positive) =
    elim (cases_Bool (is_solution (made_at (made_of new) t))) [
      | inl is ↦ is
      | inr not ↦ absurd (omega (arith, are t some, positive, new.sound.kept.unused t not))
    ]
stays_live old new held s are released t (through u _ before some x_of) =
    let u_live : IsSolution (made_of new) u = stays_live old new held s are released u before in
    closed_live new.slots.items new.free new.sound.kept u t (λ _. u_live) (subst (λ m. 0 < uses_in m t) (sym (released.made u u_live)) x_of) some

pub release_frame : (old new : Arena) (held : ℕ → ℕ) (s : ℕ) → AreHeld held (slots_of new) → IsReleased (slots_of old) (slots_of new) s
    → IsFrame held (made_of old) (made_of new)
release_frame old new held s are released =
    record {
      made = λ t reached. released.made t (stays_live old new held s are released t reached);
      cells = λ t reached. released.cells t (λ _. stays_live old new held s are released t reached);
    }

-- a sum that is not 0 has a part that is not
some_part : (f : Made → ℕ) (ms : List Made) (d : Made) → 0 < sum_by f ms → (i : ℕ) × (i < length ms) × (0 < f (get_or ms i d))
some_part f [] d positive = absurd (omega arith)
some_part f (m ∷ ms) d positive =
    elim (cases_lt 0 (f m)) [
      | inl here ↦ (0, omega arith, here)
      | inr zero_here ↦
          let (i, i_in, part) = some_part f ms d (omega (arith, positive, sum_by-cons f m ms, zero_here)) in
          (suc i, omega (arith, i_in), part)
    ]

is_without_uses : (m : Made) (s : ℕ) → is_solution m ≡ false → one_if (is_owed m) ≡ 0 → uses_in m s ≡ 0
is_without_uses (Free next) s not settled = refl
is_without_uses (Owed to next) s not settled = absurd (omega (arith, settled))
is_without_uses (Cell node rep below) s not settled = absurd (cc)
is_without_uses (Join a b) s not settled = absurd (cc)

-- a slot that owes no use and has no solution gives none
pub settled_uses : (ms : List Made) (i s : ℕ) → owed_count ms ≡ 0 → s ≢ none → is_solution (made_at ms i) ≡ false → uses_in (made_at ms i) s ≡ 0
settled_uses ms i s settled some not =
    elim (cases_lt i (length ms)) [
      | inl within ↦ is_without_uses (made_at ms i) s not (omega (arith, settled, owed_count-set ms i (Free none) within))
      | inr past ↦ ap (λ m. uses_in m s) (past_owed ms i past) ∙ one_other none s (λ e. some (sym e))
    ]

user_of : (arena : Arena) (s : ℕ) → s ≢ none → 0 < inner_uses (made_of arena) s → (u : ℕ) × IsSolution (made_of arena) u × (0 < uses_in (made_at (made_of arena) u) s)
unfolding inner_uses
user_of arena s some positive =
    let (u, u_in, part) = some_part (λ m. uses_in m s) (made_of arena) (Owed none none) positive in
    elim (cases_Bool (is_solution (made_at (made_of arena) u))) [
      | inl is ↦ (u, is, part)
      | inr not ↦ absurd (omega (arith, part, settled_uses (made_of arena) u s arena.sound.settled some not))
    ]

-- in an order what a later one was made of comes later
later_child : (ms : List Made) (order : List ℕ) → IsOrder ms order → (u s : ℕ) → Contains order u → s ≢ none → 0 < uses_in (made_at ms u) s → Contains order s
later_child ms [] ordered u s (k, k_n, e) some s_of = absurd (omega arith)
later_child ms (y ∷ rest) ordered u s found some s_of =
    elim (in_cases y rest u found) [
      | inl e ↦ in_rest y rest s (ordered.2 s some (subst (λ x. 0 < uses_in (made_at ms x) s) (sym e) s_of))
      | inr later ↦ in_rest y rest s (later_child ms rest ordered.3 u s later some s_of)
    ]

-- all solutions are reached, where those are that are not of a part of the order
all_reached : (arena : Arena) (order : List ℕ) → IsOrder (made_of arena) order
    → ((t : ℕ) → IsSolution (made_of arena) t → (Contains order t → ⊥) → IsReached (made_of arena) (held_of (slots_of arena)) t)
    → (t : ℕ) → IsSolution (made_of arena) t → IsReached (made_of arena) (held_of (slots_of arena)) t
all_reached arena [] ordered before t is = before t is (λ (k, k_n, e). absurd (omega arith))
all_reached arena (y ∷ rest) ordered before t is =
    all_reached arena rest ordered.3 now t is where
      now : (t : ℕ) → IsSolution (made_of arena) t → (Contains rest t → ⊥) → IsReached (made_of arena) (held_of (slots_of arena)) t
      now t t_is out =
          elim (cases_eq y t) [
            | inr other ↦ before t t_is (λ found. elim (in_cases y rest t found) [ inl e ↦ other e | inr later ↦ out later ])
            | inl e ↦
                let some : t ≢ none = made_some (made_of arena) (omega (arith, length-made_in arena.slots.items, arena.sound.kept.room)) t t_is in
                elim (cases_lt 0 (held_of (slots_of arena) t)) [
                  | inl positive ↦ root t some positive
                  | inr no_held ↦
                      let (u, u_is, t_of) = user_of arena t some (omega (arith, no_held, arena.sound.kept.used t t_is)) in
                      let u_out : Contains (y ∷ rest) u → ⊥ = λ found. elim (in_cases y rest u found) [
                        | inl y_u ↦ out (ordered.2 t some (subst (λ x. 0 < uses_in (made_at (made_of arena) x) t) (sym y_u) t_of))
                        | inr later ↦ out (later_child (made_of arena) rest ordered.3 u t later some t_of)
                      ] in
                      through u t (before u u_is u_out) some t_of
                ]
          ]

-- the live solutions are those that held uses reach
pub live_reached : (arena : Arena) (t : ℕ) → IsSolution (made_of arena) t → ∥ IsReached (made_of arena) (held_of (slots_of arena)) t ∥₁
live_reached arena t is =
    ∥∥₁_map arena.sound.acyclic (λ (order, orders). all_reached arena order orders.ordered (λ u u_is out. absurd (out (orders.whole u u_is))) t is)

-- lists that are the same but for what counts nothing have the same sum
sum_same : (f : Made → ℕ) (xs ys : List Made) (d : Made) → f d ≡ 0 → ((i : ℕ) → f (get_or xs i d) ≡ f (get_or ys i d)) → sum_by f xs ≡ sum_by f ys
sum_same f [] [] d nothing_is same = refl
sum_same f [] (y ∷ ys) d nothing_is same =
    omega (arith, sum_by-cons f y ys, same 0, nothing_is, sum_same f [] ys d nothing_is (λ i. same (suc i)))
sum_same f (x ∷ xs) [] d nothing_is same =
    omega (arith, sum_by-cons f x xs, same 0, nothing_is, sum_same f xs [] d nothing_is (λ i. same (suc i)))
sum_same f (x ∷ xs) (y ∷ ys) d nothing_is same =
    omega (arith, sum_by-cons f x xs, sum_by-cons f y ys, same 0, sum_same f xs ys d nothing_is (λ i. same (suc i)))

-- where callers hold the same uses and what these reach is as it was, all is as it was
module _ (old new : Arena)
    (held : (s : ℕ) → s ≢ none → held_of (slots_of new) s ≡ held_of (slots_of old) s)
    (frame : IsFrame (held_of (slots_of old)) (made_of old) (made_of new)) where
  reached_back : (t : ℕ) → IsReached (made_of new) (held_of (slots_of new)) t → IsReached (made_of old) (held_of (slots_of old)) t
  reached_back t (root _ some positive) = root t some (omega (arith, held t some, positive))
  reached_back t (through u _ first some x_of) =
      let u_old : IsReached (made_of old) (held_of (slots_of old)) u = reached_back u first in
      through u t u_old some (subst (λ m. 0 < uses_in m t) (frame.made u u_old) x_of)

  same_made : (t : ℕ) → IsSolution (made_of old) t → made_at (made_of new) t ≡ made_at (made_of old) t
  same_made t is = ∥∥₁_elim (live_reached old t is) (hlevel props) (λ reached. frame.made t reached)

  same_live : (t : ℕ) → is_solution (made_at (made_of new) t) ≡ is_solution (made_at (made_of old) t)
  same_live t =
      elim (cases_Bool (is_solution (made_at (made_of old) t))) [
        | inl is ↦ ap is_solution (same_made t is)
        | inr not ↦ elim (cases_Bool (is_solution (made_at (made_of new) t))) [
          | inr not_new ↦ not_new ∙ sym not
          | inl is_new ↦
              let was : IsSolution (made_of old) t = ∥∥₁_elim (live_reached new t is_new) (hlevel props) (λ reached.
              reached_live old (held_of (slots_of old)) (λ s some. omega arith) t (reached_back t reached)) in
              is_new ∙ sym was
        ]
      ]

  same_inner : (t : ℕ) → t ≢ none → inner_uses (made_of new) t ≡ inner_uses (made_of old) t
  unfolding inner_uses
  same_inner t some =
      sum_same (λ m. uses_in m t) (made_of new) (made_of old) (Owed none none) (one_other none t (λ e. some (sym e)))
      (λ i. elim (cases_Bool (is_solution (made_at (made_of old) i))) [
        | inl is ↦ ap (λ m. uses_in m t) (same_made i is)
        | inr not ↦ settled_uses (made_of new) i t new.sound.settled some (same_live i ∙ not) ∙ sym (settled_uses (made_of old) i t old.sound.settled some not)
      ])

  same_count : live_count (made_of new) ≡ live_count (made_of old)
  unfolding live_count
  same_count = sum_same (λ m. one_if (is_solution m)) (made_of new) (made_of old) (Owed none none) refl (λ i. ap one_if (same_live i))

  pub restored : IsRestored (slots_of old) (slots_of new)
  restored =
      record {
        live = same_live;
        made = same_made;
        cells = λ t is. ∥∥₁_elim (live_reached old t is) (hlevel props) (λ reached. frame.cells t reached);
        uses = λ t some. omega (arith, held t some, same_inner t some, old.sound.kept.counted t some, new.sound.kept.counted t some);
        count = same_count;
      }

-- a solution with a held use is live
pub held_live : (arena : Arena) (s : ℕ) → s ≢ none → 0 < held_of (slots_of arena) s → IsSolution (made_of arena) s
held_live arena s some positive =
    reached_live arena (held_of (slots_of arena)) (λ t _. omega arith) s (root s some positive)
