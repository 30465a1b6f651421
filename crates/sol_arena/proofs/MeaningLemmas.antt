-- The meaning of a solution by those of what it was made of, and what leaves it as it is.
use Rattle.std.proofs.Common.{◌≡◌, ℕ, zero, suc, ◌<◌, ◌≤◌, List, [], ◌∷◌, cond, length, Option, Some, None, refl, sym, ap, ◌∙◌, arith, inl, inr, ne_eqb, subst}
use Rattle.std.proofs.lemmas.Bool.{cases_eq}
use Rattle.std.proofs.lemmas.List.{get_or_past}
use Rattle.std.specs.List.{Contains}
use Rattle.sol_arena.specs.declared.slot.Made.{Made}
use Rattle.sol_arena.specs.declared.slot.Made.TheVariants.{Free, Owed, Cell, Join}
use Rattle.sol_arena.specs.declared.slot.Slot.{Slot}
use Rattle.sol_arena.specs.Slots.{none, made_in, made_at}
use Rattle.sol_arena.specs.Uses.{uses_in}
use Rattle.sol_arena.specs.Meanings.{either_of, joined, with_own, cells_by, cells_within, cells_of, bare, AreBelow}
use Rattle.sol_arena.specs.Invariant.{IsOrder}
use Rattle.sol_arena.specs.Changes.{IsNew}
use Rattle.sol_arena.proofs.OneLemmas.{one_same, in_cases}

-- what is made so has the same cells, where what it is made of has
pub made_alike : (m : Made) (f g : ℕ → ℕ → Option ℕ) → ((x : ℕ) → 0 < uses_in m x → f x ≡ g x) → cells_by m f ≡ cells_by m g
made_alike (Free next) f g alike = refl
made_alike (Owed to next) f g alike = refl
made_alike (Cell node rep below) f g alike =
    ap (with_own node (Some rep)) (alike below (omega (arith, one_same below below refl)))
made_alike (Join a b) f g alike =
    let left : f a ≡ g a = alike a (omega (arith, one_same a a refl)) in
    let right : f b ≡ g b = alike b (omega (arith, one_same b b refl)) in
    ap (λ h. joined h (f b)) left ∙ ap (λ h. joined (g a) h) right

-- solutions in a set that is closed under what they are made of, and the same in both lists
pub cells_alike : (old new : List Made) (P : ℕ → Type 0)
    → ((s : ℕ) → P s → made_at new s ≡ made_at old s)
    → ((s x : ℕ) → P s → 0 < uses_in (made_at old s) x → P x)
    → (n s : ℕ) → P s → cells_within n new s ≡ cells_within n old s
cells_alike old new P same closed zero s s_in = refl
cells_alike old new P same closed (suc n) s s_in =
    ap (λ m. cells_by m (cells_within n new)) (same s s_in)
    ∙ made_alike (made_at old s) (cells_within n new) (cells_within n old)
    (λ x x_of. cells_alike old new P same closed n x (closed s x s_in x_of))

pub none_made : (ms : List Made) → length ms ≤ none → made_at ms none ≡ Owed none none
none_made ms room = get_or_past ms none (Owed none none) room

pub none_bare : (ms : List Made) → length ms ≤ none → (n : ℕ) → cells_within n ms none ≡ bare
none_bare ms room zero = refl
none_bare ms room (suc n) = ap (λ m. cells_by m (cells_within n ms)) (none_made ms room)

-- as many steps as solutions in the order are enough
pub steady : (ms : List Made) → length ms ≤ none → (order : List ℕ) → IsOrder ms order → (s : ℕ) → Contains order s
    → (n : ℕ) → length order ≤ n → cells_within n ms s ≡ cells_within (suc n) ms s
steady ms room [] ordered s (k, k_n, e) n enough = absurd (omega arith)
steady ms room (y ∷ rest) ordered s found zero enough = absurd (omega arith)
steady ms room (y ∷ rest) ordered s found (suc n) enough =
    elim (in_cases y rest s found) [
      | inl e ↦ made_alike (made_at ms s) (cells_within n ms) (cells_within (suc n) ms)
          (λ x x_of. elim (cases_eq x none) [
            | inl is_none ↦ ap (cells_within n ms) is_none ∙ none_bare ms room n ∙ sym (ap (cells_within (suc n) ms) is_none ∙ none_bare ms room (suc n))
            | inr some ↦
                let x_of_y : 0 < uses_in (made_at ms y) x = rw e x_of in
                steady ms room rest ordered.3 x (ordered.2 x some x_of_y) n (omega arith)
          ])
      | inr later ↦ steady ms room rest ordered.3 s later (suc n) (omega arith)
    ]

-- the nodes of what is made are below n, where those of what it is made of are
pub empty_below : (n : ℕ) (f : ℕ → Option ℕ) → ((v : ℕ) → f v ≡ None) → AreBelow n f
empty_below n f empty v x found = let clash : None ≡ Some x = sym (empty v) ∙ found in absurd (cc)

pub own_below : (n u : ℕ) (own : Option ℕ) (f : ℕ → Option ℕ) → u < n → AreBelow n f → AreBelow n (with_own u own f)
own_below n u own f within below v x found =
    elim (cases_eq v u) [
      | inl e ↦ omega (arith, e, within)
      | inr other ↦ below v x (ap (λ b. cond b own (f v)) (sym (ne_eqb v u other)) ∙ found)
    ]

pub joined_below : (n : ℕ) (f g : ℕ → Option ℕ) → AreBelow n f → AreBelow n g → AreBelow n (joined f g)
joined_below n f g f_below g_below v x found = go (f v) refl where
  go : (first : Option ℕ) → f v ≡ first → v < n
  go None e = g_below v x (ap (λ y. either_of y (g v)) (sym e) ∙ found)
  go (Some y) e = f_below v y e

pub cell_below : (old new : List Slot) (n s node rep below : ℕ) → IsNew old new s (Cell node rep below)
    → node < n → AreBelow n (cells_of (made_in old) below) → AreBelow n (cells_of (made_in new) s)
cell_below old new n s node rep below is_new within before =
    subst (AreBelow n) (sym is_new.means) (own_below n node (Some rep) (cells_of (made_in old) below) within before)

pub join_below : (old new : List Slot) (n s a b : ℕ) → IsNew old new s (Join a b)
    → AreBelow n (cells_of (made_in old) a) → AreBelow n (cells_of (made_in old) b) → AreBelow n (cells_of (made_in new) s)
join_below old new n s a b is_new a_below b_below =
    subst (AreBelow n) (sym is_new.means) (joined_below n (cells_of (made_in old) a) (cells_of (made_in old) b) a_below b_below)
