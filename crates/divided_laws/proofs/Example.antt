-- A wire of 1 Ω in two parts: the tree of three nodes is the tree of two with its edge divided.
use Rattle.std.proofs.Common.{◌≡◌, ◌≢◌, ℕ, zero, suc, ◌+◌, ◌<◌, true, false, List, [], ◌∷◌, refl, sym, arith}
use Rattle.std.proofs.lemmas.Bool.{false≢true}
use Rattle.elmore.specs.Trees.{parent_of, resistance, capacitance}
use Rattle.elmore.specs.declared.tree.Node.{Node}
use Rattle.divided_laws.specs.DividedTrees.{Chains, is_old, IsDivided}

abbrev old : List Node
old = record { parent = 0; r = 0; c = 5 } ∷ record { parent = 0; r = 1000; c = 7 } ∷ []

abbrev new : List Node
new = record { parent = 0; r = 0; c = 5 } ∷ record { parent = 0; r = 500; c = 0 }
    ∷ record { parent = 1; r = 500; c = 7 } ∷ []

abbrev at : ℕ → ℕ
at zero = 0
at (suc u) = 2

abbrev owner : ℕ → ℕ
owner zero = 0
owner (suc x) = 1

abbrev so_far : ℕ → ℕ
so_far zero = 0
so_far (suc zero) = 500
so_far (suc (suc x)) = 1000

abbrev t : Chains
t = record { at = at; owner = owner; below = λ _. 2; so_far = so_far }

two : (P : ℕ → Type 0) → P 0 → P 1 → (u : ℕ) → u < 2 → P u
two P a b zero h = a
two P a b (suc zero) h = b
two P a b (suc (suc u)) h = absurd (omega arith)

three : (P : ℕ → Type 0) → P 0 → P 1 → P 2 → (x : ℕ) → x < 3 → P x
three P a b c zero h = a
three P a b c (suc zero) h = b
three P a b c (suc (suc zero)) h = c
three P a b c (suc (suc (suc x))) h = absurd (omega arith)

divided : IsDivided old new t
divided = record {
  old_tree = record {
    some_node = omega arith;
    root = refl;
    bare_root = refl;
    smaller = λ v v_0 v_n.
        two (λ u. 0 < u → parent_of old u < u) (λ h. absurd (omega arith))
        (λ h. omega arith) v v_n v_0;
  };
  new_tree = record {
    some_node = omega arith;
    root = refl;
    bare_root = refl;
    smaller = λ v v_0 v_n.
        three (λ u. 0 < u → parent_of new u < u) (λ h. absurd (omega arith)) (λ h. omega arith)
        (λ h. omega arith) v v_n v_0;
  };
  root = refl;
  within = two (λ u. t.at u < 3) (omega arith) (omega arith);
  owned = two (λ u. t.owner (t.at u) ≡ u) refl refl;
  owners = three (λ x. t.owner x < 2) (omega arith) (omega arith) (omega arith);
  capacitances = two (λ u. capacitance new (t.at u) ≡ capacitance old u) refl refl;
  bare =
      three (λ x. is_old t x ≡ false → capacitance new x ≡ 0) (λ is. absurd (false≢true (sym is))) (λ is. refl)
      (λ is. absurd (false≢true (sym is)));
  from_old = λ x x_0 x_m.
      three (λ x. 0 < x → is_old t (parent_of new x) ≡ true → t.owner (parent_of new x) ≡ parent_of old (t.owner x))
      (λ h _. absurd (omega arith)) (λ _ _. refl) (λ _ is. absurd (false≢true is)) x x_m x_0;
  from_new = λ x x_0 x_m.
      three (λ x. 0 < x → is_old t (parent_of new x) ≡ false → t.owner (parent_of new x) ≡ t.owner x)
      (λ h _. absurd (omega arith)) (λ _ is. absurd (false≢true (sym is))) (λ _ _. refl) x x_m x_0;
  goes_on = λ x x_m is. omega arith;
  next =
      three (λ x. is_old t x ≡ false → parent_of new (t.below x) ≡ x) (λ is. absurd (false≢true (sym is)))
      (λ is. refl) (λ is. absurd (false≢true (sym is)));
  only = λ x w x_m is w_m up w_x.
      three (λ x. is_old t x ≡ false → parent_of new w ≡ x → w ≢ x → w ≡ 2)
      (λ is. absurd (false≢true (sym is)))
      (λ is. three (λ w. parent_of new w ≡ 1 → w ≢ 1 → w ≡ 2) (λ up _. absurd (omega arith))
      (λ up _. absurd (omega arith)) (λ _ _. refl) w w_m)
      (λ is. absurd (false≢true (sym is))) x x_m is up w_x;
  begins = λ x x_0 x_m.
      three (λ x. 0 < x → is_old t (parent_of new x) ≡ true → t.so_far x ≡ resistance new x)
      (λ h _. absurd (omega arith)) (λ _ _. refl) (λ _ is. absurd (false≢true is)) x x_m x_0;
  adds = λ x x_0 x_m.
      three (λ x. 0 < x → is_old t (parent_of new x) ≡ false
      → t.so_far x ≡ t.so_far (parent_of new x) + resistance new x)
      (λ h _. absurd (omega arith)) (λ _ is. absurd (false≢true (sym is))) (λ _ _. refl) x x_m x_0;
  all = λ u u_0 u_n.
      two (λ u. 0 < u → t.so_far (t.at u) ≡ resistance old u) (λ h. absurd (omega arith))
      (λ _. refl) u u_n u_0;
}
