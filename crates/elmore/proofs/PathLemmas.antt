-- A path by its lowest step: each word of `Path` at w, from itself at the parent of w.
use Rattle.std.proofs.Common.{◌≡◌, ℕ, zero, suc, ◌<◌, ◌≤◌, ◌≢◌, true, false, not, List, [], ◌∷◌, refl, sym, ap, ◌∙◌, eqb, arith, subst, inl, inr}
use Rattle.std.proofs.lemmas.Bool.{eq-eqb, ne_eqb, cases_eq, cond-true, false≢true}
use Rattle.std.proofs.lemmas.List.Sums.{take_while-cons}
use Rattle.std.specs.List.{take_while}
use Rattle.elmore.specs.Path.{Falls, climb, path, is_over, way}

-- one more step, at a root and below one
climb_at_root : (parent : ℕ → ℕ) (k w : ℕ) → parent w ≡ w → climb parent (suc k) w ≡ w ∷ []
unfolding climb
climb_at_root parent k w root = rw (eq-eqb (parent w) w root) refl

climb_below : (parent : ℕ → ℕ) (k w : ℕ) → parent w ≢ w → climb parent (suc k) w ≡ w ∷ climb parent k (parent w)
unfolding climb
climb_below parent k w below = rw (ne_eqb (parent w) w below) refl

climb_none : (parent : ℕ → ℕ) (w : ℕ) → climb parent zero w ≡ w ∷ []
unfolding climb
climb_none parent w = refl

-- any number of steps from w on gives the whole path
climb_enough : (parent : ℕ → ℕ) → Falls parent → (k j w : ℕ) → w ≤ k → w ≤ j → climb parent k w ≡ climb parent j w
climb_enough parent falls zero zero w wk wj = refl
climb_enough parent falls zero (suc j) w wk wj =
    let root : parent w ≡ w = omega (arith, falls w) in
    climb_none parent w ∙ sym (climb_at_root parent j w root)
climb_enough parent falls (suc k) zero w wk wj =
    let root : parent w ≡ w = omega (arith, falls w) in
    climb_at_root parent k w root ∙ sym (climb_none parent w)
climb_enough parent falls (suc k) (suc j) w wk wj =
    elim (cases_eq (parent w) w) [
      | inl root ↦ climb_at_root parent k w root ∙ sym (climb_at_root parent j w root)
      | inr below ↦
          climb_below parent k w below
          ∙ ap (λ (xs : List ℕ). w ∷ xs) (climb_enough parent falls k j (parent w) (omega (arith, falls w)) (omega (arith, falls w)))
          ∙ sym (climb_below parent j w below)
    ]

pub path_at_root : (parent : ℕ → ℕ) → Falls parent → (w : ℕ) → parent w ≡ w → path parent w ≡ w ∷ []
unfolding path
path_at_root parent falls w root =
    climb_enough parent falls w (suc w) w (omega arith) (omega arith) ∙ climb_at_root parent w w root

pub path_below : (parent : ℕ → ℕ) → Falls parent → (w : ℕ) → parent w ≢ w → path parent w ≡ w ∷ path parent (parent w)
unfolding path
path_below parent falls w below =
    climb_enough parent falls w (suc w) w (omega arith) (omega arith)
    ∙ climb_below parent w w below
    ∙ ap (λ (xs : List ℕ). w ∷ xs) (climb_enough parent falls w (parent w) (parent w) (falls w) (omega arith))

-- induction upward: a node by its parent, unless it is a root
pub upward : (parent : ℕ → ℕ) → Falls parent → (P : ℕ → Type 0) → ((w : ℕ) → (parent w ≢ w → P (parent w)) → P w) → (w : ℕ) → P w
upward parent falls P step w = up_to w w (omega arith)
  where
    up_to : (k u : ℕ) → u ≤ k → P u
    up_to zero u u_k = step u (λ below. absurd (omega (arith, falls u)))
    up_to (suc k) u u_k = step u (λ below. up_to k (parent u) (omega (arith, falls u)))

-- v is over itself, not over another root, and over any other node as it is over that node's parent
pub over_self : (parent : ℕ → ℕ) → Falls parent → (v : ℕ) → is_over parent v v ≡ true
unfolding is_over
over_self parent falls v =
    elim (cases_eq (parent v) v) [
      | inl root ↦ simp (path_at_root parent falls v root, eq-eqb v v refl)
      | inr below ↦ simp (path_below parent falls v below, eq-eqb v v refl)
    ]

pub over_at_root : (parent : ℕ → ℕ) → Falls parent → (v w : ℕ) → parent w ≡ w → w ≢ v → is_over parent v w ≡ false
unfolding is_over
over_at_root parent falls v w root other = simp (path_at_root parent falls w root, ne_eqb w v other)

pub over_below : (parent : ℕ → ℕ) → Falls parent → (v w : ℕ) → parent w ≢ w → w ≢ v → is_over parent v w ≡ is_over parent v (parent w)
unfolding is_over
over_below parent falls v w below other = simp (path_below parent falls w below, ne_eqb w v other)

pub way_self : (parent : ℕ → ℕ) → Falls parent → (v : ℕ) → way parent v v ≡ []
unfolding way
way_self parent falls v =
    elim (cases_eq (parent v) v) [
      | inl root ↦ simp (path_at_root parent falls v root, eq-eqb v v refl)
      | inr below ↦ simp (path_below parent falls v below, eq-eqb v v refl)
    ]

pub way_below : (parent : ℕ → ℕ) → Falls parent → (v w : ℕ) → parent w ≢ w → w ≢ v → way parent v w ≡ w ∷ way parent v (parent w)
unfolding way
way_below parent falls v w below other =
    ap (take_while (λ (u : ℕ). not (eqb u v))) (path_below parent falls w below)
    ∙ take_while-cons (λ (u : ℕ). not (eqb u v)) w (path parent (parent w))
    ∙ cond-true (not (eqb w v)) (w ∷ take_while (λ (u : ℕ). not (eqb u v)) (path parent (parent w))) []
    (simp (ne_eqb w v other))

-- no node is over a smaller one
pub over_smaller : (parent : ℕ → ℕ) → Falls parent → (v w : ℕ) → w < v → is_over parent v w ≡ false
over_smaller parent falls v w =
    upward parent falls (λ u. u < v → is_over parent v u ≡ false)
    (λ u more u_v.
    elim (cases_eq (parent u) u) [
      | inl root ↦ over_at_root parent falls v u root (λ e. omega arith)
      | inr below ↦ over_below parent falls v u below (λ e. omega arith) ∙ more below (omega (arith, falls u))
    ])
    w

-- induction on the path of w down from v
pub down : (parent : ℕ → ℕ) → Falls parent → (P : ℕ → Type 0) (v : ℕ)
    → P v
    → ((w : ℕ) → w ≢ v → parent w ≡ w → P w)
    → ((w : ℕ) → w ≢ v → parent w ≢ w → P (parent w) → P w)
    → (w : ℕ) → P w
down parent falls P v self root below =
    upward parent falls P (λ w more.
    elim (cases_eq w v) [
      | inl e ↦ subst P (sym e) self
      | inr w_v ↦ elim (cases_eq (parent w) w) [
        | inl r ↦ root w w_v r
        | inr b ↦ below w w_v b (more b)
      ]
    ])

-- and on that of a node that v is over
pub under : (parent : ℕ → ℕ) → Falls parent → (P : ℕ → Type 0) (v : ℕ)
    → P v
    → ((w : ℕ) → w ≢ v → parent w ≢ w → is_over parent v w ≡ true → is_over parent v (parent w) ≡ true → P (parent w) → P w)
    → (w : ℕ) → is_over parent v w ≡ true → P w
under parent falls P v self below =
    down parent falls (λ w. is_over parent v w ≡ true → P w) v
    (λ _. self)
    (λ w w_v r over. absurd (false≢true (sym (over_at_root parent falls v w r w_v) ∙ over)))
    (λ w w_v b more over.
    let over_above : is_over parent v (parent w) ≡ true = sym (over_below parent falls v w b w_v) ∙ over in
    below w w_v b over over_above (more over_above))

pub over_le : (parent : ℕ → ℕ) → Falls parent → (v w : ℕ) → is_over parent v w ≡ true → v ≤ w
over_le parent falls v = under parent falls (λ w. v ≤ w) v (omega arith) (λ w w_v b _ _ more. omega (arith, more, falls w))

pub over_trans : (parent : ℕ → ℕ) → Falls parent → (v u w : ℕ) → is_over parent v u ≡ true → is_over parent u w ≡ true → is_over parent v w ≡ true
over_trans parent falls v u w v_u =
    under parent falls (λ x. is_over parent v x ≡ true) u v_u
    (λ x x_u b under_u above more.
    let other : x ≢ v = λ e. x_u (omega (arith, over_le parent falls v u v_u, over_le parent falls u x under_u)) in
    over_below parent falls v x b other ∙ more)
    w

-- v is over no other node that is its own parent
pub below_other : (parent : ℕ → ℕ) → Falls parent → (v w : ℕ) → is_over parent v w ≡ true → w ≢ v → parent w ≢ w
below_other parent falls v w over w_v root = false≢true (sym (over_at_root parent falls v w root w_v) ∙ over)

-- two roots have nothing below them in common
pub over_apart : (parent : ℕ → ℕ) → Falls parent → (p i : ℕ) → p ≢ i → parent p ≡ p → parent i ≡ i
    → (w : ℕ) → is_over parent p w ≡ true → is_over parent i w ≡ false
over_apart parent falls p i p_i p_root i_root =
    under parent falls (λ w. is_over parent i w ≡ false) p (over_at_root parent falls i p p_root p_i)
    (λ w w_p b _ _ more.
    let w_i : w ≢ i = λ e. b (ap parent e ∙ i_root ∙ sym e) in
    over_below parent falls i w b w_i ∙ more)
