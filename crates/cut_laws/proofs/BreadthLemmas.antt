-- A search in breadth from 0, where each number is the child of at most one, which is smaller: after n turns at the
-- latest it has found all numbers below n that it reaches, each once.
use Rattle.std.proofs.Common.{◌≡◌, ◌≢◌, ◌⊎◌, ℕ, zero, suc, ◌-◌, ◌<◌, ◌≤◌, List, [], ◌∷◌, ◌++◌, refl, sym, ap, ◌∙◌, subst, arith, inl, inr, Option, None, Some, length, get_or, All, AllPairs, Contains, slice_get}
use Rattle.std.proofs.lemmas.Bool.{cases_eq, cases_lt}
use Rattle.std.proofs.lemmas.List.{length-append, get_or_append_left, get_or-append_right}
use Rattle.std.proofs.lemmas.List.Elements.{All-nil, All-append, All-get_or, Contains-get_or, Contains-append_left, Contains-append_right, Contains-append_cases}
use Rattle.std.proofs.lemmas.Option.{none-some, same_Some, slice_get_within, slice_get-get_or, slice_get_past, get_or_from_slice_get}
use Rattle.rc_tree.proofs.PigeonholeLemmas.{each_hit}

abbrev pub differ : ℕ → ℕ → Type 0
differ a b = a ≢ b

-- the children of a number, if there is one
unfoldable pub children_of : (ℕ → List ℕ) → Option ℕ → List ℕ
children_of children None = []
children_of children (Some v) = children v

-- the numbers found after k turns
unfoldable pub found : (ℕ → List ℕ) → ℕ → List ℕ
found children zero = 0 ∷ []
found children (suc k) = found children k ++ children_of children (slice_get (found children k) k)

-- what the turn k adds
abbrev pub added : (ℕ → List ℕ) → ℕ → List ℕ
added children k = children_of children (slice_get (found children k) k)

-- P holds at 0, and where it holds also at the children: these are greater, have one parent each, and all are below n
pub record AreChildren (children : ℕ → List ℕ) (P : ℕ → Type 0) (n : ℕ) : Type 0 where
  pub start : P 0
  pub within : (v : ℕ) → P v → v < n
  pub goes : (v h : ℕ) → P v → Contains (children v) h → P h
  pub later : (v h : ℕ) → P v → Contains (children v) h → v < h
  pub one : (v u h : ℕ) → P v → P u → Contains (children v) h → Contains (children u) h → v ≡ u
  pub once : (v : ℕ) → P v → AllPairs differ (children v)

-- what stands in a list stands at the same place when more follows
pub kept : {X : Type 0} (xs ys : List X) (j : ℕ) (x : X) → slice_get xs j ≡ Some x → slice_get (xs ++ ys) j ≡ Some x
kept [] ys j x e = absurd (none-some x e)
kept (y ∷ xs) ys zero x e = e
kept (y ∷ xs) ys (suc j) x e = kept xs ys j x e

pub at_some : (P : ℕ → Type 0) (xs : List ℕ) (j x : ℕ) → All P xs → slice_get xs j ≡ Some x → P x
at_some P xs j x all e = subst P (get_or_from_slice_get xs j x 0 e) (All-get_or P xs j 0 (slice_get_within xs j x e) all)

-- two lists without repetitions that share nothing have none together
pub pairs_append : (xs ys : List ℕ) → AllPairs differ xs → AllPairs differ ys → ((h : ℕ) → Contains xs h → Contains ys h → ⊥) → AllPairs differ (xs ++ ys)
pairs_append xs ys left right cross i j d i_j j_n same =
    elim (cases_lt j (length xs)) [
      | inl j_xs ↦ left i j d i_j j_xs (sym (get_or_append_left xs ys d i (omega arith)) ∙ same ∙ get_or_append_left xs ys d j j_xs)
      | inr j_ys ↦
          let j_l : j - length xs < length ys = omega (arith, length-append xs ys) in
          let at_j : get_or (xs ++ ys) j d ≡ get_or ys (j - length xs) d = get_or-append_right xs ys (length xs) j d refl j_ys in
          elim (cases_lt i (length xs)) [
            | inl i_xs ↦
                let at_i : get_or (xs ++ ys) i d ≡ get_or xs i d = get_or_append_left xs ys d i i_xs in
                cross (get_or xs i d) (Contains-get_or xs i d i_xs)
                (subst (Contains ys) (sym at_j ∙ sym same ∙ at_i) (Contains-get_or ys (j - length xs) d j_l))
            | inr i_ys ↦
                let at_i : get_or (xs ++ ys) i d ≡ get_or ys (i - length xs) d = get_or-append_right xs ys (length xs) i d refl i_ys in
                right (i - length xs) (j - length xs) d (omega arith) j_l (sym at_i ∙ same ∙ at_j)
          ]
    ]

pub no_member : (h : ℕ) → Contains [] h → ⊥
no_member h (k, k_n, e) = absurd (omega arith)

pub found_all : (children : ℕ → List ℕ) (P : ℕ → Type 0) (n : ℕ) → AreChildren children P n → (k : ℕ) → All P (found children k)
unfolding found children_of
found_all children P n a zero = single
  where
    single : All P (0 ∷ [])
    single zero d k_n = a.start
    single (suc k) d k_n = absurd (omega arith)
found_all children P n a (suc k) =
    All-append P (found children k) (added children k) (found_all children P n a k) (more (found_all children P n a k) (slice_get (found children k) k) refl)
  where
    more : All P (found children k) → (o : Option ℕ) → slice_get (found children k) k ≡ o → All P (children_of children o)
    more all None e = All-nil P
    more all (Some x) e = λ i d i_n. a.goes x (get_or (children x) i d) (at_some P (found children k) k x all e) (Contains-get_or (children x) i d i_n)

-- where h came from
record CameFrom (children : ℕ → List ℕ) (k h j x : ℕ) : Type 0 where
  pub turn : j < k
  pub at : slice_get (found children k) j ≡ Some x
  pub child : Contains (children x) h

found_from : (children : ℕ → List ℕ) (k h : ℕ) → Contains (found children k) h → (h ≡ 0) ⊎ ((j : ℕ) × (x : ℕ) × CameFrom children k h j x)
unfolding found children_of
found_from children zero h (i, i_n, e) = inl (single i i_n e)
  where
    single : (i : ℕ) → i < 1 → get_or (0 ∷ []) i h ≡ h → h ≡ 0
    single zero i_n e = sym e
    single (suc i) i_n e = absurd (omega arith)
found_from children (suc k) h c =
    elim (Contains-append_cases (found children k) (added children k) h c) [
      | inl before ↦ elim (found_from children k h before) [
        | inl z ↦ inl z
        | inr old ↦ inr (later old)
      ]
      | inr new ↦ inr (here (slice_get (found children k) k) refl new)
    ]
  where
    later : (j : ℕ) × (x : ℕ) × CameFrom children k h j x → (j : ℕ) × (x : ℕ) × CameFrom children (suc k) h j x
    later (j, x, f) = (j, x, record { turn = omega (arith, f.turn); at = kept (found children k) (added children k) j x f.at; child = f.child })

    here : (o : Option ℕ) → slice_get (found children k) k ≡ o → Contains (children_of children o) h → (j : ℕ) × (x : ℕ) × CameFrom children (suc k) h j x
    here None e c = absurd (no_member h c)
    here (Some x) e c = (k, x, record { turn = omega arith; at = kept (found children k) (added children k) k x e; child = c })

pub found_once : (children : ℕ → List ℕ) (P : ℕ → Type 0) (n : ℕ) → AreChildren children P n → (k : ℕ) → AllPairs differ (found children k)
unfolding found children_of
found_once children P n a zero = λ i j d i_j j_n same. absurd (omega arith)
found_once children P n a (suc k) =
    pairs_append (found children k) (added children k) (found_once children P n a k)
    (right (slice_get (found children k) k) refl)
    (λ h old. apart h old (found_once children P n a k) (slice_get (found children k) k) refl)
  where
    right : (o : Option ℕ) → slice_get (found children k) k ≡ o → AllPairs differ (children_of children o)
    right None e = λ i j d i_j j_n same. absurd (omega arith)
    right (Some x) e = a.once x (at_some P (found children k) k x (found_all children P n a k) e)

    apart : (h : ℕ) → Contains (found children k) h → AllPairs differ (found children k)
        → (o : Option ℕ) → slice_get (found children k) k ≡ o → Contains (children_of children o) h → ⊥
    apart h old pairs None e new = no_member h new
    apart h old pairs (Some x) e new =
        let p_x : P x = at_some P (found children k) k x (found_all children P n a k) e in
        elim (found_from children k h old) [
          | inl z ↦ absurd (omega (arith, a.later x h p_x new))
          | inr (j, y, f) ↦
              let y_x : y ≡ x = a.one y x h (at_some P (found children k) j y (found_all children P n a k) f.at) p_x f.child new in
              pairs j k 0 f.turn (slice_get_within (found children k) k x e)
              (get_or_from_slice_get (found children k) j y 0 f.at ∙ y_x ∙ sym (get_or_from_slice_get (found children k) k x 0 e))
        ]

-- what had its turn has its children there
found_done : (children : ℕ → List ℕ) (k j x h : ℕ) → j < k → slice_get (found children k) j ≡ Some x → Contains (children x) h → Contains (found children k) h
unfolding found children_of
found_done children zero j x h j_k at child = absurd (omega arith)
found_done children (suc k) j x h j_k at child = either (λ j_k at. found_done children k j x h j_k at child) (slice_get (found children k) j) refl
  where
    either : (j < k → slice_get (found children k) j ≡ Some x → Contains (found children k) h)
        → (o : Option ℕ) → slice_get (found children k) j ≡ o → Contains (found children k ++ added children k) h
    either before (Some y) e =
        let same : y ≡ x = same_Some y x (sym (kept (found children k) (added children k) j y e) ∙ at) in
        elim (cases_eq j k) [
          | inl last ↦
              Contains-append_right (found children k) (added children k) h
              (subst (λ o. Contains (children_of children o) h) (sym (ap (slice_get (found children k)) (sym last) ∙ e ∙ ap (λ z. Some z) same)) child)
          | inr old ↦
              Contains-append_left (found children k) (added children k) h
              (before (omega arith) (e ∙ ap (λ z. Some z) same))
        ]
    either before None e = absurd (none-some x (sym past ∙ at))
      where
        low : length (found children k) ≤ j
        low =
            elim (cases_lt j (length (found children k))) [
              | inl in_it ↦ absurd (none-some (get_or (found children k) j 0) (sym e ∙ slice_get-get_or (found children k) j 0 in_it))
              | inr out ↦ out
            ]

        none : added children k ≡ []
        none = ap (children_of children) (slice_get_past (found children k) k (omega (arith, low)))

        past : slice_get (found children k ++ added children k) j ≡ None
        past =
            slice_get_past (found children k ++ added children k) j
            (omega (arith, low, length-append (found children k) (added children k), ap {B = ℕ} (λ (xs : List ℕ). length xs) none))

-- no more than n are found
pub found_short : (children : ℕ → List ℕ) (P : ℕ → Type 0) (n : ℕ) → AreChildren children P n → (k : ℕ) → length (found children k) ≤ n
found_short children P n a k =
    elim (cases_lt n (length (found children k))) [
      | inr small ↦ small
      | inl large ↦
          let (i, i_n, same) = each_hit n (λ i. get_or (found children k) i 0)
          (λ i i_n. low i (omega arith))
          (λ i j i_j j_n. found_once children P n a k i j 0 i_j (omega arith))
          (get_or (found children k) n 0) (low n large) in
          absurd (found_once children P n a k i n 0 i_n large same)
    ]
  where
    low : (i : ℕ) → i < length (found children k) → get_or (found children k) i 0 < n
    low i i_m = a.within (get_or (found children k) i 0) (All-get_or P (found children k) i 0 i_m (found_all children P n a k))

found_first : (children : ℕ → List ℕ) (k : ℕ) → Contains (found children k) 0
unfolding found
found_first children zero = (0, omega arith, refl)
found_first children (suc k) = Contains-append_left (found children k) (added children k) 0 (found_first children k)

-- whatever has a parent, up to 0, is found in the end
pub found_covers : (children : ℕ → List ℕ) (P : ℕ → Type 0) (n : ℕ) → AreChildren children P n
    → ((h : ℕ) → P h → 0 < h → (v : ℕ) × P v × (v < h) × Contains (children v) h)
    → (h : ℕ) → P h → Contains (found children n) h
found_covers children P n a above h p_h = up_to h h (omega arith) p_h
  where
    next : (h v : ℕ) → Contains (children v) h → Contains (found children n) v → Contains (found children n) h
    next h v child (j, j_n, e) =
        found_done children n j v h (omega (arith, found_short children P n a n)) (slice_get-get_or (found children n) j v j_n ∙ ap (λ z. Some z) e) child

    up_to : (k h : ℕ) → h ≤ k → P h → Contains (found children n) h
    up_to zero h h_k p_h = let z : h ≡ 0 = omega arith in subst (Contains (found children n)) (sym z) (found_first children n)
    up_to (suc k) h h_k p_h =
        elim (cases_eq h 0) [
          | inl z ↦ subst (Contains (found children n)) (sym z) (found_first children n)
          | inr some ↦
              let (v, p_v, v_h, child) = above h p_h (omega arith) in
              next h v child (up_to k v (omega arith) p_v)
        ]
