-- The nets decide the walk over them.
use Rattle.std.proofs.Common.{◌≡◌, ℕ, zero, suc, ◌≤◌, ◌<◌, List, [], ◌∷◌, ◌++◌, refl, get_or, All, Contains, sym, ap, ◌∙◌, subst, arith, inl, inr, Option, None, length, slice_get, ℤ, ◌≤ℤ◌, Some}
use Rattle.std.proofs.lemmas.Bool.{cases_eq, cases_lt}
use Rattle.std.proofs.lemmas.Int.{ints}
use Rattle.std.proofs.lemmas.List.{append-nil, append_assoc, length-append, get_or_at, get_or_append_left, get_or_default}
use Rattle.std.proofs.lemmas.List.Elements.{All-contains, Contains-append_left}
use Rattle.std.proofs.lemmas.Option.{slice_get_past, slice_get_within, get_or_from_slice_get}
use Rattle.elmore.specs.declared.parts.Driver.{Driver}
use Rattle.cut_laws.specs.Walks.{TimedNet, Signal, passed_on, passed_on_by, reached, start_of, IsWalk, IsStopped, Meets, IsRetimed}

-- once each signal was passed on, no more come
reached_stay : (nets : ℕ → TimedNet) (start : Signal) (k m : ℕ) → k ≤ m → length (reached nets start k) ≤ k → reached nets start m ≡ reached nets start k
unfolding reached
reached_stay nets start k zero k_m ended = let e : 0 ≡ k = omega arith in ap (reached nets start) e
reached_stay nets start k (suc m) k_m ended =
    elim (cases_eq k (suc m)) [
      | inl e ↦ ap (reached nets start) (sym e)
      | inr less ↦
          let before : reached nets start m ≡ reached nets start k = reached_stay nets start k m (omega arith) ended in
          let past : slice_get (reached nets start m) m ≡ None =
          slice_get_past (reached nets start m) m (omega (arith, ap {B = ℕ} (λ (xs : List Signal). length xs) before)) in
          ap (λ (o : Option Signal). reached nets start m ++ passed_on_by nets o) past
          ∙ append-nil (reached nets start m)
          ∙ before
    ]

pub one_walk : (nets : ℕ → TimedNet) (start : Signal) (signals others : List Signal) → IsWalk nets start signals → IsWalk nets start others → signals ≡ others
one_walk nets start signals others a b =
    elim (cases_lt a.k b.k) [
      | inl low ↦
          a.come
          ∙ sym (reached_stay nets start a.k b.k (omega arith) (omega (arith, a.ended, ap {B = ℕ} (λ (xs : List Signal). length xs) a.come)))
          ∙ sym b.come
      | inr high ↦
          a.come
          ∙ reached_stay nets start b.k a.k high (omega (arith, b.ended, ap {B = ℕ} (λ (xs : List Signal). length xs) b.come))
          ∙ sym b.come
    ]

pub one_retiming : (nets : ℕ → TimedNet) (first : ℕ) (driver : Driver) (x y : ℤ) → IsRetimed nets first driver x → IsRetimed nets first driver y → x ≡ y
one_retiming nets first driver x y a b =
    let same : a.signals ≡ b.signals = one_walk nets (start_of first driver) a.signals b.signals a.walk b.walk in
    let (s, w, goal, m, x_is) = a.met in
    let (t, u, aim, l, y_is) = b.met in
    let y_x : y ≤ℤ x = subst (λ (z : ℤ). y ≤ℤ z) (sym x_is) (b.least s w goal (subst (λ (xs : List Signal). Meets nets xs s w goal) same m)) in
    let x_y : x ≤ℤ y = subst (λ (z : ℤ). x ≤ℤ z) (sym y_is) (a.least t u aim (subst (λ (xs : List Signal). Meets nets xs t u aim) (sym same) l)) in
    omega (arith, ints)

-- what was reached stays first
pub reached_grow : (nets : ℕ → TimedNet) (start : Signal) (k m : ℕ) → k ≤ m → (more : List Signal) × (reached nets start m ≡ reached nets start k ++ more)
unfolding reached
reached_grow nets start k zero k_m =
    let e : 0 ≡ k = omega arith in ([], ap (reached nets start) e ∙ sym (append-nil (reached nets start k)))
reached_grow nets start k (suc m) k_m =
    elim (cases_eq k (suc m)) [
      | inl e ↦ ([], ap (reached nets start) (sym e) ∙ sym (append-nil (reached nets start k)))
      | inr less ↦
          let (more, e) = reached_grow nets start k m (omega arith) in (
            more ++ passed_on_by nets (slice_get (reached nets start m) m),
            ap (λ (xs : List Signal). xs ++ passed_on_by nets (slice_get (reached nets start m) m)) e
                ∙ append_assoc (reached nets start k) more (passed_on_by nets (slice_get (reached nets start m) m)),
          )
    ]

-- a walk over accepted nets stops nowhere
pub walks_go_on : (nets : ℕ → TimedNet) (Accepted : ℕ → Type 0) (start : Signal) (signals : List Signal) (s : Signal) → IsWalk nets start signals
    → All (λ t. Accepted t.net) signals → IsStopped nets Accepted start s → ⊥
walks_go_on nets Accepted start signals s walk all stop =
    let (rest, e) = parts in
    elim stop.stops [
      | inl refused ↦
          refused (All-contains (λ t. Accepted t.net) signals s all
          (subst (λ xs. Contains xs s) (sym e) (length stop.before, there rest, get_or_at stop.before s rest s (length stop.before) refl)))
      | inr (t, (i, i_n, at), same) ↦
          walk.once i (length stop.before) s i_n (subst (λ (xs : List Signal). length stop.before < length xs) (sym e) (there rest))
          (ap (λ (xs : List Signal). (get_or xs i s).net) e
          ∙ ap (λ (x : Signal). x.net) (get_or_append_left stop.before (s ∷ rest) s i i_n ∙ get_or_default stop.before i s t i_n ∙ at)
          ∙ same
          ∙ sym (ap (λ (x : Signal). x.net) (get_or_at stop.before s rest s (length stop.before) refl))
          ∙ ap (λ (xs : List Signal). (get_or xs (length stop.before) s).net) (sym e))
    ]
  where
    there : (rest : List Signal) → length stop.before < length (stop.before ++ s ∷ rest)
    there rest = omega (arith, length-append stop.before (s ∷ rest))

    parts : (rest : List Signal) × (signals ≡ stop.before ++ s ∷ rest)
    parts =
        elim (cases_lt walk.k stop.k) [
          | inl low ↦ (
            stop.later,
            walk.come
                ∙ sym (reached_stay nets start walk.k stop.k (omega arith) (omega (arith, walk.ended, ap {B = ℕ} (λ (xs : List Signal). length xs) walk.come)))
                ∙ stop.come,
          )
          | inr high ↦
              let (more, e) = reached_grow nets start stop.k walk.k high in
              (stop.later ++ more, walk.come ∙ e ∙ ap (λ (xs : List Signal). xs ++ more) stop.come ∙ append_assoc stop.before (s ∷ stop.later) more)
        ]

-- whatever was reached stands in the walk
pub in_walk : (nets : ℕ → TimedNet) (start : Signal) (signals : List Signal) → IsWalk nets start signals
    → (k : ℕ) (s : Signal) → Contains (reached nets start k) s → Contains signals s
in_walk nets start signals walk k s c =
    elim (cases_lt walk.k k) [
      | inl low ↦
          subst (λ xs. Contains xs s)
          (reached_stay nets start walk.k k (omega arith) (omega (arith, walk.ended, ap {B = ℕ} (λ (xs : List Signal). length xs) walk.come)) ∙ sym walk.come) c
      | inr high ↦
          let (more, e) = reached_grow nets start k walk.k high in
          subst (λ xs. Contains xs s) (sym (walk.come ∙ e)) (Contains-append_left (reached nets start k) more s c)
    ]

-- nets that are decided by their numbers, where a walk comes to them
pub record AreDecided (Is : ℕ → TimedNet → Type 0) (nets : ℕ → TimedNet) (signals : List Signal) : Type 0 where
  pub each : (s : Signal) → Contains signals s → Is s.net (nets s.net)

same_reached : (Is : ℕ → TimedNet → Type 0) → ((id : ℕ) (a b : TimedNet) → Is id a → Is id b → a ≡ b)
    → (nets others : ℕ → TimedNet) (start : Signal) (signals rest : List Signal) → IsWalk nets start signals → IsWalk others start rest
    → AreDecided Is nets signals → AreDecided Is others rest → (k : ℕ) → reached nets start k ≡ reached others start k
unfolding reached
same_reached Is one nets others start signals rest walk other is are zero = refl
same_reached Is one nets others start signals rest walk other is are (suc k) =
    ap (λ (xs : List Signal). xs ++ passed_on_by nets (slice_get (reached nets start k) k))
    (same_reached Is one nets others start signals rest walk other is are k)
    ∙ ap (λ (xs : List Signal). reached others start k ++ xs)
    (turn (slice_get (reached nets start k) k) refl (same_reached Is one nets others start signals rest walk other is are k)
    ∙ ap (λ (xs : List Signal). passed_on_by others (slice_get xs k)) (same_reached Is one nets others start signals rest walk other is are k))
  where
    turn : (o : Option Signal) → slice_get (reached nets start k) k ≡ o → reached nets start k ≡ reached others start k
        → passed_on_by nets (slice_get (reached nets start k) k) ≡ passed_on_by others (slice_get (reached nets start k) k)
    turn None e same = ap (passed_on_by nets) e ∙ sym (ap (passed_on_by others) e)
    turn (Some s) e same =
        let here : Contains (reached nets start k) s =
        (k, slice_get_within (reached nets start k) k s e, get_or_from_slice_get (reached nets start k) k s s e) in
        let net : nets s.net ≡ others s.net =
        one s.net (nets s.net) (others s.net)
        (is.each s (in_walk nets start signals walk k s here))
        (are.each s (in_walk others start rest other k s (subst (λ xs. Contains xs s) same here))) in
        ap (passed_on_by nets) e ∙ ap (λ (n : TimedNet). passed_on n s) net ∙ sym (ap (passed_on_by others) e)

-- so the walk is decided by what the nets are, and not by the function that gives them
pub one_walk_over : (Is : ℕ → TimedNet → Type 0) → ((id : ℕ) (a b : TimedNet) → Is id a → Is id b → a ≡ b)
    → (nets others : ℕ → TimedNet) (start : Signal) (signals rest : List Signal) → IsWalk nets start signals → IsWalk others start rest
    → AreDecided Is nets signals → AreDecided Is others rest → signals ≡ rest
one_walk_over Is one nets others start signals rest walk other is are =
    one_walk others start signals rest
    (record {
      k = walk.k;
      come = walk.come ∙ same_reached Is one nets others start signals rest walk other is are walk.k;
      ended = walk.ended;
      once = walk.once;
    })
    other
