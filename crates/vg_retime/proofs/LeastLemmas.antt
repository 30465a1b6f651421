-- The least of what is left at sinks.
use Rattle.std.proofs.Common.{◌≡◌, ◌⊎◌, ℕ, zero, suc, ◌+◌, ◌<◌, ◌≤◌, List, [], ◌∷◌, length, get_or, refl, sym, ap, ◌∙◌, subst, arith, inl, inr, All, Contains, Option, Some, None, ℤ, pos, ◌-ℤ◌, ◌+ℤ◌, ◌≤ℤ◌}
use Rattle.std.specs.List.{cons_option, filter_map, flat_map}
use Rattle.std.proofs.lemmas.Bool.{cases_lt}
use Rattle.std.proofs.lemmas.Int.{ints}
use Rattle.std.proofs.lemmas.List.{get_or_past}
use Rattle.std.proofs.lemmas.List.Elements.{All-contains, Contains-append_left, Contains-append_right, Contains-append_cases}
use Rattle.std.proofs.lemmas.List.FromFn.{get_or-range_with_len, length-range_with_len}
use Rattle.elmore.specs.Path.{nodes as node_numbers}
use Rattle.elmore.specs.declared.parts.Driver.{Driver}
use Rattle.elmore.specs.declared.parts.Sink.{Sink}
use Rattle.cut_laws.specs.Walks.{End, nothing, sink, passes, Signal, TimedNet, end_at, late_at, start_of, IsRetimed, IsWalk, Meets}
use Rattle.vg_retime.specs.Times.{left_by, lefts_in, lefts_of, IsLeastOf}

-- ---- members of lists

module _ {X : Type 0} where
  pub none_in : (x : X) → Contains [] x → ⊥
  none_in x (k, low, e) = absurd (omega arith)

  pub first_in : (x : X) (xs : List X) → Contains (x ∷ xs) x
  first_in x xs = (0, omega arith, refl)

  pub later_in : (y : X) (xs : List X) (x : X) → Contains xs x → Contains (y ∷ xs) x
  later_in y xs x (k, low, e) = (suc k, omega arith, e)

  pub first_or_later : (y : X) (xs : List X) (x : X) → Contains (y ∷ xs) x → (x ≡ y) ⊎ Contains xs x
  first_or_later y xs x (k, low, e) = at k low e
    where
      at : (k : ℕ) → k < suc (length xs) → get_or (y ∷ xs) k x ≡ x → (x ≡ y) ⊎ Contains xs x
      at zero low e = inl (sym e)
      at (suc k) low e = inr (k, omega arith, e)

module _ {X Y : Type 0} where
  pub in_flat : (f : X → List Y) (xs : List X) (x : X) (y : Y) → Contains xs x → Contains (f x) y → Contains (flat_map f xs) y
  in_flat f [] x y c here = absurd (none_in x c)
  in_flat f (z ∷ xs) x y c here =
      elim (first_or_later z xs x c) [
        | inl e ↦ Contains-append_left (f z) (flat_map f xs) y (subst (λ (v : X). Contains (f v) y) e here)
        | inr later ↦ Contains-append_right (f z) (flat_map f xs) y (in_flat f xs x y later here)
      ]

  pub from_flat : (f : X → List Y) (xs : List X) (y : Y) → Contains (flat_map f xs) y → (x : X) × Contains xs x × Contains (f x) y
  from_flat f [] y c = absurd (none_in y c)
  from_flat f (z ∷ xs) y c =
      elim (Contains-append_cases (f z) (flat_map f xs) y c) [
        | inl here ↦ (z, first_in z xs, here)
        | inr there ↦ (let (x, in_xs, here) = from_flat f xs y there in (x, later_in z xs x in_xs, here))
      ]

  pub in_some : (h : X → Option Y) (xs : List X) (x : X) (y : Y) → Contains xs x → h x ≡ Some y → Contains (filter_map h xs) y
  in_some h [] x y c e = absurd (none_in x c)
  in_some h (z ∷ xs) x y c e =
      elim (first_or_later z xs x c) [
        | inl same ↦
            subst (λ (o : Option Y). Contains (cons_option o (filter_map h xs)) y) (sym (ap h (sym same) ∙ e)) (first_in y (filter_map h xs))
        | inr later ↦ behind (h z) (in_some h xs x y later e)
      ]
    where
      behind : (o : Option Y) → Contains (filter_map h xs) y → Contains (cons_option o (filter_map h xs)) y
      behind None c = c
      behind (Some v) c = later_in v (filter_map h xs) y c

  pub from_some : (h : X → Option Y) (xs : List X) (y : Y) → Contains (filter_map h xs) y → (x : X) × Contains xs x × (h x ≡ Some y)
  from_some h [] y c = absurd (none_in y c)
  from_some h (z ∷ xs) y c = by_head (h z) refl (from_some h xs y) c
    where
      later : (x : X) × Contains xs x × (h x ≡ Some y) → (x : X) × Contains (z ∷ xs) x × (h x ≡ Some y)
      later (x, in_xs, e) = (x, later_in z xs x in_xs, e)

      by_head : (o : Option Y) → h z ≡ o → (Contains (filter_map h xs) y → (x : X) × Contains xs x × (h x ≡ Some y))
          → Contains (cons_option o (filter_map h xs)) y → (x : X) × Contains (z ∷ xs) x × (h x ≡ Some y)
      by_head None e rest c = later (rest c)
      by_head (Some v) e rest c =
          elim (first_or_later v (filter_map h xs) y c) [
            | inl same ↦ (z, first_in z xs, e ∙ ap (λ x. Some x) (sym same))
            | inr there ↦ later (rest there)
          ]

-- ---- sinks

left_sink : (end : End) (late : ℕ) (goal : Sink) → end ≡ sink goal → left_by end late ≡ Some (goal.required -ℤ pos late)
left_sink end late goal e = ap (λ (x : End). left_by x late) e

-- where something is left, there is a sink
sink_left : (end : End) (late : ℕ) (x : ℤ) → left_by end late ≡ Some x → (goal : Sink) × (end ≡ sink goal) × (x ≡ goal.required -ℤ pos late)
sink_left nothing late x e = absurd (cc)
sink_left (sink goal) late x e = (goal, refl, (cc))
sink_left (passes rep next) late x e = absurd (cc)

sink_within : (net : TimedNet) (w : ℕ) (goal : Sink) → end_at net w ≡ sink goal → w < length net.ends
sink_within net w goal e =
    elim (cases_lt w (length net.ends)) [
      | inl low ↦ low
      | inr high ↦ (let past : end_at net w ≡ nothing = get_or_past net.ends w nothing high in absurd (cc))
    ]

module _ (nets : ℕ → TimedNet) (signals : List Signal) where
  -- what a sink has left that a signal comes to
  pub met_left : All (λ s. length (nets s.net).ends ≤ length (nets s.net).tree) signals → (s : Signal) (w : ℕ) (goal : Sink) → Meets nets signals s w goal
      → Contains (lefts_of nets signals) (goal.required -ℤ pos (late_at (nets s.net) s w))
  met_left few s w goal m =
      let low = sink_within (nets s.net) w goal m.here in
      let size = All-contains (λ (t : Signal). length (nets t.net).ends ≤ length (nets t.net).tree) signals s few m.come in
      let inside : w < length (nets s.net).tree = omega (arith, low, size) in
      let number : Contains (node_numbers (length (nets s.net).tree)) w =
      (w, subst (λ (n : ℕ). w < n) (sym (length-range_with_len 0 (length (nets s.net).tree))) inside, get_or-range_with_len 0 (length (nets s.net).tree) w w inside ∙ (let zero_plus : 0 + w ≡ w = omega arith in zero_plus)) in
      in_flat (λ (t : Signal). lefts_in (nets t.net) t) signals s (goal.required -ℤ pos (late_at (nets s.net) s w)) m.come
      (in_some (λ (v : ℕ). left_by (end_at (nets s.net) v) (late_at (nets s.net) s v)) (node_numbers (length (nets s.net).tree)) w (goal.required -ℤ pos (late_at (nets s.net) s w)) number
      (left_sink (end_at (nets s.net) w) (late_at (nets s.net) s w) goal m.here))

  -- and what is left was left at a sink
  pub left_met : (x : ℤ) → Contains (lefts_of nets signals) x
      → (s : Signal) × (w : ℕ) × (goal : Sink) × Meets nets signals s w goal × (x ≡ goal.required -ℤ pos (late_at (nets s.net) s w))
  left_met x c =
      let (s, come, here) = from_flat (λ (t : Signal). lefts_in (nets t.net) t) signals x c in
      let (w, number, e) = from_some (λ (v : ℕ). left_by (end_at (nets s.net) v) (late_at (nets s.net) s v)) (node_numbers (length (nets s.net).tree)) x here in
      let (goal, end, left) = sink_left (end_at (nets s.net) w) (late_at (nets s.net) s w) x e in
      (s, w, goal, record { come = come; here = end }, left)

  -- where nothing is left, no sink was met
  pub none_met : All (λ s. length (nets s.net).ends ≤ length (nets s.net).tree) signals → lefts_of nets signals ≡ [] → (s : Signal) (w : ℕ) (goal : Sink)
      → Meets nets signals s w goal → ⊥
  none_met few none s w goal m =
      none_in (goal.required -ℤ pos (late_at (nets s.net) s w))
      (subst (λ (xs : List ℤ). Contains xs (goal.required -ℤ pos (late_at (nets s.net) s w))) none (met_left few s w goal m))

-- the slack is the least that is left, less the first driver's arrival and delay
pub least_slack : (nets : ℕ → TimedNet) (first : ℕ) (driver : Driver) (signals : List Signal) → IsWalk nets (start_of first driver) signals
    → All (λ s. length (nets s.net).ends ≤ length (nets s.net).tree) signals → (x : ℤ) → IsLeastOf (lefts_of nets signals) (Some x)
    → IsRetimed nets first driver (x -ℤ driver.arrival -ℤ driver.k)
least_slack nets first driver signals walk few x (has, all) = record {
  signals = signals;
  walk = walk;
  least = λ s w goal m. less x (goal.required) (late_at (nets s.net) s w)
      (All-contains (λ y. x ≤ℤ y) (lefts_of nets signals) (goal.required -ℤ pos (late_at (nets s.net) s w)) all (met_left nets signals few s w goal m));
  met = (let (s, w, goal, m, e) = left_met nets signals x has in (s, w, goal, m, same x goal.required (late_at (nets s.net) s w) e));
}
  where
    less : (x required : ℤ) (late : ℕ) → x ≤ℤ (required -ℤ pos late) → (x -ℤ driver.arrival -ℤ driver.k) ≤ℤ (required -ℤ driver.arrival -ℤ (driver.k +ℤ pos late))
    less x required late h = omega (arith, ints)

    same : (x required : ℤ) (late : ℕ) → x ≡ required -ℤ pos late → (x -ℤ driver.arrival -ℤ driver.k) ≡ (required -ℤ driver.arrival -ℤ (driver.k +ℤ pos late))
    same x required late e = omega (arith, ints)
