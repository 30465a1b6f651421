-- Lists of candidates that are worked on in place, and two in one.
use Rattle.std.proofs.Common.{◌≡◌, ◌⊎◌, ℕ, zero, suc, ◌+◌, ◌-◌, ◌<◌, ◌≤◌, ◌==◌, List, [], ◌∷◌, ◌++◌, map, length, take, drop, get_or, set, slice_index_or, append_assoc, refl, sym, ap, ◌∙◌, subst, arith, inl, inr}
use Rattle.std.proofs.lemmas.Bool.{cases_lt}
use Rattle.std.proofs.lemmas.List.Edits.{map_over_more}
use Rattle.std.proofs.lemmas.List.{map-append, append-nil, length-append, length-set, get_or-drop, drop-drop, drop-set-lt, drop_all, take_more_set}
use Rattle.std.proofs.Math.Seq.{drop-cons}
use Rattle.std.proofs.lemmas.List.Elements.{Contains-append_left, Contains-append_right, Contains-append_cases, Contains-push, Contains-push_cases}
use Rattle.std.specs.List.{Contains}
use Rattle.sol_arena.specs.declared.arena.Arena.{Arena}
use Rattle.sol_arena.specs.Arenas.{slots_of, made_of}
use Rattle.sol_arena.specs.Changes.{IsReleased}
use Rattle.sol_arena.specs.Uses.{one_if}
use Rattle.cand_pairs.specs.Priced.{Priced}
use Rattle.vg_front.specs.declared.offer.Candidate.{Candidate}
use Rattle.vg_front.specs.declared.offer.Offer.{Offer}
use Rattle.vg_front.specs.declared.stairs.Stair.{Stair}
use Rattle.vg_front.specs.Offers.{priced, offers_of, IsBeaten, IsTaken, IsNext}
use Rattle.vg_front.specs.Seen.{AreReachedAt}
use Rattle.vg_front.specs.Held.{AreHeld, IsGiven, MeanTheSame, IsPruned, IsBlend, carried_offer, carried_by}
use Rattle.vg_front.proofs.SeenLemmas.{beats_self, beaten_more}
use Rattle.vg_front.proofs.OfferLemmas.{in_map}
use Rattle.vg_front.proofs.HeldLemmas.{uses, uses_cons, uses_both, given_none, given_then, given_as, given_held, released_given, beside_same, held_as}

pub beaten_among : (xs : List Candidate) (x : Candidate) → Contains xs x → IsBeaten (offers_of xs) (priced x.offer)
beaten_among xs x found = (priced x.offer, in_map (λ (y : Candidate). priced y.offer) xs x found, beats_self (priced x.offer))

pub push_candidates : (xs : List Candidate) (x : Candidate) → offers_of (xs ++ x ∷ []) ≡ offers_of xs ++ priced x.offer ∷ []
push_candidates xs x = map-append (λ (y : Candidate). priced y.offer) xs (x ∷ [])

pub any_default : {X : Type 0} (xs : List X) (n : ℕ) (d e : X) → n < length xs → get_or xs n d ≡ get_or xs n e
any_default [] n d e n_in = absurd (omega arith)
any_default (x ∷ xs) zero d e n_in = refl
any_default (x ∷ xs) (suc n) d e n_in = any_default xs n d e (omega arith)

-- PRUNING
-- of a list whose candidates before number `at` were seen, these are kept
pub record IsPruning (old : Arena) (xs : List Candidate) (at cost : ℕ) (stairs : List Stair) (zs : List Candidate) (new : Arena) : Type 0 where
  pub part : (x : Candidate) → Contains zs x → Contains xs x
  pub seen : (m : ℕ) (d : Candidate) → m < at → IsBeaten (offers_of zs) (priced (slice_index_or xs m d).offer)
  pub reached : AreReachedAt cost stairs (offers_of zs)
  pub held : AreHeld (slots_of new) (zs ++ drop at xs)
  pub given : IsGiven (slots_of old) xs (slots_of new) (zs ++ drop at xs)
  pub same : MeanTheSame (made_of old) (made_of new) (zs ++ drop at xs)

pub pruning_begins : (arena : Arena) (xs : List Candidate) (cost : ℕ) (stairs : List Stair) → AreHeld (slots_of arena) xs → stairs ≡ [] → IsPruning
    arena xs 0 cost stairs [] arena
pruning_begins arena xs cost stairs held none = record {
  part = λ x (k, k_n, e). absurd (omega arith);
  seen = λ m d low. absurd (omega arith);
  reached = λ x found. let (k, k_n, e) = subst (λ (l : List Stair). Contains l x) none found in absurd (omega arith);
  held = held;
  given = given_none (slots_of arena) xs;
  same = λ x found. refl;
}

module _ (old new : Arena) (xs : List Candidate) (at cost cost' : ℕ) (stairs stairs' : List Stair) (zs : List Candidate) (x : Candidate)
    (so_far : IsPruning old xs at cost stairs zs new) (inside : at < length xs) (x_is : get_or xs at x ≡ x) where
  rest_is : drop at xs ≡ x ∷ drop (at + 1) xs
  rest_is = let e : suc at ≡ at + 1 = omega arith in drop-cons xs at x inside ∙ ap (λ (y : Candidate). y ∷ drop (suc at) xs) x_is ∙ ap
      (λ (k : ℕ). x ∷ drop k xs) e

  here : (m : ℕ) (d : Candidate) → m < at + 1 → (zs' : List Candidate) → ((z : Priced) → IsBeaten (offers_of zs) z → IsBeaten (offers_of zs') z)
      → IsBeaten (offers_of zs') (priced x.offer) → IsBeaten (offers_of zs') (priced (slice_index_or xs m d).offer)
  here m d low zs' more beaten =
      elim (cases_lt m at) [
        | inl before ↦ more (priced (slice_index_or xs m d).offer) (so_far.seen m d before)
        | inr high ↦
            let is : m ≡ at = omega (arith, high, low) in
            let y_is : slice_index_or xs m d ≡ x = ap (λ (n : ℕ). slice_index_or xs n d) is ∙ any_default xs at d x inside ∙ x_is in
            subst (λ (t : Candidate). IsBeaten (offers_of zs') (priced t.offer)) (sym y_is) beaten
      ]

  -- it is kept
  pub pruning_keeps : AreReachedAt cost' stairs' (offers_of zs ++ priced x.offer ∷ []) → IsPruning old xs (at + 1) cost' stairs' (zs ++ x ∷ []) new
  pruning_keeps reached = record {
    part = λ y found. elim (Contains-push_cases zs x y found) [
      | inl before ↦ so_far.part y before
      | inr e ↦ subst (Contains xs) e (at, inside, x_is)
    ];
    seen = λ m d low. here m d low (zs ++ x ∷ [])
        (λ z beaten. subst (λ (l : List Priced). IsBeaten l z) (sym (push_candidates zs x)) (beaten_more (offers_of zs) (priced x.offer) z beaten))
        (beaten_among (zs ++ x ∷ []) x (Contains-push zs x));
    reached = subst (AreReachedAt cost' stairs') (sym (push_candidates zs x)) reached;
    held = subst (AreHeld (slots_of new)) same_list so_far.held;
    given = subst (IsGiven (slots_of old) xs (slots_of new)) same_list so_far.given;
    same = subst (MeanTheSame (made_of old) (made_of new)) same_list so_far.same;
  }
    where
      same_list : zs ++ drop at xs ≡ (zs ++ x ∷ []) ++ drop (at + 1) xs
      same_list = ap (λ (l : List Candidate). zs ++ l) rest_is ∙ sym (append_assoc zs (x ∷ []) (drop (at + 1) xs))

  -- it goes, and the use of its solution
  module _ (later : Arena) where
    pub pruning_drops : IsBeaten (offers_of zs) (priced x.offer) → AreReachedAt cost' stairs' (offers_of zs) → IsReleased (slots_of new)
        (slots_of later) x.sol.0
        → IsPruning old xs (at + 1) cost' stairs' zs later
    pruning_drops beaten reached released = record {
      part = so_far.part;
      seen = λ m d low. here m d low zs (λ z is. is) beaten;
      reached = reached;
      held = given_held (slots_of new) (slots_of later) (zs ++ drop at xs) left so_far.held one;
      given = given_then (slots_of old) (slots_of new) (slots_of later) xs (zs ++ drop at xs) left so_far.given one;
      same = λ y found. stays y found ∙ so_far.same y (whole y found);
    }
      where
        left : List Candidate
        left = zs ++ drop (at + 1) xs

        uses_are : (s : ℕ) → uses (zs ++ drop at xs) s ≡ uses left s + one_if (x.sol.0 == s)
        uses_are s =
            omega (
              arith,
              uses_both zs (drop at xs) s,
              uses_both zs (drop (at + 1) xs) s,
              ap (λ (l : List Candidate). uses l s) rest_is,
              uses_cons x (drop (at + 1) xs) s,
            )

        one : IsGiven (slots_of new) (zs ++ drop at xs) (slots_of later) left
        one = released_given new later x left (zs ++ drop at xs) uses_are released

        only : IsGiven (slots_of new) (x ∷ []) (slots_of later) []
        only = released_given new later x [] (x ∷ []) (λ s. omega (arith, uses_cons x [] s)) released

        stays : MeanTheSame (made_of new) (made_of later) left
        stays =
            beside_same new later left (x ∷ []) [] (held_as (slots_of new) (zs ++ drop at xs) (left ++ x ∷ [])
            (λ s. omega (arith, uses_are s, uses_both left (x ∷ []) s, uses_cons x [] s)) so_far.held) only

        whole : (y : Candidate) → Contains left y → Contains (zs ++ drop at xs) y
        whole y found = subst (λ (l : List Candidate). Contains (zs ++ l) y) (sym rest_is) (skip zs y found)
          where
            skip : (ws : List Candidate) (z : Candidate) → Contains (ws ++ drop (at + 1) xs) z → Contains (ws ++ x ∷ drop (at + 1) xs) z
            skip [] z (k, k_n, e) = (suc k, omega arith, e)
            skip (w ∷ ws) z (zero, k_n, e) = (0, omega arith, e)
            skip (w ∷ ws) z (suc k, k_n, e) = let (j, j_n, f) = skip ws z (k, omega arith, e) in (suc j, omega arith, f)

-- A MAP IN PLACE
-- what stands at a number is as it was
as_was : {X : Type 0} (xs ys : List X) (f : X → X) (at : ℕ) (x : X) → at < length xs → ys ≡ map f (take at xs) ++ drop at xs → x ≡ get_or ys at x →
    get_or xs at x ≡ x
as_was {X} xs ys f at x inside are is =
    sym (is ∙ ap (λ (l : List X). get_or l at x) are ∙ go xs at inside)
  where
    go : (zs : List X) (n : ℕ) → n < length zs → get_or (map f (take n zs) ++ drop n zs) n x ≡ get_or zs n x
    go [] n n_in = absurd (omega arith)
    go (z ∷ zs) zero n_in = refl
    go (z ∷ zs) (suc n) n_in = go zs n (omega arith)

pub carried_at : {X : Type 0} (xs ys : List X) (f : X → X) (at : ℕ) (x : X) → at < length xs → ys ≡ map f (take at xs) ++ drop at xs → x ≡ get_or ys
    at x → Contains xs x
carried_at xs ys f at x inside are is = (at, inside, as_was xs ys f at x inside are is)

pub carried_next : (xs ys : List Candidate) (r load at : ℕ) (x x' : Candidate) (offer : Offer) → at < length xs
    → ys ≡ map (carried_by r load) (take at xs) ++ drop at xs → x ≡ get_or ys at x → x' ≡ get_or ys at x' → offer ≡ carried_offer r load x.offer
    → set ys at (record { offer = offer; sol = x'.sol }) ≡ map (carried_by r load) (take (at + 1) xs) ++ drop (at + 1) xs
carried_next xs ys r load at x x' offer inside are is is' offer_is =
    ap (λ (y : Candidate). set ys at y) made ∙ map_over_more (carried_by r load) xs ys at x inside are is
  where
    same : x' ≡ x
    same = sym (as_was xs ys (carried_by r load) at x' inside are is') ∙ any_default xs at x' x inside ∙ as_was xs ys (carried_by r load) at x inside are is

    made : record { offer = offer; sol = x'.sol } ≡ carried_by r load x
    made = λ i. record { offer = offer_is i; sol = (same i).sol }

-- the loop of pruning: what is kept stands in front, and what was not seen yet stands where it was
pub record IsPruningIn (old : Arena) (xs : List Candidate) (at kept cost : ℕ) (stairs : List Stair) (now : List Candidate) (new : Arena) : Type 0 where
  pub order : kept ≤ at
  pub whole : length now ≡ length xs
  pub rest : drop at now ≡ drop at xs
  pub so_far : IsPruning old xs at cost stairs (take kept now) new

pub prune_starts : (arena : Arena) (xs : List Candidate) (cost : ℕ) (stairs : List Stair) → AreHeld (slots_of arena) xs → stairs ≡ []
    → IsPruningIn arena xs 0 0 cost stairs xs arena
prune_starts arena xs cost stairs held none = record {
  order = omega arith;
  whole = refl;
  rest = refl;
  so_far = pruning_begins arena xs cost stairs held none;
}

module _ (old new : Arena) (xs now : List Candidate) (at kept cost cost' : ℕ) (stairs stairs' : List Stair) (x : Candidate)
    (is : IsPruningIn old xs at kept cost stairs now new) (inside : at < length xs) (x_is : x ≡ get_or now at x) where
  here_is : get_or xs at x ≡ x
  here_is =
      let low : at + 0 ≡ at = omega arith in
      sym (ap (λ (n : ℕ). get_or xs n x) low) ∙ sym (get_or-drop at xs 0 x) ∙ ap (λ (l : List Candidate). get_or l 0 x) (sym is.rest) ∙ get_or-drop at
      now 0 x
      ∙ ap (λ (n : ℕ). get_or now n x) low ∙ sym x_is

  pub prune_in : x ≡ get_or xs at x
  prune_in = sym here_is

  rest_on : (l : List Candidate) → drop at l ≡ drop at xs → drop (at + 1) l ≡ drop (at + 1) xs
  rest_on l same = sym (drop-drop 1 at l) ∙ ap (drop 1) same ∙ drop-drop 1 at xs

  pub prune_keeps : AreReachedAt cost' stairs' (offers_of (take kept now) ++ priced x.offer ∷ []) → IsPruningIn old xs (at + 1) (kept + 1) cost'
      stairs' (set now kept x) new
  prune_keeps reached = record {
    order = omega (arith, is.order);
    whole = length-set now kept x ∙ is.whole;
    rest = drop-set-lt (at + 1) now kept x (omega (arith, is.order)) ∙ rest_on now is.rest;
    so_far =
        subst (λ (zs : List Candidate). IsPruning old xs (at + 1) cost' stairs' zs new)
        (sym (take_more_set now kept x (omega (arith, is.order, inside, is.whole))))
        (pruning_keeps old new xs at cost cost' stairs stairs' (take kept now) x is.so_far inside here_is reached);
  }

  pub prune_drops : (later : Arena) → IsBeaten (offers_of (take kept now)) (priced x.offer) → AreReachedAt cost' stairs' (offers_of (take kept now))
      → IsReleased (slots_of new) (slots_of later) x.sol.0 → IsPruningIn old xs (at + 1) kept cost' stairs' now later
  prune_drops later beaten reached released = record {
    order = omega (arith, is.order);
    whole = is.whole;
    rest = rest_on now is.rest;
    so_far = pruning_drops old new xs at cost cost' stairs stairs' (take kept now) x is.so_far inside here_is later beaten reached released;
  }

  -- it is held, so its solution is live
  pub prune_holds : Contains (take kept now ++ drop at xs) x
  prune_holds =
      subst (λ (l : List Candidate). Contains (take kept now ++ l) x)
      (sym (rest_is old new xs at cost cost stairs stairs (take kept now) x is.so_far inside here_is))
      (Contains-append_right (take kept now) (x ∷ drop (at + 1) xs) x (0, omega arith, refl))

-- and its end
pub pruned_all : (old new : Arena) (xs now : List Candidate) (at kept cost : ℕ) (stairs : List Stair) → IsPruningIn old xs at kept cost stairs now new
    → length xs ≤ at
    → IsPruned xs (take kept now) × IsGiven (slots_of old) xs (slots_of new) (take kept now) × MeanTheSame (made_of old) (made_of new) (take kept now)
pruned_all old new xs now at kept cost stairs is all =
    let ends : take kept now ++ drop at xs ≡ take kept now = ap (λ (l : List Candidate). take kept now ++ l) (drop_all at xs all) ∙ append-nil
    (take kept now) in (
      record {
        part = is.so_far.part;
        covers = λ x (k, k_n, e). subst (λ (t : Candidate). IsBeaten (offers_of (take kept now)) (priced t.offer)) e
            (is.so_far.seen k x (omega (arith, k_n, all)));
      },
      subst (IsGiven (slots_of old) xs (slots_of new)) ends is.so_far.given,
      subst (MeanTheSame (made_of old) (made_of new)) ends is.so_far.same,
    )

-- TWO LISTS IN ONE
-- one of what is held besides goes on to the list, or goes
module _ (old new : Arena) (all out rest left : List Candidate) (x : Candidate) (uses_are : (s : ℕ) → uses rest s ≡ uses left s + one_if (x.sol.0 == s))
    (x_in : Contains rest x) (fewer : (y : Candidate) → Contains left y → Contains rest y) (held : AreHeld (slots_of new) (out ++ rest))
    (given : IsGiven (slots_of old) all (slots_of new) (out ++ rest)) (same : MeanTheSame (made_of old) (made_of new) (out ++ rest)) where
  pushed_uses : (s : ℕ) → uses ((out ++ x ∷ []) ++ left) s ≡ uses (out ++ rest) s
  pushed_uses s =
      omega (arith, uses_are s, uses_both (out ++ x ∷ []) left s, uses_both out (x ∷ []) s, uses_cons x [] s, uses_both out rest s)

  among : (y : Candidate) → Contains (out ++ x ∷ []) y ⊎ Contains left y → Contains (out ++ rest) y
  among y found = elim found [
    | inl pushed ↦ elim (Contains-push_cases out x y pushed) [
      | inl before ↦ Contains-append_left out rest y before
      | inr e ↦ Contains-append_right out rest y (subst (Contains rest) e x_in)
    ]
    | inr later ↦ Contains-append_right out rest y (fewer y later)
  ]

  pub push_held : AreHeld (slots_of new) ((out ++ x ∷ []) ++ left)
  push_held = held_as (slots_of new) (out ++ rest) ((out ++ x ∷ []) ++ left) (λ s. omega (arith, pushed_uses s)) held

  pub push_given : IsGiven (slots_of old) all (slots_of new) ((out ++ x ∷ []) ++ left)
  push_given = given_as (slots_of old) (slots_of new) all all (out ++ rest) ((out ++ x ∷ []) ++ left) (λ s. refl) (λ s. sym (pushed_uses s)) given

  pub push_same : MeanTheSame (made_of old) (made_of new) ((out ++ x ∷ []) ++ left)
  push_same y found = same y (among y (Contains-append_cases (out ++ x ∷ []) left y found))

  module _ (later : Arena) (released : IsReleased (slots_of new) (slots_of later) x.sol.0) where
    gone_uses : (s : ℕ) → uses (out ++ rest) s ≡ uses (out ++ left) s + one_if (x.sol.0 == s)
    gone_uses s = omega (arith, uses_are s, uses_both out rest s, uses_both out left s)

    one : IsGiven (slots_of new) (out ++ rest) (slots_of later) (out ++ left)
    one = released_given new later x (out ++ left) (out ++ rest) gone_uses released

    only : IsGiven (slots_of new) (x ∷ []) (slots_of later) []
    only = released_given new later x [] (x ∷ []) (λ s. omega (arith, uses_cons x [] s)) released

    pub gone_held : AreHeld (slots_of later) (out ++ left)
    gone_held = given_held (slots_of new) (slots_of later) (out ++ rest) (out ++ left) held one

    pub gone_given : IsGiven (slots_of old) all (slots_of later) (out ++ left)
    gone_given = given_then (slots_of old) (slots_of new) (slots_of later) all (out ++ rest) (out ++ left) given one

    pub gone_same : MeanTheSame (made_of old) (made_of later) (out ++ left)
    gone_same y found =
        beside_same new later (out ++ left) (x ∷ []) []
        (held_as (slots_of new) (out ++ rest) ((out ++ left) ++ x ∷ [])
        (λ s. omega (arith, gone_uses s, uses_both (out ++ left) (x ∷ []) s, uses_cons x [] s)) held) only y found
        ∙ same y (elim (Contains-append_cases out left y found) [
          | inl before ↦ Contains-append_left out rest y before
          | inr late ↦ Contains-append_right out rest y (fewer y late)
        ])

-- how far two lists were put together: what is left of them is held besides
pub record IsBlending (old : Arena) (xs ys : List Candidate) (i j cost : ℕ) (stairs : List Stair) (out : List Candidate) (room : ℕ) (new : Arena) :
    Type 0 where
  pub i_in : i ≤ length xs
  pub j_in : j ≤ length ys
  pub fits : length out + ((length xs - i) + (length ys - j)) ≤ room
  pub part : (x : Candidate) → Contains out x → Contains xs x ⊎ Contains ys x
  pub first : (m : ℕ) (d : Candidate) → m < i → IsBeaten (offers_of out) (priced (slice_index_or xs m d).offer)
  pub second : (m : ℕ) (d : Candidate) → m < j → IsBeaten (offers_of out) (priced (slice_index_or ys m d).offer)
  pub reached : AreReachedAt cost stairs (offers_of out)
  pub held : AreHeld (slots_of new) (out ++ (drop i xs ++ drop j ys))
  pub given : IsGiven (slots_of old) (xs ++ ys) (slots_of new) (out ++ (drop i xs ++ drop j ys))
  pub same : MeanTheSame (made_of old) (made_of new) (out ++ (drop i xs ++ drop j ys))

pub blend_begins : (arena : Arena) (xs ys : List Candidate) (cost : ℕ) (stairs : List Stair) (out : List Candidate) (room : ℕ) → AreHeld
    (slots_of arena) (xs ++ ys)
    → stairs ≡ [] → out ≡ [] → length xs + length ys ≤ room → IsBlending arena xs ys 0 0 cost stairs out room arena
blend_begins arena xs ys cost stairs out room held no_stairs none enough =
    subst (λ (l : List Candidate). IsBlending arena xs ys 0 0 cost stairs l room arena) (sym none) (record {
      i_in = omega arith;
      j_in = omega arith;
      fits = omega (arith, enough);
      part = λ x (k, k_n, e). absurd (omega arith);
      first = λ m d low. absurd (omega arith);
      second = λ m d low. absurd (omega arith);
      reached = λ x found. let (k, k_n, e) = subst (λ (l : List Stair). Contains l x) no_stairs found in absurd (omega arith);
      held = held;
      given = given_none (slots_of arena) (xs ++ ys);
      same = λ x found. refl;
    })

taken_drop : (xs : List Candidate) (i i' : ℕ) (x : Candidate) → IsTaken xs i i' x → drop i xs ≡ x ∷ drop i' xs
taken_drop xs i i' x taken =
    let e : suc i ≡ i' = omega (arith, taken.next) in
    drop-cons xs i x taken.inside ∙ ap (λ (y : Candidate). y ∷ drop (suc i) xs) taken.here ∙ ap (λ (k : ℕ). x ∷ drop k xs) e

-- what is left when the next one is taken
left_uses : (xs ys : List Candidate) (i j i' j' : ℕ) (x : Candidate) → IsNext xs ys i j i' j' x → (s : ℕ)
    → uses (drop i xs ++ drop j ys) s ≡ uses (drop i' xs ++ drop j' ys) s + one_if (x.sol.0 == s)
left_uses xs ys i j i' j' x next s =
    elim next [
      | inl (taken, stays) ↦
          omega (
            arith,
            uses_both (drop i xs) (drop j ys) s,
            uses_both (drop i' xs) (drop j' ys) s,
            ap (λ (l : List Candidate). uses l s) (taken_drop xs i i' x taken),
            uses_cons x (drop i' xs) s,
            ap (λ (k : ℕ). uses (drop k ys) s) stays,
          )
      | inr (taken, stays) ↦
          omega (
            arith,
            uses_both (drop i xs) (drop j ys) s,
            uses_both (drop i' xs) (drop j' ys) s,
            ap (λ (l : List Candidate). uses l s) (taken_drop ys j j' x taken),
            uses_cons x (drop j' ys) s,
            ap (λ (k : ℕ). uses (drop k xs) s) stays,
          )
    ]

first_left : (xs : List Candidate) (i i' : ℕ) (x : Candidate) → IsTaken xs i i' x → Contains (drop i xs) x
first_left xs i i' x taken = subst (λ (l : List Candidate). Contains l x) (sym (taken_drop xs i i' x taken)) (0, omega arith, refl)

later_left : (xs : List Candidate) (i i' : ℕ) (x y : Candidate) → IsTaken xs i i' x → Contains (drop i' xs) y → Contains (drop i xs) y
later_left xs i i' x y taken (k, k_n, e) = subst (λ (l : List Candidate). Contains l y) (sym (taken_drop xs i i' x taken)) (suc k, omega (arith, k_n), e)

left_in : (xs ys : List Candidate) (i j i' j' : ℕ) (x : Candidate) → IsNext xs ys i j i' j' x → Contains (drop i xs ++ drop j ys) x
left_in xs ys i j i' j' x next =
    elim next [
      | inl (taken, stays) ↦ Contains-append_left (drop i xs) (drop j ys) x (first_left xs i i' x taken)
      | inr (taken, stays) ↦ Contains-append_right (drop i xs) (drop j ys) x (first_left ys j j' x taken)
    ]

left_fewer : (xs ys : List Candidate) (i j i' j' : ℕ) (x : Candidate) → IsNext xs ys i j i' j' x → (y : Candidate) → Contains (drop i' xs ++ drop j' ys) y
    → Contains (drop i xs ++ drop j ys) y
left_fewer xs ys i j i' j' x next y found =
    elim next [
      | inl (taken, stays) ↦ elim (Contains-append_cases (drop i' xs) (drop j' ys) y found) [
        | inl early ↦ Contains-append_left (drop i xs) (drop j ys) y (later_left xs i i' x y taken early)
        | inr late ↦ Contains-append_right (drop i xs) (drop j ys) y (subst (λ (k : ℕ). Contains (drop k ys) y) stays late)
      ]
      | inr (taken, stays) ↦ elim (Contains-append_cases (drop i' xs) (drop j' ys) y found) [
        | inl early ↦ Contains-append_left (drop i xs) (drop j ys) y (subst (λ (k : ℕ). Contains (drop k xs) y) stays early)
        | inr late ↦ Contains-append_right (drop i xs) (drop j ys) y (later_left ys j j' x y taken late)
      ]
    ]

-- what was seen of a list is beaten
seen_on : (xs : List Candidate) (i i' : ℕ) (x : Candidate) (zs zs' : List Priced) → IsTaken xs i i' x →
    ((z : Priced) → IsBeaten zs z → IsBeaten zs' z) → IsBeaten zs' (priced x.offer)
    → ((m : ℕ) (d : Candidate) → m < i → IsBeaten zs (priced (slice_index_or xs m d).offer)) → (m : ℕ) (d : Candidate) → m < i'
    → IsBeaten zs' (priced (slice_index_or xs m d).offer)
seen_on xs i i' x zs zs' taken more here before m d low =
    elim (cases_lt m i) [
      | inl less ↦ more (priced (slice_index_or xs m d).offer) (before m d less)
      | inr high ↦
          let is : m ≡ i = omega (arith, high, low, taken.next) in
          let x_is : slice_index_or xs m d ≡ x = ap (λ (n : ℕ). slice_index_or xs n d) is ∙ any_default xs i d x taken.inside ∙ taken.here in
          subst (λ (t : Candidate). IsBeaten zs' (priced t.offer)) (sym x_is) here
    ]

module _ (old new : Arena) (xs ys : List Candidate) (i j i' j' cost cost' : ℕ) (stairs stairs' : List Stair) (out : List Candidate) (room : ℕ)
    (x : Candidate)
    (at : IsBlending old xs ys i j cost stairs out room new) (next : IsNext xs ys i j i' j' x) where
  abbrev rest : List Candidate
  rest = drop i xs ++ drop j ys

  abbrev left : List Candidate
  left = drop i' xs ++ drop j' ys

  both_seen : (zs : List Priced) → ((z : Priced) → IsBeaten (offers_of out) z → IsBeaten zs z) → IsBeaten zs (priced x.offer)
      → ((m : ℕ) (d : Candidate) → m < i' → IsBeaten zs (priced (slice_index_or xs m d).offer))
      × ((m : ℕ) (d : Candidate) → m < j' → IsBeaten zs (priced (slice_index_or ys m d).offer))
  both_seen zs more here =
      elim next [
        | inl (taken, stays) ↦ (
          seen_on xs i i' x (offers_of out) zs taken more here at.first,
          λ m d low. more (priced (slice_index_or ys m d).offer) (at.second m d (omega (arith, low, stays))),
        )
        | inr (taken, stays) ↦ (
          λ m d low. more (priced (slice_index_or xs m d).offer) (at.first m d (omega (arith, low, stays))),
          seen_on ys j j' x (offers_of out) zs taken more here at.second,
        )
      ]

  inside : (i' ≤ length xs) × (j' ≤ length ys) × ((length xs - i') + (length ys - j') + 1 ≡ (length xs - i) + (length ys - j))
  inside =
      elim next [
        | inl (taken, stays) ↦ (omega (arith, taken.inside, taken.next), omega (arith, at.j_in, stays), omega (arith, taken.inside, taken.next, stays))
        | inr (taken, stays) ↦ (omega (arith, at.i_in, stays), omega (arith, taken.inside, taken.next), omega (arith, taken.inside, taken.next, stays))
      ]

  -- there is room for one more
  pub blend_fits : length out < room
  blend_fits = omega (arith, at.fits, inside.2)

  pub blend_in : Contains (out ++ rest) x
  blend_in = Contains-append_right out rest x (left_in xs ys i j i' j' x next)

  pub blend_kept : (room' : ℕ) → room ≤ room' → AreReachedAt cost' stairs' (offers_of out ++ priced x.offer ∷ [])
      → IsBlending old xs ys i' j' cost' stairs' (out ++ x ∷ []) room' new
  blend_kept room' more reached =
      let seen = both_seen (offers_of (out ++ x ∷ []))
      (λ z beaten. subst (λ (l : List Priced). IsBeaten l z) (sym (push_candidates out x)) (beaten_more (offers_of out) (priced x.offer) z beaten))
      (beaten_among (out ++ x ∷ []) x (Contains-push out x)) in record {
        i_in = inside.0;
        j_in = inside.1;
        fits = omega (arith, at.fits, inside.2, more, length-append out (x ∷ []));
        part = λ y found. elim (Contains-push_cases out x y found) [
          | inl before ↦ at.part y before
          | inr e ↦ subst (λ (t : Candidate). Contains xs t ⊎ Contains ys t) e (elim next [
            | inl (taken, stays) ↦ inl (i, taken.inside, taken.here)
            | inr (taken, stays) ↦ inr (j, taken.inside, taken.here)
          ])
        ];
        first = seen.0;
        second = seen.1;
        reached = subst (AreReachedAt cost' stairs') (sym (push_candidates out x)) reached;
        held = push_held old new (xs ++ ys) out rest left x (left_uses xs ys i j i' j' x next) (left_in xs ys i j i' j' x next)
            (left_fewer xs ys i j i' j' x next) at.held at.given at.same;
        given = push_given old new (xs ++ ys) out rest left x (left_uses xs ys i j i' j' x next) (left_in xs ys i j i' j' x next)
            (left_fewer xs ys i j i' j' x next) at.held at.given at.same;
        same = push_same old new (xs ++ ys) out rest left x (left_uses xs ys i j i' j' x next) (left_in xs ys i j i' j' x next)
            (left_fewer xs ys i j i' j' x next) at.held at.given at.same;
      }

  pub blend_gone : (later : Arena) → IsBeaten (offers_of out) (priced x.offer) → AreReachedAt cost' stairs' (offers_of out) → IsReleased
      (slots_of new) (slots_of later) x.sol.0
      → IsBlending old xs ys i' j' cost' stairs' out room later
  blend_gone later beaten reached released =
      let seen = both_seen (offers_of out) (λ z is. is) beaten in record {
        i_in = inside.0;
        j_in = inside.1;
        fits = omega (arith, at.fits, inside.2);
        part = at.part;
        first = seen.0;
        second = seen.1;
        reached = reached;
        held = gone_held old new (xs ++ ys) out rest left x (left_uses xs ys i j i' j' x next) (left_in xs ys i j i' j' x next)
            (left_fewer xs ys i j i' j' x next) at.held at.given at.same later released;
        given = gone_given old new (xs ++ ys) out rest left x (left_uses xs ys i j i' j' x next) (left_in xs ys i j i' j' x next)
            (left_fewer xs ys i j i' j' x next) at.held at.given at.same later released;
        same = gone_same old new (xs ++ ys) out rest left x (left_uses xs ys i j i' j' x next) (left_in xs ys i j i' j' x next)
            (left_fewer xs ys i j i' j' x next) at.held at.given at.same later released;
      }

pub blend_ends : (old new : Arena) (xs ys : List Candidate) (i j cost : ℕ) (stairs : List Stair) (out : List Candidate) (room : ℕ)
    → IsBlending old xs ys i j cost stairs out room new → i ≡ length xs → j ≡ length ys
    → IsBlend xs ys out × IsGiven (slots_of old) (xs ++ ys) (slots_of new) out × MeanTheSame (made_of old) (made_of new) out
blend_ends old new xs ys i j cost stairs out room at all_xs all_ys =
    let no_xs : drop i xs ≡ [] = drop_all i xs (omega (arith, all_xs)) in
    let no_ys : drop j ys ≡ [] = drop_all j ys (omega (arith, all_ys)) in
    let ends : out ++ (drop i xs ++ drop j ys) ≡ out =
    ap (λ (l : List Candidate). out ++ (l ++ drop j ys)) no_xs ∙ ap (λ (l : List Candidate). out ++ l) no_ys ∙ append-nil out in (
      record {
        part = at.part;
        first = λ x (k, k_n, e). subst (λ (t : Candidate). IsBeaten (offers_of out) (priced t.offer)) e (at.first k x (omega (arith, k_n, all_xs)));
        second = λ x (k, k_n, e). subst (λ (t : Candidate). IsBeaten (offers_of out) (priced t.offer)) e (at.second k x (omega (arith, k_n, all_ys)));
      },
      subst (IsGiven (slots_of old) (xs ++ ys) (slots_of new)) ends at.given,
      subst (MeanTheSame (made_of old) (made_of new)) ends at.same,
    )

-- the same by other names
pub blending_as : (old : Arena) (xs ys : List Candidate) (i j cost : ℕ) (stairs : List Stair) (out out' : List Candidate) (room room' : ℕ)
    (new new' : Arena)
    → out' ≡ out → room' ≡ room → new' ≡ new → IsBlending old xs ys i j cost stairs out room new → IsBlending old xs ys i j cost stairs out' room' new'
blending_as old xs ys i j cost stairs out out' room room' new new' out_is room_is new_is is =
    subst (λ (l : List Candidate). IsBlending old xs ys i j cost stairs l room' new') (sym out_is)
    (subst (λ (k : ℕ). IsBlending old xs ys i j cost stairs out k new') (sym room_is)
    (subst (λ (a : Arena). IsBlending old xs ys i j cost stairs out room a) (sym new_is) is))

-- the same by other names
pub pruning_as : (old : Arena) (xs : List Candidate) (at cost : ℕ) (stairs : List Stair) (now now' : List Candidate) (kept kept' : ℕ) (new new' : Arena)
    → now' ≡ now → kept' ≡ kept → new' ≡ new → IsPruningIn old xs at kept cost stairs now new → IsPruningIn old xs at kept' cost stairs now' new'
pruning_as old xs at cost stairs now now' kept kept' new new' now_is kept_is new_is is =
    subst (λ (l : List Candidate). IsPruningIn old xs at kept' cost stairs l new') (sym now_is)
    (subst (λ (k : ℕ). IsPruningIn old xs at k cost stairs now new') (sym kept_is)
    (subst (λ (a : Arena). IsPruningIn old xs at kept cost stairs now a) (sym new_is) is))
