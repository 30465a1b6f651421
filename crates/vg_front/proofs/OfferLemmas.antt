-- Lists of proposals, and what they beat.
use Rattle.std.proofs.Common.{◌≡◌, ◌⊎◌, ℕ, zero, suc, ◌+◌, ◌<◌, ◌≤◌, List, [], ◌∷◌, ◌++◌, map, length, take, get_or, set, refl}
use Rattle.std.proofs.Common.{sym, ap, ◌∙◌, subst, arith, inl, inr}
use Rattle.std.proofs.lemmas.Bool.{cases_eq}
use Rattle.std.proofs.lemmas.List.{append-nil, length-set, get_or-set_same, get_or-set_other, map-append, take_all}
use Rattle.std.proofs.lemmas.List.Elements.{Contains-append_left, Contains-append_right, Contains-append_cases, Contains-push, Contains-push_cases}
use Rattle.std.proofs.lemmas.List.Sorted.{Contains-permutation, IsPermutation-sym}
use Rattle.std.specs.List.{Contains}
use Rattle.std.specs.List.Sorted.{IsPermutation}
use Rattle.cand_pairs.specs.Priced.{Priced, Beats}
use Rattle.cand_pairs.proofs.ChildLemmas.{in_cons}
use Rattle.vg_front.specs.declared.offer.Proposal.{Proposal}
use Rattle.vg_front.specs.declared.stairs.Stair.{Stair}
use Rattle.vg_front.specs.Offers.{priced, proposed_by, IsBeaten, IsPartOf, With, Or, Adds, OfSome}
use Rattle.vg_front.specs.Seen.{AreReachedAt}
use Rattle.vg_front.proofs.TakenLemmas.{still_taken, now_taken, taken_one}
use Rattle.vg_front.proofs.SeenLemmas.{beats_self, beaten_more, beaten_over, set_cases}

pub in_map : {X Y : Type 0} (f : X → Y) (xs : List X) (x : X) → Contains xs x → Contains (map f xs) (f x)
in_map f [] x (k, k_n, e) = absurd (omega arith)
in_map f (y ∷ xs) x (zero, k_n, e) = (0, omega arith, ap f e)
in_map f (y ∷ xs) x (suc k, k_n, e) = in_cons (f y) (map f xs) (f x) (in_map f xs x (k, omega arith, e))

pub of_map : {X Y : Type 0} (f : X → Y) (xs : List X) (z : Y) → Contains (map f xs) z → (x : X) × Contains xs x × (z ≡ f x)
of_map f [] z (k, k_n, e) = absurd (omega arith)
of_map f (y ∷ xs) z (zero, k_n, e) = (y, (0, omega arith, refl), sym e)
of_map f (y ∷ xs) z (suc k, k_n, e) = let (x, found, is) = of_map f xs z (k, omega arith, e) in (x, in_cons y xs x found, is)

pub offer_in : Proposal → Priced
offer_in x = priced x.offer

-- a proposal of the list beats
pub beaten_by : (xs : List Proposal) (x : Proposal) (z : Priced) → Contains xs x → Beats (priced x.offer) z → IsBeaten (proposed_by xs) z
beaten_by xs x z found beats = (priced x.offer, in_map (λ (y : Proposal). priced y.offer) xs x found, beats)

pub beaten_itself : (xs : List Proposal) (x : Proposal) → Contains xs x → IsBeaten (proposed_by xs) (priced x.offer)
beaten_itself xs x found = beaten_by xs x (priced x.offer) found (beats_self (priced x.offer))

-- by a proposal, whichever it is
pub beaten_parts : (xs : List Proposal) (z : Priced) → IsBeaten (proposed_by xs) z → (x : Proposal) × Contains xs x × Beats (priced x.offer) z
beaten_parts xs z (y, y_in, y_z) =
    let (x, found, is) = of_map (λ (y : Proposal). priced y.offer) xs y y_in in
    (x, found, subst (λ (t : Priced). Beats t z) is y_z)

pub push_offers : (xs : List Proposal) (x : Proposal) → proposed_by (xs ++ x ∷ []) ≡ proposed_by xs ++ priced x.offer ∷ []
push_offers xs x = map-append (λ (y : Proposal). priced y.offer) xs (x ∷ [])

pub beaten_push : (xs : List Proposal) (x : Proposal) (z : Priced) → IsBeaten (proposed_by xs) z → IsBeaten (proposed_by (xs ++ x ∷ [])) z
beaten_push xs x z beaten = subst (λ (zs : List Priced). IsBeaten zs z) (sym (push_offers xs x)) (beaten_more (proposed_by xs) (priced x.offer) z beaten)

-- ONE MORE PROPOSAL
pub put_beaten : (xs : List Proposal) (x last : Proposal) → Contains xs last → Beats (priced last.offer) (priced x.offer) → IsPartOf (With xs x) xs
put_beaten xs x last found beats = record {
  part = λ y y_in. inl y_in;
  covers = λ y among. elim among [
    | inl y_in ↦ beaten_itself xs y y_in
    | inr e ↦ subst (λ (t : Proposal). IsBeaten (proposed_by xs) (priced t.offer)) (sym e) (beaten_by xs last (priced x.offer) found beats)
  ];
}

pub put_instead : (xs : List Proposal) (i : ℕ) (x last : Proposal) → i < length xs → last ≡ get_or xs i last → Beats (priced x.offer) (priced last.offer)
    → IsPartOf (With xs x) (set xs i x)
put_instead xs i x last i_n last_is beats = record {
  part = λ y y_in. set_cases xs i x y y_in;
  covers = λ y among. elim among [
    | inl (k, k_n, e) ↦ elim (cases_eq k i) [
      | inl same ↦
          let y_is : y ≡ last = sym e ∙ ap (λ (n : ℕ). get_or xs n y) same ∙ same_default xs i y last i_n ∙ sym last_is in
          subst (λ (t : Proposal). IsBeaten (proposed_by (set xs i x)) (priced t.offer)) (sym y_is)
          (beaten_by (set xs i x) x (priced last.offer) here beats)
      | inr other ↦ beaten_itself (set xs i x) y (k, omega (arith, k_n, length-set xs i x), get_or-set_other xs i k x y other ∙ e)
    ]
    | inr e ↦ subst (λ (t : Proposal). IsBeaten (proposed_by (set xs i x)) (priced t.offer)) (sym e) (beaten_itself (set xs i x) x here)
  ];
}
  where
    here : Contains (set xs i x) x
    here = (i, omega (arith, i_n, length-set xs i x), get_or-set_same xs i x x i_n)

    same_default : (zs : List Proposal) (n : ℕ) (d e : Proposal) → n < length zs → get_or zs n d ≡ get_or zs n e
    same_default [] n d e n_in = absurd (omega arith)
    same_default (z ∷ zs) zero d e n_in = refl
    same_default (z ∷ zs) (suc n) d e n_in = same_default zs n d e (omega arith)

pub put_more : (xs : List Proposal) (x : Proposal) → IsPartOf (With xs x) (xs ++ x ∷ [])
put_more xs x = record {
  part = λ y y_in. elim (Contains-push_cases xs x y y_in) [
    | inl before ↦ inl before
    | inr e ↦ inr (sym e)
  ];
  covers = λ y among. elim among [
    | inl y_in ↦ beaten_itself (xs ++ x ∷ []) y (Contains-append_left xs (x ∷ []) y y_in)
    | inr e ↦ subst (λ (t : Proposal). IsBeaten (proposed_by (xs ++ x ∷ [])) (priced t.offer)) (sym e) (beaten_itself (xs ++ x ∷ []) x (Contains-push xs x))
  ];
}

-- KEEPING WHAT IS NOT BEATEN
pub put_passed : (xs : List Proposal) (x : Proposal) → IsBeaten (proposed_by xs) (priced x.offer) → IsPartOf (With xs x) xs
put_passed xs x beaten = record {
  part = λ y y_in. inl y_in;
  covers = λ y among. elim among [
    | inl y_in ↦ beaten_itself xs y y_in
    | inr e ↦ subst (λ (t : Proposal). IsBeaten (proposed_by xs) (priced t.offer)) (sym e) beaten
  ];
}

pub reached_push : (xs : List Proposal) (x : Proposal) (cost : ℕ) (stairs : List Stair) → AreReachedAt cost stairs (proposed_by xs ++ priced x.offer ∷ [])
    → AreReachedAt cost stairs (proposed_by (xs ++ x ∷ []))
reached_push xs x cost stairs reached = subst (AreReachedAt cost stairs) (sym (push_offers xs x)) reached

-- FRESH PROPOSALS BESIDE THOSE THAT WERE KEPT
both_offers : (made fresh : List Proposal) → proposed_by (made ++ fresh) ≡ proposed_by made ++ proposed_by fresh
both_offers made fresh = map-append (λ (y : Proposal). priced y.offer) made fresh

pub beaten_kept : (made fresh : List Proposal) (z : Priced) → IsBeaten (proposed_by made) z → IsBeaten (proposed_by (made ++ fresh)) z
beaten_kept made fresh z (y, y_in, y_z) =
    (y, subst (λ (zs : List Priced). Contains zs y) (sym (both_offers made fresh)) (Contains-append_left (proposed_by made) (proposed_by fresh) y y_in), y_z)

pub beaten_fresh : (made fresh : List Proposal) (z : Priced) → IsBeaten (proposed_by fresh) z → IsBeaten (proposed_by (made ++ fresh)) z
beaten_fresh made fresh z (y, y_in, y_z) =
    (y, subst (λ (zs : List Priced). Contains zs y) (sym (both_offers made fresh)) (Contains-append_right (proposed_by made) (proposed_by fresh) y y_in), y_z)

-- one that was kept beats it
pub propose_beaten : (made fresh : List Proposal) (x : Proposal) → IsBeaten (proposed_by made) (priced x.offer) → IsPartOf (With (made ++ fresh) x)
    (made ++ fresh)
propose_beaten made fresh x beaten = put_passed (made ++ fresh) x (beaten_kept made fresh (priced x.offer) beaten)

-- it is put to the fresh ones
pub propose_fresh : (made fresh after : List Proposal) (x : Proposal) → IsPartOf (With fresh x) after → IsPartOf (With (made ++ fresh) x) (made ++ after)
propose_fresh made fresh after x put = record {
  part = λ y y_in. elim (Contains-append_cases made after y y_in) [
    | inl early ↦ inl (Contains-append_left made fresh y early)
    | inr late ↦ elim (put.part y late) [
      | inl found ↦ inl (Contains-append_right made fresh y found)
      | inr e ↦ inr e
    ]
  ];
  covers = λ y among. elim among [
    | inl found ↦ elim (Contains-append_cases made fresh y found) [
      | inl early ↦ beaten_itself (made ++ after) y (Contains-append_left made after y early)
      | inr late ↦ beaten_fresh made after (priced y.offer) (put.covers y (inl late))
    ]
    | inr e ↦ beaten_fresh made after (priced y.offer) (put.covers y (inr e))
  ];
}

-- PARTS OF PARTS
-- a part of a set, and of another set besides
pub part_more : (A B C : Proposal → Type 0) (xs zs : List Proposal) → IsPartOf A xs → Adds B xs zs
    → ((q : Proposal) → A q → C q) → ((q : Proposal) → B q → C q) → ((q : Proposal) → C q → A q ⊎ B q) → IsPartOf C zs
part_more A B C xs zs one both a_c b_c cases = record {
  part = λ q found. elim (both.part q found) [
    | inl in_xs ↦ a_c q (one.part q in_xs)
    | inr b ↦ b_c q b
  ];
  covers = λ q q_in. elim (cases q q_in) [
    | inl a ↦
        let (x, x_in, x_q) = beaten_parts xs (priced q.offer) (one.covers q a) in
        beaten_over (proposed_by zs) (priced x.offer) (priced q.offer) (both.covers x (inl x_in)) x_q
    | inr b ↦ both.covers q (inr b)
  ];
}

-- nothing was added, of a set of none
pub adds_none : (A : Proposal → Type 0) (xs : List Proposal) → ((q : Proposal) → A q → ⊥) → Adds A xs xs
adds_none A xs never = record {
  part = λ q found. inl found;
  covers = λ q among. elim among [
    | inl found ↦ beaten_itself xs q found
    | inr is ↦ absurd (never q is)
  ];
}

-- of one set, and then of another one
pub adds_then : (A B C : Proposal → Type 0) (xs ys zs : List Proposal) → Adds A xs ys → Adds B ys zs
    → ((q : Proposal) → A q → C q) → ((q : Proposal) → B q → C q) → ((q : Proposal) → C q → A q ⊎ B q) → Adds C xs zs
adds_then A B C xs ys zs one two a_c b_c cases =
    part_more (Or xs A) B (Or xs C) ys zs one two
    (λ q among. elim among [
      | inl found ↦ inl found
      | inr is ↦ inr (a_c q is)
    ])
    (λ q is. inr (b_c q is))
    (λ q among. elim among [
      | inl found ↦ inl (inl found)
      | inr is ↦ elim (cases q is) [
        | inl a ↦ inl (inr a)
        | inr b ↦ inr b
      ]
    ])

-- that set by another name
pub adds_as : (A B : Proposal → Type 0) (xs ys : List Proposal) → Adds A xs ys → ((q : Proposal) → A q → B q) → ((q : Proposal) → B q → A q) → Adds B xs ys
adds_as A B xs ys is to from = record {
  part = λ q found. elim (is.part q found) [
    | inl old ↦ inl old
    | inr a ↦ inr (to q a)
  ];
  covers = λ q among. elim among [
    | inl old ↦ is.covers q (inl old)
    | inr b ↦ is.covers q (inr (from q b))
  ];
}

-- of the sets that go with some, one after the other
pub adds_begin : {X : Type 0} (xs : List X) (In : X → Proposal → Type 0) (made : List Proposal) → Adds (OfSome (take 0 xs) In) made made
adds_begin xs In made = adds_none (OfSome (take 0 xs) In) made (λ q (x, (k, k_n, e), is). absurd (omega arith))

pub adds_more : {X : Type 0} (xs : List X) (In : X → Proposal → Type 0) (k : ℕ) (d : X) (old before after : List Proposal) → k < length xs
    → Adds (OfSome (take k xs) In) old before → Adds (In (get_or xs k d)) before after → Adds (OfSome (take (k + 1) xs) In) old after
adds_more {X} xs In k d old before after inside so_far one =
    adds_then (OfSome (take k xs) In) (In (get_or xs k d)) (OfSome (take (k + 1) xs) In) old before after so_far one
    (λ q (x, x_in, is). (x, still_taken xs k d inside x x_in, is)) (λ q is. (get_or xs k d, now_taken xs k d inside, is))
    (λ q (x, x_in, is). elim (taken_one xs k d inside x x_in) [
      | inl early ↦ inl (x, early, is)
      | inr e ↦ inr (subst (λ (t : X). In t q) (sym e) is)
    ])

pub adds_all : {X : Type 0} (xs : List X) (In : X → Proposal → Type 0) (k : ℕ) (old new : List Proposal) → length xs ≤ k
    → Adds (OfSome (take k xs) In) old new
    → Adds (OfSome xs In) old new
adds_all {X} xs In k old new all is = subst (λ (l : List X). Adds (OfSome l In) old new) (take_all k xs all) is

-- ONE LIST AFTER ANOTHER
pub keeps_begin : (xs made : List Proposal) → Adds (Contains (take 0 xs)) made made
keeps_begin xs made = adds_none (Contains (take 0 xs)) made (λ q (k, k_n, e). absurd (omega arith))

pub keeps_more : (xs : List Proposal) (k : ℕ) (d : Proposal) (old before after : List Proposal) → k < length xs → Adds (Contains (take k xs)) old before
    → IsPartOf (With before (get_or xs k d)) after → Adds (Contains (take (k + 1) xs)) old after
keeps_more xs k d old before after inside so_far one =
    adds_then (Contains (take k xs)) (λ q. q ≡ get_or xs k d) (Contains (take (k + 1) xs)) old before after so_far one
    (still_taken xs k d inside) (λ q e. subst (Contains (take (k + 1) xs)) (sym e) (now_taken xs k d inside))
    (λ q found. elim (taken_one xs k d inside q found) [
      | inl early ↦ inl early
      | inr e ↦ inr (sym e)
    ])

pub keeps_all : (xs : List Proposal) (k : ℕ) (old new : List Proposal) → length xs ≤ k → Adds (Contains (take k xs)) old new → Adds (Contains xs) old new
keeps_all xs k old new all is = subst (λ (l : List Proposal). Adds (Contains l) old new) (take_all k xs all) is

-- the same in another order
pub keeps_ordered : (xs zs old new : List Proposal) → IsPermutation xs zs → Adds (Contains zs) old new → Adds (Contains xs) old new
keeps_ordered xs zs old new order is =
    adds_as (Contains zs) (Contains xs) old new is (λ q found. Contains-permutation zs xs q (IsPermutation-sym xs zs order) found)
    (λ q found. Contains-permutation xs zs q order found)

-- what was proposed beside those that were kept is kept after them
pub part_kept : (A : Proposal → Type 0) (made fresh after : List Proposal) → IsPartOf A (made ++ fresh) → Adds (Contains fresh) made after
    → IsPartOf A after
part_kept A made fresh after is kept = record {
  part = λ q found. elim (kept.part q found) [
    | inl early ↦ is.part q (Contains-append_left made fresh q early)
    | inr late ↦ is.part q (Contains-append_right made fresh q late)
  ];
  covers = λ q a.
      let (x, x_in, x_q) = beaten_parts (made ++ fresh) (priced q.offer) (is.covers q a) in
      beaten_over (proposed_by after) (priced x.offer) (priced q.offer) (kept.covers x (Contains-append_cases made fresh x x_in)) x_q;
}

-- of nothing
pub adds_alone : (A : Proposal → Type 0) (none made : List Proposal) → none ≡ [] → Adds A none made → IsPartOf A made
adds_alone A none made none_is is = record {
  part = λ q found. elim (is.part q found) [
    | inl there ↦ let (k, k_n, e) = subst (λ (l : List Proposal). Contains l q) none_is there in absurd (omega arith)
    | inr a ↦ a
  ];
  covers = λ q a. is.covers q (inr a);
}

-- of itself
pub part_itself : (xs : List Proposal) → IsPartOf (Contains xs) xs
part_itself xs = record { part = λ q found. found; covers = λ q found. beaten_itself xs q found }

-- all that was proposed is kept, and nothing is fresh
pub part_turned : (made fresh after none : List Proposal) → none ≡ [] → Adds (Contains fresh) made after → IsPartOf (Contains (made ++ fresh)) (after ++ none)
part_turned made fresh after none none_is kept =
    subst (IsPartOf (Contains (made ++ fresh))) (sym (ap (λ (l : List Proposal). after ++ l) none_is ∙ append-nil after))
    (part_kept (Contains (made ++ fresh)) made fresh after (part_itself (made ++ fresh)) kept)

-- what was proposed of a set is kept alone
pub part_settled : (A : Proposal → Type 0) (none fresh made : List Proposal) → none ≡ [] → IsPartOf A fresh → Adds (Contains fresh) none made
    → IsPartOf A made
part_settled A none fresh made none_is one two = record {
  part = λ q found. elim (two.part q found) [
    | inl there ↦ let (k, k_n, e) = subst (λ (l : List Proposal). Contains l q) none_is there in absurd (omega arith)
    | inr q_in ↦ one.part q q_in
  ];
  covers = λ q a.
      let (x, x_in, x_q) = beaten_parts fresh (priced q.offer) (one.covers q a) in
      beaten_over (proposed_by made) (priced x.offer) (priced q.offer) (two.covers x (inr x_in)) x_q;
}
