-- The linear merge of two rising lists: each move puts the meet of the first pairs, and goes past each that has no more
-- time than the other.
use Rattle.std.proofs.Common.{◌≡◌, ◌⊎◌, ℕ, ◌+◌, ◌<◌, ◌≤◌, List, [], ◌∷◌, ◌++◌, length, get_or, refl, ap, ◌∙◌, subst, arith, inl, inr, pos, ◌≤ℤ◌, ◌<ℤ◌}
use Rattle.std.proofs.lemmas.Bool.{cases_lt, cases_eq}
use Rattle.std.proofs.lemmas.Int.{ints, clamps}
use Rattle.std.proofs.lemmas.List.{get_or_default}
use Rattle.std.proofs.lemmas.List.Elements.{Contains-push, Contains-append_left, All-push, All-weaker, All-nil, Contains-get_or}
use Rattle.std.proofs.lemmas.List.Quantifiers.{all_pairs_push}
use Rattle.std.specs.List.{All, AllPairs, Contains}
use Rattle.elmore.specs.Pairs.{IsUndominated, IsBelow, Dominates}
use Rattle.cand_pairs.specs.Merging.{Meets, meet}
use Rattle.elmore.specs.declared.pair.Pair.{Pair}

abbrev pub nil : Pair
nil = record { q = pos 0; c = 0 }

abbrev pub meet_at : List Pair → List Pair → ℕ → ℕ → Pair
meet_at xs ys a b = meet (get_or xs a nil) (get_or ys b nil)

-- all pairs before i in the one list or before j in the other one are covered, and what comes rises over what is there
pub record Merging (xs ys : List Pair) (i j : ℕ) (out : List Pair) : Type 0 where
  pub rising : AllPairs IsBelow out
  pub taken : All (Meets xs ys) out
  pub covers : (a b : ℕ) → a < length xs → b < length ys → (a < i) ⊎ (b < j) → (x : Pair) × Contains out x × Dominates x (meet_at xs ys a b)
  pub below : i < length xs → j < length ys → All (λ z. IsBelow z (meet_at xs ys i j)) out

pub merging_none : (xs ys : List Pair) → Merging xs ys 0 0 []
merging_none xs ys = record {
  rising = λ i j d i_j j_n. absurd (omega arith);
  taken = All-nil (Meets xs ys);
  covers = λ a b _ _ past. elim past [ inl low ↦ absurd (omega arith) | inr low ↦ absurd (omega arith) ];
  below = λ _ _. All-nil (λ (z : Pair). IsBelow z (meet_at xs ys 0 0));
}

no_less : (xs : List Pair) (i k : ℕ) → AllPairs IsBelow xs → i ≤ k → k < length xs
    → ((get_or xs i nil).q ≤ℤ (get_or xs k nil).q) × ((get_or xs i nil).c ≤ (get_or xs k nil).c)
no_less xs i k rise i_k k_n =
    elim (cases_eq i k) [
      | inl e ↦ (omega (arith, ints, ap (λ (n : ℕ). (get_or xs n nil).q) e), omega (arith, ap (λ (n : ℕ). (get_or xs n nil).c) e))
      | inr ne ↦
          let b : IsBelow (get_or xs i nil) (get_or xs k nil) = rise i k nil (omega arith) k_n in
          (omega (arith, ints, b.time), omega (arith, b.room))
    ]

-- from the places i and j to k and l: each of the two first pairs that has no more time than the other is left behind
pub record Moved (xs ys : List Pair) (i j k l : ℕ) : Type 0 where
  pub x_near : (i ≤ k) × (k ≤ i + 1)
  pub y_near : (j ≤ l) × (l ≤ j + 1)
  pub x_left : i < k → (get_or xs i nil).q ≤ℤ (get_or ys j nil).q
  pub y_left : j < l → (get_or ys j nil).q ≤ℤ (get_or xs i nil).q
  pub x_stays : k ≡ i → (get_or ys j nil).q <ℤ (get_or xs i nil).q
  pub y_stays : l ≡ j → (get_or xs i nil).q <ℤ (get_or ys j nil).q

rises_on : (xs ys : List Pair) (i j k l : ℕ) → AllPairs IsBelow xs → AllPairs IsBelow ys → Moved xs ys i j k l → k < length xs → l < length ys
    → IsBelow (meet_at xs ys i j) (meet_at xs ys k l)
rises_on xs ys i j k l xs_rise ys_rise v k_n l_n =
    elim (cases_eq k i) [
      | inl same ↦
          let y : IsBelow (get_or ys j nil) (get_or ys l nil) = ys_rise j l nil (forward same) l_n in
          let x_q : (get_or xs k nil).q ≡ (get_or xs i nil).q = ap (λ (n : ℕ). (get_or xs n nil).q) same in
          let x_c : (get_or xs k nil).c ≡ (get_or xs i nil).c = ap (λ (n : ℕ). (get_or xs n nil).c) same in
          record { time = omega (arith, ints, clamps, y.time, x_q, v.x_stays same); room = omega (arith, y.room, x_c) }
      | inr on ↦
          let x : IsBelow (get_or xs i nil) (get_or xs k nil) = xs_rise i k nil (omega (arith, v.x_near.0)) k_n in
          elim (cases_eq l j) [
            | inl same ↦
                let y_q : (get_or ys l nil).q ≡ (get_or ys j nil).q = ap (λ (n : ℕ). (get_or ys n nil).q) same in
                let y_c : (get_or ys l nil).c ≡ (get_or ys j nil).c = ap (λ (n : ℕ). (get_or ys n nil).c) same in
                record { time = omega (arith, ints, clamps, x.time, y_q, v.y_stays same); room = omega (arith, x.room, y_c) }
            | inr on_too ↦
                let y : IsBelow (get_or ys j nil) (get_or ys l nil) = ys_rise j l nil (omega (arith, v.y_near.0)) l_n in
                record { time = omega (arith, ints, clamps, x.time, y.time); room = omega (arith, x.room, y.room) }
          ]
    ]
  where
    -- where the one stays, the other one goes on
    forward : k ≡ i → j < l
    forward same = elim (cases_eq l j) [ inl both ↦ absurd (omega (arith, ints, v.x_stays same, v.y_stays both)) | inr on ↦ omega (arith, v.y_near.0) ]

-- the move
pub merging_more : (xs ys out after : List Pair) (i j k l : ℕ) → AllPairs IsBelow xs → AllPairs IsBelow ys → i < length xs → j < length ys
    → Merging xs ys i j out → after ≡ out ++ meet_at xs ys i j ∷ [] → Moved xs ys i j k l
    → Merging xs ys k l after
merging_more xs ys out after i j k l xs_rise ys_rise i_n j_n m after_is v = record {
  rising = rw after_is (all_pairs_push IsBelow out (meet_at xs ys i j) m.rising (m.below i_n j_n));
  taken = rw after_is
      (All-push (Meets xs ys) out (meet_at xs ys i j) m.taken
      (get_or xs i nil, get_or ys j nil, Contains-get_or xs i nil i_n, Contains-get_or ys j nil j_n, refl));
  covers = λ a b a_n b_n past.
      rw after_is
      (elim (cases_lt a i) [
        | inl a_i ↦ old a b a_n b_n (inl a_i)
        | inr a_i ↦ elim (cases_lt b j) [
          | inl b_j ↦ old a b a_n b_n (inr b_j)
          | inr b_j ↦ new a b a_n b_n a_i b_j past
        ]
      ]);
  below = λ k_n l_n.
      rw after_is
      (All-push (λ (z : Pair). IsBelow z (meet_at xs ys k l)) out (meet_at xs ys i j)
      (All-weaker (λ (z : Pair). IsBelow z (meet_at xs ys i j)) (λ (z : Pair). IsBelow z (meet_at xs ys k l))
      (λ z z_m.
      let on : IsBelow (meet_at xs ys i j) (meet_at xs ys k l) = rises_on xs ys i j k l xs_rise ys_rise v k_n l_n in
      record { time = omega (arith, ints, z_m.time, on.time); room = omega (arith, z_m.room, on.room) })
      out (m.below i_n j_n))
      (rises_on xs ys i j k l xs_rise ys_rise v k_n l_n));
}
  where
    old : (a b : ℕ) → a < length xs → b < length ys → (a < i) ⊎ (b < j) → (x : Pair) × Contains (out ++ meet_at xs ys i j ∷ []) x × Dominates x (meet_at xs ys a b)
    old a b a_n b_n past =
        let (x, x_in, x_dom) = m.covers a b a_n b_n past in
        (x, Contains-append_left out (meet_at xs ys i j ∷ []) x x_in, x_dom)

    new : (a b : ℕ) → a < length xs → b < length ys → i ≤ a → j ≤ b → (a < k) ⊎ (b < l) → (x : Pair) × Contains (out ++ meet_at xs ys i j ∷ []) x × Dominates x (meet_at xs ys a b)
    new a b a_n b_n a_i b_j past =
        let x = no_less xs i a xs_rise a_i a_n in
        let y = no_less ys j b ys_rise b_j b_n in (
          meet_at xs ys i j,
          Contains-push out (meet_at xs ys i j),
          record {
            time = elim past [
              | inl a_k ↦
                  let same : (get_or xs a nil).q ≡ (get_or xs i nil).q = ap (λ (n : ℕ). (get_or xs n nil).q) (omega (arith, v.x_near.1)) in
                  let left : (get_or xs i nil).q ≤ℤ (get_or ys j nil).q = v.x_left (omega arith) in
                  omega (arith, ints, clamps, same, left)
              | inr b_l ↦
                  let same : (get_or ys b nil).q ≡ (get_or ys j nil).q = ap (λ (n : ℕ). (get_or ys n nil).q) (omega (arith, v.y_near.1)) in
                  let left : (get_or ys j nil).q ≤ℤ (get_or xs i nil).q = v.y_left (omega arith) in
                  omega (arith, ints, clamps, same, left)
            ];
            room = omega (arith, x.1, y.1);
          },
        )

pub merging_all : (xs ys out : List Pair) (i j : ℕ) → Merging xs ys i j out → (length xs ≤ i) ⊎ (length ys ≤ j) → IsUndominated (Meets xs ys) out
merging_all xs ys out i j m done = record {
  rising = m.rising;
  taken = m.taken;
  covers = λ z (x, y, (a, a_n, x_at), (b, b_n, y_at), z_is).
      let x_is : get_or xs a nil ≡ x = get_or_default xs a nil x a_n ∙ x_at in
      let y_is : get_or ys b nil ≡ y = get_or_default ys b nil y b_n ∙ y_at in
      let e : meet_at xs ys a b ≡ z = cc in
      subst (λ (t : Pair). (o : Pair) × Contains out o × Dominates o t) e
      (m.covers a b a_n b_n (elim done as (λ _. (a < i) ⊎ (b < j)) [ inl all ↦ inl (omega arith) | inr all ↦ inr (omega arith) ]));
}
