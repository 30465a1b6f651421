-- The arguments of a list, one after another.
use Rattle.std.proofs.Common.{◌≡◌, ◌⊎◌, inl, inr, ℕ, zero, suc, ◌+◌, ◌-◌, ◌<◌, ◌≤◌, ◌==◌, Bool, true, false, List, [], ◌∷◌, length, take, take_all, drop, refl, sym, ap, ◌∙◌, arith, length-drop, drop-drop, if◌then◌else◌}
use Rattle.std.specs.List.{onto_first}
use Rattle.std.proofs.lemmas.List.{length-map}
use Rattle.std.proofs.lemmas.Bool.Decides.{nat_tests}
use Rattle.lib_text.specs.declared.quoting.Quoting.{Quoting}
use Rattle.lib_text.specs.declared.quoting.Quoting.TheVariants.{Outside, Hidden, Inside}
use Rattle.lib_text.specs.Strings.{quoting_after, until}
use Rattle.lib_text.specs.Arguments.{is_comma, parts_of, trimmed, unquoted, arguments_of, is_name, are_names, EndsName}

is_44 : (b : ℕ) → (b == 44) ≡ true → b ≡ 44
is_44 b e = grind (arith, nat_tests)

outside_after : (quoting : Quoting) (b : ℕ) → is_comma quoting b ≡ true → quoting_after quoting b ≡ Outside
outside_after Outside b e = rw (is_44 b e) refl
outside_after Hidden b e = refl
outside_after Inside b e = absurd (cc)

parts_nil : (quoting : Quoting) → parts_of quoting [] ≡ [] ∷ []
unfolding parts_of
parts_nil quoting = refl

parts_by : (quoting : Quoting) (b : ℕ) (bs : List ℕ) → parts_of quoting (b ∷ bs)
    ≡ (if is_comma quoting b then [] ∷ parts_of (quoting_after quoting b) bs else onto_first b (parts_of (quoting_after quoting b) bs))
unfolding parts_of
parts_by quoting b bs = refl

until_nothing : (quoting : Quoting) → until is_comma quoting [] ≡ 0
unfolding until
until_nothing quoting = refl

until_by : (quoting : Quoting) (b : ℕ) (bs : List ℕ) → until is_comma quoting (b ∷ bs) ≡ (if is_comma quoting b then 0 else suc (until is_comma (quoting_after quoting b) bs))
unfolding until
until_by quoting b bs = refl

-- no comma: one part
alone : (quoting : Quoting) (bs : List ℕ) → until is_comma quoting bs ≡ length bs → parts_of quoting bs ≡ bs ∷ []
alone quoting [] e = parts_nil quoting
alone quoting (b ∷ bs) e = by_test (is_comma quoting b) refl (alone (quoting_after quoting b) bs)
  where
    by_test : (t : Bool) → is_comma quoting b ≡ t → (until is_comma (quoting_after quoting b) bs ≡ length bs → parts_of (quoting_after quoting b) bs ≡ bs ∷ [])
        → parts_of quoting (b ∷ bs) ≡ (b ∷ bs) ∷ []
    by_test true t ih = let f = rw (until_by quoting b bs, t) at e in absurd (omega arith)
    by_test false t ih =
        let f = rw (until_by quoting b bs, t) at e in
        rw (parts_by quoting b bs, t, ih (omega arith)) refl

-- a comma: the part before it, and those after it
before_comma : (quoting : Quoting) (bs : List ℕ) (n : ℕ) → n ≡ until is_comma quoting bs → n < length bs
    → parts_of quoting bs ≡ take n bs ∷ parts_of Outside (drop (n + 1) bs)
before_comma quoting [] n e l = absurd (omega arith)
before_comma quoting (b ∷ bs) n e l = by_test (is_comma quoting b) refl (before_comma (quoting_after quoting b) bs)
  where
    Wanted : ℕ → Type 0
    Wanted m = parts_of quoting (b ∷ bs) ≡ take m (b ∷ bs) ∷ parts_of Outside (drop (m + 1) (b ∷ bs))

    next : (m : ℕ) → is_comma quoting b ≡ false → parts_of (quoting_after quoting b) bs ≡ take m bs ∷ parts_of Outside (drop (m + 1) bs) → Wanted (suc m)
    next m t h = let k : suc m + 1 ≡ suc (m + 1) = omega arith in rw (parts_by quoting b bs, t, h, k) refl

    by_test : (t : Bool) → is_comma quoting b ≡ t
        → ((m : ℕ) → m ≡ until is_comma (quoting_after quoting b) bs → m < length bs → parts_of (quoting_after quoting b) bs ≡ take m bs ∷ parts_of Outside (drop (m + 1) bs))
        → Wanted n
    by_test true t ih =
        let f = rw (until_by quoting b bs, t) at e in
        rw (f, parts_by quoting b bs, t, outside_after quoting b t) refl
    by_test false t ih =
        let f : n ≡ suc (until is_comma (quoting_after quoting b) bs) = rw (until_by quoting b bs, t) at e in
        let m = until is_comma (quoting_after quoting b) bs in
        rw f (next m t (ih m refl (omega (arith, f))))

some_part : (quoting : Quoting) (bs : List ℕ) → 0 < length (parts_of quoting bs)
some_part quoting [] = rw (parts_nil quoting) (omega arith)
some_part quoting (b ∷ bs) = rw (parts_by quoting b bs) (by_test (is_comma quoting b) (parts_of (quoting_after quoting b) bs))
  where
    by_test : (t : Bool) (parts : List (List ℕ)) → 0 < length (if t then [] ∷ parts else onto_first b parts)
    by_test true parts = omega arith
    by_test false [] = omega arith
    by_test false (x ∷ parts) = omega arith

low_or_high : (a b : ℕ) → (a < b) ⊎ (b ≤ a)
low_or_high a zero = inr (omega arith)
low_or_high zero (suc b) = inl (omega arith)
low_or_high (suc a) (suc b) = elim (low_or_high a b) [ inl h ↦ inl (omega arith) | inr h ↦ inr (omega arith) ]

module _ (list : List ℕ) (at end : ℕ) (in_list : at ≤ length list) (e : end ≡ at + until is_comma Outside (drop at list)) (within : end ≤ length list) where
  here : end - at ≡ until is_comma Outside (drop at list)
  here = omega (arith, e)

  last : end ≡ length list → parts_of Outside (drop at list) ≡ take (end - at) (drop at list) ∷ []
  last h =
      let w : take (end - at) (drop at list) ≡ drop at list = take_all (end - at) (drop at list) (omega (arith, length-drop at list)) in
      rw w (alone Outside (drop at list) (omega (arith, e, length-drop at list)))

  more : end < length list → parts_of Outside (drop at list) ≡ take (end - at) (drop at list) ∷ parts_of Outside (drop (end + 1) list)
  more h =
      let k : at + (end - at + 1) ≡ end + 1 = omega (arith, e) in
      let d : drop (end - at + 1) (drop at list) ≡ drop (end + 1) list = drop-drop (end - at + 1) at list ∙ ap (λ n. drop n list) k in
      before_comma Outside (drop at list) (end - at) here (omega (arith, length-drop at list)) ∙ ap (λ xs. take (end - at) (drop at list) ∷ parts_of Outside xs) d

  pub ends_name : is_name (unquoted (trimmed (take (end - at) (drop at list)))) ≡ true → EndsName list at end
  ends_name h = record {
    from = omega (arith, e);
    within = within;
    last = λ l. rw (last l, h) refl;
    more = λ l. rw (more l, h) refl;
  }

  pub no_name : is_name (unquoted (trimmed (take (end - at) (drop at list)))) ≡ false → are_names (drop at list) ≡ false
  no_name h =
      elim (low_or_high end (length list)) [
        | inl l ↦ rw (more l, h) refl
        | inr l ↦ rw (last (omega arith), h) refl
      ]

one_more : (n : ℕ) → 0 < n → (suc n == 1) ≡ false
one_more n h = grind (arith, nat_tests)

same : (n : ℕ) → (n == n) ≡ true
same n = grind (arith, nat_tests)

other : (n m : ℕ) → n < m → (n == m) ≡ false
other n m h = grind (arith, nat_tests)

pub is_one : (list : List ℕ) (end : ℕ) → end ≡ until is_comma Outside list → end ≤ length list → (end == length list) ≡ (length (arguments_of list) == 1)
is_one list end e h =
    elim (low_or_high end (length list)) [
      | inl l ↦
          rw (other end (length list) l, before_comma Outside list end e l, length-map)
          (sym (one_more (length (parts_of Outside (drop (end + 1) list))) (some_part Outside (drop (end + 1) list))))
      | inr l ↦
          let k : end ≡ length list = omega arith in
          rw (k, same (length list), alone Outside list (sym e ∙ k)) refl
    ]

two_more : (n : ℕ) → 0 < n → (suc (suc n) == 2) ≡ false
two_more n h = grind (arith, nat_tests)

module _ (list : List ℕ) (end : ℕ) (e : end ≡ 0 + until is_comma Outside (drop 0 list)) (within : end ≤ length list) where
  pub not_two : end ≡ length list → (length (arguments_of list) == 2) ≡ false
  not_two h = let f : parts_of Outside list ≡ take (end - 0) list ∷ [] = last list 0 end (omega arith) e within h in rw f refl

  cut : end < length list → parts_of Outside list ≡ take end list ∷ parts_of Outside (drop (end + 1) list)
  cut low =
      let k : end - 0 ≡ end = omega arith in
      more list 0 end (omega arith) e within low ∙ rw k refl

  pub one_argument : end ≡ length list → arguments_of list ≡ unquoted (trimmed (take end list)) ∷ []
  one_argument h =
      let k : end - 0 ≡ end = omega arith in
      let f : parts_of Outside list ≡ take (end - 0) list ∷ [] = last list 0 end (omega arith) e within h in
      rw (f, k) refl

  pub more_arguments : end < length list → arguments_of list ≡ unquoted (trimmed (take end list)) ∷ arguments_of (drop (end + 1) list)
  more_arguments low = rw (cut low) refl

  module _ (after : ℕ) (low : end < length list) (f : after ≡ (end + 1) + until is_comma Outside (drop (end + 1) list)) (in_list : after ≤ length list) where
    pub are_two : after ≡ length list → arguments_of list ≡ unquoted (trimmed (take end list)) ∷ unquoted (trimmed (drop (end + 1) list)) ∷ []
    are_two h =
        let g = last list (end + 1) after (omega (arith, low)) f in_list h in
        let w : take (after - (end + 1)) (drop (end + 1) list) ≡ drop (end + 1) list =
        take_all (after - (end + 1)) (drop (end + 1) list) (omega (arith, h, length-drop (end + 1) list)) in
        rw (cut low, g, w) refl

    pub are_more : after < length list → (length (arguments_of list) == 2) ≡ false
    are_more h =
        let g = more list (end + 1) after (omega (arith, low)) f in_list h in
        rw (cut low, g, length-map (parts_of Outside (drop (after + 1) list)) (λ part. unquoted (trimmed part)))
        (two_more (length (parts_of Outside (drop (after + 1) list))) (some_part Outside (drop (after + 1) list)))
