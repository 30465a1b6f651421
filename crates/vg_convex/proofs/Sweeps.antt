-- A result more for an undominated list.
use Rattle.std.proofs.Common.{◌≡◌, ℕ, suc, ◌+◌, ◌-◌, ◌<◌, ◌≤◌, ◌<ℤ◌, ◌⊎◌, List, [], ◌∷◌, ◌++◌, length, get_or, set, take, cond, Option, Some, None, ◌≤ℤ◌, refl, sym, ap, ◌∙◌, subst, arith, inl, inr, ℤ}
use Rattle.std.specs.Prelude.{MatchOption}
use Rattle.std.proofs.lemmas.Int.{ints}
use Rattle.std.proofs.lemmas.List.{get_or_append_left, get_or_push, length_push, length-take-le, take_more, get_or-take, get_or_default, get_or-map, length-map, map-append, take_all, set_split, drop_all}
use Rattle.std.proofs.lemmas.List.Elements.{Contains-push_cases, Contains-push, Contains-append_left, All-push, All-weaker, All-contains}
use Rattle.std.proofs.lemmas.List.Quantifiers.{all_pairs_push}
use Rattle.std.specs.List.{All, AllPairs, Contains}
use Rattle.elmore.specs.Cells.{rep_at}
use Rattle.elmore.specs.Pairs.{IsBelow, Dominates, IsUndominated}
use Rattle.elmore.specs.declared.pair.Pair.{Pair}
use Rattle.elmore.specs.declared.rep.Rep.{Rep}
use Rattle.vg_convex.specs.Answers.{IsResultOf, IsResult, made_pairs, IsKept, IsKeptAfter, IsLast, AreSwept, found_at, found_by, found_for}
use Rattle.vg_convex.specs.Orders.{AreByInput, IsPinOf, reps_of_pins}
use Rattle.vg_convex.specs.declared.shelf.Pin.{Pin}
use Rattle.vg_convex.specs.declared.work.Found.{Found}
use Rattle.vg_convex.specs.declared.work.Made.{Made}

-- the set S' is S and m, but for what m dominates
record Adds (S S' : Pair → Type 0) (m : Pair) : Type 0 where
  more : (z : Pair) → S z → S' z
  new : S' m
  only : (z : Pair) → S' z → S z ⊎ Dominates m z

over_trans : (x y z : Pair) → Dominates x y → Dominates y z → Dominates x z
over_trans x y z a b = record { time = omega (arith, ints, a.time, b.time); room = omega (arith, a.room, b.room) }

adds_nothing : (S S' : Pair → Type 0) (xs : List Pair) (m y : Pair) → Adds S S' m → IsUndominated S xs → Contains xs y → Dominates y m → IsUndominated S' xs
adds_nothing S S' xs m y adds u y_in y_m = record {
  rising = u.rising;
  taken = All-weaker S S' adds.more xs u.taken;
  covers = λ z z_in. elim (adds.only z z_in) [
    | inl old ↦ u.covers z old
    | inr under ↦ (y, y_in, over_trans y m z y_m under)
  ];
}

adds_rises : (S S' : Pair → Type 0) (xs : List Pair) (m : Pair) → Adds S S' m → IsUndominated S xs → All (λ y. IsBelow y m) xs → IsUndominated S' (xs ++ m ∷ [])
adds_rises S S' xs m adds u above = record {
  rising = all_pairs_push IsBelow xs m u.rising above;
  taken = All-push S' xs m (All-weaker S S' adds.more xs u.taken) adds.new;
  covers = λ z z_in. elim (adds.only z z_in) [
    | inl old ↦ let (y, y_in, y_z) = u.covers z old in (y, Contains-append_left xs (m ∷ []) y y_in, y_z)
    | inr under ↦ (m, Contains-push xs m, under)
  ];
}

front_rises : (xs : List Pair) (b : Pair) → AllPairs IsBelow (xs ++ b ∷ []) → AllPairs IsBelow xs
front_rises xs b rise i j d i_j j_n =
    rw (← get_or_append_left xs (b ∷ []) d i (omega arith), ← get_or_append_left xs (b ∷ []) d j j_n)
    (rise i j d i_j (omega (arith, length_push xs b, j_n)))

front_all : {A : Type 0} (P : A → Type 0) (xs : List A) (b : A) → All P (xs ++ b ∷ []) → All P xs
front_all P xs b all k d k_n = rw (← get_or_append_left xs (b ∷ []) d k k_n) (all k d (omega (arith, length_push xs b, k_n)))

-- what is below the last pair
front_below : (xs : List Pair) (b m : Pair) → AllPairs IsBelow (xs ++ b ∷ []) → b.q ≤ℤ m.q → b.c ≤ m.c → All (λ y. IsBelow y m) xs
front_below xs b m rise time room k d k_n =
    let low : IsBelow (get_or xs k d) b =
    rw (← get_or_append_left xs (b ∷ []) d k k_n)
    (subst (λ (t : Pair). IsBelow (get_or (xs ++ b ∷ []) k d) t) (get_or_push xs b d (length xs) refl) (rise k (length xs) d k_n (omega (arith, length_push xs b)))) in
    record { time = omega (arith, ints, low.time, time); room = omega (arith, low.room, room) }

adds_instead : (S S' : Pair → Type 0) (xs : List Pair) (b m : Pair) → Adds S S' m → IsUndominated S (xs ++ b ∷ []) → Dominates m b → b.c ≤ m.c → IsUndominated S' (xs ++ m ∷ [])
adds_instead S S' xs b m adds u m_b room = record {
  rising = all_pairs_push IsBelow xs m (front_rises xs b u.rising) above;
  taken = All-push S' xs m (All-weaker S S' adds.more xs (front_all S xs b u.taken)) adds.new;
  covers = λ z z_in. elim (adds.only z z_in) [
    | inl old ↦
        let (y, y_in, y_z) = u.covers z old in
        elim (Contains-push_cases xs b y y_in) [
          | inl front ↦ (y, Contains-append_left xs (m ∷ []) y front, y_z)
          | inr last ↦ (m, Contains-push xs m, over_trans m b z m_b (subst (λ (t : Pair). Dominates t z) (sym last) y_z))
        ]
    | inr under ↦ (m, Contains-push xs m, under)
  ];
}
  where
    above : All (λ y. IsBelow y m) xs
    above = front_below xs b m u.rising m_b.time room

-- a result of a longer order
more_result : (reps : List Rep) (found : ℕ → Option Found) (order : List ℕ) (b : ℕ) (made : Made) → IsResultOf reps found order made → IsResultOf reps found (order ++ b ∷ []) made
more_result reps found order b made r = record { among = Contains-append_left order (b ∷ []) made.rep r.among; found_is = r.found_is; input = r.input }

-- a result more
adding : (reps : List Rep) (found : ℕ → Option Found) (order : List ℕ) (made : Made) → IsResultOf reps found (order ++ made.rep ∷ []) made
    → Adds (IsResult reps found order) (IsResult reps found (order ++ made.rep ∷ [])) made.pair
adding reps found order made is = record {
  more = λ z (m, r, e). (m, more_result reps found order made.rep m r, e);
  new = (made, is, refl);
  only = λ z (m, r, e). elim (Contains-push_cases order made.rep m.rep r.among) [
    | inl old ↦ inl (m, record { among = old; found_is = r.found_is; input = r.input }, e)
    | inr back ↦
        let same : m.rep ≡ made.rep = sym back in
        let here : found m.rep ≡ found made.rep = ap found same in
        let both : Some (record { time = m.pair.q; tag = m.tag }) ≡ Some (record { time = made.pair.q; tag = made.tag }) = sym r.found_is ∙ here ∙ is.found_is in
        let time : m.pair.q ≡ made.pair.q = ap (time_of made.pair.q) both in
        let room : m.pair.c ≡ made.pair.c = r.input ∙ ap (λ k. (rep_at reps k).cin) same ∙ sym is.input in
        inr (subst (Dominates made.pair) (sym e) (record { time = omega (arith, ints, time); room = omega (arith, room) }))
  ];
}
  where
    time_of : ℤ → Option Found → ℤ
    time_of z None = z
    time_of z (Some f) = f.time

-- no result of these repeaters has more input than the one that comes
inputs_below : (reps : List Rep) (found : ℕ → Option Found) (order : List ℕ) (made last : Made) → AreByInput reps (order ++ made.rep ∷ [])
    → IsResultOf reps found order last → made.pair.c ≡ (rep_at reps made.rep).cin → last.pair.c ≤ made.pair.c
inputs_below reps found order made last by_input r input =
    let (k, low, e) = r.among in
    let at : get_or (order ++ made.rep ∷ []) k 0 ≡ last.rep = get_or_append_left order (made.rep ∷ []) 0 k low ∙ get_or_default order k 0 last.rep low ∙ e in
    let end : get_or (order ++ made.rep ∷ []) (length order) 0 ≡ made.rep = get_or_push order made.rep 0 (length order) refl in
    let le : (rep_at reps (get_or (order ++ made.rep ∷ []) k 0)).cin ≤ (rep_at reps (get_or (order ++ made.rep ∷ []) (length order) 0)).cin
    = by_input k (length order) 0 low (omega (arith, length_push order made.rep)) in
    omega (arith, r.input, input, ap (λ m. (rep_at reps m).cin) at, ap (λ m. (rep_at reps m).cin) end, le)

pairs_push : (front : List Made) (last : Made) → made_pairs (front ++ last ∷ []) ≡ made_pairs front ++ last.pair ∷ []
pairs_push front last = map-append (λ (m : Made). m.pair) front (last ∷ [])

swept_after : (reps : List Rep) (found : ℕ → Option Found) (order : List ℕ) (made : Made) (front : List Made) (last : Made) (new : List Made)
    → AreByInput reps (order ++ made.rep ∷ []) → IsResultOf reps found (order ++ made.rep ∷ []) made
    → AreSwept reps found order (front ++ last ∷ []) → IsKeptAfter (front ++ last ∷ []) front last made new
    → AreSwept reps found (order ++ made.rep ∷ []) new
swept_after reps found order made front last new by_input is s kept = go kept
  where
    whole : IsUndominated (IsResult reps found order) (made_pairs front ++ last.pair ∷ [])
    whole = subst (IsUndominated (IsResult reps found order)) (pairs_push front last) s.undominated

    below : last.pair.c ≤ made.pair.c
    below =
        inputs_below reps found order made last by_input
        (All-contains (IsResultOf reps found order) (front ++ last ∷ []) last s.results (Contains-push front last)) is.input

    results : All (IsResultOf reps found (order ++ made.rep ∷ [])) (front ++ last ∷ [])
    results = All-weaker (IsResultOf reps found order) (IsResultOf reps found (order ++ made.rep ∷ [])) (more_result reps found order made.rep) (front ++ last ∷ []) s.results

    long : length (order ++ made.rep ∷ []) ≡ length order + 1
    long = length_push order made.rep

    go : IsKeptAfter (front ++ last ∷ []) front last made new → AreSwept reps found (order ++ made.rep ∷ []) new
    go (inl (less, same)) =
        subst (AreSwept reps found (order ++ made.rep ∷ [])) (sym same)
        (record {
          undominated =
              subst (IsUndominated (IsResult reps found (order ++ made.rep ∷ []))) (sym (pairs_push front last))
              (adds_nothing (IsResult reps found order) (IsResult reps found (order ++ made.rep ∷ [])) (made_pairs front ++ last.pair ∷ []) made.pair last.pair
              (adding reps found order made is) whole (Contains-push (made_pairs front) last.pair) (record { time = less; room = below }));
          results = results;
          few = omega (arith, s.few, long);
        })
    go (inr (more, inl (same, new_is))) =
        subst (AreSwept reps found (order ++ made.rep ∷ [])) (sym new_is)
        (record {
          undominated =
              subst (IsUndominated (IsResult reps found (order ++ made.rep ∷ []))) (sym (pairs_push front made))
              (adds_instead (IsResult reps found order) (IsResult reps found (order ++ made.rep ∷ [])) (made_pairs front) last.pair made.pair
              (adding reps found order made is) whole (record { time = omega (arith, ints, more); room = omega (arith, same) }) below);
          results =
              All-push (IsResultOf reps found (order ++ made.rep ∷ [])) front made (front_all (IsResultOf reps found (order ++ made.rep ∷ [])) front last results) is;
          few = omega (arith, s.few, long, length_push front last, length_push front made);
        })
    go (inr (more, inr (differ, new_is))) =
        let under : All (λ y. IsBelow y made.pair) (made_pairs front ++ last.pair ∷ [])
        = All-push (λ (y : Pair). IsBelow y made.pair) (made_pairs front) last.pair
        (front_below (made_pairs front) last.pair made.pair whole.rising (omega (arith, ints, more)) below)
        (record { time = more; room = omega (arith, below, differ) }) in
        subst (AreSwept reps found (order ++ made.rep ∷ [])) (sym new_is)
        (record {
          undominated =
              subst (IsUndominated (IsResult reps found (order ++ made.rep ∷ []))) (sym (pairs_push (front ++ last ∷ []) made ∙ ap (λ (l : List Pair). l ++ made.pair ∷ []) (pairs_push front last)))
              (adds_rises (IsResult reps found order) (IsResult reps found (order ++ made.rep ∷ [])) (made_pairs front ++ last.pair ∷ []) made.pair
              (adding reps found order made is) whole under);
          results = All-push (IsResultOf reps found (order ++ made.rep ∷ [])) (front ++ last ∷ []) made results is;
          few = omega (arith, s.few, long, length_push (front ++ last ∷ []) made);
        })

-- a result was put after those of an undominated list
pub swept_kept : (reps : List Rep) (found : ℕ → Option Found) (order : List ℕ) (made : Made) (old new : List Made)
    → AreByInput reps (order ++ made.rep ∷ []) → IsResultOf reps found (order ++ made.rep ∷ []) made → AreSwept reps found order old → IsKept old made new
    → AreSwept reps found (order ++ made.rep ∷ []) new
swept_kept reps found order made old new by_input is s (inl (none, new_is)) =
    let empty : AreSwept reps found order [] = subst (AreSwept reps found order) none s in
    subst (AreSwept reps found (order ++ made.rep ∷ [])) (sym new_is)
    (record {
      undominated =
          adds_rises (IsResult reps found order) (IsResult reps found (order ++ made.rep ∷ [])) [] made.pair (adding reps found order made is) empty.undominated
          (λ k d low. absurd (omega (arith, low)));
      results = λ k d low. All-push (IsResultOf reps found (order ++ made.rep ∷ [])) [] made (λ k d low. absurd (omega (arith, low))) is k d low;
      few = omega (arith, length_push order made.rep);
    })
swept_kept reps found order made old new by_input is s (inr (front, last, old_is, kept)) =
    swept_after reps found order made front last new by_input is (subst (AreSwept reps found order) old_is s)
    (subst (λ (l : List Made). IsKeptAfter l front last made new) old_is kept)

-- a repeater for which nothing was found
pub swept_none : (reps : List Rep) (found : ℕ → Option Found) (order : List ℕ) (b : ℕ) (kept : List Made) → found b ≡ None → AreSwept reps found order kept
    → AreSwept reps found (order ++ b ∷ []) kept
swept_none reps found order b kept none s = record {
  undominated = record {
    rising = s.undominated.rising;
    taken = All-weaker (IsResult reps found order) (IsResult reps found (order ++ b ∷ [])) (λ z (m, r, e). (m, more_result reps found order b m r, e)) (made_pairs kept) s.undominated.taken;
    covers = λ z (m, r, e). elim (Contains-push_cases order b m.rep r.among) [
      | inl old ↦ s.undominated.covers z (m, record { among = old; found_is = r.found_is; input = r.input }, e)
      | inr back ↦
          let same : m.rep ≡ b = sym back in
          let both : None ≡ Some (record { time = m.pair.q; tag = m.tag }) = sym none ∙ ap found (sym same) ∙ r.found_is in
          absurd (cc)
    ];
  };
  results = All-weaker (IsResultOf reps found order) (IsResultOf reps found (order ++ b ∷ [])) (more_result reps found order b) kept s.results;
  few = omega (arith, s.few, length_push order b);
}

front_inputs : (reps : List Rep) (order : List ℕ) (n : ℕ) → n ≤ length order → AreByInput reps order → AreByInput reps (take n order)
front_inputs reps order n few by_input i j d less low =
    let j_n : j < n = omega (arith, low, length-take-le n order few) in
    rw (get_or-take n order i d (omega (arith, j_n, less)), get_or-take n order j d j_n) (by_input i j d less (omega (arith, j_n, few)))

swept_found : (reps : List Rep) (found : ℕ → Option Found) (order : List ℕ) (b : ℕ) (kept kept' : List Made) (f : Option Found) → found b ≡ f
    → AreByInput reps (order ++ b ∷ []) → AreSwept reps found order kept
    → MatchOption f (kept' ≡ kept) (λ best. IsKept kept (record { pair = record { q = best.time; c = (rep_at reps b).cin }; rep = b; tag = best.tag }) kept')
    → AreSwept reps found (order ++ b ∷ []) kept'
swept_found reps found order b kept kept' None e by_input s same =
    subst (AreSwept reps found (order ++ b ∷ [])) (sym same) (swept_none reps found order b kept e s)
swept_found reps found order b kept kept' (Some best) e by_input s is =
    swept_kept reps found order (record { pair = record { q = best.time; c = (rep_at reps b).cin }; rep = b; tag = best.tag }) kept kept' by_input
    (record { among = Contains-push order b; found_is = e; input = refl }) s is

-- what was found for a pin's repeater
found_is : (reps : List Rep) (buffers inverters : List (Option Found)) (pin : Pin) → IsPinOf reps pin → found_by reps buffers inverters pin.rep ≡ found_for buffers inverters pin
found_is reps buffers inverters pin is = ap (λ inverts. cond inverts (found_at inverters pin.rep) (found_at buffers pin.rep)) (sym is.kind)

-- the results of one pin more
pub swept_more : (reps : List Rep) (buffers inverters : List (Option Found)) (pins : List Pin) (i : ℕ) (pin : Pin) (f : Option Found) (kept kept' : List Made)
    → All (IsPinOf reps) pins → AreByInput reps (reps_of_pins pins) → i < length pins → pin ≡ get_or pins i pin → f ≡ found_for buffers inverters pin
    → MatchOption f (kept' ≡ kept) (λ best. IsKept kept (record { pair = record { q = best.time; c = pin.cin }; rep = pin.rep; tag = best.tag }) kept')
    → AreSwept reps (found_by reps buffers inverters) (take i (reps_of_pins pins)) kept → AreSwept reps (found_by reps buffers inverters) (take (i + 1) (reps_of_pins pins)) kept'
swept_more reps buffers inverters pins i pin f kept kept' are by_input low read f_is kept_is s =
    let is : IsPinOf reps pin = subst (IsPinOf reps) (sym read) (are i pin low) in
    let order_low : i < length (reps_of_pins pins) = omega (arith, low, length-map pins (λ (x : Pin). x.rep)) in
    let at : get_or (reps_of_pins pins) i 0 ≡ pin.rep = get_or-map (λ (x : Pin). x.rep) pins i pin 0 low ∙ ap (λ (x : Pin). x.rep) (sym read) in
    let t : take (i + 1) (reps_of_pins pins) ≡ take i (reps_of_pins pins) ++ pin.rep ∷ []
    = take_more (reps_of_pins pins) i 0 order_low ∙ ap (λ m. take i (reps_of_pins pins) ++ m ∷ []) at in
    subst (λ (l : List ℕ). AreSwept reps (found_by reps buffers inverters) l kept') (sym t)
    (swept_found reps (found_by reps buffers inverters) (take i (reps_of_pins pins)) pin.rep kept kept' f
    (found_is reps buffers inverters pin is ∙ sym f_is)
    (subst (AreByInput reps) t (front_inputs reps (reps_of_pins pins) (i + 1) (omega (arith, order_low)) by_input)) s
    (subst (λ c. MatchOption f (kept' ≡ kept) (λ best. IsKept kept (record { pair = record { q = best.time; c = c }; rep = pin.rep; tag = best.tag }) kept')) is.capacitance kept_is))

-- the last of some results
pub last_pushed : (xs : List Made) (made : Made) (new : List Made) → new ≡ xs ++ made ∷ [] → IsLast new made.pair
last_pushed xs made new e =
    subst (λ (l : List Made). IsLast l made.pair) (sym e)
    (made, omega (arith, length_push xs made), sym (get_or_push xs made made (length (xs ++ made ∷ []) - 1) (omega (arith, length_push xs made))), refl)

-- a list is its front and its last
with_last : (xs : List Made) (n : ℕ) (last : Made) → n + 1 ≡ length xs → last ≡ get_or xs n last → xs ≡ take n xs ++ last ∷ []
with_last xs n last e is =
    sym (take_all (n + 1) xs (omega (arith, e))) ∙ take_more xs n last (omega (arith, e)) ∙ ap (λ (m : Made). take n xs ++ m ∷ []) (sym is)

with_new : (xs : List Made) (n : ℕ) (made : Made) → n + 1 ≡ length xs → set xs n made ≡ take n xs ++ made ∷ []
with_new xs n made e =
    set_split xs n made (omega (arith, e)) ∙ ap (λ (l : List Made). take n xs ++ made ∷ l) (drop_all (suc n) xs (omega (arith, e)))

pub kept_instead : (xs : List Made) (last : Pair) (made : Made) (new : List Made) → IsLast xs last → last.q <ℤ made.pair.q → made.pair.c ≡ last.c
    → new ≡ set xs (length xs - 1) made → IsKept xs made new
kept_instead xs last made new (m, some, read, e) more same new_is =
    inr (
      take (length xs - 1) xs,
      m,
      with_last xs (length xs - 1) m (omega (arith, some)) read,
      inr (
        subst (λ (p : Pair). p.q <ℤ made.pair.q) (sym e) more,
        inl (same ∙ sym (ap (λ (p : Pair). p.c) e), new_is ∙ with_new xs (length xs - 1) made (omega (arith, some))),
      ),
    )
