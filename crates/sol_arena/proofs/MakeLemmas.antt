-- What a new solution does to an arena.
use Rattle.std.proofs.Common.{◌≡◌, ◌≢◌, ℕ, suc, ◌+◌, ◌*◌, ◌^◌, ◌<◌, ◌≤◌, true, false, ◌==◌, List, [], ◌∷◌, ◌++◌, length, set, refl, sym, ap, ◌∙◌, arith, inl, inr, get_or, subst}
use Rattle.std.proofs.lemmas.Bool.{cases_lt, cases_eq, cases_Bool}
use Rattle.std.proofs.lemmas.List.{map-set, map_push, get_or-set_same, get_or-set_other, length-set, length-append}
use Rattle.std.proofs.Math.ListN.{get_or-map, get_or-append}
use Rattle.std.proofs.Math.Seq.{map-set_same, get_or-append_seam}
use Rattle.std.proofs.lemmas.List.{get_or_past, get_or_default}
use Rattle.std.proofs.Math.Logic.{∥∥₁_elim, ∥∥₁_map}
use Rattle.std.proofs.Props.{props}
use Rattle.std.proofs.lemmas.List.Sums.{sum_by-cons}
use Rattle.sol_arena.specs.declared.slot.Made.{Made}
use Rattle.sol_arena.specs.declared.slot.Made.TheVariants.{Free, Owed, Cell, Join}
use Rattle.sol_arena.specs.declared.slot.Slot.{Slot}
use Rattle.sol_arena.specs.Slots.{none, nothing, slot_at, made_in, made_at, is_solution, IsSolution, IsLive}
use Rattle.sol_arena.specs.Uses.{uses_of, one_if, uses_in, inner_uses, live_count}
use Rattle.sol_arena.specs.Meanings.{cells_by, cells_of, cells_within}
use Rattle.sol_arena.specs.Invariant.{links, is_free, is_owed, followed, owed_count, IsKept, IsArena, IsOrderOf}
use Rattle.sol_arena.specs.Changes.{GainsUse, IsNew}
use Rattle.sol_arena.specs.Steps.{IsPlaced, GivesUses}
use Rattle.sol_arena.proofs.OneLemmas.{one_same, one_other}
use Rattle.sol_arena.proofs.MeaningLemmas.{cells_alike, made_alike, steady, none_bare, none_made}
use Rattle.sol_arena.proofs.OrderLemmas.{order_more, order_short, without}
use Rattle.sol_arena.proofs.CountLemmas.{past_owed, no_uses_in, uses_in-le, inner_uses-set, followed-set, live_count-set, owed_count-set, inner_uses-push, followed-push, live_count-push, owed_count-push, length-made_in, is_there}

pub made_of_slot : (slots : List Slot) (t : ℕ) → made_at (made_in slots) t ≡ (slot_at slots t).made
made_of_slot slots t = get_or-map (λ slot. slot.made) slots t nothing

pub used_once : (slots : List Slot) (s : ℕ) (slot : Slot) → slot ≡ get_or slots s slot → s < length slots
    → GainsUse slots (set slots s (record { made = slot.made; uses = slot.uses + 1 })) s
used_once slots s slot is s_in =
    record {
      same = map-set_same (λ x. x.made) slots s (record { made = slot.made; uses = slot.uses + 1 }) slot (ap (λ x. x.made) is);
      uses = λ t some. elim (cases_eq s t) [
        | inl e ↦
            let new : uses_of (set slots s (record { made = slot.made; uses = slot.uses + 1 })) s ≡ slot.uses + 1 = ap (λ x. x.uses) (get_or-set_same slots s (record { made = slot.made; uses = slot.uses + 1 }) nothing s_in) in
            let old : slot.uses ≡ uses_of slots s = ap (λ x. x.uses) (is ∙ get_or_default slots s slot nothing s_in) in
            rw (sym e) (omega (arith, new, old, one_same s s refl))
        | inr other ↦
            let same : uses_of (set slots s (record { made = slot.made; uses = slot.uses + 1 })) t ≡ uses_of slots t = ap (λ x. x.uses) (get_or-set_other slots s t (record { made = slot.made; uses = slot.uses + 1 }) nothing (λ e. other (sym e))) in
            omega (arith, same, one_other s t other)
      ];
    }

solution_no_link : (m : Made) (t : ℕ) → is_solution m ≡ true → links m t ≡ 0
solution_no_link (Free next) t is = absurd (cc)
solution_no_link (Owed to next) t is = absurd (cc)
solution_no_link (Cell node rep below) t is = refl
solution_no_link (Join a b) t is = refl

solution_not_free : (m : Made) → is_solution m ≡ true → is_free m ≡ false
solution_not_free (Free next) is = absurd (cc)
solution_not_free (Owed to next) is = absurd (cc)
solution_not_free (Cell node rep below) is = refl
solution_not_free (Join a b) is = refl

solution_not_owed : (m : Made) → is_solution m ≡ true → is_owed m ≡ false
solution_not_owed (Free next) is = absurd (cc)
solution_not_owed (Owed to next) is = absurd (cc)
solution_not_owed (Cell node rep below) is = refl
solution_not_owed (Join a b) is = refl

uses_in_few : (m : Made) (s : ℕ) → uses_in m s ≤ 2
uses_in_few (Free next) s = omega arith
uses_in_few (Owed to next) s = elim (cases_eq to s) [ inl e ↦ omega (arith, one_same to s e) | inr other ↦ omega (arith, one_other to s other) ]
uses_in_few (Cell node rep below) s = elim (cases_eq below s) [ inl e ↦ omega (arith, one_same below s e) | inr other ↦ omega (arith, one_other below s other) ]
uses_in_few (Join a b) s =
    let few : (x : ℕ) → one_if (x == s) ≤ 1 = λ x. elim (cases_eq x s) [ inl e ↦ omega (arith, one_same x s e) | inr other ↦ omega (arith, one_other x s other) ] in
    omega (arith, few a, few b)

-- no solution has more uses by others than two for each slot
pub inner_uses_few : (ms : List Made) (s : ℕ) → inner_uses ms s ≤ 2 * length ms
unfolding inner_uses
inner_uses_few [] s = omega arith
inner_uses_few (m ∷ ms) s = omega (arith, sum_by-cons (λ x. uses_in x s) m ms, uses_in_few m s, inner_uses_few ms s)

-- what a slot that is put changes
pub record IsPut (old new : List Slot) (next s : ℕ) (slot : Slot) : Type 0 where
  pub fresh : is_solution (made_at (made_in old) s) ≡ false
  pub here : slot_at new s ≡ slot
  pub others : (t : ℕ) → t ≢ s → slot_at new t ≡ slot_at old t
  pub longer : length old ≤ length new
  pub little : length new ≤ length old + 1
  pub within : s < length new
  pub inner : (t : ℕ) → t ≢ none → inner_uses (made_in new) t ≡ inner_uses (made_in old) t + uses_in slot.made t
  pub chain : (t : ℕ) → t ≢ none → followed (made_in new) t + one_if (next == t) ≡ one_if (is_free (made_at (made_in new) t))
  pub live : live_count (made_in new) ≡ live_count (made_in old) + 1
  pub owed : owed_count (made_in new) ≡ owed_count (made_in old)

pub pushed : (old : List Slot) (slot : Slot) → IsKept old none none → is_solution slot.made ≡ true → IsPut old (old ++ slot ∷ []) none (length old) slot
pushed old slot kept is_solution_new =
    let new = old ++ slot ∷ [] in
    let s = length old in
    let made_in_new : made_in new ≡ made_in old ++ slot.made ∷ [] = map_push (λ x. x.made) old slot in
    let here : slot_at new s ≡ slot = get_or-append_seam old slot [] nothing in
    let fresh : made_at (made_in old) s ≡ Owed none none = past_owed (made_in old) s (omega (arith, length-made_in old)) in
    let others : (t : ℕ) → t ≢ s → slot_at new t ≡ slot_at old t = λ t other. elim (cases_lt t s) [
      | inl within ↦ get_or-append old (slot ∷ []) nothing t within
      | inr past ↦ get_or_past new t nothing (omega (arith, length-append old (slot ∷ []), other)) ∙ sym (get_or_past old t nothing past)
    ] in
    record {
      fresh = ap is_solution fresh;
      here = here;
      others = others;
      longer = omega (arith, length-append old (slot ∷ []));
      little = omega (arith, length-append old (slot ∷ []));
      within = omega (arith, length-append old (slot ∷ []));
      inner = λ t some. ap (λ ms. inner_uses ms t) made_in_new ∙ inner_uses-push (made_in old) t slot.made;
      chain = λ t some.
          let grown : followed (made_in new) t ≡ followed (made_in old) t + links slot.made t = ap (λ ms. followed ms t) made_in_new ∙ followed-push (made_in old) t slot.made in
          let no_next : one_if (none == t) ≡ 0 = one_other none t (λ e. some (sym e)) in
          elim (cases_eq t s) [
            | inl e ↦
                let is : is_free (made_at (made_in new) t) ≡ false = ap is_free (made_of_slot new t ∙ ap (λ x. (slot_at new x).made) e ∙ ap (λ x. x.made) here) ∙ solution_not_free slot.made is_solution_new in
                let was : is_free (made_at (made_in old) t) ≡ false = ap is_free (ap (made_at (made_in old)) e ∙ fresh) in
                omega (arith, grown, no_next, solution_no_link slot.made t is_solution_new, kept.chained t some, ap one_if is, ap one_if was)
            | inr other ↦
                let is : made_at (made_in new) t ≡ made_at (made_in old) t = made_of_slot new t ∙ ap (λ x. x.made) (others t other) ∙ sym (made_of_slot old t) in
                omega (arith, grown, no_next, solution_no_link slot.made t is_solution_new, kept.chained t some, ap (λ m. one_if (is_free m)) is)
          ];
      live = ap live_count made_in_new ∙ live_count-push (made_in old) slot.made ∙ ap (λ b. live_count (made_in old) + one_if b) is_solution_new;
      owed = ap owed_count made_in_new ∙ owed_count-push (made_in old) slot.made ∙ ap (λ b. owed_count (made_in old) + one_if b) (solution_not_owed slot.made is_solution_new) ∙ omega arith;
    }

pub reused : (old : List Slot) (s next : ℕ) (slot : Slot) → IsKept old s none → s ≢ none → made_at (made_in old) s ≡ Free next → is_solution slot.made ≡ true → IsPut old (set old s slot) next s slot
reused old s next slot kept apart was is_solution_new =
    let new = set old s slot in
    let s_in : s < length old = omega (arith, length-made_in old, is_there (made_in old) s is_free refl (ap is_free was)) in
    let s_made : s < length (made_in old) = omega (arith, length-made_in old) in
    let made_in_new : made_in new ≡ set (made_in old) s slot.made = map-set (λ x. x.made) old s slot in
    let here : slot_at new s ≡ slot = get_or-set_same old s slot nothing s_in in
    let others : (t : ℕ) → t ≢ s → slot_at new t ≡ slot_at old t = λ t other. get_or-set_other old s t slot nothing other in
    record {
      fresh = ap is_solution was;
      here = here;
      others = others;
      longer = omega (arith, length-set old s slot);
      little = omega (arith, length-set old s slot);
      within = omega (arith, length-set old s slot);
      inner = λ t some. omega (arith, ap (λ ms. inner_uses ms t) made_in_new, inner_uses-set (made_in old) s t slot.made s_made, ap (λ m. uses_in m t) was);
      chain = λ t some.
          let grown : followed (made_in new) t + one_if (next == t) ≡ followed (made_in old) t = omega (arith, ap (λ ms. followed ms t) made_in_new, followed-set (made_in old) s t slot.made s_made, ap (λ m. links m t) was, solution_no_link slot.made t is_solution_new) in
          elim (cases_eq t s) [
            | inl e ↦
                let is : is_free (made_at (made_in new) t) ≡ false = ap is_free (made_of_slot new t ∙ ap (λ x. (slot_at new x).made) e ∙ ap (λ x. x.made) here) ∙ solution_not_free slot.made is_solution_new in
                let is_was : is_free (made_at (made_in old) t) ≡ true = ap is_free (ap (made_at (made_in old)) e ∙ was) in
                omega (arith, grown, kept.chained t some, one_same s t (sym e), ap one_if is, ap one_if is_was)
            | inr other ↦
                let is : made_at (made_in new) t ≡ made_at (made_in old) t = made_of_slot new t ∙ ap (λ x. x.made) (others t other) ∙ sym (made_of_slot old t) in
                omega (arith, grown, kept.chained t some, one_other s t (λ e. other (sym e)), ap (λ m. one_if (is_free m)) is)
          ];
      live = omega (arith, ap live_count made_in_new, live_count-set (made_in old) s slot.made s_made, ap (λ m. one_if (is_solution m)) was, ap one_if is_solution_new);
      owed = omega (arith, ap owed_count made_in_new, owed_count-set (made_in old) s slot.made s_made, ap (λ m. one_if (is_owed m)) was, ap one_if (solution_not_owed slot.made is_solution_new));
    }

pub placed_is_put : (old new : List Slot) (free next s : ℕ) (slot : Slot) → IsKept old free none → IsPlaced old free new next s slot → is_solution slot.made ≡ true → IsPut old new next s slot
placed_is_put old new free next s slot kept placed is_solution_new =
    elim placed.slots [
      | inl (free_none, s_is, new_is, next_is) ↦
          let old_kept : IsKept old none none = subst (λ f. IsKept old f none) free_none kept in
          rw (next_is, s_is, new_is) (pushed old slot old_kept is_solution_new)
      | inr (free_is, was, new_is) ↦
          let old_kept : IsKept old s none = subst (λ f. IsKept old f none) free_is kept in
          rw new_is (reused old s next slot old_kept placed.apart was is_solution_new)
    ]

-- the empty solution has no slot
pub made_some : (ms : List Made) → length ms ≤ none → (t : ℕ) → IsSolution ms t → t ≢ none
made_some ms room t is e =
    let clash : true ≡ false = sym is ∙ ap (λ y. is_solution (made_at ms y)) e ∙ ap is_solution (none_made ms room) in
    absurd (cc)

-- what a live solution was made of is live
pub closed_live : (slots : List Slot) (free : ℕ) → IsKept slots free none → (s x : ℕ) → IsLive (made_in slots) s → 0 < uses_in (made_at (made_in slots) s) x → IsLive (made_in slots) x
closed_live slots free kept s x s_live x_of some =
    elim (cases_Bool (is_solution (made_at (made_in slots) x))) [
      | inl is ↦ is
      | inr not ↦ absurd (omega (arith, uses_in-le (made_in slots) s x some, kept.counted x some, kept.unused x not))
    ]

-- more steps than solutions change nothing
steady_to : (ms : List Made) → length ms ≤ none → (order : List ℕ) → IsOrderOf ms order → (s : ℕ) → IsLive ms s
    → (n : ℕ) → length ms ≤ n → cells_within n ms s ≡ cells_within (suc n) ms s
steady_to ms room order orders s s_live n enough =
    elim (cases_eq s none) [
      | inl e ↦ ap (cells_within n ms) e ∙ none_bare ms room n ∙ sym (ap (cells_within (suc n) ms) e ∙ none_bare ms room (suc n))
      | inr some ↦ steady ms room order orders.ordered s (orders.whole s (s_live some)) n (omega (arith, order_short ms order orders.ordered))
    ]

pub cells_step : (ms : List Made) → length ms ≤ none → (order : List ℕ) → IsOrderOf ms order → (s : ℕ) → IsLive ms s
    → cells_of ms s ≡ cells_by (made_at ms s) (cells_within (length ms) ms)
unfolding cells_of
cells_step ms room order orders s s_live = steady_to ms room order orders s s_live (length ms) (omega arith)

cells_to : (old new : List Made) → length old ≤ none → (order : List ℕ) → IsOrderOf old order
    → length old ≤ length new → length new ≤ length old + 1
    → (s : ℕ) → IsLive old s → cells_within (length new) old s ≡ cells_of old s
unfolding cells_of
cells_to old new room order orders longer little s s_live =
    elim (cases_lt (length old) (length new)) [
      | inl more ↦
          let n_is : length new ≡ suc (length old) = omega arith in
          ap (λ n. cells_within n old s) n_is ∙ sym (steady_to old room order orders s s_live (length old) (omega arith))
      | inr same ↦
          let n_is : length new ≡ length old = omega arith in
          ap (λ n. cells_within n old s) n_is
    ]

module _ (old new : List Slot) (free next s : ℕ) (m : Made) (mid : List Slot) (arena : IsArena old free)
    (placed : IsPlaced old free mid next s (record { made = m; uses = 1 }))
    (m_made : is_solution m ≡ true)
    (live : (x : ℕ) → x ≢ none → 0 < uses_in m x → IsSolution (made_in old) x) where
  put : IsPut old mid next s (record { made = m; uses = 1 })
  put = placed_is_put old mid free next s (record { made = m; uses = 1 }) arena.kept placed m_made

  live_apart : (x : ℕ) → IsSolution (made_in old) x → x ≢ s
  live_apart x is e =
      let clash : true ≡ false = sym is ∙ ap (λ y. is_solution (made_at (made_in old) y)) e ∙ put.fresh in
      absurd (cc)

  pub made_room : (x : ℕ) → x ≢ none → 0 < uses_in m x → uses_of mid x + 2 < 2 ^ 64
  made_room x some x_of =
      let same : uses_of mid x ≡ uses_of old x = ap (λ y. y.uses) (put.others x (live_apart x (live x some x_of))) in
      omega (arith, same, arena.kept.small x some, inner_uses_few (made_in old) x, length-made_in old, arena.kept.room, one_other none x (λ e. some (sym e)))

  pub made_within : (x : ℕ) → x ≢ none → 0 < uses_in m x → x < length mid
  made_within x some x_of = omega (arith, put.longer, length-made_in old, is_there (made_in old) x is_solution refl (live x some x_of))

  mid_same : (t : ℕ) → t ≢ s → made_at (made_in mid) t ≡ made_at (made_in old) t
  mid_same t other = made_of_slot mid t ∙ ap (λ y. y.made) (put.others t other) ∙ sym (made_of_slot old t)

  mid_here : made_at (made_in mid) s ≡ m
  mid_here = made_of_slot mid s ∙ ap (λ y. y.made) put.here

  old_room : length (made_in old) ≤ none
  old_room = omega (arith, length-made_in old, arena.kept.room)

  mid_room : length (made_in mid) ≤ none
  mid_room = omega (arith, length-made_in mid, placed.room)

  not_used : (t : ℕ) → uses_in (made_at (made_in old) t) s ≡ 0
  not_used t = no_uses_in (made_in old) t s placed.apart (omega (arith, arena.kept.counted s placed.apart, arena.kept.unused s put.fresh))

  mid_order : (order : List ℕ) → IsOrderOf (made_in old) order → IsOrderOf (made_in mid) (s ∷ without s order)
  mid_order order orders =
      order_more (made_in old) (made_in mid) (omega (arith, length-made_in old, length-made_in mid, put.longer)) s (omega (arith, length-made_in mid, put.within)) mid_same not_used
      (λ x some x_of.
      let x_of_m : 0 < uses_in m x = rw (sym mid_here) x_of in
      (live x some x_of_m, live_apart x (live x some x_of_m)))
      order orders

  cells_kept : (order : List ℕ) → IsOrderOf (made_in old) order → (t : ℕ) → IsLive (made_in old) t → cells_within (length (made_in mid)) (made_in mid) t ≡ cells_of (made_in old) t
  cells_kept order orders t t_live =
      cells_alike (made_in old) (made_in mid) (IsLive (made_in old))
      (λ u u_live. elim (cases_eq u s) [
        | inl e ↦
            let clash : true ≡ false = sym (u_live (λ n. placed.apart (sym e ∙ n))) ∙ ap (λ y. is_solution (made_at (made_in old) y)) e ∙ put.fresh in
            absurd (cc)
        | inr other ↦ mid_same u other
      ])
      (λ u x u_live x_of. closed_live old free arena.kept u x u_live x_of)
      (length (made_in mid)) t t_live
      ∙ cells_to (made_in old) (made_in mid) old_room order orders (omega (arith, length-made_in old, length-made_in mid, put.longer)) (omega (arith, length-made_in old, length-made_in mid, put.little)) t t_live

  mid_cells : (order : List ℕ) → IsOrderOf (made_in old) order → (t : ℕ) → IsLive (made_in old) t → cells_of (made_in mid) t ≡ cells_of (made_in old) t
  unfolding cells_of
  mid_cells order orders t t_live = cells_kept order orders t t_live

  mid_means : (order : List ℕ) → IsOrderOf (made_in old) order → cells_of (made_in mid) s ≡ cells_by m (cells_of (made_in old))
  mid_means order orders =
      let s_live : IsLive (made_in mid) s = λ _. ap is_solution mid_here ∙ m_made in
      cells_step (made_in mid) mid_room (s ∷ without s order) (mid_order order orders) s s_live
      ∙ ap (λ k. cells_by k (cells_within (length (made_in mid)) (made_in mid))) mid_here
      ∙ made_alike m (cells_within (length (made_in mid)) (made_in mid)) (cells_of (made_in old)) (λ x x_of. cells_kept order orders x (λ some. live x some x_of))

  module _ (given : GivesUses mid new m) where
    new_uses : (t : ℕ) → t ≢ none → uses_of new t ≡ uses_of old t + uses_in m t + one_if (s == t)
    new_uses t some =
        elim (cases_eq s t) [
          | inl e ↦
              let zero_old : uses_of old s ≡ 0 = arena.kept.unused s put.fresh in
              let one_mid : uses_of mid s ≡ 1 = ap (λ y. y.uses) put.here in
              rw (sym e) (omega (arith, zero_old, one_mid, given.uses s placed.apart, one_same s s refl))
          | inr other ↦
              let same : uses_of mid t ≡ uses_of old t = ap (λ y. y.uses) (put.others t (λ e. other (sym e))) in
              omega (arith, same, given.uses t some, one_other s t other)
        ]

    pub made_new : IsNew old new s m
    made_new =
        record {
          apart = placed.apart;
          fresh = put.fresh;
          made = ap (λ ms. made_at ms s) given.same ∙ mid_here;
          others = λ t other. ap (λ ms. made_at ms t) given.same ∙ mid_same t other;
          uses = new_uses;
          inner = λ t some. ap (λ ms. inner_uses ms t) given.same ∙ put.inner t some;
          held = λ t some. omega (arith, new_uses t some, ap (λ ms. inner_uses ms t) given.same, put.inner t some, arena.kept.counted t some, one_other none t (λ e. some (sym e)));
          count = ap live_count given.same ∙ put.live;
          means = ap (λ ms. cells_of ms s) given.same ∙ ∥∥₁_elim arena.acyclic (hlevel props) (λ (order, orders). mid_means order orders);
          cells = λ t t_live. ap (λ ms. cells_of ms t) given.same ∙ ∥∥₁_elim arena.acyclic (hlevel props) (λ (order, orders). mid_cells order orders t t_live);
        }

    new_room : length (made_in new) ≤ none
    new_room = omega (arith, mid_room, ap length given.same)

    new_free : (t : ℕ) → is_free (made_at (made_in new) t) ≡ is_free (made_at (made_in mid) t)
    new_free t = ap (λ ms. is_free (made_at ms t)) given.same

    pub made_arena : IsArena new next
    made_arena =
        let no_next : (t : ℕ) → t ≢ none → one_if (none == t) ≡ 0 = λ t some. one_other none t (λ e. some (sym e)) in
        record {
          kept = record {
            room = omega (arith, placed.room, ap length given.same, length-made_in mid, length-made_in new);
            counted = λ t some. omega (arith, new_uses t some, made_new.inner t some, no_next t some, arena.kept.counted t some);
            small = λ t some. elim (cases_eq s t) [
              | inl e ↦
                  let zero_old : uses_of old t ≡ 0 = ap (uses_of old) (sym e) ∙ arena.kept.unused s put.fresh in
                  omega (arith, new_uses t some, made_new.inner t some, no_next t some, zero_old, one_same s t e)
              | inr other ↦ omega (arith, new_uses t some, made_new.inner t some, no_next t some, arena.kept.small t some, one_other s t other)
            ];
            used = λ t is.
                let some : t ≢ none = made_some (made_in new) new_room t is in
                elim (cases_eq s t) [
                  | inl e ↦ omega (arith, new_uses t some, one_same s t e)
                  | inr other ↦
                      let was : IsSolution (made_in old) t = ap is_solution (sym (made_new.others t (λ e. other (sym e)))) ∙ is in
                      omega (arith, new_uses t some, arena.kept.used t was)
                ];
            unused = λ t not. elim (cases_eq t none) [
              | inl e ↦ ap (uses_of new) e ∙ ap (λ x. x.uses) (get_or_past new none nothing (omega (arith, new_room, length-made_in new)))
              | inr some ↦
                  let other : t ≢ s = λ e. let clash : true ≡ false = sym m_made ∙ ap is_solution (sym made_new.made) ∙ ap (λ y. is_solution (made_at (made_in new) y)) (sym e) ∙ not in absurd (cc) in
                  let was : is_solution (made_at (made_in old) t) ≡ false = ap is_solution (sym (made_new.others t other)) ∙ not in
                  let no_use : uses_in m t ≡ 0 = elim (cases_lt 0 (uses_in m t)) [
                    | inl t_of ↦ let clash : true ≡ false = sym (live t some t_of) ∙ was in absurd (cc)
                    | inr past ↦ omega arith
                  ] in
                  omega (arith, new_uses t some, arena.kept.unused t was, no_use, one_other s t (λ e. other (sym e)))
            ];
            chained = λ t some. omega (arith, put.chain t some, ap (λ ms. followed ms t) given.same, ap one_if (new_free t));
          };
          settled = ap owed_count given.same ∙ put.owed ∙ arena.settled;
          acyclic = ∥∥₁_map arena.acyclic (λ (order, orders). (s ∷ without s order, rw given.same (mid_order order orders)));
        }
