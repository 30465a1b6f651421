-- What one turn of a release does.
use Rattle.std.proofs.Common.{◌≡◌, ◌≢◌, ℕ, ◌+◌, ◌-◌, ◌*◌, ◌<◌, ◌≤◌, true, false, ◌==◌, List, [], ◌∷◌, length, set, refl, sym, ap, ◌∙◌, arith, inl, inr, get_or, subst}
use Rattle.std.proofs.lemmas.Bool.{cases_lt, cases_eq}
use Rattle.std.proofs.lemmas.List.{map-set, get_or-set_same, get_or-set_other, length-set, get_or_past, get_or_default}
use Rattle.std.proofs.Math.Seq.{map-set_same}
use Rattle.std.proofs.Math.Logic.{∥∥₁_map}
use Rattle.std.specs.List.{Contains}
use Rattle.sol_arena.specs.declared.slot.Made.{Made}
use Rattle.sol_arena.specs.declared.slot.Made.TheVariants.{Free, Owed, Cell, Join}
use Rattle.sol_arena.specs.declared.slot.Slot.{Slot}
use Rattle.sol_arena.specs.Slots.{none, nothing, made_in, made_at, is_solution, IsSolution}
use Rattle.sol_arena.specs.Uses.{uses_of, one_if, uses_in, inner_uses, live_count}
use Rattle.sol_arena.specs.Invariant.{links, is_free, is_owed, followed, owed_count, IsKept, IsArena, IsOrderOf}
use Rattle.sol_arena.specs.Changes.{GainsUse}
use Rattle.sol_arena.specs.Steps.{IsChain, IsGiving, IsTurn, IsTurnOn}
use Rattle.sol_arena.proofs.OneLemmas.{one_same, one_other, in_rest, in_cases}
use Rattle.sol_arena.proofs.CountLemmas.{inner_uses-set, followed-set, live_count-set, owed_count-set, length-made_in, is_there, made_read}
use Rattle.sol_arena.proofs.OrderLemmas.{order_less}
use Rattle.sol_arena.proofs.MakeLemmas.{made_of_slot, made_some}

pub used_less : (slots : List Slot) (s : ℕ) (slot : Slot) → slot ≡ get_or slots s slot → s < length slots → 1 < uses_of slots s
    → GainsUse (set slots s (record { made = slot.made; uses = slot.uses - 1 })) slots s
used_less slots s slot is s_in more =
    let new : Slot = record { made = slot.made; uses = slot.uses - 1 } in
    record {
      same = sym (map-set_same (λ x. x.made) slots s new slot (ap (λ x. x.made) is));
      uses = λ t some. elim (cases_eq s t) [
        | inl e ↦
            let now : uses_of (set slots s new) s ≡ slot.uses - 1 = ap (λ x. x.uses) (get_or-set_same slots s new nothing s_in) in
            let was : slot.uses ≡ uses_of slots s = ap (λ x. x.uses) (is ∙ get_or_default slots s slot nothing s_in) in
            rw (sym e) (omega (arith, now, was, more, one_same s s refl))
        | inr other ↦
            let same : uses_of (set slots s new) t ≡ uses_of slots t = ap (λ x. x.uses) (get_or-set_other slots s t new nothing (λ e. other (sym e))) in
            omega (arith, same, one_other s t other)
      ];
    }

-- a slot with a use is there
pub used_within : (slots : List Slot) (s : ℕ) → 0 < uses_of slots s → s < length slots
used_within slots s some =
    elim (cases_lt s (length slots)) [
      | inl within ↦ within
      | inr past ↦ absurd (omega (arith, some, ap (λ x. x.uses) (get_or_past slots s nothing past)))
    ]

pub read_made : (slots : List Slot) (i : ℕ) (slot : Slot) (m : Made) → slot ≡ get_or slots i slot → i < length slots → slot.made ≡ m → made_at (made_in slots) i ≡ m
read_made slots i slot m is i_in was = sym (made_read slots i slot i_in) ∙ sym (ap (λ x. x.made) is) ∙ was

pub read_uses : (slots : List Slot) (i : ℕ) (slot : Slot) → slot ≡ get_or slots i slot → i < length slots → slot.uses ≡ uses_of slots i
read_uses slots i slot is i_in = ap (λ x. x.uses) (is ∙ get_or_default slots i slot nothing i_in)

-- what a use is to be given up of has one
pub giving_within : (slots : List Slot) (free first sol : ℕ) → IsGiving slots free first sol → sol ≢ none → sol < length slots
giving_within slots free first sol giving some = used_within slots sol (omega (arith, giving.kept.counted sol some, one_same sol sol refl))

pub giving_used : (slots : List Slot) (free first sol : ℕ) → IsGiving slots free first sol → sol ≢ none → 0 < uses_of slots sol
giving_used slots free first sol giving some = omega (arith, giving.kept.counted sol some, one_same sol sol refl)

-- the slots of a chain owe a use
pub chain_owes : (ms : List Made) (first : ℕ) (chain : List ℕ) → IsChain ms first chain → (x : ℕ) → Contains chain x → is_owed (made_at ms x) ≡ true
chain_owes ms first [] linked x (k, k_n, e) = absurd (omega arith)
chain_owes ms first (y ∷ rest) linked x found =
    elim (in_cases y rest x found) [
      | inl e ↦ ap (λ z. is_owed (made_at ms z)) (sym e) ∙ ap is_owed linked.3.2
      | inr later ↦ chain_owes ms linked.3.1 rest linked.3.3 x later
    ]

-- a chain stays where a slot changes that is not of it
pub chain_set : (ms : List Made) (i : ℕ) (m : Made) (first : ℕ) (chain : List ℕ) → (Contains chain i → ⊥) → IsChain ms first chain → IsChain (set ms i m) first chain
chain_set ms i m first [] out linked = linked
chain_set ms i m first (y ∷ rest) out linked =
    let y_i : y ≢ i = λ e. out (0, omega arith, e) in
    (linked.0, omega (arith, linked.1, length-set ms i m), linked.2, (linked.3.0, linked.3.1, get_or-set_other ms i y m (Owed none none) y_i ∙ linked.3.2, chain_set ms i m linked.3.1 rest (λ found. out (in_rest y rest i found)) linked.3.3))

pub no_solution_owes : (m : Made) → is_solution m ≡ true → is_owed m ≡ true → ⊥
no_solution_owes (Free next) is owed = cc
no_solution_owes (Owed to next) is owed = cc
no_solution_owes (Cell node rep below) is owed = cc
no_solution_owes (Join a b) is owed = cc

-- The slot i, which was no free one, has no solution any more. Its last use was given up, and of what it was made of
-- one use is to be given up next, of `next`. Free slots are still chained.
pub record IsGone (old : List Slot) (free free' sol next i : ℕ) (slot : Slot) : Type 0 where
  pub within : i < length old
  pub gone : is_solution slot.made ≡ false
  pub unused : slot.uses ≡ 0
  pub taken : is_free (made_at (made_in old) i) ≡ false
  pub last : uses_of old i ≡ one_if (sol == i)
  pub debts : (t : ℕ) → t ≢ none → t ≢ i → one_if (sol == t) ≡ 0
  pub split : (t : ℕ) → t ≢ none → uses_in (made_at (made_in old) i) t ≡ uses_in slot.made t + one_if (next == t)
  pub others_linked : (t : ℕ) → t ≢ none → t ≢ i → links slot.made t + one_if (free' == t) ≡ one_if (free == t)
  pub here_linked : one_if (free == i) ≡ 0 → links slot.made i + one_if (free' == i) ≡ one_if (is_free slot.made)
  pub linkless : (t : ℕ) → links (made_at (made_in old) i) t ≡ 0
  pub lighter : one_if (is_owed slot.made) < 2 * one_if (is_solution (made_at (made_in old) i)) + one_if (is_owed (made_at (made_in old) i))

module _ (old : List Slot) (free first free' first' sol next i : ℕ) (slot : Slot)
    (giving : IsGiving old free first sol) (g : IsGone old free free' sol next i slot) where
  i_made : i < length (made_in old)
  i_made = omega (arith, length-made_in old, g.within)

  i_some : i ≢ none
  i_some e = omega (arith, e, g.within, giving.kept.room)

  after_made_in : made_in (set old i slot) ≡ set (made_in old) i slot.made
  after_made_in = map-set (λ x. x.made) old i slot

  after_here : made_at (made_in (set old i slot)) i ≡ slot.made
  after_here = made_of_slot (set old i slot) i ∙ ap (λ x. x.made) (get_or-set_same old i slot nothing g.within)

  after_other : (t : ℕ) → t ≢ i → made_at (made_in (set old i slot)) t ≡ made_at (made_in old) t
  after_other t other = made_of_slot (set old i slot) t ∙ ap (λ x. x.made) (get_or-set_other old i t slot nothing other) ∙ sym (made_of_slot old t)

  uses_here : uses_of (set old i slot) i ≡ 0
  uses_here = ap (λ x. x.uses) (get_or-set_same old i slot nothing g.within) ∙ g.unused

  uses_other : (t : ℕ) → t ≢ i → uses_of (set old i slot) t ≡ uses_of old t
  uses_other t other = ap (λ x. x.uses) (get_or-set_other old i t slot nothing other)

  inner_after : (t : ℕ) → t ≢ none → inner_uses (made_in (set old i slot)) t + one_if (next == t) ≡ inner_uses (made_in old) t
  inner_after t some = omega (arith, ap (λ ms. inner_uses ms t) after_made_in, inner_uses-set (made_in old) i t slot.made i_made, g.split t some)

  follow_after : (t : ℕ) → followed (made_in (set old i slot)) t ≡ followed (made_in old) t + links slot.made t
  follow_after t = omega (arith, ap (λ ms. followed ms t) after_made_in, followed-set (made_in old) i t slot.made i_made, g.linkless t)

  gone_kept : IsKept (set old i slot) free' next
  gone_kept =
      record {
        room = omega (arith, giving.kept.room, length-set old i slot);
        counted = λ t some. elim (cases_eq t i) [
          | inl e ↦
              let here : inner_uses (made_in (set old i slot)) i + one_if (next == i) ≡ inner_uses (made_in old) i = inner_after i i_some in
              rw e (omega (arith, here, giving.kept.counted i i_some, g.last))
          | inr other ↦ omega (arith, inner_after t some, uses_other t other, giving.kept.counted t some)
        ];
        small = λ t some. elim (cases_eq t i) [
          | inl e ↦ rw e (omega (arith, uses_here))
          | inr other ↦ omega (arith, inner_after t some, uses_other t other, giving.kept.small t some, g.debts t some other)
        ];
        used = λ t is. elim (cases_eq t i) [
          | inl e ↦
              let clash : true ≡ false = sym is ∙ ap (λ y. is_solution (made_at (made_in (set old i slot)) y)) e ∙ ap is_solution after_here ∙ g.gone in
              absurd (cc)
          | inr other ↦ omega (arith, uses_other t other, giving.kept.used t (ap is_solution (sym (after_other t other)) ∙ is))
        ];
        unused = λ t not. elim (cases_eq t i) [
          | inl e ↦ ap (uses_of (set old i slot)) e ∙ uses_here
          | inr other ↦ uses_other t other ∙ giving.kept.unused t (ap is_solution (sym (after_other t other)) ∙ not)
        ];
        chained = λ t some. elim (cases_eq t i) [
          | inl e ↦ rw e (
              let first : one_if (free == i) ≡ 0 = omega (arith, giving.kept.chained i i_some, ap one_if g.taken) in
              omega (arith, follow_after i, giving.kept.chained i i_some, ap one_if g.taken, g.here_linked first, ap (λ m. one_if (is_free m)) after_here))
          | inr other ↦ omega (arith, follow_after t, giving.kept.chained t some, g.others_linked t some other, ap (λ m. one_if (is_free m)) (after_other t other))
        ];
      }

  gone_turn : IsTurn old (set old i slot) sol next
  gone_turn =
      record {
        held = λ t some. elim (cases_eq t i) [
          | inl e ↦ rw e (omega (arith, inner_after i i_some, uses_here, g.last))
          | inr other ↦ omega (arith, inner_after t some, uses_other t other, g.debts t some other)
        ];
        same = λ t is. elim (cases_eq t i) [
          | inl e ↦
              let clash : true ≡ false = sym is ∙ ap (λ y. is_solution (made_at (made_in (set old i slot)) y)) e ∙ ap is_solution after_here ∙ g.gone in
              absurd (cc)
          | inr other ↦ after_other t other
        ];
        lengths = length-set old i slot;
      }

  gone_order : (order : List ℕ) → IsOrderOf (made_in old) order → IsOrderOf (made_in (set old i slot)) order
  gone_order order orders =
      record {
        ordered = order_less (made_in old) (made_in (set old i slot)) (omega (arith, length-made_in old, length-made_in (set old i slot), length-set old i slot))
            (λ s x some. elim (cases_eq s i) [
              | inl e ↦ rw e (omega (arith, ap (λ m. uses_in m x) after_here, g.split x some))
              | inr other ↦ omega (arith, ap (λ m. uses_in m x) (after_other s other))
            ])
            order orders.ordered;
        whole = λ s is. orders.whole s (ap is_solution (sym (gone_turn.same s is)) ∙ is);
      }

  gone_live : live_count (made_in (set old i slot)) + one_if (is_solution (made_at (made_in old) i)) ≡ live_count (made_in old)
  gone_live = omega (arith, ap live_count after_made_in, live_count-set (made_in old) i slot.made i_made, ap one_if g.gone)

  gone_owed : owed_count (made_in (set old i slot)) + one_if (is_owed (made_at (made_in old) i)) ≡ owed_count (made_in old) + one_if (is_owed slot.made)
  gone_owed = omega (arith, ap owed_count after_made_in, owed_count-set (made_in old) i slot.made i_made)

  -- the turn that this is, where the slots of a chain owe a use each
  pub gone_on : (chain : List ℕ) → IsChain (set (made_in old) i slot.made) first' chain
      → owed_count (made_in old) + one_if (is_owed slot.made) ≡ length chain + one_if (is_owed (made_at (made_in old) i))
      → IsTurnOn old (set old i slot) free' first' sol next
  gone_on chain linked whole =
      record {
        giving = record {
          kept = gone_kept;
          acyclic = ∥∥₁_map giving.acyclic (λ (order, orders). (order, gone_order order orders));
          chain = chain;
          linked = subst (λ ms. IsChain ms first' chain) (sym after_made_in) linked;
          whole = omega (arith, whole, gone_owed);
        };
        turn = gone_turn;
        less = omega (arith, gone_live, gone_owed, g.lighter);
      }

-- the last use of a cell is given up
pub dropped_cell : (old : List Slot) (free first sol node rep below : ℕ) → IsGiving old free first sol → uses_of old sol ≡ 1
    → made_at (made_in old) sol ≡ Cell node rep below
    → IsTurnOn old (set old sol (record { made = Free free; uses = 0 })) sol first sol below
dropped_cell old free first sol node rep below giving last was =
    let out : Contains giving.chain sol → ⊥ = λ found. no_solution_owes (made_at (made_in old) sol) (ap is_solution was) (chain_owes (made_in old) first giving.chain giving.linked sol found) in
    gone_on old free first sol first sol below sol (record { made = Free free; uses = 0 }) giving
    (record {
      within = omega (arith, length-made_in old, is_there (made_in old) sol is_solution refl (ap is_solution was));
      gone = refl;
      unused = refl;
      taken = ap is_free was;
      last = omega (arith, last, one_same sol sol refl);
      debts = λ t _ other. one_other sol t (λ e. other (sym e));
      split = λ t _. omega (arith, ap (λ m. uses_in m t) was);
      others_linked = λ t _ other. omega (arith, one_other sol t (λ e. other (sym e)));
      here_linked = λ none_is. omega (arith, none_is, one_same sol sol refl);
      linkless = λ t. ap (λ m. links m t) was;
      lighter = omega (arith, ap (λ m. one_if (is_solution m)) was);
    })
    giving.chain (chain_set (made_in old) sol (Free free) first giving.chain out giving.linked)
    (omega (arith, giving.whole, ap (λ m. one_if (is_owed m)) was))

-- the last use of a join is given up
pub dropped_join : (old : List Slot) (free first sol a b : ℕ) → IsGiving old free first sol → uses_of old sol ≡ 1
    → made_at (made_in old) sol ≡ Join a b
    → IsTurnOn old (set old sol (record { made = Owed b first; uses = 0 })) free sol sol a
dropped_join old free first sol a b giving last was =
    let sol_in : sol < length (made_in old) = is_there (made_in old) sol is_solution refl (ap is_solution was) in
    let out : Contains giving.chain sol → ⊥ = λ found. no_solution_owes (made_at (made_in old) sol) (ap is_solution was) (chain_owes (made_in old) first giving.chain giving.linked sol found) in
    let here : made_at (set (made_in old) sol (Owed b first)) sol ≡ Owed b first = get_or-set_same (made_in old) sol (Owed b first) (Owed none none) sol_in in
    gone_on old free first free sol sol a sol (record { made = Owed b first; uses = 0 }) giving
    (record {
      within = omega (arith, length-made_in old, sol_in);
      gone = refl;
      unused = refl;
      taken = ap is_free was;
      last = omega (arith, last, one_same sol sol refl);
      debts = λ t _ other. one_other sol t (λ e. other (sym e));
      split = λ t _. omega (arith, ap (λ m. uses_in m t) was);
      others_linked = λ t _ other. omega arith;
      here_linked = λ none_is. omega (arith, none_is);
      linkless = λ t. ap (λ m. links m t) was;
      lighter = omega (arith, ap (λ m. one_if (is_solution m)) was);
    })
    (sol ∷ giving.chain)
    (refl, omega (arith, sol_in, length-set (made_in old) sol (Owed b first)), out, (b, first, here, chain_set (made_in old) sol (Owed b first) first giving.chain out giving.linked))
    (omega (arith, giving.whole, ap (λ m. one_if (is_owed m)) was))

-- the first of the chain owes a use
pub first_owes : (old : List Slot) (free first sol : ℕ) → IsGiving old free first sol → first ≢ none → (to : ℕ) × (next : ℕ) × (made_at (made_in old) first ≡ Owed to next) × (first < length old)
first_owes old free first sol giving some = go giving.chain giving.linked where
  go : (chain : List ℕ) → IsChain (made_in old) first chain → (to : ℕ) × (next : ℕ) × (made_at (made_in old) first ≡ Owed to next) × (first < length old)
  go [] linked = absurd (some linked)
  go (x ∷ rest) linked = (linked.3.0, linked.3.1, ap (made_at (made_in old)) linked.0 ∙ linked.3.2, omega (arith, linked.0, linked.1, length-made_in old))

-- the first of the chain pays
pub paid_first : (old : List Slot) (free first to next : ℕ) → IsGiving old free first none → first ≢ none
    → made_at (made_in old) first ≡ Owed to next
    → IsTurnOn old (set old first (record { made = Free free; uses = 0 })) first next none to
paid_first old free first to next giving some was = go giving.chain giving.linked giving.whole where
  go : (chain : List ℕ) → IsChain (made_in old) first chain → owed_count (made_in old) ≡ length chain
      → IsTurnOn old (set old first (record { made = Free free; uses = 0 })) first next none to
  go [] linked whole = absurd (some linked)
  go (x ∷ rest) linked whole =
      let owes : Owed to next ≡ Owed linked.3.0 linked.3.1 = sym was ∙ ap (made_at (made_in old)) linked.0 ∙ linked.3.2 in
      let next_is : linked.3.1 ≡ next = cc in
      let out : Contains rest first → ⊥ = rw linked.0 linked.2 in
      let rest_linked : IsChain (made_in old) next rest = subst (λ n. IsChain (made_in old) n rest) next_is linked.3.3 in
      gone_on old free first first next none to first (record { made = Free free; uses = 0 }) giving
      (record {
        within = omega (arith, linked.0, linked.1, length-made_in old);
        gone = refl;
        unused = refl;
        taken = ap is_free was;
        last = giving.kept.unused first (ap is_solution was) ∙ sym (one_other none first (λ e. some (sym e)));
        debts = λ t t_some _. one_other none t (λ e. t_some (sym e));
        split = λ t _. omega (arith, ap (λ m. uses_in m t) was);
        others_linked = λ t _ other. omega (arith, one_other first t (λ e. other (sym e)));
        here_linked = λ none_is. omega (arith, none_is, one_same first first refl);
        linkless = λ t. ap (λ m. links m t) was;
        lighter = omega (arith, ap (λ m. one_if (is_owed m)) was);
      })
      rest (chain_set (made_in old) first (Free free) next rest out rest_linked)
      (omega (arith, whole, ap (λ m. one_if (is_owed m)) was))

-- a use less, where others are left
pub lessened : (old new : List Slot) (free first sol : ℕ) → IsGiving old free first sol → GainsUse new old sol → (sol ≢ none → 1 < uses_of old sol)
    → IsGiving new free first none × IsTurn old new sol none
lessened old new free first sol giving once more =
    let no_next : (t : ℕ) → t ≢ none → one_if (none == t) ≡ 0 = λ t some. one_other none t (λ e. some (sym e)) in
    let same : (t : ℕ) → made_at (made_in new) t ≡ made_at (made_in old) t = λ t. ap (λ ms. made_at ms t) (sym once.same) in
    let inner_same : (t : ℕ) → inner_uses (made_in new) t ≡ inner_uses (made_in old) t = λ t. ap (λ ms. inner_uses ms t) (sym once.same) in
    let lengths : length new ≡ length old = omega (arith, ap length once.same, length-made_in new, length-made_in old) in
    let room : length (made_in old) ≤ none = omega (arith, giving.kept.room, length-made_in old) in
    let none_new : uses_of new none ≡ 0 = ap (λ x. x.uses) (get_or_past new none nothing (omega (arith, giving.kept.room, lengths))) in (
      record {
        kept = record {
          room = omega (arith, giving.kept.room, lengths);
          counted = λ t some. omega (arith, once.uses t some, inner_same t, giving.kept.counted t some, no_next t some);
          small = λ t some. omega (arith, once.uses t some, inner_same t, giving.kept.small t some, no_next t some);
          used = λ t is.
              let was : IsSolution (made_in old) t = ap is_solution (sym (same t)) ∙ is in
              let some : t ≢ none = made_some (made_in old) room t was in
              elim (cases_eq sol t) [
                | inl e ↦
                    let sol_more : 1 < uses_of old t = subst (λ x. 1 < uses_of old x) e (more (λ n. some (sym e ∙ n))) in
                    omega (arith, once.uses t some, sol_more, one_same sol t e)
                | inr other ↦ omega (arith, once.uses t some, giving.kept.used t was, one_other sol t other)
              ];
          unused = λ t not. elim (cases_eq t none) [
            | inl e ↦ ap (uses_of new) e ∙ none_new
            | inr some ↦ omega (arith, once.uses t some, giving.kept.unused t (ap is_solution (sym (same t)) ∙ not))
          ];
          chained = λ t some. omega (arith, giving.kept.chained t some, ap (λ ms. followed ms t) once.same, ap (λ m. one_if (is_free m)) (same t));
        };
        acyclic = ∥∥₁_map giving.acyclic (λ (order, orders). (order, subst (λ ms. IsOrderOf ms order) once.same orders));
        chain = giving.chain;
        linked = subst (λ ms. IsChain ms first giving.chain) once.same giving.linked;
        whole = ap owed_count (sym once.same) ∙ giving.whole;
      },
      record {
        held = λ t some. omega (arith, once.uses t some, inner_same t, no_next t some);
        same = λ t is. same t;
        lengths = lengths;
      },
    )

pub giving_end : (slots : List Slot) (free first : ℕ) → IsGiving slots free first none → first ≡ none → IsArena slots free
giving_end slots free first giving done =
    record { kept = giving.kept; settled = giving.whole ∙ go giving.chain giving.linked; acyclic = giving.acyclic } where
      go : (chain : List ℕ) → IsChain (made_in slots) first chain → length chain ≡ 0
      go [] linked = refl
      go (x ∷ rest) linked = absurd (omega (arith, linked.0, linked.1, length-made_in slots, giving.kept.room, done))
