-- Exchanges of uses: they follow each other, and stand beside other candidates.
use Rattle.std.proofs.Common.{◌≡◌, ◌≢◌, ℕ, ◌+◌, ◌-◌, ◌<◌, ◌≤◌, ◌==◌, List, [], ◌∷◌, ◌++◌, length, refl, sym, ap, ◌∙◌, subst, zero, suc, inl, inr, arith}
use Rattle.std.proofs.lemmas.Bool.{cases_eq}
use Rattle.std.proofs.lemmas.List.Sums.{sum_by-cons, sum_by-append}
use Rattle.std.specs.List.{Contains}
use Rattle.sol_arena.specs.declared.arena.Arena.{Arena}
use Rattle.sol_arena.specs.declared.slot.Slot.{Slot}
use Rattle.sol_arena.specs.declared.slot.Made.{Made}
use Rattle.sol_arena.specs.Slots.{none, made_in}
use Rattle.sol_arena.specs.Uses.{one_if, held_of}
use Rattle.sol_arena.specs.Changes.{IsNew, IsReleased}
use Rattle.sol_arena.specs.Meanings.{bare, cells_of}
use Rattle.sol_arena.specs.Reach.{IsFrame, IsReached, root}
use Rattle.sol_arena.specs.Arenas.{slots_of, made_of}
use Rattle.sol_arena.proofs.CountLemmas.{length-made_in}
use Rattle.sol_arena.proofs.MeaningLemmas.{none_bare}
use Rattle.sol_arena.proofs.OneLemmas.{one_same, one_other}
use Rattle.sol_arena.proofs.ReachLemmas.{frames, reached_too, release_frame, new_frame}
use Rattle.cand_pool.specs.Candidates.{Candidate, Candidates}
use Rattle.cand_uses.specs.Uses.{uses_by, HoldsFor, HoldsBeside, IsExchange}

pub uses_of_one : (x : Candidate) (xs : Candidates) (s : ℕ) → uses_by (x ∷ xs) s ≡ one_if (x.tag == s) + uses_by xs s
uses_of_one x xs s = sum_by-cons (λ y. one_if (y.tag == s)) x xs

pub uses_of_both : (xs ys : Candidates) (s : ℕ) → uses_by (xs ++ ys) s ≡ uses_by xs s + uses_by ys s
uses_of_both xs ys s = sum_by-append (λ y. one_if (y.tag == s)) xs ys

-- what fewer uses reach stays too
pub fewer_frame : (held more : ℕ → ℕ) (a b : List Made) → ((s : ℕ) → s ≢ none → held s ≤ more s) → IsFrame more a b → IsFrame held a b
fewer_frame held more a b fewer frame = record { made = λ s reached. frame.made s (to s reached); cells = λ s reached. frame.cells s (to s reached) } where
  to : (s : ℕ) → IsReached a held s → IsReached a more s
  to = reached_too a a held more fewer (λ s reached. refl)

pub no_exchange : (slots : List Slot) (xs : Candidates) → IsExchange slots xs slots xs
no_exchange slots xs = record { held = λ others h. h; frame = λ others h. record { made = λ s reached. refl; cells = λ s reached. refl } }

pub exchange_then : (a b c : List Slot) (xs ys zs : Candidates) → IsExchange a xs b ys → IsExchange b ys c zs → IsExchange a xs c zs
exchange_then a b c xs ys zs one two = record {
  held = λ others h. two.held others (one.held others h);
  frame = λ others h. frames others (made_in a) (made_in b) (made_in c) (one.frame others h) (two.frame others (one.held others h));
}

-- of candidates that are the same
pub exchange_as : (a b : List Slot) (xs ys ys' : Candidates) → ys ≡ ys' → IsExchange a xs b ys → IsExchange a xs b ys'
exchange_as a b xs ys ys' e one = subst (λ (l : Candidates). IsExchange a xs b l) e one

pub exchange_of : (a b : List Slot) (xs xs' ys : Candidates) → xs ≡ xs' → IsExchange a xs b ys → IsExchange a xs' b ys
exchange_of a b xs xs' ys e one = subst (λ (l : Candidates). IsExchange a l b ys) e one

-- candidates of the same uses, in another order or bracketed otherwise
pub exchange_same : (a b : List Slot) (xs xs' ys ys' : Candidates) → ((s : ℕ) → uses_by xs' s ≡ uses_by xs s) → ((s : ℕ) → uses_by ys s ≡ uses_by ys' s)
    → IsExchange a xs b ys → IsExchange a xs' b ys'
exchange_same a b xs xs' ys ys' same_xs same_ys one = record {
  held = λ others h s some. omega (arith, same_ys s, one.held others (to others h) s some);
  frame = λ others h. one.frame others (to others h);
} where
  to : (others : ℕ → ℕ) → HoldsBeside a xs' others → HoldsBeside a xs others
  to others h s some = omega (arith, same_xs s, h s some)

-- beside candidates that stay
pub exchange_beside : (a b : List Slot) (ws xs ys : Candidates) → IsExchange a xs b ys → IsExchange a (ws ++ xs) b (ws ++ ys)
exchange_beside a b ws xs ys one = record {
  held = λ others h s some. omega (arith, uses_of_both ws ys s, one.held (with_ws others) (to others h) s some);
  frame = λ others h. fewer_frame others (with_ws others) (made_in a) (made_in b) (λ s some. omega arith) (one.frame (with_ws others) (to others h));
} where
  with_ws : (ℕ → ℕ) → ℕ → ℕ
  with_ws others s = uses_by ws s + others s

  to : (others : ℕ → ℕ) → HoldsBeside a (ws ++ xs) others → HoldsBeside a xs (with_ws others)
  to others h s some = omega (arith, uses_of_both ws xs s, h s some)

-- a use that is given up
pub released_one : (old new : Arena) (x : Candidate) → IsReleased (slots_of old) (slots_of new) x.tag → IsExchange (slots_of old) (x ∷ []) (slots_of new) []
released_one old new x released = record {
  held = λ others h s some. omega (arith, h s some, uses_of_one x [] s, released.held s some);
  frame = λ others h. release_frame old new others x.tag (λ s some. omega (arith, h s some, uses_of_one x [] s, released.held s some)) released;
}

-- the uses that callers hold beside some candidates
abbrev pub beside : List Slot → Candidates → ℕ → ℕ
beside slots xs s = held_of slots s - uses_by xs s

-- callers hold one use for each of the candidates that came in exchange
pub exchanged_held : (old new : List Slot) (xs ys : Candidates) → HoldsFor old xs → IsExchange old xs new ys → HoldsFor new ys
exchanged_held old new xs ys held one s some = omega (arith, one.held (beside old xs) (λ t other. omega (arith, held t other)) s some)

-- the use of the first candidate is given up
pub released_first : (old new : Arena) (x : Candidate) (xs : Candidates) → IsReleased (slots_of old) (slots_of new) x.tag → IsExchange (slots_of old) (x ∷ xs) (slots_of new) xs
released_first old new x xs released =
    exchange_same (slots_of old) (slots_of new) (xs ++ x ∷ []) (x ∷ xs) (xs ++ []) xs
    (λ s. omega (arith, uses_of_one x xs s, uses_of_one x [] s, uses_of_both xs (x ∷ []) s))
    (λ s. omega (arith, uses_of_both xs [] s))
    (exchange_beside (slots_of old) (slots_of new) xs (x ∷ []) [] (released_one old new x released))

-- a use of the first candidate is held
pub first_use : (slots : List Slot) (x : Candidate) (xs : Candidates) → HoldsFor slots (x ∷ xs) → x.tag ≢ none → 0 < held_of slots x.tag
first_use slots x xs held some = omega (arith, held x.tag some, uses_of_one x xs x.tag, one_same x.tag x.tag refl)

-- beside candidates that stay, in any order
pub exchange_among : (a b : List Slot) (ws xs ys all all' : Candidates)
    → ((s : ℕ) → uses_by all s ≡ uses_by ws s + uses_by xs s) → ((s : ℕ) → uses_by all' s ≡ uses_by ws s + uses_by ys s)
    → IsExchange a xs b ys → IsExchange a all b all'
exchange_among a b ws xs ys all all' before after one =
    exchange_same a b (ws ++ xs) all (ws ++ ys) all' (λ s. omega (arith, before s, uses_of_both ws xs s)) (λ s. omega (arith, after s, uses_of_both ws ys s))
    (exchange_beside a b ws xs ys one)

-- callers hold one use of a new solution
pub new_one : (old new : Arena) (z : Candidate) (made_so : Made) → IsNew (slots_of old) (slots_of new) z.tag made_so
    → IsExchange (slots_of old) [] (slots_of new) (z ∷ [])
new_one old new z made_so is_new = record {
  held = λ others h s some. omega (arith, h s some, uses_of_one z [] s, is_new.held s some);
  frame = λ others h. new_frame old new others z.tag made_so (λ s some. omega (arith, h s some)) is_new;
}

-- uses of the empty solution are not counted
pub empty_one : (slots : List Slot) (z : Candidate) → z.tag ≡ none → IsExchange slots [] slots (z ∷ [])
empty_one slots z empty = record {
  held = λ others h s some. omega (arith, h s some, uses_of_one z [] s, one_other z.tag s (λ e. some (sym e ∙ empty)));
  frame = λ others h. record { made = λ s reached. refl; cells = λ s reached. refl };
}

-- the empty solution has no cell at any time
pub empty_cells : (arena : Arena) → cells_of (made_of arena) none ≡ bare
unfolding cells_of
empty_cells arena =
    none_bare (made_of arena) (omega (arith, length-made_in arena.slots.items, arena.sound.kept.room)) (length (made_of arena))

uses_of_some : (ws : Candidates) (w : Candidate) → Contains ws w → 0 < uses_by ws w.tag
uses_of_some [] w (k, k_n, e) = absurd (omega arith)
uses_of_some (x ∷ ws) w (zero, k_n, e) =
    let same : x.tag ≡ w.tag = ap (λ (y : Candidate). y.tag) e in omega (arith, uses_of_one x ws w.tag, one_same x.tag w.tag same)
uses_of_some (x ∷ ws) w (suc k, k_n, e) =
    let later : Contains ws w = (k, omega arith, e) in omega (arith, uses_of_one x ws w.tag, uses_of_some ws w later)

-- a candidate beside those whose uses are exchanged keeps the cells of its solution
pub stays_same : (old new : Arena) (ws xs ys : Candidates) → HoldsFor (slots_of old) (ws ++ xs) → IsExchange (slots_of old) xs (slots_of new) ys
    → (w : Candidate) → Contains ws w → cells_of (made_of new) w.tag ≡ cells_of (made_of old) w.tag
stays_same old new ws xs ys held one w found =
    elim (cases_eq w.tag none) [
      | inl e ↦ ap (cells_of (made_of new)) e ∙ empty_cells new ∙ sym (ap (cells_of (made_of old)) e ∙ empty_cells old)
      | inr some ↦
          let frame : IsFrame (beside (slots_of old) xs) (made_of old) (made_of new) =
          one.frame (beside (slots_of old) xs) (λ s s_some. omega (arith, held s s_some, uses_of_both ws xs s)) in
          frame.cells w.tag (root w.tag some (omega (arith, held w.tag some, uses_of_both ws xs w.tag, uses_of_some ws w found)))
    ]
