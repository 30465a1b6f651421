use Rattle.std.proofs.Common.{◌≡◌, ℕ, suc, ◌<◌, List, ◌∷◌, [], length, Option, Some, None, MatchOption, refl, inl, inr, ap, sym, subst, arith, ◌∙◌}
use Rattle.std.specs.Option.{IsNone}
use Rattle.sol_arena.specs.declared.slot.Slot.{Slot}
use Rattle.sol_arena.specs.Uses.{held_of}
use Rattle.sol_arena.specs.Arenas.{slots_of}
use Rattle.sol_arena.specs.Changes.{IsReleased}
use Rattle.sol_arena.proofs.ReachLemmas.{held_live}
use Rattle.cand_pool.specs.Candidates.{Candidate, Candidates}
use Rattle.cand_pool.specs.Pools.{Block, Holds, HoldsBag, spare}
use Rattle.cand_pool.specs.declared.ends.Bag.{Bag}
use Rattle.cand_pool.proofs.PublicLaws.{held_items, held_named, stays_any}
use Rattle.cand_pool.proofs.PoolMoves.{keeps_then}
use Rattle.cand_uses.specs.Uses.{HoldsFor}
use Rattle.cand_uses.proofs.ExchangeLemmas.{no_exchange, exchange_as, exchange_of, exchange_then, exchanged_held, released_first, first_use}
use Rattle.cand_uses.proofs.bags.give_up.Goals as goal

-- a bag of which a tag was taken has a first candidate
first_of : (s : Block) (bag : Bag) (rest : Candidates) (result : Option ℕ) (tag : ℕ) → HoldsBag s bag rest → (HoldsBag s bag [] → IsNone result) → result ≡ Some tag
    → (x : Candidate) × (xs : Candidates) × (rest ≡ x ∷ xs)
first_of s bag [] result tag h empty is = let none : IsNone (Some tag) = subst (λ (r : Option ℕ). IsNone r) is (empty h) in absurd (cc)
first_of s bag (x ∷ xs) result tag h empty is = (x, xs, refl)

pub tags-init : goal.tags-init
tags-init c = record {
  rest = _;
  bag = c.requires.live;
  held = c.requires.held;
  uses = no_exchange _ _;
  spare = refl;
  others = record { few = λ few. few; stays = λ first last xs h some out. h; fresh = λ first last xs h some out. out };
}

pub take-requires : goal.take-requires
take-requires c = held_named _ _ _ _ c.tags.invariant.bag

-- the first candidate of the bag, whose tag was taken, and those that are left
record IsTaken (slots : List Slot) (s s' : Block) (bag bag' : Bag) (rest : Candidates) (tag : ℕ) : Type 0 where
  x : Candidate
  xs : Candidates
  rest_is : rest ≡ x ∷ xs
  tag_is : tag ≡ x.tag
  left : HoldsBag s' bag' xs
  held : HoldsFor slots (x ∷ xs)

taken : (slots : List Slot) (s s' : Block) (bag bag' : Bag) (rest : Candidates) (result : Option ℕ) (tag : ℕ) → HoldsBag s bag rest → (HoldsBag s bag [] → IsNone result) → result ≡ Some tag
    → ((t : ℕ) → result ≡ Some t → (x : Candidate) (xs : Candidates) → HoldsBag s bag (x ∷ xs) → (t ≡ x.tag) × HoldsBag s' bag' xs)
    → HoldsFor slots rest → IsTaken slots s s' bag bag' rest tag
taken slots s s' bag bag' rest result tag h empty is some held =
    let (x, xs, e) = first_of s bag rest result tag h empty is in
    let (tag_is, left) = some tag is x xs (subst (λ (l : Candidates). HoldsBag s bag l) e h) in
    record { x = x; xs = xs; rest_is = e; tag_is = tag_is; left = left; held = subst (λ (l : Candidates). HoldsFor slots l) e held }

pub release-requires-clause-live : goal.release-requires-clause-live
release-requires-clause-live c = λ some.
    let w = taken (slots_of c.tags.arena) _ _ _ _ _ c.take.result _ c.tags.invariant.bag c.take.ensures.empty c.in-Some.is c.take.ensures.some c.tags.invariant.held in
    held_live c.tags.arena c.in-Some.tag some (subst (λ (t : ℕ). 0 < held_of (slots_of c.tags.arena) t) (sym w.tag_is) (first_use (slots_of c.tags.arena) w.x w.xs w.held (λ e. some (w.tag_is ∙ e))))

pub release-requires-clause-held : goal.release-requires-clause-held
release-requires-clause-held c = λ some.
    let w = taken (slots_of c.tags.arena) _ _ _ _ _ c.take.result _ c.tags.invariant.bag c.take.ensures.empty c.in-Some.is c.take.ensures.some c.tags.invariant.held in
    subst (λ (t : ℕ). 0 < held_of (slots_of c.tags.arena) t) (sym w.tag_is) (first_use (slots_of c.tags.arena) w.x w.xs w.held (λ e. some (w.tag_is ∙ e)))

pub tags-smaller : goal.tags-smaller
tags-smaller c =
    let w = taken (slots_of c.tags.arena) _ _ _ _ _ c.take.result _ c.tags.invariant.bag c.take.ensures.empty c.in-Some.is c.take.ensures.some c.tags.invariant.held in
    let before = ap (λ (l : Candidates). length l) (held_items _ _ _ _ c.tags.invariant.bag ∙ w.rest_is) in
    let after = ap (λ (l : Candidates). length l) (held_items _ _ _ _ w.left) in
    omega (arith, before, after)

pub tags-preserved : goal.tags-preserved
tags-preserved c =
    let w = taken (slots_of c.tags.arena) _ _ _ _ _ c.take.result _ c.tags.invariant.bag c.take.ensures.empty c.in-Some.is c.take.ensures.some c.tags.invariant.held in
    let released = subst (λ (t : ℕ). IsReleased (slots_of c.tags.arena) (slots_of c.release.new.self) t) w.tag_is c.release.ensures in
    let more : spare c.take.new.self ≡ suc (spare c.tags.pool) = subst
    (λ (r : Option ℕ). MatchOption r (spare c.take.new.self ≡ spare c.tags.pool) (λ _. spare c.take.new.self ≡ suc (spare c.tags.pool))) c.in-Some.is c.take.ensures.spare in
    let one = released_first c.tags.arena c.release.new.self w.x w.xs released in
    record {
      rest = w.xs;
      bag = w.left;
      held = exchanged_held _ _ _ _ w.held one;
      uses = exchange_then _ _ _ _ _ _ (exchange_as _ _ _ _ _ w.rest_is c.tags.invariant.uses) one;
      spare = omega (arith, c.tags.invariant.spare, ap (λ (l : Candidates). length l) w.rest_is, more);
      others = keeps_then _ _ _ _ _ _ _ _ c.tags.invariant.others c.take.ensures.others (λ k m. m) (λ k m. inl m);
    }

-- a bag of which no tag was taken is empty
none_left : (s : Block) (bag : Bag) (rest : Candidates) (result : Option ℕ) → HoldsBag s bag rest → result ≡ None → (IsNone result → HoldsBag s bag []) → rest ≡ []
none_left s bag rest result h is none =
    sym (held_items s bag.ends.first bag.ends.last rest h) ∙ held_items s bag.ends.first bag.ends.last [] (none (subst (λ (r : Option ℕ). IsNone r) (sym is) refl))

pub returns-clause-uses : goal.returns-clause-uses
returns-clause-uses c = λ xs h.
    let e : c.tags.invariant.rest ≡ [] = none_left _ _ _ c.take.result c.tags.invariant.bag c.in_default.is (λ z. (c.take.ensures.none z).0) in
    exchange_of _ _ _ _ _ (held_items _ _ _ xs h) (exchange_as _ _ _ _ _ e c.tags.invariant.uses)

pub returns-clause-spare : goal.returns-clause-spare
returns-clause-spare c = λ xs h.
    let e : c.tags.invariant.rest ≡ [] = none_left _ _ _ c.take.result c.tags.invariant.bag c.in_default.is (λ z. (c.take.ensures.none z).0) in
    let f = ap (λ (l : Candidates). length l) e in
    let k = ap (λ (l : Candidates). length l) (held_items _ _ _ xs h) in
    let z = (c.take.ensures.none (subst (λ (r : Option ℕ). IsNone r) (sym c.in_default.is) refl)).1 in
    omega (arith, c.tags.invariant.spare, f, k, ap spare (c.close.ensures), ap spare z)

pub returns-clause-lists : goal.returns-clause-lists
returns-clause-lists c = λ list xs differ h.
    let same = c.close.ensures ∙ (c.take.ensures.none (subst (λ (r : Option ℕ). IsNone r) (sym c.in_default.is) refl)).1 in
    let stays = stays_any _ _ _ _ _ _ _ c.tags.invariant.others c.tags.invariant.bag.few
    (λ some m. elim m [ inl e ↦ some (differ e) | inr o ↦ o ]) h in
    subst (λ (s : Block). Holds s list xs) (sym same) stays
