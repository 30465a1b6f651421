use Rattle.std.proofs.Common.{◌≡◌, ℕ, [], refl, sym, subst, Option, None, Some}
use Rattle.std.specs.Prelude.{IsNone}
use Rattle.cand_pool.specs.Pools.{Block, HoldsBag}
use Rattle.cand_pool.specs.declared.ends.Bag.{Bag}
use Rattle.cand_pool.proofs.PublicLaws.{held_named}
use Rattle.tests_engine.proofs.pools.one_candidate.Goals as goal

pub take-tag-requires : goal.take-tag-requires
take-tag-requires g c = held_named _ _ _ _ (c.discard-bag.ensures.held _ c.one-list.ensures.list)

-- the bag is empty then, whatever was answered
left : (s s' : Block) (bag bag' : Bag) (answer : Option ℕ) → (IsNone answer → HoldsBag s bag [] × (s' ≡ s) × (bag' ≡ bag)) → ((tag : ℕ) → answer ≡ Some tag → HoldsBag s' bag' []) → HoldsBag s' bag' []
left s s' bag bag' None none some =
    let (held, same, named) = none refl in subst (λ (b : Bag). HoldsBag s' b []) (sym named) (subst (λ (k : Block). HoldsBag k bag []) (sym same) held)
left s s' bag bag' (Some tag) none some = some tag refl

pub close-requires : goal.close-requires
close-requires g c = left _ _ _ _ c.take-tag.result c.take-tag.ensures.none (λ tag e. (c.take-tag.ensures.some tag e _ [] (c.discard-bag.ensures.held _ c.one-list.ensures.list)).1)
