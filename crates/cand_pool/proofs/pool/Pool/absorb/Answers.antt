use Rattle.std.proofs.Common.{◌≡◌, ℕ, ◌+◌, ◌≤◌, ◌⊎◌, length, refl, sym, ap, ◌∙◌, subst, arith, inl, inr}
use Rattle.cand_pool.specs.Links.{none}
use Rattle.cand_pool.specs.Candidates.{Candidates}
use Rattle.cand_pool.specs.Pools.{Block, items, items_of, IsHeld}
use Rattle.cand_pool.specs.Sequences.{undominated, dominated, union}
use Rattle.cand_pool.specs.declared.ends.Ends.{Ends}
use Rattle.cand_pool.proofs.PublicLaws.{held_items, held_named, differ_from}
use Rattle.cand_pool.proofs.UnionLaws.{union_start, union_end, left_items, ending_sieve, ending_rises}
use Rattle.cand_pool.proofs.pool.Pool.absorb.Goals as goal
use Rattle.cand_pool.proofs.pool.Pool.absorb.Goals.{then-turns-test+else-at, else-turns-test}

pub turns-init : goal.turns-init
turns-init g c = record {
  uniting =
      union_start c.args.self.now c.args.list.now.ends c.args.other.ends (record { first = none; last = none })
      (items_of c.args.self.now c.args.list.now) (items_of c.args.self.now c.args.other) refl c.requires.live c.requires.other c.requires.differ
      c.requires.rises_list c.requires.rises_other;
  steps = omega arith;
}

pub union_turn-requires-clause-left : goal.union_turn-requires-clause-left
union_turn-requires-clause-left g c = let w = c.turns.invariant.uniting in left_items _ _ _ _ _ _ w.sieve w.other

pub left-sieve-requires : goal.left-sieve-requires
left-sieve-requires g c = elim c.turns-test.branch [
  | then-turns-test+else-at w ↦ inr w.if-at.false
  | else-turns-test w ↦ inl w.turns-test.false
]

pub drop_dominated-requires : goal.drop_dominated-requires
drop_dominated-requires g c =
    let ending = c.left-sieve.ensures.ending _ _ _ _ _ c.turns.invariant.uniting in record {
      three = ending_sieve _ _ _ (union (items_of c.args.self.now c.args.list.now) (items_of c.args.self.now c.args.other)) _ c.left-sieve.result ending;
      rises = ending_rises _ _ _ (union (items_of c.args.self.now c.args.list.now) (items_of c.args.self.now c.args.other)) _ c.left-sieve.result ending;
    }

pub put_after-list-requires : goal.put_after-list-requires
put_after-list-requires g c =
    let sieve = c.drop_dominated.ensures.sifted.sieve in record {
      one = held_named _ _ _ _ sieve.one;
      two = sieve.more;
      differ = λ e. differ_from _ _ sieve.rest_one (sym e);
    }

-- both sequences, said by the map
same_union : (s : Block) (a a_last b b_last : ℕ) (xs ys : Candidates) → IsHeld s a a_last xs → IsHeld s b b_last ys → union (items s a) (items s b) ≡ union xs ys
same_union s a a_last b b_last xs ys h k =
    ap (λ (l : Candidates). union l (items s b)) (held_items s a a_last xs h) ∙ ap (λ (l : Candidates). union xs l) (held_items s b b_last ys k)

-- what is left of one list is no more than what was left of both
left_less : (s : Block) (rest one two : Ends) → (rest ≡ one) ⊎ (rest ≡ two) → length (items s rest.first) ≤ length (items s one.first) + length (items s two.first)
left_less s rest one two (inl e) = let f = ap (λ (k : Ends). length (items s k.first)) e in omega (arith, f)
left_less s rest one two (inr e) = let f = ap (λ (k : Ends). length (items s k.first)) e in omega (arith, f)

pub returns : goal.returns
returns g c =
    let ending = c.left-sieve.ensures.ending _ _ _ _ _ c.turns.invariant.uniting in
    let dropped = c.drop_dominated.ensures in
    let united = union_end _ _ _ (union (items_of c.args.self.now c.args.list.now) (items_of c.args.self.now c.args.other)) _ _ _ c.left-sieve.result c.drop_dominated.new.at _ c.put_after-list.result ending dropped.sifted dropped.over
    c.put_after-list.ensures in
    record {
      list = λ xs ys h k. subst (λ (l : Candidates). IsHeld c.put_after-list.new.self c.put_after-list.result.first c.put_after-list.result.last (undominated l)) (same_union _ _ _ _ _ xs ys h k) united.list_is;
      bag = λ xs ys h k.
          subst (λ (l : Candidates). IsHeld c.put_after-list.new.self c.drop_dominated.new.at.dropped.first c.drop_dominated.new.at.dropped.last (dominated l))
          (same_union _ _ _ _ _ xs ys h k) united.bag_is;
      differ = differ_from _ _ united.differ;
      others = united.others;
      spare = united.free;
      steps = λ xs ys h k.
          let m : length (items_of c.args.self.now c.args.list.now) ≡ length xs = ap (λ (l : Candidates). length l) (held_items _ _ _ xs h) in
          let n : length (items_of c.args.self.now c.args.other) ≡ length ys = ap (λ (l : Candidates). length l) (held_items _ _ _ ys k) in
          let left : length (items c.turns.self c.left-sieve.result.rest.first) ≤ length (items c.turns.self c.turns.at.sieve.rest.first) + length (items c.turns.self c.turns.at.other.first)
          = left_less c.turns.self c.left-sieve.result.rest c.turns.at.sieve.rest c.turns.at.other c.left-sieve.ensures.rest in
          let total = c.turns.invariant.steps in
          let drops = dropped.steps in
          omega arith;
    }
