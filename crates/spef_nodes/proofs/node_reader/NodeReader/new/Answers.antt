use Rattle.std.proofs.Common.{◌≡◌, ℕ, suc, List, inl, inr, replicate, length, get_or, ap, ◌∙◌, arith, rules}
use Rattle.std.proofs.lemmas.List.{get_or-replicate, get_or_past, length-replicate}
use Rattle.name_tables.proofs.ChainLemmas.{lt_or_le}
use Rattle.spef_nodes.proofs.node_reader.NodeReader.new.Goals as goal

-- no number of a list of zeros is one more than another
zeros : (numbers : List ℕ) (n at id : ℕ) → numbers ≡ replicate n 0 → get_or numbers at 0 ≡ suc id → ⊥
zeros numbers n at id e h =
    elim (lt_or_le at n) as (λ _. ⊥) [
      | inl less ↦ let zero' : get_or numbers at 0 ≡ 0 = ap (λ xs. get_or xs at 0) e ∙ get_or-replicate n at 0 0 less in omega (arith, zero', h)
      | inr past ↦ let zero' : get_or numbers at 0 ≡ 0 = get_or_past numbers at 0 (omega (arith, ap length e, length-replicate {A = ℕ} n 0, past)) in omega (arith, zero', h)
    ]

pub invariant_of-result : goal.invariant_of-result
invariant_of-result c = record {
  begins = λ leaf some digits. absurd (cc);
  leads = λ number id is. absurd (zeros c.in_ok-numbers.numbers.items c.args.count number id (c.in_ok-numbers.ensures.items_if_clones_equal (λ y e. e)) is);
  known = search rules;
}
