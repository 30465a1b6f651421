use Rattle.std.proofs.Common.{ℕ, ◌≡◌, ◌<◌, ◌+◌, List, [], ◌∷◌, ◌++◌, All, sym, subst, refl, arith}
use Rattle.std.proofs.lemmas.List.Elements.{All-push}
use Rattle.vg_check.specs.Orders.{HasRep, IsRank}
use Rattle.vg_check.specs.declared.order.Rank.{Rank}
use Rattle.vg_check.proofs.OrderLemmas.{ranks_more}
use Rattle.vg_check.proofs.order.by_number.Goals as goal

pub reps-preserved : goal.reps-preserved
reps-preserved c =
    let reps = c.args.p.now.reps in
    let old = c.reps.ranks.items in
    let items : c.push.new.self.items ≡ old ++ record { key = c.key_of.result; rep = c.reps.rep } ∷ [] = c.in_ok-push.ensures.items in
    let is : IsRank reps (record { key = c.key_of.result; rep = c.reps.rep }) =
    record { named = omega (arith, c.reps-test.true, c.len-rep-end.ensures); key = rw c.as_slice.ensures at c.key_of.ensures } in
    record {
      each = subst (All (IsRank reps)) (sym items) (All-push (IsRank reps) old (record { key = c.key_of.result; rep = c.reps.rep }) c.reps.invariant.each is);
      all = subst (λ (ranks : List Rank). (b : ℕ) → b < c.reps.rep + 1 → HasRep ranks b) (sym items)
          (ranks_more old (record { key = c.key_of.result; rep = c.reps.rep }) c.reps.rep c.reps.invariant.all refl);
    }
