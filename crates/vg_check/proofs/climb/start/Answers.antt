use Rattle.std.proofs.Common.{◌≡◌, ◌<◌, ◌+◌, ℕ, List, [], ◌∷◌, ◌++◌, length, sym, ap, ◌∙◌, subst}
use Rattle.std.proofs.lemmas.List.{length-append}
use Rattle.vg_check.specs.Parts.{IsPart, part_at}
use Rattle.vg_check.specs.declared.part.Part.{Part}
use Rattle.vg_check.proofs.ClimbLemmas.{parts_more}
use Rattle.vg_check.proofs.climb.start.Goals as goal

pub nodes-preserved : goal.nodes-preserved
nodes-preserved c =
    let p = c.args.p.now in
    let old = c.nodes.parts.items in
    let part = c.in_ok-part.part in
    let items : c.push.new.self.items ≡ old ++ part ∷ [] = c.in_ok-push.ensures.items in
    record {
      count = ap length items ∙ length-append old (part ∷ []) ∙ ap (λ k. k + 1) c.nodes.invariant.count;
      parts = λ lists. subst (λ (xs : List Part). (v : ℕ) → v < length xs → IsPart p lists (length p.tree.nodes) v (part_at xs v)) (sym items)
          (parts_more p lists old part (c.nodes.invariant.parts lists)
          (subst (λ (k : ℕ). IsPart p lists (length p.tree.nodes) k part) (sym c.nodes.invariant.count) (c.in_ok-part.ensures lists)));
    }
