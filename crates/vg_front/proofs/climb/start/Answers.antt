use Rattle.std.proofs.Common.{◌≡◌, ◌<◌, ◌+◌, ℕ, List, [], ◌∷◌, ◌++◌, length, sym, ap, ◌∙◌, subst}
use Rattle.std.proofs.lemmas.List.{length-append}
use Rattle.sol_arena.specs.Arenas.{made_of}
use Rattle.vg_front.specs.Held.{IsGiven}
use Rattle.vg_front.specs.Parts.{all_held, part_at, IsPart}
use Rattle.vg_front.specs.declared.part.Part.{Part}
use Rattle.vg_front.proofs.ClimbLemmas.{parts_more, start_more}
use Rattle.vg_front.proofs.climb.start.Goals as goal

pub nodes-preserved : goal.nodes-preserved
nodes-preserved c =
    let p = c.args.p.now in
    let ms = made_of c.args.arena.now in
    let old = c.nodes.parts.items in
    let part = c.in_ok-part.part in
    let items : c.push.new.self.items ≡ old ++ part ∷ [] = c.in_ok-push.ensures.items in
    record {
      count = ap length items ∙ length-append old (part ∷ []) ∙ ap (λ k. k + 1) c.nodes.invariant.count;
      given = λ slots. subst (λ (xs : List Part). IsGiven slots [] slots (all_held xs)) (sym items)
          (start_more slots old part (c.nodes.invariant.given slots) (c.in_ok-part.ensures.given slots));
      parts = λ cap. subst (λ (xs : List Part). (v : ℕ) → v < length xs → IsPart p cap (length p.tree.nodes) v ms (part_at xs v)) (sym items)
          (parts_more p cap ms old part (c.nodes.invariant.parts cap)
          (subst (λ (k : ℕ). IsPart p cap (length p.tree.nodes) k ms part) (sym c.nodes.invariant.count) (c.in_ok-part.ensures.part cap)));
    }
