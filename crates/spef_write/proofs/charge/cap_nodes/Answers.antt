use Rattle.std.proofs.Common.{◌≡◌, ℕ, ◌+◌, false, true, Bool, ◌∷◌, [], ◌++◌, set, take, get_or, sym, ap, ◌∙◌, subst, arith, Vec, Global}
use Rattle.std.proofs.lemmas.List.{get_or_read}
use Rattle.std.proofs.lemmas.List.Elements.{All-get_or}
use Rattle.spef_net.specs.Nets.{IsCapOf}
use Rattle.spef_write.proofs.OnceLemmas.{AreNamed, again_named, first_named}
use Rattle.spef_write.proofs.charge.cap_nodes.Goals as goal
use Rattle.spef_write.proofs.charge.cap_nodes.Goals.{then-not-index+in_ok-push, else-not-index}

pub cap-preserved : goal.cap-preserved
cap-preserved c =
    let count = c.args.count in
    let caps = c.args.caps.now in
    let i = c.cap.cap-index in
    let low = c.cap-test.true in
    let at = (get_or caps i (0, 0)).0 in
    let is : IsCapOf count (get_or caps i (0, 0)) = All-get_or (IsCapOf count) caps i (0, 0) low c.requires in
    let read : c.index.result.now ≡ get_or c.cap.named.items at false
    = get_or_read c.cap.named.items at c.index.result.now (omega (arith, c.cap.invariant.even, is.0)) c.index.ensures false in
    elim c.if-not-index.branch [
      | then-not-index+in_ok-push w ↦
          let pushed : c.if-not-index.nodes.items ≡ c.cap.nodes.items ++ at ∷ [] = ap (λ (v : Vec ℕ Global). v.items) w.nodes-is ∙ w.in_ok-push.ensures.items in
          subst (λ (v : Vec Bool Global). AreNamed count (take (i + 1) caps) v.items c.if-not-index.nodes.items) (sym w.named-is)
          (subst (AreNamed count (take (i + 1) caps) (set c.cap.named.items at true)) (sym pushed)
          (first_named count caps c.cap.named.items c.cap.nodes.items i (0, 0) low c.cap.invariant is.0 (sym read ∙ w.if-not-index.true)))
      | else-not-index w ↦
          subst (λ (v : Vec Bool Global). AreNamed count (take (i + 1) caps) v.items c.if-not-index.nodes.items) (sym w.named-is)
          (subst (λ (v : Vec ℕ Global). AreNamed count (take (i + 1) caps) c.cap.named.items v.items) (sym w.nodes-is)
          (again_named count caps c.cap.named.items c.cap.nodes.items i (0, 0) low c.cap.invariant is.0 (sym read ∙ w.if-not-index.false)))
    ]
