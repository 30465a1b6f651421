use Rattle.std.proofs.Common.{◌≡◌, ℕ, ◌+◌, List, ◌∷◌, [], drop, length, arith, subst, ap}
use Rattle.std.proofs.lemmas.List.{drop_all}
use Rattle.vg_patch.specs.Edits.{Edit, edit_of}
use Rattle.vg_patch.proofs.KeptLemmas.{first_within, restores_more, restored}
use Rattle.vg_patch.proofs.kept.KeptComments.restore.Goals as goal

-- the comments are those of the patch
seen : (inside now : List Edit) (n : ℕ) (e : Edit) → inside ≡ now → drop n inside ≡ e ∷ drop (n + 1) inside → drop n now ≡ e ∷ drop (n + 1) now
seen inside now n e v d = subst (λ es. drop n es ≡ e ∷ drop (n + 1) es) v d

pub put_back-requires-clause-within : goal.put_back-requires-clause-within
put_back-requires-clause-within c =
    let e = edit_of c.part.result.0 c.part.result.1.now in
    let d : drop c.comments.number c.args.self.now ≡ e ∷ drop (c.comments.number + 1) c.args.self.now =
    seen c.self.inside.comments c.args.self.now c.comments.number e c.self.view_is c.part.ensures in
    (first_within _ _ _ _ e d c.comments.invariant).0

pub put_back-requires-clause-long : goal.put_back-requires-clause-long
put_back-requires-clause-long c =
    let e = edit_of c.part.result.0 c.part.result.1.now in
    let d : drop c.comments.number c.args.self.now ≡ e ∷ drop (c.comments.number + 1) c.args.self.now =
    seen c.self.inside.comments c.args.self.now c.comments.number e c.self.view_is c.part.ensures in
    (first_within _ _ _ _ e d c.comments.invariant).1

pub comments-preserved : goal.comments-preserved
comments-preserved c =
    let e = edit_of c.part.result.0 c.part.result.1.now in
    let d : drop c.comments.number c.args.self.now ≡ e ∷ drop (c.comments.number + 1) c.args.self.now =
    seen c.self.inside.comments c.args.self.now c.comments.number e c.self.view_is c.part.ensures in
    restores_more _ _ _ _ _ e d c.comments.invariant c.put_back.ensures

pub returns : goal.returns
returns c =
    let none : drop c.comments.number c.args.self.now ≡ [] =
    drop_all c.comments.number c.args.self.now (omega (arith, c.comments-test.false, c.len-number-end.ensures, ap length c.self.view_is)) in
    restored c.comments.text _ _ none c.comments.invariant
