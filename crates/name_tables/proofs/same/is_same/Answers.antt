use Rattle.std.proofs.Common.{◌≡◌, ◌≤◌, ◌++◌, ◌∷◌, [], ◌∙◌, ℕ, List, length, take, get_or, ap, arith, sym}
use Rattle.std.proofs.lemmas.Cmp.{nat_list_eq_equiv}
use Rattle.std.proofs.lemmas.List.{take_all, take_more}
use Rattle.std.specs.Str.{bytes_eq}
use Rattle.name_tables.proofs.same.is_same.Goals as goal

whole : (one other : List ℕ) (n : ℕ) → take n one ≡ take n other → length one ≡ length other → length one ≤ n → one ≡ other
whole one other n same size far = sym (take_all n one far) ∙ same ∙ take_all n other (omega (arith, size, far))

pub returns : goal.returns
returns c =
    sym (ap (bytes_eq c.args.one.now) (sym (whole c.args.one.now c.args.other.now c.byte.at c.byte.invariant c.if-one-other.false c.byte-test.false))
    ∙ nat_list_eq_equiv.refl c.args.one.now)

pub byte-preserved : goal.byte-preserved
byte-preserved c =
    let one = c.args.one.now in
    let other = c.args.other.now in
    let at = c.byte.at in
    take_more one at 0 c.byte-test.true
    ∙ ap (λ xs. xs ++ get_or one at 0 ∷ []) c.byte.invariant
    ∙ ap (λ x. take at other ++ x ∷ []) c.if-one-at.false
    ∙ sym (take_more other at 0 (omega (arith, c.byte-test.true, c.if-one-other.false)))
