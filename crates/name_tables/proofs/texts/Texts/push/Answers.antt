use Rattle.std.proofs.Common.{◌≡◌, ◌+◌, ◌++◌, ◌∷◌, [], sym, ◌∙◌, ap, length, arith, subst, List, ℕ, length-append}
use Rattle.name_tables.specs.Texts.{texts_of, AreEnds}
use Rattle.name_tables.proofs.TextsLemmas.{texts_more, ends_more}
use Rattle.name_tables.proofs.texts.Texts.push.Goals as goal

-- the ends, where the bytes and the ends are those that were appended
grown : (bytes text new ends new_ends : List ℕ) (before : ℕ) → AreEnds 0 ends (length bytes) → new ≡ bytes ++ text → before ≡ length bytes → new_ends ≡ ends ++ (before + length text) ∷ [] → AreEnds 0 new_ends (length new)
grown bytes text new ends new_ends before h e f g =
    let count : length new ≡ length bytes + length text = ap length e ∙ length-append bytes text in
    subst (λ n. AreEnds 0 new_ends n) (sym count) (subst (λ es. AreEnds 0 es (length bytes + length text)) (sym (g ∙ ap (λ n. ends ++ (n + length text) ∷ []) f)) (ends_more 0 ends (length bytes) (length text) h))

-- and the texts
pushed_texts : (bytes text new ends new_ends : List ℕ) (texts : List (List ℕ)) (before : ℕ) → AreEnds 0 ends (length bytes) → texts_of bytes 0 ends ≡ texts → new ≡ bytes ++ text → before ≡ length bytes → new_ends ≡ ends ++ (before + length text) ∷ [] → texts_of new 0 new_ends ≡ texts ++ text ∷ []
pushed_texts bytes text new ends new_ends texts before h v e f g =
    ap (λ bs. texts_of bs 0 new_ends) e ∙ ap (texts_of (bytes ++ text) 0) (g ∙ ap (λ n. ends ++ (n + length text) ∷ []) f) ∙ texts_more bytes text 0 ends h ∙ ap (λ ts. ts ++ text ∷ []) v

pub invariant_of-self-in-Ok-push : goal.invariant_of-self-in-Ok-push
invariant_of-self-in-Ok-push c =
    grown c.self.inside.bytes.items c.args.text.now c.extend_from_slice.new.self.items c.self.inside.ends.items c.push.new.self.items c.len-before.result c.self.invariant c.in-Ok.ensures.items (let e : c.len-before.result ≡ length c.self.inside.bytes.items = omega (arith, c.len-before.ensures) in e) c.in-Ok-push.ensures.items

pub returns-in-Ok-push-clause-last : goal.returns-in-Ok-push-clause-last
returns-in-Ok-push-clause-last c =
    pushed_texts c.self.inside.bytes.items c.args.text.now c.extend_from_slice.new.self.items c.self.inside.ends.items c.push.new.self.items c.args.self.now c.len-before.result c.self.invariant c.self.view_is c.in-Ok.ensures.items (let e : c.len-before.result ≡ length c.self.inside.bytes.items = omega (arith, c.len-before.ensures) in e) c.in-Ok-push.ensures.items
