-- Sections, one after another.
use Rattle.std.proofs.Common.{◌≡◌, suc, ◌+◌, Bool, true, false, cond, List, [], ◌∷◌, length, take, drop, refl, sym, ◌∙◌, ap, arith}
use Rattle.std.specs.List.{before_first, position_or_len}
use Rattle.ver_syntax.specs.declared.row.Row.{Row}
use Rattle.ver_items.specs.Sections.{section_before, sections}

pub sections_nil : (begins : Row → Bool) (rows : List Row) → length rows ≡ 0 → sections begins rows ≡ []
unfolding sections
sections_nil begins [] e = refl
sections_nil begins (r ∷ rows) e = absurd (omega arith)

pub sections_yes : (begins : Row → Bool) (rows : List Row) (r : Row) (after : List Row) → rows ≡ r ∷ after → begins r ≡ true
    → sections begins rows ≡ section_before begins r after ∷ sections begins after
unfolding sections
sections_yes begins rows r after e t = ap (sections begins) e ∙ rw t refl

pub sections_no : (begins : Row → Bool) (rows : List Row) (r : Row) (after : List Row) → rows ≡ r ∷ after → begins r ≡ false
    → sections begins rows ≡ sections begins after
unfolding sections
sections_no begins rows r after e t = ap (sections begins) e ∙ rw t refl

-- the tokens before the first that begins something
pub before_others : (begins : Row → Bool) (r : Row) (rows : List Row) (b : Bool) → begins r ≡ b
    → before_first begins (r ∷ rows) ≡ cond b [] (r ∷ before_first begins rows)
before_others begins r rows true t = rw t refl
before_others begins r rows false t =
    let more : 1 + position_or_len begins rows ≡ suc (position_or_len begins rows) = omega arith in
    rw t (ap (λ n. take n (r ∷ rows)) more)

-- no section begins before the first token that begins one
pub sections_past : (begins : Row → Bool) (rows : List Row) → sections begins (drop (length (before_first begins rows)) rows) ≡ sections begins rows
sections_past begins [] = refl
sections_past begins (r ∷ rows) = by_test (begins r) refl (sections_past begins rows)
  where
    by_test : (b : Bool) → begins r ≡ b → sections begins (drop (length (before_first begins rows)) rows) ≡ sections begins rows
        → sections begins (drop (length (before_first begins (r ∷ rows))) (r ∷ rows)) ≡ sections begins (r ∷ rows)
    by_test true t rest = ap (λ front. sections begins (drop (length front) (r ∷ rows))) (before_others begins r rows true t)
    by_test false t rest =
        ap (λ front. sections begins (drop (length front) (r ∷ rows))) (before_others begins r rows false t)
        ∙ rest
        ∙ sym (sections_no begins (r ∷ rows) r rows refl t)
