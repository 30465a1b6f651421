-- Where expressions end.
use Rattle.std.proofs.Common.{◌≡◌, ℕ, suc, ◌-◌, List, [], ◌∷◌, length, take, refl, ap, ◌∙◌, arith}
use Rattle.ver_syntax.specs.declared.row.Row.{Row}
use Rattle.ver_items.specs.Connections.{end_of}

-- where the last of some tokens ends; this place where there are none
abbrev pub last_end : ℕ → List Row → ℕ
last_end at [] = at
last_end at (r ∷ rows) = last_end r.to rows

pub ends_with_last : (at : ℕ) (rows : List Row) → last_end at (take (length rows - 1) rows) ≡ end_of at rows
ends_with_last at [] = refl
ends_with_last at (r ∷ []) = refl
ends_with_last at (r ∷ q ∷ rows) =
    let e : length (r ∷ q ∷ rows) - 1 ≡ suc (length (q ∷ rows) - 1) = omega arith in
    ap (λ k. last_end at (take k (r ∷ q ∷ rows))) e ∙ ends_with_last r.to (q ∷ rows)
