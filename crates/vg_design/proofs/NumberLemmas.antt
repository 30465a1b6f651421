-- Numbers that pass, one after another.
use Rattle.std.proofs.Common.{◌≡◌, ℕ, zero, suc, ◌+◌, Bool, cond, List, [], ◌∷◌, ◌++◌, filter, get_or, length, ◌<◌, sym, ap, ◌∙◌, arith, add-one}
use Rattle.std.proofs.lemmas.List.Elements.{filter-append}
use Rattle.std.proofs.lemmas.List.{get_or-map}
use Rattle.std.specs.List.{list_any, range_with_len}
use Rattle.std.specs.Str.{bytes_eq}
use Rattle.lib_linear.specs.declared.repeater.Repeater.{Repeater}
use Rattle.vg_design.specs.Parts.{cells_of}

range_more : (a n : ℕ) → range_with_len a (suc n) ≡ range_with_len a n ++ (a + n) ∷ []
range_more a zero = ap (λ k. k ∷ []) (omega arith)
range_more a (suc n) =
    ap (λ (l : List ℕ). a ∷ l) (range_more (a + 1) n)
    ∙ ap (λ k. a ∷ (range_with_len (a + 1) n ++ k ∷ [])) (omega arith)

-- the numbers below one more that pass
pub below_more : (p : ℕ → Bool) (n : ℕ) → filter p (range_with_len 0 (n + 1)) ≡ filter p (range_with_len 0 n) ++ cond (p n) (n ∷ []) []
below_more p n =
    ap (λ k. filter p (range_with_len 0 k)) (add-one n)
    ∙ ap (filter p) (range_more 0 n)
    ∙ filter-append p (range_with_len 0 n) ((0 + n) ∷ [])
    ∙ ap (λ j. filter p (range_with_len 0 n) ++ cond (p j) (j ∷ []) []) (omega arith)

pub pushed_more : (p : ℕ → Bool) (n : ℕ) (passes : Bool) (before after : List ℕ) → before ≡ filter p (range_with_len 0 n) → passes ≡ p n → after ≡ before ++ cond passes (n ∷ []) []
    → after ≡ filter p (range_with_len 0 (n + 1))
pushed_more p n passes before after is test more =
    more
    ∙ ap (λ (xs : List ℕ). xs ++ cond passes (n ∷ []) []) is
    ∙ ap (λ b. filter p (range_with_len 0 n) ++ cond b (n ∷ []) []) test
    ∙ sym (below_more p n)

-- whether the cell of a repeater is among some
pub named_at : (repeaters : List Repeater) (cells : List (List ℕ)) (at : ℕ) → at < length repeaters → (named : Bool) (other : Repeater)
    → named ≡ list_any (bytes_eq (get_or repeaters at other).cell) cells → named ≡ list_any (bytes_eq (get_or (cells_of repeaters) at [])) cells
named_at repeaters cells at h named other e = e ∙ ap (λ cell. list_any (bytes_eq cell) cells) (sym (get_or-map (λ (r : Repeater). r.cell) repeaters at other [] h))
