-- One item of a list after another, as a loop takes them.
use Rattle.std.proofs.Common.{◌≡◌, ℕ, suc, ◌+◌, ◌<◌, ◌≤◌, List, [], ◌∷◌, ◌++◌, length, take, drop, get_or, sym, ap, ◌∙◌, arith, drop-cons, length-drop, add-one, take_all}
use Rattle.std.proofs.lemmas.List.{take_more}

-- a list's next item
pub record NextItem {X : Type 0} (all : List X) (n : ℕ) (d x : X) (others : List X) : Type 0 where
  pub within : n < length all
  pub rest : drop (n + 1) all ≡ others
  pub here : get_or all n d ≡ x
  pub front : take (n + 1) all ≡ take n all ++ x ∷ []

pub next_is : {X : Type 0} (all : List X) (n : ℕ) (d x : X) (others : List X) → drop n all ≡ x ∷ others → NextItem all n d x others
next_is all n d x others e =
    let l : n < length all = omega (arith, length-drop n all, ap length e) in
    let k : x ∷ others ≡ get_or all n d ∷ drop (suc n) all = sym e ∙ drop-cons all n d l in
    let g : get_or all n d ≡ x = cc in
    record {
      within = l;
      rest = ap (λ m. drop m all) (add-one n) ∙ (let r : drop (suc n) all ≡ others = cc in r);
      here = g;
      front = take_more all n d l ∙ ap (λ y. take n all ++ y ∷ []) g;
    }

-- no item is left
pub all_read : {X : Type 0} (all : List X) (n : ℕ) → drop n all ≡ [] → length all ≤ n
all_read all n e = omega (arith, length-drop n all, ap length e)

pub take_whole : {X : Type 0} (all : List X) (n : ℕ) → drop n all ≡ [] → take n all ≡ all
take_whole all n e = take_all n all (all_read all n e)
