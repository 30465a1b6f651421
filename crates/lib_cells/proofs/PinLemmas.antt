-- The greatest of numbers that come one after another.
use Rattle.std.proofs.Common.{◌≡◌, ℕ, max, List, [], ◌∷◌, ◌++◌, map, Option, Some, None, refl, sym, ap, ◌∙◌, append_assoc, arith}
use Rattle.std.proofs.lemmas.Int.{clamps}
use Rattle.std.specs.List.{cons_option}
use Rattle.std.specs.Option.{unwrap_or}
use Rattle.lib_cells.specs.Cells.{greatest}
use Rattle.lib_cells.specs.Pins.{greater}

pub greater_none : (a : Option ℕ) → greater a None ≡ a
greater_none None = refl
greater_none (Some a) = refl

pub greater_assoc : (a b c : Option ℕ) → greater (greater a b) c ≡ greater a (greater b c)
greater_assoc None b c = refl
greater_assoc (Some a) None c = refl
greater_assoc (Some a) (Some b) None = refl
greater_assoc (Some a) (Some b) (Some c) = ap Some (omega (arith, clamps))

greatest_nil : greatest [] ≡ None
unfolding greatest
greatest_nil = refl

greatest_cons : (n : ℕ) (ns : List ℕ) → greatest (n ∷ ns) ≡ Some (max n (unwrap_or (greatest ns) 0))
unfolding greatest
greatest_cons n ns = refl

with_first : (n : ℕ) (a b : Option ℕ) → Some (max n (unwrap_or (greater a b) 0)) ≡ greater (Some (max n (unwrap_or a 0))) b
with_first n None None = refl
with_first n None (Some b) = ap Some (omega (arith, clamps))
with_first n (Some a) None = refl
with_first n (Some a) (Some b) = ap Some (omega (arith, clamps))

greatest_append : (xs ys : List ℕ) → greatest (xs ++ ys) ≡ greater (greatest xs) (greatest ys)
greatest_append [] ys = rw greatest_nil refl
greatest_append (x ∷ xs) ys = rw (greatest_cons x (xs ++ ys), greatest_cons x xs, greatest_append xs ys) (with_first x (greatest xs) (greatest ys))

greatest_pair : (a b : Option ℕ) → greatest (cons_option a (cons_option b [])) ≡ greater a b
greatest_pair None None = greatest_nil
greatest_pair None (Some b) = rw (greatest_cons b [], greatest_nil) (ap {B = Option ℕ} Some (omega (arith, clamps)))
greatest_pair (Some a) None = rw (greatest_cons a [], greatest_nil) (ap Some (omega (arith, clamps)))
greatest_pair (Some a) (Some b) = rw (greatest_cons a (b ∷ []), greatest_cons b [], greatest_nil) (ap Some (omega (arith, clamps)))

-- a pair that was taken is left no more
pub taken : (all best best' rise fall : Option ℕ) (rest : List ℕ) → best' ≡ greater best (greater rise fall)
    → all ≡ greater best (greatest (cons_option rise (cons_option fall []) ++ rest)) → all ≡ greater best' (greatest rest)
taken all best best' rise fall rest e h =
    h ∙ rw (greatest_append (cons_option rise (cons_option fall [])) rest, greatest_pair rise fall, e) (sym (greater_assoc best (greater rise fall) (greatest rest)))

pub all_taken : (all best : Option ℕ) (rest : List ℕ) → rest ≡ [] → all ≡ greater best (greatest rest) → all ≡ best
all_taken all best rest e h = h ∙ rw (e, greatest_nil) (greater_none best)

pub none_taken : (rest : List ℕ) → greatest rest ≡ greater None (greatest rest)
none_taken rest = refl

-- an element that was made of the first that was left
pub pushed : {X A : Type 0} (f : A → X) (old new all : List X) (x : X) (a : A) (left left' : List A)
    → new ≡ old ++ x ∷ [] → x ≡ f a → left ≡ a ∷ left' → old ++ map f left ≡ all → new ++ map f left' ≡ all
pushed f old new all x a left left' n e l h = rw (n, e) (append_assoc old (f a ∷ []) (map f left') ∙ (rw l at h))
