-- Tokens that are read part by part.
use Rattle.std.proofs.Common.{◌≡◌, ℕ, ◌+◌, ◌≤◌, Bool, Option, unwrap_or, true, false, ◌||◌, inl, inr, List, [], ◌∷◌, ◌++◌, length, take, drop, refl, sym, ap, subst, ◌∙◌, arith, length-append}
use Rattle.std.proofs.Math.Seq.{take-add, take-append_seam, drop-append_seam}
use Rattle.std.proofs.lemmas.List.{append_assoc, length-take-le, map-append}
use Rattle.std.proofs.lemmas.List.Folds.{list_any-append}
use Rattle.std.specs.List.{list_any}
use Rattle.ver_text.specs.declared.kind.Kind.{Kind}
use Rattle.ver_text.specs.declared.kind.Kind.TheVariants.{Semicolon}
use Rattle.ver_syntax.specs.Grammar.{is}
use Rattle.ver_syntax.specs.declared.row.Row.{Row}
use Rattle.ver_syntax.specs.Rows.{kinds_in}
use Rattle.ver_items.specs.SectionSteps.{IsItem}
use Rattle.ver_items.specs.Stretches.{IsHeldOn}

-- so many tokens from a place on, and those that are left
pub record IsRead (start : List Row) (count : ℕ) (left : List Row) : Type 0 where
  pub all : take count start ++ left ≡ start
  pub total : count + length left ≡ length start

pub none_read : (start : List Row) → IsRead start 0 start
none_read start = record { all = refl; total = omega arith }

pub count_read : (start left : List Row) (count : ℕ) → IsRead start count left → length (take count start) ≡ count
count_read start left count h = length-take-le count start (omega (arith, h.total))

pub left_read : (start left : List Row) (count : ℕ) → IsRead start count left → drop count start ≡ left
left_read start left count h =
    sym (ap (drop count) h.all)
    ∙ subst (λ n. drop n (take count start ++ left) ≡ left) (count_read start left count h) (drop-append_seam (take count start) left)

-- a part more
pub part_read : (start rows part left : List Row) (count : ℕ) → IsRead start count rows → rows ≡ part ++ left → take (count + length part) start ≡ take count start ++ part
part_read start rows part left count h e =
    take-add count (length part) start
    ∙ ap (λ rs. take count start ++ take (length part) rs) (left_read start rows count h ∙ e)
    ∙ ap (λ rs. take count start ++ rs) (take-append_seam part left)

pub more_read : (start rows part left : List Row) (count : ℕ) → IsRead start count rows → rows ≡ part ++ left → IsRead start (count + length part) left
more_read start rows part left count h e = record {
  all =
      ap (λ rs. rs ++ left) (part_read start rows part left count h e)
      ∙ append_assoc (take count start) part left
      ∙ ap (λ rs. take count start ++ rs) (sym e)
      ∙ h.all;
  total =
      let l : length rows ≡ length part + length left = ap length e ∙ length-append part left in
      omega (arith, h.total, l);
}

-- the first tokens are held, and a part more
pub held_more : (start rows part left held : List Row) (count : ℕ) → IsRead start count rows → rows ≡ part ++ left → held ≡ take (length held) start
    → length held ≡ count → held ++ part ≡ take (length (held ++ part)) start
held_more start rows part left held count h e t n =
    let l : length (held ++ part) ≡ count + length part = length-append held part ∙ ap (λ k. k + length part) n in
    rw l (ap (λ rs. rs ++ part) (t ∙ ap (λ k. take k start) n) ∙ sym (part_read start rows part left count h e))

-- of so many tokens from a place on the first are held
pub record IsHeld (start : List Row) (count : ℕ) (held : List Row) : Type 0 where
  pub first : held ≡ take (length held) start
  pub within : length held ≤ count

pub none_held : (start held : List Row) → held ≡ [] → IsHeld start 0 held
none_held start held e = subst (IsHeld start 0) (sym e) (record { first = refl; within = omega arith })

pub still_held : (start rows part left old new : List Row) (count : ℕ) → IsRead start count rows → rows ≡ part ++ left → IsHeld start count old
    → IsHeldOn count part old new → IsHeld start (count + length part) new
still_held start rows part left old new count h e i (inl same) =
    subst (IsHeld start (count + length part)) (sym same) (record { first = i.first; within = omega (arith, i.within) })
still_held start rows part left old new count h e i (inr (all, more)) =
    subst (IsHeld start (count + length part)) (sym more) (record {
      first = held_more start rows part left old count h e i.first all;
      within = omega (arith, all, length-append old part);
    })

-- no `;` in a part more
pub none_more : (rows part : List Row) → list_any (λ r. is Semicolon r.kind) rows ≡ false → list_any (λ r. is Semicolon r.kind) part ≡ false
    → list_any (λ r. is Semicolon r.kind) (rows ++ part) ≡ false
none_more rows part e f = list_any-append (λ r. is Semicolon r.kind) rows part ∙ rw (e, f) refl

-- an item ends with a part
pub item_more : (rows part after : List Row) → list_any (λ r. is Semicolon r.kind) rows ≡ false → IsItem part after → IsItem (rows ++ part) after
unfolding IsItem
item_more [] part after e i = i
item_more (r ∷ []) [] after e i = inr i
item_more (r ∷ []) (q ∷ part) after e i = (one (is Semicolon r.kind) e, i)
  where
    one : (b : Bool) → (b || false) ≡ false → b ≡ false
    one true f = absurd (cc)
    one false f = refl
item_more (r ∷ q ∷ rows) part after e i = both (is Semicolon r.kind) e (λ f. item_more (q ∷ rows) part after f i)
  where
    both : (b : Bool) → (b || list_any (λ r. is Semicolon r.kind) (q ∷ rows)) ≡ false
        → (list_any (λ r. is Semicolon r.kind) (q ∷ rows) ≡ false → IsItem (q ∷ rows ++ part) after) → (b ≡ false) × IsItem (q ∷ rows ++ part) after
    both true f others = absurd (cc)
    both false f others = (refl, others f)

-- the kinds of a part more
pub kinds_more : (kinds : List Kind) (rows part : List Row) → (kinds ++ kinds_in rows) ++ kinds_in part ≡ kinds ++ kinds_in (rows ++ part)
kinds_more kinds rows part =
    append_assoc kinds (kinds_in rows) (kinds_in part)
    ∙ ap (λ ks. kinds ++ ks) (sym (map-append (λ (r : Row). r.kind) rows part))

-- ---- what is read

-- the tokens that are read, where they are not all held
pub read_others : (others : Option (List Row)) (lent held start : List Row) (count n : ℕ) → lent ≡ held → count ≡ n → unwrap_or others lent ≡ take count start
    → unwrap_or others held ≡ take n start
read_others others lent held start count n e f h =
    subst (λ (rs : List Row). unwrap_or others rs ≡ take n start) e (subst (λ k. unwrap_or others lent ≡ take k start) f h)

-- what was there is what is read and what is left
pub read_cut : (given start left all : List Row) (n : ℕ) → start ≡ given → IsRead start n left → all ≡ take n start → given ≡ all ++ left
read_cut given start left all n s h e = sym s ∙ sym h.all ∙ ap (λ rs. rs ++ left) (sym e)

pub none_next : (rows : List Row) (r : Row) → list_any (λ r. is Semicolon r.kind) rows ≡ false → is Semicolon r.kind ≡ false
    → list_any (λ r. is Semicolon r.kind) (rows ++ r ∷ []) ≡ false
none_next rows r e f = list_any-append (λ r. is Semicolon r.kind) rows (r ∷ []) ∙ rw (e, f) refl

-- the kinds of a part more, which is lent
pub kinds_on : (kinds : List Kind) (rows part lent all : List Row) → lent ≡ part → all ≡ rows ++ part → (kinds ++ kinds_in rows) ++ kinds_in lent ≡ kinds ++ kinds_in all
kinds_on kinds rows part lent all e f = rw (e, f) (kinds_more kinds rows part)
