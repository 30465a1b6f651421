-- Why the repeaters among the first cells of a library grow cell by cell.
use Rattle.std.proofs.Common.{◌≡◌, ℕ, zero, suc, ◌+◌, ◌<◌, inl, inr, List, [], ◌∷◌, ◌++◌, length, take, drop, map, refl, sym, ap, ◌∙◌, arith, get_or, length-append}
use Rattle.std.proofs.lemmas.List.{append-nil, take-append-drop}
use Rattle.lib_text.specs.Groups.{Group}
use Rattle.lib_linear.specs.declared.repeater.Repeater.{Repeater}
use Rattle.lib_cells.specs.declared.units.Units.{Units}
use Rattle.lib_linear.specs.Repeaters.{AreRepeaters, IsNoRepeater, IsOver, IsRepeater}
use Rattle.lib_linear.specs.Repeaters.AreRepeaters.{no_cell, taken, passed}
use Rattle.lib_linear.specs.RepeaterSteps.{HasTaken, IsNext, IsOneMore}

-- the first of what is left of a list
record IsAt {X : Type 0} (xs : List X) (at : ℕ) (x : X) (left : List X) : Type 0 where
  within : at < length xs
  more : take (at + 1) xs ≡ take at xs ++ x ∷ []
  rest : left ≡ drop (at + 1) xs
  cut : xs ≡ take at xs ++ x ∷ left

is_at : {X : Type 0} (xs : List X) (at : ℕ) (x : X) (left : List X) → x ∷ left ≡ drop at xs → IsAt xs at x left
is_at [] zero x left e = absurd (cc)
is_at [] (suc at) x left e = absurd (cc)
is_at (y ∷ ys) zero x left e = rw (sym e) record { within = omega arith; more = refl; rest = refl; cut = refl }
is_at (y ∷ ys) (suc at) x left e =
    let h = is_at ys at x left e in
    let n : suc at + 1 ≡ suc (at + 1) = omega arith in
    record { within = let w = h.within in omega (arith, w); more = rw n (ap (λ zs. y ∷ zs) h.more); rest = rw n h.rest; cut = ap (λ zs. y ∷ zs) h.cut }

pub info_at : {X Y : Type 0} (f : X → Y) (xs : List X) (at : ℕ) (x : X) (left : List X) (d : Y) → x ∷ left ≡ drop at xs → get_or (map f xs) at d ≡ f x
info_at f [] zero x left d e = absurd (cc)
info_at f [] (suc at) x left d e = absurd (cc)
info_at f (y ∷ ys) zero x left d e = ap f (grind arith)
info_at f (y ∷ ys) (suc at) x left d e = info_at f ys at x left d e

module _ (units : Units) where
  with_none : (before : List Group) (cell : Group) (found : List Repeater) → AreRepeaters units before found
      → IsNoRepeater units cell → AreRepeaters units (before ++ cell ∷ []) found
  with_none before cell found no_cell never = passed never no_cell
  with_none before cell found (taken r f) never = taken r (with_none _ cell _ f never)
  with_none before cell found (passed out f) never = passed out (with_none _ cell _ f never)

  with_one : (before : List Group) (cell : Group) (found : List Repeater) (r : Repeater) → AreRepeaters units before found
      → IsRepeater units cell r → AreRepeaters units (before ++ cell ∷ []) (found ++ r ∷ [])
  with_one before cell found r no_cell is = taken is no_cell
  with_one before cell found r (taken s f) is = taken s (with_one _ cell _ r f is)
  with_one before cell found r (passed out f) is = passed out (with_one _ cell _ r f is)

  module _ (cells : List Group) where
    pub start : HasTaken units cells cells 0 []
    start = record { within = omega arith; rest = refl; are = no_cell; few = omega arith }

    pub finish : (at : ℕ) (found : List Repeater) → HasTaken units cells [] at found → AreRepeaters units cells found
    finish at found h =
        let e : take at cells ≡ cells = sym (append-nil (take at cells)) ∙ ap (λ left. take at cells ++ left) h.rest ∙ take-append-drop at cells in rw e at h.are

    module _ (cell : Group) (left : List Group) (at : ℕ) (found : List Repeater) (h : HasTaken units cells (cell ∷ left) at found) where
      pub step : (new : List Repeater) → IsNext units cell found new → HasTaken units cells left (at + 1) new
      step new (inl none) =
          let p = is_at cells at cell left h.rest in
          rw none.same
          record {
            within = let w = p.within in omega (arith, w);
            rest = p.rest;
            are = rw p.more (with_none (take at cells) cell found h.are none.not);
            few = h.few;
          }
      step new (inr one) =
          let p = is_at cells at cell left h.rest in
          rw one.more
          record {
            within = let w = p.within in omega (arith, w);
            rest = p.rest;
            are = rw p.more (with_one (take at cells) cell found one.repeater h.are one.is);
            few = let m = one.room in omega (arith, m, length-append found (one.repeater ∷ []));
          }

      pub over : (place : ℕ) → IsOneMore units cell found place → IsOver units cells place
      over place one =
          let p = is_at cells at cell left h.rest in
          record {
            before = take at cells;
            cell = cell;
            after = left;
            found = found;
            repeater = one.repeater;
            cut = p.cut;
            are = h.are;
            full = let f = one.full in let w = h.few in omega (arith, f, w);
            one_more = one.is;
            here = one.here;
          }
