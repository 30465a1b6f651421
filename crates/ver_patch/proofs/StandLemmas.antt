-- Tokens, sections of tokens, and other things that stand one after another between two places of a text.
use Rattle.std.proofs.Common.{◌≡◌, ℕ, zero, suc, ◌+◌, ◌<◌, ◌≤◌, Bool, true, false, cond, List, [], ◌∷◌, ◌++◌, map, take, drop, Some, refl, sym, ap, subst, arith}
use Rattle.std.specs.Prelude.{slice_get}
use Rattle.std.specs.List.{before_first, flat_map, position_or_len}
use Rattle.std.proofs.lemmas.Option.{none-some, same_Some}
use Rattle.ver_syntax.specs.declared.row.Row.{Row}
use Rattle.ver_items.specs.Sections.{Section, section_before, sections}

-- ---- tokens

-- tokens stand one after another between two places, and none is empty
abbrev pub Stand : ℕ → ℕ → List Row → Type 0
Stand from to [] = from ≤ to
Stand from to (r ∷ rows) = (from ≤ r.from) × (r.from < r.to) × Stand r.to to rows

pub stand_within : (rows : List Row) (from to : ℕ) → Stand from to rows → from ≤ to
stand_within [] from to h = h
stand_within (r ∷ rows) from to h = let more = stand_within rows r.to to h.2 in omega (arith, h.0, h.1, more)

stand_from : (rows : List Row) (before from to : ℕ) → before ≤ from → Stand from to rows → Stand before to rows
stand_from [] before from to low h = omega (arith, low, h)
stand_from (r ∷ rows) before from to low h = (omega (arith, low, h.0), h.1, h.2)

pub stand_take : (rows : List Row) (n from to : ℕ) → Stand from to rows → Stand from to (take n rows)
stand_take [] zero from to h = h
stand_take [] (suc n) from to h = h
stand_take (r ∷ rows) zero from to h = stand_within (r ∷ rows) from to h
stand_take (r ∷ rows) (suc n) from to h = (h.0, h.1, stand_take rows n r.to to h.2)

pub stand_rest : (r : Row) (rows : List Row) (from to : ℕ) → Stand from to (r ∷ rows) → Stand from to rows
stand_rest r rows from to h = stand_from rows from r.to to (omega (arith, h.0, h.1)) h.2

pub stand_drop_one : (rows : List Row) (from to : ℕ) → Stand from to rows → Stand from to (drop 1 rows)
stand_drop_one [] from to h = h
stand_drop_one (r ∷ rows) from to h = stand_rest r rows from to h

-- all but the last stand before it
pub stand_front : (rows : List Row) (last : Row) (from to : ℕ) → Stand from to (rows ++ last ∷ []) → Stand from last.from rows × (last.from ≤ to)
stand_front [] last from to h = (h.0, omega (arith, h.1, h.2))
stand_front (r ∷ rows) last from to h = let (front, low) = stand_front rows last r.to to h.2 in ((h.0, h.1, front), low)

-- ---- things

-- each thing of a list stands between two places, one after another
abbrev pub Chain : {X : Type 0} → (ℕ → ℕ → X → Type 0) → ℕ → ℕ → List X → Type 0
Chain P from to [] = from ≤ to
Chain P from to (x ∷ xs) = (mid : ℕ) × (from ≤ mid) × P from mid x × Chain P mid to xs

-- what stands behind a place stands behind an earlier one
abbrev pub Falls : {X : Type 0} → (ℕ → ℕ → X → Type 0) → Type 0
Falls {X} P = (x : X) (before from to : ℕ) → before ≤ from → P from to x → P before to x

pub chain_within : {X : Type 0} (P : ℕ → ℕ → X → Type 0) (xs : List X) (from to : ℕ) → Chain P from to xs → from ≤ to
chain_within P [] from to h = h
chain_within P (x ∷ xs) from to (mid, low, here, rest) = let more = chain_within P xs mid to rest in omega (arith, low, more)

pub chain_from : {X : Type 0} (P : ℕ → ℕ → X → Type 0) → Falls P → (xs : List X) (before from to : ℕ) → before ≤ from → Chain P from to xs → Chain P before to xs
chain_from P falls [] before from to low h = omega (arith, low, h)
chain_from P falls (x ∷ xs) before from to low (mid, up, here, rest) = (mid, omega (arith, low, up), falls x before from mid low here, rest)

chain_append : {X : Type 0} (P : ℕ → ℕ → X → Type 0) → Falls P → (xs ys : List X) (from mid to : ℕ) → Chain P from mid xs → Chain P mid to ys
    → Chain P from to (xs ++ ys)
chain_append P falls [] ys from mid to h k = chain_from P falls ys from mid to h k
chain_append P falls (x ∷ xs) ys from mid to (next, up, here, rest) k = (next, up, here, chain_append P falls xs ys next mid to rest k)

pub chain_map : {X Y : Type 0} (P : ℕ → ℕ → X → Type 0) (Q : ℕ → ℕ → Y → Type 0) (f : X → Y) → ((x : X) (from to : ℕ) → P from to x → Q from to (f x))
    → (xs : List X) (from to : ℕ) → Chain P from to xs → Chain Q from to (map f xs)
chain_map P Q f each [] from to h = h
chain_map P Q f each (x ∷ xs) from to (mid, up, here, rest) = (mid, up, each x from mid here, chain_map P Q f each xs mid to rest)

pub chain_flat : {X Y : Type 0} (P : ℕ → ℕ → X → Type 0) (Q : ℕ → ℕ → Y → Type 0) → Falls Q → (f : X → List Y)
    → ((x : X) (from to : ℕ) → P from to x → Chain Q from to (f x)) → (xs : List X) (from to : ℕ) → Chain P from to xs → Chain Q from to (flat_map f xs)
chain_flat P Q falls f each [] from to h = h
chain_flat P Q falls f each (x ∷ xs) from to (mid, up, here, rest) =
    chain_append Q falls (f x) (flat_map f xs) from mid to (each x from mid here) (chain_flat P Q falls f each xs mid to rest)

-- ---- one or two of them

-- one of them stands between two places, which lie between these
pub record IsInside {X : Type 0} (P : ℕ → ℕ → X → Type 0) (from to : ℕ) (x : X) : Type 0 where
  pub start : ℕ
  pub end : ℕ
  pub behind : from ≤ start
  pub before : end ≤ to
  pub holds : P start end x

inside_from : {X : Type 0} (P : ℕ → ℕ → X → Type 0) (x : X) (before from to : ℕ) → before ≤ from → IsInside P from to x → IsInside P before to x
inside_from P x before from to low h = record { start = h.start; end = h.end; behind = omega (arith, low, h.behind); before = h.before; holds = h.holds }

pub chain_at : {X : Type 0} (P : ℕ → ℕ → X → Type 0) (xs : List X) (i : ℕ) (x : X) (from to : ℕ) → Chain P from to xs → slice_get xs i ≡ Some x
    → IsInside P from to x
chain_at P [] i x from to h e = absurd (none-some x e)
chain_at P (y ∷ ys) zero x from to (mid, up, here, rest) e = record {
  start = from;
  end = mid;
  behind = omega arith;
  before = chain_within P ys mid to rest;
  holds = subst (P from mid) (same_Some y x e) here;
}
chain_at P (y ∷ ys) (suc i) x from to (mid, up, here, rest) e = inside_from P x from mid to up (chain_at P ys i x mid to rest e)

-- two of them stand on two sides of a place
pub record AreInside {X : Type 0} (P : ℕ → ℕ → X → Type 0) (from to : ℕ) (x y : X) : Type 0 where
  pub mid : ℕ
  pub first : IsInside P from mid x
  pub second : IsInside P mid to y

pub chain_two : {X : Type 0} (P : ℕ → ℕ → X → Type 0) (xs : List X) (i j : ℕ) (x y : X) (from to : ℕ) → Chain P from to xs → i < j
    → slice_get xs i ≡ Some x → slice_get xs j ≡ Some y → AreInside P from to x y
chain_two P [] i j x y from to h less e f = absurd (none-some x e)
chain_two P (z ∷ zs) i zero x y from to h less e f = absurd (omega (arith, less))
chain_two P (z ∷ zs) zero (suc j) x y from to (mid, up, here, rest) less e f = record {
  mid = mid;
  first = record { start = from; end = mid; behind = omega arith; before = omega arith; holds = subst (P from mid) (same_Some z x e) here };
  second = chain_at P zs j y mid to rest f;
}
chain_two P (z ∷ zs) (suc i) (suc j) x y from to (mid, up, here, rest) less e f =
    let two = chain_two P zs i j x y mid to rest (omega (arith, less)) e f in
    record { mid = two.mid; first = inside_from P x from mid two.mid up two.first; second = two.second }

-- ---- sections

-- the tokens of a section stand between two places
abbrev pub SectionStands : ℕ → ℕ → Section → Type 0
SectionStands from to s = Stand from to (s.head ∷ s.body)

pub sections_fall : Falls SectionStands
sections_fall s before from to low h = stand_from (s.head ∷ s.body) before from to low h

-- the tokens before the first that begins something
pub before_others : (begins : Row → Bool) (r : Row) (rows : List Row) (b : Bool) → begins r ≡ b
    → before_first begins (r ∷ rows) ≡ cond b [] (r ∷ before_first begins rows)
before_others begins r rows true t = rw t refl
before_others begins r rows false t =
    let more : 1 + position_or_len begins rows ≡ suc (position_or_len begins rows) = omega arith in
    rw t (ap (λ n. take n (r ∷ rows)) more)

pub sections_by : (begins : Row → Bool) (r : Row) (rows : List Row) (b : Bool) → begins r ≡ b
    → sections begins (r ∷ rows) ≡ cond b (section_before begins r rows ∷ sections begins rows) (sections begins rows)
unfolding sections
sections_by begins r rows true t = rw t refl
sections_by begins r rows false t = rw t refl

pub no_sections : (begins : Row → Bool) → sections begins [] ≡ []
unfolding sections
no_sections begins = refl

-- tokens, and the sections behind the first of them that begins one
pub record AreCut (begins : Row → Bool) (from to : ℕ) (rows : List Row) : Type 0 where
  pub mid : ℕ
  pub front : Stand from mid (before_first begins rows)
  pub rest : Chain SectionStands mid to (sections begins rows)

pub cut : (begins : Row → Bool) (rows : List Row) (from to : ℕ) → Stand from to rows → AreCut begins from to rows
cut begins [] from to h = record {
  mid = to;
  front = h;
  rest = subst (Chain SectionStands to to) (sym (no_sections begins)) (let low : to ≤ to = omega arith in low);
}
cut begins (r ∷ rows) from to h = by_test (begins r) refl (cut begins rows r.to to h.2)
  where
    by_test : (b : Bool) → begins r ≡ b → AreCut begins r.to to rows → AreCut begins from to (r ∷ rows)
    by_test true t k = record {
      mid = from;
      front = subst (Stand from from) (sym (before_others begins r rows true t)) (let low : from ≤ from = omega arith in low);
      rest =
          subst (Chain SectionStands from to) (sym (sections_by begins r rows true t))
          (k.mid, omega (arith, h.0, h.1, stand_within (before_first begins rows) r.to k.mid k.front), (h.0, h.1, k.front), k.rest);
    }
    by_test false t k = record {
      mid = k.mid;
      front = subst (Stand from k.mid) (sym (before_others begins r rows false t)) (h.0, h.1, k.front);
      rest = subst (Chain SectionStands k.mid to) (sym (sections_by begins r rows false t)) k.rest;
    }

-- the sections alone
pub sections_stand : (begins : Row → Bool) (rows : List Row) (from to : ℕ) → Stand from to rows → Chain SectionStands from to (sections begins rows)
sections_stand begins rows from to h =
    let k = cut begins rows from to h in
    chain_from SectionStands sections_fall (sections begins rows) from k.mid to (stand_within (before_first begins rows) from k.mid k.front) k.rest
