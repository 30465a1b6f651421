-- Rows of two texts that are the same, pair by pair.
use Rattle.std.proofs.Common.{◌≡◌, ℕ, Bool, true, false, cond, List, [], ◌∷◌, ◌++◌, map, refl, sym, ap, ◌∙◌, subst}
use Rattle.std.specs.Prelude.{◌+◌, ◌^◌, filter, min}
use Rattle.std.specs.List.{before_first, flat_map}
use Rattle.vg_num.specs.Number.{value_of}
use Rattle.ver_text.specs.Names.{name_of}
use Rattle.ver_syntax.specs.declared.row.Row.{Row}
use Rattle.ver_items.specs.Sections.{Section, name_at, number_at, section_before, sections}
use Rattle.ver_patch.proofs.StandLemmas.{before_others, no_sections, sections_by}
use Rattle.ver_patch_laws.proofs.ChangedLemmas.{IsSame}
use Rattle.ver_patch_laws.proofs.RelinkedLemmas.{ArePairs}

-- ---- pairs

pub pairs_append : {X Y : Type 0} (R : X → Y → Type 0) (xs : List X) (ys : List Y) (us : List X) (vs : List Y) → ArePairs R xs ys → ArePairs R us vs
    → ArePairs R (xs ++ us) (ys ++ vs)
pairs_append R _ _ us vs ArePairs.done k = k
pairs_append R _ _ us vs (ArePairs.pair {x} {y} {xs} {ys} r h) k = ArePairs.pair r (pairs_append R xs ys us vs h k)

pub pairs_map : {X Y U V : Type 0} (R : X → Y → Type 0) (S : U → V → Type 0) (f : X → U) (g : Y → V) → ((x : X) (y : Y) → R x y → S (f x) (g y))
    → (xs : List X) (ys : List Y) → ArePairs R xs ys → ArePairs S (map f xs) (map g ys)
pairs_map R S f g h _ _ ArePairs.done = ArePairs.done
pairs_map R S f g h _ _ (ArePairs.pair {x} {y} {xs} {ys} r k) = ArePairs.pair (h x y r) (pairs_map R S f g h xs ys k)

pub pairs_flat : {X Y U V : Type 0} (R : X → Y → Type 0) (S : U → V → Type 0) (f : X → List U) (g : Y → List V)
    → ((x : X) (y : Y) → R x y → ArePairs S (f x) (g y)) → (xs : List X) (ys : List Y) → ArePairs R xs ys → ArePairs S (flat_map f xs) (flat_map g ys)
pairs_flat R S f g h _ _ ArePairs.done = ArePairs.done
pairs_flat R S f g h _ _ (ArePairs.pair {x} {y} {xs} {ys} r k) =
    pairs_append S (f x) (g y) (flat_map f xs) (flat_map g ys) (h x y r) (pairs_flat R S f g h xs ys k)

-- what is the same of each pair is the same of all
pub pairs_equal : {X Y Z : Type 0} (R : X → Y → Type 0) (f : X → Z) (g : Y → Z) → ((x : X) (y : Y) → R x y → f x ≡ g y) → (xs : List X) (ys : List Y)
    → ArePairs R xs ys → map f xs ≡ map g ys
pairs_equal R f g h _ _ ArePairs.done = refl
pairs_equal R f g h _ _ (ArePairs.pair {x} {y} {xs} {ys} r k) = let one = h x y r in let more = pairs_equal R f g h xs ys k in λ i. one i ∷ more i

pub pairs_flat_equal : {X Y Z : Type 0} (R : X → Y → Type 0) (f : X → List Z) (g : Y → List Z) → ((x : X) (y : Y) → R x y → f x ≡ g y)
    → (xs : List X) (ys : List Y) → ArePairs R xs ys → flat_map f xs ≡ flat_map g ys
pairs_flat_equal R f g h _ _ ArePairs.done = refl
pairs_flat_equal R f g h _ _ (ArePairs.pair {x} {y} {xs} {ys} r k) =
    let one = h x y r in let more = pairs_flat_equal R f g h xs ys k in λ i. one i ++ more i

-- ---- the same rows

module _ (text new : List ℕ) where
  abbrev pub AreSame : List Row → List Row → Type 0
  AreSame rows others = ArePairs (IsSame text new) rows others

  pub record IsSameSection (s t : Section) : Type 0 where
    pub head : IsSame text new s.head t.head
    pub body : AreSame s.body t.body

  pub name_same : (r q : Row) → IsSame text new r q → name_at text r ≡ name_at new q
  name_same r q s = ap name_of s.bytes

  pub number_same : (r q : Row) → IsSame text new r q → number_at text r ≡ number_at new q
  number_same r q s = ap (λ bytes. min (value_of bytes) (2 ^ 20 + 1)) s.bytes

  module _ (test : Row → Bool) (alike : (r q : Row) → r.place ≡ q.place → r.kind ≡ q.kind → test r ≡ test q) where
    pub filter_same : (rows others : List Row) → AreSame rows others → AreSame (filter test rows) (filter test others)
    filter_same _ _ ArePairs.done = ArePairs.done
    filter_same _ _ (ArePairs.pair {x = r} {y = q} {xs = rows} {ys = others} s h) =
        subst (λ b. AreSame (cond (test r) (r ∷ filter test rows) (filter test rows)) (cond b (q ∷ filter test others) (filter test others))) (alike r q s.place s.kind)
        (by_test (test r) (filter_same rows others h))
      where
        by_test : (b : Bool) → AreSame (filter test rows) (filter test others)
            → AreSame (cond b (r ∷ filter test rows) (filter test rows)) (cond b (q ∷ filter test others) (filter test others))
        by_test true k = ArePairs.pair s k
        by_test false k = k

    pub before_same : (rows others : List Row) → AreSame rows others → AreSame (before_first test rows) (before_first test others)
    before_same _ _ ArePairs.done = ArePairs.done
    before_same _ _ (ArePairs.pair {x = r} {y = q} {xs = rows} {ys = others} s h) = by_test (test r) refl (before_same rows others h)
      where
        by_test : (b : Bool) → test r ≡ b → AreSame (before_first test rows) (before_first test others)
            → AreSame (before_first test (r ∷ rows)) (before_first test (q ∷ others))
        by_test true t k =
            subst (λ xs. AreSame xs (before_first test (q ∷ others))) (sym (before_others test r rows true t))
            (subst (AreSame []) (sym (before_others test q others true (sym (alike r q s.place s.kind) ∙ t))) ArePairs.done)
        by_test false t k =
            subst (λ xs. AreSame xs (before_first test (q ∷ others))) (sym (before_others test r rows false t))
            (subst (AreSame (r ∷ before_first test rows)) (sym (before_others test q others false (sym (alike r q s.place s.kind) ∙ t))) (ArePairs.pair s k))

    pub sections_same : (rows others : List Row) → AreSame rows others → ArePairs IsSameSection (sections test rows) (sections test others)
    sections_same _ _ ArePairs.done =
        subst (λ ss. ArePairs IsSameSection ss (sections test [])) (sym (no_sections test)) (subst (ArePairs IsSameSection []) (sym (no_sections test)) ArePairs.done)
    sections_same _ _ (ArePairs.pair {x = r} {y = q} {xs = rows} {ys = others} s h) = by_test (test r) refl (sections_same rows others h)
      where
        by_test : (b : Bool) → test r ≡ b → ArePairs IsSameSection (sections test rows) (sections test others)
            → ArePairs IsSameSection (sections test (r ∷ rows)) (sections test (q ∷ others))
        by_test true t k =
            subst (λ ss. ArePairs IsSameSection ss (sections test (q ∷ others))) (sym (sections_by test r rows true t))
            (subst (ArePairs IsSameSection (section_before test r rows ∷ sections test rows)) (sym (sections_by test q others true (sym (alike r q s.place s.kind) ∙ t)))
            (ArePairs.pair (record { head = s; body = before_same rows others h }) k))
        by_test false t k =
            subst (λ ss. ArePairs IsSameSection ss (sections test (q ∷ others))) (sym (sections_by test r rows false t))
            (subst (ArePairs IsSameSection (sections test rows)) (sym (sections_by test q others false (sym (alike r q s.place s.kind) ∙ t))) k)
