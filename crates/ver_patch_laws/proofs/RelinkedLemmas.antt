-- The rows of the text of a changed netlist beside those of the text, with what stands in each connection that is made
-- anew.
use Rattle.std.proofs.Common.{◌≡◌, ℕ, zero, suc, Bool, true, false, List, [], ◌∷◌, ◌++◌, Some, refl, sym, ◌∙◌, subst, ◌⊎◌, inl, inr}
use Rattle.std.specs.Prelude.{slice_get}
use Rattle.std.specs.List.{before_first}
use Rattle.std.proofs.lemmas.Option.{none-some, same_Some}
use Rattle.ver_syntax.specs.declared.row.Row.{Row}
use Rattle.ver_items.specs.Sections.{Section, section_before, sections}
use Rattle.ver_patch.proofs.StandLemmas.{before_others, no_sections, sections_by}
use Rattle.ver_patch_text_laws.proofs.RunLemmas.{EachRow}
use Rattle.ver_patch_text_laws.proofs.SectionLemmas.{Quits}
use Rattle.ver_patch_text_laws.proofs.TextLemmas.{Each}
use Rattle.ver_patch_laws.proofs.ChangedLemmas.{InOne, IsSame}
use Rattle.ver_patch_laws.proofs.SectionLemmas.{before_skip, sections_skip}

-- ---- lists

-- one of a list
abbrev pub In : {X : Type 0} → X → List X → Type 0
In x [] = ⊥
In x (y ∷ ys) = (x ≡ y) ⊎ In x ys

pub each_in : {X : Type 0} (P : X → Type 0) (xs : List X) (x : X) → Each P xs → In x xs → P x
each_in P [] x h i = absurd i
each_in P (y ∷ ys) x h (inl e) = subst P (sym e) h.0
each_in P (y ∷ ys) x h (inr i) = each_in P ys x h.1 i

-- things of two lists, pair by pair
pub data ArePairs {X Y : Type 0} (R : X → Y → Type 0) : List X → List Y → Type 0 where
  done : ArePairs R [] []
  pair : {x : X} {y : Y} {xs : List X} {ys : List Y} → R x y → ArePairs R xs ys → ArePairs R (x ∷ xs) (y ∷ ys)

pub pair_at : {X Y : Type 0} (R : X → Y → Type 0) (xs : List X) (ys : List Y) (k : ℕ) (x : X) → ArePairs R xs ys → slice_get xs k ≡ Some x
    → (y : Y) × (slice_get ys k ≡ Some y) × R x y
pair_at R _ _ k x ArePairs.done e = absurd (none-some x e)
pair_at R _ _ zero z (ArePairs.pair {x} {y} {xs} {ys} r h) e = (y, refl, subst (λ u. R u y) (same_Some x z e) r)
pair_at R _ _ (suc k) z (ArePairs.pair {x} {y} {xs} {ys} r h) e = pair_at R xs ys k z h e

-- ---- rows

-- rows of a connection give way to others, and what follows stands in none
pub record IsReplaced (Becomes : List Row → List Row → Type 0) (old made rows others : List Row) : Type 0 where
  pub before : EachRow InOne old
  pub now : EachRow InOne made
  pub becomes : Becomes old made
  pub quits : Quits rows
  pub quits_now : Quits others

-- rows of a text, and those of another: the same at places that are free, but for connections that give way to others
pub data AreRelinked (text new : List ℕ) (Free : ℕ → Type 0) (Becomes : List Row → List Row → Type 0) : List Row → List Row → Type 0 where
  none : AreRelinked text new Free Becomes [] []
  kept : {r q : Row} {rows others : List Row} → IsSame text new r q → Free r.from → AreRelinked text new Free Becomes rows others
      → AreRelinked text new Free Becomes (r ∷ rows) (q ∷ others)
  replaced : (old made rows others : List Row) → IsReplaced Becomes old made rows others → AreRelinked text new Free Becomes rows others
      → AreRelinked text new Free Becomes (old ++ rows) (made ++ others)

pub quits_before : (test : Row → Bool) (rows : List Row) → Quits rows → Quits (before_first test rows)
quits_before test [] h = tt
quits_before test (r ∷ rows) h = by_test (test r) refl
  where
    by_test : (b : Bool) → test r ≡ b → Quits (before_first test (r ∷ rows))
    by_test true t = subst Quits (sym (before_others test r rows true t)) tt
    by_test false t = subst Quits (sym (before_others test r rows false t)) h

module _ (text new : List ℕ) (Free : ℕ → Type 0) (Becomes : List Row → List Row → Type 0) where
  -- sections of the same heads, whose rows are relinked
  pub record IsPair (s t : Section) : Type 0 where
    pub head : IsSame text new s.head t.head
    pub free : Free s.head.from
    pub body : AreRelinked text new Free Becomes s.body t.body

  module _ (test : Row → Bool) (alike : (r q : Row) → r.place ≡ q.place → r.kind ≡ q.kind → test r ≡ test q) (off : (r : Row) → InOne r → test r ≡ false) where
    all_off : (rows : List Row) → EachRow InOne rows → EachRow (λ r. test r ≡ false) rows
    all_off [] h = tt
    all_off (r ∷ rows) h = (off r h.0, all_off rows h.1)

    pub before_relinked : (rows others : List Row) → AreRelinked text new Free Becomes rows others
        → AreRelinked text new Free Becomes (before_first test rows) (before_first test others)
    before_relinked _ _ AreRelinked.none = AreRelinked.none
    before_relinked _ _ (AreRelinked.kept {r} {q} {rows} {others} same free more) = by_test (test r) refl (before_relinked rows others more)
      where
        by_test : (b : Bool) → test r ≡ b → AreRelinked text new Free Becomes (before_first test rows) (before_first test others)
            → AreRelinked text new Free Becomes (before_first test (r ∷ rows)) (before_first test (q ∷ others))
        by_test true t h =
            subst (λ xs. AreRelinked text new Free Becomes xs (before_first test (q ∷ others))) (sym (before_others test r rows true t))
            (subst (AreRelinked text new Free Becomes []) (sym (before_others test q others true (sym (alike r q same.place same.kind) ∙ t))) AreRelinked.none)
        by_test false t h =
            subst (λ xs. AreRelinked text new Free Becomes xs (before_first test (q ∷ others))) (sym (before_others test r rows false t))
            (subst (AreRelinked text new Free Becomes (r ∷ before_first test rows))
            (sym (before_others test q others false (sym (alike r q same.place same.kind) ∙ t))) (AreRelinked.kept same free h))
    before_relinked _ _ (AreRelinked.replaced old made rows others i more) =
        subst (λ xs. AreRelinked text new Free Becomes xs (before_first test (made ++ others))) (sym (before_skip test old rows (all_off old i.before)))
        (subst (AreRelinked text new Free Becomes (old ++ before_first test rows)) (sym (before_skip test made others (all_off made i.now)))
        (AreRelinked.replaced old made (before_first test rows) (before_first test others) (record {
          before = i.before;
          now = i.now;
          becomes = i.becomes;
          quits = quits_before test rows i.quits;
          quits_now = quits_before test others i.quits_now;
        }) (before_relinked rows others more)))

    pub sections_relinked : (rows others : List Row) → AreRelinked text new Free Becomes rows others → ArePairs IsPair (sections test rows) (sections test others)
    sections_relinked _ _ AreRelinked.none =
        subst (λ ss. ArePairs IsPair ss (sections test [])) (sym (no_sections test)) (subst (ArePairs IsPair []) (sym (no_sections test)) ArePairs.done)
    sections_relinked _ _ (AreRelinked.kept {r} {q} {rows} {others} same free more) = by_test (test r) refl (sections_relinked rows others more)
      where
        by_test : (b : Bool) → test r ≡ b → ArePairs IsPair (sections test rows) (sections test others)
            → ArePairs IsPair (sections test (r ∷ rows)) (sections test (q ∷ others))
        by_test true t h =
            subst (λ ss. ArePairs IsPair ss (sections test (q ∷ others))) (sym (sections_by test r rows true t))
            (subst (ArePairs IsPair (section_before test r rows ∷ sections test rows)) (sym (sections_by test q others true (sym (alike r q same.place same.kind) ∙ t)))
            (ArePairs.pair (record { head = same; free = free; body = before_relinked rows others more }) h))
        by_test false t h =
            subst (λ ss. ArePairs IsPair ss (sections test (q ∷ others))) (sym (sections_by test r rows false t))
            (subst (ArePairs IsPair (sections test rows)) (sym (sections_by test q others false (sym (alike r q same.place same.kind) ∙ t))) h)
    sections_relinked _ _ (AreRelinked.replaced old made rows others i more) =
        subst (λ ss. ArePairs IsPair ss (sections test (made ++ others))) (sym (sections_skip test old rows (all_off old i.before)))
        (subst (ArePairs IsPair (sections test rows)) (sym (sections_skip test made others (all_off made i.now))) (sections_relinked rows others more))
