-- Rows that are kept in order: one row more, and a copy.
use Rattle.std.proofs.Common.{◌≡◌, ℕ, true, false, cond, List, [], ◌∷◌, Vec, BTreeMap, Global, inl, inr, refl, sym, ◌∙◌, subst, Some}
use Rattle.std.proofs.lemmas.Bool.{cases_Bool, cond-true, cond-false}
use Rattle.std.proofs.lemmas.Map.Text.{is_eq-slice_cmp}
use Rattle.std.proofs.lemmas.Slice.Eq.{bytes_eq-Decides}
use Rattle.std.specs.BTreeMap.{get_by, Updates, is_at, IsClone}
use Rattle.std.specs.Cmp.{eq_by_cmp_equiv}
use Rattle.std.specs.Cmp.Lexicographic.{slice_cmp, nat_list_cmp_total}
use Rattle.std.specs.List.{AllZip}
use Rattle.std.specs.Map.{KeepsOthers, lookup}
use Rattle.std.specs.Ordering.{is_eq, nat_cmp, eq_by_cmp}
use Rattle.std.specs.Str.{bytes_eq}
use Rattle.std.specs.Vec.{vec_len}

apart : (text other key : List ℕ) → bytes_eq text other ≡ false → is_eq (slice_cmp nat_cmp text key) ≡ true → is_eq (slice_cmp nat_cmp other key) ≡ false
apart text other key differ there =
    let same : text ≡ key = (bytes_eq-Decides text key).0 (sym (is_eq-slice_cmp text key) ∙ there) in
    elim (cases_Bool (is_eq (slice_cmp nat_cmp other key))) as (λ _. is_eq (slice_cmp nat_cmp other key) ≡ false) [
      | inl also_there ↦
          let also : other ≡ key = (bytes_eq-Decides other key).0 (sym (is_eq-slice_cmp other key) ∙ also_there) in
          let clash : true ≡ false = sym ((bytes_eq-Decides text other).1 (same ∙ sym also)) ∙ differ in
          absurd (cc)
      | inr missing ↦ missing
    ]

others : (old new : List (Vec ℕ Global × ℕ)) (text other : List ℕ) → KeepsOthers (eq_by_cmp (λ (x y : Vec ℕ Global). slice_cmp nat_cmp x.items y.items)) (is_at (λ (k : Vec ℕ Global). slice_cmp nat_cmp text k.items)) old new
    → bytes_eq text other ≡ false → lookup (is_at (λ (k : Vec ℕ Global). slice_cmp nat_cmp other k.items)) new ≡ lookup (is_at (λ (k : Vec ℕ Global). slice_cmp nat_cmp other k.items)) old
unfolding KeepsOthers
others old new text other h differ = h _ (λ x y. (eq_by_cmp_equiv nat_list_cmp_total).congr other x.items y.items) (λ k. apart text other k.items differ)

pub updated : (old new : BTreeMap (Vec ℕ Global) ℕ) (key : Vec ℕ Global) (row : ℕ) → Updates (λ x y. slice_cmp nat_cmp x.items y.items) old new key (Some row)
    → (other : List ℕ) → get_by (λ k. slice_cmp nat_cmp other k.items) new ≡ cond (bytes_eq key.items other) (Some row) (get_by (λ k. slice_cmp nat_cmp other k.items) old)
updated old new key row h other =
    elim (cases_Bool (bytes_eq key.items other)) as (λ _. get_by (λ k. slice_cmp nat_cmp other k.items) new ≡ cond (bytes_eq key.items other) (Some row) (get_by (λ k. slice_cmp nat_cmp other k.items) old)) [
      | inl there ↦
          let same : key.items ≡ other = (bytes_eq-Decides key.items other).0 there in
          subst (λ text. get_by (λ k. slice_cmp nat_cmp text k.items) new ≡ Some row) same h.1 ∙ sym (cond-true (bytes_eq key.items other) (Some row) _ there)
      | inr missing ↦ others old.entries new.entries key.items other h.3 missing ∙ sym (cond-false (bytes_eq key.items other) (Some row) _ missing)
    ]

-- a copy, whose numbers are those of the old one
same_items : (Copies : ℕ → ℕ → Type 0) → ((x y : ℕ) → Copies x y → y ≡ x) → (xs ys : List ℕ) → AllZip Copies xs ys → ys ≡ xs
same_items Copies exact [] [] h = refl
same_items Copies exact [] (y ∷ ys) h = absurd h
same_items Copies exact (x ∷ xs) [] h = absurd h
same_items Copies exact (x ∷ xs) (y ∷ ys) h = λ i. exact x y h.0 i ∷ same_items Copies exact xs ys h.1 i

same_rows : (Copies : ℕ → ℕ → Type 0) → ((x y : ℕ) → Copies x y → y ≡ x) → (old new : List (Vec ℕ Global × ℕ)) → AllZip (λ p q. (AllZip Copies p.0.items q.0.items × (vec_len q.0 ≡ vec_len p.0)) × Copies p.1 q.1) old new
    → (text : List ℕ) → lookup (is_at (λ (k : Vec ℕ Global). slice_cmp nat_cmp text k.items)) new ≡ lookup (is_at (λ (k : Vec ℕ Global). slice_cmp nat_cmp text k.items)) old
same_rows Copies exact [] [] h text = refl
same_rows Copies exact [] (q ∷ qs) h text = absurd h
same_rows Copies exact (p ∷ ps) [] h text = absurd h
same_rows Copies exact (p ∷ ps) (q ∷ qs) h text =
    let key = same_items Copies exact p.0.items q.0.items h.0.0.0 in
    λ i. cond (is_eq (slice_cmp nat_cmp text (key i))) (Some (exact p.1 q.1 h.0.1 i)) (same_rows Copies exact ps qs h.1 text i)

pub copied : (Copies : ℕ → ℕ → Type 0) → ((x y : ℕ) → Copies x y → y ≡ x) → (old new : BTreeMap (Vec ℕ Global) ℕ)
    → IsClone (λ v w. AllZip Copies v.items w.items × (vec_len w ≡ vec_len v)) Copies old new
    → (text : List ℕ) → get_by (λ k. slice_cmp nat_cmp text k.items) new ≡ get_by (λ k. slice_cmp nat_cmp text k.items) old
copied Copies exact old new h = same_rows Copies exact old.entries new.entries h
