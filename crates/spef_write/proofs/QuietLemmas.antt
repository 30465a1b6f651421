-- Texts in which no comment begins.
use Rattle.std.proofs.Common.{◌≡◌, ℕ, ◌==◌, true, List, [], ◌∷◌, ◌++◌, refl, sym, ap, ◌∙◌, arith, inl, inr, subst}
use Rattle.std.proofs.lemmas.Bool.{cases_Bool}
use Rattle.std.proofs.lemmas.Bool.Decides.{nat_tests}
use Rattle.std.proofs.lemmas.List.{append_assoc}
use Rattle.vg_scan.specs.declared.chars.Chars.{Chars}
use Rattle.vg_scan.specs.declared.comments.Comments.TheVariants.{Spef}
use Rattle.vg_scan.specs.Comments.{without_comments, pieces, some_pieces}
use Rattle.vg_scan.specs.Printed.{printed, printed_byte, is_own}
use Rattle.vg_scan.specs.Separators.{is_separator, is_bus_pair}
use Rattle.vg_scan.proofs.ClearedLemmas.{escape, plain}
use Rattle.vg_scan.proofs.PieceLemmas.{cleared_is}
use Rattle.spef_write.specs.Texts.{IsQuiet, printed_node_with}

pub quiet_both : (xs ys : List ℕ) → IsQuiet xs → IsQuiet ys → IsQuiet (xs ++ ys)
quiet_both xs ys a b rest =
    ap (without_comments Spef) (append_assoc xs ys rest) ∙ a (ys ++ rest) ∙ ap (λ z. xs ++ z) (b rest) ∙ sym (append_assoc xs ys (without_comments Spef rest))

pub quiet_none : IsQuiet []
quiet_none rest = refl

-- a byte that begins nothing
pub quiet_byte : (b : ℕ) → (b ≡ 92 → ⊥) → (b ≡ 34 → ⊥) → (b ≡ 47 → ⊥) → IsQuiet (b ∷ [])
unfolding without_comments pieces some_pieces
quiet_byte b e f g [] = refl
quiet_byte b e f g (c ∷ rest) =
    sym (cleared_is (b ∷ c ∷ rest)) ∙ plain b c rest e f (λ h _. g h) (λ h _. g h) ∙ ap (λ z. b ∷ z) (cleared_is (c ∷ rest))

-- a byte that is hidden
pub quiet_escape : (b : ℕ) → IsQuiet (92 ∷ b ∷ [])
quiet_escape b rest = sym (cleared_is (92 ∷ b ∷ rest)) ∙ escape 92 b rest refl ∙ ap (λ z. 92 ∷ b ∷ z) (cleared_is rest)

-- a slash before another byte than a slash and a star
pub quiet_slash : (c : ℕ) (xs : List ℕ) → (c ≡ 47 → ⊥) → (c ≡ 42 → ⊥) → IsQuiet (c ∷ xs) → IsQuiet (47 ∷ c ∷ xs)
quiet_slash c xs e f q rest =
    sym (cleared_is (47 ∷ c ∷ (xs ++ rest)))
    ∙ plain 47 c (xs ++ rest) (λ h. absurd (omega arith)) (λ h. absurd (omega arith)) (λ _ h. e h) (λ _ h. f h)
    ∙ ap (λ z. 47 ∷ z) (cleared_is (c ∷ (xs ++ rest)) ∙ q rest)

own_quiet : (b : ℕ) → is_own b ≡ true → (b ≡ 92 → ⊥) × (b ≡ 34 → ⊥) × (b ≡ 47 → ⊥)
own_quiet b e = (λ f. grind (arith, nat_tests), λ f. grind (arith, nat_tests), λ f. grind (arith, nat_tests))

left_quiet : (l r : ℕ) → is_bus_pair l r ≡ true → (l ≡ 92 → ⊥) × (l ≡ 34 → ⊥) × (l ≡ 47 → ⊥)
left_quiet l r e = (λ f. grind (arith, nat_tests), λ f. grind (arith, nat_tests), λ f. grind (arith, nat_tests))

right_quiet : (l r : ℕ) → is_bus_pair l r ≡ true → (r ≡ 92 → ⊥) × (r ≡ 34 → ⊥) × (r ≡ 47 → ⊥)
right_quiet l r e = (λ f. grind (arith, nat_tests), λ f. grind (arith, nat_tests), λ f. grind (arith, nat_tests))

quiet : (b : ℕ) → (b ≡ 92 → ⊥) × (b ≡ 34 → ⊥) × (b ≡ 47 → ⊥) → IsQuiet (b ∷ [])
quiet b h = quiet_byte b h.0 h.1 h.2

pub byte_quiet : (chars : Chars) (b : ℕ) → IsQuiet (printed_byte chars b)
byte_quiet chars b =
    elim (cases_Bool (is_own b)) as (λ _. IsQuiet (printed_byte chars b)) [
      | inl own ↦ rw own (quiet b (own_quiet b own))
      | inr other ↦ elim (cases_Bool (b == 91)) as (λ _. IsQuiet (printed_byte chars b)) [
        | inl left ↦ rw (other, left) (quiet chars.bus_left (left_quiet chars.bus_left chars.bus_right chars.encloses))
        | inr no_left ↦ elim (cases_Bool (b == 93)) as (λ _. IsQuiet (printed_byte chars b)) [
          | inl right ↦ rw (other, no_left, right) (quiet chars.bus_right (right_quiet chars.bus_left chars.bus_right chars.encloses))
          | inr no_right ↦ rw (other, no_left, no_right) (quiet_escape b)
        ]
      ]
    ]

pub name_quiet : (chars : Chars) (name : List ℕ) → IsQuiet (printed chars name)
name_quiet chars [] = quiet_none
name_quiet chars (b ∷ bs) = quiet_both (printed_byte chars b) (printed chars bs) (byte_quiet chars b) (name_quiet chars bs)

-- the first byte that is printed for a byte is neither a slash nor a star
record IsCalm (c : ℕ) : Type 0 where
  pub slash : c ≡ 47 → ⊥
  pub star : c ≡ 42 → ⊥

own_calm : (b : ℕ) → is_own b ≡ true → IsCalm b
own_calm b e = record { slash = λ f. grind (arith, nat_tests); star = λ f. grind (arith, nat_tests) }

left_calm : (l r : ℕ) → is_bus_pair l r ≡ true → IsCalm l
left_calm l r e = record { slash = λ f. grind (arith, nat_tests); star = λ f. grind (arith, nat_tests) }

right_calm : (l r : ℕ) → is_bus_pair l r ≡ true → IsCalm r
right_calm l r e = record { slash = λ f. grind (arith, nat_tests); star = λ f. grind (arith, nat_tests) }

-- what is printed for a byte, and more, after a delimiter
after_delimiter : (d : ℕ) (xs ys : List ℕ) → is_separator d ≡ true → (c : ℕ) × (zs : List ℕ) × (xs ≡ c ∷ zs) × IsCalm c
    → IsQuiet (xs ++ ys) → IsQuiet (d ∷ xs ++ ys)
after_delimiter d xs ys sep (c, zs, e, calm) q =
    elim (cases_Bool (d == 47)) [
      | inl slash ↦
          let d_is : d ≡ 47 = grind (arith, nat_tests) in
          rw (d_is, e) (quiet_slash c (zs ++ ys) calm.slash calm.star (subst (λ v. IsQuiet (v ++ ys)) e q))
      | inr other ↦
          quiet_both (d ∷ []) (xs ++ ys) (quiet_byte d (λ h. grind (arith, nat_tests)) (λ h. grind (arith, nat_tests)) (λ h. grind (arith, nat_tests))) q
    ]

byte_calm : (chars : Chars) (b : ℕ) → (c : ℕ) × (zs : List ℕ) × (printed_byte chars b ≡ c ∷ zs) × IsCalm c
byte_calm chars b =
    elim (cases_Bool (is_own b)) as (λ _. (c : ℕ) × (zs : List ℕ) × (printed_byte chars b ≡ c ∷ zs) × IsCalm c) [
      | inl own ↦ (b, [], rw own refl, own_calm b own)
      | inr other ↦ elim (cases_Bool (b == 91)) as (λ _. (c : ℕ) × (zs : List ℕ) × (printed_byte chars b ≡ c ∷ zs) × IsCalm c) [
        | inl left ↦ (chars.bus_left, [], rw (other, left) refl, left_calm chars.bus_left chars.bus_right chars.encloses)
        | inr no_left ↦ elim (cases_Bool (b == 93)) as (λ _. (c : ℕ) × (zs : List ℕ) × (printed_byte chars b ≡ c ∷ zs) × IsCalm c) [
          | inl right ↦ (chars.bus_right, [], rw (other, no_left, right) refl, right_calm chars.bus_left chars.bus_right chars.encloses)
          | inr no_right ↦ (92, b ∷ [], rw (other, no_left, no_right) refl, record { slash = λ f. absurd (omega arith); star = λ f. absurd (omega arith) })
        ]
      ]
    ]

pub node_quiet : (chars : Chars) (owner leaf : List ℕ) → IsQuiet (printed_node_with chars owner leaf)
node_quiet chars owner [] = name_quiet chars owner
node_quiet chars owner (b ∷ leaf) =
    quiet_both (printed chars owner) (chars.delimiter ∷ printed chars (b ∷ leaf)) (name_quiet chars owner)
    (after_delimiter chars.delimiter (printed_byte chars b) (printed chars leaf) chars.delimits (byte_calm chars b) (name_quiet chars (b ∷ leaf)))
