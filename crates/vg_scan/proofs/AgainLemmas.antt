-- A text without comments stays as it is where its comments are made blank again.
use Rattle.std.proofs.Common.{◌≡◌, ℕ, Bool, true, false, cond, eqb, ◌==◌, ◌||◌, ◌&&◌, ◌⊎◌, inl, inr, List, [], ◌∷◌, refl, sym, ap, subst, ◌∙◌, arith}
use Rattle.std.specs.Prelude.{if◌then◌else◌}
use Rattle.vg_scan.specs.declared.comments.Comments.{Comments}
use Rattle.vg_scan.specs.declared.comments.Comments.TheVariants.{Spef, Liberty}
use Rattle.vg_scan.specs.Comments.{without_comments, blanked}
use Rattle.vg_scan.proofs.Clearing.{Scan, Outside, Quoted, InLine, InBlock, cleared_in}
use Rattle.vg_scan.specs.Pieces.{is_mark}
use Rattle.vg_scan.proofs.LibertyAgainLemmas.{without_liberty_again}
use Rattle.vg_scan.proofs.PieceLemmas.{cleared_is}
use Rattle.vg_scan.proofs.ClearedLemmas.{escape, quote, plain, eq_test, eq_of, ne_of_false}
use Rattle.vg_scan.proofs.PlainLemmas.{no_mark}

-- a byte that begins nothing stays
keeps : (b : ℕ) (bs : List ℕ) → is_mark b ≡ false → cleared_in Outside bs ≡ bs → cleared_in Outside (b ∷ bs) ≡ b ∷ bs
unfolding cleared_in
keeps b [] n e = refl
keeps b (c ∷ cs) n e = plain b c cs (no_mark b 92 n refl) (no_mark b 34 n refl) (λ x _. no_mark b 47 n refl x) (λ x _. no_mark b 47 n refl x) ∙ ap (λ xs. b ∷ xs) e

blanked_none : (b : ℕ) → is_mark (blanked b) ≡ false
blanked_none b = elim (eqb b 10) as (λ t. is_mark (cond t 10 32) ≡ false) [ true ↦ refl | false ↦ refl ]

pick : (t : Bool) (x y : List ℕ) → (t ≡ true → cleared_in Outside x ≡ x) → (t ≡ false → cleared_in Outside y ≡ y) → cleared_in Outside (cond t x y) ≡ cond t x y
pick true x y f g = f refl
pick false x y f g = g refl

pick_quoted : (t : Bool) (x y : List ℕ) → cleared_in Outside x ≡ x → cleared_in Quoted y ≡ y → cond t (cleared_in Outside (cond t x y)) (cleared_in Quoted (cond t x y)) ≡ cond t x y
pick_quoted true x y f g = f
pick_quoted false x y f g = g

-- what a text becomes begins with the text's first byte, or with a space
record Begins (c : ℕ) (clear : List ℕ) : Type 0 where
  pub first : ℕ
  pub rest : List ℕ
  pub is : clear ≡ first ∷ rest
  pub either : (first ≡ c) ⊎ (first ≡ 32)

begins_cond : (t : Bool) (c : ℕ) (x y : List ℕ) → Begins c x → Begins c y → Begins c (cond t x y)
begins_cond true c x y f g = f
begins_cond false c x y f g = g

begins : (c : ℕ) (bs : List ℕ) → Begins c (cleared_in Outside (c ∷ bs))
unfolding cleared_in
begins c [] = record { first = c; rest = []; is = refl; either = inl refl }
begins c (d ∷ ds) =
    begins_cond (c == 92) c _ _ (record { first = c; rest = d ∷ cleared_in Outside ds; is = refl; either = inl refl })
    (begins_cond (c == 34) c _ _ (record { first = c; rest = cleared_in Quoted (d ∷ ds); is = refl; either = inl refl })
    (begins_cond ((c == 47) && (d == 47)) c _ _ (record { first = 32; rest = 32 ∷ cleared_in InLine ds; is = refl; either = inr refl })
    (begins_cond ((c == 47) && (d == 42)) c _ _ (record { first = 32; rest = 32 ∷ cleared_in InBlock ds; is = refl; either = inr refl })
    (record { first = c; rest = cleared_in Outside (d ∷ ds); is = refl; either = inl refl }))))

both_true : (a b : Bool) → a ≡ true → b ≡ true → (a && b) ≡ true
both_true a b e f = rw (e, f) refl

not_both : (b c w m : ℕ) → ((b == 47) && (c == m)) ≡ false → (m ≡ 32 → ⊥) → (w ≡ c) ⊎ (w ≡ 32) → b ≡ 47 → w ≡ m → ⊥
not_both b c w m n far either e f = elim either [
  | inl same ↦ (let yes : ((b == 47) && (c == m)) ≡ true = both_true _ _ (eq_test b 47 e) (eq_test c m (sym same ∙ f)) in absurd (cc))
  | inr space ↦ far (sym f ∙ space)
]

-- a byte that begins nothing, with what follows it
plain_again : (b c : ℕ) (clear : List ℕ) → (b == 92) ≡ false → (b == 34) ≡ false → ((b == 47) && (c == 47)) ≡ false → ((b == 47) && (c == 42)) ≡ false → Begins c clear → cleared_in Outside clear ≡ clear → cleared_in Outside (b ∷ clear) ≡ b ∷ clear
plain_again b c clear e f g h w again =
    ap (λ xs. cleared_in Outside (b ∷ xs)) w.is
    ∙ plain b w.first w.rest (ne_of_false b 92 e) (ne_of_false b 34 f) (not_both b c w.first 47 g (λ x. omega arith) w.either) (not_both b c w.first 42 h (λ x. omega arith) w.either)
    ∙ ap (λ xs. b ∷ cleared_in Outside xs) (sym w.is)
    ∙ ap (λ xs. b ∷ xs) again

newline_none : (b : ℕ) → eqb b 10 ≡ true → is_mark b ≡ false
newline_none b e = subst (λ x. is_mark x ≡ false) (sym (eq_of b 10 e)) refl

-- what is read of a text that was read in this, from its start on
abbrev outer : Scan → Scan
outer Outside = Outside
outer Quoted = Quoted
outer InLine = Outside
outer InBlock = Outside

again : (scan : Scan) (text : List ℕ) → cleared_in (outer scan) (cleared_in scan text) ≡ cleared_in scan text
unfolding cleared_in
again Outside [] = refl
again Quoted [] = refl
again InLine [] = refl
again InBlock [] = refl
again Outside (b ∷ []) = refl
again Outside (b ∷ c ∷ bs) =
    pick (b == 92) _ _ (λ e. escape b c (cleared_in Outside bs) (eq_of b 92 e) ∙ ap (λ xs. b ∷ c ∷ xs) (again Outside bs)) (λ e.
    pick (b == 34) _ _ (λ f. quote b c (if (c == 34) || (c == 10) then cleared_in Outside bs else cleared_in Quoted bs) (eq_of b 34 f) ∙ ap (λ xs. b ∷ xs) (again Quoted (c ∷ bs))) (λ f.
    pick ((b == 47) && (c == 47)) _ _ (λ _. keeps 32 _ refl (keeps 32 _ refl (again InLine bs))) (λ g.
    pick ((b == 47) && (c == 42)) _ _ (λ _. keeps 32 _ refl (keeps 32 _ refl (again InBlock bs))) (λ h.
    plain_again b c (cleared_in Outside (c ∷ bs)) e f g h (begins c bs) (again Outside (c ∷ bs))))))
again Quoted (b ∷ bs) = ap (λ xs. b ∷ xs) (pick_quoted ((b == 34) || (b == 10)) _ _ (again Outside bs) (again Quoted bs))
again InLine (b ∷ bs) =
    pick (b == 10) _ _ (λ e. keeps b _ (newline_none b e) (again Outside bs)) (λ _. keeps 32 _ refl (again InLine bs))
again InBlock (b ∷ []) = refl
again InBlock (b ∷ c ∷ bs) =
    pick ((b == 42) && (c == 47)) _ _ (λ _. keeps 32 _ refl (keeps 32 _ refl (again Outside bs))) (λ _. keeps (blanked b) _ (blanked_none b) (again InBlock (c ∷ bs)))

liberty_again : (text : List ℕ) → without_comments Liberty (without_comments Liberty text) ≡ without_comments Liberty text
unfolding without_comments
liberty_again text = without_liberty_again text

pub without_again : (kind : Comments) (text : List ℕ) → without_comments kind (without_comments kind text) ≡ without_comments kind text
without_again Spef text =
    ap (without_comments Spef) (sym (cleared_is text)) ∙ sym (cleared_is (cleared_in Outside text)) ∙ again Outside text ∙ cleared_is text
without_again Liberty text = liberty_again text
