-- Runs of bytes, byte by byte.
use Rattle.std.proofs.Common.{◌≡◌, ℕ, suc, ◌+◌, ◌<◌, ◌≤◌, Bool, true, false, ◌&&◌, ◌||◌, nat_le, List, [], length, drop, get_or, refl, sym, ◌∙◌, arith, add-one, drop-cons, if◌then◌else◌}
use Rattle.std.specs.List.{prefix_len}
use Rattle.std.proofs.lemmas.List.{drop_all}
use Rattle.std.proofs.lemmas.List.Sums.{prefix_len-drop_all, prefix_len-drop_no, prefix_len-drop_yes}
use Rattle.lib_text.specs.declared.token.Content.{Content}
use Rattle.lib_text.specs.declared.quoting.Quoting.{Quoting}
use Rattle.lib_text.specs.Strings.{quoting_after, is_quoted, until}
use Rattle.lib_text.specs.Tokens.{ends, is_sound}

pub run_more : (test : ℕ → Bool) (bs : List ℕ) (i n : ℕ) → i < length bs → test (get_or bs i 0) ≡ true
    → n ≡ i + prefix_len test (drop i bs) → n ≡ (i + 1) + prefix_len test (drop (i + 1) bs)
run_more test bs i n h t e = let f = prefix_len-drop_yes test bs i 0 h t in omega (arith, f, e)

pub run_over : (test : ℕ → Bool) (bs : List ℕ) (i n : ℕ) → i < length bs → test (get_or bs i 0) ≡ false → n ≡ i + prefix_len test (drop i bs) → i ≡ n
run_over test bs i n h t e = let f = prefix_len-drop_no test bs i 0 h t in omega (arith, f, e)

pub run_end : (test : ℕ → Bool) (bs : List ℕ) (i n : ℕ) → length bs ≤ i → n ≡ i + prefix_len test (drop i bs) → i ≡ n
run_end test bs i n h e = let f = prefix_len-drop_all test bs i h in omega (arith, f, e)

module _ (test : Quoting → ℕ → Bool) (quoting : Quoting) where
  until_at : (bs : List ℕ) (i : ℕ) → i < length bs
      → until test quoting (drop i bs) ≡ (if test quoting (get_or bs i 0) then 0 else suc (until test (quoting_after quoting (get_or bs i 0)) (drop (i + 1) bs)))
  unfolding until
  until_at bs i h = rw (drop-cons bs i 0 h, add-one) refl

  pub until_nil : until test quoting [] ≡ 0
  unfolding until
  until_nil = refl

  pub until_more : (bs : List ℕ) (i n : ℕ) → i < length bs → test quoting (get_or bs i 0) ≡ false
      → n ≡ i + until test quoting (drop i bs) → n ≡ (i + 1) + until test (quoting_after quoting (get_or bs i 0)) (drop (i + 1) bs)
  until_more bs i n h t e = let f = until_at bs i h in omega (arith, rw t at f)

  pub until_over : (bs : List ℕ) (i n : ℕ) → i < length bs → test quoting (get_or bs i 0) ≡ true → n ≡ i + until test quoting (drop i bs) → i ≡ n
  until_over bs i n h t e = let f = until_at bs i h in omega (arith, rw t at f)

  pub until_end : (bs : List ℕ) (i n : ℕ) → length bs ≤ i → n ≡ i + until test quoting (drop i bs) → i ≡ n
  until_end bs i n h e = omega (arith, rw (drop_all i bs h, until_nil) at e)

module _ (content : Content) (quoting : Quoting) where
  sound_at : (bs : List ℕ) (i : ℕ) → i < length bs
      → is_sound content quoting (drop i bs)
      ≡ (if ends content quoting (get_or bs i 0) then true
      else ((is_quoted quoting || nat_le (get_or bs i 0) 126) && is_sound content (quoting_after quoting (get_or bs i 0)) (drop (i + 1) bs)))
  unfolding is_sound
  sound_at bs i h = rw (drop-cons bs i 0 h, add-one) refl

  sound_nil : is_sound content quoting [] ≡ true
  unfolding is_sound
  sound_nil = refl

  pub sound_more : (bs : List ℕ) (i : ℕ) → i < length bs → ends content quoting (get_or bs i 0) ≡ false
      → is_sound content quoting (drop i bs) ≡ ((is_quoted quoting || nat_le (get_or bs i 0) 126) && is_sound content (quoting_after quoting (get_or bs i 0)) (drop (i + 1) bs))
  sound_more bs i h t = let f = sound_at bs i h in rw t at f

  pub sound_over : (bs : List ℕ) (i : ℕ) → i < length bs → ends content quoting (get_or bs i 0) ≡ true → is_sound content quoting (drop i bs) ≡ true
  sound_over bs i h t = let f = sound_at bs i h in rw t at f

  pub sound_end : (bs : List ℕ) (i : ℕ) → length bs ≤ i → is_sound content quoting (drop i bs) ≡ true
  sound_end bs i h = rw (drop_all i bs h) sound_nil

pub and_more : (so_far here rest' : Bool) {whole rest : Bool} → whole ≡ (so_far && rest) → rest ≡ (here && rest') → whole ≡ ((so_far && here) && rest')
and_more true here rest' e f = e ∙ f
and_more false here rest' e f = e

pub and_true : (so_far : Bool) {whole rest : Bool} → whole ≡ (so_far && rest) → rest ≡ true → so_far ≡ whole
and_true true e f = sym (e ∙ f)
and_true false e f = sym e
