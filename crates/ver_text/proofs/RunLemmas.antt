-- Runs of bytes, byte by byte.
use Rattle.std.proofs.Common.{◌≡◌, ℕ, suc, ◌+◌, ◌<◌, ◌≤◌, true, false, List, length, take, take_all, length-drop, drop, refl, arith, add-one, drop-cons, ◌-◌, if◌then◌else◌}
use Rattle.std.proofs.lemmas.List.{drop_all}
use Rattle.ver_text.specs.Tokens.{closes, before_close}

-- a text from a place to its end
pub rest_all : (bs : List ℕ) (i : ℕ) → take (length bs - i) (drop i bs) ≡ drop i bs
rest_all bs i = take_all (length bs - i) (drop i bs) (simp length-drop (omega arith))

module _ (c : ℕ) (bs : List ℕ) (i n : ℕ) where
  close_at : i < length bs → before_close c (drop i bs) ≡ (if closes c (drop i bs) then 0 else suc (before_close c (drop (i + 1) bs)))
  close_at h = rw (drop-cons bs i 0 h, add-one) refl

  pub close_more : i < length bs → closes c (drop i bs) ≡ false → n ≡ i + before_close c (drop i bs) → n ≡ (i + 1) + before_close c (drop (i + 1) bs)
  close_more h t e = let f = close_at h in omega (arith, rw t at f, e)

  pub close_over : i < length bs → closes c (drop i bs) ≡ true → n ≡ i + before_close c (drop i bs) → i ≡ n
  close_over h t e = let f = close_at h in omega (arith, rw t at f, e)

  pub close_end : length bs ≤ i → n ≡ i + before_close c (drop i bs) → i ≡ n
  close_end h e = omega (arith, rw (drop_all i bs h) at e)
