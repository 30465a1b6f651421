-- What a byte begins is told by the bytes up to one that stops it.
use Rattle.std.proofs.Common.{◌≡◌, ℕ, zero, suc, ◌+◌, ◌≤◌, Bool, true, false, ◌||◌, ◌==◌, List, [], ◌∷◌, ◌++◌, length, drop, cond, Option, Some, None, refl, sym, ap, ◌∙◌, arith, if◌then◌else◌}
use Rattle.std.specs.List.{prefix_len}
use Rattle.vg_num.specs.Number.{is_digit}
use Rattle.vg_scan.specs.Lines.{is_blank}
use Rattle.ver_text.specs.Bytes.{is_word_byte, is_in_line, base_of, is_digit_of}
use Rattle.ver_text.specs.Tokens.{digits_of, base_length}

-- ---- runs

-- one more of a run, if this byte passes
more_within : (b : Bool) (n k : ℕ) → cond b (1 + n) 0 ≤ suc k → b ≡ true → n ≤ k
more_within true n k h e = omega (arith, h)
more_within false n k h e = absurd (cc)

cond_within : (b : Bool) (n k : ℕ) → n ≤ k → cond b (1 + n) 0 ≤ suc k
cond_within true n k h = omega (arith, h)
cond_within false n k h = omega arith

cond_same : (b : Bool) (n m : ℕ) → (b ≡ true → m ≡ n) → cond b (1 + m) 0 ≡ cond b (1 + n) 0
cond_same true n m e = ap (λ (k : ℕ). 1 + k) (e refl)
cond_same false n m e = refl

none_more : (b c : Bool) (n m : ℕ) → b ≡ c → cond b (1 + n) 0 ≤ 0 → cond c (1 + m) 0 ≡ cond b (1 + n) 0
none_more true c n m e h = absurd (omega (arith, h))
none_more false true n m e h = absurd (cc)
none_more false false n m e h = refl

module _ (test : ℕ → Bool) where
  -- a run that ends before a byte also ends before another one that passes the test alike
  pub run_same : (us vs vs' : List ℕ) (y y' : ℕ) → test y ≡ test y' → prefix_len test (us ++ y ∷ vs) ≤ length us
      → prefix_len test (us ++ y' ∷ vs') ≡ prefix_len test (us ++ y ∷ vs)
  run_same [] vs vs' y y' e h = none_more (test y) (test y') (prefix_len test vs) (prefix_len test vs') e h
  run_same (u ∷ us) vs vs' y y' e h =
      cond_same (test u) (prefix_len test (us ++ y ∷ vs)) (prefix_len test (us ++ y' ∷ vs'))
      (λ f. run_same us vs vs' y y' e (more_within (test u) (prefix_len test (us ++ y ∷ vs)) (length us) h f))

  -- a run that does not pass a byte ends before it
  pub run_stops_at : (us vs : List ℕ) (y : ℕ) → test y ≡ false → prefix_len test (us ++ y ∷ vs) ≤ length us
  run_stops_at [] vs y e = rw e (omega arith)
  run_stops_at (u ∷ us) vs y e = cond_within (test u) (prefix_len test (us ++ y ∷ vs)) (length us) (run_stops_at us vs y e)

  pub run_to : (us vs vs' : List ℕ) (y y' : ℕ) → test y ≡ false → test y' ≡ false → prefix_len test (us ++ y' ∷ vs') ≡ prefix_len test (us ++ y ∷ vs)
  run_to us vs vs' y y' e e' = run_same us vs vs' y y' (e ∙ sym e') (run_stops_at us vs y e)

pub drop_within : (n : ℕ) (us vs : List ℕ) → n ≤ length us → drop n (us ++ vs) ≡ drop n us ++ vs
drop_within zero us vs h = refl
drop_within (suc n) [] vs h = absurd (omega arith)
drop_within (suc n) (u ∷ us) vs h = drop_within n us vs (omega arith)

-- ---- numbers

-- a byte that ends words, numbers and blanks, and begins none of what is passed over
pub record IsStop (y : ℕ) : Type 0 where
  pub blank : is_blank y ≡ false
  pub word : is_word_byte y ≡ false
  pub digit : is_digit y ≡ false
  pub in_line : is_in_line y ≡ true
  pub quote : (y == 39) ≡ false
  pub sign : (y == 115) ≡ false
  pub star : (y == 42) ≡ false
  pub slash : (y == 47) ≡ false
  pub tick : (y == 96) ≡ false
  pub feed : (y == 10) ≡ false
  pub based : (bs : List ℕ) → base_length (y ∷ bs) ≡ 0
  pub digits : (b : ℕ) (us vs vs' : List ℕ) → digits_of (base_of b) (us ++ y ∷ vs') ≡ digits_of (base_of b) (us ++ y ∷ vs)

module _ {B : Type 0} (test : B → ℕ → Bool) (y : ℕ) (us vs vs' : List ℕ) where
  runs : Option B → List ℕ → ℕ
  runs None bs = 0
  runs (Some x) bs = prefix_len (test x) bs

  runs_same : (p q r s : B) → test p y ≡ false → test q y ≡ false → test r y ≡ false → test s y ≡ false → (a b c d : Bool)
      → runs (if a then Some p else (if b then Some q else (if c then Some r else (if d then Some s else None)))) (us ++ y ∷ vs')
      ≡ runs (if a then Some p else (if b then Some q else (if c then Some r else (if d then Some s else None)))) (us ++ y ∷ vs)
  unfolding runs
  runs_same p q r s e f g h true b c d = run_to (test p) us vs vs' y y e e
  runs_same p q r s e f g h false true c d = run_to (test q) us vs vs' y y f f
  runs_same p q r s e f g h false false true d = run_to (test r) us vs vs' y y g g
  runs_same p q r s e f g h false false false true = run_to (test s) us vs vs' y y h h
  runs_same p q r s e f g h false false false false = refl

pub open_stops : IsStop 40
unfolding runs
open_stops = record {
  blank = refl;
  word = refl;
  digit = refl;
  in_line = refl;
  quote = refl;
  sign = refl;
  star = refl;
  slash = refl;
  tick = refl;
  feed = refl;
  based = λ bs. refl;
  digits = λ b us vs vs'.
      runs_same is_digit_of 40 us vs vs' _ _ _ _ refl refl refl refl
      ((b == 98) || (b == 66)) ((b == 111) || (b == 79)) ((b == 100) || (b == 68)) ((b == 104) || (b == 72));
}

pub semicolon_stops : IsStop 59
unfolding runs
semicolon_stops = record {
  blank = refl;
  word = refl;
  digit = refl;
  in_line = refl;
  quote = refl;
  sign = refl;
  star = refl;
  slash = refl;
  tick = refl;
  feed = refl;
  based = λ bs. refl;
  digits = λ b us vs vs'.
      runs_same is_digit_of 59 us vs vs' _ _ _ _ refl refl refl refl
      ((b == 98) || (b == 66)) ((b == 111) || (b == 79)) ((b == 100) || (b == 68)) ((b == 104) || (b == 72));
}
