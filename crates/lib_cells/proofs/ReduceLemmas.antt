-- A text reduces to a name where it has the name between marks, and counts find these marks.
use Rattle.std.proofs.Common.{◌≡◌, ℕ, zero, suc, ◌+◌, ◌-◌, ◌%◌, ◌==◌, ◌≤◌, Bool, true, false, not, ◌&&◌, ◌⊎◌, inl, inr, cond, List, [], ◌∷◌, ◌++◌, length, take, drop, filter, refl, sym, ap, ◌∙◌, arith, append_assoc, length-append, length-drop, drop-drop, nat_le, eq-eqb, le-leb, leb-true, ◌<◌}
use Rattle.std.specs.List.{count_by, list_all}
use Rattle.std.proofs.lemmas.Bool.{lt-leb}
use Rattle.std.proofs.lemmas.Bool.Decides.{nat_tests}
use Rattle.std.proofs.lemmas.List.{append-nil, take-append-drop}
use Rattle.std.proofs.lemmas.List.Folds.{list_all-append}
use Rattle.std.proofs.lemmas.List.Sums.{sum_by-append}
use Rattle.std.proofs.Math.Seq.{take-append_seam, drop-append_seam, drop-append-add}
use Rattle.vg_scan.specs.Lines.{is_ink}
use Rattle.lib_cells.specs.Function.{Reduces}
use Rattle.lib_cells.specs.Function.Reduces.{by_name, in_brackets, after_not, before_not}
use Rattle.lib_cells.specs.Reducing.{is_front, is_back, is_not, is_open, is_close, agree, stands_after, is_balanced, fits, inverts}

both_parts : (a b : Bool) → (a && b) ≡ true → (a ≡ true) × (b ≡ true)
both_parts true b e = (refl, e)
both_parts false b e = absurd (cc)

both : (a b : Bool) → a ≡ true → b ≡ true → (a && b) ≡ true
both a b e f = rw (e, f) refl

same : (a b : ℕ) → (a == b) ≡ true → a ≡ b
same a b e = grind (arith, nat_tests)

front_byte : (b : ℕ) → is_front b ≡ true → (b ≡ 33) ⊎ (b ≡ 40)
front_byte b e = grind (arith, nat_tests)

back_byte : (b : ℕ) → is_back b ≡ true → (b ≡ 41) ⊎ (b ≡ 39)
back_byte b e = grind (arith, nat_tests)

not_byte : (b : ℕ) → is_not b ≡ true → (b ≡ 33) ⊎ (b ≡ 39)
not_byte b e = grind (arith, nat_tests)

count_join : (test : ℕ → Bool) (xs ys : List ℕ) → count_by test (xs ++ ys) ≡ count_by test xs + count_by test ys
count_join test xs ys = sum_by-append (λ x. cond (test x) 1 0) xs ys

count_more : (test : ℕ → Bool) (b : ℕ) (bs : List ℕ) → test b ≡ true → count_by test (b ∷ bs) ≡ suc (count_by test bs)
count_more test b bs e = let f : count_by test (b ∷ []) ≡ 1 = rw e refl in omega (arith, f, count_join test (b ∷ []) bs)

count_pass : (test : ℕ → Bool) (b : ℕ) (bs : List ℕ) → test b ≡ false → count_by test (b ∷ bs) ≡ count_by test bs
count_pass test b bs e = let f : count_by test (b ∷ []) ≡ 0 = rw e refl in omega (arith, f, count_join test (b ∷ []) bs)

turned : (n : ℕ) → not ((n % 2) == 1) ≡ (((n + 1) % 2) == 1)
turned n = grind (arith, nat_tests)

parity : {N T : List ℕ} {i : Bool} → Reduces N T i → i ≡ inverts T N
parity {N} by_name = let e : (count_by is_not N + count_by is_not N) % 2 ≡ 0 = omega arith in rw e refl
parity {N} (in_brackets {text} r) =
    let e : count_by is_not (40 ∷ text ++ 41 ∷ []) ≡ count_by is_not text = omega (arith, count_pass is_not 40 (text ++ 41 ∷ []) refl, count_join is_not text (41 ∷ [])) in
    parity r ∙ rw e refl
parity {N} (after_not {text} r) =
    let e : count_by is_not (33 ∷ text) + count_by is_not N ≡ (count_by is_not text + count_by is_not N) + 1 = omega (arith, count_more is_not 33 text refl) in
    ap not (parity r) ∙ turned (count_by is_not text + count_by is_not N) ∙ rw e refl
parity {N} (before_not {text} r) =
    let e : count_by is_not (text ++ 39 ∷ []) + count_by is_not N ≡ (count_by is_not text + count_by is_not N) + 1 = omega (arith, count_join is_not text (39 ∷ [])) in
    ap not (parity r) ∙ turned (count_by is_not text + count_by is_not N) ∙ rw e refl

-- blanks are not counted
pub count_ink : (test : ℕ → Bool) → ((b : ℕ) → test b ≡ true → is_ink b ≡ true) → (text : List ℕ) → count_by test text ≡ count_by test (filter is_ink text)
count_ink test solid [] = refl
count_ink test solid (b ∷ bs) = by_test (is_ink b) (test b) refl refl (count_ink test solid bs)
  where
    by_test : (ink here : Bool) → is_ink b ≡ ink → test b ≡ here → count_by test bs ≡ count_by test (filter is_ink bs)
        → count_by test (b ∷ bs) ≡ count_by test (filter is_ink (b ∷ bs))
    by_test true true e f ih = rw e (count_more test b bs f ∙ ap suc ih ∙ sym (count_more test b (filter is_ink bs) f))
    by_test true false e f ih = rw e (count_pass test b bs f ∙ ih ∙ sym (count_pass test b (filter is_ink bs) f))
    by_test false true e f ih = let g = solid b f in absurd (cc)
    by_test false false e f ih = rw e (count_pass test b bs f ∙ ih)

pub open_ink : (b : ℕ) → is_open b ≡ true → is_ink b ≡ true
open_ink b e = rw (same b 40 e) refl

pub close_ink : (b : ℕ) → is_close b ≡ true → is_ink b ≡ true
close_ink b e = rw (same b 41 e) refl

pub front_ink : (b : ℕ) → is_front b ≡ true → is_ink b ≡ true
front_ink b e = elim (front_byte b e) [ inl f ↦ rw f refl | inr f ↦ rw f refl ]

pub not_ink : (b : ℕ) → is_not b ≡ true → is_ink b ≡ true
not_ink b e = elim (not_byte b e) [ inl f ↦ rw f refl | inr f ↦ rw f refl ]

-- the name between marks, as many of them `(` as `)`
record Between (name text : List ℕ) : Type 0 where
  front : List ℕ
  back : List ℕ
  whole : text ≡ front ++ (name ++ back)
  fronts : list_all is_front front ≡ true
  backs : list_all is_back back ≡ true
  balance : count_by is_open front ≡ count_by is_close back

none_of : (test every : ℕ → Bool) → ((b : ℕ) → every b ≡ true → test b ≡ false) → (bs : List ℕ) → list_all every bs ≡ true → count_by test bs ≡ 0
none_of test every outside [] e = refl
none_of test every outside (b ∷ bs) e =
    let (f, g) = both_parts (every b) (list_all every bs) e in count_pass test b bs (outside b f) ∙ none_of test every outside bs g

all_of : (test : ℕ → Bool) (bs : List ℕ) → list_all test bs ≡ true → count_by test bs ≡ length bs
all_of test [] e = refl
all_of test (b ∷ bs) e = let (f, g) = both_parts (test b) (list_all test bs) e in count_more test b bs f ∙ ap suc (all_of test bs g)

back_no_front : (b : ℕ) → is_back b ≡ true → is_front b ≡ false
back_no_front b e = elim (back_byte b e) [ inl f ↦ rw f refl | inr f ↦ rw f refl ]

back_no_open : (b : ℕ) → is_back b ≡ true → is_open b ≡ false
back_no_open b e = elim (back_byte b e) [ inl f ↦ rw f refl | inr f ↦ rw f refl ]

front_no_close : (b : ℕ) → is_front b ≡ true → is_close b ≡ false
front_no_close b e = elim (front_byte b e) [ inl f ↦ rw f refl | inr f ↦ rw f refl ]

-- what reduces to a name has the name between marks
between : {N T : List ℕ} {i : Bool} → Reduces N T i → Between N T
between {N} by_name = record { front = []; back = []; whole = sym (append-nil N); fronts = refl; backs = refl; balance = refl }
between {N} (in_brackets {text} r) =
    let b = between r in
    record {
      front = 40 ∷ b.front;
      back = b.back ++ 41 ∷ [];
      whole = ap (λ xs. 40 ∷ xs ++ 41 ∷ []) b.whole ∙ ap (λ xs. 40 ∷ xs) (append_assoc b.front (N ++ b.back) (41 ∷ []) ∙ ap (λ xs. b.front ++ xs) (append_assoc N b.back (41 ∷ [])));
      fronts = b.fronts;
      backs = list_all-append is_back b.back (41 ∷ []) ∙ both (list_all is_back b.back) true b.backs refl;
      balance = let e = b.balance in omega (arith, e, count_more is_open 40 b.front refl, count_join is_close b.back (41 ∷ []));
    }
between {N} (after_not {text} r) =
    let b = between r in
    record { front = 33 ∷ b.front; back = b.back; whole = ap (λ xs. 33 ∷ xs) b.whole; fronts = b.fronts; backs = b.backs; balance = count_pass is_open 33 b.front refl ∙ b.balance }
between {N} (before_not {text} r) =
    let b = between r in
    record {
      front = b.front;
      back = b.back ++ 39 ∷ [];
      whole = ap (λ xs. xs ++ 39 ∷ []) b.whole ∙ append_assoc b.front (N ++ b.back) (39 ∷ []) ∙ ap (λ xs. b.front ++ xs) (append_assoc N b.back (39 ∷ []));
      fronts = b.fronts;
      backs = list_all-append is_back b.back (39 ∷ []) ∙ both (list_all is_back b.back) true b.backs refl;
      balance = let e = b.balance in omega (arith, e, count_join is_close b.back (39 ∷ []));
    }

-- the last `)` of marks after a name
record Closed (bs : List ℕ) (n : ℕ) : Type 0 where
  inner : List ℕ
  outer : List ℕ
  parts : bs ≡ inner ++ 41 ∷ outer
  before : list_all is_back inner ≡ true
  closes : count_by is_close inner ≡ n
  after : list_all is_back outer ≡ true
  last : count_by is_close outer ≡ 0

close_first : (b : ℕ) (bs : List ℕ) (n : ℕ) → b ≡ 41 → Closed bs n → Closed (b ∷ bs) (suc n)
close_first b bs n k c = record {
  inner = 41 ∷ c.inner;
  outer = c.outer;
  parts = rw k (ap (λ xs. 41 ∷ xs) c.parts);
  before = c.before;
  closes = count_more is_close 41 c.inner refl ∙ ap suc c.closes;
  after = c.after;
  last = c.last;
}

close_here : (b : ℕ) (bs : List ℕ) (n : ℕ) → b ≡ 41 → list_all is_back bs ≡ true → count_by is_close (b ∷ bs) ≡ suc n
    → ((m : ℕ) → count_by is_close bs ≡ suc m → Closed bs m) → Closed (b ∷ bs) n
close_here b bs zero k h f ih =
    let l = count_more is_close b bs (rw k refl) in
    record { inner = []; outer = bs; parts = rw k refl; before = refl; closes = refl; after = h; last = omega (arith, f, l) }
close_here b bs (suc m) k h f ih =
    let l = count_more is_close b bs (rw k refl) in close_first b bs m k (ih m (omega (arith, f, l)))

close_later : (b : ℕ) (bs : List ℕ) (n : ℕ) → b ≡ 39 → Closed bs n → Closed (b ∷ bs) n
close_later b bs n k c = record {
  inner = 39 ∷ c.inner;
  outer = c.outer;
  parts = rw k (ap (λ xs. 39 ∷ xs) c.parts);
  before = c.before;
  closes = count_pass is_close 39 c.inner refl ∙ c.closes;
  after = c.after;
  last = c.last;
}

last_close : (bs : List ℕ) (n : ℕ) → list_all is_back bs ≡ true → count_by is_close bs ≡ suc n → Closed bs n
last_close [] n e f = absurd (omega (arith, f))
last_close (b ∷ bs) n e f =
    let (g, h) = both_parts (is_back b) (list_all is_back bs) e in
    elim (back_byte b g) [
      | inl k ↦ close_here b bs n k h f (λ m l. last_close bs m h l)
      | inr k ↦ close_later b bs n k (last_close bs n h (sym (count_pass is_close b bs (rw k refl)) ∙ f))
    ]

-- a text reduces to a name
abbrev Reduced : List ℕ → List ℕ → Type 0
Reduced N T = (i : Bool) × Reduces N T i

of_same : (N : List ℕ) {T U : List ℕ} → T ≡ U → Reduced N T → Reduced N U
of_same N e r = rw (← e) r

with_quote : (N : List ℕ) {T : List ℕ} → Reduced N T → Reduced N (T ++ 39 ∷ [])
with_quote N (i, r) = (not i, before_not r)

with_not : (N : List ℕ) {T : List ℕ} → Reduced N T → Reduced N (33 ∷ T)
with_not N (i, r) = (not i, after_not r)

with_brackets : (N : List ℕ) {T : List ℕ} → Reduced N T → Reduced N (40 ∷ T ++ 41 ∷ [])
with_brackets N (i, r) = (i, in_brackets r)

-- what reduces still does before quotes
quotes : (N T : List ℕ) (bs : List ℕ) → Reduced N T → list_all is_back bs ≡ true → count_by is_close bs ≡ 0 → Reduced N (T ++ bs)
quotes N T [] r e f = of_same N (sym (append-nil T)) r
quotes N T (b ∷ bs) r e f =
    let (g, h) = both_parts (is_back b) (list_all is_back bs) e in
    elim (back_byte b g) [
      | inl k ↦ absurd (let l = count_more is_close b bs (rw k refl) in omega (arith, l, f))
      | inr k ↦ of_same N (append_assoc T (39 ∷ []) bs ∙ rw k refl) (quotes N (T ++ 39 ∷ []) bs (with_quote N r) h (sym (count_pass is_close b bs (rw k refl)) ∙ f))
    ]

bracketed : (N : List ℕ) (b : ℕ) (front inner outer back : List ℕ) → b ≡ 40 → back ≡ inner ++ 41 ∷ outer
    → (40 ∷ (front ++ (N ++ inner)) ++ 41 ∷ []) ++ outer ≡ b ∷ front ++ (N ++ back)
bracketed N b front inner outer back e f =
    rw (e, f)
    (ap (λ xs. 40 ∷ xs)
    (append_assoc (front ++ (N ++ inner)) (41 ∷ []) outer
    ∙ append_assoc front (N ++ inner) (41 ∷ outer)
    ∙ ap (λ xs. front ++ xs) (append_assoc N inner (41 ∷ outer))))

-- the name between marks reduces to it
reduced : (N : List ℕ) (front back : List ℕ) → list_all is_front front ≡ true → list_all is_back back ≡ true → count_by is_open front ≡ count_by is_close back
    → Reduced N (front ++ (N ++ back))
reduced N [] back e f g = quotes N N back (false, by_name) f (sym g)
reduced N (b ∷ front) back e f g =
    let (h, k) = both_parts (is_front b) (list_all is_front front) e in
    elim (front_byte b h) [
      | inl l ↦ of_same N (rw l refl) (with_not N (reduced N front back k f (sym (count_pass is_open b front (rw l refl)) ∙ g)))
      | inr l ↦
          let c = last_close back (count_by is_open front) f (sym g ∙ count_more is_open b front (rw l refl)) in
          of_same N (bracketed N b front c.inner c.outer back l c.parts)
          (quotes N (40 ∷ (front ++ (N ++ c.inner)) ++ 41 ∷ []) c.outer (with_brackets N (reduced N front c.inner k c.before (sym c.closes))) c.after c.last)
    ]

agree_self : (xs ys : List ℕ) → agree (xs ++ ys) xs ≡ true
agree_self [] [] = refl
agree_self [] (y ∷ ys) = refl
agree_self (x ∷ xs) ys = both (x == x) (agree (xs ++ ys) xs) (eq-eqb x x refl) (agree_self xs ys)

agree_same : (xs ys : List ℕ) → length ys ≤ length xs → agree xs ys ≡ true → xs ≡ ys ++ drop (length ys) xs
agree_same xs [] h e = refl
agree_same [] (y ∷ ys) h e = absurd (omega (arith, h))
agree_same (x ∷ xs) (y ∷ ys) h e =
    let (f, g) = both_parts (x == y) (agree xs ys) e in
    rw (same x y f) (ap (λ zs. y ∷ zs) (agree_same xs ys (omega (arith, h)) g))

module _ (N T : List ℕ) where
  count_whole : (b : Between N T) (test : ℕ → Bool) → count_by test T ≡ count_by test b.front + (count_by test N + count_by test b.back)
  count_whole b test = ap (count_by test) b.whole ∙ count_join test b.front (N ++ b.back) ∙ ap (λ n. count_by test b.front + n) (count_join test N b.back)

  balanced : Between N T → is_balanced T N ≡ true
  balanced b =
      let e = b.balance in
      eq-eqb (count_by is_open T + count_by is_close N) (count_by is_close T + count_by is_open N)
      (omega (arith, e, count_whole b is_open, count_whole b is_close, none_of is_open is_back back_no_open b.back b.backs, none_of is_close is_front front_no_close b.front b.fronts))

  counted : (b : Between N T) → count_by is_front T ≡ length b.front + count_by is_front N
  counted b = omega (arith, count_whole b is_front, all_of is_front b.front b.fronts, none_of is_front is_back back_no_front b.back b.backs)

  stands : (b : Between N T) → stands_after (length b.front) T N ≡ true
  stands b =
      let l : length T ≡ length b.front + (length N + length b.back) = ap length b.whole ∙ length-append b.front (N ++ b.back) ∙ ap (λ n. length b.front + n) (length-append N b.back) in
      let t : take (length b.front) T ≡ b.front = ap (take (length b.front)) b.whole ∙ take-append_seam b.front (N ++ b.back) in
      let d : drop (length b.front) T ≡ N ++ b.back = ap (drop (length b.front)) b.whole ∙ drop-append_seam b.front (N ++ b.back) in
      let r : drop (length b.front + length N) T ≡ b.back = ap (drop (length b.front + length N)) b.whole ∙ drop-append-add b.front (N ++ b.back) (length N) ∙ drop-append_seam N b.back in
      both (nat_le (length b.front + length N) (length T)) (list_all is_front (take (length b.front) T) && (agree (drop (length b.front) T) N && list_all is_back (drop (length b.front + length N) T)))
      (le-leb (length b.front + length N) (length T) (omega (arith, l)))
      (rw (t, d, r) (both (list_all is_front b.front) (agree (N ++ b.back) N && list_all is_back b.back) b.fronts (both (agree (N ++ b.back) N) (list_all is_back b.back) (agree_self N b.back) b.backs)))

  fits_between : Between N T → fits T N ≡ true
  fits_between b =
      let c = counted b in
      let k : count_by is_front T - count_by is_front N ≡ length b.front = omega (arith, c) in
      both (nat_le (count_by is_front N) (count_by is_front T)) (is_balanced T N && stands_after (count_by is_front T - count_by is_front N) T N)
      (le-leb (count_by is_front N) (count_by is_front T) (omega (arith, c)))
      (both (is_balanced T N) (stands_after (count_by is_front T - count_by is_front N) T N) (balanced b) (rw k (stands b)))

  parted : (front : ℕ) → is_balanced T N ≡ true → stands_after front T N ≡ true → Reduced N T
  parted front e f =
      let (l, g) = both_parts (nat_le (front + length N) (length T)) (list_all is_front (take front T) && (agree (drop front T) N && list_all is_back (drop (front + length N) T))) f in
      let (fronts, h) = both_parts (list_all is_front (take front T)) (agree (drop front T) N && list_all is_back (drop (front + length N) T)) g in
      let (name, backs) = both_parts (agree (drop front T) N) (list_all is_back (drop (front + length N) T)) h in
      let m : front + length N ≤ length T = leb-true (front + length N) (length T) l in
      let d : drop front T ≡ N ++ drop (front + length N) T = agree_same (drop front T) N (omega (arith, m, length-drop front T)) name ∙ ap (λ xs. N ++ xs) (drop-drop (length N) front T) in
      let w : T ≡ take front T ++ (N ++ drop (front + length N) T) = sym (take-append-drop front T) ∙ ap (λ xs. take front T ++ xs) d in
      let count : (test : ℕ → Bool) → count_by test T ≡ count_by test (take front T) + (count_by test N + count_by test (drop (front + length N) T)) =
      λ test. ap (count_by test) w ∙ count_join test (take front T) (N ++ drop (front + length N) T) ∙ ap (λ n. count_by test (take front T) + n) (count_join test N (drop (front + length N) T)) in
      let b = same (count_by is_open T + count_by is_close N) (count_by is_close T + count_by is_open N) e in
      let balance : count_by is_open (take front T) ≡ count_by is_close (drop (front + length N) T) =
      omega (arith, b, count is_open, count is_close, none_of is_open is_back back_no_open (drop (front + length N) T) backs, none_of is_close is_front front_no_close (take front T) fronts) in
      of_same N (sym w) (reduced N (take front T) (drop (front + length N) T) fronts backs balance)

  pub reduces_where : fits T N ≡ true → Reduces N T (inverts T N)
  reduces_where e =
      let (l, f) = both_parts (nat_le (count_by is_front N) (count_by is_front T)) (is_balanced T N && stands_after (count_by is_front T - count_by is_front N) T N) e in
      let (b, s) = both_parts (is_balanced T N) (stands_after (count_by is_front T - count_by is_front N) T N) f in
      let (i, r) = parted (count_by is_front T - count_by is_front N) b s in
      rw (parity r) at r

  pub fits_where : (i : Bool) → Reduces N T i → fits T N ≡ true
  fits_where i r = fits_between (between r)

  pub inverts_where : (i : Bool) → Reduces N T i → i ≡ inverts T N
  inverts_where i r = parity r

-- as the code finds it, by counts over a text with blanks
module _ (text N : List ℕ) (own all : ℕ) (o : own ≡ count_by is_front N) (a : all ≡ count_by is_front text) where
  pub too_few : all < own → false ≡ fits (filter is_ink text) N
  too_few h =
      let l : nat_le (count_by is_front N) (count_by is_front (filter is_ink text)) ≡ false =
      lt-leb (count_by is_front N) (count_by is_front (filter is_ink text)) (omega (arith, h, o, a, count_ink is_front front_ink text)) in
      rw l refl

  pub enough : own ≤ all → fits (filter is_ink text) N ≡ (is_balanced (filter is_ink text) N && stands_after (all - own) (filter is_ink text) N)
  enough h =
      let l : nat_le (count_by is_front N) (count_by is_front (filter is_ink text)) ≡ true =
      le-leb (count_by is_front N) (count_by is_front (filter is_ink text)) (omega (arith, h, o, a, count_ink is_front front_ink text)) in
      let k : all - own ≡ count_by is_front (filter is_ink text) - count_by is_front N = omega (arith, o, a, count_ink is_front front_ink text) in
      rw (l, k) refl
