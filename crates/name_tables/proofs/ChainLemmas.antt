-- One row more in chains, and twice as many buckets.
use Rattle.std.proofs.Common.{◌≡◌, ◌≢◌, ℕ, zero, suc, ◌+◌, ◌-◌, ◌*◌, ◌/◌, ◌^◌, ◌<◌, ◌≤◌, ◌⊎◌, inl, inr, Bool, true, false, cond, List, [], ◌∷◌, ◌++◌, Option, None, Some, length, get_or, take, arith, refl, sym, ap, ◌∙◌, subst, length-append, get_or-set_same, get_or-set_other}
use Rattle.std.specs.Int.Bits.{bit_and, and_step}
use Rattle.std.proofs.Math.ListN.{set, length-set, get_or-append}
use Rattle.std.proofs.Math.Seq.{get_or-append_seam}
use Rattle.std.proofs.lemmas.Bool.Decides.{nat_tests}
use Rattle.std.proofs.lemmas.List.{length-map, map-append}
use Rattle.std.proofs.lemmas.List.Sums.{sum_by-append, sum_by-cons, sum_by-le-sum_by, count_by_more_no, count_by_more_yes}
use Rattle.std.proofs.lemmas.Grind.{get_or_default_zero}
use Rattle.std.proofs.lemmas.Int.{clamps}
use Rattle.std.proofs.lemmas.Nat.{and_assoc}
use Rattle.std.specs.List.{count_by}
use Rattle.name_tables.specs.Chains.{bucket_of, hash_at, hash_in, hashes_in, is_in, count_in, longest, outside, AreHalves, LeadsTo, link_at, AreLinks, AreShort, AreChains, buckets_of, rows_of}
use Rattle.name_tables.specs.declared.chains.Chains.{Chains}
use Rattle.name_tables.specs.declared.chains.Link.{Link}

pub lt_or_le : (a b : ℕ) → (a < b) ⊎ (b ≤ a)
lt_or_le a zero = inr (omega arith)
lt_or_le zero (suc b) = inl (omega arith)
lt_or_le (suc a) (suc b) = elim (lt_or_le a b) as (λ _. (suc a < suc b) ⊎ (suc b ≤ suc a)) [ inl h ↦ inl (omega arith) | inr h ↦ inr (omega arith) ]

pub eq_or_ne : (a b : ℕ) → (a ≡ b) ⊎ (a ≢ b)
eq_or_ne a b =
    elim (lt_or_le a b) as (λ _. (a ≡ b) ⊎ (a ≢ b)) [
      | inl less ↦ inr (λ e. let x : ⊥ = omega arith in x)
      | inr ge ↦ elim (lt_or_le b a) as (λ _. (a ≡ b) ⊎ (a ≢ b)) [ inl more ↦ inr (λ e. let x : ⊥ = omega arith in x) | inr le ↦ inl (omega arith) ]
    ]

abbrev none : Link
none = record { before = 0; hash = 0 }

-- the hashes of the rows before, and of a row that is put last
hash_old : (rows : List (Option ℕ)) (new : Option ℕ) (row : ℕ) → row < length rows → hash_at (rows ++ new ∷ []) row ≡ hash_at rows row
hash_old rows new row low = get_or-append rows (new ∷ []) None row low

hash_new : (rows : List (Option ℕ)) (new : Option ℕ) (row : ℕ) → row ≡ length rows → hash_at (rows ++ new ∷ []) row ≡ new
hash_new rows new row last = ap (hash_at (rows ++ new ∷ [])) last ∙ get_or-append_seam rows new [] None

pub in_own : (buckets hash : ℕ) → is_in buckets (bucket_of buckets hash) (Some hash) ≡ true
in_own buckets hash = grind (arith, nat_tests)

in_no_other : (buckets hash bucket : ℕ) → bucket ≢ bucket_of buckets hash → is_in buckets bucket (Some hash) ≡ false
in_no_other buckets hash bucket differ = grind (arith, nat_tests)

-- a row of a bucket has a hash of that bucket
in_is : (buckets bucket hash : ℕ) (o : Option ℕ) → o ≡ Some hash → is_in buckets bucket o ≡ true → bucket ≡ bucket_of buckets hash
in_is buckets bucket hash o e there = let yes' : is_in buckets bucket (Some hash) ≡ true = sym (ap (is_in buckets bucket) e) ∙ there in grind (arith, nat_tests)

-- the hash of a link that says that its row is in a chain, and of one that does not
pub hash_some : (link : Link) → link.before ≢ outside → hash_in link ≡ Some link.hash
hash_some link differ = grind (arith, nat_tests)

hash_none : (link : Link) → link.before ≡ outside → hash_in link ≡ None
hash_none link same = grind (arith, nat_tests)

-- what leads to a row leads there still where a row is put last that is of another bucket, or where only rows before
-- that one count
leads_still : (buckets : ℕ) (rows : List (Option ℕ)) (n m bucket : ℕ) (new : Option ℕ) (next : ℕ) → LeadsTo buckets rows n bucket next → n ≤ length rows → m ≤ length rows + 1
    → ((row : ℕ) → n ≤ row → row < m → (row ≡ length rows) × (is_in buckets bucket new ≡ false)) → n ≤ m → LeadsTo buckets (rows ++ new ∷ []) m bucket next
leads_still buckets rows n m bucket new next h within within' fresh le = record {
  within = omega (arith, h.within);
  later = λ row low high.
      elim (lt_or_le row n) as (λ _. is_in buckets bucket (hash_at (rows ++ new ∷ []) row) ≡ false) [
        | inl lt ↦ ap (is_in buckets bucket) (hash_old rows new row (omega arith)) ∙ h.later row low lt
        | inr ge ↦ let f = fresh row ge high in ap (is_in buckets bucket) (hash_new rows new row f.0) ∙ f.1
      ];
  here = λ row e. ap (is_in buckets bucket) (hash_old rows new row (omega (arith, h.within, e))) ∙ h.here row e;
}

-- what leads to a row that is put last, in its bucket
leads_to_new : (buckets : ℕ) (rows : List (Option ℕ)) (hash : ℕ) → LeadsTo buckets (rows ++ Some hash ∷ []) (length rows + 1) (bucket_of buckets hash) (length rows + 1)
leads_to_new buckets rows hash = record {
  within = omega arith;
  later = λ row low high. absurd (let x : ⊥ = omega arith in x);
  here = λ row e. ap (is_in buckets (bucket_of buckets hash)) (hash_new rows (Some hash) row (omega arith)) ∙ in_own buckets hash;
}

-- how many rows are in a bucket, with one more
count_more : (p : Option ℕ → Bool) (rows : List (Option ℕ)) (new : Option ℕ) → count_by p (rows ++ new ∷ []) ≡ count_by p rows + cond (p new) 1 0
count_more p rows new = omega (arith, sum_by-append (λ row. cond (p row) 1 0) rows (new ∷ []), sum_by-cons (λ row. cond (p row) 1 0) new [])

count_same : (p : Option ℕ → Bool) (rows : List (Option ℕ)) (new : Option ℕ) → p new ≡ false → count_by p (rows ++ new ∷ []) ≡ count_by p rows
count_same p rows new out = let c : ◌≡◌ {A = ℕ} (cond (p new) 1 0) 0 = ap (λ b. cond b 1 0) out in omega (arith, count_more p rows new, c)

count_next : (p : Option ℕ → Bool) (rows : List (Option ℕ)) (new : Option ℕ) → p new ≡ true → count_by p (rows ++ new ∷ []) ≡ count_by p rows + 1
count_next p rows new there = let c : ◌≡◌ {A = ℕ} (cond (p new) 1 0) 1 = ap (λ b. cond b 1 0) there in omega (arith, count_more p rows new, c)

pub short_more : (buckets : ℕ) (rows : List (Option ℕ)) (hash : ℕ) → AreShort buckets rows → count_in buckets rows (bucket_of buckets hash) < longest → AreShort buckets (rows ++ Some hash ∷ [])
short_more buckets rows hash short room bucket =
    elim (eq_or_ne bucket (bucket_of buckets hash)) as (λ _. count_in buckets (rows ++ Some hash ∷ []) bucket ≤ longest) [
      | inl same ↦
          subst (λ b. count_in buckets (rows ++ Some hash ∷ []) b ≤ longest) (sym same)
          (omega (arith, room, count_next (is_in buckets (bucket_of buckets hash)) rows (Some hash) (in_own buckets hash)))
      | inr other ↦ omega (arith, short bucket, count_same (is_in buckets bucket) rows (Some hash) (in_no_other buckets hash bucket other))
    ]

pub short_outside : (buckets : ℕ) (rows : List (Option ℕ)) → AreShort buckets rows → AreShort buckets (rows ++ None ∷ [])
short_outside buckets rows short bucket = omega (arith, short bucket, count_same (is_in buckets bucket) rows None refl)

-- the links of the rows before, where a row is put last
before_still : (buckets : ℕ) (lasts : List ℕ) (links : List Link) (new : Link) → AreLinks buckets lasts links → (row bucket : ℕ) → row < length links
    → is_in buckets bucket (hash_at (hashes_in links ++ hash_in new ∷ []) row) ≡ true → LeadsTo buckets (hashes_in links ++ hash_in new ∷ []) row bucket (link_at (links ++ new ∷ []) row).before
before_still buckets lasts links new h row bucket low there =
    let count : length (hashes_in links) ≡ length links = length-map links hash_in in
    let there' : is_in buckets bucket (hash_at (hashes_in links) row) ≡ true = sym (ap (is_in buckets bucket) (hash_old (hashes_in links) (hash_in new) row (omega arith))) ∙ there in
    subst (λ l. LeadsTo buckets (hashes_in links ++ hash_in new ∷ []) row bucket l.before) (sym (get_or-append links (new ∷ []) none row low))
    (leads_still buckets (hashes_in links) row row bucket (hash_in new) (link_at links row).before (h.before row bucket low there') (omega arith) (omega arith)
    (λ k le lt. absurd (let x : ⊥ = omega arith in x)) (omega arith))

one_more : (buckets : ℕ) (lasts : List ℕ) (links : List Link) (hash next : ℕ) (new : Link) → AreLinks buckets lasts links → bucket_of buckets hash < length lasts → next ≡ length links + 1
    → hash_in new ≡ Some hash → new.before ≡ get_or lasts (bucket_of buckets hash) 0 → AreLinks buckets (set lasts (bucket_of buckets hash) next) (links ++ new ∷ [])
one_more buckets lasts links hash next new h in_range next_is holds is =
    let own = bucket_of buckets hash in
    let rows = hashes_in links in
    let count : length rows ≡ length links = length-map links hash_in in
    let more : length (links ++ new ∷ []) ≡ length links + 1 = omega (arith, length-append links (new ∷ [])) in
    let all : rows ++ hash_in new ∷ [] ≡ hashes_in (links ++ new ∷ []) = sym (map-append hash_in links (new ∷ [])) in
    record {
      last = λ bucket low.
          subst (λ rs. LeadsTo buckets rs (length (links ++ new ∷ [])) bucket (get_or (set lasts own next) bucket 0)) all
          (subst (λ n. LeadsTo buckets (rows ++ hash_in new ∷ []) n bucket (get_or (set lasts own next) bucket 0)) (sym (more ∙ ap (λ n. n + 1) (sym count)))
          (elim (eq_or_ne bucket own) as (λ _. LeadsTo buckets (rows ++ hash_in new ∷ []) (length rows + 1) bucket (get_or (set lasts own next) bucket 0)) [
            | inl same ↦
                subst (λ b. LeadsTo buckets (rows ++ hash_in new ∷ []) (length rows + 1) b (get_or (set lasts own next) b 0)) (sym same)
                (subst (λ k. LeadsTo buckets (rows ++ hash_in new ∷ []) (length rows + 1) own k) (ap (λ n. n + 1) count ∙ sym next_is ∙ sym (get_or-set_same lasts own next 0 in_range))
                (subst (λ o. LeadsTo buckets (rows ++ o ∷ []) (length rows + 1) own (length rows + 1)) (sym holds) (leads_to_new buckets rows hash)))
            | inr other ↦
                subst (λ k. LeadsTo buckets (rows ++ hash_in new ∷ []) (length rows + 1) bucket k) (sym (get_or-set_other lasts own bucket next 0 other))
                (leads_still buckets rows (length links) (length rows + 1) bucket (hash_in new) (get_or lasts bucket 0) (h.last bucket (omega (arith, low, length-set lasts own next))) (omega arith) (omega arith)
                (λ row le lt. (omega arith, ap (is_in buckets bucket) holds ∙ in_no_other buckets hash bucket other)) (omega arith))
          ]));
      before = λ row bucket low there.
          let there' : is_in buckets bucket (hash_at (rows ++ hash_in new ∷ []) row) ≡ true = ap (λ rs. is_in buckets bucket (hash_at rs row)) all ∙ there in
          subst (λ rs. LeadsTo buckets rs row bucket (link_at (links ++ new ∷ []) row).before) all
          (elim (lt_or_le row (length links)) as (λ _. LeadsTo buckets (rows ++ hash_in new ∷ []) row bucket (link_at (links ++ new ∷ []) row).before) [
            | inl old ↦ before_still buckets lasts links new h row bucket old there'
            | inr late ↦
                let at : row ≡ length links = omega arith in
                let bucket_is : own ≡ bucket = sym (in_is buckets bucket hash (hash_in new) holds (sym (ap (is_in buckets bucket) (hash_new rows (hash_in new) row (omega arith))) ∙ there')) in
                let read : get_or lasts own 0 ≡ (link_at (links ++ new ∷ []) row).before =
                sym is ∙ ap (λ l. l.before) (sym (ap (link_at (links ++ new ∷ [])) at ∙ get_or-append_seam links new [] none)) in
                subst (λ b. LeadsTo buckets (rows ++ hash_in new ∷ []) row b (link_at (links ++ new ∷ []) row).before) bucket_is
                (subst (λ k. LeadsTo buckets (rows ++ hash_in new ∷ []) row own k) read
                (leads_still buckets rows (length links) row own (hash_in new) (get_or lasts own 0) (h.last own in_range) (omega arith) (omega arith) (λ j le lt. absurd (let x : ⊥ = omega arith in x)) (omega arith)))
          ]);
    }

-- what a bucket leads to never says that a row is outside
last_inside : (lasts : List ℕ) (links : List Link) (bucket before : ℕ) → AreLinks (length lasts) lasts links → bucket < length lasts → before ≡ get_or lasts bucket before → length links < outside → before ≢ outside
last_inside lasts links bucket before h within read few out =
    let is : before ≡ get_or lasts bucket 0 = read ∙ get_or_default_zero lasts bucket before within in
    omega (arith, (h.last bucket within).within, is, few, out)

pub hash_put : (lasts : List ℕ) (links : List Link) (bucket before hash : ℕ) → AreLinks (length lasts) lasts links → bucket < length lasts → before ≡ get_or lasts bucket before → length links < outside
    → hash_in (record { before = before; hash = hash }) ≡ Some hash
hash_put lasts links bucket before hash h within read few = hash_some (record { before = before; hash = hash }) (last_inside lasts links bucket before h within read few)

pub put_last : (lasts : List ℕ) (links : List Link) (hash bucket before next : ℕ) → AreLinks (length lasts) lasts links → bucket ≡ bucket_of (length lasts) hash → bucket < length lasts
    → before ≡ get_or lasts bucket before → length links < outside → next ≡ length links + 1
    → AreLinks (length (set lasts bucket next)) (set lasts bucket next) (links ++ record { before = before; hash = hash } ∷ [])
put_last lasts links hash bucket before next h bucket_is within read few next_is =
    let new : Link = record { before = before; hash = hash } in
    let own = bucket_of (length lasts) hash in
    let read' : before ≡ get_or lasts own 0 = read ∙ get_or_default_zero lasts bucket before within ∙ ap (λ b. get_or lasts b 0) bucket_is in
    subst (λ n. AreLinks n (set lasts bucket next) (links ++ new ∷ [])) (sym (length-set lasts bucket next))
    (subst (λ b. AreLinks (length lasts) (set lasts b next) (links ++ new ∷ [])) (sym bucket_is)
    (one_more (length lasts) lasts links hash next new h (subst (λ b. b < length lasts) bucket_is within) next_is (hash_put lasts links bucket before hash h within read few) read'))

-- one row more without a hash
pub one_outside : (buckets : ℕ) (lasts : List ℕ) (links : List Link) (new : Link) → AreLinks buckets lasts links → new.before ≡ outside → AreLinks buckets lasts (links ++ new ∷ [])
one_outside buckets lasts links new h out =
    let rows = hashes_in links in
    let count : length rows ≡ length links = length-map links hash_in in
    let more : length (links ++ new ∷ []) ≡ length links + 1 = omega (arith, length-append links (new ∷ [])) in
    let all : rows ++ hash_in new ∷ [] ≡ hashes_in (links ++ new ∷ []) = sym (map-append hash_in links (new ∷ [])) in
    let unheld : hash_in new ≡ None = hash_none new out in
    record {
      last = λ bucket low.
          subst (λ rs. LeadsTo buckets rs (length (links ++ new ∷ [])) bucket (get_or lasts bucket 0)) all
          (leads_still buckets rows (length links) (length (links ++ new ∷ [])) bucket (hash_in new) (get_or lasts bucket 0) (h.last bucket low) (omega arith) (omega arith)
          (λ row le lt. (omega arith, ap (is_in buckets bucket) unheld)) (omega arith));
      before = λ row bucket low there.
          let there' : is_in buckets bucket (hash_at (rows ++ hash_in new ∷ []) row) ≡ true = ap (λ rs. is_in buckets bucket (hash_at rs row)) all ∙ there in
          subst (λ rs. LeadsTo buckets rs row bucket (link_at (links ++ new ∷ []) row).before) all
          (elim (lt_or_le row (length links)) as (λ _. LeadsTo buckets (rows ++ hash_in new ∷ []) row bucket (link_at (links ++ new ∷ []) row).before) [
            | inl old ↦ before_still buckets lasts links new h row bucket old there'
            | inr late ↦ absurd (let clash : false ≡ true = sym (ap (is_in buckets bucket) (hash_new rows (hash_in new) row (omega arith) ∙ unheld)) ∙ there' in cc)
          ]);
    }

-- the same links once more
pub chains_same : (old new : Chains) → AreChains old → new.lasts.items ≡ old.lasts.items → new.links.items ≡ old.links.items → AreChains new
chains_same old new h lasts links = record {
  linked = subst (λ xs. AreLinks (length xs) xs new.links.items) (sym lasts) (subst (λ ls. AreLinks (buckets_of old) old.lasts.items ls) (sym links) h.linked);
  short = subst (λ n. AreShort n (rows_of new)) (sym (ap length lasts)) (subst (λ ls. AreShort (buckets_of old) (hashes_in ls)) (sym links) h.short);
}

-- a walk back along a chain: what it has counted, and one row more
pub count_none : (p : Option ℕ → Bool) (rows : List (Option ℕ)) (n m : ℕ) → n ≤ m → m ≤ length rows → ((row : ℕ) → n ≤ row → row < m → p (hash_at rows row) ≡ false) → count_by p (take m rows) ≡ count_by p (take n rows)
count_none p rows n zero le within none_in = ap (λ k. count_by p (take k rows)) (let e : 0 ≡ n = omega arith in e)
count_none p rows n (suc m) le within none_in =
    elim (lt_or_le m n) as (λ _. count_by p (take (suc m) rows) ≡ count_by p (take n rows)) [
      | inl all ↦ ap (λ k. count_by p (take k rows)) (let e : suc m ≡ n = omega arith in e)
      | inr more ↦
          ap (λ k. count_by p (take k rows)) (let e : suc m ≡ m + 1 = omega arith in e) ∙ count_by_more_no p rows m None (omega arith) (none_in m more (omega arith))
          ∙ count_none p rows n m more (omega arith) (λ row low high. none_in row low (omega arith))
    ]

pub count_step : (buckets : ℕ) (rows : List (Option ℕ)) (bucket row next before : ℕ) → next ≡ suc row → row < length rows → is_in buckets bucket (hash_at rows row) ≡ true → LeadsTo buckets rows row bucket before
    → count_in buckets (take next rows) bucket ≡ count_in buckets (take before rows) bucket + 1
count_step buckets rows bucket row next before is low there leads =
    ap (λ k. count_in buckets (take k rows) bucket) (let e : next ≡ row + 1 = omega arith in e) ∙ count_by_more_yes (is_in buckets bucket) rows row None low there
    ∙ ap (λ n. n + 1) (count_none (is_in buckets bucket) rows before row leads.within (omega arith) leads.later)

-- twice as many buckets: a bucket says which one of half as many it was
halved : (buckets hash : ℕ) → AreHalves buckets → bucket_of buckets hash ≡ bit_and (bucket_of (2 * buckets) hash) (buckets - 1)
halved buckets hash halves = ap (bit_and _) (sym halves) ∙ sym (and_assoc (buckets - 1) _ (2 * buckets - 1))

in_half : (buckets bucket : ℕ) (o : Option ℕ) → AreHalves buckets → is_in (2 * buckets) bucket o ≡ true → is_in buckets (bit_and bucket (buckets - 1)) o ≡ true
in_half buckets bucket None halves there = there
in_half buckets bucket (Some hash) halves there =
    let is : bucket ≡ bucket_of (2 * buckets) hash = in_is (2 * buckets) bucket hash (Some hash) refl there in
    ap (λ b. is_in buckets (bit_and b (buckets - 1)) (Some hash)) is ∙ ap (λ b. is_in buckets b (Some hash)) (sym (halved buckets hash halves)) ∙ in_own buckets hash

one_if : (a b : Bool) → (a ≡ true → b ≡ true) → ◌≤◌ (cond a 1 0) (cond b 1 0)
one_if false b h = omega arith
one_if true b h = let e : ◌≡◌ {A = ℕ} (cond b 1 0) 1 = ap (λ x. cond x 1 0) (h refl) in omega (arith, e)

pub short_halved : (buckets : ℕ) (rows : List (Option ℕ)) → AreHalves buckets → AreShort buckets rows → AreShort (2 * buckets) rows
short_halved buckets rows halves short bucket =
    let half = bit_and bucket (buckets - 1) in
    let fewer : count_in (2 * buckets) rows bucket ≤ count_in buckets rows half =
    sum_by-le-sum_by (λ o. cond (is_in (2 * buckets) bucket o) 1 0) (λ o. cond (is_in buckets half o) 1 0) rows
    (λ o. one_if (is_in (2 * buckets) bucket o) (is_in buckets half o) (in_half buckets bucket o halves)) in
    omega (arith, fewer, short half)

pub halves_double : (n : ℕ) → AreHalves n → AreHalves (2 * n)
halves_double zero halves = refl
halves_double (suc n) halves =
    let m = suc n in
    let x : (2 * (2 * m) - 1) / 2 ≡ 2 * m - 1 = omega arith in
    let y : (2 * m - 1) / 2 ≡ m - 1 = omega arith in
    let half : bit_and ((2 * (2 * m) - 1) / 2) ((2 * m - 1) / 2) ≡ m - 1 = ap (λ a. bit_and a ((2 * m - 1) / 2)) x ∙ ap (bit_and (2 * m - 1)) y ∙ halves in
    omega (arith, clamps, and_step (2 * (2 * m) - 1) (2 * m - 1), half)

pub halves_power : (k : ℕ) → AreHalves (2 ^ k)
halves_power zero = refl
halves_power (suc k) = subst (λ n. AreHalves n) (let e : 2 * 2 ^ k ≡ 2 ^ suc k = omega arith in e) (halves_double (2 ^ k) (halves_power k))
