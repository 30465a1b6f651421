-- The first of the flaws of a text, from the least place of each kind.
use Rattle.std.proofs.Common.{◌≡◌, ◌⊎◌, inl, inr, ℕ, suc, zero, ◌<◌, ◌≤◌, ◌==◌, nat_lt, nat_le, Bool, true, false, cond, ◌||◌, ◌&&◌, List, [], ◌∷◌, ◌++◌, min, Option, Some, None, refl, sym, ap, subst, arith, append_assoc, ◌∙◌}
use Rattle.std.specs.Prelude.{MatchOption}
use Rattle.std.specs.List.{All, Contains}
use Rattle.std.proofs.lemmas.Bool.Decides.{nat_tests}
use Rattle.std.proofs.lemmas.List.{append-nil}
use Rattle.std.proofs.lemmas.List.Elements.{All-append, All-cons, All-contains, All-head, All-map, All-nil, All-tail, All-weaker, Contains-append_left, Contains-append_right}
use Rattle.std.proofs.lemmas.Int.{clamps}
use Rattle.vg_scan.specs.declared.fault.LineFault.{LineFault}
use Rattle.ver_syntax.specs.declared.fault.VerKind.{VerKind}
use Rattle.ver_syntax.specs.declared.fault.VerKind.TheVariants.{Grammar, NameClash, InstanceTwice}
use Rattle.ver_file.specs.Firsts.{first_of, sooner, told, with_flaw}
use Rattle.ver_file.specs.Flaws.{IsFirst, clashes, flaws_at, flaws_of, grammar_flaws, instance_flaws, is_before, rank}
use Rattle.ver_file.specs.FirstFlaws.{AreFirsts}
use Rattle.ver_file.specs.declared.first.Firsts.{Firsts}
use Rattle.ver_file.specs.declared.first.Flaw.{Flaw}

-- ---- the least place

pub record Least (places : List ℕ) (m : ℕ) : Type 0 where
  pub among : Contains places m
  pub least : All (λ place. m ≤ place) places

with_second : (x y : ℕ) (xs : List ℕ) (m : ℕ) → Contains (x ∷ xs) m → Contains (x ∷ y ∷ xs) m
with_second x y xs m (zero, l, e) = (zero, omega arith, e)
with_second x y xs m (suc k, l, e) = (suc (suc k), omega (arith, l), e)

with_first : (x : ℕ) (xs : List ℕ) (m : ℕ) → Contains xs m → Contains (x ∷ xs) m
with_first x xs m (k, l, e) = (suc k, omega (arith, l), e)

first_stays : (x y : ℕ) (xs : List ℕ) (m : ℕ) → x ≤ y → Least (x ∷ xs) m → Least (x ∷ y ∷ xs) m
first_stays x y xs m le h =
    let here : m ≤ x = All-head (λ place. m ≤ place) x xs h.least in
    record {
      among = with_second x y xs m h.among;
      least =
          All-cons (λ place. m ≤ place) x (y ∷ xs) here
          (All-cons (λ place. m ≤ place) y xs (omega (arith, here, le)) (All-tail (λ place. m ≤ place) x xs h.least));
    }

first_goes : (x y : ℕ) (xs : List ℕ) (m : ℕ) → y ≤ x → Least (y ∷ xs) m → Least (x ∷ y ∷ xs) m
first_goes x y xs m le h =
    let here : m ≤ y = All-head (λ place. m ≤ place) y xs h.least in
    record { among = with_first x (y ∷ xs) m h.among; least = All-cons (λ place. m ≤ place) x (y ∷ xs) (omega (arith, here, le)) h.least }

fold_least : (first : ℕ) (places : List ℕ) → (m : ℕ) × (first_of (Some first) places ≡ Some m) × Least (first ∷ places) m
fold_least first [] = (first, refl, record { among = (0, omega arith, refl); least = All-cons (λ place. first ≤ place) first [] (omega arith) (All-nil (λ place. first ≤ place)) })
fold_least first (p ∷ ps) =
    let (m, e, l) = fold_least (min first p) ps in
    (m, e, by_test m (nat_le first p) refl l)
  where
    by_test : (m : ℕ) (b : Bool) → nat_le first p ≡ b → Least (min first p ∷ ps) m → Least (first ∷ p ∷ ps) m
    by_test m true t l =
        let le : first ≤ p = grind (arith, nat_tests, t) in
        let same : min first p ≡ first = omega (arith, clamps, le) in
        first_stays first p ps m le (subst (λ (x : ℕ). Least (x ∷ ps) m) same l)
    by_test m false t l =
        let le : p ≤ first = grind (arith, nat_tests, t) in
        let same : min first p ≡ p = omega (arith, clamps, le) in
        first_goes first p ps m le (subst (λ (x : ℕ). Least (x ∷ ps) m) same l)

pub find_least : (places : List ℕ) → (places ≡ []) ⊎ ((m : ℕ) × (first_of None places ≡ Some m) × Least places m)
find_least [] = inl refl
find_least (p ∷ ps) = inr (fold_least p ps)

-- ---- tests of places

not_before_place : (l k r s : ℕ) → k < l → (nat_lt l k || ((l == k) && nat_lt r s)) ≡ false
not_before_place l k r s h = grind (arith, nat_tests, h)

not_before_rank : (l k r s : ℕ) → k ≤ l → s ≤ r → (nat_lt l k || ((l == k) && nat_lt r s)) ≡ false
not_before_rank l k r s h g = grind (arith, nat_tests, h, g)

place_after : (l k r s : ℕ) → (nat_lt l k || ((l == k) && nat_lt r s)) ≡ false → k ≤ l
place_after l k r s h = grind (arith, nat_tests, h)

-- ---- one kind of flaws more

contains_flaw : (kind : VerKind) (places : List ℕ) (m : ℕ) → Contains places m → Contains (flaws_at kind places) (record { place = m; kind = kind })
contains_flaw kind [] m (k, l, e) = absurd (omega (arith, l))
contains_flaw kind (p ∷ ps) m (zero, l, e) = (zero, omega arith, ap (λ place. record { place = place; kind = kind }) e)
contains_flaw kind (p ∷ ps) m (suc k, l, e) = let (j, low, is) = contains_flaw kind ps m (k, omega (arith, l), e) in (suc j, omega (arith, low), is)

new_least : (kind : VerKind) (places : List ℕ) (m : ℕ) (g : Flaw) → Least places m → g.place ≤ m → rank g.kind ≤ rank kind
    → All (λ other. is_before other g ≡ false) (flaws_at kind places)
new_least kind places m g l before low =
    All-map (λ (other : Flaw). is_before other g ≡ false) (λ place. record { place = place; kind = kind }) places
    (All-weaker (λ place. m ≤ place) (λ place. is_before (record { place = place; kind = kind }) g ≡ false)
    (λ place le. not_before_rank place g.place (rank kind) (rank g.kind) (omega (arith, le, before)) low) places l.least)

-- the first of some flaws
pub record IsSoonest (flaws : List Flaw) (found : Flaw) : Type 0 where
  pub among : Contains flaws found
  pub least : All (λ other. is_before other found ≡ false) flaws

-- the first of these flaws, if there are any
abbrev pub FirstSo : List Flaw → Option Flaw → Type 0
FirstSo flaws o = MatchOption o (flaws ≡ []) (IsSoonest flaws)

sooner_more : (flaws : List Flaw) (o : Option Flaw) (kind : VerKind) (places : List ℕ) (m : ℕ) → Least places m
    → All (λ f. rank f.kind < rank kind) flaws → FirstSo flaws o → IsSoonest (flaws ++ flaws_at kind places) (sooner o (record { place = m; kind = kind }))
sooner_more flaws None kind places m l ranks h =
    subst (λ (fs : List Flaw). IsSoonest (fs ++ flaws_at kind places) (record { place = m; kind = kind })) (sym h)
    (record {
      among = contains_flaw kind places m l.among;
      least = new_least kind places m (record { place = m; kind = kind }) l (omega arith) (omega arith);
    })
sooner_more flaws (Some g) kind places m l ranks h = by_test (nat_le g.place m) refl
  where
    low : rank g.kind < rank kind
    low = All-contains (λ (x : Flaw). rank x.kind < rank kind) flaws g ranks h.among

    by_test : (b : Bool) → nat_le g.place m ≡ b → IsSoonest (flaws ++ flaws_at kind places) (cond b g (record { place = m; kind = kind }))
    by_test true t =
        let le : g.place ≤ m = grind (arith, nat_tests, t) in
        record {
          among = Contains-append_left flaws (flaws_at kind places) g h.among;
          least =
              All-append (λ (other : Flaw). is_before other g ≡ false) flaws (flaws_at kind places) h.least
              (new_least kind places m g l le (omega (arith, low)));
        }
    by_test false t =
        let less : m < g.place = grind (arith, nat_tests, t) in
        record {
          among = Contains-append_right flaws (flaws_at kind places) (record { place = m; kind = kind }) (contains_flaw kind places m l.among);
          least =
              All-append (λ (other : Flaw). is_before other (record { place = m; kind = kind }) ≡ false) flaws (flaws_at kind places)
              (All-weaker (λ (other : Flaw). is_before other g ≡ false) (λ (other : Flaw). is_before other (record { place = m; kind = kind }) ≡ false)
              (λ other b.
              let after = place_after other.place g.place (rank other.kind) (rank g.kind) b in
              not_before_place other.place m (rank other.kind) (rank kind) (omega (arith, after, less))) flaws h.least)
              (new_least kind places m (record { place = m; kind = kind }) l (omega arith) (omega arith));
        }

pub one_kind_more : (flaws : List Flaw) (o : Option Flaw) (kind : VerKind) (places : List ℕ)
    → All (λ f. rank f.kind < rank kind) flaws → FirstSo flaws o → FirstSo (flaws ++ flaws_at kind places) (with_flaw o kind (first_of None places))
one_kind_more flaws o kind places ranks h = by_cases (find_least places)
  where
    by_cases : (places ≡ []) ⊎ ((m : ℕ) × (first_of None places ≡ Some m) × Least places m) → FirstSo (flaws ++ flaws_at kind places) (with_flaw o kind (first_of None places))
    by_cases (inl e) =
        subst (λ (ps : List ℕ). FirstSo (flaws ++ flaws_at kind ps) (with_flaw o kind (first_of None ps))) (sym e)
        (subst (λ (fs : List Flaw). FirstSo fs o) (sym (append-nil flaws)) h)
    by_cases (inr (m, e, l)) =
        subst (λ (first : Option ℕ). FirstSo (flaws ++ flaws_at kind places) (with_flaw o kind first)) (sym e) (sooner_more flaws o kind places m l ranks h)

ranked : (kind : VerKind) (n : ℕ) → rank kind < n → (places : List ℕ) → All (λ f. rank f.kind < n) (flaws_at kind places)
ranked kind n l [] = All-nil (λ (f : Flaw). rank f.kind < n)
ranked kind n l (p ∷ ps) = All-cons (λ (f : Flaw). rank f.kind < n) (record { place = p; kind = kind }) (flaws_at kind ps) l (ranked kind n l ps)

pub first_flaw : (a b c : List ℕ)
    → FirstSo (flaws_at NameClash a ++ (flaws_at InstanceTwice b ++ flaws_at Grammar c))
    (with_flaw (with_flaw (with_flaw None NameClash (first_of None a)) InstanceTwice (first_of None b)) Grammar (first_of None c))
first_flaw a b c =
    let A = flaws_at NameClash a in
    let B = flaws_at InstanceTwice b in
    let C = flaws_at Grammar c in
    let one = one_kind_more [] None NameClash a (All-nil (λ (f : Flaw). rank f.kind < 0)) refl in
    let two = one_kind_more A (with_flaw None NameClash (first_of None a)) InstanceTwice b (ranked NameClash 1 (omega arith) a) one in
    let three =
    one_kind_more (A ++ B) (with_flaw (with_flaw None NameClash (first_of None a)) InstanceTwice (first_of None b)) Grammar c
    (All-append (λ (f : Flaw). rank f.kind < 2) A B (ranked NameClash 2 (omega arith) a) (ranked InstanceTwice 2 (omega arith) b)) two in
    subst (λ (fs : List Flaw). FirstSo fs (with_flaw (with_flaw (with_flaw None NameClash (first_of None a)) InstanceTwice (first_of None b)) Grammar (first_of None c)))
    (append_assoc A B C) three

-- the flaw that the first places give is the first of the text
pub soonest : (text : List ℕ) (firsts : Firsts) (o : Option Flaw) → AreFirsts text firsts
    → o ≡ with_flaw (with_flaw (with_flaw None NameClash firsts.clash) InstanceTwice firsts.twice) Grammar firsts.grammar → FirstSo (flaws_of text) o
soonest text firsts o are e =
    subst (λ (p : Option Flaw). FirstSo (flaws_of text) p)
    (sym (e ∙ (λ i. with_flaw (with_flaw (with_flaw None NameClash (are.clash i)) InstanceTwice (are.twice i)) Grammar (are.grammar i))))
    (first_flaw (clashes text) (instance_flaws text) (grammar_flaws text))

pub told_first : (text : List ℕ) (flaws : List Flaw) (flaw : Flaw) (fault : LineFault VerKind) → IsSoonest flaws flaw → fault ≡ told text flaw → IsFirst text flaws fault
told_first text flaws flaw fault h e = record {
  found = flaw;
  among = h.among;
  least = h.least;
  kind = ap (λ f. f.kind) e;
  line = ap (λ f. f.line) e;
}
