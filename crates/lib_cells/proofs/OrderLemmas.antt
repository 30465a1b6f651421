-- The first of some flaws is before none of them.
use Rattle.std.proofs.Common.{◌≡◌, ◌⊎◌, inl, inr, ℕ, suc, nat_lt, Bool, true, false, List, [], ◌∷◌, Some, None, refl, sym, arith, if◌then◌else◌}
use Rattle.std.specs.List.{All, Contains}
use Rattle.std.proofs.lemmas.Bool.Decides.{nat_tests}
use Rattle.std.proofs.lemmas.List.Elements.{All-cons, All-nil}
use Rattle.vg_scan.specs.declared.fault.LineFault.{LineFault}
use Rattle.lib_text.specs.Syntax.{line_at}
use Rattle.lib_cells.specs.declared.fault.LibKind.{LibKind}
use Rattle.lib_cells.specs.declared.flaw.Flaw.{Flaw}
use Rattle.lib_cells.specs.FirstFlaws.{first_of}
use Rattle.lib_cells.specs.Flaws.{IsFirst, before_or, is_before, rank}

module _ (l r p m s q n t u : ℕ) where
  neither : before_or l m (before_or r s (nat_lt p q)) ≡ false → before_or m n (before_or s t (nat_lt q u)) ≡ false
      → before_or l n (before_or r t (nat_lt p u)) ≡ false
  neither a b = grind (arith, nat_tests)

  follows : before_or l m (before_or r s (nat_lt p q)) ≡ true → before_or l n (before_or r t (nat_lt p u)) ≡ false
      → before_or m n (before_or s t (nat_lt q u)) ≡ false
  follows a b = grind (arith, nat_tests)

alone : (l r p : ℕ) → before_or l l (before_or r r (nat_lt p p)) ≡ false
alone l r p = grind (arith, nat_tests)

module _ (bytes : List ℕ) where
  abbrev Neither : Flaw → Flaw → Type 0
  Neither a b = is_before bytes a b ≡ false

  not_before_itself : (a : Flaw) → Neither a a
  not_before_itself a = alone (line_at bytes a.place) (rank a.kind) a.place

  after_neither : (a b c : Flaw) → Neither a b → Neither b c → Neither a c
  after_neither a b c = neither (line_at bytes a.place) (rank a.kind) a.place (line_at bytes b.place) (rank b.kind) b.place (line_at bytes c.place) (rank c.kind) c.place

  after_before : (a b c : Flaw) → is_before bytes a b ≡ true → Neither a c → Neither b c
  after_before a b c = follows (line_at bytes a.place) (rank a.kind) a.place (line_at bytes b.place) (rank b.kind) b.place (line_at bytes c.place) (rank c.kind) c.place

  -- of a flaw and some others this is the first
  record Leads (first : Flaw) (flaws : List Flaw) (found : Flaw) : Type 0 where
    one : (found ≡ first) ⊎ Contains flaws found
    not_after : Neither first found
    each : All (λ other. Neither other found) flaws

  in_rest : (x : Flaw) (xs : List Flaw) (found : Flaw) → Contains xs found → Contains (x ∷ xs) found
  in_rest x xs found (k, low, e) = (suc k, omega (arith, low), e)

  here : (x : Flaw) (xs : List Flaw) (found : Flaw) → found ≡ x → Contains (x ∷ xs) found
  here x xs found h = (0, omega arith, sym h)

  -- the first of a list, or of what comes after
  among : (x : Flaw) (xs : List Flaw) (found : Flaw) → (found ≡ x) ⊎ Contains xs found → Contains (x ∷ xs) found
  among x xs found one = elim one [ inl h ↦ here x xs found h | inr c ↦ in_rest x xs found c ]

  leads : (first : Flaw) (flaws : List Flaw) (found : Flaw) → first_of bytes (Some first) flaws ≡ Some found → Leads first flaws found
  leads first [] found e =
      let h : found ≡ first = cc in
      record { one = inl h; not_after = rw h (not_before_itself first); each = All-nil (λ other. Neither other found) }
  leads first (x ∷ xs) found e = by_test (is_before bytes x first) refl (leads x xs found) (leads first xs found)
    where
      by_test : (t : Bool) → is_before bytes x first ≡ t → (first_of bytes (Some x) xs ≡ Some found → Leads x xs found)
          → (first_of bytes (Some first) xs ≡ Some found → Leads first xs found) → Leads first (x ∷ xs) found
      by_test true t by_x by_first =
          let l = by_x (rw t at e) in
          record {
            one = inr (among x xs found l.one);
            not_after = after_before x first found t l.not_after;
            each = All-cons (λ other. Neither other found) x xs l.not_after l.each;
          }
      by_test false t by_x by_first =
          let l = by_first (rw t at e) in
          record {
            one = elim l.one as (λ _. (found ≡ first) ⊎ Contains (x ∷ xs) found) [ inl h ↦ inl h | inr c ↦ inr (in_rest x xs found c) ];
            not_after = l.not_after;
            each = All-cons (λ other. Neither other found) x xs (after_neither x first found t l.not_after) l.each;
          }

  some_stays : (first : Flaw) (flaws : List Flaw) → first_of bytes (Some first) flaws ≡ None → ⊥
  some_stays first [] e = absurd (cc)
  some_stays first (x ∷ xs) e = some_stays (if is_before bytes x first then x else first) xs e

  pub no_flaw : (flaws : List Flaw) → first_of bytes None flaws ≡ None → flaws ≡ []
  no_flaw [] e = refl
  no_flaw (x ∷ xs) e = absurd (some_stays x xs e)

  pub first_flaw : (flaws : List Flaw) (found : Flaw) → first_of bytes None flaws ≡ Some found
      → IsFirst bytes flaws (record { kind = found.kind; line = line_at bytes found.place })
  first_flaw [] found e = absurd (cc)
  first_flaw (x ∷ xs) found e =
      let l = leads x xs found e in
      record { found = found; among = among x xs found l.one; least = All-cons (λ other. Neither other found) x xs l.not_after l.each; kind = refl; line = refl }

  pub not_among_none : (fault : LineFault LibKind) → IsFirst bytes [] fault → ⊥
  not_among_none fault f = let (k, low, e) = f.among in absurd (omega (arith, low))
