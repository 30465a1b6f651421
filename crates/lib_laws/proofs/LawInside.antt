-- What stands in a group stands inside it.
use Rattle.std.proofs.Common.{◌≡◌, ℕ, suc, ◌+◌, ◌<◌, ◌≤◌, nat_lt, ◌==◌, ◌&&◌, Bool, true, false, cond, List, [], ◌∷◌, ◌++◌, filter, find, refl, sym, ap, ◌∙◌, arith}
use Rattle.std.specs.Bool.{⊤}
use Rattle.std.specs.List.{All, before_first, position_or_len}
use Rattle.std.proofs.lemmas.Bool.Decides.{nat_tests}
use Rattle.std.proofs.lemmas.List.Elements.{All-head, All-tail}
use Rattle.lib_text.specs.declared.statement.Statement.{Statement}
use Rattle.lib_text.specs.declared.statement.Form.{Form}
use Rattle.lib_text.specs.declared.statement.Form.TheVariants.{Group as OfGroup}
use Rattle.lib_text.specs.Groups.{Group, inside, is_form, is_in, word_at, group_of, groups_from}
use Rattle.lib_text.specs.Statements.{top, pop, statements_of}
use Rattle.lib_laws.proofs.LawSteps.{Steps, Falls, falls_more, falls_pop, follow_in}
use Rattle.lib_laws.proofs.LawSteps.Steps.{ends, adds, opens, closes, reads}
use Rattle.std.specs.Str.{bytes_eq}

-- a statement stands in the group whose name begins here
abbrev pub stands_in : ℕ → Statement → Bool
stands_in place s = s.group == place

-- a statement stands in a group that began before this place
abbrev pub began_before : ℕ → Statement → Bool
began_before place s = nat_lt s.group place

-- ---- a group that has ended does not open again

-- no open group began here
abbrev pub Misses : ℕ → List ℕ → Type 0
Misses place [] = ⊤
Misses place (g ∷ gs) = (g ≡ place → ⊥) × Misses place gs

misses_pop : (place : ℕ) (groups : List ℕ) → Misses place groups → Misses place (pop groups)
misses_pop place [] m = m
misses_pop place (g ∷ gs) (m, ms) = ms

misses_below : (place high : ℕ) (groups : List ℕ) → high < place → Falls high groups → Misses place groups
misses_below place high [] l f = tt
misses_below place high (g ∷ gs) l (f, fs) = ((λ e. absurd (omega arith)), misses_below place g gs (omega arith) fs)

misses_top : (place name : ℕ) (groups : List ℕ) → top groups < place → Falls name groups → Misses place groups
misses_top place name [] l f = tt
misses_top place name (g ∷ gs) l (f, fs) = ((λ e. absurd (omega arith)), misses_below place g gs l fs)

top_differs : (place : ℕ) (groups : List ℕ) → 0 < place → Misses place groups → (top groups == place) ≡ false
top_differs place [] l m = grind (arith, nat_tests)
top_differs place (g ∷ gs) l (m, ms) = grind (arith, nat_tests)

gone : {groups : List ℕ} {name : ℕ} {all : List Statement} (place : ℕ) → 0 < place → place < name → Misses place groups
    → Steps groups name all → filter (stands_in place) all ≡ []
gone place z l m ends = refl
gone {groups} place z l m (adds {s} {ss} g n k) =
    let x : (s.group == place) ≡ false = ap (λ t. t == place) g ∙ top_differs place groups z m in
    rw x (gone place z l m k)
gone place z l m (opens k) = gone place z l ((λ e. absurd (omega arith)), m) k
gone {groups} place z l m (closes k) = gone place z l (misses_pop place groups m) k
gone place z l m (reads next h k) = gone place z (omega arith) m k

-- ---- the statements of a group, where each has a name of its own

-- those of the group all stand before the first that stands in a group that began earlier
abbrev pub AllInside : ℕ → List Statement → Type 0
AllInside place all = filter (stands_in place) all ≡ filter (stands_in place) (before_first (began_before place) all)

first_yes : {X : Type 0} (p : X → Bool) (x : X) (xs : List X) → p x ≡ true → before_first p (x ∷ xs) ≡ []
first_yes p x xs e = rw e refl

first_no : {X : Type 0} (p : X → Bool) (x : X) (xs : List X) → p x ≡ false → before_first p (x ∷ xs) ≡ x ∷ before_first p xs
first_no p x xs e = let n : 1 + position_or_len p xs ≡ suc (position_or_len p xs) = omega arith in rw (e, n) refl

kept : (place : ℕ) (s : Statement) (ss ts : List Statement) → filter (stands_in place) ss ≡ filter (stands_in place) ts
    → filter (stands_in place) (s ∷ ss) ≡ filter (stands_in place) (s ∷ ts)
kept place s ss ts h = rw h refl

add_one : (place : ℕ) (s : Statement) (ss : List Statement) → nat_lt s.group place ≡ false → AllInside place ss → AllInside place (s ∷ ss)
add_one place s ss e h =
    kept place s ss (before_first (began_before place) ss) h ∙ ap (filter (stands_in place)) (sym (first_no (began_before place) s ss e))

all_inside : {groups : List ℕ} {name : ℕ} {all : List Statement} (place : ℕ) → place ≤ name → Falls name groups
    → All (λ (s : Statement). place < s.name) all → Steps groups name all → AllInside place all
all_inside place l f u ends = refl
all_inside {groups} {name} place l f u (adds {s} {ss} g n k) =
    let h : place < s.name = All-head (λ (s : Statement). place < s.name) s ss u in
    let us : All (λ (s : Statement). place < s.name) ss = All-tail (λ (s : Statement). place < s.name) s ss u in
    let m : place < name = omega (arith, h, n) in
    by_test (nat_lt s.group place) refl m (all_inside place l f us k)
  where
    by_test : (x : Bool) → nat_lt s.group place ≡ x → place < name → AllInside place ss → AllInside place (s ∷ ss)
    by_test true e m h =
        let b : s.group < place = grind (arith, nat_tests) in
        let x : (s.group == place) ≡ false = grind (arith, nat_tests) in
        rw (e, x) (gone place (omega arith) m (misses_top place name groups (omega (arith, g, b)) f) k)
    by_test false e m h = add_one place s ss e h
all_inside place l f u (opens k) = all_inside place l (omega arith, f) u k
all_inside {groups} {name} place l f u (closes k) = all_inside place l (falls_pop name groups f) u k
all_inside {groups} {name} place l f u (reads next h k) = all_inside place (omega arith) (falls_more name next groups h f) u k

pub group_inside : (text : List ℕ) (before : List Statement) (head : Statement) (after : List Statement)
    → statements_of text ≡ before ++ head ∷ after → All (λ (s : Statement). head.name < s.name) after → AllInside head.name after
group_inside text before head after e u = let f = follow_in text before head after e in all_inside head.name (omega arith) f.falls u f.steps

-- ---- what is looked for in a group is looked for inside it

module _ (group : Group) (name : List ℕ) where
  find_in : (form : Form) (all : List Statement) → find (is_in group form name) all ≡ find (is_in group form name) (filter (stands_in group.head.name) all)
  find_in form [] = refl
  find_in form (s ∷ ss) = by_tests (s.group == group.head.name) (is_form form s.form && bytes_eq (word_at group.text s.name) name) refl refl (find_in form ss)
    where
      by_tests : (x y : Bool) → (s.group == group.head.name) ≡ x → (is_form form s.form && bytes_eq (word_at group.text s.name) name) ≡ y
          → find (is_in group form name) ss ≡ find (is_in group form name) (filter (stands_in group.head.name) ss)
          → find (is_in group form name) (s ∷ ss) ≡ find (is_in group form name) (filter (stands_in group.head.name) (s ∷ ss))
      by_tests true true e f h = rw (e, f) (rw e refl)
      by_tests true false e f h = rw (e, f) (rw e h)
      by_tests false y e f h = rw e h

  pub found_in : (form : Form) (all : List Statement) → AllInside group.head.name all
      → find (is_in group form name) all ≡ find (is_in group form name) (before_first (began_before group.head.name) all)
  found_in form all h =
      find_in form all ∙ ap (find (is_in group form name)) h ∙ sym (find_in form (before_first (began_before group.head.name) all))

  groups_by : (s : Statement) (ss : List Statement)
      → groups_from group name (s ∷ ss) ≡ cond (is_in group OfGroup name s) (group_of group.text s ss ∷ groups_from group name ss) (groups_from group name ss)
  unfolding groups_from
  groups_by s ss = refl

  groups_none : (all : List Statement) → filter (stands_in group.head.name) all ≡ [] → groups_from group name all ≡ groups_from group name []
  groups_none [] h = refl
  groups_none (s ∷ ss) h = by_test (s.group == group.head.name) refl h (λ k. groups_none ss k)
    where
      by_test : (x : Bool) → (s.group == group.head.name) ≡ x → cond x (s ∷ filter (stands_in group.head.name) ss) (filter (stands_in group.head.name) ss) ≡ []
          → (filter (stands_in group.head.name) ss ≡ [] → groups_from group name ss ≡ groups_from group name [])
          → groups_from group name (s ∷ ss) ≡ groups_from group name []
      by_test true e h k = absurd (cc)
      by_test false e h k = rw (groups_by s ss, e) (k h)

  -- the statements inside a group within are the same
  inside_same : (place : ℕ) (s : Statement) → place ≤ s.name → (all : List Statement)
      → inside s all ≡ inside s (before_first (began_before place) all)
  inside_same place s l [] = refl
  inside_same place s l (t ∷ ts) = by_tests (nat_lt t.group place) (nat_lt t.group s.name) refl refl (inside_same place s l ts)
    where
      by_tests : (x y : Bool) → nat_lt t.group place ≡ x → nat_lt t.group s.name ≡ y → inside s ts ≡ inside s (before_first (began_before place) ts)
          → inside s (t ∷ ts) ≡ inside s (before_first (began_before place) (t ∷ ts))
      by_tests true true e f h = first_yes (began_before s.name) t ts f ∙ ap (inside s) (sym (first_yes (began_before place) t ts e))
      by_tests true false e f h =
          let b : t.group < place = grind (arith, nat_tests) in
          let c : s.name ≤ t.group = grind (arith, nat_tests) in absurd (omega arith)
      by_tests false true e f h =
          first_yes (began_before s.name) t ts f
          ∙ sym (ap (inside s) (first_no (began_before place) t ts e) ∙ first_yes (began_before s.name) t (before_first (began_before place) ts) f)
      by_tests false false e f h =
          first_no (began_before s.name) t ts f ∙ ap (λ us. t ∷ us) h
          ∙ sym (ap (inside s) (first_no (began_before place) t ts e) ∙ first_no (began_before s.name) t (before_first (began_before place) ts) f)

  rest_inside : (s : Statement) (ss ts : List Statement) → filter (stands_in group.head.name) (s ∷ ss) ≡ filter (stands_in group.head.name) (s ∷ ts)
      → filter (stands_in group.head.name) ss ≡ filter (stands_in group.head.name) ts
  rest_inside s ss ts h = by_test (s.group == group.head.name) h
    where
      by_test : (x : Bool) → cond x (s ∷ filter (stands_in group.head.name) ss) (filter (stands_in group.head.name) ss)
          ≡ cond x (s ∷ filter (stands_in group.head.name) ts) (filter (stands_in group.head.name) ts)
          → filter (stands_in group.head.name) ss ≡ filter (stands_in group.head.name) ts
      by_test true h = cc
      by_test false h = h

  pub groups_found : (all : List Statement) → All (λ (s : Statement). group.head.name ≤ s.name) all → AllInside group.head.name all
      → groups_from group name all ≡ groups_from group name (before_first (began_before group.head.name) all)
  groups_found [] u h = refl
  groups_found (s ∷ ss) u h =
      by_test (nat_lt s.group group.head.name) refl
      (λ e.
      groups_found ss (All-tail (λ (s : Statement). group.head.name ≤ s.name) s ss u)
      (rest_inside s ss (before_first (began_before group.head.name) ss) (h ∙ ap (filter (stands_in group.head.name)) (first_no (began_before group.head.name) s ss e))))
    where
      by_test : (x : Bool) → nat_lt s.group group.head.name ≡ x
          → (nat_lt s.group group.head.name ≡ false → groups_from group name ss ≡ groups_from group name (before_first (began_before group.head.name) ss))
          → groups_from group name (s ∷ ss) ≡ groups_from group name (before_first (began_before group.head.name) (s ∷ ss))
      by_test true e k =
          let f = first_yes (began_before group.head.name) s ss e in
          groups_none (s ∷ ss) (h ∙ ap (filter (stands_in group.head.name)) f) ∙ ap (groups_from group name) (sym f)
      by_test false e k =
          let i : inside s ss ≡ inside s (before_first (began_before group.head.name) ss) =
          inside_same group.head.name s (All-head (λ (s : Statement). group.head.name ≤ s.name) s ss u) ss in
          let g : group_of group.text s ss ≡ group_of group.text s (before_first (began_before group.head.name) ss) =
          ap (λ (body : List Statement). record { text = group.text; head = s; body = body }) i in
          rw (groups_by s ss, g, k e)
          (sym (ap (groups_from group name) (first_no (began_before group.head.name) s ss e) ∙ groups_by s (before_first (began_before group.head.name) ss)))
