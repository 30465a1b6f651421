-- Grammars over tokens of any type T, the token lists that a grammar derives, and where a list breaks a grammar.
-- A grammar is a rule for each of its names N. A rule may use its own name, as a group of statements in groups does.
use Rattle.std.specs.Prelude.{◌≡◌, ℕ, ◌+◌, ◌<◌, ◌≤◌, Bool, true, List, [], ◌∷◌, ◌++◌, length, take}

-- a part of a grammar: a token that passes a test, nothing, a sequence, a choice, a repetition, or a rule by its name
pub data Part (N T : Type 0) : Type 0 where
  one : (T → Bool) → Part N T
  nothing : Part N T
  both : Part N T → Part N T → Part N T
  either : Part N T → Part N T → Part N T
  many : Part N T → Part N T
  named : N → Part N T

-- a list of tokens is a part, whole
pub data Derives {N T : Type 0} (rules : N → Part N T) : Part N T → List T → Type 0 where
  by_one : {test : T → Bool} {t : T} → test t ≡ true → Derives rules (one test) (t ∷ [])
  by_nothing : Derives rules nothing []
  by_both : {a b : Part N T} {xs ys : List T} → Derives rules a xs → Derives rules b ys
      → Derives rules (both a b) (xs ++ ys)
  by_left : {a b : Part N T} {xs : List T} → Derives rules a xs → Derives rules (either a b) xs
  by_right : {a b : Part N T} {xs : List T} → Derives rules b xs → Derives rules (either a b) xs
  by_none : {a : Part N T} → Derives rules (many a) []
  by_more : {a : Part N T} {xs ys : List T} → Derives rules a xs → Derives rules (many a) ys
      → Derives rules (many a) (xs ++ ys)
  by_name : {n : N} {xs : List T} → Derives rules (rules n) xs → Derives rules (named n) xs

-- a list of tokens begins a part: the empty list begins every part, and a token the part that is this token; a sequence
-- is begun in its first part, or in its rest after the first part whole; a choice in one of its members; a repetition
-- in a member after whole ones; a name as its rule
pub data Begins {N T : Type 0} (rules : N → Part N T) : Part N T → List T → Type 0 where
  at_start : {a : Part N T} → Begins rules a []
  at_one : {test : T → Bool} {t : T} → test t ≡ true → Begins rules (one test) (t ∷ [])
  in_first : {a b : Part N T} {xs : List T} → Begins rules a xs → Begins rules (both a b) xs
  in_rest : {a b : Part N T} {xs ys : List T} → Derives rules a xs → Begins rules b ys
      → Begins rules (both a b) (xs ++ ys)
  in_left : {a b : Part N T} {xs : List T} → Begins rules a xs → Begins rules (either a b) xs
  in_right : {a b : Part N T} {xs : List T} → Begins rules b xs → Begins rules (either a b) xs
  in_member : {a : Part N T} {xs ys : List T} → Derives rules (many a) xs → Begins rules a ys
      → Begins rules (many a) (xs ++ ys)
  in_name : {n : N} {xs : List T} → Begins rules (rules n) xs → Begins rules (named n) xs

-- a part allows the token at a place: the tokens up to it, itself included, begin the part
abbrev pub IsAllowed : {N T : Type 0} → (N → Part N T) → Part N T → List T → ℕ → Type 0
IsAllowed rules part tokens place = Begins rules part (take (place + 1) tokens)

-- where tokens break a part: they are not the part, and this is the place of the first that is not allowed, else their
-- end
pub record IsFault {N T : Type 0} (rules : N → Part N T) (part : Part N T) (tokens : List T) (place : ℕ) : Type 0 where
  pub broken : Derives rules part tokens → ⊥
  pub within : place ≤ length tokens
  pub before : (k : ℕ) → k < place → IsAllowed rules part tokens k
  pub here : place < length tokens → IsAllowed rules part tokens place → ⊥
