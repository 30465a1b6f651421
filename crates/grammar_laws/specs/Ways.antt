-- The ways in which tokens may go on. A way is the list of the parts that are still to come.
use Rattle.std.specs.Prelude.{◌≡◌, Bool, true, false, cond, not, ◌&&◌, ◌||◌, List, [], ◌∷◌, ◌++◌, ◌⊎◌}
use Rattle.grammar_laws.specs.Grammar.{Part, Derives, Begins}
use Rattle.grammar_laws.specs.Grammar.Part.{one, nothing, both, either, many, named}

-- a part is also the empty list of tokens; a name is taken for a part that is not
abbrev pub can_be_empty : {N T : Type 0} → Part N T → Bool
can_be_empty (one test) = false
can_be_empty nothing = true
can_be_empty (both a b) = can_be_empty a && can_be_empty b
can_be_empty (either a b) = can_be_empty a || can_be_empty b
can_be_empty (many a) = true
can_be_empty (named n) = false

-- each of these ways, with these parts after it
abbrev pub followed_by : {X : Type 0} → List X → List (List X) → List (List X)
followed_by rest [] = []
followed_by rest (way ∷ ways) = (way ++ rest) ∷ followed_by rest ways

-- the members of a sequence
abbrev pub parts_of : {N T : Type 0} → Part N T → List (Part N T)
parts_of nothing = []
parts_of (both a b) = parts_of a ++ parts_of b
parts_of a = a ∷ []

-- the ways on in a part after a token, given those in a rule
abbrev pub after : {N T : Type 0} → (N → T → List (List (Part N T))) → Part N T → T → List (List (Part N T))
after opened (one test) t = cond (test t) ([] ∷ []) []
after opened nothing t = []
after opened (both a b) t = followed_by (parts_of b) (after opened a t) ++ cond (can_be_empty a) (after opened b t) []
after opened (either a b) t = after opened a t ++ after opened b t
after opened (many a) t = followed_by (many a ∷ []) (after opened a t)
after opened (named n) t = opened n t

-- a part begins with a token, before any name
abbrev pub has_head : {N T : Type 0} → Part N T → Bool
has_head (one test) = true
has_head nothing = true
has_head (both a b) = has_head a && (not (can_be_empty a) || has_head b)
has_head (either a b) = has_head a && has_head b
has_head (many a) = has_head a
has_head (named n) = false

-- each rule begins with a token
pub record IsProper {N T : Type 0} (rules : N → Part N T) : Type 0 where
  pub solid : (n : N) → can_be_empty (rules n) ≡ false
  pub headed : (n : N) → has_head (rules n) ≡ true

-- no name is gone into
abbrev pub closed : {N T : Type 0} → N → T → List (List (Part N T))
closed n t = []

-- the ways on in a rule after a token
abbrev pub opened : {N T : Type 0} → (N → Part N T) → N → T → List (List (Part N T))
opened {N} {T} rules n t = after (closed {N = N} {T = T}) (rules n) t

-- the ways on after a token, of one way
abbrev pub after_all : {N T : Type 0} → (N → Part N T) → List (Part N T) → T → List (List (Part N T))
after_all rules [] t = []
after_all rules (a ∷ rest) t =
    followed_by rest (after (opened rules) a t) ++ cond (can_be_empty a) (after_all rules rest t) []

-- the ways on after a token, of several ways
abbrev pub after_any : {N T : Type 0} → (N → Part N T) → List (List (Part N T)) → T → List (List (Part N T))
after_any rules [] t = []
after_any rules (way ∷ ways) t = after_all rules way t ++ after_any rules ways t

-- the tokens may end where this way is to come
abbrev pub can_end : {N T : Type 0} → List (Part N T) → Bool
can_end [] = true
can_end (a ∷ rest) = can_be_empty a && can_end rest

-- the tokens may end where one of these ways is to come
abbrev pub can_stop : {N T : Type 0} → List (List (Part N T)) → Bool
can_stop [] = false
can_stop (way ∷ ways) = can_end way || can_stop ways

-- tokens are the parts of a way, whole
abbrev pub DerivesAll : {N T : Type 0} → (N → Part N T) → List (Part N T) → List T → Type 0
DerivesAll rules [] ts = ts ≡ []
DerivesAll {N} {T} rules (a ∷ rest) ts =
    (xs : List T) × (ys : List T) × Derives rules a xs × DerivesAll rules rest ys × (ts ≡ xs ++ ys)

-- tokens begin a way
abbrev pub BeginsAll : {N T : Type 0} → (N → Part N T) → List (Part N T) → List T → Type 0
BeginsAll rules [] ts = ts ≡ []
BeginsAll {N} {T} rules (a ∷ rest) ts =
    Begins rules a ts ⊎ ((xs : List T) × (ys : List T) × Derives rules a xs × BeginsAll rules rest ys × (ts ≡ xs ++ ys))

-- one of a list passes
abbrev pub AnyOf : {X : Type 0} → (X → Type 0) → List X → Type 0
AnyOf P [] = ⊥
AnyOf P (x ∷ xs) = P x ⊎ AnyOf P xs

-- after the tokens done, a part goes on in one of these ways, and in no other
pub record IsLeft {N T : Type 0} (rules : N → Part N T) (part : Part N T) (done : List T)
    (ways : List (List (Part N T))) : Type 0 where
  pub derives : (ts : List T) → Derives rules part (done ++ ts) → AnyOf (λ way. DerivesAll rules way ts) ways
  pub underives : (ts : List T) → AnyOf (λ way. DerivesAll rules way ts) ways → Derives rules part (done ++ ts)
  pub begins : (ts : List T) → Begins rules part (done ++ ts) → AnyOf (λ way. BeginsAll rules way ts) ways
  pub unbegins : (ts : List T) → AnyOf (λ way. BeginsAll rules way ts) ways → Begins rules part (done ++ ts)
