-- Texts whose bytes stand for themselves.
use Rattle.std.proofs.Common.{◌≡◌, ℕ, zero, suc, get_or, take, drop, Bool, true, false, ◌||◌, ◌&&◌, not, cond, eqb, List, [], ◌∷◌, refl, ap, ◌∙◌, Some, None}
use Rattle.std.proofs.lemmas.Bool.Decides.{nat_tests}
use Rattle.std.proofs.Common.{arith, length}
use Rattle.std.specs.List.{list_all}
use Rattle.vg_scan.specs.declared.chars.Chars.{Chars}
use Rattle.vg_scan.specs.Names.{is_backslash, is_quote, plain, before, spelled, canonical, is_escaped, is_bare, last_bare}
use Rattle.spef_nodes.specs.Spellings.{is_itself}

is_number : (a b : ℕ) → eqb a b ≡ true → b ≡ a
is_number a b e = grind (arith, nat_tests)

itself_if : (e p q r : Bool) (b : ℕ) → cond e (not true) (cond p (eqb b 47) (cond q (eqb b 91) (cond r (eqb b 93) true))) ≡ true → (e ≡ false) × (cond p 47 (cond q 91 (cond r 93 b)) ≡ b)
itself_if true p q r b h = absurd (cc)
itself_if false true q r b h = (refl, is_number b 47 h)
itself_if false false true r b h = (refl, is_number b 91 h)
itself_if false false false true b h = (refl, is_number b 93 h)
itself_if false false false false b h = (refl, refl)

or_both : (a b : Bool) → (a || b) ≡ false → (a ≡ false) × (b ≡ false)
or_both true b e = absurd (cc)
or_both false b e = (refl, e)

and_both : (a b : Bool) → (a && b) ≡ true → (a ≡ true) × (b ≡ true)
and_both true b e = (refl, e)
and_both false b e = absurd (cc)

spelled_plain : (chars : Chars) (text : List ℕ) → list_all (is_itself chars) text ≡ true → spelled chars false text ≡ Some text
unfolding spelled
spelled_plain chars [] h = refl
spelled_plain chars (b ∷ bs) h =
    let k = and_both (is_itself chars b) (list_all (is_itself chars) bs) h in
    let i = itself_if (is_backslash b || is_quote b) (eqb b chars.divider) (eqb b chars.bus_left) (eqb b chars.bus_right) b k.0 in
    let n = or_both (is_backslash b) (is_quote b) i.0 in
    ap (λ t. cond t (spelled chars true bs) (cond (is_quote b) None (before (plain chars b) (spelled chars false bs)))) n.0
    ∙ ap (λ t. cond t None (before (plain chars b) (spelled chars false bs))) n.1
    ∙ ap (λ c. before c (spelled chars false bs)) i.1
    ∙ ap (before b) (spelled_plain chars bs k.1)

pub canonical_plain : (chars : Chars) (text : List ℕ) → list_all (is_itself chars) text ≡ true → eqb (length text) 0 ≡ false → canonical chars text ≡ Some text
canonical_plain chars [] h k = absurd (cc)
canonical_plain chars (b ∷ bs) h k = spelled_plain chars (b ∷ bs) h

itself_bare : (chars : Chars) (b : ℕ) → is_itself chars b ≡ true → is_backslash b ≡ false
itself_bare chars b h = (or_both (is_backslash b) (is_quote b) (itself_if (is_backslash b || is_quote b) (eqb b chars.divider) (eqb b chars.bus_left) (eqb b chars.bus_right) b h).0).0

pub unescaped : (chars : Chars) (text : List ℕ) → list_all (is_itself chars) text ≡ true → (i : ℕ) → is_backslash (get_or text i 0) ≡ false
unescaped chars [] h i = refl
unescaped chars (b ∷ bs) h zero = itself_bare chars b (and_both (is_itself chars b) (list_all (is_itself chars) bs) h).0
unescaped chars (b ∷ bs) h (suc i) = unescaped chars bs (and_both (is_itself chars b) (list_all (is_itself chars) bs) h).1 i

pub none_escaped : (text : List ℕ) → ((i : ℕ) → is_backslash (get_or text i 0) ≡ false) → (at : ℕ) → is_escaped text at ≡ false
none_escaped text h zero = refl
none_escaped text h (suc at) = ap (λ b. b && not (is_escaped text at)) (h at)

and_true : (a : Bool) → (a && true) ≡ a
and_true true = refl
and_true false = refl

pub bare_is : (byte : ℕ) (text : List ℕ) (at : ℕ) → ((i : ℕ) → is_backslash (get_or text i 0) ≡ false) → is_bare byte text at ≡ eqb (get_or text at 0) byte
bare_is byte text at h = ap (λ e. eqb (get_or text at 0) byte && not e) (none_escaped text h at) ∙ and_true (eqb (get_or text at 0) byte)

-- the last of a byte, from the end
pub last_here : (byte : ℕ) (text : List ℕ) (at end : ℕ) → ((i : ℕ) → is_backslash (get_or text i 0) ≡ false) → end ≡ suc at → eqb (get_or text at 0) byte ≡ true → last_bare byte text end ≡ Some at
last_here byte text at end h e k = ap (last_bare byte text) e ∙ ap (λ b. cond b (Some at) (last_bare byte text at)) (bare_is byte text at h ∙ k)

pub last_before : (byte : ℕ) (text : List ℕ) (at end : ℕ) → ((i : ℕ) → is_backslash (get_or text i 0) ≡ false) → end ≡ suc at → eqb (get_or text at 0) byte ≡ false → last_bare byte text end ≡ last_bare byte text at
last_before byte text at end h e k = ap (last_bare byte text) e ∙ ap (λ b. cond b (Some at) (last_bare byte text at)) (bare_is byte text at h ∙ k)

pub same_byte : (a b : ℕ) → a ≡ b → eqb a b ≡ true
same_byte a b e = grind (arith, nat_tests)

pub other_byte : (a b : ℕ) → (a ≡ b → ⊥) → eqb a b ≡ false
other_byte a b h = grind (arith, nat_tests)

and_two : (a b : Bool) → a ≡ true → b ≡ true → (a && b) ≡ true
and_two true b e f = f
and_two false b e f = absurd (cc)

-- parts of such a text are such
pub all_take : (p : ℕ → Bool) (n : ℕ) (text : List ℕ) → list_all p text ≡ true → list_all p (take n text) ≡ true
all_take p zero text h = refl
all_take p (suc n) [] h = refl
all_take p (suc n) (b ∷ bs) h = let k = and_both (p b) (list_all p bs) h in and_two (p b) (list_all p (take n bs)) k.0 (all_take p n bs k.1)

pub all_drop : (p : ℕ → Bool) (n : ℕ) (text : List ℕ) → list_all p text ≡ true → list_all p (drop n text) ≡ true
all_drop p zero text h = h
all_drop p (suc n) [] h = refl
all_drop p (suc n) (b ∷ bs) h = all_drop p n bs (and_both (p b) (list_all p bs) h).1
