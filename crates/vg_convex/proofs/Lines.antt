-- Values of pairs on, above and below a line.
use Rattle.std.proofs.Common.{◌≡◌, ℕ, ◌+◌, ◌-◌, ◌*◌, ◌<◌, ◌≤◌, ◌⊎◌, ℤ, pos, negsuc, ◌-ℤ◌, ◌*ℤ◌, ◌≤ℤ◌, ◌<ℤ◌, int_lt, MatchBool, refl, ap, ◌∙◌, arith, inl, inr}
use Rattle.std.proofs.lemmas.Int.{ints}
use Rattle.std.proofs.lemmas.Bool.{cases_lt, cases_Bool}
use Rattle.std.proofs.Math.Nat.{mul-le-mul_left, lt_of_mul-lt-mul_left}
use Rattle.elmore.specs.Pairs.{IsBelow}
use Rattle.vg_convex.specs.Hulls.{value, Bends, Sags}
use Rattle.elmore.specs.declared.pair.Pair.{Pair}

natural : (z : ℤ) → pos 0 ≤ℤ z → (s : ℕ) × (z ≡ pos s)
natural (pos s) _ = (s, refl)
natural (negsuc s) low = absurd (omega (arith, ints))

-- how much later one time is than another
gap : (x y : ℤ) → x <ℤ y → (s : ℕ) × (y -ℤ x ≡ pos s)
gap x y less = natural (y -ℤ x) (omega (arith, ints))

-- s and t are the gaps of time, u and w those of load
falls : (r s t u w : ℕ) → t * u < s * w → s ≤ r * u → t < r * w
falls r s t u w less low = lt_of_mul-lt-mul_left u (omega (arith, less, mul-le-mul_left w low))

climbs : (r s t u w : ℕ) → 0 < u → s * w ≤ t * u → r * u < s → r * w ≤ t
climbs r s t u w some no_more high = elim (cases_lt t (r * w)) [
  | inl less ↦
      let more : t + 1 ≤ r * w = omega arith in
      let high_1 : r * u + 1 ≤ s = omega arith in
      absurd (omega (arith, mul-le-mul_left u more, mul-le-mul_left w high_1, no_more, some))
  | inr ok ↦ ok
]

cancel : (k m n : ℕ) → 0 < k → k * m ≤ k * n → m ≤ n
cancel k m n some le = elim (cases_lt n m) [
  | inl less ↦
      let more : n + 1 ≤ m = omega arith in
      absurd (omega (arith, mul-le-mul_left k more, le, some))
  | inr ok ↦ ok
]

-- a line to a later pair lies higher
first_part : (p s t u w z : ℕ) → 0 < u → p * w ≤ s * u → (p + s) * z ≤ t * (u + w) → p * (w + z) ≤ (s + t) * u
first_part p s t u w z some inner outer =
    let scaled : u * ((p + s) * z) ≤ u * (t * (u + w)) = mul-le-mul_left u outer in
    let lifted : z * (p * w) ≤ z * (s * u) = mul-le-mul_left z inner in
    let part : p * z ≤ t * u = cancel (u + w) (p * z) (t * u) (omega arith) (omega (arith, scaled, lifted)) in
    omega (arith, part, inner)

later_part : (g e p s u w : ℕ) → 0 < u → p * w ≤ s * u → g * (u + w) ≤ (p + s) * e → (g + p) * w ≤ s * (e + u)
later_part g e p s u w some inner outer =
    let scaled : w * (g * (u + w)) ≤ w * ((p + s) * e) = mul-le-mul_left w outer in
    let lifted : e * (p * w) ≤ e * (s * u) = mul-le-mul_left e inner in
    let part : g * w ≤ s * e = cancel (u + w) (g * w) (s * e) (omega arith) (omega (arith, scaled, lifted)) in
    omega (arith, part, inner)

-- a pair as seen from an earlier one
record Follows (a b : Pair) (s u : ℕ) : Type 0 where
  pub time : b.q -ℤ a.q ≡ pos s
  pub room : b.c ≡ a.c + u
  pub apart : 0 < u

follows : (a b : Pair) → IsBelow a b → (s : ℕ) × (u : ℕ) × Follows a b s u
follows a b below =
    let (s, time) = gap a.q b.q below.time in
    (s, b.c - a.c, record { time = time; room = omega (arith, below.room); apart = omega (arith, below.room) })

room_of : (a b : Pair) (s u : ℕ) → Follows a b s u → b.c - a.c ≡ u
room_of a b s u f = omega (arith, f.room)

-- of two pairs that rise the first is worth less just where the further load of the second loses less than its further
-- time
pub loses : (r : ℕ) (a b : Pair) (lost : ℤ) → IsBelow a b → lost ≡ pos (r * (b.c - a.c))
    → MatchBool (int_lt lost (b.q -ℤ a.q)) (value r a <ℤ value r b) (value r b ≤ℤ value r a)
loses r a b lost below lost_is =
    let (s, u, f) = follows a b below in
    let is : lost ≡ pos (r * u) = lost_is ∙ ap (λ k. pos (r * k)) (room_of a b s u f) in
    let more : r * b.c ≡ r * (a.c + u) = ap (λ k. r * k) f.room in
    elim (cases_Bool (int_lt lost (b.q -ℤ a.q))) [
      | inl t ↦ rw t (omega (arith, ints, t, is, f.time, more))
      | inr e ↦ rw e (omega (arith, ints, e, is, f.time, more))
    ]

bends_as : (a b c : Pair) (s t u w : ℕ) → Follows a b s u → Follows b c t w → Bends a b c → t * u < s * w
bends_as a b c s t u w f g bends =
    let moved : (pos t *ℤ pos u) <ℤ (pos s *ℤ pos w) = rw (f.time, g.time, room_of a b s u f, room_of b c t w g) at bends in
    omega (arith, ints, moved)

sags_as : (a b c : Pair) (s t u w : ℕ) → Follows a b s u → Follows b c t w → Sags a b c → s * w ≤ t * u
sags_as a b c s t u w f g sags =
    let moved : (pos s *ℤ pos w) ≤ℤ (pos t *ℤ pos u) = rw (f.time, g.time, room_of a b s u f, room_of b c t w g) at sags in
    omega (arith, ints, moved)

as_sags : (a b c : Pair) (s t u w : ℕ) → Follows a b s u → Follows b c t w → s * w ≤ t * u → Sags a b c
as_sags a b c s t u w f g le =
    let moved : (pos s *ℤ pos w) ≤ℤ (pos t *ℤ pos u) = omega (arith, ints, le) in
    rw (f.time, g.time, room_of a b s u f, room_of b c t w g) moved

-- of two pairs that follow one another
chained : (a b c : Pair) (s t u w : ℕ) → Follows a b s u → Follows b c t w → Follows a c (s + t) (u + w)
chained a b c s t u w f g = record {
  time = omega (arith, ints, f.time, g.time);
  room = omega (arith, f.room, g.room);
  apart = omega (arith, f.apart);
}

-- the next pair is worth more exactly where its time grows by more than the resistor takes
worth_less : (r : ℕ) (a b : Pair) (s u : ℕ) → Follows a b s u → value r b ≤ℤ value r a → s ≤ r * u
worth_less r a b s u f less = omega (arith, ints, f.time, less, ap (λ k. r * k) f.room)

less_worth : (r : ℕ) (a b : Pair) (s u : ℕ) → Follows a b s u → s ≤ r * u → value r b ≤ℤ value r a
less_worth r a b s u f less = omega (arith, ints, f.time, less, ap (λ k. r * k) f.room)

below_worth : (r : ℕ) (a b : Pair) (s u : ℕ) → Follows a b s u → s < r * u → value r b <ℤ value r a
below_worth r a b s u f less = omega (arith, ints, f.time, less, ap (λ k. r * k) f.room)

more_worth : (r : ℕ) (a b : Pair) (s u : ℕ) → Follows a b s u → r * u ≤ s → value r a ≤ℤ value r b
more_worth r a b s u f more = omega (arith, ints, f.time, more, ap (λ k. r * k) f.room)

-- THE LAWS OF THREE PAIRS

-- where the middle bends and is worth no more than the first, the last is worth less than the middle
pub value_falls : (r : ℕ) (a b c : Pair) → IsBelow a b → IsBelow b c → Bends a b c → value r b ≤ℤ value r a → value r c <ℤ value r b
value_falls r a b c a_b b_c bends low =
    let (s, u, f) = follows a b a_b in
    let (t, w, g) = follows b c b_c in
    below_worth r b c t w g (falls r s t u w (bends_as a b c s t u w f g bends) (worth_less r a b s u f low))

-- a middle that does not bend is worth no more than one of the others
pub value_sags : (r : ℕ) (a b c : Pair) → IsBelow a b → IsBelow b c → Sags a b c → (value r b ≤ℤ value r a) ⊎ (value r b ≤ℤ value r c)
value_sags r a b c a_b b_c sags =
    let (s, u, f) = follows a b a_b in
    let (t, w, g) = follows b c b_c in
    elim (cases_lt (r * u) s) [
      | inl high ↦ inr (more_worth r b c t w g (climbs r s t u w f.apart (sags_as a b c s t u w f g sags) high))
      | inr low ↦ inl (less_worth r a b s u f low)
    ]

-- b on or below the line from a to c: what is on or below the line from a to b, or from b to c, is so for a to c
pub sags_first : (a x b c : Pair) → IsBelow a x → IsBelow x b → IsBelow b c → Sags a x b → Sags a b c → Sags a x c
sags_first a x b c a_x x_b b_c inner outer =
    let (p, u, f) = follows a x a_x in
    let (s, w, g) = follows x b x_b in
    let (t, z, h) = follows b c b_c in
    as_sags a x c p (s + t) u (w + z) f (chained x b c s t w z g h)
    (first_part p s t u w z f.apart (sags_as a x b p s u w f g inner)
    (sags_as a b c (p + s) t (u + w) z (chained a x b p s u w f g) h outer))

pub sags_later : (a b x c : Pair) → IsBelow a b → IsBelow b x → IsBelow x c → Sags b x c → Sags a b c → Sags a x c
sags_later a b x c a_b b_x x_c inner outer =
    let (g, e, f) = follows a b a_b in
    let (p, u, h) = follows b x b_x in
    let (s, w, k) = follows x c x_c in
    as_sags a x c (g + p) s (e + u) w (chained a b x g p e u f h) k
    (later_part g e p s u w h.apart (sags_as b x c p s u w h k inner)
    (sags_as a b c g (p + s) e (u + w) f (chained b x c p s u w h k) outer))

-- with more resistance the smaller load does not fall back
pub value_turns : (r r' : ℕ) (a b : Pair) → IsBelow a b → r ≤ r' → value r b ≤ℤ value r a → value r' b ≤ℤ value r' a
value_turns r r' a b a_b more low =
    let (s, u, f) = follows a b a_b in
    less_worth r' a b s u f (omega (arith, worth_less r a b s u f low, mul-le-mul_left u more))
