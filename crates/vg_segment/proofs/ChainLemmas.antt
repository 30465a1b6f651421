-- The chains of resistors.
use Rattle.std.proofs.Common.{◌≡◌, ℕ, suc, ◌+◌, ◌-◌, ◌*◌, ◌/◌, ◌%◌, ◌<◌, ◌≤◌, ◌==◌, Bool, true, false, cond, ltb, List, [], ◌∷◌, ◌++◌, length, get_or, take, map, refl, sym, ap, ◌∙◌, subst, arith, append_assoc}
use Rattle.std.specs.List.{All, range_with_len}
use Rattle.std.proofs.Math.Nat.{mul-le-mul_right}
use Rattle.std.proofs.lemmas.Bool.Decides.{nat_tests}
use Rattle.std.proofs.lemmas.List.{append-nil, take_more, length-take-le}
use Rattle.std.proofs.lemmas.List.Elements.{All-nil, All-append, All-map, All-head, All-tail}
use Rattle.std.proofs.lemmas.List.FromFn.{map-range_with_len_more, get_or-range_with_len, length-range_with_len}
use Rattle.spef_net.specs.Nets.{IsResOf}
use Rattle.vg_segment.specs.Segments.{part_of, link, chain, chains}

-- part i of a resistor, with its nodes
abbrev pub piece : ℕ → ℕ → ℕ × ℕ × ℕ → ℕ → ℕ × ℕ × ℕ
piece parts first res i = (link parts first res i, link parts first res (i + 1), part_of parts res.2 i)

-- one part more
pub piece_more : (parts first : ℕ) (res : ℕ × ℕ × ℕ) (old cut new : List (ℕ × ℕ × ℕ)) (i : ℕ) (x : ℕ × ℕ × ℕ) → cut ≡ old ++ map (piece parts first res) (range_with_len 0 i) → new ≡ cut ++ x ∷ []
    → x ≡ piece parts first res i → new ≡ old ++ map (piece parts first res) (range_with_len 0 (i + 1))
piece_more parts first res old cut new i x e f g =
    f ∙ (λ j. e j ++ g j ∷ []) ∙ append_assoc old (map (piece parts first res) (range_with_len 0 i)) (piece parts first res i ∷ [])
    ∙ ap (λ ps. old ++ ps) (sym (map-range_with_len_more (piece parts first res) 0 i i (omega arith)))

-- ---- the chains of more resistors

chains-append : (parts first : ℕ) (xs ys : List (ℕ × ℕ × ℕ)) → chains parts first (xs ++ ys) ≡ chains parts first xs ++ chains parts (first + length xs * (parts - 1)) ys
chains-append parts first [] ys = ap (λ n. chains parts n ys) (let e : first ≡ first + 0 * (parts - 1) = omega arith in e)
chains-append parts first (x ∷ xs) ys =
    ap (λ cs. chain parts first x ++ cs) (chains-append parts (first + (parts - 1)) xs ys ∙ ap (λ n. chains parts (first + (parts - 1)) xs ++ chains parts n ys) (later (parts - 1)))
    ∙ sym (append_assoc (chain parts first x) (chains parts (first + (parts - 1)) xs) _)
  where
    later : (q : ℕ) → (first + q) + length xs * q ≡ first + suc (length xs) * q
    later q = omega arith

-- the resistor after the first i
pub chains_more : (parts first next i : ℕ) (ress cut new : List (ℕ × ℕ × ℕ)) (res : ℕ × ℕ × ℕ) → i < length ress → res ≡ get_or ress i res → next ≡ first + i * (parts - 1)
    → cut ≡ chains parts first (take i ress) → new ≡ cut ++ chain parts next res → new ≡ chains parts first (take (i + 1) ress)
chains_more parts first next i ress cut new res l is at e f =
    let more : take (i + 1) ress ≡ take i ress ++ res ∷ [] = take_more ress i res l ∙ ap (λ r. take i ress ++ r ∷ []) (sym is) in
    let count : length (take i ress) ≡ i = length-take-le i ress (omega arith) in
    f ∙ (λ j. e j ++ chain parts (at j) res) ∙ ap (λ n. chains parts first (take i ress) ++ chain parts (first + n * (parts - 1)) res) (sym count)
    ∙ ap (λ cs. chains parts first (take i ress) ++ cs) (sym (append-nil (chain parts (first + length (take i ress) * (parts - 1)) res)))
    ∙ sym (ap (chains parts first) more ∙ chains-append parts first (take i ress) (res ∷ []))

-- the new nodes before a resistor are not more than those of all
pub nodes_fit : (i n q : ℕ) → i ≤ n → i * q ≤ n * q
nodes_fit i n q l = mul-le-mul_right q l

-- ---- they are between nodes that there are, and have no more resistance

part_below : (parts r i : ℕ) → 0 < parts → part_of parts r i ≤ r
part_below parts r i some = by_test (ltb i (r % parts)) refl
  where
    whole : parts * (r / parts) + r % parts ≡ r
    whole = omega arith

    times : 1 * (r / parts) ≤ parts * (r / parts)
    times = mul-le-mul_right (r / parts) some

    by_test : (b : Bool) → ltb i (r % parts) ≡ b → r / parts + cond b 1 0 ≤ r
    by_test false e = omega (arith, whole, times)
    by_test true e = let l : i < r % parts = grind (arith, nat_tests) in omega (arith, whole, times, l)

link_below : (parts first m i : ℕ) (res : ℕ × ℕ × ℕ) → res.0 < m → res.1 < m → (0 < i → i < parts → first + (i - 1) < m) → i ≤ parts → link parts first res i < m
link_below parts first m i res a b c l = by_tests (i == 0) (i == parts) refl refl
  where
    by_tests : (x y : Bool) → (i == 0) ≡ x → (i == parts) ≡ y → cond x res.0 (cond y res.1 (first + (i - 1))) < m
    by_tests true y e f = a
    by_tests false true e f = b
    by_tests false false e f =
        let some : 0 < i = grind (arith, nat_tests) in
        let low : i < parts = grind (arith, nat_tests) in
        c some low

chain_fits : (parts first m : ℕ) (res : ℕ × ℕ × ℕ) → 0 < parts → first + (parts - 1) ≤ m → IsResOf m res → All (IsResOf m) (chain parts first res)
chain_fits parts first m res some room h =
    All-map (IsResOf m) (piece parts first res) (range_with_len 0 parts)
    (λ k d l.
    let low : k < parts = omega (arith, l, length-range_with_len 0 parts) in
    let e : get_or (range_with_len 0 parts) k d ≡ k = get_or-range_with_len 0 parts k d low ∙ (omega arith) in
    subst (λ i. IsResOf m (piece parts first res i)) (sym e) (
      link_below parts first m k res h.0 h.1 (λ s t. omega (arith, room, s, t)) (omega (arith, low)),
      link_below parts first m (k + 1) res h.0 h.1 (λ s t. omega (arith, room, s, t)) (omega (arith, low)),
      (let p = part_below parts res.2 k some in omega (arith, p, h.2)),
    ))

pub chains_fit : (parts first m : ℕ) (ress : List (ℕ × ℕ × ℕ)) → 0 < parts → first + length ress * (parts - 1) ≤ m → All (IsResOf m) ress → All (IsResOf m) (chains parts first ress)
chains_fit parts first m [] some room h = All-nil _
chains_fit parts first m (res ∷ ress) some room h =
    let fit : (first + (parts - 1)) + length ress * (parts - 1) ≤ m = later (parts - 1) room in
    All-append (IsResOf m) (chain parts first res) (chains parts (first + (parts - 1)) ress)
    (chain_fits parts first m res some (omega (arith, fit)) (All-head (IsResOf m) res ress h))
    (chains_fit parts (first + (parts - 1)) m ress some fit (All-tail (IsResOf m) res ress h))
  where
    later : (q : ℕ) → first + suc (length ress) * q ≤ m → (first + q) + length ress * q ≤ m
    later q l = omega (arith, l)
