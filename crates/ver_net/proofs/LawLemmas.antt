-- The pins on a net, as those with a link.
use Rattle.std.proofs.Common.{◌≡◌, ℕ, zero, suc, ◌+◌, ◌≤◌, Bool, true, false, cond, List, [], ◌∷◌, ◌++◌, Some, inl, inr, map, refl, sym, ap, ◌∙◌, arith, length, take, subst}
use Rattle.std.specs.Prelude.{◌==◌, ◌↔◌, slice_get, slice_index_or, filter, ⊤}
use Rattle.std.specs.List.{All, AllPairs, Contains}
use Rattle.std.proofs.lemmas.Bool.{eq-eqb, eqb-true}
use Rattle.std.proofs.lemmas.List.{take_all}
use Rattle.std.proofs.lemmas.List.Elements.{All-nil, All-cons, All-head, All-tail, All-append, All-filter, All-map, All-contains, All-weaker, filter_passes, Contains-append_right}
use Rattle.std.proofs.lemmas.Option.{slice_get_cases}
use Rattle.ver_module.specs.declared.link.Link.{Link}
use Rattle.ver_module.specs.declared.link.Link.TheVariants.{Open, One, Many}
use Rattle.ver_module.specs.Netlists.{Pin, Instance, Netlist}
use Rattle.ver_net.specs.declared.pin_ref.PinRef.{PinRef}
use Rattle.ver_net.specs.Connections.{Terminal, terminal_by, terminals_at, terminals_from, terminals_of, pins_among, pins_on}
use Rattle.ver_net.specs.Laws.{HasLink, IsBefore}
use Rattle.ver_net.proofs.PlaceLemmas.{among-append}
use Rattle.ver_net.proofs.TerminalLemmas.{pin_at, terminals_at_none, terminals_from_none, terminals_at_more, terminals_from_more, terminals_around}

-- ---- each terminal has its link

IsTerminal : Netlist → Terminal → Type 0
IsTerminal m e = HasLink m e.at (One e.net)

terminal_is : (m : Netlist) (i : ℕ) (x : Instance) (j : ℕ) (p : Pin) (link : Link) → slice_get m.instances i ≡ Some x → slice_get x.pins j ≡ Some p → p.link ≡ link
    → All (IsTerminal m) (terminal_by (pin_at i j) link)
unfolding IsTerminal
terminal_is m i x j p Open at_x at_p is = All-nil (IsTerminal m)
terminal_is m i x j p (One net) at_x at_p is =
    All-cons (IsTerminal m) (record { net = net; at = pin_at i j }) [] (record { instance = x; pin = p; is_instance = at_x; is_pin = at_p; has_link = is }) (All-nil (IsTerminal m))
terminal_is m i x j p (Many nets) at_x at_p is = All-nil (IsTerminal m)

are_terminals_at : (m : Netlist) (i : ℕ) (x : Instance) (j : ℕ) → slice_get m.instances i ≡ Some x → j ≤ length x.pins → All (IsTerminal m) (terminals_at i 0 (take j x.pins))
are_terminals_at m i x zero at_x within = subst (All (IsTerminal m)) (sym (terminals_at_none i 0)) (All-nil (IsTerminal m))
are_terminals_at m i x (suc j) at_x within =
    elim (slice_get_cases x.pins j).1 [
      | inl found ↦
          let (p, p_in, at_p, same) = found in
          let s : j + 1 ≡ suc j = omega arith in
          subst (λ k. All (IsTerminal m) (terminals_at i 0 (take k x.pins))) s
          (subst (All (IsTerminal m)) (sym (terminals_at_more i x.pins j p at_p))
          (All-append (IsTerminal m) (terminals_at i 0 (take j x.pins)) (terminal_by (pin_at i j) p.link) (are_terminals_at m i x j at_x (omega arith)) (terminal_is m i x j p p.link at_x at_p refl)))
      | inr none ↦ absurd (omega arith)
    ]

are_terminals_from : (m : Netlist) (i : ℕ) → i ≤ length m.instances → All (IsTerminal m) (terminals_from 0 (take i m.instances))
are_terminals_from m zero within = subst (All (IsTerminal m)) (sym (terminals_from_none 0)) (All-nil (IsTerminal m))
are_terminals_from m (suc i) within =
    elim (slice_get_cases m.instances i).1 [
      | inl found ↦
          let (x, x_in, at_x, same) = found in
          let s : i + 1 ≡ suc i = omega arith in
          subst (λ k. All (IsTerminal m) (terminals_from 0 (take k m.instances))) s
          (subst (All (IsTerminal m)) (sym (terminals_from_more m.instances i x at_x))
          (All-append (IsTerminal m) (terminals_from 0 (take i m.instances)) (terminals_at i 0 x.pins) (are_terminals_from m i (omega arith))
          (subst (λ ps. All (IsTerminal m) (terminals_at i 0 ps)) (take_all (length x.pins) x.pins (omega arith)) (are_terminals_at m i x (length x.pins) at_x (omega arith)))))
      | inr none ↦ absurd (omega arith)
    ]

are_terminals : (m : Netlist) → All (IsTerminal m) (terminals_of m)
are_terminals m = subst (λ xs. All (IsTerminal m) (terminals_from 0 xs)) (take_all (length m.instances) m.instances (omega arith)) (are_terminals_from m (length m.instances) (omega arith))

-- ---- the pins on a net

are_linked : (m : Netlist) (net : ℕ) → All (λ (at : PinRef). HasLink m at (One net)) (pins_on m net)
unfolding IsTerminal
are_linked m net =
    All-map (λ (at : PinRef). HasLink m at (One net)) (λ (e : Terminal). e.at) (filter (λ (e : Terminal). e.net == net) (terminals_of m))
    (λ k d h.
    subst (λ n. HasLink m (slice_index_or (filter (λ (e : Terminal). e.net == net) (terminals_of m)) k d).at (One n))
    (eqb-true (slice_index_or (filter (λ (e : Terminal). e.net == net) (terminals_of m)) k d).net net (filter_passes (λ (e : Terminal). e.net == net) (terminals_of m) k d h))
    (All-filter (λ (e : Terminal). e.net == net) (IsTerminal m) (terminals_of m) (are_terminals m) k d h))

linked : (m : Netlist) (net : ℕ) (at : PinRef) → Contains (pins_on m net) at → HasLink m at (One net)
linked m net at found = All-contains (λ (a : PinRef). HasLink m a (One net)) (pins_on m net) at (are_linked m net) found

among_around : (before after : List Terminal) (net : ℕ) (at : PinRef)
    → pins_among (before ++ record { net = net; at = at } ∷ after) net ≡ pins_among before net ++ at ∷ pins_among after net
among_around before after net at =
    among-append before (record { net = net; at = at } ∷ after) net
    ∙ ap (λ b. pins_among before net ++ map (λ (e : Terminal). e.at) (cond b (record { net = net; at = at } ∷ filter (λ (e : Terminal). e.net == net) after) (filter (λ (e : Terminal). e.net == net) after)))
    (eq-eqb net net refl)

contained : (m : Netlist) (net : ℕ) (at : PinRef) → HasLink m at (One net) → Contains (pins_on m net) at
contained m net at link =
    subst (λ (ps : List PinRef). Contains ps at)
    (sym (ap (λ es. pins_among es net) (terminals_around m.instances at.instance link.instance at.pin link.pin net link.is_instance link.is_pin link.has_link)
    ∙ among_around (terminals_from 0 (take at.instance m.instances) ++ terminals_at at.instance 0 (take at.pin link.instance.pins)) _ net at))
    (Contains-append_right _ (at ∷ _) at (0, omega arith, refl))

pub pins_are_linked : (m : Netlist) (net : ℕ) (at : PinRef) → Contains (pins_on m net) at ↔ HasLink m at (One net)
pins_are_linked m net at = (linked m net at, contained m net at)

-- ---- the order

Rises : {X : Type 0} → (X → X → Type 0) → List X → Type 0
Rises R [] = ⊤
Rises R (x ∷ xs) = All (R x) xs × Rises R xs

pairs_from : {X : Type 0} (R : X → X → Type 0) (xs : List X) → Rises R xs → AllPairs R xs
unfolding Rises
pairs_from R [] h i j d lt within = absurd (omega arith)
pairs_from R (x ∷ xs) h zero zero d lt within = absurd (omega arith)
pairs_from R (x ∷ xs) h zero (suc j) d lt within = h.0 j d (omega arith)
pairs_from R (x ∷ xs) h (suc i) zero d lt within = absurd (omega arith)
pairs_from R (x ∷ xs) h (suc i) (suc j) d lt within = pairs_from R xs h.1 i j d (omega arith) (omega arith)

rises_append : {X : Type 0} (R : X → X → Type 0) (xs ys : List X) → Rises R xs → Rises R ys → All (λ x. All (R x) ys) xs → Rises R (xs ++ ys)
unfolding Rises
rises_append R [] ys h k cross = k
rises_append R (x ∷ xs) ys h k cross = (
  All-append (R x) xs ys h.0 (All-head (λ y. All (R y) ys) x xs cross),
  rises_append R xs ys h.1 k (All-tail (λ y. All (R y) ys) x xs cross),
)

rises_filter : {X : Type 0} (R : X → X → Type 0) (p : X → Bool) (xs : List X) → Rises R xs → Rises R (filter p xs)
unfolding Rises
rises_filter R p [] h = h
rises_filter R p (x ∷ xs) h = go (p x) (rises_filter R p xs h.1)
  where
    go : (b : Bool) → Rises R (filter p xs) → Rises R (cond b (x ∷ filter p xs) (filter p xs))
    go true rest = (All-filter p (R x) xs h.0, rest)
    go false rest = rest

Before : Terminal → Terminal → Type 0
Before e f = IsBefore e.at f.at

rises_map : (xs : List Terminal) → Rises Before xs → Rises IsBefore (map (λ (e : Terminal). e.at) xs)
unfolding Rises Before
rises_map [] h = h
rises_map (x ∷ xs) h = (All-map (IsBefore x.at) (λ (e : Terminal). e.at) xs h.0, rises_map xs h.1)

at_least : (i j : ℕ) (ps : List Pin) → All (λ (e : Terminal). (e.at.instance ≡ i) × (j ≤ e.at.pin)) (terminals_at i j ps)
unfolding terminals_at
at_least i j [] = All-nil (λ (e : Terminal). (e.at.instance ≡ i) × (j ≤ e.at.pin))
at_least i j (p ∷ ps) =
    All-append (λ (e : Terminal). (e.at.instance ≡ i) × (j ≤ e.at.pin)) (terminal_by (pin_at i j) p.link) (terminals_at i (j + 1) ps)
    (here p.link)
    (All-weaker (λ (e : Terminal). (e.at.instance ≡ i) × (j + 1 ≤ e.at.pin)) (λ (e : Terminal). (e.at.instance ≡ i) × (j ≤ e.at.pin)) (λ e h. (h.0, omega (arith, h.1))) (terminals_at i (j + 1) ps) (at_least i (j + 1) ps))
  where
    here : (link : Link) → All (λ (e : Terminal). (e.at.instance ≡ i) × (j ≤ e.at.pin)) (terminal_by (pin_at i j) link)
    here Open = All-nil (λ (e : Terminal). (e.at.instance ≡ i) × (j ≤ e.at.pin))
    here (One net) = All-cons (λ (e : Terminal). (e.at.instance ≡ i) × (j ≤ e.at.pin)) (record { net = net; at = pin_at i j }) [] (refl, omega arith) (All-nil (λ (e : Terminal). (e.at.instance ≡ i) × (j ≤ e.at.pin)))
    here (Many nets) = All-nil (λ (e : Terminal). (e.at.instance ≡ i) × (j ≤ e.at.pin))

from_least : (i : ℕ) (xs : List Instance) → All (λ (e : Terminal). i ≤ e.at.instance) (terminals_from i xs)
unfolding terminals_from
from_least i [] = All-nil (λ (e : Terminal). i ≤ e.at.instance)
from_least i (x ∷ xs) =
    All-append (λ (e : Terminal). i ≤ e.at.instance) (terminals_at i 0 x.pins) (terminals_from (i + 1) xs)
    (All-weaker (λ (e : Terminal). (e.at.instance ≡ i) × (0 ≤ e.at.pin)) (λ (e : Terminal). i ≤ e.at.instance) (λ e h. omega (arith, h.0)) (terminals_at i 0 x.pins) (at_least i 0 x.pins))
    (All-weaker (λ (e : Terminal). i + 1 ≤ e.at.instance) (λ (e : Terminal). i ≤ e.at.instance) (λ e h. omega (arith, h)) (terminals_from (i + 1) xs) (from_least (i + 1) xs))

rises_at : (i j : ℕ) (ps : List Pin) → Rises Before (terminals_at i j ps)
unfolding terminals_at Rises Before
rises_at i j [] = tt
rises_at i j (p ∷ ps) = rises_append Before (terminal_by (pin_at i j) p.link) (terminals_at i (j + 1) ps) (one p.link) (rises_at i (j + 1) ps) (cross p.link)
  where
    one : (link : Link) → Rises Before (terminal_by (pin_at i j) link)
    one Open = tt
    one (One net) = (All-nil (Before (record { net = net; at = pin_at i j })), tt)
    one (Many nets) = tt

    cross : (link : Link) → All (λ e. All (Before e) (terminals_at i (j + 1) ps)) (terminal_by (pin_at i j) link)
    cross Open = All-nil (λ e. All (Before e) (terminals_at i (j + 1) ps))
    cross (One net) =
        All-cons (λ e. All (Before e) (terminals_at i (j + 1) ps)) (record { net = net; at = pin_at i j }) []
        (All-weaker (λ (e : Terminal). (e.at.instance ≡ i) × (j + 1 ≤ e.at.pin)) (Before (record { net = net; at = pin_at i j })) (λ e h. inr (sym h.0, omega (arith, h.1))) (terminals_at i (j + 1) ps) (at_least i (j + 1) ps))
        (All-nil (λ e. All (Before e) (terminals_at i (j + 1) ps)))
    cross (Many nets) = All-nil (λ e. All (Before e) (terminals_at i (j + 1) ps))

rises_from : (i : ℕ) (xs : List Instance) → Rises Before (terminals_from i xs)
unfolding terminals_from Rises Before
rises_from i [] = tt
rises_from i (x ∷ xs) = rises_append Before (terminals_at i 0 x.pins) (terminals_from (i + 1) xs) (rises_at i 0 x.pins) (rises_from (i + 1) xs) cross
  where
    cross : All (λ e. All (Before e) (terminals_from (i + 1) xs)) (terminals_at i 0 x.pins)
    cross =
        All-weaker (λ (e : Terminal). (e.at.instance ≡ i) × (0 ≤ e.at.pin)) (λ e. All (Before e) (terminals_from (i + 1) xs))
        (λ e h.
        All-weaker (λ (f : Terminal). i + 1 ≤ f.at.instance) (Before e) (λ f k. inl (let q = h.0 in omega (arith, q, k))) (terminals_from (i + 1) xs) (from_least (i + 1) xs))
        (terminals_at i 0 x.pins) (at_least i 0 x.pins)

pub pins_rise : (m : Netlist) (net : ℕ) → AllPairs IsBefore (pins_on m net)
pins_rise m net =
    pairs_from IsBefore (pins_on m net)
    (rises_map (filter (λ (e : Terminal). e.net == net) (terminals_of m)) (rises_filter Before (λ (e : Terminal). e.net == net) (terminals_of m) (rises_from 0 m.instances)))
