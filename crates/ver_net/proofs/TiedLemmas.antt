-- Which nets are tied.
use Rattle.std.proofs.Common.{◌≡◌, ℕ, zero, suc, Bool, true, false, List, [], ◌∷◌, Option, Some, None, inl, inr, refl, sym, ap, ◌∙◌, subst}
use Rattle.std.specs.Prelude.{◌==◌, ◌||◌, ◌↔◌, IsTrue, slice_get, unwrap_or, option_map}
use Rattle.std.specs.List.{Contains, flat_map, list_any}
use Rattle.std.proofs.lemmas.Bool.{eq-eqb, eqb-true, or_cases, or_left, or_right}
use Rattle.std.proofs.lemmas.List.Folds.{list_any-append, list_any_at, Any-from_list_any}
use Rattle.ver_module.specs.declared.link.Link.{Link}
use Rattle.ver_module.specs.declared.link.Link.TheVariants.{Open, One, Many}
use Rattle.ver_module.specs.Netlists.{Net, Pin, Instance, Netlist}
use Rattle.ver_net.specs.Connections.{has, is_supply, is_tied, shared_by, shared_at, shared_in}
use Rattle.ver_net.specs.Laws.{IsTied}
use Rattle.ver_net.specs.Laws.IsTied.{by_supply, by_assignment, by_link}
use Rattle.ver_net.proofs.TerminalLemmas.{pin_at}

-- ---- one of a list

pub contains_from : (nets : List ℕ) (net : ℕ) → has nets net ≡ true → Contains nets net
contains_from nets net h =
    let (k, x, within, at, same) = Any-from_list_any (λ n. n == net) nets h in
    subst (λ n. Contains nets n) (eqb-true x net same) (k, within, at)

pub has_from : (nets : List ℕ) (net : ℕ) → Contains nets net → has nets net ≡ true
has_from nets net found = list_any_at (λ n. n == net) nets found.0 net found.1 (ap (λ n. n == net) found.2 ∙ eq-eqb net net refl)

-- an element whose list has one that passes
record HasOne {X A : Type 0} (p : A → Bool) (f : X → List A) (xs : List X) : Type 0 where
  k : ℕ
  x : X
  at : slice_get xs k ≡ Some x
  one : list_any p (f x) ≡ true

one_from : {X A : Type 0} (p : A → Bool) (f : X → List A) (xs : List X) → list_any p (flat_map f xs) ≡ true → HasOne p f xs
one_from p f [] h = absurd (cc)
one_from p f (x ∷ xs) h =
    elim (or_cases (list_any p (f x)) (list_any p (flat_map f xs)) (sym (list_any-append p (f x) (flat_map f xs)) ∙ h)) [
      | inl here ↦ record { k = 0; x = x; at = refl; one = here }
      | inr later ↦ let found = one_from p f xs later in record { k = suc found.k; x = found.x; at = found.at; one = found.one }
    ]

any_from : {X A : Type 0} (p : A → Bool) (f : X → List A) (xs : List X) (k : ℕ) (x : X) → slice_get xs k ≡ Some x → list_any p (f x) ≡ true → list_any p (flat_map f xs) ≡ true
any_from p f [] k x at one = absurd (cc)
any_from p f (y ∷ ys) zero x at one =
    list_any-append p (f y) (flat_map f ys) ∙ or_left (list_any p (f y)) (list_any p (flat_map f ys)) (let e : y ≡ x = cc in ap (λ z. list_any p (f z)) e ∙ one)
any_from p f (y ∷ ys) (suc k) x at one =
    list_any-append p (f y) (flat_map f ys) ∙ or_right (list_any p (f y)) (list_any p (flat_map f ys)) (any_from p f ys k x at one)

-- ---- the three ways

supply_is : (o : Option Net) → unwrap_or (option_map (λ (n : Net). n.supply) o) false ≡ true → (n : Net) × (o ≡ Some n) × (n.supply ≡ true)
supply_is None h = absurd (cc)
supply_is (Some n) h = (n, refl, h)

link_is : (link : Link) (net : ℕ) → has (shared_by link) net ≡ true → (nets : List ℕ) × (link ≡ Many nets) × Contains nets net
link_is Open net h = absurd (cc)
link_is (One n) net h = absurd (cc)
link_is (Many nets) net h = (nets, refl, contains_from nets net h)

from_supply : (m : Netlist) (net : ℕ) → is_supply m.nets net ≡ true → IsTied m net
from_supply m net h = let (n, at, supply) = supply_is (slice_get m.nets net) h in by_supply n at supply

from_link : (m : Netlist) (net : ℕ) → has (shared_in m.instances) net ≡ true → IsTied m net
from_link m net h =
    let i = one_from (λ n. n == net) (λ (x : Instance). shared_at x.pins) m.instances h in
    let p = one_from (λ n. n == net) (λ (q : Pin). shared_by q.link) i.x.pins i.one in
    let (nets, is, found) = link_is p.x.link net p.one in
    by_link (pin_at i.k p.k) nets (record { instance = i.x; pin = p.x; is_instance = i.at; is_pin = p.at; has_link = is }) found

tied_from : (m : Netlist) (net : ℕ) → is_tied m net ≡ true → IsTied m net
tied_from m net h =
    elim (or_cases (is_supply m.nets net) (has m.assigned net || has (shared_in m.instances) net) h) [
      | inl supply ↦ from_supply m net supply
      | inr other ↦ elim (or_cases (has m.assigned net) (has (shared_in m.instances) net) other) [
        | inl assigned ↦ by_assignment (contains_from m.assigned net assigned)
        | inr shared ↦ from_link m net shared
      ]
    ]

is_tied_from : (m : Netlist) (net : ℕ) → IsTied m net → is_tied m net ≡ true
is_tied_from m net (by_supply n at supply) =
    or_left (is_supply m.nets net) (has m.assigned net || has (shared_in m.instances) net)
    (ap (λ o. unwrap_or (option_map (λ (x : Net). x.supply) o) false) at ∙ supply)
is_tied_from m net (by_assignment found) =
    or_right (is_supply m.nets net) (has m.assigned net || has (shared_in m.instances) net)
    (or_left (has m.assigned net) (has (shared_in m.instances) net) (has_from m.assigned net found))
is_tied_from m net (by_link at nets link found) =
    or_right (is_supply m.nets net) (has m.assigned net || has (shared_in m.instances) net)
    (or_right (has m.assigned net) (has (shared_in m.instances) net)
    (any_from (λ n. n == net) (λ (x : Instance). shared_at x.pins) m.instances at.instance link.instance link.is_instance
    (any_from (λ n. n == net) (λ (q : Pin). shared_by q.link) link.instance.pins at.pin link.pin link.is_pin
    (ap (λ l. has (shared_by l) net) link.has_link ∙ has_from nets net found))))

pub tied_nets_are_shared : (m : Netlist) (net : ℕ) → IsTrue (is_tied m net) ↔ IsTied m net
tied_nets_are_shared m net = (tied_from m net, is_tied_from m net)
