-- The refusals of a net, for its name.
use Rattle.std.proofs.Common.{◌≡◌, ◌≢◌, ℕ, ◌<◌, ◌≤◌, List, arith, inl, inr, sym, ◌∙◌, subst, Some, None}
use Rattle.std.proofs.lemmas.Bool.{cases_lt}
use Rattle.spef_net.specs.declared.fault.NetKind.{NetKind}
use Rattle.vg_scan.specs.declared.fault.LineFault.{LineFault}
use Rattle.spef_wire.proofs.AnswerLemmas.{nets_are, not_missing, fault_not_missing, not_faulty}
use Rattle.spef_wire.specs.Nets.{IsFaultNamed, IsRefusedBelow as IsWireRefusedBelow}
use Rattle.spef_wire.specs.Refusals.{number_of}
use Rattle.spef_wire.specs.declared.refusal.Refusal.{Refusal}
use Rattle.spef_wire.specs.declared.refusal.Refusal.TheVariants.{UnknownNet, Section, TooLarge}
use Rattle.spef_wire.specs.declared.refusal.Refused.{Refused}
use Rattle.spef_wire.specs.declared.refusal.Refused.TheVariants.{Net, Memory}
use Rattle.vg_design.specs.Designs.{Design, Joined, net_number}
use Rattle.vg_design.specs.Nets.{IsRefused, IsBareRefused}
use Rattle.vg_design.specs.Refusals.{Holds, HasNet, IsJoined, Refuses, PassesUpTo, PassesBareUpTo, IsFirstRefusal, IsFirstBareRefusal}
use Rattle.vg_design.specs.Steps.{IsFirstHeld, IsHeldBelow, IsRefusedBelow, PassesNet}

some_number : (a b : ℕ) → Some a ≡ Some b → a ≡ b
some_number a b e = cc

-- a name has one net
pub joined_once : (d : Design) (name : List ℕ) (a b : Joined) → IsJoined d name a → IsJoined d name b → a ≡ b
joined_once d name a b p q =
    let pars = nets_are d.spef name a.par b.par p.named q.named in
    let ids = some_number a.id b.id (sym p.number ∙ q.number) in
    λ i. record { par = pars i; id = ids i }

module _ (d : Design) (name : List ℕ) (net : Joined) (joined : IsJoined d name net) where
  here : (r : Refusal) → HasNet d name r → Holds d net r
  here r h = subst (λ (n : Joined). Holds d n r) (joined_once d name h.net net h.joined joined) h.holds

  there : (r : Refusal) → Holds d net r → HasNet d name r
  there r h = record { net = net; joined = joined; holds = h }

  pub passes_for : (n : ℕ) → PassesNet n d net → PassesUpTo n d name
  passes_for n passes UnknownNet low h = elim h [
    | inl missing ↦ not_missing d.spef name net.par joined.named missing
    | inr none ↦ (let e : None ≡ Some net.id = sym none ∙ joined.number in cc)
  ]
  passes_for n passes (Section fault) low h = not_faulty d.spef name net.par fault joined.named h
  passes_for n passes r low h = passes r low (here r h)

  refuses_for : (r : Refusal) → Holds d net r → Refuses d name r
  refuses_for UnknownNet h = absurd h
  refuses_for (Section fault) h = absurd h
  refuses_for r h = there r h

  pub first_for : (r : Refusal) → IsFirstHeld d net r → IsFirstRefusal d name r
  first_for r first = record { holds = refuses_for r first.holds; first = passes_for (number_of r) first.first }

  pub refused_for : (n : ℕ) (refused : Refused) → IsHeldBelow n d net refused → IsRefusedBelow n d name refused
  refused_for n (Net r) h = (first_for r h.0, h.1)
  refused_for n Memory h = tt

some : (r : Refusal) → 0 < number_of r
some UnknownNet = omega arith
some r = omega arith

-- the net is missing
pub first_unknown : (d : Design) (name : List ℕ) → Refuses d name UnknownNet → IsFirstRefusal d name UnknownNet
first_unknown d name h = record { holds = h; first = λ r low. absurd (omega (arith, low, some r)) }

module _ (d : Design) (name : List ℕ) (id : ℕ) (number : net_number d.netlist name ≡ Some id) where
  passes_2 : (fault : LineFault NetKind) → IsFaultNamed d.spef name fault → PassesUpTo 2 d name
  passes_2 fault faulty UnknownNet low h = elim h [
    | inl missing ↦ fault_not_missing d.spef name fault faulty missing
    | inr none ↦ (let e : None ≡ Some id = sym none ∙ number in cc)
  ]
  passes_2 fault faulty r low h = absurd (omega (arith, low))

  -- why the parasitics have no net of the name
  pub unnamed : (refused : Refused) → IsWireRefusedBelow 3 d.spef name refused → IsRefusedBelow 3 d name refused
  unnamed (Net UnknownNet) h = (first_unknown d name (inl h.0), omega arith)
  unnamed (Net (Section fault)) h = (record { holds = h.0; first = passes_2 fault h.0 }, omega arith)
  unnamed (Net r) h = absurd (omega (arith, h.1))
  unnamed Memory h = tt

-- the refusal of the number 16
large : (d : Design) (name : List ℕ) (r : Refusal) → number_of r ≡ 16 → Refuses d name r → HasNet d name TooLarge
large d name TooLarge is h = h
large d name r is h = absurd (omega (arith, is))

-- what does not count without the constraints
pub bare_17 : (d : Design) (name : List ℕ) → PassesUpTo 15 d name → (HasNet d name TooLarge → ⊥) → PassesBareUpTo 17 d name
bare_17 d name passes never r low other h =
    elim (cases_lt (number_of r) 15) [
      | inl before ↦ passes r before h
      | inr late ↦ never (large d name r (not_15 (number_of r) late low other) h)
    ]
  where
    not_15 : (n : ℕ) → 15 ≤ n → n < 17 → n ≢ 15 → n ≡ 16
    not_15 n a b c = elim (cases_lt n 16) [
      | inl less ↦ absurd (c (omega (arith, a, less)))
      | inr more ↦ omega (arith, b, more)
    ]

pub bare_large : (d : Design) (name : List ℕ) → PassesUpTo 15 d name → HasNet d name TooLarge → IsFirstBareRefusal d name TooLarge
bare_large d name passes large = record {
  holds = large;
  counts = λ e. omega (arith, e);
  first = λ r low other h. passes r (not_15 (number_of r) low other) h;
}
  where
    not_15 : (n : ℕ) → n < 16 → n ≢ 15 → n < 15
    not_15 n a c = elim (cases_lt n 15) [
      | inl less ↦ less
      | inr more ↦ absurd (c (omega (arith, a, more)))
    ]

pub bare_below : (d : Design) (name : List ℕ) (refused : Refused) → IsRefusedBelow 15 d name refused → IsBareRefused d name refused
bare_below d name Memory h = tt
bare_below d name (Net r) h = record {
  holds = h.0.holds;
  counts = λ e. omega (arith, e, h.1);
  first = λ r low other. h.0.first r low;
}

pub below_refused : (n : ℕ) (d : Design) (name : List ℕ) (refused : Refused) → IsRefusedBelow n d name refused → IsRefused d name refused
below_refused n d name Memory h = tt
below_refused n d name (Net r) h = h.0

pub below_more : (n m : ℕ) (d : Design) (name : List ℕ) (refused : Refused) → n ≤ m → IsRefusedBelow n d name refused → IsRefusedBelow m d name refused
below_more n m d name Memory le h = tt
below_more n m d name (Net r) le h = (h.0, omega (arith, le, h.1))
