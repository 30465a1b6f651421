-- A net has one first refusal.
use Rattle.std.proofs.Common.{◌≡◌, ℕ, ◌+◌, ◌<◌, List, arith, inl, inr, refl, sym, ap, ◌∙◌, subst, Some}
use Rattle.std.proofs.lemmas.Bool.{cases_lt}
use Rattle.rc_tree.specs.Chains.{AreJoined}
use Rattle.spef_file.specs.Files.{File}
use Rattle.spef_file.specs.Nets.{NetHead}
use Rattle.spef_net.proofs.OneNetLemmas.{one_fault}
use Rattle.spef_net.specs.Sections.{statements_in, IsFaultOf}
use Rattle.spef_net.specs.declared.fault.NetKind.{NetKind}
use Rattle.spef_net.specs.declared.net.ParNet.{ParNet}
use Rattle.spef_nodes.specs.Nodes.{ParNode}
use Rattle.vg_scan.specs.declared.fault.LineFault.{LineFault}
use Rattle.vg_scan.specs.declared.name.NodeName.{NodeName}
use Rattle.spef_wire.proofs.AnswerLemmas.{fault_not_missing, files, heads_are, nets_are, not_faulty, not_missing}
use Rattle.spef_wire.proofs.PassLemmas.{root_once}
use Rattle.spef_wire.specs.Laws.{OneRefusal}
use Rattle.spef_wire.specs.Nets.{IsFaultNamed, IsMissing, IsNetRefused, IsRefusalOf}
use Rattle.spef_wire.specs.Refusals.{number_of, IsFirstFloating, IsFirstRefusal, IsNamed, Refuses}
use Rattle.spef_wire.specs.declared.refusal.Refusal.{Refusal}
use Rattle.spef_wire.specs.declared.refusal.Refusal.TheVariants.{UnknownNet, Section as Faulty, Reduced, Inductive, Bidirectional, NoDriver, ManyDrivers, Mismatch, Tied, NoDrive, NoLoad, Floating, Loop, NoSink, Unconstrained, TooLarge}

-- the lines of a net have one first fault
pub faults_are : (text name : List ℕ) (a b : LineFault NetKind) → IsFaultNamed text name a → IsFaultNamed text name b → a ≡ b
faults_are text name a b p q =
    let heads = heads_are text name p.file q.file p.head q.head p.head_of q.head_of in
    let in_file : IsFaultOf text q.file p.head a = subst (λ (f : File). IsFaultOf text f p.head a) (files text name p.file q.file p.head q.head p.head_of q.head_of) p.first in
    let mine : IsFaultOf text q.file q.head a = subst (λ (h : NetHead). IsFaultOf text q.file h a) heads in_file in
    one_fault q.head.name (statements_in text q.file q.head) (q.head.line + 1) a b mine q.first

some_node : (a b : ParNode) → Some a ≡ Some b → a ≡ b
some_node a b e = cc

named_once : (net : ParNet) (v : ℕ) (a b : NodeName) → IsNamed net v a → IsNamed net v b → a ≡ b
named_once net v a b p q = p.name_is ∙ ap (λ (n : ParNode). n.name) (some_node p.node q.node (sym p.at ∙ q.at)) ∙ sym q.name_is

-- of two nodes that float the first comes not before the other
not_before : (net : ParNet) (a b : NodeName) (p : IsFirstFloating net a) (q : IsFirstFloating net b) → p.v < q.v → ⊥
not_before net a b p q less =
    p.floating.floats (subst (λ (r : ℕ). AreJoined net.ress r p.v) (root_once net q.root p.root q.driven p.driven) (q.floating.before p.v less))

pub floating_once : (net : ParNet) (a b : NodeName) → IsFirstFloating net a → IsFirstFloating net b → a ≡ b
floating_once net a b p q =
    elim (cases_lt p.v q.v) [
      | inl less ↦ absurd (not_before net a b p q less)
      | inr more ↦ elim (cases_lt q.v p.v) [
        | inl less ↦ absurd (not_before net b a q p less)
        | inr same ↦ (let v : p.v ≡ q.v = omega (arith, more, same) in named_once net q.v a b (subst (λ n. IsNamed net n a) v p.named) q.named)
      ]
    ]

-- refusals of one number that hold of a net are one
same_held : (net : ParNet) (a b : Refusal) → number_of a ≡ number_of b → Refuses net a → Refuses net b → a ≡ b
same_held net (Floating a) (Floating b) is p q = ap Floating (floating_once net a b p q)
same_held net Reduced Reduced is p q = refl
same_held net Inductive Inductive is p q = refl
same_held net Bidirectional Bidirectional is p q = refl
same_held net NoDriver NoDriver is p q = refl
same_held net ManyDrivers ManyDrivers is p q = refl
same_held net Loop Loop is p q = refl
same_held net NoSink NoSink is p q = refl
same_held net TooLarge TooLarge is p q = refl
same_held net UnknownNet b is p q = absurd p
same_held net (Faulty fault) b is p q = absurd p
same_held net Mismatch b is p q = absurd p
same_held net Tied b is p q = absurd p
same_held net NoDrive b is p q = absurd p
same_held net (NoLoad node) b is p q = absurd p
same_held net (Unconstrained node) b is p q = absurd p
same_held net a b is p q = absurd (omega (arith, is))

first_once : (net : ParNet) (a b : Refusal) → IsFirstRefusal net a → IsFirstRefusal net b → a ≡ b
first_once net a b p q =
    elim (cases_lt (number_of a) (number_of b)) [
      | inl less ↦ absurd (q.first a less p.holds)
      | inr more ↦ elim (cases_lt (number_of b) (number_of a)) [
        | inl less ↦ absurd (p.first b less q.holds)
        | inr same ↦ same_held net a b (omega (arith, more, same)) p.holds q.holds
      ]
    ]

net_refused_once : (text name : List ℕ) (a b : Refusal) → IsNetRefused text name a → IsNetRefused text name b → a ≡ b
net_refused_once text name a b p q =
    first_once q.net a b (subst (λ (n : ParNet). IsFirstRefusal n a) (nets_are text name p.net q.net p.named q.named) p.refused) q.refused

-- why a net is refused: it is missing, its lines have a fault, or else
data Reason (text name : List ℕ) : Refusal → Type 0 where
  missing : IsMissing text name → Reason text name UnknownNet
  faulty : {fault : LineFault NetKind} → IsFaultNamed text name fault → Reason text name (Faulty fault)
  refused : {r : Refusal} → IsNetRefused text name r → Reason text name r

reason : (text name : List ℕ) (r : Refusal) → IsRefusalOf text name r → Reason text name r
reason text name UnknownNet h = missing h
reason text name (Faulty fault) h = faulty h
reason text name Mismatch h = absurd h
reason text name Tied h = absurd h
reason text name NoDrive h = absurd h
reason text name (NoLoad node) h = absurd h
reason text name (Unconstrained node) h = absurd h
reason text name r h = refused h

one_reason : (text name : List ℕ) {a b : Refusal} → Reason text name a → Reason text name b → a ≡ b
one_reason text name (missing m) (missing n) = refl
one_reason text name (missing m) (faulty {fault} g) = absurd (fault_not_missing text name fault g m)
one_reason text name (missing m) (refused r) = absurd (not_missing text name r.net r.named m)
one_reason text name (faulty {fault} f) (missing n) = absurd (fault_not_missing text name fault f n)
one_reason text name (faulty {fault} f) (faulty {fault = other} g) = ap Faulty (faults_are text name fault other f g)
one_reason text name (faulty {fault} f) (refused r) = absurd (not_faulty text name r.net fault r.named f)
one_reason text name (refused r) (missing n) = absurd (not_missing text name r.net r.named n)
one_reason text name (refused r) (faulty {fault} g) = absurd (not_faulty text name r.net fault r.named g)
one_reason text name (refused {r = a} r) (refused {r = b} s) = net_refused_once text name a b r s

pub one_refusal : OneRefusal
one_refusal text name a b p q = one_reason text name (reason text name a p) (reason text name b q)
