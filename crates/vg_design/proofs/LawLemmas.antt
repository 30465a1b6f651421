-- A net has one problem, or one refusal.
use Rattle.std.proofs.Common.{◌≡◌, ℕ, ◌<◌, List, Bool, arith, inl, inr, refl, sym, ap, ◌∙◌, subst, Some}
use Rattle.std.proofs.lemmas.Bool.{cases_lt}
use Rattle.elmore.specs.declared.tree.Node.{Node}
use Rattle.spef_net.specs.declared.net.ParConn.{ParConn}
use Rattle.spef_net.specs.declared.net.ParNet.{ParNet}
use Rattle.vg_scan.specs.declared.name.NodeName.{NodeName}
use Rattle.spef_wire.proofs.AnswerLemmas.{trees_are}
use Rattle.spef_wire.proofs.OneRefusalLemmas.{faults_are, floating_once}
use Rattle.spef_wire.specs.Refusals.{number_of, IsNetTree}
use Rattle.spef_wire.specs.declared.refusal.Refusal.{Refusal}
use Rattle.spef_wire.specs.declared.refusal.Refusal.TheVariants.{UnknownNet, Section, Reduced, Inductive, Bidirectional, NoDriver, ManyDrivers, Mismatch, Tied, NoDrive, NoLoad, Floating, Loop, NoSink, Unconstrained, TooLarge}
use Rattle.vg_design.specs.Designs.{Design, Joined, name_of}
use Rattle.vg_design.specs.Laws.{AreSame, BareAccepts, BareOrRefused, OneBareNet, OneProblem, OneRefusal, ProblemOrRefused}
use Rattle.vg_design.specs.Nets.{names_of, sink_nodes}
use Rattle.vg_design.specs.Parts.{driver_of, loaded_tree, IsProblemOf}
use Rattle.vg_design.specs.Refusals.{HasNet, Holds, IsFirstConn, Refuses, is_unconstrained, is_unloaded}
use Rattle.vg_design.specs.declared.net_problem.NetProblem.{NetProblem}
use Rattle.vg_design.proofs.NameLemmas.{joined_once}

pub few_refusals : (r : Refusal) → number_of r < 17
few_refusals UnknownNet = omega arith
few_refusals r = omega arith

some_conn : (a b : ParConn) → Some a ≡ Some b → a ≡ b
some_conn a b e = cc

conn_once : (net : ParNet) (kind : ParConn → Bool) (a b : NodeName) → IsFirstConn net kind a → IsFirstConn net kind b → a ≡ b
conn_once net kind a b p q =
    p.name_is ∙ ap (λ (c : ParConn). name_of net c.node) (some_conn p.conn q.conn (sym p.first ∙ q.first)) ∙ sym q.name_is

-- two refusals that a net has stand for the same net
both_of : (d : Design) (name : List ℕ) (a b : Refusal) (p : HasNet d name a) (q : HasNet d name b) → Holds d q.net a
both_of d name a b p q = subst (λ (n : Joined). Holds d n a) (joined_once d name p.net q.net p.joined q.joined) p.holds

-- refusals of one number that hold for a name are one
same_refused : (d : Design) (name : List ℕ) (a b : Refusal) → number_of a ≡ number_of b → Refuses d name a → Refuses d name b → a ≡ b
same_refused d name (Section a) (Section b) is p q = ap Section (faults_are d.spef name a b p q)
same_refused d name (NoLoad a) (NoLoad b) is p q =
    ap NoLoad (conn_once q.net.par (is_unloaded d q.net) a b (both_of d name (NoLoad a) (NoLoad b) p q) q.holds)
same_refused d name (Floating a) (Floating b) is p q = ap Floating (floating_once q.net.par a b (both_of d name (Floating a) (Floating b) p q) q.holds)
same_refused d name (Unconstrained a) (Unconstrained b) is p q =
    ap Unconstrained (conn_once q.net.par (is_unconstrained d.rows q.net.par) a b (both_of d name (Unconstrained a) (Unconstrained b) p q) q.holds)
same_refused d name UnknownNet UnknownNet is p q = refl
same_refused d name Reduced Reduced is p q = refl
same_refused d name Inductive Inductive is p q = refl
same_refused d name Bidirectional Bidirectional is p q = refl
same_refused d name NoDriver NoDriver is p q = refl
same_refused d name ManyDrivers ManyDrivers is p q = refl
same_refused d name Mismatch Mismatch is p q = refl
same_refused d name Tied Tied is p q = refl
same_refused d name NoDrive NoDrive is p q = refl
same_refused d name Loop Loop is p q = refl
same_refused d name NoSink NoSink is p q = refl
same_refused d name TooLarge TooLarge is p q = refl
same_refused d name a b is p q = absurd (omega (arith, is))

pub one_refusal : OneRefusal
one_refusal d name a b p q =
    elim (cases_lt (number_of a) (number_of b)) [
      | inl less ↦ absurd (q.first a less p.holds)
      | inr more ↦ elim (cases_lt (number_of b) (number_of a)) [
        | inl less ↦ absurd (p.first b less q.holds)
        | inr same ↦ same_refused d name a b (omega (arith, more, same)) p.holds q.holds
      ]
    ]

pub problem_or_refused : ProblemOrRefused
problem_or_refused d name found r is first = is.accepted r (few_refusals r) first.holds

pub bare_accepts : BareAccepts
bare_accepts d name node r p q =
    elim (cases_lt (number_of r) 15) [
      | inl less ↦ absurd (p.first r less q.holds)
      | inr more ↦ (let few = few_refusals r in elim (cases_lt (number_of r) 16) [
        | inl here ↦ absurd (q.counts (omega (arith, more, here)))
        | inr large ↦ omega (arith, few, large)
      ])
    ]

-- the same problem of the same net
same_parts : (d : Design) (n : Joined) (tree : List Node) (order : List ℕ) (a b : NetProblem) → IsProblemOf d n tree order a.problem → IsProblemOf d n tree order b.problem → a.names ≡ b.names → AreSame a b
same_parts d n tree order a b p q names = record {
  tree = p.tree_is ∙ sym q.tree_is;
  driver = p.driver ∙ sym q.driver;
  sinks = p.sinks ∙ sym q.sinks;
  places = p.places ∙ sym q.places;
  reps = p.reps ∙ sym q.reps;
  allowed = p.allowed ∙ sym q.allowed;
  names = names;
}

pub one_problem : OneProblem
one_problem d name a b p q =
    let nets : p.net ≡ q.net = joined_once d name p.net q.net p.joined q.joined in
    let here : IsProblemOf d q.net p.tree p.order a.problem = subst (λ (n : Joined). IsProblemOf d n p.tree p.order a.problem) nets p.problem in
    let trees = trees_are q.net.par p.tree q.tree p.order q.order (subst (λ (n : Joined). IsNetTree n.par p.tree p.order) nets p.a_tree) q.a_tree in
    let there : IsProblemOf d q.net q.tree q.order a.problem =
    subst (λ (t : List Node). IsProblemOf d q.net t q.order a.problem) trees.0 (subst (λ (o : List ℕ). IsProblemOf d q.net p.tree o a.problem) trees.1 here) in
    same_parts d q.net q.tree q.order a b there q.problem (p.names ∙ (λ i. names_of (nets i).par (trees.1 i)) ∙ sym q.names)

pub one_bare_net : OneBareNet
one_bare_net d name a b p q =
    let nets : p.net ≡ q.net = joined_once d name p.net q.net p.joined q.joined in
    let trees = trees_are q.net.par p.tree q.tree p.order q.order (subst (λ (n : Joined). IsNetTree n.par p.tree p.order) nets p.a_tree) q.a_tree in
    record {
      tree = p.tree_is ∙ (λ i. loaded_tree d (nets i) (trees.0 i) (trees.1 i)) ∙ sym q.tree_is;
      driver = p.driver ∙ (λ i. driver_of d (nets i) (trees.1 i)) ∙ sym q.driver;
      names = p.names ∙ (λ i. names_of (nets i).par (trees.1 i)) ∙ sym q.names;
      sinks = p.sinks ∙ (λ i. sink_nodes (nets i).par (trees.1 i)) ∙ sym q.sinks;
    }

pub bare_or_refused : BareOrRefused
bare_or_refused d name bare r is first = is.accepted r (few_refusals r) first.counts first.holds
