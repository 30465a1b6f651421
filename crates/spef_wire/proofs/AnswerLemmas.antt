-- A name has one answer.
use Rattle.std.proofs.Common.{◌≡◌, ℕ, ◌+◌, length, ◌<◌, List, [], ◌∷◌, sym, ap, ◌∙◌, subst, Some, None}
use Rattle.rc_tree.specs.Answers.{IsTreeOf}
use Rattle.rc_tree.proofs.OneTreeLemmas.{one_tree}
use Rattle.spef_file.specs.Files.{File}
use Rattle.spef_file.specs.Nets.{NetHead}
use Rattle.spef_net.specs.declared.fault.NetKind.{NetKind}
use Rattle.spef_net.specs.declared.net.ParConn.{ParConn}
use Rattle.vg_scan.specs.declared.fault.LineFault.{LineFault}
use Rattle.spef_net.specs.declared.net.ParNet.{ParNet}
use Rattle.spef_net.specs.Sections.{statements_in, IsNetOf}
use Rattle.spef_net.proofs.OneNetLemmas.{one_net, fault_or_none}
use Rattle.spef_wire.specs.Refusals.{number_of, Refuses, PassesUpTo}
use Rattle.spef_wire.specs.Nets.{head_named, IsHeadOf, IsFaultNamed, IsMissing, IsNetNamed, IsNetRefused}
use Rattle.spef_wire.specs.Laws.{OneNet, OneTree, PassedOrRefused}
use Rattle.spef_wire.specs.declared.refusal.Refusal.{Refusal}
use Rattle.spef_wire.specs.declared.refusal.Refusal.TheVariants.{UnknownNet, Section as Faulty, Reduced, Inductive, Bidirectional, NoDriver, ManyDrivers, Mismatch, Tied, NoDrive, NoLoad, Floating, Loop, NoSink, Unconstrained, TooLarge}

same_head : (a b : NetHead) → Some a ≡ Some b → a ≡ b
same_head a b e = cc

-- a name has one head
pub files : (text name : List ℕ) (file other : File) (head heads : NetHead) → IsHeadOf text name file head → IsHeadOf text name other heads → file ≡ other
files text name file other head heads a b = a.said.says ∙ sym b.said.says

pub heads_are : (text name : List ℕ) (file other : File) (head heads : NetHead) → IsHeadOf text name file head → IsHeadOf text name other heads → head ≡ heads
heads_are text name file other head heads a b =
    same_head head heads (sym a.named ∙ ap (λ f. head_named f name) (files text name file other head heads a b) ∙ b.named)

read_as : (text name : List ℕ) (file other : File) (head heads : NetHead) (net : ParNet) → IsHeadOf text name file head → IsHeadOf text name other heads → IsNetOf text file head net → IsNetOf text other heads net
read_as text name file other head heads net a b is =
    subst (λ (h : NetHead). IsNetOf text other h net) (heads_are text name file other head heads a b) (subst (λ (f : File). IsNetOf text f head net) (files text name file other head heads a b) is)

pub nets_are : OneNet
nets_are text name net other a b =
    let mine = read_as text name a.file b.file a.head b.head net a.head_of b.head_of a.read in
    one_net b.head.name b.head.reduced (statements_in text b.file b.head) net other mine.denoted b.read.denoted

one_driver : (a b : ParConn) → ◌≡◌ {A = List ParConn} (a ∷ []) (b ∷ []) → a ≡ b
one_driver a b e = cc

pub trees_are : OneTree
trees_are net tree other order places a b =
    let drivers = sym a.driven.alone ∙ b.driven.alone in
    let roots : a.root ≡ b.root = sym a.driven.at ∙ ap (λ (c : ParConn). c.node) (one_driver a.driven.driver b.driven.driver drivers) ∙ b.driven.at in
    one_tree (length net.nodes) b.root net.caps net.ress tree other order places (subst (λ r. IsTreeOf (length net.nodes) r net.caps net.ress tree order) roots a.a_tree) b.a_tree

passed : (text name : List ℕ) (net : ParNet) (n : ℕ) (refusal : Refusal) → IsNetNamed text name net → PassesUpTo n net → IsNetRefused text name refusal → number_of refusal < n → ⊥
passed text name net n refusal named passes refused low =
    passes refusal low (subst (λ (m : ParNet). Refuses m refusal) (nets_are text name refused.net net refused.named named) refused.refused.holds)

-- a net that is there is not missing, nor has it a fault
not_missing_at : (text name : List ℕ) (head : NetHead) (file : File) → IsHeadOf text name file head → IsMissing text name → ⊥
not_missing_at text name head file of missing =
    let same : file ≡ missing.file = of.said.says ∙ sym missing.said.says in
    let none : None ≡ Some head = sym missing.none ∙ ap (λ f. head_named f name) (sym same) ∙ of.named in
    cc

pub not_missing : (text name : List ℕ) (net : ParNet) → IsNetNamed text name net → IsMissing text name → ⊥
not_missing text name net named = not_missing_at text name named.head named.file named.head_of

pub fault_not_missing : (text name : List ℕ) (fault : LineFault NetKind) → IsFaultNamed text name fault → IsMissing text name → ⊥
fault_not_missing text name fault faulty = not_missing_at text name faulty.head faulty.file faulty.head_of

pub not_faulty : (text name : List ℕ) (net : ParNet) (fault : LineFault NetKind) → IsNetNamed text name net → IsFaultNamed text name fault → ⊥
not_faulty text name net fault named faulty =
    let mine = read_as text name named.file faulty.file named.head faulty.head net named.head_of faulty.head_of named.read in
    fault_or_none faulty.head.name (statements_in text faulty.file faulty.head) (faulty.head.line + 1) fault mine.faultless faulty.first

pub passed_is : PassedOrRefused
passed_is text name net n Mismatch named passes some refused low = refused
passed_is text name net n Tied named passes some refused low = refused
passed_is text name net n NoDrive named passes some refused low = refused
passed_is text name net n (NoLoad node) named passes some refused low = refused
passed_is text name net n (Unconstrained node) named passes some refused low = refused
passed_is text name net n UnknownNet named passes some missing low = not_missing text name net named missing
passed_is text name net n (Faulty fault) named passes some faulty low = not_faulty text name net fault named faulty
passed_is text name net n Reduced named passes some refused low = passed text name net n Reduced named passes refused low
passed_is text name net n Inductive named passes some refused low = passed text name net n Inductive named passes refused low
passed_is text name net n Bidirectional named passes some refused low = passed text name net n Bidirectional named passes refused low
passed_is text name net n NoDriver named passes some refused low = passed text name net n NoDriver named passes refused low
passed_is text name net n ManyDrivers named passes some refused low = passed text name net n ManyDrivers named passes refused low
passed_is text name net n (Floating node) named passes some refused low = passed text name net n (Floating node) named passes refused low
passed_is text name net n Loop named passes some refused low = passed text name net n Loop named passes refused low
passed_is text name net n NoSink named passes some refused low = passed text name net n NoSink named passes refused low
passed_is text name net n TooLarge named passes some refused low = passed text name net n TooLarge named passes refused low
