-- A net that is posed is not refused, and texts of a design have no fault.
use Rattle.std.proofs.Common.{◌≡◌, inl, inr, ℕ, ◌<◌, List, refl, ap, arith}
use Rattle.vg_scan.specs.declared.fault.LineFault.{LineFault}
use Rattle.spef_file.specs.Files.{File, IsFileOf, IsFileFault}
use Rattle.spef_file.proofs.LawLemmas.{file_or_fault}
use Rattle.spef_file.specs.declared.fault.SpefKind.{SpefKind}
use Rattle.spef_wire.specs.Refusals.{number_of}
use Rattle.spef_wire.specs.declared.refusal.Refusal.{Refusal}
use Rattle.spef_wire.specs.declared.refusal.Refusal.TheVariants.{UnknownNet, Section, Reduced, Inductive, Bidirectional, NoDriver, ManyDrivers, Mismatch, Tied, NoDrive, NoLoad, Floating, Loop, NoSink, Unconstrained, TooLarge}
use Rattle.vg_design.specs.Designs.{Design}
use Rattle.vg_design.specs.Laws.{AreSame}
use Rattle.vg_design.specs.Nets.{IsNetProblem, IsPosedNet}
use Rattle.vg_design.specs.Refusals.{IsFirstRefusal}
use Rattle.vg_design.specs.declared.net_problem.PosedNet.{PosedNet}
use Rattle.vg_design.proofs.AcceptLemmas.{problem_is}
use Rattle.vg_design.proofs.LawLemmas.{one_problem}
use Rattle.design_read.specs.Designs.{IsDesign, Texts}
use Rattle.design_read.proofs.LawLemmas.{apart_faults, library_apart, module_apart}
use Rattle.vg_answer.specs.Nets.{problem_in}
use Rattle.vg_answer.specs.Verdicts.{Verdict}
use Rattle.vg_answer.specs.declared.input.Input.{Input}
use Rattle.vg_answer.proofs.ProblemLemmas.{one_of_parts}
use Rattle.vg_answer.specs.Faults.{IsDesignFault}

abbrev Bytes : Type 0
Bytes = List ℕ

pub no_both : (file : File) (fault : LineFault SpefKind) (text : Bytes) → IsFileOf text file → IsFileFault text fault → ⊥
no_both file fault text said found = file_or_fault text file fault said found

pub few_refusals : (refusal : Refusal) → number_of refusal < 17
few_refusals Mismatch = omega arith
few_refusals Tied = omega arith
few_refusals NoDrive = omega arith
few_refusals (NoLoad node) = omega arith
few_refusals (Unconstrained node) = omega arith
few_refusals UnknownNet = omega arith
few_refusals (Section fault) = omega arith
few_refusals Reduced = omega arith
few_refusals Inductive = omega arith
few_refusals Bidirectional = omega arith
few_refusals NoDriver = omega arith
few_refusals ManyDrivers = omega arith
few_refusals (Floating node) = omega arith
few_refusals Loop = omega arith
few_refusals NoSink = omega arith
few_refusals TooLarge = omega arith

-- a net that has a problem is not refused
pub not_refused : (d : Design) (name : Bytes) (posed : PosedNet) (refusal : Refusal) → IsPosedNet d name posed → IsFirstRefusal d name refusal → ⊥
not_refused d name posed refusal net_of refused = net_of.accepted refusal (few_refusals refusal) refused.holds

problem_of_posed : (d : Design) (name : Bytes) (posed : PosedNet) → IsPosedNet d name posed → IsNetProblem d name (problem_in posed)
problem_of_posed d name posed is = problem_is d name posed (problem_in posed) is refl refl

-- a net is posed as one problem, with one list of names
pub same_parts : (d : Design) (name : Bytes) (a b : PosedNet) → IsPosedNet d name a → IsPosedNet d name b → AreSame (problem_in a) (problem_in b)
same_parts d name a b p q = one_problem d name (problem_in a) (problem_in b) (problem_of_posed d name a p) (problem_of_posed d name b q)

pub one_posed : (d : Design) (name : Bytes) (a b : PosedNet) → IsPosedNet d name a → IsPosedNet d name b → a.problem ≡ b.problem
one_posed d name a b p q =
    let same = same_parts d name a b p q in
    one_of_parts a.problem b.problem same.tree same.driver same.sinks same.places same.reps same.allowed

pub kind_is : (u : Verdict) (w : Verdict) → u ≡ w → u.kind ≡ w.kind
kind_is u w e = ap (λ (v : Verdict). v.kind) e

-- texts of a design have no fault
pub design_not_faulty : (texts : Texts) (design : Design) (line : Bytes) (input : Input) → IsDesign texts design → IsDesignFault texts line input → ⊥
design_not_faulty texts d line input is (inl (_, f)) = no_both is.is_spef.0 f.fault texts.spef is.is_spef.1 f.found
design_not_faulty texts d line input is (inr (_, inl (_, f))) = library_apart texts.lib d.library f.fault is.library f.found
design_not_faulty texts d line input is (inr (_, inr (_, inl (_, f)))) = module_apart texts.verilog d.netlist f.fault is.netlist f.found
design_not_faulty texts d line input is (inr (_, inr (_, inr (_, inl (_, f))))) = apart_faults texts.cons f.fault is.rows.faultless f.found
design_not_faulty texts d line input is (inr (_, inr (_, inr (_, inr (_, none))))) = none
