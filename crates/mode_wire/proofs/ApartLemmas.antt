-- Of one net of a file one kind is said, and none where the file is faulty.
use Rattle.std.proofs.Common.{◌≡◌, ℕ, List, refl, arith}
use Rattle.spef_wire.specs.Nets.{IsRefusalOf}
use Rattle.spef_wire.specs.declared.refusal.Refusal.{Refusal}
use Rattle.spef_wire.specs.declared.refusal.Refusal.TheVariants.{UnknownNet, Section, Reduced, Inductive, Bidirectional, NoDriver, ManyDrivers, Mismatch, Tied, NoDrive, NoLoad, Floating, Loop, NoSink, Unconstrained, TooLarge}
use Rattle.spef_wire.proofs.AnswerLemmas.{passed_is}
use Rattle.design_read.specs.Designs.{IsSpef}
use Rattle.mode_wire.specs.Answers.{IsWireAnswer, IsWireFault}
use Rattle.vg_answer.specs.Answers.{Said}
use Rattle.vg_answer.specs.declared.kind.AnswerKind.{AnswerKind}
use Rattle.vg_answer.specs.declared.kind.AnswerKind.TheVariants.{Report, NoneGood, Refusal as Refused, Invalid}
use Rattle.vg_answer.specs.declared.input.Input.{Input}
use Rattle.vg_answer.proofs.ApartLemmas.{no_both, few_refusals}

abbrev Bytes : Type 0
Bytes = List ℕ

-- a net is refused of a file that is in its form
has_file : (text name : Bytes) (refusal : Refusal) → IsRefusalOf text name refusal → IsSpef text
has_file text name Mismatch r = absurd r
has_file text name Tied r = absurd r
has_file text name NoDrive r = absurd r
has_file text name (NoLoad node) r = absurd r
has_file text name (Unconstrained node) r = absurd r
has_file text name UnknownNet r = (r.file, r.said)
has_file text name (Section fault) r = (r.file, r.head_of.said)
has_file text name Reduced r = (r.named.file, r.named.head_of.said)
has_file text name Inductive r = (r.named.file, r.named.head_of.said)
has_file text name Bidirectional r = (r.named.file, r.named.head_of.said)
has_file text name NoDriver r = (r.named.file, r.named.head_of.said)
has_file text name ManyDrivers r = (r.named.file, r.named.head_of.said)
has_file text name (Floating node) r = (r.named.file, r.named.head_of.said)
has_file text name Loop r = (r.named.file, r.named.head_of.said)
has_file text name NoSink r = (r.named.file, r.named.head_of.said)
has_file text name TooLarge r = (r.named.file, r.named.head_of.said)

wire_not_refused : (file name : Bytes) (t u : Said) → IsWireAnswer file name Report t → IsWireAnswer file name Refused u → ⊥
wire_not_refused file name t u (d, _) (r, _) =
    passed_is file name d.wire_of.net 17 r.refusal d.wire_of.named d.wire_of.accepted (omega arith) r.refused (few_refusals r.refusal)

-- of one net of a file one kind is said
pub one_kind : (file name : Bytes) (a b : AnswerKind) (t u : Said) → IsWireAnswer file name a t → IsWireAnswer file name b u → a ≡ b
one_kind file name Report Report t u p q = refl
one_kind file name Report NoneGood t u p q = absurd q
one_kind file name Report Invalid t u p q = absurd q
one_kind file name Report Refused t u p q = absurd (wire_not_refused file name t u p q)
one_kind file name NoneGood b t u p q = absurd p
one_kind file name Invalid b t u p q = absurd p
one_kind file name Refused Report t u p q = absurd (wire_not_refused file name u t q p)
one_kind file name Refused NoneGood t u p q = absurd q
one_kind file name Refused Invalid t u p q = absurd q
one_kind file name Refused Refused t u p q = refl

-- a file of whose net something is said has no fault
pub not_faulty : (file name : Bytes) (kind : AnswerKind) (t : Said) (line : Bytes) (input : Input) → IsWireAnswer file name kind t → IsWireFault file line input → ⊥
not_faulty file name Report t line input (d, _) (_, f) = no_both d.wire_of.named.file f.fault file d.wire_of.named.head_of.said f.found
not_faulty file name NoneGood t line input none f = none
not_faulty file name Invalid t line input none f = none
not_faulty file name Refused t line input (r, _) (_, f) = (let said = has_file file name r.refusal r.refused in no_both said.0 f.fault file said.1 f.found)
