-- Of the texts of a request one answer is said, and none where an input is faulty.
use Rattle.std.proofs.Common.{◌≡◌, ℕ, List}
use Rattle.vg_words.specs.declared.ask.Mode.{Mode}
use Rattle.vg_words.specs.declared.ask.Mode.TheVariants.{Wire, Time, Best, Frontier, Check, Gen, Sta, Segment, Repair, Total, Width}
use Rattle.vg_run.specs.Modes.{design_texts, one_net, best_asked, repair_asked, total_asked, IsAnswerIn, IsFaultIn, IsTakenIn}
use Rattle.vg_answer.specs.Answers.{Said}
use Rattle.vg_answer.specs.declared.kind.AnswerKind.{AnswerKind}
use Rattle.vg_answer.specs.declared.input.Input.{Input}
use Rattle.vg_answer.specs.declared.input.Input.TheVariants.{Spef, Cert, Widths}
use Rattle.vg_answer.proofs.ApartLemmas.{design_not_faulty}
use Rattle.mode_wire.proofs.ApartLemmas.{one_kind as wire_kind, not_faulty as wire_not_faulty}
use Rattle.mode_time.proofs.ApartLemmas.{one_kind as time_kind}
use Rattle.vg_place.proofs.ApartLemmas.{free_not_taken}
use Rattle.mode_best.proofs.ApartLemmas.{one_kind as best_kind}
use Rattle.mode_frontier.proofs.ApartLemmas.{one_kind as front_kind}
use Rattle.mode_check.proofs.ApartLemmas.{one_kind as check_kind}
use Rattle.mode_gen.proofs.ApartLemmas.{one_kind as gen_kind, not_faulty as gen_not_faulty}
use Rattle.mode_repair.proofs.ApartLemmas.{one_kind as repair_kind}
use Rattle.mode_segment.proofs.ApartLemmas.{one_kind as segment_kind, not_faulty as segment_not_faulty}
use Rattle.mode_sta.proofs.ApartLemmas.{one_kind as sta_kind}
use Rattle.mode_total.proofs.ApartLemmas.{one_kind as total_kind, not_taken as total_not_taken}
use Rattle.mode_width.proofs.ApartLemmas.{one_kind as width_kind, not_faulty as width_not_faulty}
use Rattle.vg_words.specs.Request.{prefix_of, cap_of, parts_of, size_of}
use Rattle.vg_words.specs.declared.ask.Ask.{Ask}

abbrev Bytes : Type 0
Bytes = List ℕ

-- of the texts of a request one kind is said
pub one_kind : (mode : Mode) (ask : Ask) (texts : Input → Bytes) (a b : AnswerKind) (t u : Said) → IsAnswerIn mode ask texts a t → IsAnswerIn mode ask texts b u → a ≡ b
one_kind Wire ask texts a b t u p q = wire_kind (texts Spef) (one_net ask) a b t u p q
one_kind Time ask texts a b t u p q = time_kind (design_texts texts) ask.net (prefix_of ask) a b t u p q
one_kind Best ask texts a b t u p q = best_kind (design_texts texts) (best_asked ask) a b t u p q
one_kind Frontier ask texts a b t u p q = front_kind (design_texts texts) ask.net (cap_of ask) a b t u p q
one_kind Check ask texts a b t u p q = check_kind (design_texts texts) (texts Cert) (one_net ask) a b t u p q
one_kind Gen ask texts a b t u p q = gen_kind (size_of ask) a b t u p q
one_kind Sta ask texts a b t u p q = sta_kind (design_texts texts) a b t u p q
one_kind Segment ask texts a b t u p q = segment_kind (texts Spef) ask.net (parts_of ask) a b t u p q
one_kind Repair ask texts a b t u p q = repair_kind (design_texts texts) (repair_asked ask) a b t u p q
one_kind Total ask texts a b t u p q = total_kind (design_texts texts) (total_asked ask) a b t u p q
one_kind Width ask texts a b t u p q = width_kind (design_texts texts) (texts Widths) (one_net ask) a b t u p q

-- texts with an answer have no fault
pub not_faulty : (mode : Mode) (ask : Ask) (texts : Input → Bytes) (kind : AnswerKind) (t : Said) (line : Bytes) (input : Input) → IsAnswerIn mode ask texts kind t
    → IsFaultIn mode ask texts line input → ⊥
not_faulty Wire ask texts kind t line input d f = wire_not_faulty (texts Spef) (one_net ask) kind t line input d f
not_faulty Time ask texts kind t line input d f = design_not_faulty (design_texts texts) d.design line input d.design_of f
not_faulty Best ask texts kind t line input d f = design_not_faulty (design_texts texts) d.design line input d.design_of.design_of f
not_faulty Frontier ask texts kind t line input d f = design_not_faulty (design_texts texts) d.design line input d.design_of f
not_faulty Check ask texts kind t line input d f = design_not_faulty (design_texts texts) d.design line input d.design_of f
not_faulty Gen ask texts kind t line input d f = gen_not_faulty (size_of ask) kind t line input d f
not_faulty Sta ask texts kind t line input d f = design_not_faulty (design_texts texts) d.design line input d.design_of f
not_faulty Segment ask texts kind t line input d f = segment_not_faulty (texts Spef) ask.net (parts_of ask) kind t line input d f
not_faulty Repair ask texts kind t line input d f = design_not_faulty (design_texts texts) d.design line input d.design_of.design_of f
not_faulty Total ask texts kind t line input d f = design_not_faulty (design_texts texts) d.design line input d.design_of f
not_faulty Width ask texts kind t line input d f = width_not_faulty (design_texts texts) (texts Widths) (one_net ask) kind t line input d f

-- nor does a name of them begin with the prefix
pub not_taken : (mode : Mode) (ask : Ask) (texts : Input → Bytes) (kind : AnswerKind) (t : Said) (name : Bytes) → IsAnswerIn mode ask texts kind t
    → IsTakenIn mode ask texts name → ⊥
not_taken Wire ask texts kind t name d taken_by = taken_by
not_taken Time ask texts kind t name d taken_by = taken_by
not_taken Best ask texts kind t name d taken_by = free_not_taken (design_texts texts) (prefix_of ask) d.design name d.design_of taken_by
not_taken Frontier ask texts kind t name d taken_by = taken_by
not_taken Check ask texts kind t name d taken_by = taken_by
not_taken Gen ask texts kind t name d taken_by = taken_by
not_taken Sta ask texts kind t name d taken_by = taken_by
not_taken Segment ask texts kind t name d taken_by = taken_by
not_taken Repair ask texts kind t name d taken_by = free_not_taken (design_texts texts) (prefix_of ask) d.design name d.design_of taken_by
not_taken Total ask texts kind t name d taken_by = total_not_taken (design_texts texts) (total_asked ask) kind t name d taken_by
not_taken Width ask texts kind t name d taken_by = taken_by
