use Rattle.std.proofs.Common.{ℕ, ◌++◌, List, ap, ◌∙◌, arith, Vec, Global}
use Rattle.spef_write.specs.Sections.{section_text}
use Rattle.vg_change.proofs.SectionLemmas.{stages_more}
use Rattle.vg_change.proofs.sections.push_section.Goals as goal
use Rattle.vg_change.proofs.sections.push_section.Goals.{then-stage-gt0+in_ok-push, else-stage-gt0}

pub returns-clause-said : goal.returns-clause-said
returns-clause-said c =
    let header = c.args.header.now in
    let stage = c.in_ok-write_stage.ensures.said in
    let text = section_text header stage.net in
    let more = stages_more header c.args.x.now c.args.stage c.args.to.now.items c.write_stage.new.to.items stage.net c.requires.said stage.is_stage in
    elim c.if-stage-gt0.branch [
      | then-stage-gt0+in_ok-push w ↦
          let later = w.if-stage-gt0.true in
          more (λ zero. absurd (omega (arith, zero, later)))
          (λ some. stage.is ∙ ap (λ (v : Vec ℕ Global). v.items ++ text) w.to-is ∙ ap (λ (xs : List ℕ). xs ++ text) w.in_ok-push.ensures.items)
      | else-stage-gt0 w ↦
          let first = w.if-stage-gt0.false in
          more (λ zero. stage.is ∙ ap (λ (v : Vec ℕ Global). v.items ++ text) w.to-is) (λ some. absurd (omega (arith, some, first)))
    ]
