use Rattle.std.proofs.Common.{◌≡◌, ◌++◌, List, ℕ, take, sym, ap, ◌∙◌, arith}
use Rattle.std.proofs.lemmas.List.{take-append-drop}
use Rattle.vg_scan.specs.declared.comments.Comments.{Comments}
use Rattle.vg_scan.specs.Comments.{without_comments}
use Rattle.vg_scan.proofs.AgainLemmas.{without_again}
use Rattle.vg_scan.proofs.InPlaceLemmas.{one_cleared}
use Rattle.vg_scan.proofs.clear.clear_comments.Goals as goal

none_left : (kind : Comments) (old new : List ℕ) → new ≡ without_comments kind old → without_comments kind new ≡ new
none_left kind old new e = ap (without_comments kind) e ∙ without_again kind old ∙ sym e

pub comment-preserved : goal.comment-preserved
comment-preserved c =
    let found = c.in-Some.ensures.found in
    record {
      cleared =
          one_cleared c.args.kind c.comment.text c.blank.new.text c.comment.at c.in-Some.comment.from c.in-Some.comment.to found c.blank.ensures.blank
          ∙ c.comment.invariant.cleared;
      long = c.blank.ensures.length ∙ c.comment.invariant.long;
      within = omega (arith, found.within, c.blank.ensures.length);
    }

pub returns-clause-clear : goal.returns-clause-clear
returns-clause-clear c =
    sym (take-append-drop c.comment.at c.comment.text)
    ∙ ap (λ rest. take c.comment.at c.comment.text ++ rest) (sym (c.next_comment.ensures.none c.in_default.is))
    ∙ c.comment.invariant.cleared

pub returns-clause-none : goal.returns-clause-none
returns-clause-none c = none_left c.args.kind c.args.text.now c.comment.text (returns-clause-clear c)
