use Rattle.std.proofs.Common.{◌≡◌, [], ◌∷◌, ◌++◌, None, Result, Ok, Err, length, refl, ap, ◌∙◌}
use Rattle.std.specs.Prelude.{OnErr}
use Rattle.std.specs.Str.{bytes_eq}
use Rattle.std.proofs.lemmas.Result.{on_ok_weaker, on_err_weaker}
use Rattle.std.proofs.lemmas.Slice.Eq.{bytes_eq-Decides}
use Rattle.name_tables.specs.Hashes.{hash_of}
use Rattle.name_tables.specs.OrderedRows.{row_kept}
use Rattle.name_tables.proofs.FiledLemmas.{filed_chained, filed_count, filed_ordered, filed_same}
use Rattle.name_tables.proofs.rows.Rows.push.Goals as goal

on_err : {T E P : Type 0} (r : Result T E) → P → OnErr r P
on_err (Ok x) h = tt
on_err (Err e) h = h

pub returns-then-not-is_full-clause-last : goal.returns-then-not-is_full-clause-last
returns-then-not-is_full-clause-last c names h absent =
    let s = c.args.self.now in
    on_ok_weaker c.push.result
    (filed_chained hash_of (row_kept s.ordered) names c.args.name.now s.chains c.push.new.self c.args.hash h absent c.requires.hash c.push.ensures.chains) c.push.ensures.last

pub returns-then-not-is_full-clause-unchanged : goal.returns-then-not-is_full-clause-unchanged
returns-then-not-is_full-clause-unchanged c names h =
    let s = c.args.self.now in
    let kept = row_kept s.ordered in
    on_err_weaker c.push.result (λ same. filed_same hash_of kept kept names s.chains c.push.new.self h c.push.ensures.chains same (λ key. refl)) c.push.ensures.unchanged

pub returns-in_err-add-clause-unchanged : goal.returns-in_err-add-clause-unchanged
returns-in_err-add-clause-unchanged c names h =
    let s = c.args.self.now in
    on_err c.from_residual-in_err-add.result
    (filed_same hash_of (row_kept s.ordered) (row_kept c.add.new.self) names s.chains c.reserve.new.self h c.reserve.ensures.chains c.reserve.ensures.rows c.in_err-add.ensures.unchanged)

pub returns-clause-last : goal.returns-clause-last
returns-clause-last c names h absent =
    let s = c.args.self.now in
    let kept = row_kept s.ordered in
    let count : c.len-row.result ≡ length names = c.len-row.ensures ∙ filed_count hash_of kept names s.chains h in
    on_ok_weaker c.push_outside.result
    (λ more. filed_ordered hash_of kept (row_kept c.add.new.self) (bytes_eq c.args.name.now) names c.args.name.now c.len-row.result s.chains c.push_outside.new.self h absent
    c.in_ok-add.ensures.added (bytes_eq-Decides c.args.name.now) count c.push_outside.ensures.chains (more ∙ ap (λ rows. rows ++ None ∷ []) c.reserve.ensures.rows))
    c.push_outside.ensures.last
