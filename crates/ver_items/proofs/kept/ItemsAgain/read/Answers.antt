use Rattle.std.proofs.Common.{◌≡◌, ◌<◌, ◌∷◌, length, sym, subst, take, ◌∙◌, rules}
use Rattle.ver_items.specs.Kept.{AreCounts}
use Rattle.ver_items.proofs.KeptLemmas.{first_kept, next_kept, next_left, others_left, some_kept}
use Rattle.ver_items.proofs.kept.ItemsAgain.read.Goals as goal

pub returns-in_default-clause-next : goal.returns-in_default-clause-next
returns-in_default-clause-next c =
    next_left c.self.inside.counts.now c.self.inside.rows.now c.read.new.item c.self.inside.others c.read.new.self c.args.self.now
    c.in_default.ensures.cases c.self.view_is c.in_ok-more.ensures.next

pub returns-in_default-clause-end : goal.returns-in_default-clause-end
returns-in_default-clause-end c = λ more.
    others_left c.self.inside.counts.now c.self.inside.rows.now c.self.inside.others c.args.self.now c.in_default.ensures.cases c.self.view_is
    ∙ c.in_ok-more.ensures.end more

pub split_at-requires : goal.split_at-requires
split_at-requires c =
    let e : c.self.inside.counts.now ≡ c.in-Some.count.now ∷ c.in-Some.counts.now = search rules in
    (first_kept c.self.inside.counts.now c.in-Some.counts.now c.in-Some.count.now c.self.inside.rows.now e c.self.invariant).1

pub invariant_of-self-2 : goal.invariant_of-self-2
invariant_of-self-2 c =
    let e : c.self.inside.counts.now ≡ c.in-Some.count.now ∷ c.in-Some.counts.now = search rules in
    subst (λ rows. AreCounts c.in-Some.counts.now rows) (sym c.split_at.ensures.back)
    (first_kept c.self.inside.counts.now c.in-Some.counts.now c.in-Some.count.now c.self.inside.rows.now e c.self.invariant).2

pub returns-clause-next : goal.returns-clause-next
returns-clause-next c =
    let e : c.self.inside.counts.now ≡ c.in-Some.count.now ∷ c.in-Some.counts.now = search rules in
    let i : c.split_at.result.0.now ≡ take c.in-Some.count.now c.self.inside.rows.now = search rules in
    next_kept c.self.inside.counts.now c.in-Some.counts.now c.in-Some.count.now c.self.inside.rows.now c.split_at.result.0.now c.split_at.result.1.now
    c.self.inside.others c.args.self.now e c.self.view_is i c.split_at.ensures.back

pub returns-clause-more : goal.returns-clause-more
returns-clause-more c =
    let e : c.self.inside.counts.now ≡ c.in-Some.count.now ∷ c.in-Some.counts.now = search rules in
    let i : c.split_at.result.0.now ≡ take c.in-Some.count.now c.self.inside.rows.now = search rules in
    let f = first_kept c.self.inside.counts.now c.in-Some.counts.now c.in-Some.count.now c.self.inside.rows.now e c.self.invariant in
    let some : 0 < length c.split_at.result.0.now = some_kept c.in-Some.count.now c.self.inside.rows.now c.split_at.result.0.now i f.0 f.1 in
    search rules
