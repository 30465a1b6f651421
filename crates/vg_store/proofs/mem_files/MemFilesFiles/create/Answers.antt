use Rattle.std.proofs.Common.{◌≡◌, ◌<◌, ◌∙◌, ap, subst, sym, ℕ, List, Option, IfSome}
use Rattle.std.specs.Prelude.{is_some}
use Rattle.indexmap.specs.IndexMap.{index_map_len}
use Rattle.vg_store.specs.Contents.{named}
use Rattle.vg_store.proofs.NumberLemmas.{name_is, name_if, waiting_kept}
use Rattle.vg_store.proofs.ToldLemmas.{numbered}
use Rattle.vg_store.proofs.mem_files.MemFilesFiles.create.Goals as goal

pub returns-then-count_call-clause-blamed : goal.returns-then-count_call-clause-blamed
returns-then-count_call-clause-blamed c = name_if c.args.self.now.files c.args.name.now c.add.new.self.blamed (c.add.ensures.blamed ∙ c.get_index_of-number.ensures.index)

pub returns-then-count_call-clause-told_blame : goal.returns-then-count_call-clause-told_blame
returns-then-count_call-clause-told_blame c = λ held.
    name_is c.args.self.now.files c.args.name.now c.add.new.self.blamed (c.add.ensures.blamed ∙ c.get_index_of-number.ensures.index)
    (ap is_some c.add.ensures.blamed ∙ c.get_index_of-number.ensures.found ∙ numbered c.args.self.now.files c.args.name.now held)

pub returns-in_default-clause-blamed : goal.returns-in_default-clause-blamed
returns-in_default-clause-blamed c =
    let old = c.args.self.now.files in
    let number = c.get_index_of-number.result in
    let same = ap (named c.number_of.new.files) c.add-in_default.ensures.blamed
    ∙ c.number_of.ensures.same_names number (λ n is. subst (λ (o : Option ℕ). IfSome o (λ i. i < index_map_len old)) is c.get_index_of-number.ensures.within) in
    subst (λ (o : Option (List ℕ)). IfSome o (λ told. told ≡ c.args.name.now)) (sym same) (name_if old c.args.name.now number c.get_index_of-number.ensures.index)

pub returns-clause-same_drafts : goal.returns-clause-same_drafts
returns-clause-same_drafts c = waiting_kept c.args.self.now.files c.number_of.new.files c.number_of.ensures.same_names c.args.self.now.waiting.items c.args.self.now.waiting_stand
