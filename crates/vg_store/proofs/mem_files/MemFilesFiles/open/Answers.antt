use Rattle.std.proofs.Common.{◌≡◌, ◌∙◌, ap, rules, refl, true}
use Rattle.std.specs.Prelude.{IsSome, is_some}
use Rattle.vg_store.specs.MemFiles.{held}
use Rattle.vg_store.proofs.NumberLemmas.{name_is, name_if}
use Rattle.vg_store.proofs.ToldLemmas.{is_there, numbered}
use Rattle.vg_store.proofs.mem_files.MemFilesFiles.open.Goals as goal

pub returns-then-count_call-clause-blamed : goal.returns-then-count_call-clause-blamed
returns-then-count_call-clause-blamed c = name_if c.args.self.now.files c.args.name.now c.add.new.self.blamed (c.add.ensures.blamed ∙ c.get_index_of-number.ensures.index)

pub returns-then-count_call-clause-told_blame : goal.returns-then-count_call-clause-told_blame
returns-then-count_call-clause-told_blame c = λ held.
    name_is c.args.self.now.files c.args.name.now c.add.new.self.blamed (c.add.ensures.blamed ∙ c.get_index_of-number.ensures.index)
    (ap is_some c.add.ensures.blamed ∙ c.get_index_of-number.ensures.found ∙ numbered c.args.self.now.files c.args.name.now held)

pub returns-clause-begun : goal.returns-clause-begun
returns-clause-begun c =
    let there : IsSome (held c.args.self.now c.args.name.now) = is_there c.get.result (λ bytes. bytes.now) (held c.args.self.now c.args.name.now) c.get.ensures (search rules) in
    let some : is_some c.get_index_of-number.result ≡ true = c.get_index_of-number.ensures.found ∙ numbered c.args.self.now.files c.args.name.now there in
    let told = name_is c.args.self.now.files c.args.name.now c.get_index_of-number.result c.get_index_of-number.ensures.index some in
    record {
      open_now = refl;
      first = refl;
      named = name_if c.args.self.now.files c.args.name.now c.get_index_of-number.result c.get_index_of-number.ensures.index;
      told = λ _. ap is_some told;
    }

pub returns-clause-told : goal.returns-clause-told
returns-clause-told c =
    let there : IsSome (held c.args.self.now c.args.name.now) = is_there c.get.result (λ bytes. bytes.now) (held c.args.self.now c.args.name.now) c.get.ensures (search rules) in
    name_is c.args.self.now.files c.args.name.now c.get_index_of-number.result c.get_index_of-number.ensures.index
    (c.get_index_of-number.ensures.found ∙ numbered c.args.self.now.files c.args.name.now there)
