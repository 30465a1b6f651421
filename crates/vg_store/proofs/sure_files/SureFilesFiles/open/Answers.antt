use Rattle.std.proofs.Common.{refl}
use Rattle.vg_store.specs.SureFiles.{told_in}
use Rattle.vg_store.proofs.NumberLemmas.{name_if}
use Rattle.vg_store.proofs.ToldLemmas.{named_there, told_there}
use Rattle.vg_store.proofs.sure_files.SureFilesFiles.open.Goals as goal

pub returns-clause-named : goal.returns-clause-named
returns-clause-named c = told_there c.args.self.now.files c.args.name.now c.get_index_of-self.result c.get_index_of-self.ensures.index c.get_index_of-self.ensures.found

pub returns-clause-begun : goal.returns-clause-begun
returns-clause-begun c = record {
  open_now = refl;
  first = refl;
  named = name_if c.args.self.now.files c.args.name.now c.get_index_of-self.result c.get_index_of-self.ensures.index;
  told = named_there (told_in c.args.self.now) _ (told_in c.args.self.now c.args.name.now)
      (told_there c.args.self.now.files c.args.name.now c.get_index_of-self.result c.get_index_of-self.ensures.index c.get_index_of-self.ensures.found);
}
