use Rattle.std.proofs.Common.{Some, arith, refl}
use Rattle.std.specs.String.{string_eq}
use Rattle.std.proofs.lemmas.Map.Text.{text_keys}
use Rattle.vg_store.proofs.NumberLemmas.{name_stays, numbers_kept}
use Rattle.vg_store.proofs.sure_files.SureFiles.add.Goals as goal

pub returns-clause-others : goal.returns-clause-others
returns-clause-others c = λ other differs. grind (arith, text_keys)

pub returns-clause-reading : goal.returns-clause-reading
returns-clause-reading c = record {
  same_faults = refl;
  same_blame = refl;
  same_source = name_stays string_eq c.args.self.now.files c.insert.new.self c.in_ok-name.name (Some c.in_ok-bytes.bytes) c.args.self.now.source c.in_ok-insert.ensures.entries c.args.self.now.source_stands;
  same_taken = refl;
  same_reading = refl;
}

pub returns-clause-writing : goal.returns-clause-writing
returns-clause-writing c = record {
  same_faults = refl;
  same_blame = refl;
  same_target = name_stays string_eq c.args.self.now.files c.insert.new.self c.in_ok-name.name (Some c.in_ok-bytes.bytes) c.args.self.now.target c.in_ok-insert.ensures.entries c.args.self.now.target_stands;
  same_writing = refl;
  same_draft = refl;
  same_drafts = numbers_kept c.args.self.now.files c.insert.new.self (λ number. name_stays string_eq c.args.self.now.files c.insert.new.self c.in_ok-name.name (Some c.in_ok-bytes.bytes) number c.in_ok-insert.ensures.entries) c.args.self.now.waiting.items c.args.self.now.waiting_stand;
}
