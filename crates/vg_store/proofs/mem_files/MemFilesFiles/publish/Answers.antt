use Rattle.vg_store.specs.Contents.{draft_of}
use Rattle.vg_store.proofs.NumberLemmas.{oldest_waiting}
use Rattle.vg_store.proofs.mem_files.MemFilesFiles.publish.Goals as goal

pub returns-clause-published : goal.returns-clause-published
returns-clause-published c = (
  draft_of c.args.self.now.files c.remove-draft.result,
  record {
    oldest = oldest_waiting c.args.self.now.files c.replace_at.new.files c.replace_at.ensures.same_names c.args.self.now.waiting.items c.remove-draft.new.self.items c.remove-draft.result
        c.requires.one_waits c.remove-draft.ensures.value c.remove-draft.ensures.items;
    whole = c.replace_at.ensures.replaced;
    others = c.replace_at.ensures.others;
  },
)
