use Rattle.std.proofs.Common.{◌∙◌, ap, sym}
use Rattle.vg_store.specs.Contents.{draft_named, named}
use Rattle.vg_store.proofs.NumberLemmas.{oldest_number}
use Rattle.vg_store.proofs.sure_files.SureFilesFiles.publish.Goals as goal

pub returns-in-Some-clause-published : goal.returns-in-Some-clause-published
returns-in-Some-clause-published c =
    let old = c.args.self.now.files in
    let its = ap (named old) c.in-Some.is in (
      draft_named old c.remove-first.result,
      record {
        oldest = oldest_number old c.replace_at.new.files c.replace_at.ensures.same_names c.args.self.now.waiting.items c.remove-first.new.self.items c.remove-first.result
            c.requires.one_waits c.remove-first.ensures.value c.remove-first.ensures.items;
        whole = λ name is. c.replace_at.ensures.replaced name (sym its ∙ is);
        others = λ file differs. c.replace_at.ensures.others file (λ e. differs (its ∙ e));
      },
    )
