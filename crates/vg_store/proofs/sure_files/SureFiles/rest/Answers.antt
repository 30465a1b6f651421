use Rattle.std.proofs.Common.{◌∙◌, ap, rules, sym, min, length}
use Rattle.vg_store.proofs.ToldLemmas.{none_left, told_left}
use Rattle.vg_store.proofs.sure_files.SureFiles.rest.Goals as goal

pub returns-in_default-file : goal.returns-in_default-file
returns-in_default-file c =
    none_left c.args.self.now.files c.args.self.now.source c.in-Some.source c.args.self.now.place c.in-Some-get_index.field-0-0.now c.in-Some-get_index.file.now c.in-Some.is
    (sym c.in-Some-get_index.ensures.entry) c.in-Some-get_index.ensures.value (search rules)

pub returns : goal.returns
returns c =
    let same = c.as_slice-bytes.ensures.value in
    rw (same) (told_left c.args.self.now.files c.args.self.now.source c.in-Some.source c.args.self.now.place c.in-Some-get_index.field-0-0.now c.in-Some-get_index.file.now c.in-Some.is
    (sym c.in-Some-get_index.ensures.entry) c.in-Some-get_index.ensures.value c.in-Some-file.bytes c.min.result c.in-Some-file.is (c.min.ensures ∙ ap (λ l. min c.args.self.now.place (length l)) same))
