use Rattle.std.proofs.Common.{List, sym, subst, ◌∙◌}
use Rattle.std.specs.List.{All}
use Rattle.ver_file.specs.declared.uses.Use.{Use}
use Rattle.ver_file.specs.Said.{identifiers_of}
use Rattle.ver_file.specs.Tables.{IsUse}
use Rattle.ver_file.proofs.NetLemmas.{none_first}
use Rattle.ver_file.proofs.read.build.Goals as goal

pub read_body-requires-clause-clash : goal.read_body-requires-clause-clash
read_body-requires-clause-clash c =
    let text = c.args.text.now in
    let uses = subst (λ (us : List Use). All (IsUse text (identifiers_of text)) us) (sym c.deref.ensures.value) c.in_ok-nets.ensures.uses in
    record {
      table = record { table = c.in_ok-nets.ensures.nets; uses = uses };
      first = c.first_clash-clash.ensures;
      without = λ none. record {
        table = record { table = c.in_ok-nets.ensures.nets; uses = uses };
        distinct = none_first text (sym c.first_clash-clash.ensures ∙ none);
      };
    }
