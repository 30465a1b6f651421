use Rattle.ver_file.proofs.ReadLemmas.{nothing_read}
use Rattle.ver_file.proofs.identifier.Identifiers.new.Goals as goal

pub returns-clause-read : goal.returns-clause-read
returns-clause-read c = λ text.
    nothing_read text
    (record {
      names = c.in_ok-names.names;
      all = c.in_ok-with_capacity.field-0;
      declared = c.in_ok-with_capacity-2.field-0;
      froms = c.in_ok-with_capacity-3.field-0;
      uses = c.in_ok-room_for_uses.field-0;
    })
    c.in_ok-names.ensures c.in_ok-with_capacity.ensures.items c.in_ok-with_capacity-2.ensures.items c.in_ok-with_capacity-3.ensures.items c.in_ok-room_for_uses.ensures
