use Rattle.std.proofs.Common.{◌≡◌, Some, length, slice_get, refl}
use Rattle.std.proofs.lemmas.Option.{slice_get_read}
use Rattle.ver_file.proofs.NumberLemmas.{use_numbered}
use Rattle.ver_file.proofs.uses.find_use.Goals as goal

pub returns-in-Some : goal.returns-in-Some
returns-in-Some c = λ text all.
    let uses = c.args.uses.now in
    let (test, is, more, low, others) = c.in-Some.ensures.lookup in
    let e : slice_get uses c.place.at ≡ Some c.in-Some.found.now =
    slice_get_read uses (length uses) c.place.at c.in-Some.found.now refl low.0 is in
    let same = c.is.ensures.0 c.if-is.true in
    use_numbered text uses c.place.at c.in-Some.found.now c.args.row all e same.0 same.1
