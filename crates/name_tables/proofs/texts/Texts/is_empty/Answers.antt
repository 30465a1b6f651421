use Rattle.std.proofs.Common.{◌≡◌, ◌==◌, ◌∙◌, ap, length, arith, vec_len}
use Rattle.name_tables.proofs.TextsLemmas.{length-texts_of}
use Rattle.name_tables.proofs.texts.Texts.is_empty.Goals as goal

pub returns : goal.returns
returns c =
    let count : vec_len c.self.inside.ends ≡ length c.args.self.now = omega (arith, length-texts_of c.self.inside.bytes.items 0 c.self.inside.ends.items, ap length c.self.view_is) in
    c.is_empty.ensures ∙ ap (λ n. n == 0) count
