use Rattle.std.proofs.Common.{◌++◌, ◌∷◌, [], ap, ◌∙◌}
use Rattle.std.specs.Prelude.{unsigned_abs}
use Rattle.std.specs.Fmt.{decimal}
use Rattle.vg_num.specs.Printed.{scaled_text}
use Rattle.spef_write.specs.Printed.{printed_at}
use Rattle.spef_write.specs.Texts.{spaced}
use Rattle.spef_write.proofs.PrintLemmas.{three_words, newline_after}
use Rattle.spef_write.proofs.line.print_cap.Goals as goal

pub returns : goal.returns
returns c =
    let old = c.args.to.now.items in
    let header = c.args.header.now in
    let id = decimal c.args.id in
    let node = printed_at c.args.nodes.now c.args.at in
    let value = scaled_text node.charge (unsigned_abs header.c_places) in
    c.in_ok-push-3.ensures.items
    ∙ ap (λ xs. xs ++ 10 ∷ [])
    (c.in_ok-print_scaled.ensures.printed
    ∙ ap (λ n. c.push-2.new.self.items ++ scaled_text c.charge.result n) c.c_places.ensures.value
    ∙ ap (λ n. c.push-2.new.self.items ++ scaled_text n (unsigned_abs header.c_places)) c.charge.ensures
    ∙ ap (λ xs. xs ++ value)
    (c.in_ok-push-2.ensures.items
    ∙ ap (λ xs. xs ++ 32 ∷ [])
    (c.in_ok-extend_from_slice.ensures.items
    ∙ ap (λ xs. c.push.new.self.items ++ xs) c.name.ensures
    ∙ ap (λ xs. xs ++ node.name) (c.in_ok-push.ensures.items ∙ ap (λ xs. xs ++ 32 ∷ []) c.in_ok-print_id.ensures)))
    ∙ three_words old id node.name value)
    ∙ newline_after old (spaced (id ∷ node.name ∷ value ∷ []))
