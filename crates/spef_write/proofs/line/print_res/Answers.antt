use Rattle.std.proofs.Common.{◌++◌, ◌∷◌, [], ap, ◌∙◌}
use Rattle.std.specs.Prelude.{unsigned_abs}
use Rattle.std.specs.Fmt.{decimal}
use Rattle.vg_num.specs.Printed.{scaled_text}
use Rattle.spef_write.specs.Printed.{printed_at}
use Rattle.spef_write.specs.Texts.{spaced}
use Rattle.spef_write.proofs.PrintLemmas.{four_words, newline_after}
use Rattle.spef_write.proofs.line.print_res.Goals as goal

pub returns : goal.returns
returns c =
    let old = c.args.to.now.items in
    let header = c.args.header.now in
    let nodes = c.args.nodes.now in
    let id = decimal c.args.id in
    let a = (printed_at nodes c.args.res.0).name in
    let b = (printed_at nodes c.args.res.1).name in
    let value = scaled_text c.args.res.2 (unsigned_abs header.r_places) in
    c.in_ok-push-4.ensures.items
    ∙ ap (λ xs. xs ++ 10 ∷ [])
    (c.in_ok-print_scaled.ensures.printed
    ∙ ap (λ n. c.push-3.new.self.items ++ scaled_text c.args.res.2 n) c.r_places.ensures.value
    ∙ ap (λ xs. xs ++ value)
    (c.in_ok-push-3.ensures.items
    ∙ ap (λ xs. xs ++ 32 ∷ [])
    (c.in_ok-extend_from_slice-2.ensures.items
    ∙ ap (λ xs. c.push-2.new.self.items ++ xs) c.name-2.ensures
    ∙ ap (λ xs. xs ++ b)
    (c.in_ok-push-2.ensures.items
    ∙ ap (λ xs. xs ++ 32 ∷ [])
    (c.in_ok-extend_from_slice.ensures.items
    ∙ ap (λ xs. c.push.new.self.items ++ xs) c.name.ensures
    ∙ ap (λ xs. xs ++ a) (c.in_ok-push.ensures.items ∙ ap (λ xs. xs ++ 32 ∷ []) c.in_ok-print_id.ensures)))))
    ∙ four_words old id a b value)
    ∙ newline_after old (spaced (id ∷ a ∷ b ∷ value ∷ []))
