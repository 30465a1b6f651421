use Rattle.std.proofs.Common.{◌++◌, ◌∷◌, [], ap, ◌∙◌}
use Rattle.spef_write.specs.Printed.{printed_at}
use Rattle.spef_write.specs.Texts.{spaced, ended, noted, conn_tag, direction_word}
use Rattle.spef_write.proofs.PrintLemmas.{three_words, noted_after}
use Rattle.spef_write.proofs.line.print_conn.Goals as goal

pub returns : goal.returns
returns c =
    let old = c.args.to.now.items in
    let conn = c.args.conn.now in
    let node = printed_at c.args.nodes.now conn.node in
    let tag = conn_tag conn.kind in
    let way = direction_word conn.direction in
    c.in_ok-end_line.ensures
    ∙ ap (λ xs. ended (noted xs c.note.result.now))
    (c.in_ok-extend_from_slice-3.ensures.items
    ∙ ap (λ xs. c.push-2.new.self.items ++ xs) c.direction_word.ensures
    ∙ ap (λ xs. xs ++ way)
    (c.in_ok-push-2.ensures.items
    ∙ ap (λ xs. xs ++ 32 ∷ [])
    (c.in_ok-extend_from_slice-2.ensures.items
    ∙ ap (λ xs. c.push.new.self.items ++ xs) c.name.ensures
    ∙ ap (λ xs. xs ++ node.name)
    (c.in_ok-push.ensures.items ∙ ap (λ xs. xs ++ 32 ∷ []) (c.in_ok-extend_from_slice.ensures.items ∙ ap (λ xs. old ++ xs) c.conn_tag.ensures))))
    ∙ three_words old tag node.name way)
    ∙ ap (λ note. ended (noted (old ++ spaced (tag ∷ node.name ∷ way ∷ [])) note)) c.note.ensures
    ∙ noted_after old (spaced (tag ∷ node.name ∷ way ∷ [])) node.note
