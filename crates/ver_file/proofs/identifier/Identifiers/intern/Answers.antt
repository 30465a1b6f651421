use Rattle.std.proofs.Common.{◌≡◌, ◌++◌, ◌∷◌, [], length, List, ℕ, refl, sym, ap, ◌∙◌, subst, get_or, ◌<◌}
use Rattle.std.specs.List.{list_any}
use Rattle.std.specs.Str.{bytes_eq}
use Rattle.name_tables.specs.Distinct.{number_in, with_name}
use Rattle.ver_module.proofs.NameLemmas.{none_before, numbered, one_before, with_new, with_old}
use Rattle.ver_file.specs.Tables.{identifier_at, most_uses}
use Rattle.ver_file.proofs.ReadLemmas.{count_more, one_use, read_new, read_old}
use Rattle.ver_file.proofs.SaidLemmas.{number_stays}
use Rattle.ver_file.proofs.identifier.Identifiers.intern.Goals as goal

pub returns-in_ok-push-3-clause-number : goal.returns-in_ok-push-3-clause-number
returns-in_ok-push-3-clause-number c =
    let name = c.name_at.result.now in
    (c.in_ok-id.ensures.number ∙ sym (number_stays c.args.self.now.names name))
    ∙ (λ i. number_in (sym c.in_ok-id.ensures.names i) (c.name_at.ensures i))

pub returns-in_ok-push-3-clause-within : goal.returns-in_ok-push-3-clause-within
returns-in_ok-push-3-clause-within c =
    let n = numbered c.args.self.now.names c.name_at.result.now in
    subst (λ (ns : List (List ℕ)). c.in_ok-id.id < length ns) (sym c.in_ok-id.ensures.names)
    (subst (λ (k : ℕ). k < length (with_name c.args.self.now.names c.name_at.result.now)) (sym c.in_ok-id.ensures.number) n.within)

pub returns-in_ok-push-3-clause-is : goal.returns-in_ok-push-3-clause-is
returns-in_ok-push-3-clause-is c =
    let n = numbered c.args.self.now.names c.name_at.result.now in
    (λ i. get_or (c.in_ok-id.ensures.names i) (c.in_ok-id.ensures.number i) []) ∙ n.is ∙ c.name_at.ensures

pub returns-in_ok-push-3-clause-count : goal.returns-in_ok-push-3-clause-count
returns-in_ok-push-3-clause-count c =
    let name = c.name_at.result.now in
    let none = none_before c.args.self.now.names name (sym c.in_ok-id.ensures.number ∙ c.if-at-count.true ∙ c.len-count.ensures) in
    count_more c.args.self.now (record { names = c.name_number.new.names; all = c.push.new.self; declared = c.push-then-at-count.new.self; froms = c.push-then-at-count-2.new.self; uses = c.keep_use.new.uses }) name c.undeclared.result c.requires.count (c.in_ok-id.ensures.names ∙ with_new c.args.self.now.names name none)
    c.in_ok-push.ensures.items c.in_ok-push-2.ensures.items

pub returns-in_ok-push-3-clause-read : goal.returns-in_ok-push-3-clause-read
returns-in_ok-push-3-clause-read c = λ left ds h.
    let name = c.name_at.result.now in
    let none = none_before c.args.self.now.names name (sym c.in_ok-id.ensures.number ∙ c.if-at-count.true ∙ c.len-count.ensures) in
    let all : c.push.new.self.items ≡ c.args.self.now.all.items ++ identifier_at c.args.text.now [] c.args.row ∷ [] =
    c.in_ok-push.ensures.items ∙ (λ i. c.args.self.now.all.items ++ c.undeclared.ensures i ∷ []) in
    read_new c.args.text.now c.args.row left ds c.args.self.now (record { names = c.name_number.new.names; all = c.push.new.self; declared = c.push-then-at-count.new.self; froms = c.push-then-at-count-2.new.self; uses = c.keep_use.new.uses }) h
    c.requires.name (ap (λ n. list_any (bytes_eq n) c.args.self.now.names) (sym c.name_at.ensures) ∙ none)
    (c.in_ok-id.ensures.names ∙ ap (with_name c.args.self.now.names) c.name_at.ensures)
    all c.in_ok-push-2.ensures.items c.in_ok-push-3.ensures.items
    (record { from = c.args.row.from; to = c.args.row.to; id = c.in_ok-id.id }) (one_use (most_uses (length c.args.text.now)) (record { from = c.args.row.from; to = c.args.row.to; id = c.in_ok-id.id }) c.args.self.now.uses.items c.keep_use.new.uses.items c.in_ok-keep_use.ensures) refl refl
    (c.in_ok-id.ensures.number ∙ ap (number_in c.args.self.now.names) c.name_at.ensures)

pub returns-else-at-count-clause-within : goal.returns-else-at-count-clause-within
returns-else-at-count-clause-within c =
    let n = numbered c.args.self.now.names c.name_at.result.now in
    subst (λ (ns : List (List ℕ)). c.in_ok-id.id < length ns) (sym c.in_ok-id.ensures.names)
    (subst (λ (k : ℕ). k < length (with_name c.args.self.now.names c.name_at.result.now)) (sym c.in_ok-id.ensures.number) n.within)

pub returns-else-at-count-clause-is : goal.returns-else-at-count-clause-is
returns-else-at-count-clause-is c =
    let n = numbered c.args.self.now.names c.name_at.result.now in
    (λ i. get_or (c.in_ok-id.ensures.names i) (c.in_ok-id.ensures.number i) []) ∙ n.is ∙ c.name_at.ensures

pub returns-else-at-count-clause-count : goal.returns-else-at-count-clause-count
returns-else-at-count-clause-count c =
    let name = c.name_at.result.now in
    let some = one_before c.args.self.now.names name (λ e. c.if-at-count.false (c.in_ok-id.ensures.number ∙ e ∙ sym c.len-count.ensures)) in
    let same : length c.args.self.now.names ≡ length c.name_number.new.names = ap length (sym (c.in_ok-id.ensures.names ∙ with_old c.args.self.now.names name some)) in
    record { all = c.requires.count.all ∙ same; declared = c.requires.count.declared ∙ same }

pub returns-else-at-count-clause-read : goal.returns-else-at-count-clause-read
returns-else-at-count-clause-read c = λ left ds h.
    let name = c.name_at.result.now in
    let some = one_before c.args.self.now.names name (λ e. c.if-at-count.false (c.in_ok-id.ensures.number ∙ e ∙ sym c.len-count.ensures)) in
    read_old c.args.text.now c.args.row left ds c.args.self.now
    (record c.args.self.now { names = c.name_number.new.names; uses = c.keep_use.new.uses }) h
    c.requires.name (ap (λ n. list_any (bytes_eq n) c.args.self.now.names) (sym c.name_at.ensures) ∙ some)
    (c.in_ok-id.ensures.names ∙ ap (with_name c.args.self.now.names) c.name_at.ensures) refl refl refl
    (record { from = c.args.row.from; to = c.args.row.to; id = c.in_ok-id.id }) (one_use (most_uses (length c.args.text.now)) (record { from = c.args.row.from; to = c.args.row.to; id = c.in_ok-id.id }) c.args.self.now.uses.items c.keep_use.new.uses.items c.in_ok-keep_use.ensures) refl refl
    (c.in_ok-id.ensures.number ∙ ap (number_in c.args.self.now.names) c.name_at.ensures)
