use Rattle.std.proofs.Common.{◌≡◌, ◌≢◌, ◌<◌, ℕ, [], ◌∷◌, ◌++◌, List, length, get_or, ap, ◌∙◌, sym, subst, None, arith, take, ◌-◌}
use Rattle.name_tables.specs.Distinct.{number_of}
use Rattle.name_tables.specs.Hashes.{hash_of}
use Rattle.name_tables.specs.OrderedRows.{row_kept}
use Rattle.name_tables.specs.NameTables.{IsTable}
use Rattle.name_tables.proofs.NameTableLemmas.{known_of, absent_of, number_known, with_known, with_new, no_place, not_at, table_more, table_same, without_last}
use Rattle.name_tables.proofs.FiledLemmas.{filed_count}
use Rattle.name_tables.proofs.names.Names.intern.Goals as goal

pub returns-in-Some-clause-number : goal.returns-in-Some-clause-number
returns-in-Some-clause-number c = number_known c.args.self.now c.args.name.now c.in-Some.id c.in-Some.ensures

pub returns-in-Some-clause-names : goal.returns-in-Some-clause-names
returns-in-Some-clause-names c =
    let there = known_of c.args.self.now c.args.name.now c.in-Some.id c.in-Some.ensures in
    with_known c.args.self.now c.args.name.now c.in-Some.id there.0 there.1

pub push-requires-2-clause-few : goal.push-requires-2-clause-few
push-requires-2-clause-few c =
    let names : c.self.inside.texts ≡ c.args.self.now = c.self.view_is in
    let rows = c.make_room.new.rows in
    omega (arith, filed_count hash_of (row_kept rows.ordered) c.self.inside.texts rows.chains c.make_room.ensures.table.filed, ap length names, c.requires)

absent : (texts names : List (List ℕ)) (name : List ℕ) → texts ≡ names → None ≡ number_of names name → (row : ℕ) → row < length texts → get_or texts row [] ≢ name
absent texts names name e none = absent_of texts name (none ∙ ap (λ (ns : List (List ℕ)). number_of ns name) (sym e))

pub invariant_of-self-in-Ok : goal.invariant_of-self-in-Ok
invariant_of-self-in-Ok c =
    let texts = c.self.inside.texts in
    let none = absent texts c.args.self.now c.args.name.now c.self.view_is c.in_default.ensures in
    let table = c.make_room.ensures.table in
    subst (λ (ts : List (List ℕ)). IsTable ts c.push-2.new.self) (sym c.in_ok-push.ensures.last)
    (table_more texts c.args.name.now c.make_room.new.rows c.push-2.new.self table (c.in-Ok.ensures.last texts table.filed (not_at texts c.args.name.now none)) c.push-2.ensures.buckets c.in_ok-make_room.ensures.more none)

popped : (texts longer shorter : List (List ℕ)) (name : List ℕ) → longer ≡ texts ++ name ∷ [] → shorter ≡ take (length longer - 1) longer → shorter ≡ texts
popped texts longer shorter name push pop = pop ∙ ap (λ (ts : List (List ℕ)). take (length ts - 1) ts) push ∙ without_last texts name

pub invariant_of-self-in-Err : goal.invariant_of-self-in-Err
invariant_of-self-in-Err c =
    let texts = c.self.inside.texts in
    let table = c.make_room.ensures.table in
    let back : c.pop.new.self ≡ texts = popped texts c.push.new.self c.pop.new.self c.args.name.now c.in_ok-push.ensures.last c.pop.ensures in
    subst (λ (ts : List (List ℕ)). IsTable ts c.push-2.new.self) (sym back)
    (table_same texts c.make_room.new.rows c.push-2.new.self table (c.in-Err.ensures.unchanged texts table.filed) c.push-2.ensures.buckets)

pub returns-in-Err-clause-unchanged : goal.returns-in-Err-clause-unchanged
returns-in-Err-clause-unchanged c = popped c.self.inside.texts c.push.new.self c.pop.new.self c.args.name.now c.in_ok-push.ensures.last c.pop.ensures ∙ c.self.view_is

pub returns-in-Ok-clause-number : goal.returns-in-Ok-clause-number
returns-in-Ok-clause-number c =
    let no = no_place c.args.self.now c.args.name.now (absent_of c.args.self.now c.args.name.now c.in_default.ensures) in
    let count : c.len-id.result ≡ length c.args.self.now = omega (arith, c.len-id.ensures, ap length c.self.view_is) in
    count ∙ sym no

pub returns-in-Ok-clause-names : goal.returns-in-Ok-clause-names
returns-in-Ok-clause-names c =
    c.in_ok-push.ensures.last ∙ ap (λ (ns : List (List ℕ)). ns ++ c.args.name.now ∷ []) c.self.view_is ∙ sym (with_new c.args.self.now c.args.name.now (absent_of c.args.self.now c.args.name.now c.in_default.ensures))
