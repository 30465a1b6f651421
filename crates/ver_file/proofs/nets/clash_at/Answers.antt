use Rattle.std.proofs.Common.{◌≡◌, ◌<◌, ℕ, None, Some, [], get_or, length, map, sym, ap, subst, ◌∙◌, List, arith}
use Rattle.std.specs.Prelude.{slice_get}
use Rattle.std.proofs.lemmas.List.{get_or-map, length-map}
use Rattle.std.proofs.lemmas.Option.{slice_get-get_or, slice_get_within}
use Rattle.name_tables.proofs.NameTableLemmas.{known_of}
use Rattle.name_tables.specs.Distinct.{number_in, number_of}
use Rattle.ver_text.specs.declared.kind.Kind.TheVariants.{Module}
use Rattle.ver_syntax.specs.declared.row.Place.TheVariants.{Start}
use Rattle.ver_syntax.specs.declared.row.Row.{Row}
use Rattle.ver_module.specs.Names.{AreApart, IsOf, is_bit}
use Rattle.ver_module.specs.Netlists.{Net, NetTable, nets_in}
use Rattle.ver_module.specs.declared.net.Identifier.{Identifier}
use Rattle.ver_items.specs.Declarations.{declared_of, range_in}
use Rattle.ver_items.specs.Sections.{name_at}
use Rattle.ver_file.specs.Clashes.{FindsClash}
use Rattle.ver_file.specs.Nets.{nets_of, tokens_of_nets}
use Rattle.ver_file.specs.Said.{identifiers_of}
use Rattle.ver_file.specs.Tables.{IsNetTable, froms_of, identifier_at}
use Rattle.ver_file.proofs.ClashLemmas.{bit_later, identifier_there, known, no_bit, no_range, no_vector, scalar_later, some_range, token_missing, token_named}
use Rattle.ver_file.proofs.NetLemmas.{table_nets}
use Rattle.ver_file.proofs.nets.clash_at.Goals as goal

abbrev plain : Row
plain = record { place = Start; kind = Module; from = 0; to = 0 }

-- the first token of the identifier of a number
abbrev token : List ℕ → ℕ → Row
token text at = get_or (tokens_of_nets text) at plain

own_bit : (text : List ℕ) (t : Row) (nets : List Net) (name : List ℕ) (bit : ℕ) → nets ≡ nets_of text → name ≡ name_at text t → IsOf is_bit nets name bit
    → IsOf is_bit (nets_of text) (name_at text t) bit
own_bit text t nets name bit e f of = subst (λ ns. IsOf is_bit ns (name_at text t) bit) e (subst (λ n. IsOf is_bit nets n bit) f of)

back : (text : List ℕ) (t : Row) (nets : List Net) (name : List ℕ) (bit : ℕ) → nets ≡ nets_of text → name ≡ name_at text t
    → IsOf is_bit (nets_of text) (name_at text t) bit → IsOf is_bit nets name bit
back text t nets name bit e f of = subst (λ n. IsOf is_bit nets n bit) (sym f) (subst (λ ns. IsOf is_bit ns (name_at text t) bit) (sym e) of)

module _ (text : List ℕ) (table : NetTable) (froms : List ℕ) (is : IsNetTable text table) (same : froms ≡ froms_of text) (at : ℕ) (within : at < length froms) where
  token_low : at < length (tokens_of_nets text)
  token_low = omega (arith, within, ap length same, length-map (tokens_of_nets text) (λ (r : Row). r.from))

  there : slice_get (tokens_of_nets text) at ≡ Some (token text at)
  there = slice_get-get_or (tokens_of_nets text) at plain token_low

  -- the identifier and its name are in the table
  identifier_low : at < length table.identifiers
  identifier_low = omega (arith, token_low, ap length is.identifiers, length-map (tokens_of_nets text) (identifier_at text (declared_of text)))

  name_low : at < length table.names
  name_low = omega (arith, token_low, ap length is.names, length-map (tokens_of_nets text) (name_at text))

  named : (name : List ℕ) → name ≡ get_or table.names at [] → name ≡ name_at text (token text at)
  named name e = e ∙ ap (λ ns. get_or ns at []) is.names ∙ get_or-map (name_at text) (tokens_of_nets text) at plain [] token_low

  bounds : (found : Identifier) → slice_get table.identifiers at ≡ Some found → found.range ≡ range_in (declared_of text) (name_at text (token text at))
  bounds found e = ap (λ (i : Identifier). i.range) (identifier_there text table at (token text at) found is there e)

  -- where it begins
  first_at : (token text at).from ≡ get_or froms at 0
  first_at = sym (ap (λ fs. get_or fs at 0) same ∙ get_or-map (λ (r : Row). r.from) (tokens_of_nets text) at plain 0 token_low)

pub identifier-requires : goal.identifier-requires
identifier-requires c =
    identifier_low c.args.scope.now.text.now c.args.scope.now.nets.now c.args.froms.now c.requires.table c.requires.froms c.args.at c.requires.within

pub identifier_name-name-requires : goal.identifier_name-name-requires
identifier_name-name-requires c =
    name_low c.args.scope.now.text.now c.args.scope.now.nets.now c.args.froms.now c.requires.table c.requires.froms c.args.at c.requires.within

pub returns-then-is_some : goal.returns-then-is_some
returns-then-is_some c =
    let text = c.args.scope.now.text.now in
    let table = c.args.scope.now.nets.now in
    let froms = c.args.froms.now in
    let at = c.args.at in
    let apart = subst AreApart (table_nets text table c.requires.table) c.are_apart.ensures in
    let r = some_range c.identifier.result.range (sym c.is_some.ensures ∙ c.if-is_some.true) in
    let range = bounds text table froms c.requires.table c.requires.froms at c.requires.within c.identifier.result c.identifier.ensures in
    no_vector text apart at (token text at) (there text table froms c.requires.table c.requires.froms at c.requires.within) r.0 (sym range ∙ r.1)

pub returns-in_err-bit : goal.returns-in_err-bit
returns-in_err-bit c =
    let text = c.args.scope.now.text.now in
    let table = c.args.scope.now.nets.now in
    let froms = c.args.froms.now in
    let at = c.args.at in
    let nets = table_nets text table c.requires.table in
    let apart = subst AreApart nets c.are_apart.ensures in
    let name = named text table froms c.requires.table c.requires.froms at c.requires.within c.identifier_name-name.result.now c.identifier_name-name.ensures in
    rw c.from_residual.ensures
    (no_bit text apart at (token text at) (there text table froms c.requires.table c.requires.froms at c.requires.within)
    (λ id of. c.in_err-bit.ensures id (back text (token text at) (nets_in table) c.identifier_name-name.result.now id nets name of)))

pub returns-then-number-bit : goal.returns-then-number-bit
returns-then-number-bit c =
    let text = c.args.scope.now.text.now in
    let table = c.args.scope.now.nets.now in
    let froms = c.args.froms.now in
    let at = c.args.at in
    let t = token text at in
    let nets = table_nets text table c.requires.table in
    let apart = subst AreApart nets c.are_apart.ensures in
    let is_token = there text table froms c.requires.table c.requires.froms at c.requires.within in
    let range = bounds text table froms c.requires.table c.requires.froms at c.requires.within c.identifier.result c.identifier.ensures in
    let scalar : range_in (declared_of text) (name_at text t) ≡ None = sym range ∙ no_range c.identifier.result.range (sym c.is_some.ensures ∙ c.if-is_some.false) in
    let name = named text table froms c.requires.table c.requires.froms at c.requires.within c.identifier_name-name.result.now c.identifier_name-name.ensures in
    let of = own_bit text t (nets_in table) c.identifier_name-name.result.now c.in_ok-bit.bit nets name c.in_ok-bit.ensures.0 in
    let number : number_in (map (λ (n : Net). n.name) (nets_of text)) (name_at text t) ≡ c.number.result =
    (λ i. number_in (map (λ (n : Net). n.name) (sym nets i)) (sym name i)) ∙ sym c.number.ensures in
    let from = first_at text table froms c.requires.table c.requires.froms at c.requires.within in
    subst (λ place. FindsClash text at (Some place)) from (scalar_later text apart at t is_token scalar c.in_ok-bit.bit of (number ∙ c.if-number-bit.true))

pub get-requires : goal.get-requires
get-requires c = slice_get_within (nets_in c.args.scope.now.nets.now) c.in_ok-bit.bit c.in_ok-bit.ensures.0.net c.in_ok-bit.ensures.0.is

pub returns-in_err-vector : goal.returns-in_err-vector
returns-in_err-vector c =
    let text = c.args.scope.now.text.now in
    let table = c.args.scope.now.nets.now in
    let froms = c.args.froms.now in
    let at = c.args.at in
    let t = token text at in
    let nets = table_nets text table c.requires.table in
    let apart = subst AreApart nets c.are_apart.ensures in
    let is_token = there text table froms c.requires.table c.requires.froms at c.requires.within in
    let range = bounds text table froms c.requires.table c.requires.froms at c.requires.within c.identifier.result c.identifier.ensures in
    let scalar : range_in (declared_of text) (name_at text t) ≡ None = sym range ∙ no_range c.identifier.result.range (sym c.is_some.ensures ∙ c.if-is_some.false) in
    let name = named text table froms c.requires.table c.requires.froms at c.requires.within c.identifier_name-name.result.now c.identifier_name-name.ensures in
    let bit = c.in_ok-bit.bit in
    let of = own_bit text t (nets_in table) c.identifier_name-name.result.now bit nets name c.in_ok-bit.ensures.0 in
    let base = ap (λ (n : Net). n.base) c.get-2.view_is in
    let k = known text apart at t is_token scalar bit of c.get.result (ap (λ ns. slice_get ns bit) (sym nets) ∙ c.get.ensures) in
    absurd (token_missing text k.0 k.1 c.get-2.inside.base.now k.2 (k.3 ∙ sym base)
    (sym c.in_err-vector.was ∙ c.find_identifier.ensures ∙ ap (λ names. number_of names c.get-2.inside.base.now) c.requires.table.names))

-- the identifier that the bit is of
vector_low : (text : List ℕ) (froms : List ℕ) (v : ℕ) (base : List ℕ) → froms ≡ froms_of text → Some v ≡ number_of (identifiers_of text) base → v < length froms
vector_low text froms v base same found =
    omega (
      arith,
      (known_of (identifiers_of text) base v found).0,
      ap length same,
      length-map (tokens_of_nets text) (name_at text),
      length-map (tokens_of_nets text) (λ (r : Row). r.from),
    )

pub returns : goal.returns
returns c =
    let text = c.args.scope.now.text.now in
    let table = c.args.scope.now.nets.now in
    let froms = c.args.froms.now in
    let at = c.args.at in
    let t = token text at in
    let nets = table_nets text table c.requires.table in
    let apart = subst AreApart nets c.are_apart.ensures in
    let is_token = there text table froms c.requires.table c.requires.froms at c.requires.within in
    let range = bounds text table froms c.requires.table c.requires.froms at c.requires.within c.identifier.result c.identifier.ensures in
    let scalar : range_in (declared_of text) (name_at text t) ≡ None = sym range ∙ no_range c.identifier.result.range (sym c.is_some.ensures ∙ c.if-is_some.false) in
    let name = named text table froms c.requires.table c.requires.froms at c.requires.within c.identifier_name-name.result.now c.identifier_name-name.ensures in
    let bit = c.in_ok-bit.bit in
    let of = own_bit text t (nets_in table) c.identifier_name-name.result.now bit nets name c.in_ok-bit.ensures.0 in
    let number : number_in (map (λ (n : Net). n.name) (nets_of text)) (name_at text t) ≡ c.number.result =
    (λ i. number_in (map (λ (n : Net). n.name) (sym nets i)) (sym name i)) ∙ sym c.number.ensures in
    let base = ap (λ (n : Net). n.base) c.get-2.view_is in
    let v = c.in_ok-vector.vector in
    let found : Some v ≡ number_of (identifiers_of text) c.get-2.inside.base.now =
    sym c.in_ok-vector.was ∙ c.find_identifier.ensures ∙ ap (λ names. number_of names c.get-2.inside.base.now) c.requires.table.names in
    let low = vector_low text froms v c.get-2.inside.base.now c.requires.froms found in
    let is_vector = there text table froms c.requires.table c.requires.froms v low in
    let from = first_at text table froms c.requires.table c.requires.froms v low in
    subst (λ place. FindsClash text at (Some place)) from
    (bit_later text apart at t is_token scalar bit of (λ e. c.if-number-bit.false (sym number ∙ e)) v (token text v) c.get.result
    (ap (λ ns. slice_get ns bit) (sym nets) ∙ c.get.ensures)
    is_vector
    (token_named text v (token text v) c.get-2.inside.base.now is_vector found ∙ base))
