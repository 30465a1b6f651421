use Rattle.std.proofs.Common.{◌≡◌, List, ℕ, Some, sym, ap, ◌∙◌}
use Rattle.std.specs.Str.{bytes_eq}
use Rattle.std.proofs.lemmas.Slice.Eq.{bytes_eq-Decides}
use Rattle.ver_module.specs.Netlists.{Net, net_name}
use Rattle.vg_change.specs.Named.{begins}
use Rattle.vg_change.proofs.BeginLemmas.{begins_whole, cut_is, name_behind, name_more, name_never}
use Rattle.vg_change.proofs.begins.begins_with.Goals as goal
use Rattle.vg_change.proofs.begins.begins_with.Goals.{then-starts_with-via-then-starts_with, then-starts_with-via-else-starts_with+then-is_named}

pub returns-then-starts_with : goal.returns-then-starts_with
returns-then-starts_with c =
    let base = c.net.inside.base.now in
    let name = c.args.net.now.name in
    let prefix = c.args.prefix.now in
    let named : net_name base c.net.inside.bit ≡ name = ap (λ (n : Net). n.name) c.net.view_is in
    elim c.then-starts_with.branch [
      | then-starts_with-via-then-starts_with w ↦
          sym (ap (λ (n : List ℕ). begins n prefix) (sym named) ∙ name_more base c.net.inside.bit prefix (sym c.starts_with.ensures.value ∙ w.if-starts_with.true))
      | then-starts_with-via-else-starts_with+then-is_named w ↦
          (let same = (bytes_eq-Decides name prefix).0 (sym w.is_named.ensures ∙ w.if-is_named.true) in
          sym (begins_whole name prefix ((bytes_eq-Decides prefix name).1 (sym same))))
    ]

pub returns-in-Some-strip_prefix : goal.returns-in-Some-strip_prefix
returns-in-Some-strip_prefix c =
    let base = c.net.inside.base.now in
    let prefix = c.args.prefix.now in
    let named : net_name base (Some c.in-Some.bit) ≡ c.args.net.now.name = sym (ap (net_name base) c.in-Some.is) ∙ ap (λ (n : Net). n.name) c.net.view_is in
    let cut = c.in-Some-strip_prefix.ensures.cases in
    c.bit_begins_with.ensures
    ∙ name_behind base c.in-Some.bit prefix c.in-Some-strip_prefix.rest.now (cut_is prefix base c.in-Some-strip_prefix.rest.now cut.0 cut.1)
    (ap (λ (n : List ℕ). bytes_eq n prefix) named ∙ sym c.is_named.ensures ∙ c.if-is_named.false)
    ∙ ap (λ (n : List ℕ). begins n prefix) named

pub returns-in-None : goal.returns-in-None
returns-in-None c =
    let base = c.net.inside.base.now in
    let prefix = c.args.prefix.now in
    let named : net_name base c.net.inside.bit ≡ c.args.net.now.name = ap (λ (n : Net). n.name) c.net.view_is in
    sym (ap (λ (n : List ℕ). begins n prefix) (sym named)
    ∙ name_never base c.net.inside.bit prefix (sym c.starts_with.ensures.value ∙ c.if-starts_with.false) c.in-None.ensures.cases)
